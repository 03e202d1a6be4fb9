-- A source that isn't opened has another header, is too long, or it failed.
use Rattle.btreekv_commands.proofs.LookedUp.{gives_unopened, unopened_misheaded}
use Rattle.btreekv_commands.proofs.sourced.value_in.Goals as goal

pub returns-in-Err-clause-value : goal.returns-in-Err-clause-value
returns-in-Err-clause-value g c b known fit = gives_unopened b c.args.key.now c.in-Err.fault fit (c.in-Err.ensures.refused b known)

pub returns-in-Err-clause-misheaded : goal.returns-in-Err-clause-misheaded
returns-in-Err-clause-misheaded g c b known = unopened_misheaded b c.in-Err.fault (c.in-Err.ensures.refused b known)
