-- The lines of figures are their output.
use Rattle.btreekv_commands.proofs.program.output_of.Goals as goal

pub returns-in_ok-stat-in-Stat-clause-ok : goal.returns-in_ok-stat-in-Stat-clause-ok
returns-in_ok-stat-in-Stat-clause-ok c = rw (c.in-Stat.is, c.into_bytes-in-Stat.ensures.value) c.in_ok-stat-in-Stat.ensures.ok
