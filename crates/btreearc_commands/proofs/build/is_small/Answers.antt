-- So few entries have an archive.
use Rattle.std.proofs.Common.{arith}
use Rattle.std.proofs.lemmas.Bool.{leb-true}
use Rattle.btreearc_commands.proofs.SmallCounts.{few_have_archives}
use Rattle.btreearc_commands.proofs.build.is_small.Goals as goal

pub returns : goal.returns
returns c = λ small heading entries number. few_have_archives heading entries (omega (arith, leb-true c.args.count 150000000 small, number))
