-- The file of the map is that of its entries.
use Rattle.std.proofs.Common.{List, inr, subst}
use Rattle.btreekv_commands.specs.Building.{IsBuiltMap, IsUnbuiltMap}
use Rattle.btreekv_commands.specs.Lines.{Entry}
use Rattle.btreekv_commands.proofs.building.sorted_archive.Goals as goal

pub returns-in-Ok-clause-ok : goal.returns-in-Ok-clause-ok
returns-in-Ok-clause-ok c = subst (λ (es : List Entry). IsBuiltMap c.args.heading c.in-Ok.bytes.items es) c.in_ok-map.ensures.ok c.in-Ok.ensures.ok

pub returns-clause-err : goal.returns-clause-err
returns-clause-err c = inr (subst (λ (es : List Entry). IsUnbuiltMap c.args.heading es c.in-Err.fault) c.in_ok-map.ensures.ok c.in-Err.ensures.err)
