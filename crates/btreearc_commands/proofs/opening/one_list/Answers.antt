use Rattle.rkyv_btree_portable.specs.Scalars.{u32_kind}
use Rattle.rkyv_btree_portable.specs.laws.Scalars.{u32_laws}
use Rattle.rkyv_btree_format.proofs.Unique.{map_unique}
use Rattle.btreearc_commands.specs.Opening.{root_of}
use Rattle.btreearc_commands.proofs.opening.one_list.Goals as goal

pub returns : goal.returns
returns c = λ b entries others one other.
    (map_unique u32_kind u32_kind 5 b u32_laws.one_meaning u32_laws.one_meaning 0 (root_of b) (root_of b) one.0 other.0 entries others one.1 other.1).1
