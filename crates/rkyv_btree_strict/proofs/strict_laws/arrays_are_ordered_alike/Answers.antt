-- Arrays are ordered alike where their elements are.
use Rattle.rkyv_btree_convert.specs.laws.Arrays.{arrays_ordered}
use Rattle.rkyv_btree_strict.proofs.strict_laws.arrays_are_ordered_alike.Goals as goal

pub returns : goal.returns
returns g c value alike = arrays_ordered value g.T.Portable.kind.order alike
