-- The elements that remain of an iterator over a vector.
use Rattle.std.specs.Prelude.{List, drop}
use Rattle.rkyv_btree_compound.specs.Vectors.{vector_read}
use Rattle.rkyv_btree_compound.specs.declared.vec_iter.VecIter.{VecIter}
use Rattle.rkyv_btree_portable.specs.declared.check.Portable

abbrev pub elements_left : {T : Type 0} {t : Portable.Ghosts T} → VecIter T t → List t.kind.Value
elements_left {t} s = drop s.next (vector_read t.kind s.buf.now s.pos)
