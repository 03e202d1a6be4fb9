-- With what is left the list comes to what the whole array gives.
use Rattle.std.proofs.Common.{◌≡◌, ◌≤◌, length, map}
use Rattle.rkyv_btree_compound.proofs.ArrayElements.{rest_read}
use Rattle.rkyv_btree_compound.specs.Elements.{elements_read}
use Rattle.rkyv_btree_convert.proofs.VectorsMade.{Come}
use Rattle.rkyv_btree_convert.specs.Deserializing.{all}
use Rattle.rkyv_btree_convert.proofs.native_array.ArchivedArrayDeserializeArray.deserialize.Given as goal

abbrev pub invariant-loop-i : goal.invariant-loop-i
invariant-loop-i g l = record {
  so_far :
      Come g.met.T.Deserialize.by_meaning.of_value (map g.T.Deserialize.model l.natives.items) (rest_read g.T.Portable.kind l.view.buf.now g.row.N l.view.pos l.i)
      ≡ all (map g.met.T.Deserialize.by_meaning.of_value (elements_read g.T.Portable.kind l.view.buf.now g.row.N l.view.pos));
  count : length l.natives.items ≡ l.i;
  within : l.i ≤ g.row.N;
}
