use Rattle.std.proofs.Common.{◌≡◌, ◌≤◌, length, map, drop, vec_capacity}
use Rattle.rkyv_btree_writing_laws.specs.Entries.{both_borrowed}
use Rattle.rkyv_btree_writing_laws.proofs.InOrder.{SerialisedSoFar}
use Rattle.rkyv_btree_archive.proofs.entries.serialize_entries.Given as goal

abbrev pub invariant-loop-entry : goal.invariant-loop-entry
invariant-loop-entry g l = record {
  so_far : SerialisedSoFar g.row.W-Error.Denot g.KU.Archive.archival g.VU.Archive.archival (g.W.Writer.state l.fn.writer) (map (both_borrowed g.BKU.Borrow.borrowed g.BVU.Borrow.borrowed) l.entries) (g.W.Writer.state l.writer) (map (both_borrowed g.BKU.Borrow.borrowed g.BVU.Borrow.borrowed) (drop l.entry-index l.entries)) l.keys.items l.values.items;
  keys : length l.keys.items ≡ l.entry-index;
  values : length l.values.items ≡ l.entry-index;
  key_room : vec_capacity l.fn.keys ≤ vec_capacity l.keys;
  value_room : vec_capacity l.fn.values ≤ vec_capacity l.values;
}
