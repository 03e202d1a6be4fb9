use Rattle.rkyv_btree_writing_laws.specs.Entries.{both_borrowed}
use Rattle.std.proofs.Common.{◌+◌, ◌*◌, ◌-◌, ◌≤◌, None, length, vec_capacity}
use Rattle.std.specs.Iterator.{IsFinite, size}
use Rattle.rkyv_btree_format.specs.Layout.{layout_of}
use Rattle.rkyv_btree_archive.specs.mirror.Scratch.{IsFree}
use Rattle.rkyv_btree_archive.specs.mirror.Source.{Gives, last_taken}
use Rattle.rkyv_btree_archive.proofs.Stands.{Stands}
use Rattle.rkyv_btree_writer.specs.Writing.{position, last_end}
use Rattle.rkyv_btree_archive.proofs.tree.write_tree.Given as goal

abbrev pub invariant-loop-first : goal.invariant-loop-first
invariant-loop-first g l =
    let E = g.row.E in
    record {
      stands : Stands (layout_of g.K.Portable.kind g.V.Portable.kind E) g.KU.Archive.archival g.VU.Archive.archival (both_borrowed g.BKU.Borrow.borrowed g.BVU.Borrow.borrowed) (Gives g.I.Iterator.next_gives g.L.Look.passes g.L.Look.stops) l.above l.fn.on_last (l.fn.source, None) (g.W.Writer.state l.fn.writer)
          l.levels l.left l.taken l.waiting.items l.children.items l.starts.items l.child (l.source, last_taken l.waiting.items l.leaf.items) (g.W.Writer.state l.writer);
      free : IsFree (layout_of g.K.Portable.kind g.V.Portable.kind E) l.scratch;
      waiting_room : E * l.above ≤ vec_capacity l.waiting;
      child_room : E * l.above ≤ vec_capacity l.children;
      start_room : l.above ≤ vec_capacity l.starts;
      leaf_room : E ≤ vec_capacity l.leaf;
      can : g.I.Iterator.can_next l.source.items;
      ends : IsFinite (g.I.Iterator.remaining l.source.items);
      sized : size (g.I.Iterator.remaining l.source.items) + l.taken ≤ size (g.I.Iterator.remaining l.fn.source.items);
      last : position (g.W.Writer.state l.writer) ≤ last_end;
    }

abbrev pub decreases-loop-first : goal.decreases-loop-first
decreases-loop-first g l = (l.claim - l.taken) * (l.above + 1) + length l.starts.items
