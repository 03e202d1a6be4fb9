use Rattle.std.proofs.Common.{◌≡◌, ◌+◌, ◌*◌, ◌-◌, ◌≤◌, length, map, take, drop, vec_capacity}
use Rattle.rkyv_btree_format.specs.Layout.{layout_of}
use Rattle.rkyv_btree_shape.specs.Plan.{planned_alone, row_plan}
use Rattle.rkyv_btree_archive.specs.mirror.Scratch.{IsFree}
use Rattle.rkyv_btree_writing_laws.specs.Entries.{now_of}
use Rattle.bench_recursion.proofs.RowsWritten.{RowSoFar}
use Rattle.bench_recursion.proofs.tree.+write_child.Given as goal

abbrev pub decreases-write_child : goal.decreases-write_child
decreases-write_child g l = length l.items.now

abbrev pub invariant-loop-left : goal.invariant-loop-left
invariant-loop-left g l =
    let E = g.row.E in
    record {
      row : RowSoFar (layout_of g.K.Portable.kind g.V.Portable.kind E) g.KU.Archive.archival g.VU.Archive.archival g.row.W-Error.Denot
          (row_plan (planned_alone E) l.base (E * l.base) E (length l.items + 1 - l.base * (E + 1)) (map now_of l.items)) (g.W.Writer.state l.fn.writer)
          (row_plan (planned_alone E) l.base (E * l.base) l.left l.on_last (map now_of (drop l.start l.items))) (g.W.Writer.state l.writer)
          (map now_of (drop l.first l.waiting.items)) (drop l.first_child l.children.items);
      left : l.left ≤ E;
      rest : length l.items + 1 ≡ l.start + ((l.left + 1) * l.base + l.on_last);
      on_last : l.on_last ≤ (l.left + 1) * (E * l.base);
      passed : E ≤ l.start + l.left;
      waiting : take l.first l.waiting.items ≡ l.fn.waiting.items;
      children : take l.first_child l.children.items ≡ l.fn.children.items;
      waiting_count : length l.waiting.items + l.left ≡ l.first + E;
      child_count : length l.children.items + l.left ≡ l.first_child + E;
      free : IsFree (layout_of g.K.Portable.kind g.V.Portable.kind E) l.scratch;
      waiting_room : vec_capacity l.fn.waiting ≤ vec_capacity l.waiting;
      child_room : vec_capacity l.fn.children ≤ vec_capacity l.children;
    }

abbrev pub decreases-loop-left : goal.decreases-loop-left
decreases-loop-left g l = l.left
