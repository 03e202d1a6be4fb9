use Rattle.std.proofs.Common.{◌-◌, ◌≤◌, length, map, None, inl, refl, subst, arith}
use Rattle.std.proofs.lemmas.List.{length-map}
use Rattle.std.specs.Iterator.{size, Yields, YieldsThen}
use Rattle.std.proofs.lemmas.Result.{err_from_is_err_and}
use Rattle.rkyv_btree_format.specs.Layout.{layout_of}
use Rattle.rkyv_btree_format.proofs.Sizes.{room_of}
use Rattle.rkyv_btree_writing_laws.specs.Serialising.{meaning_of, Built}
use Rattle.rkyv_btree_writing_laws.specs.Entries.{both_borrowed}
use Rattle.rkyv_btree_shape.specs.Plan.{planned_alone}
use Rattle.rkyv_btree_writing_laws.proofs.Kept.{same_begins}
use Rattle.rkyv_btree_writing_laws.proofs.TreesKept.{child_begins, child_went}
use Rattle.rkyv_btree_writing_laws.proofs.Building.{miscounted_of, meaning_is, spelled_of}
use Rattle.rkyv_btree_archive.specs.mirror.Source.{Gives, key_of}
use Rattle.rkyv_btree_archive.proofs.WholeTree.{IsClaim, whole_written, whole_fault, whole_memory, whole_kept}
use Rattle.rkyv_btree_archive.proofs.build.build_some.Goals as goal

pub returns-in_default-clause-err : goal.returns-in_default-clause-err
returns-in_default-clause-err g c = record { cause = inl refl; kept = same_begins (g.W.Writer.state c.args.writer.now) (g.W.Writer.state c.args.writer.now) refl; memory = λ keys values memory. refl }

pub returns-in_err-root-clause-err : goal.returns-in_err-root-clause-err
returns-in_err-root-clause-err g c =
    let room = room_of g.K.Portable.kind g.V.Portable.kind g.row.E g.met.K.Portable.laws g.met.V.Portable.laws c.requires.fitting in
    let of = c.levels_of-above.ensures in
    let is : IsClaim g.row.E c.levels_of-above.result.0 c.levels_of-above.result.1 c.args.len = record { some = room.some; levels = of.above; all = omega (arith, of.last); last = of.some; most_last = of.most } in
    let p = err_from_is_err_and c.from_residual.result c.from_residual.ensures.1 in
    rw (p.1, p.2) (record {
      cause = whole_fault g.K.Portable.kind g.V.Portable.kind g.row.E g.KU.Archive.archival g.VU.Archive.archival (both_borrowed g.BKU.Borrow.borrowed g.BVU.Borrow.borrowed) (Gives g.I.Iterator.next_gives g.L.Look.passes g.L.Look.stops) c.levels_of-above.result.0 c.levels_of-above.result.1 c.args.len is (c.args.source.now, None) (g.W.Writer.state c.args.writer.now) c.in_err-root.field-0.0 (c.write_tree.new.source, None) (g.W.Writer.state c.write_tree.new.writer) c.in_err-root.ensures.err;
      kept = whole_kept g.K.Portable.kind g.V.Portable.kind g.row.E g.KU.Archive.archival g.VU.Archive.archival (both_borrowed g.BKU.Borrow.borrowed g.BVU.Borrow.borrowed) (Gives g.I.Iterator.next_gives g.L.Look.passes g.L.Look.stops) c.levels_of-above.result.0 c.levels_of-above.result.1 c.args.len is (c.args.source.now, None) (g.W.Writer.state c.args.writer.now) c.in_err-root.field-0.0 (c.write_tree.new.source, None) (g.W.Writer.state c.write_tree.new.writer) c.in_err-root.ensures.err;
      memory = λ keys values memory. whole_memory g.K.Portable.kind g.V.Portable.kind g.row.E g.KU.Archive.archival g.VU.Archive.archival (both_borrowed g.BKU.Borrow.borrowed g.BVU.Borrow.borrowed) (Gives g.I.Iterator.next_gives g.L.Look.passes g.L.Look.stops) c.levels_of-above.result.0 c.levels_of-above.result.1 c.args.len is g.row.W-Error.Denot (c.args.source.now, None) (g.W.Writer.state c.args.writer.now) c.in_err-root.field-0.0 (c.write_tree.new.source, None) (g.W.Writer.state c.write_tree.new.writer) memory keys values c.in_err-root.ensures.err;
    })

pub returns-in-Err-clause-err : goal.returns-in-Err-clause-err
returns-in-Err-clause-err g c =
    let room = room_of g.K.Portable.kind g.V.Portable.kind g.row.E g.met.K.Portable.laws g.met.V.Portable.laws c.requires.fitting in
    let of = c.levels_of-above.ensures in
    let is : IsClaim g.row.E c.levels_of-above.result.0 c.levels_of-above.result.1 c.args.len = record { some = room.some; levels = of.above; all = omega (arith, of.last); last = of.some; most_last = of.most } in
    let w = c.in_ok-root.ensures.ok in
    let whole = whole_written g.K.Portable.kind g.V.Portable.kind g.row.E g.KU.Archive.archival g.VU.Archive.archival (both_borrowed g.BKU.Borrow.borrowed g.BVU.Borrow.borrowed) (Gives g.I.Iterator.next_gives g.L.Look.passes g.L.Look.stops) c.levels_of-above.result.0 c.levels_of-above.result.1 c.args.len is (c.args.source.now, None) (g.W.Writer.state c.args.writer.now) c.in_ok-root.field-0.root (c.write_tree.new.source, key_of c.in_ok-root.field-0.last) (g.W.Writer.state c.write_tree.new.writer) w in
    let left = c.in-Err.ensures.actual in
    record {
      cause = rw (c.in-Err.ensures.expected, left.2) (miscounted_of g.K.Portable.kind g.V.Portable.kind g.row.E g.KU.Archive.archival g.VU.Archive.archival (both_borrowed g.BKU.Borrow.borrowed g.BVU.Borrow.borrowed) (Gives g.I.Iterator.next_gives g.L.Look.passes g.L.Look.stops) (c.args.source.now, None) c.args.len (length left.0) (g.W.Writer.state c.args.writer.now) (g.W.Writer.state c.write_tree.new.writer) w.items (c.write_tree.new.source, key_of c.in_ok-root.field-0.last) left.0 (c.none_left.new.source, None) c.in_ok-root.field-0.root w.taken left.1 refl (omega (arith, left.2, c.in-Err.ensures.more)) whole.0 whole.1);
      kept = child_begins (layout_of g.K.Portable.kind g.V.Portable.kind g.row.E) g.KU.Archive.archival g.VU.Archive.archival (g.W.Writer.state c.args.writer.now) (planned_alone g.row.E (map (both_borrowed g.BKU.Borrow.borrowed g.BVU.Borrow.borrowed) w.items)) c.in_ok-root.field-0.root (g.W.Writer.state c.write_tree.new.writer) whole.1;
      memory = λ keys values memory. cc (memory);
    }

pub returns-clause-ok : goal.returns-clause-ok
returns-clause-ok g c =
    let room = room_of g.K.Portable.kind g.V.Portable.kind g.row.E g.met.K.Portable.laws g.met.V.Portable.laws c.requires.fitting in
    let of = c.levels_of-above.ensures in
    let is : IsClaim g.row.E c.levels_of-above.result.0 c.levels_of-above.result.1 c.args.len = record { some = room.some; levels = of.above; all = omega (arith, of.last); last = of.some; most_last = of.most } in
    let w = c.in_ok-root.ensures.ok in
    let whole = whole_written g.K.Portable.kind g.V.Portable.kind g.row.E g.KU.Archive.archival g.VU.Archive.archival (both_borrowed g.BKU.Borrow.borrowed g.BVU.Borrow.borrowed) (Gives g.I.Iterator.next_gives g.L.Look.passes g.L.Look.stops) c.levels_of-above.result.0 c.levels_of-above.result.1 c.args.len is (c.args.source.now, None) (g.W.Writer.state c.args.writer.now) c.in_ok-root.field-0.root (c.write_tree.new.source, key_of c.in_ok-root.field-0.last) (g.W.Writer.state c.write_tree.new.writer) w in
    let K = g.K.Portable.kind in
    let V = g.V.Portable.kind in
    let E = g.row.E in
    let from = (g.W.Writer.state c.args.writer.now) in
    let to = (g.W.Writer.state c.write_tree.new.writer) in
    let steps = (Gives g.I.Iterator.next_gives g.L.Look.passes g.L.Look.stops) in
    let items = w.items in
    let n = length-map items ((both_borrowed g.BKU.Borrow.borrowed g.BVU.Borrow.borrowed)) in
    let built : Built (layout_of K V E) g.KU.Archive.archival g.VU.Archive.archival from (map (both_borrowed g.BKU.Borrow.borrowed g.BVU.Borrow.borrowed) items) c.unwrap_or.result to = record {
      place = c.in_ok-root.field-0.root;
      written = whole.1;
      root_is = c.unwrap_or.ensures;
      ends = λ some. c.in_ok-root.ensures.last;
    } in
    let end = c.in_default-none_left.ensures.ok in
    let all : YieldsThen steps (c.args.source.now, None) items None (c.none_left.new.source, None) =
    (end.0, subst (λ z. Yields steps (c.args.source.now, None) items z) end.1 w.taken, end.2) in
    record {
      built = (
        record {
          items = items;
          all = ((c.none_left.new.source, None), all);
          count = whole.0;
          built = built;
          spelled = λ some key value. spelled_of K V E g.met.K.Portable.laws g.met.V.Portable.laws c.requires.fitting g.KU.Archive.archival g.VU.Archive.archival key value g.met.KU.Archive.archived g.met.VU.Archive.archived from (map (both_borrowed g.BKU.Borrow.borrowed g.BVU.Borrow.borrowed) items) (map (meaning_of K V g.KU.Archive.archival g.VU.Archive.archival (both_borrowed g.BKU.Borrow.borrowed g.BVU.Borrow.borrowed) key value) items) c.unwrap_or.result to
              (meaning_is K V E g.met.K.Portable.laws g.met.V.Portable.laws c.requires.fitting g.KU.Archive.archival g.VU.Archive.archival key value g.met.KU.Archive.archived g.met.VU.Archive.archived (both_borrowed g.BKU.Borrow.borrowed g.BVU.Borrow.borrowed) items)
              (omega (arith, n, whole.0, some)) (omega (arith, n, whole.0, c.requires.small)) built;
        },
        refl,
      );
      last = λ some. c.in_ok-root.ensures.last;
      went = child_went (layout_of g.K.Portable.kind g.V.Portable.kind g.row.E) g.KU.Archive.archival g.VU.Archive.archival (g.W.Writer.state c.args.writer.now) (planned_alone g.row.E (map (both_borrowed g.BKU.Borrow.borrowed g.BVU.Borrow.borrowed) w.items)) c.in_ok-root.field-0.root (g.W.Writer.state c.write_tree.new.writer) whole.1;
    }

pub levels_of-above-requires-clause-entries : goal.levels_of-above-requires-clause-entries
levels_of-above-requires-clause-entries g c = (room_of g.K.Portable.kind g.V.Portable.kind g.row.E g.met.K.Portable.laws g.met.V.Portable.laws c.requires.fitting).some

pub levels_of-above-requires-clause-small : goal.levels_of-above-requires-clause-small
levels_of-above-requires-clause-small g c = (room_of g.K.Portable.kind g.V.Portable.kind g.row.E g.met.K.Portable.laws g.met.V.Portable.laws c.requires.fitting).entries

pub none_left-requires : goal.none_left-requires
none_left-requires g c =
    let can = c.in_ok-root.ensures.can in
    let ends = c.in_ok-root.ensures.ends in
    let few : size (g.I.Iterator.remaining c.write_tree.new.source.items) ≤ 18446744073709551615 - c.args.len = omega (arith, c.in_ok-root.ensures.left, c.requires.ends.1) in
    record { can = can; ends = (ends, few) }
