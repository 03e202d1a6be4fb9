-- One entry more.
use Rattle.std.proofs.Common.{List, take, subst, sym, arith}
use Rattle.std.proofs.lemmas.List.{take_more_set, length-set}
use Rattle.rkyv_btree_ffi.specs.Batches.{AreShown}
use Rattle.rkyv_btree_ffi.specs.declared.item.BtreeEntry.{BtreeEntry}
use Rattle.rkyv_btree_format.specs.Layout.{layout_of}
use Rattle.rkyv_btree_walk.specs.EntryPlaces.{place_of}
use Rattle.rkyv_btree_walk.specs.WalkBetween.{range_left}
use Rattle.rkyv_btree_ffi.proofs.Shown.{shown_more}
use Rattle.rkyv_btree_ffi.proofs.reading.fill.Goals as goal

pub entries-preserved : goal.entries-preserved
entries-preserved g c =
    let K = g.K.Portable.kind in
    let V = g.V.Portable.kind in
    let b = c.args.buf.now in
    let h = c.entries.invariant in
    let more = take_more_set c.entries.out c.entries.written c.entry_of.result c.entries-test.true in
    let shown = shown_more K V g.K.Shown.ShowsAt g.V.Shown.ShowsAt b _ (take c.entries.written c.entries.out) _ c.entry_of.result (place_of c.in-Some.place) (range_left (layout_of K V 5) b c.step_before.new.walk)
    h.shown c.in-Some.ensures.takes (record { key = c.entry_of.ensures.key; value = c.entry_of.ensures.value }) in
    record {
      walks = c.step_before.ensures.walks;
      room = omega (arith, length-set c.entries.out c.entries.written c.entry_of.result);
      size = omega (arith, length-set c.entries.out c.entries.written c.entry_of.result, h.size);
      shown = subst (λ (es : List BtreeEntry). AreShown K V g.K.Shown.ShowsAt g.V.Shown.ShowsAt b (range_left (layout_of K V 5) b c.args.walk.now) es (range_left (layout_of K V 5) b c.step_before.new.walk)) (sym more) shown;
    }
