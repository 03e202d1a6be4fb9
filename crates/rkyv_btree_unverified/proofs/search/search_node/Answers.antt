-- A node that passes is searched as in a map that was checked, and its children pass.
use Rattle.std.proofs.Common.{◌∙◌, ◌≤◌, ◌+◌, arith, sym, ap, refl, suc, slice_index}
use Rattle.rkyv_btree_format.specs.Layout.{layout_of}
use Rattle.rkyv_btree_format.proofs.Sizes.{room_of}
use Rattle.rkyv_btree_walk.proofs.Searches.{leaf_alone, search_finds, search_ends, search_down}
use Rattle.rkyv_btree_unverified.proofs.Passes.{found_compared, below_compared, tree_node, root_entries, found_stops, below_stops, below_within, child_none, child_some, child_passes, child_fits, target_none, target_some}
use Rattle.rkyv_btree_unverified.proofs.Goes.{node_refuses, keys_refuse, hits, ends_in_leaf, ends_absent, place_refuses, goes_down}
use Rattle.std.proofs.lemmas.Bool.{eq-eqb, ne_eqb}
use Rattle.rkyv_btree_unverified.proofs.search.search_node.Goals as goal

pub returns-in-Err-clause-accepts : goal.returns-in-Err-clause-accepts
returns-in-Err-clause-accepts g c m h = c.in-Err.ensures.accepts (tree_node g.K.Portable.kind g.V.Portable.kind g.M.ArchivedMap.E c.args.buf.now m c.args.hi c.args.node h.passes)

pub bounds-buf-node : goal.bounds-buf-node
bounds-buf-node g c =
    let room = room_of _ _ _ g.met.K.Portable.laws g.met.V.Portable.laws c.requires.fitting in
    omega (arith, room.eight)

pub returns-in-Err-halt_of_node-clause-accepts : goal.returns-in-Err-halt_of_node-clause-accepts
returns-in-Err-halt_of_node-clause-accepts g c m h = c.in-Err-halt_of_node.ensures.accepts (root_entries g.K.Portable.kind g.V.Portable.kind g.M.ArchivedMap.E c.args.buf.now m c.args.hi c.args.node _ h c.in-Ok.ensures.counted)

pub returns-in-Ok-Found-clause-found : goal.returns-in-Ok-Found-clause-found
returns-in-Ok-Found-clause-found g c m h f p =
    ap (λ r. r.0) (search_finds g.K.Portable.kind g.V.Portable.kind g.M.ArchivedMap.E c.args.buf.now (suc m) c.args.node c.in-Ok.count h.stands c.in-Ok.ensures.counted (f c.args.key.now) c.in-Ok-Found.i (found_stops g.K.Portable.kind g.V.Portable.kind g.M.ArchivedMap.E c.args.buf.now (f c.args.key.now) g.K.CheckBytes.Refuses g.V.CheckBytes.Refuses c.args.node c.in-Ok.count c.in-Ok-Found.i c.in-Ok-Found.field-0 (c.in-Ok-Found.ensures.gives f p) c.in-Ok-Found.field-0-is))

pub returns-then-buf-node-eq0-clause-found : goal.returns-then-buf-node-eq0-clause-found
returns-then-buf-node-eq0-clause-found g c m h f p =
    let none = leaf_alone (layout_of g.K.Portable.kind g.V.Portable.kind g.M.ArchivedMap.E) c.args.buf.now c.args.node c.in-Ok-Below.i (eq-eqb (slice_index c.args.buf.now c.args.node) 0 c.if-buf-node-eq0.true) in
    ap (λ r. r.0) (search_ends g.K.Portable.kind g.V.Portable.kind g.M.ArchivedMap.E c.args.buf.now (suc m) c.args.node c.in-Ok.count h.stands c.in-Ok.ensures.counted (f c.args.key.now) c.in-Ok-Below.i none (below_stops g.K.Portable.kind g.V.Portable.kind g.M.ArchivedMap.E c.args.buf.now (f c.args.key.now) g.K.CheckBytes.Refuses g.V.CheckBytes.Refuses c.args.node c.in-Ok.count c.in-Ok-Below.i c.in-Ok-Below.field-0 (c.in-Ok-Below.ensures.gives f p) c.in-Ok-Below.field-0-is))

pub returns-then-num32-eq1-clause-found : goal.returns-then-num32-eq1-clause-found
returns-then-num32-eq1-clause-found g c m h f p =
    let none = child_none (layout_of g.K.Portable.kind g.V.Portable.kind g.M.ArchivedMap.E) c.args.buf.now c.args.node c.in-Ok-Below.i (ne_eqb (slice_index c.args.buf.now c.args.node) 0 c.if-buf-node-eq0.false) (rw (← c.pointer_at.ensures.value) (target_none c.args.buf.now (c.args.node + c.pointer_at.result) (sym c.num32.ensures ∙ c.if-num32-eq1.true))) in
    ap (λ r. r.0) (search_ends g.K.Portable.kind g.V.Portable.kind g.M.ArchivedMap.E c.args.buf.now (suc m) c.args.node c.in-Ok.count h.stands c.in-Ok.ensures.counted (f c.args.key.now) c.in-Ok-Below.i none (below_stops g.K.Portable.kind g.V.Portable.kind g.M.ArchivedMap.E c.args.buf.now (f c.args.key.now) g.K.CheckBytes.Refuses g.V.CheckBytes.Refuses c.args.node c.in-Ok.count c.in-Ok-Below.i c.in-Ok-Below.field-0 (c.in-Ok-Below.ensures.gives f p) c.in-Ok-Below.field-0-is))

pub returns-in-Ok-node_place-clause-passes : goal.returns-in-Ok-node_place-clause-passes
returns-in-Ok-node_place-clause-passes g c m h =
    let some = child_some (layout_of g.K.Portable.kind g.V.Portable.kind g.M.ArchivedMap.E) c.args.buf.now c.args.node c.in-Ok-Below.i c.in-Ok-node_place.below _ (ne_eqb (slice_index c.args.buf.now c.args.node) 0 c.if-buf-node-eq0.false) (rw (← c.pointer_at.ensures.value) (target_some c.args.buf.now (c.args.node + c.pointer_at.result) (λ z. c.if-num32-eq1.false (c.num32.ensures ∙ z)))) c.in-Ok-node_place.ensures.within.0 in
    let within = below_within g.K.Portable.kind g.V.Portable.kind g.M.ArchivedMap.E c.args.buf.now c.args.node c.in-Ok.count c.in-Ok-Below.i c.in-Ok-Below.field-0 c.in-Ok-Below.field-0-is c.in-Ok-Below.ensures.stands in
    let le : c.in-Ok-Below.i ≤ g.M.ArchivedMap.E = omega (arith, within, c.in-Ok.ensures.few) in
    child_passes g.K.Portable.kind g.V.Portable.kind g.M.ArchivedMap.E c.args.buf.now m _ _ c.in-Ok-Below.i _ h le some

pub returns-in-Ok-node_place-clause-found : goal.returns-in-Ok-node_place-clause-found
returns-in-Ok-node_place-clause-found g c m h f p =
    let some = child_some (layout_of g.K.Portable.kind g.V.Portable.kind g.M.ArchivedMap.E) c.args.buf.now c.args.node c.in-Ok-Below.i c.in-Ok-node_place.below _ (ne_eqb (slice_index c.args.buf.now c.args.node) 0 c.if-buf-node-eq0.false) (rw (← c.pointer_at.ensures.value) (target_some c.args.buf.now (c.args.node + c.pointer_at.result) (λ z. c.if-num32-eq1.false (c.num32.ensures ∙ z)))) c.in-Ok-node_place.ensures.within.0 in
    ap (λ r. r.0) (search_down g.K.Portable.kind g.V.Portable.kind g.M.ArchivedMap.E c.args.buf.now (suc m) c.args.node c.in-Ok.count h.stands c.in-Ok.ensures.counted (f c.args.key.now) c.in-Ok-Below.i m c.in-Ok-node_place.below refl some (below_stops g.K.Portable.kind g.V.Portable.kind g.M.ArchivedMap.E c.args.buf.now (f c.args.key.now) g.K.CheckBytes.Refuses g.V.CheckBytes.Refuses c.args.node c.in-Ok.count c.in-Ok-Below.i c.in-Ok-Below.field-0 (c.in-Ok-Below.ensures.gives f p) c.in-Ok-Below.field-0-is))

pub returns-in-Err-node_place-clause-accepts : goal.returns-in-Err-node_place-clause-accepts
returns-in-Err-node_place-clause-accepts g c m h =
    let within = below_within g.K.Portable.kind g.V.Portable.kind g.M.ArchivedMap.E c.args.buf.now c.args.node c.in-Ok.count c.in-Ok-Below.i c.in-Ok-Below.field-0 c.in-Ok-Below.field-0-is c.in-Ok-Below.ensures.stands in
    let le : c.in-Ok-Below.i ≤ g.M.ArchivedMap.E = omega (arith, within, c.in-Ok.ensures.few) in
    let fits = child_fits g.K.Portable.kind g.V.Portable.kind g.M.ArchivedMap.E c.args.buf.now m c.args.hi c.args.node c.in-Ok-Below.i _ h (ne_eqb (slice_index c.args.buf.now c.args.node) 0 c.if-buf-node-eq0.false) le (rw (← c.pointer_at.ensures.value) (target_some c.args.buf.now (c.args.node + c.pointer_at.result) (λ z. c.if-num32-eq1.false (c.num32.ensures ∙ z)))) in
    c.in-Err-node_place.ensures.accepts fits.0 fits.1 fits.2

pub returns-in-Ok-Found-clause-equal : goal.returns-in-Ok-Found-clause-equal
returns-in-Ok-Found-clause-equal g c f p = (found_stops g.K.Portable.kind g.V.Portable.kind g.M.ArchivedMap.E c.args.buf.now (f c.args.key.now) g.K.CheckBytes.Refuses g.V.CheckBytes.Refuses c.args.node c.in-Ok.count c.in-Ok-Found.i c.in-Ok-Found.field-0 (c.in-Ok-Found.ensures.gives f p) c.in-Ok-Found.field-0-is).2

pub returns-in-Err-clause-gives : goal.returns-in-Err-clause-gives
returns-in-Err-clause-gives g c f p m =
    let K = g.K.Portable.kind in let V = g.V.Portable.kind in let E = g.M.ArchivedMap.E in
    let b = c.args.buf.now in
    let comparison = f c.args.key.now in
    let KR = g.K.CheckBytes.Refuses in let VR = g.V.CheckBytes.Refuses in
    node_refuses K V E b comparison KR VR m c.args.hi c.args.node _ c.in-Err.ensures.gives

pub returns-in-Err-halt_of_node-clause-gives : goal.returns-in-Err-halt_of_node-clause-gives
returns-in-Err-halt_of_node-clause-gives g c f p m =
    let K = g.K.Portable.kind in let V = g.V.Portable.kind in let E = g.M.ArchivedMap.E in
    let b = c.args.buf.now in
    let comparison = f c.args.key.now in
    let KR = g.K.CheckBytes.Refuses in let VR = g.V.CheckBytes.Refuses in
    keys_refuse K V E b comparison KR VR m c.args.hi c.args.node c.in-Ok.count c.in-Ok.ensures.gives _ (c.in-Err-halt_of_node.ensures.gives f p)

pub returns-in-Ok-Found-clause-gives : goal.returns-in-Ok-Found-clause-gives
returns-in-Ok-Found-clause-gives g c f p m =
    let K = g.K.Portable.kind in let V = g.V.Portable.kind in let E = g.M.ArchivedMap.E in
    let b = c.args.buf.now in
    let comparison = f c.args.key.now in
    let KR = g.K.CheckBytes.Refuses in let VR = g.V.CheckBytes.Refuses in
    hits K V E b comparison KR VR m c.args.hi c.args.node c.in-Ok.count c.in-Ok.ensures.gives c.in-Ok-Found.i c.in-Ok-Found.field-0 c.in-Ok-Found.field-0-is (c.in-Ok-Found.ensures.gives f p)

pub returns-then-buf-node-eq0-clause-gives : goal.returns-then-buf-node-eq0-clause-gives
returns-then-buf-node-eq0-clause-gives g c f p m =
    let K = g.K.Portable.kind in let V = g.V.Portable.kind in let E = g.M.ArchivedMap.E in
    let b = c.args.buf.now in
    let comparison = f c.args.key.now in
    let KR = g.K.CheckBytes.Refuses in let VR = g.V.CheckBytes.Refuses in
    ends_in_leaf K V E b comparison KR VR m c.args.hi c.args.node c.in-Ok.count c.in-Ok.ensures.gives c.in-Ok-Below.i c.in-Ok-Below.field-0 c.in-Ok-Below.field-0-is (c.in-Ok-Below.ensures.gives f p) c.if-buf-node-eq0.true

pub returns-then-num32-eq1-clause-gives : goal.returns-then-num32-eq1-clause-gives
returns-then-num32-eq1-clause-gives g c f p m =
    let K = g.K.Portable.kind in let V = g.V.Portable.kind in let E = g.M.ArchivedMap.E in
    let b = c.args.buf.now in
    let comparison = f c.args.key.now in
    let KR = g.K.CheckBytes.Refuses in let VR = g.V.CheckBytes.Refuses in
    ends_absent K V E b comparison KR VR m c.args.hi c.args.node c.in-Ok.count c.in-Ok.ensures.gives c.in-Ok-Below.i c.in-Ok-Below.field-0 c.in-Ok-Below.field-0-is (c.in-Ok-Below.ensures.gives f p) c.if-buf-node-eq0.false
    (rw (← c.pointer_at.ensures.value) (target_none b (c.args.node + c.pointer_at.result) (sym c.num32.ensures ∙ c.if-num32-eq1.true)))

pub returns-in-Ok-node_place-clause-gives : goal.returns-in-Ok-node_place-clause-gives
returns-in-Ok-node_place-clause-gives g c f p m =
    let K = g.K.Portable.kind in let V = g.V.Portable.kind in let E = g.M.ArchivedMap.E in
    let b = c.args.buf.now in
    let comparison = f c.args.key.now in
    let KR = g.K.CheckBytes.Refuses in let VR = g.V.CheckBytes.Refuses in
    let to = target_some b (c.args.node + c.pointer_at.result) (λ z. c.if-num32-eq1.false (c.num32.ensures ∙ z)) in
    goes_down K V E b comparison KR VR m c.args.hi c.args.node c.in-Ok.count c.in-Ok.ensures.gives c.in-Ok-Below.i c.in-Ok-Below.field-0 c.in-Ok-Below.field-0-is (c.in-Ok-Below.ensures.gives f p) c.if-buf-node-eq0.false _ c.in-Ok-node_place.below (rw (← c.pointer_at.ensures.value) to) c.in-Ok-node_place.ensures.gives

pub returns-in-Err-node_place-clause-gives : goal.returns-in-Err-node_place-clause-gives
returns-in-Err-node_place-clause-gives g c f p m =
    let K = g.K.Portable.kind in let V = g.V.Portable.kind in let E = g.M.ArchivedMap.E in
    let b = c.args.buf.now in
    let comparison = f c.args.key.now in
    let KR = g.K.CheckBytes.Refuses in let VR = g.V.CheckBytes.Refuses in
    let to = target_some b (c.args.node + c.pointer_at.result) (λ z. c.if-num32-eq1.false (c.num32.ensures ∙ z)) in
    place_refuses K V E b comparison KR VR m c.args.hi c.args.node c.in-Ok.count c.in-Ok.ensures.gives c.in-Ok-Below.i c.in-Ok-Below.field-0 c.in-Ok-Below.field-0-is (c.in-Ok-Below.ensures.gives f p) c.if-buf-node-eq0.false _ _ (rw (← c.pointer_at.ensures.value) to) c.in-Err-node_place.ensures.gives

pub returns-in-Ok-Found-clause-counts : goal.returns-in-Ok-Found-clause-counts
returns-in-Ok-Found-clause-counts g c m h f p =
    let asks = ap (λ r. r.1) (search_finds g.K.Portable.kind g.V.Portable.kind g.M.ArchivedMap.E c.args.buf.now (suc m) c.args.node c.in-Ok.count h.stands c.in-Ok.ensures.counted (f c.args.key.now) c.in-Ok-Found.i (found_stops g.K.Portable.kind g.V.Portable.kind g.M.ArchivedMap.E c.args.buf.now (f c.args.key.now) g.K.CheckBytes.Refuses g.V.CheckBytes.Refuses c.args.node c.in-Ok.count c.in-Ok-Found.i c.in-Ok-Found.field-0 (c.in-Ok-Found.ensures.gives f p) c.in-Ok-Found.field-0-is)) in
    let counted = found_compared c.in-Ok.count c.in-Ok-Found.i _ _ c.in-Ok-Found.field-0 c.in-Ok-Found.field-0-is c.in-Ok-Found.ensures.counts in
    omega (arith, asks, counted)

pub returns-then-buf-node-eq0-clause-counts : goal.returns-then-buf-node-eq0-clause-counts
returns-then-buf-node-eq0-clause-counts g c m h f p =
    let none = leaf_alone (layout_of g.K.Portable.kind g.V.Portable.kind g.M.ArchivedMap.E) c.args.buf.now c.args.node c.in-Ok-Below.i (eq-eqb (slice_index c.args.buf.now c.args.node) 0 c.if-buf-node-eq0.true) in
    let asks = ap (λ r. r.1) (search_ends g.K.Portable.kind g.V.Portable.kind g.M.ArchivedMap.E c.args.buf.now (suc m) c.args.node c.in-Ok.count h.stands c.in-Ok.ensures.counted (f c.args.key.now) c.in-Ok-Below.i none (below_stops g.K.Portable.kind g.V.Portable.kind g.M.ArchivedMap.E c.args.buf.now (f c.args.key.now) g.K.CheckBytes.Refuses g.V.CheckBytes.Refuses c.args.node c.in-Ok.count c.in-Ok-Below.i c.in-Ok-Below.field-0 (c.in-Ok-Below.ensures.gives f p) c.in-Ok-Below.field-0-is)) in
    let counted = below_compared c.in-Ok.count c.in-Ok-Below.i _ _ c.in-Ok-Below.field-0 c.in-Ok-Below.field-0-is c.in-Ok-Below.ensures.counts in
    omega (arith, asks, counted)

pub returns-then-num32-eq1-clause-counts : goal.returns-then-num32-eq1-clause-counts
returns-then-num32-eq1-clause-counts g c m h f p =
    let none = child_none (layout_of g.K.Portable.kind g.V.Portable.kind g.M.ArchivedMap.E) c.args.buf.now c.args.node c.in-Ok-Below.i (ne_eqb (slice_index c.args.buf.now c.args.node) 0 c.if-buf-node-eq0.false) (rw (← c.pointer_at.ensures.value) (target_none c.args.buf.now (c.args.node + c.pointer_at.result) (sym c.num32.ensures ∙ c.if-num32-eq1.true))) in
    let asks = ap (λ r. r.1) (search_ends g.K.Portable.kind g.V.Portable.kind g.M.ArchivedMap.E c.args.buf.now (suc m) c.args.node c.in-Ok.count h.stands c.in-Ok.ensures.counted (f c.args.key.now) c.in-Ok-Below.i none (below_stops g.K.Portable.kind g.V.Portable.kind g.M.ArchivedMap.E c.args.buf.now (f c.args.key.now) g.K.CheckBytes.Refuses g.V.CheckBytes.Refuses c.args.node c.in-Ok.count c.in-Ok-Below.i c.in-Ok-Below.field-0 (c.in-Ok-Below.ensures.gives f p) c.in-Ok-Below.field-0-is)) in
    let counted = below_compared c.in-Ok.count c.in-Ok-Below.i _ _ c.in-Ok-Below.field-0 c.in-Ok-Below.field-0-is c.in-Ok-Below.ensures.counts in
    omega (arith, asks, counted)

pub returns-in-Ok-node_place-clause-counts : goal.returns-in-Ok-node_place-clause-counts
returns-in-Ok-node_place-clause-counts g c m h f p =
    let some = child_some (layout_of g.K.Portable.kind g.V.Portable.kind g.M.ArchivedMap.E) c.args.buf.now c.args.node c.in-Ok-Below.i c.in-Ok-node_place.below _ (ne_eqb (slice_index c.args.buf.now c.args.node) 0 c.if-buf-node-eq0.false) (rw (← c.pointer_at.ensures.value) (target_some c.args.buf.now (c.args.node + c.pointer_at.result) (λ z. c.if-num32-eq1.false (c.num32.ensures ∙ z)))) c.in-Ok-node_place.ensures.within.0 in
    let asks = ap (λ r. r.1) (search_down g.K.Portable.kind g.V.Portable.kind g.M.ArchivedMap.E c.args.buf.now (suc m) c.args.node c.in-Ok.count h.stands c.in-Ok.ensures.counted (f c.args.key.now) c.in-Ok-Below.i m c.in-Ok-node_place.below refl some (below_stops g.K.Portable.kind g.V.Portable.kind g.M.ArchivedMap.E c.args.buf.now (f c.args.key.now) g.K.CheckBytes.Refuses g.V.CheckBytes.Refuses c.args.node c.in-Ok.count c.in-Ok-Below.i c.in-Ok-Below.field-0 (c.in-Ok-Below.ensures.gives f p) c.in-Ok-Below.field-0-is)) in
    let counted = below_compared c.in-Ok.count c.in-Ok-Below.i _ _ c.in-Ok-Below.field-0 c.in-Ok-Below.field-0-is c.in-Ok-Below.ensures.counts in
    omega (arith, asks, counted)
