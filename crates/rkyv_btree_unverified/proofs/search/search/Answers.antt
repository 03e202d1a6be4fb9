-- The root of an accepted map passes, and its search is that of the map.
use Rattle.std.proofs.Common.{rules, arith, ◌+◌, ◌-◌, ◌*◌, ◌<◌, ◌≡◌, ◌∙◌, refl, sym, Ok, Err, Some, None}
use Rattle.std.proofs.lemmas.Result.{IfOk-weaker}
use Rattle.rkyv_btree_format.specs.Layout.{layout_of}
use Rattle.rkyv_btree_walk.specs.mirror.Search.{comparison_at, searched, searched_map}
use Rattle.rkyv_btree_unverified.proofs.Passes.{accepted_passes, root_fits, root_finds, root_asks, not_misplaced}
use Rattle.rkyv_btree_unverified.specs.Lookups.{LookupGivesWithin, TreeGives}
use Rattle.rkyv_btree_unverified.specs.Steps.{misplaced, empty, bad_root, root}
use Rattle.rkyv_btree_view.proofs.Lookups.{count_room}
use Rattle.rkyv_btree_unverified.proofs.search.search.Goals as goal

pub returns-in-Ok-node_place-clause-accepts : goal.returns-in-Ok-node_place-clause-accepts
returns-in-Ok-node_place-clause-accepts g c m h =
    c.search_tree.ensures.accepts (accepted_passes _ _ _ _ g.met.K.Portable.laws g.met.V.Portable.laws c.requires.fitting _ h.0 _ m h.1 (λ z. c.if-num32-eq0.false (c.num32.ensures ∙ z)) c.in-Ok-node_place.ensures.within.0)

pub returns-in-Ok-node_place-clause-found : goal.returns-in-Ok-node_place-clause-found
returns-in-Ok-node_place-clause-found g c m h f p =
    let K = g.K.Portable.kind in let V = g.V.Portable.kind in let E = g.M.ArchivedMap.E in
    let b = c.args.buf.now in
    let passes = accepted_passes _ _ _ _ g.met.K.Portable.laws g.met.V.Portable.laws c.requires.fitting _ h.0 _ m h.1 (λ z. c.if-num32-eq0.false (c.num32.ensures ∙ z)) c.in-Ok-node_place.ensures.within.0 in
    let same = root_finds K V E b g.met.K.Portable.laws g.met.V.Portable.laws c.requires.fitting c.args.pos h.0 m h.1 (λ z. c.if-num32-eq0.false (c.num32.ensures ∙ z)) c.in-Ok-node_place.root c.in-Ok-node_place.ensures.within.0 (comparison_at K V E b (f c.args.key.now)) in
    IfOk-weaker c.search_tree.result (λ found. found ≡ (searched (layout_of K V E) b (comparison_at K V E b (f c.args.key.now)) 32 c.in-Ok-node_place.root).0) (λ found. found ≡ (searched_map (layout_of K V E) b (comparison_at K V E b (f c.args.key.now)) c.args.pos).0) (λ x e. e ∙ same) (c.search_tree.ensures.found passes f p)

pub returns-in-Err-node_place-clause-accepts : goal.returns-in-Err-node_place-clause-accepts
returns-in-Err-node_place-clause-accepts g c m h =
    let fits = root_fits _ _ _ _ g.met.K.Portable.laws g.met.V.Portable.laws c.requires.fitting _ h.0 m h.1 (λ z. c.if-num32-eq0.false (c.num32.ensures ∙ z)) in
    c.in-Err-node_place.ensures.accepts fits.0 fits.1 fits.2

pub returns-in-Err-clause-gives : goal.returns-in-Err-clause-gives
returns-in-Err-clause-gives g c f p = record { result = Err _; gives = misplaced c.in-Err.ensures.err; goes_on = refl }

pub returns-then-num32-eq0-clause-gives : goal.returns-then-num32-eq0-clause-gives
returns-then-num32-eq0-clause-gives g c f p = record { result = Ok None; gives = empty c.in-Ok.ensures.ok (sym c.num32.ensures ∙ c.if-num32-eq0.true); goes_on = refl }

pub returns-in-Ok-node_place-clause-gives : goal.returns-in-Ok-node_place-clause-gives
returns-in-Ok-node_place-clause-gives g c f p =
    record {
      result = Ok (Some c.in-Ok-node_place.root);
      gives = root c.in-Ok.ensures.ok (λ z. c.if-num32-eq0.false (c.num32.ensures ∙ z)) c.in-Ok-node_place.ensures.gives;
      goes_on = c.search_tree.ensures.gives f p;
    }

pub returns-in-Err-node_place-clause-gives : goal.returns-in-Err-node_place-clause-gives
returns-in-Err-node_place-clause-gives g c f p =
    record {
      result = Err _;
      gives = bad_root c.in-Ok.ensures.ok (λ z. c.if-num32-eq0.false (c.num32.ensures ∙ z)) c.in-Err-node_place.ensures.gives;
      goes_on = refl;
    }

pub search_tree-requires : goal.search_tree-requires
search_tree-requires g c κs =
    let room : c.args.steps.now + g.M.ArchivedMap.E * 32 < 18446744073709551616 = count_room g.K.Portable.kind g.V.Portable.kind g.M.ArchivedMap.E g.met.K.Portable.laws g.met.V.Portable.laws c.requires.fitting _ _ c.requires.steps (omega arith) in
    search rules

pub returns-in-Err-clause-accepts : goal.returns-in-Err-clause-accepts
returns-in-Err-clause-accepts g c m h = absurd (not_misplaced c.args.buf.now c.args.pos c.in-Err.refusal h.1.short h.1.room h.1.aligned c.in-Err.ensures.err)

pub returns-in-Ok-node_place-clause-counts : goal.returns-in-Ok-node_place-clause-counts
returns-in-Ok-node_place-clause-counts g c m h f p =
    let K = g.K.Portable.kind in let V = g.V.Portable.kind in let E = g.M.ArchivedMap.E in
    let b = c.args.buf.now in
    let passes = accepted_passes _ _ _ _ g.met.K.Portable.laws g.met.V.Portable.laws c.requires.fitting _ h.0 _ m h.1 (λ z. c.if-num32-eq0.false (c.num32.ensures ∙ z)) c.in-Ok-node_place.ensures.within.0 in
    let same = root_asks K V E b g.met.K.Portable.laws g.met.V.Portable.laws c.requires.fitting c.args.pos h.0 m h.1 (λ z. c.if-num32-eq0.false (c.num32.ensures ∙ z)) c.in-Ok-node_place.root c.in-Ok-node_place.ensures.within.0 (comparison_at K V E b (f c.args.key.now)) in
    rw (← same) (c.search_tree.ensures.counts passes f p)

pub returns-then-num32-eq0-clause-deep : goal.returns-then-num32-eq0-clause-deep
returns-then-num32-eq0-clause-deep g c f p = record { result = Ok None; gives = empty c.in-Ok.ensures.ok (sym c.num32.ensures ∙ c.if-num32-eq0.true); goes_on = refl }

pub returns-in-Ok-node_place-clause-deep : goal.returns-in-Ok-node_place-clause-deep
returns-in-Ok-node_place-clause-deep g c f p =
    let K = g.K.Portable.kind in let V = g.V.Portable.kind in let E = g.M.ArchivedMap.E in
    let b = c.args.buf.now in let KR = g.K.CheckBytes.Refuses in let VR = g.V.CheckBytes.Refuses in
    let levels = c.search_tree.new.nodes - c.args.nodes.now in
    IfOk-weaker c.search_tree.result (λ found. TreeGives K V E b (f c.args.key.now) KR VR levels c.args.pos c.in-Ok-node_place.root (Ok found)) (λ found. LookupGivesWithin K V E b (f c.args.key.now) KR VR levels c.args.pos (Ok found))
    (λ found t. record { result = Ok (Some c.in-Ok-node_place.root); gives = root c.in-Ok.ensures.ok (λ z. c.if-num32-eq0.false (c.num32.ensures ∙ z)) c.in-Ok-node_place.ensures.gives; goes_on = t })
    (c.search_tree.ensures.deep f p)
