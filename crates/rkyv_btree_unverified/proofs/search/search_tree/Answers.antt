-- Where the tree passes, each node that is met does, and the search goes on as in a map that was checked.
use Rattle.std.proofs.Common.{rules, ◌≡◌, ◌+◌, ◌<◌, ℕ, ◌-◌, arith, refl, suc, subst, sym}
use Rattle.rkyv_btree_format.specs.Layout.{layout_of}
use Rattle.rkyv_btree_walk.specs.mirror.Search.{comparison_at}
use Rattle.rkyv_btree_unverified.proofs.Passes.{hit_counts, miss_counts, down_counts, level_more, compared_on, none_left, levels_left, with_level, hit_equal, hit_finds, miss_finds, down_finds, down_stands, down_passes, found_on}
use Rattle.rkyv_btree_unverified.proofs.Goes.{no_levels, levels_are, levels_over, hit_gives, miss_gives, down_gives}
use Rattle.rkyv_btree_unverified.proofs.Places.{kept}
use Rattle.rkyv_btree_portable.specs.declared.refusal.Refusal.{Refusal}
use Rattle.rkyv_btree_portable.specs.declared.refusal.Refusal.TheVariants.{TooDeep}
use Rattle.std.specs.Prelude.{Option, Result, Err, None, Ok, Some, pos}
use Rattle.rkyv_btree_unverified.specs.Lookups.{TreeGives}
use Rattle.rkyv_btree_unverified.proofs.search.search_tree.Goals as goal

pub returns-then-levels-eq0-clause-accepts : goal.returns-then-levels-eq0-clause-accepts
returns-then-levels-eq0-clause-accepts g c h = absurd (none_left g.K.Portable.kind g.V.Portable.kind g.M.ArchivedMap.E c.args.buf.now c.down.levels c.down.end c.down.node c.if-levels-eq0.true (c.down.invariant.3 h))

pub returns-in-Err-clause-accepts : goal.returns-in-Err-clause-accepts
returns-in-Err-clause-accepts g c h = c.in-Err.ensures.accepts (c.down.levels - 1) (with_level g.K.Portable.kind g.V.Portable.kind g.M.ArchivedMap.E c.args.buf.now c.down.levels c.down.end c.down.node (c.down.invariant.3 h))

pub returns-in-Ok-Hit-clause-found : goal.returns-in-Ok-Hit-clause-found
returns-in-Ok-Hit-clause-found g c h f p =
    let here = c.down.invariant.3 h in
    let up = with_level g.K.Portable.kind g.V.Portable.kind g.M.ArchivedMap.E c.args.buf.now c.down.levels c.down.end c.down.node here in
    let finds = hit_finds g.K.Portable.kind g.V.Portable.kind g.M.ArchivedMap.E c.args.buf.now (c.down.levels - 1) c.down.node c.in-Ok-Hit.field-0 (comparison_at g.K.Portable.kind g.V.Portable.kind g.M.ArchivedMap.E c.args.buf.now (f c.args.key.now)) _ (c.in-Ok-Hit.ensures.found (c.down.levels - 1) up f p) c.in-Ok-Hit.i c.in-Ok-Hit.field-0-is in
    sym (found_on (layout_of g.K.Portable.kind g.V.Portable.kind g.M.ArchivedMap.E) c.args.buf.now (comparison_at g.K.Portable.kind g.V.Portable.kind g.M.ArchivedMap.E c.args.buf.now (f c.args.key.now)) c.down.levels (c.down.levels - 1) c.down.node (c.down.invariant.4 h f p) (levels_left g.K.Portable.kind g.V.Portable.kind g.M.ArchivedMap.E c.args.buf.now c.down.levels c.down.end c.down.node here) finds)

pub returns-in-Ok-Miss-clause-found : goal.returns-in-Ok-Miss-clause-found
returns-in-Ok-Miss-clause-found g c h f p =
    let here = c.down.invariant.3 h in
    let up = with_level g.K.Portable.kind g.V.Portable.kind g.M.ArchivedMap.E c.args.buf.now c.down.levels c.down.end c.down.node here in
    let finds = miss_finds g.K.Portable.kind g.V.Portable.kind g.M.ArchivedMap.E c.args.buf.now (c.down.levels - 1) c.down.node c.in-Ok-Miss.field-0 (comparison_at g.K.Portable.kind g.V.Portable.kind g.M.ArchivedMap.E c.args.buf.now (f c.args.key.now)) _ (c.in-Ok-Miss.ensures.found (c.down.levels - 1) up f p) c.in-Ok-Miss.field-0-is in
    sym (found_on (layout_of g.K.Portable.kind g.V.Portable.kind g.M.ArchivedMap.E) c.args.buf.now (comparison_at g.K.Portable.kind g.V.Portable.kind g.M.ArchivedMap.E c.args.buf.now (f c.args.key.now)) c.down.levels (c.down.levels - 1) c.down.node (c.down.invariant.4 h f p) (levels_left g.K.Portable.kind g.V.Portable.kind g.M.ArchivedMap.E c.args.buf.now c.down.levels c.down.end c.down.node here) finds)

pub down-preserved : goal.down-preserved
down-preserved g c =
    let room = down_stands g.K.Portable.kind g.V.Portable.kind g.M.ArchivedMap.E c.args.buf.now 0 c.down.node c.in-Ok-Down.field-0 c.in-Ok-Down.below c.in-Ok-Down.field-0-is c.in-Ok-Down.ensures.stands in (
      omega arith,
      omega (arith, c.down.invariant.1, c.down.invariant.2.room),
      room,
      (λ h. down_passes g.K.Portable.kind g.V.Portable.kind g.M.ArchivedMap.E c.args.buf.now (c.down.levels - 1) c.down.node c.in-Ok-Down.field-0 c.in-Ok-Down.below c.in-Ok-Down.field-0-is (c.in-Ok-Down.ensures.passes (c.down.levels - 1) (with_level g.K.Portable.kind g.V.Portable.kind g.M.ArchivedMap.E c.args.buf.now c.down.levels c.down.end c.down.node (c.down.invariant.3 h)))),
      (λ h f p.
          let here = c.down.invariant.3 h in
          let up = with_level g.K.Portable.kind g.V.Portable.kind g.M.ArchivedMap.E c.args.buf.now c.down.levels c.down.end c.down.node here in
          let finds = down_finds g.K.Portable.kind g.V.Portable.kind g.M.ArchivedMap.E c.args.buf.now (c.down.levels - 1) c.down.node c.in-Ok-Down.field-0 (comparison_at g.K.Portable.kind g.V.Portable.kind g.M.ArchivedMap.E c.args.buf.now (f c.args.key.now)) _ (c.in-Ok-Down.ensures.found (c.down.levels - 1) up f p) c.in-Ok-Down.below c.in-Ok-Down.field-0-is in
          found_on (layout_of g.K.Portable.kind g.V.Portable.kind g.M.ArchivedMap.E) c.args.buf.now (comparison_at g.K.Portable.kind g.V.Portable.kind g.M.ArchivedMap.E c.args.buf.now (f c.args.key.now)) c.down.levels (c.down.levels - 1) c.down.node (c.down.invariant.4 h f p) (levels_left g.K.Portable.kind g.V.Portable.kind g.M.ArchivedMap.E c.args.buf.now c.down.levels c.down.end c.down.node here) finds),
      (λ f p r below.
          c.down.invariant.5 f p r (levels_over g.K.Portable.kind g.V.Portable.kind g.M.ArchivedMap.E c.args.buf.now (f c.args.key.now) g.K.CheckBytes.Refuses g.V.CheckBytes.Refuses c.down.levels c.down.end c.down.node r c.if-levels-eq0.false
          (down_gives g.K.Portable.kind g.V.Portable.kind g.M.ArchivedMap.E c.args.buf.now (f c.args.key.now) g.K.CheckBytes.Refuses g.V.CheckBytes.Refuses (c.down.levels - 1) c.down.end c.down.node c.in-Ok-Down.field-0 (c.in-Ok-Down.ensures.gives f p (c.down.levels - 1)) c.in-Ok-Down.below c.in-Ok-Down.field-0-is r below))),
      omega (arith, c.in-Ok-Down.ensures.few, c.down.invariant.6, level_more g.M.ArchivedMap.E c.down.levels (c.down.levels - 1) (omega (arith, c.if-levels-eq0.false))),
      omega (arith, c.in-Ok-Down.ensures.more, c.down.invariant.7),
      (λ h f p.
          let here = c.down.invariant.3 h in
          let up = with_level g.K.Portable.kind g.V.Portable.kind g.M.ArchivedMap.E c.args.buf.now c.down.levels c.down.end c.down.node here in
          let counts = down_counts (layout_of g.K.Portable.kind g.V.Portable.kind g.M.ArchivedMap.E) c.args.buf.now (comparison_at g.K.Portable.kind g.V.Portable.kind g.M.ArchivedMap.E c.args.buf.now (f c.args.key.now)) (c.down.levels - 1) _ _ _ c.in-Ok-Down.field-0 (c.in-Ok-Down.ensures.counts (c.down.levels - 1) up f p) c.in-Ok-Down.below c.in-Ok-Down.field-0-is in
          let level = compared_on (layout_of g.K.Portable.kind g.V.Portable.kind g.M.ArchivedMap.E) c.args.buf.now (comparison_at g.K.Portable.kind g.V.Portable.kind g.M.ArchivedMap.E c.args.buf.now (f c.args.key.now)) c.down.levels (c.down.levels - 1) c.down.node (levels_left g.K.Portable.kind g.V.Portable.kind g.M.ArchivedMap.E c.args.buf.now c.down.levels c.down.end c.down.node here) in
          omega (arith, counts, level, c.down.invariant.8 h f p)),
      omega (arith, c.down.invariant.9, c.step.ensures),
      (λ f p n m counted r below.
          let K = g.K.Portable.kind in let V = g.V.Portable.kind in let E = g.M.ArchivedMap.E in
          let b = c.args.buf.now in let KR = g.K.CheckBytes.Refuses in let VR = g.V.CheckBytes.Refuses in
          let before : c.down.nodes ≡ c.args.nodes.now + (n - 1) = omega (arith, counted, c.step.ensures, c.down.invariant.0, c.down.invariant.9) in
          let more : n - 1 + suc m ≡ n + m = omega (arith, counted, c.step.ensures, c.down.invariant.0, c.down.invariant.9) in
          levels_are K V E b (f c.args.key.now) KR VR c.args.hi c.args.root r (n - 1 + suc m) (n + m) more
          (c.down.invariant.10 f p (n - 1) (suc m) before r (down_gives K V E b (f c.args.key.now) KR VR m c.down.end c.down.node c.in-Ok-Down.field-0 (c.in-Ok-Down.ensures.gives f p m) c.in-Ok-Down.below c.in-Ok-Down.field-0-is r below))),
    )

pub returns-in-Ok-Hit-clause-equal : goal.returns-in-Ok-Hit-clause-equal
returns-in-Ok-Hit-clause-equal g c f p = hit_equal (comparison_at g.K.Portable.kind g.V.Portable.kind g.M.ArchivedMap.E c.args.buf.now (f c.args.key.now)) c.down.node c.in-Ok-Hit.i c.in-Ok-Hit.field-0 c.in-Ok-Hit.field-0-is (c.in-Ok-Hit.ensures.equal f p)

pub returns-then-levels-eq0-clause-gives : goal.returns-then-levels-eq0-clause-gives
returns-then-levels-eq0-clause-gives g c f p =
    let r : Result (Option (ℕ × ℕ)) Refusal = Err (TooDeep (pos c.down.node)) in
    rw (kept c.from.result (pos c.down.node) c.from.ensures c.from.type_inv)
    (c.down.invariant.5 f p r (subst (λ (n : ℕ). TreeGives g.K.Portable.kind g.V.Portable.kind g.M.ArchivedMap.E c.args.buf.now (f c.args.key.now) g.K.CheckBytes.Refuses g.V.CheckBytes.Refuses n c.down.end c.down.node r) (sym c.if-levels-eq0.true) (no_levels g.K.Portable.kind g.V.Portable.kind g.M.ArchivedMap.E c.args.buf.now (f c.args.key.now) g.K.CheckBytes.Refuses g.V.CheckBytes.Refuses c.down.end c.down.node)))

pub returns-in-Err-clause-gives : goal.returns-in-Err-clause-gives
returns-in-Err-clause-gives g c f p =
    c.down.invariant.5 f p _ (levels_over g.K.Portable.kind g.V.Portable.kind g.M.ArchivedMap.E c.args.buf.now (f c.args.key.now) g.K.CheckBytes.Refuses g.V.CheckBytes.Refuses c.down.levels c.down.end c.down.node _ c.if-levels-eq0.false (c.in-Err.ensures.gives f p (c.down.levels - 1)))

pub returns-in-Ok-Hit-clause-gives : goal.returns-in-Ok-Hit-clause-gives
returns-in-Ok-Hit-clause-gives g c f p =
    c.down.invariant.5 f p _ (levels_over g.K.Portable.kind g.V.Portable.kind g.M.ArchivedMap.E c.args.buf.now (f c.args.key.now) g.K.CheckBytes.Refuses g.V.CheckBytes.Refuses c.down.levels c.down.end c.down.node _ c.if-levels-eq0.false
    (hit_gives g.K.Portable.kind g.V.Portable.kind g.M.ArchivedMap.E c.args.buf.now (f c.args.key.now) g.K.CheckBytes.Refuses g.V.CheckBytes.Refuses (c.down.levels - 1) c.down.end c.down.node c.in-Ok-Hit.field-0 (c.in-Ok-Hit.ensures.gives f p (c.down.levels - 1)) c.in-Ok-Hit.i c.in-Ok-Hit.field-0-is))

pub returns-in-Ok-Miss-clause-gives : goal.returns-in-Ok-Miss-clause-gives
returns-in-Ok-Miss-clause-gives g c f p =
    c.down.invariant.5 f p _ (levels_over g.K.Portable.kind g.V.Portable.kind g.M.ArchivedMap.E c.args.buf.now (f c.args.key.now) g.K.CheckBytes.Refuses g.V.CheckBytes.Refuses c.down.levels c.down.end c.down.node _ c.if-levels-eq0.false
    (miss_gives g.K.Portable.kind g.V.Portable.kind g.M.ArchivedMap.E c.args.buf.now (f c.args.key.now) g.K.CheckBytes.Refuses g.V.CheckBytes.Refuses (c.down.levels - 1) c.down.end c.down.node c.in-Ok-Miss.field-0 (c.in-Ok-Miss.ensures.gives f p (c.down.levels - 1)) c.in-Ok-Miss.field-0-is))

pub returns-in-Ok-Hit-clause-counts : goal.returns-in-Ok-Hit-clause-counts
returns-in-Ok-Hit-clause-counts g c h f p =
    let here = c.down.invariant.3 h in
    let up = with_level g.K.Portable.kind g.V.Portable.kind g.M.ArchivedMap.E c.args.buf.now c.down.levels c.down.end c.down.node here in
    let counts = hit_counts (layout_of g.K.Portable.kind g.V.Portable.kind g.M.ArchivedMap.E) c.args.buf.now (comparison_at g.K.Portable.kind g.V.Portable.kind g.M.ArchivedMap.E c.args.buf.now (f c.args.key.now)) (c.down.levels - 1) _ _ _ c.in-Ok-Hit.field-0 (c.in-Ok-Hit.ensures.counts (c.down.levels - 1) up f p) c.in-Ok-Hit.i c.in-Ok-Hit.field-0-is in
    let level = compared_on (layout_of g.K.Portable.kind g.V.Portable.kind g.M.ArchivedMap.E) c.args.buf.now (comparison_at g.K.Portable.kind g.V.Portable.kind g.M.ArchivedMap.E c.args.buf.now (f c.args.key.now)) c.down.levels (c.down.levels - 1) c.down.node (levels_left g.K.Portable.kind g.V.Portable.kind g.M.ArchivedMap.E c.args.buf.now c.down.levels c.down.end c.down.node here) in
    omega (arith, counts, level, c.down.invariant.8 h f p)

pub returns-in-Ok-Miss-clause-counts : goal.returns-in-Ok-Miss-clause-counts
returns-in-Ok-Miss-clause-counts g c h f p =
    let here = c.down.invariant.3 h in
    let up = with_level g.K.Portable.kind g.V.Portable.kind g.M.ArchivedMap.E c.args.buf.now c.down.levels c.down.end c.down.node here in
    let counts = miss_counts (layout_of g.K.Portable.kind g.V.Portable.kind g.M.ArchivedMap.E) c.args.buf.now (comparison_at g.K.Portable.kind g.V.Portable.kind g.M.ArchivedMap.E c.args.buf.now (f c.args.key.now)) (c.down.levels - 1) _ _ _ c.in-Ok-Miss.field-0 (c.in-Ok-Miss.ensures.counts (c.down.levels - 1) up f p) c.in-Ok-Miss.field-0-is in
    let level = compared_on (layout_of g.K.Portable.kind g.V.Portable.kind g.M.ArchivedMap.E) c.args.buf.now (comparison_at g.K.Portable.kind g.V.Portable.kind g.M.ArchivedMap.E c.args.buf.now (f c.args.key.now)) c.down.levels (c.down.levels - 1) c.down.node (levels_left g.K.Portable.kind g.V.Portable.kind g.M.ArchivedMap.E c.args.buf.now c.down.levels c.down.end c.down.node here) in
    omega (arith, counts, level, c.down.invariant.8 h f p)

pub returns-in-Ok-Hit-clause-few : goal.returns-in-Ok-Hit-clause-few
returns-in-Ok-Hit-clause-few g c = omega (arith, c.in-Ok-Hit.ensures.few, c.down.invariant.6, level_more g.M.ArchivedMap.E c.down.levels (c.down.levels - 1) (omega (arith, c.if-levels-eq0.false)))

pub returns-in-Ok-Miss-clause-few : goal.returns-in-Ok-Miss-clause-few
returns-in-Ok-Miss-clause-few g c = omega (arith, c.in-Ok-Miss.ensures.few, c.down.invariant.6, level_more g.M.ArchivedMap.E c.down.levels (c.down.levels - 1) (omega (arith, c.if-levels-eq0.false)))

pub returns-in-Err-clause-few : goal.returns-in-Err-clause-few
returns-in-Err-clause-few g c = omega (arith, c.in-Err.ensures.few, c.down.invariant.6, level_more g.M.ArchivedMap.E c.down.levels (c.down.levels - 1) (omega (arith, c.if-levels-eq0.false)))

pub search_node-requires : goal.search_node-requires
search_node-requires g c κs =
    let room : c.down.steps + g.M.ArchivedMap.E < 18446744073709551616 = omega (arith, c.requires.steps, c.down.invariant.6, level_more g.M.ArchivedMap.E c.down.levels (c.down.levels - 1) (omega (arith, c.if-levels-eq0.false))) in
    search rules

pub returns-in-Ok-Hit-clause-deep : goal.returns-in-Ok-Hit-clause-deep
returns-in-Ok-Hit-clause-deep g c f p =
    let K = g.K.Portable.kind in let V = g.V.Portable.kind in let E = g.M.ArchivedMap.E in
    let b = c.args.buf.now in let KR = g.K.CheckBytes.Refuses in let VR = g.V.CheckBytes.Refuses in
    let before : c.down.nodes ≡ c.args.nodes.now + (c.down.nodes - c.args.nodes.now) = omega (arith, c.down.invariant.0, c.down.invariant.9) in
    levels_are K V E b (f c.args.key.now) KR VR c.args.hi c.args.root (Ok (Some (c.down.node, c.in-Ok-Hit.i))) (c.down.nodes - c.args.nodes.now + suc 0) _ (omega (arith, c.step.ensures, c.down.invariant.0, c.down.invariant.9))
    (c.down.invariant.10 f p (c.down.nodes - c.args.nodes.now) (suc 0) before _ (hit_gives K V E b (f c.args.key.now) KR VR 0 c.down.end c.down.node c.in-Ok-Hit.field-0 (c.in-Ok-Hit.ensures.gives f p 0) c.in-Ok-Hit.i c.in-Ok-Hit.field-0-is))

pub returns-in-Ok-Miss-clause-deep : goal.returns-in-Ok-Miss-clause-deep
returns-in-Ok-Miss-clause-deep g c f p =
    let K = g.K.Portable.kind in let V = g.V.Portable.kind in let E = g.M.ArchivedMap.E in
    let b = c.args.buf.now in let KR = g.K.CheckBytes.Refuses in let VR = g.V.CheckBytes.Refuses in
    let before : c.down.nodes ≡ c.args.nodes.now + (c.down.nodes - c.args.nodes.now) = omega (arith, c.down.invariant.0, c.down.invariant.9) in
    levels_are K V E b (f c.args.key.now) KR VR c.args.hi c.args.root (Ok None) (c.down.nodes - c.args.nodes.now + suc 0) _ (omega (arith, c.step.ensures, c.down.invariant.0, c.down.invariant.9))
    (c.down.invariant.10 f p (c.down.nodes - c.args.nodes.now) (suc 0) before _ (miss_gives K V E b (f c.args.key.now) KR VR 0 c.down.end c.down.node c.in-Ok-Miss.field-0 (c.in-Ok-Miss.ensures.gives f p 0) c.in-Ok-Miss.field-0-is))

pub down-init : goal.down-init
down-init g c =
    let K = g.K.Portable.kind in let V = g.V.Portable.kind in let E = g.M.ArchivedMap.E in
    let b = c.args.buf.now in let KR = g.K.CheckBytes.Refuses in let VR = g.V.CheckBytes.Refuses in (
      omega arith,
      c.requires.inside,
      c.requires.room,
      (λ h. h),
      (λ h f p. refl),
      (λ f p r t. t),
      omega arith,
      omega arith,
      (λ h f p. refl),
      omega arith,
      (λ f p n m counted r t. levels_are K V E b (f c.args.key.now) KR VR c.args.hi c.args.root r m (n + m) (omega (arith, counted)) t),
    )
