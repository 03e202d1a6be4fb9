-- The way down.
use Rattle.std.proofs.Common.{◌≡◌, ◌∙◌, ◌+◌, ◌*◌, ◌-◌, ℕ, suc, length, ap, arith, subst, sym, Ok, Err, Some, None}
use Rattle.std.specs.Prelude.{Option, Result, pos}
use Rattle.rkyv_btree_portable.specs.declared.refusal.Refusal.{Refusal}
use Rattle.rkyv_btree_portable.specs.declared.refusal.Refusal.TheVariants.{TooDeep}
use Rattle.rkyv_btree_source.proofs.Faults.{ends_here, passes_on, room_below}
use Rattle.rkyv_btree_source.proofs.Fitting.{below_fits, ended_fits, fits_in}
use Rattle.rkyv_btree_source.proofs.Lacking.{lacks_by, lacks_in}
use Rattle.rkyv_btree_source.proofs.Spent.{spent_level, spent_first}
use Rattle.rkyv_btree_source.proofs.Taking.{child_reads, last_takes}
use Rattle.rkyv_btree_source.specs.Reads.{Reads}
use Rattle.rkyv_btree_source.specs.declared.search.Step.TheVariants.{Ends, Nothing}
use Rattle.rkyv_btree_source.specs.mirror.Found.{next_of}
use Rattle.rkyv_btree_unverified.proofs.Goes.{no_levels, levels_over, hit_gives, miss_gives, down_gives}
use Rattle.rkyv_btree_unverified.proofs.Places.{kept}
use Rattle.rkyv_btree_unverified.specs.Lookups.{TreeGives}
use Rattle.rkyv_btree_source.proofs.Knowing.{of_same}
use Rattle.rkyv_btree_source.proofs.tree.search_tree.Goals as goal

pub returns-then-levels-eq0-clause-gives : goal.returns-then-levels-eq0-clause-gives
returns-then-levels-eq0-clause-gives g c b e f p =
    let K = g.K.Portable.kind in let V = g.V.Portable.kind in let E = g.M.ArchivedMap.E in
    let KR = g.K.CheckBytes.Refuses in let VR = g.V.CheckBytes.Refuses in
    let r : Result (Option (ℕ × ℕ)) Refusal = Err (TooDeep (pos c.down.node)) in
    rw (kept c.from.result (pos c.down.node) c.from.ensures c.from.type_inv)
    (c.down.invariant.gives b e f p r (subst (λ (n : ℕ). TreeGives K V E b (f c.args.key.now) KR VR n c.down.end c.down.node r) (sym c.if-levels-eq0.true) (no_levels K V E b (f c.args.key.now) KR VR c.down.end c.down.node)))

pub returns-in-Err-clause-gives : goal.returns-in-Err-clause-gives
returns-in-Err-clause-gives g c b e f p =
    let K = g.K.Portable.kind in let V = g.V.Portable.kind in let E = g.M.ArchivedMap.E in
    let KR = g.K.CheckBytes.Refuses in let VR = g.V.CheckBytes.Refuses in
    passes_on (λ d. TreeGives K V E b (f c.args.key.now) KR VR (suc (c.down.levels - 1)) c.down.end c.down.node (Err d)) (λ d. TreeGives K V E b (f c.args.key.now) KR VR 32 c.args.hi c.args.root (Err d))
    (λ d bad. c.down.invariant.gives b e f p (Err d) (levels_over K V E b (f c.args.key.now) KR VR c.down.levels c.down.end c.down.node (Err d) c.if-levels-eq0.false bad))
    c.in-Err.fault (c.in-Err.ensures.gives b (of_same b c.down.invariant.same e) f p (c.down.levels - 1))

pub returns-in-Ok-Ends-clause-gives : goal.returns-in-Ok-Ends-clause-gives
returns-in-Ok-Ends-clause-gives g c b e f p =
    let K = g.K.Portable.kind in let V = g.V.Portable.kind in let E = g.M.ArchivedMap.E in
    let KR = g.K.CheckBytes.Refuses in let VR = g.V.CheckBytes.Refuses in
    let here = ends_here K V E c.search_node.new.room c.down.node c.in-Ok-Ends.field-0 c.in-Ok-Ends.ensures.valid c.in-Ok-Ends.hit c.in-Ok-Ends.field-0-is in
    rw here (c.down.invariant.gives b e f p (Ok (Some (c.down.node, c.in-Ok-Ends.hit.index))) (levels_over K V E b (f c.args.key.now) KR VR c.down.levels c.down.end c.down.node _ c.if-levels-eq0.false
    (hit_gives K V E b (f c.args.key.now) KR VR (c.down.levels - 1) c.down.end c.down.node (next_of c.in-Ok-Ends.field-0) (c.in-Ok-Ends.ensures.gives b (of_same b c.down.invariant.same e) f p (c.down.levels - 1)) c.in-Ok-Ends.hit.index (ap next_of c.in-Ok-Ends.field-0-is))))

pub returns-in-Ok-Nothing-clause-gives : goal.returns-in-Ok-Nothing-clause-gives
returns-in-Ok-Nothing-clause-gives g c b e f p =
    let K = g.K.Portable.kind in let V = g.V.Portable.kind in let E = g.M.ArchivedMap.E in
    let KR = g.K.CheckBytes.Refuses in let VR = g.V.CheckBytes.Refuses in
    c.down.invariant.gives b e f p (Ok None) (levels_over K V E b (f c.args.key.now) KR VR c.down.levels c.down.end c.down.node _ c.if-levels-eq0.false
    (miss_gives K V E b (f c.args.key.now) KR VR (c.down.levels - 1) c.down.end c.down.node (next_of c.in-Ok-Nothing.field-0) (c.in-Ok-Nothing.ensures.gives b (of_same b c.down.invariant.same e) f p (c.down.levels - 1)) (ap next_of c.in-Ok-Nothing.field-0-is)))

pub down-preserved : goal.down-preserved
down-preserved g c =
    let K = g.K.Portable.kind in let V = g.V.Portable.kind in let E = g.M.ArchivedMap.E in
    let KR = g.K.CheckBytes.Refuses in let VR = g.V.CheckBytes.Refuses in
    let space = c.down.invariant.room.room in
    record {
      levels = omega (arith, c.down.invariant.levels);
      room = room_below K V E c.search_node.new.room c.down.node c.in-Ok-Below.field-0 c.in-Ok-Below.ensures.valid c.in-Ok-Below.below c.in-Ok-Below.field-0-is;
      inside = λ b e. let there = c.down.invariant.inside b e in (there.0, omega (arith, there.1, space));
      ends = omega (arith, c.down.invariant.ends, space);
      gives = λ b e f p r rest.
          c.down.invariant.gives b e f p r (levels_over K V E b (f c.args.key.now) KR VR c.down.levels c.down.end c.down.node r c.if-levels-eq0.false
          (down_gives K V E b (f c.args.key.now) KR VR (c.down.levels - 1) c.down.end c.down.node (next_of c.in-Ok-Below.field-0) (c.in-Ok-Below.ensures.gives b (of_same b c.down.invariant.same e) f p (c.down.levels - 1)) c.in-Ok-Below.below (ap next_of c.in-Ok-Below.field-0-is) r rest));
      reads = λ b e f p at before reads.
          let now = c.down.invariant.reads b e f p at before reads in
          child_reads K V E b g.K.Fetch.lengths g.V.Fetch.lengths (f c.args.key.now) at _ now.0 c.down.end c.down.node _ _ now.1 now.2 c.in-Ok-Below.field-0 (c.in-Ok-Below.ensures.takes b (of_same b c.down.invariant.same e) f p)
          c.in-Ok-Below.below c.in-Ok-Below.field-0-is;
      fits = λ b e f p rest.
          c.down.invariant.fits b e f p
          (below_fits K V E b g.K.Fetch.lengths g.V.Fetch.lengths (f c.args.key.now) c.down.end c.down.node _ _ _ c.in-Ok-Below.field-0 (c.in-Ok-Below.ensures.takes b (of_same b c.down.invariant.same e) f p)
          (fits_in g.K.Portable.kind g.V.Portable.kind g.M.ArchivedMap.E b g.K.Fetch.lengths g.V.Fetch.lengths (f c.args.key.now) _ _ _ (omega arith) (c.in-Ok-Below.ensures.fits b (of_same b c.down.invariant.same e) f p)) c.in-Ok-Below.below c.in-Ok-Below.field-0-is rest);
      same = c.in-Ok-Below.ensures.same ∙ c.down.invariant.same;
      left = omega (arith, c.in-Ok-Below.ensures.left, c.down.invariant.left);
      spent = spent_level _ _ _ c.down.levels (E + 2) c.down.end c.args.hi (32 * ((E + 2) * c.args.hi)) c.down.invariant.spent c.in-Ok-Below.ensures.spent c.if-levels-eq0.false c.down.invariant.ends;
    }

pub returns-in-Err-clause-spent : goal.returns-in-Err-clause-spent
returns-in-Err-clause-spent g c = spent_first _ _ _ c.down.levels (g.M.ArchivedMap.E + 2) c.down.end c.args.hi (32 * ((g.M.ArchivedMap.E + 2) * c.args.hi)) c.down.invariant.spent c.in-Err.ensures.spent c.if-levels-eq0.false c.down.invariant.ends

pub returns-in-Ok-Ends-clause-spent : goal.returns-in-Ok-Ends-clause-spent
returns-in-Ok-Ends-clause-spent g c = spent_first _ _ _ c.down.levels (g.M.ArchivedMap.E + 2) c.down.end c.args.hi (32 * ((g.M.ArchivedMap.E + 2) * c.args.hi)) c.down.invariant.spent c.in-Ok-Ends.ensures.spent c.if-levels-eq0.false c.down.invariant.ends

pub returns-in-Ok-Nothing-clause-spent : goal.returns-in-Ok-Nothing-clause-spent
returns-in-Ok-Nothing-clause-spent g c = spent_first _ _ _ c.down.levels (g.M.ArchivedMap.E + 2) c.down.end c.args.hi (32 * ((g.M.ArchivedMap.E + 2) * c.args.hi)) c.down.invariant.spent c.in-Ok-Nothing.ensures.spent c.if-levels-eq0.false c.down.invariant.ends

pub returns-in-Err-clause-lacks : goal.returns-in-Err-clause-lacks
returns-in-Err-clause-lacks g c b e f p at before reads =
    let room : length c.down.room ≡ length c.args.room.now = omega arith in
    let K = g.K.Portable.kind in let V = g.V.Portable.kind in let E = g.M.ArchivedMap.E in
    let now = c.down.invariant.reads b e f p at before reads in
    lacks_by K V E b g.K.Fetch.lengths g.V.Fetch.lengths c.in-Err.fault (Reads K V E b g.K.Fetch.lengths g.V.Fetch.lengths (f c.args.key.now) at) 0 _ _ _ (sym now.2)
    (lacks_in K V E b g.K.Fetch.lengths g.V.Fetch.lengths c.in-Err.fault (Reads K V E b g.K.Fetch.lengths g.V.Fetch.lengths (f c.args.key.now) at) 0 _ _ _ room (c.in-Err.ensures.lacks b (of_same b c.down.invariant.same e) f p at now.0 now.1))

pub returns-in-Ok-Ends-clause-takes : goal.returns-in-Ok-Ends-clause-takes
returns-in-Ok-Ends-clause-takes g c b e f p at before reads =
    let K = g.K.Portable.kind in let V = g.V.Portable.kind in let E = g.M.ArchivedMap.E in
    let now = c.down.invariant.reads b e f p at before reads in
    last_takes K V E b g.K.Fetch.lengths g.V.Fetch.lengths (f c.args.key.now) at _ now.0 c.down.end c.down.node _ _ now.1 now.2 c.in-Ok-Ends.field-0 (c.in-Ok-Ends.ensures.takes b (of_same b c.down.invariant.same e) f p)
    (Ends c.in-Ok-Ends.hit) c.in-Ok-Ends.field-0-is tt

pub returns-in-Ok-Nothing-clause-takes : goal.returns-in-Ok-Nothing-clause-takes
returns-in-Ok-Nothing-clause-takes g c b e f p at before reads =
    let K = g.K.Portable.kind in let V = g.V.Portable.kind in let E = g.M.ArchivedMap.E in
    let now = c.down.invariant.reads b e f p at before reads in
    last_takes K V E b g.K.Fetch.lengths g.V.Fetch.lengths (f c.args.key.now) at _ now.0 c.down.end c.down.node _ _ now.1 now.2 c.in-Ok-Nothing.field-0 (c.in-Ok-Nothing.ensures.takes b (of_same b c.down.invariant.same e) f p)
    Nothing c.in-Ok-Nothing.field-0-is tt

pub returns-in-Ok-Ends-clause-fits : goal.returns-in-Ok-Ends-clause-fits
returns-in-Ok-Ends-clause-fits g c b e f p =
    let K = g.K.Portable.kind in let V = g.V.Portable.kind in let E = g.M.ArchivedMap.E in
    c.down.invariant.fits b e f p
    (ended_fits K V E b g.K.Fetch.lengths g.V.Fetch.lengths (f c.args.key.now) c.down.end c.down.node _ _ _ c.in-Ok-Ends.field-0 (c.in-Ok-Ends.ensures.takes b (of_same b c.down.invariant.same e) f p)
    (fits_in g.K.Portable.kind g.V.Portable.kind g.M.ArchivedMap.E b g.K.Fetch.lengths g.V.Fetch.lengths (f c.args.key.now) _ _ _ (omega arith) (c.in-Ok-Ends.ensures.fits b (of_same b c.down.invariant.same e) f p)) (Ends c.in-Ok-Ends.hit) c.in-Ok-Ends.field-0-is tt)

pub returns-in-Ok-Nothing-clause-fits : goal.returns-in-Ok-Nothing-clause-fits
returns-in-Ok-Nothing-clause-fits g c b e f p =
    let K = g.K.Portable.kind in let V = g.V.Portable.kind in let E = g.M.ArchivedMap.E in
    c.down.invariant.fits b e f p
    (ended_fits K V E b g.K.Fetch.lengths g.V.Fetch.lengths (f c.args.key.now) c.down.end c.down.node _ _ _ c.in-Ok-Nothing.field-0 (c.in-Ok-Nothing.ensures.takes b (of_same b c.down.invariant.same e) f p)
    (fits_in g.K.Portable.kind g.V.Portable.kind g.M.ArchivedMap.E b g.K.Fetch.lengths g.V.Fetch.lengths (f c.args.key.now) _ _ _ (omega arith) (c.in-Ok-Nothing.ensures.fits b (of_same b c.down.invariant.same e) f p)) Nothing c.in-Ok-Nothing.field-0-is tt)
