-- Each way takes its own step.
use Rattle.std.proofs.Common.{◌≡◌, ◌<◌, refl, arith, rules, sym, ◌∙◌, subst}
use Rattle.std.proofs.lemmas.Option.{slice_get_read, slice_get_within, get_or_from_slice_get}
use Rattle.std.proofs.lemmas.List.{length-set}
use Rattle.rkyv_btree_walk.proofs.Ways.{so_far_more}
use Rattle.rkyv_btree_unverified.specs.Ends.{way_at}
use Rattle.rkyv_btree_unverified.specs.declared.many.UnverifiedWay.{UnverifiedWay}
use Rattle.rkyv_btree_unverified.specs.declared.many.UnverifiedWay.TheVariants.{On}
use Rattle.rkyv_btree_unverified.specs.mirror.Many.{HasEnded, WayStands}
use Rattle.rkyv_btree_unverified.proofs.many.level_down.Goals as goal

pub step_down-way-requires : goal.step_down-way-requires
step_down-way-requires g c κs =
    let K = g.K.Portable.kind in let V = g.V.Portable.kind in
    let there = slice_get_read c.args.keys.now _ c.loop-i.i c.index-keys-i.result refl (omega (arith, c.min-i-end.ensures)) c.index-keys-i.is in
    let less : c.loop-i.i < 16 = omega (arith, c.min-i-end.ensures) in
    let was = (c.loop-i.invariant.1 c.loop-i.i c.index-keys-i.result less there).left (omega arith) in
    let stands : WayStands K V g.M.ArchivedMap.E c.args.buf.now (way_at c.loop-i.ways c.loop-i.i) =
    subst (λ (way : UnverifiedWay). WayStands K V g.M.ArchivedMap.E c.args.buf.now way) (sym was) (c.requires.stand c.loop-i.i c.index-keys-i.result less there) in
    search rules

pub loop-i-preserved : goal.loop-i-preserved
loop-i-preserved g c = (
  length-set _ _ _ ∙ c.loop-i.invariant.0,
  λ k key less is. so_far_more (On 0 0) HasEnded _ k _ _ _ _ _ _ (omega (arith, c.loop-i.invariant.0)) (c.loop-i.invariant.1 k key less is) (λ here.
      let same : c.index-keys-i.result ≡ key = c.index-keys-i.is ∙ get_or_from_slice_get c.args.keys.now c.loop-i.i key c.index-keys-i.result (rw here at is) in
      rw here (rw same at c.step_down-way.ensures)) c.goes_on-going.ensures,
)

pub returns-clause-steps : goal.returns-clause-steps
returns-clause-steps g c k key less is = (c.loop-i.invariant.1 k key less is).taken (let within = slice_get_within c.args.keys.now k key is in omega (arith, within, c.min-i-end.ensures))

pub returns-clause-ended : goal.returns-clause-ended
returns-clause-ended g c none k key less is = (c.loop-i.invariant.1 k key less is).ended none (let within = slice_get_within c.args.keys.now k key is in omega (arith, within, c.min-i-end.ensures))
