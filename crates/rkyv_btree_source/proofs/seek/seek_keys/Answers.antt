-- Each key is compared where it was brought to.
use Rattle.std.proofs.Common.{◌≡◌, ◌∙◌, ◌+◌, ap, arith, subst, sym, false, inl, inr}
use Rattle.std.proofs.lemmas.Bool.{cases_eq}
use Rattle.rkyv_btree_format.proofs.Sizes.{room_of}
use Rattle.rkyv_btree_source.proofs.Faults.{passes_on}
use Rattle.rkyv_btree_source.proofs.Inside.{key_inside}
use Rattle.rkyv_btree_source.proofs.Knowing.{of_same}
use Rattle.rkyv_btree_source.proofs.Walks.{compared_there}
use Rattle.rkyv_btree_unverified.specs.mirror.Sought.{reached_place}
use Rattle.rkyv_btree_walk.specs.mirror.Range.{is_reached}
use Rattle.rkyv_btree_source.proofs.seek.seek_keys.Goals as goal

pub fetch_part-requires-clause-fitting : goal.fetch_part-requires-clause-fitting
fetch_part-requires-clause-fitting g c = (room_of _ _ _ g.met.K.Portable.laws g.met.V.Portable.laws c.requires.fitting).key

pub fetch_part-requires-clause-inside : goal.fetch_part-requires-clause-inside
fetch_part-requires-clause-inside g c =
    let there = key_inside g.K.Portable.kind g.V.Portable.kind g.M.ArchivedMap.E g.met.K.Portable.laws g.met.V.Portable.laws c.requires.fitting c.loop-i.i (omega arith) in
    omega (arith, there, c.key_at.ensures, c.requires.inside)

pub returns-in-Err-clause-gives : goal.returns-in-Err-clause-gives
returns-in-Err-clause-gives g c b e =
    let at_is = ap (λ x. c.args.node + x) c.key_at.ensures in
    passes_on _ _ (λ r bad. (c.loop-i.i, omega arith, subst (λ x. g.K.CheckBytes.Refuses b 0 x x r) at_is bad)) c.in-Err.fault (c.in-Err.ensures.brings b (of_same b c.loop-i.invariant.same e))

pub loop-i-preserved : goal.loop-i-preserved
loop-i-preserved g c =
    let K = g.K.Portable.kind in let V = g.V.Portable.kind in let E = g.M.ArchivedMap.E in
    record {
      before = λ b e k low less.
          let at_is = ap (λ x. c.args.node + x) c.key_at.ensures in
          let brings = c.in-Ok.ensures.brings b (of_same b c.loop-i.invariant.same e) in
          let same = compared_there g.met.K.CompareWith.compares c.args.key.now c.fetch_part.new.room b c.in-Ok.place _ (brings.1 ∙ ap (λ x. K.read b x) at_is) in
          let here : reached_place K V E g.K.CompareWith.compared_at b c.args.key.now c.args.past (c.args.node, c.loop-i.i) ≡ false = sym (ap (is_reached c.args.past) same) ∙ (sym c.reaches.ensures ∙ c.if-reaches.false) in
          elim (cases_eq k c.loop-i.i) [
            | inl is ↦ subst (λ j. reached_place K V E g.K.CompareWith.compared_at b c.args.key.now c.args.past (c.args.node, j) ≡ false) (sym is) here
            | inr other ↦ c.loop-i.invariant.before b e k low (omega (arith, less, other))
          ];
      same = c.in-Ok.ensures.same ∙ c.loop-i.invariant.same;
      left = omega (arith, c.in-Ok.ensures.left, c.loop-i.invariant.left);
      room = c.fetch_part.auto.room ∙ c.loop-i.invariant.room;
    }

pub returns-then-reaches-clause-gives : goal.returns-then-reaches-clause-gives
returns-then-reaches-clause-gives g c b e =
    let at_is = ap (λ x. c.args.node + x) c.key_at.ensures in
    let brings = c.in-Ok.ensures.brings b (of_same b c.loop-i.invariant.same e) in
    let same = compared_there g.met.K.CompareWith.compares c.args.key.now c.fetch_part.new.room b c.in-Ok.place _ (brings.1 ∙ ap (λ x. g.K.Portable.kind.read b x) at_is) in
    (c.loop-i.invariant.before b e, λ less. sym (ap (is_reached c.args.past) same) ∙ (sym c.reaches.ensures ∙ c.if-reaches.true))

pub returns-clause-gives : goal.returns-clause-gives
returns-clause-gives g c b e =
    (λ k low less. c.loop-i.invariant.before b e k low (omega (arith, less)), λ less. absurd (omega (arith, less)))
