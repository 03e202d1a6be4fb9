-- A map has no more than 32 levels.
use Rattle.std.proofs.Common.{ℕ, ◌≡◌, inl, inr, arith, subst}
use Rattle.std.proofs.lemmas.Bool.{cases_lt}
use Rattle.rkyv_btree_format.specs.Layout.{layout_of}
use Rattle.rkyv_btree_walk.specs.Below.{root_place, IsBelow}
use Rattle.rkyv_btree_walk.proofs.Below.{below_stands, place_stands}
use Rattle.rkyv_btree_ffi.proofs.cursor.is_in_map.Goals as goal

pub levels-preserved : goal.levels-preserved
levels-preserved g c = λ d less h.
    elim (cases_lt d c.levels.level) [
      | inl before ↦ c.levels.invariant d before h
      | inr here ↦ let same : d ≡ c.levels.level = omega arith in c.is_below.ensures.none c.if-is_below.false (subst (λ (x : ℕ). IsBelow (layout_of g.K.Portable.kind g.V.Portable.kind 5) c.args.buf.now (root_place c.args.buf.now c.args.pos) x c.args.node) same h)
    ]

pub returns-clause-none : goal.returns-clause-none
returns-clause-none g c = λ e h.
    let r = below_stands _ _ _ _ _ 32 (place_stands _ _ _ g.met.K.Portable.laws g.met.V.Portable.laws _ _ c.requires.stands) h.0 c.args.node h.1 in
    c.levels.invariant h.0 (omega (arith, r.1, c.levels-test.false)) h.1
