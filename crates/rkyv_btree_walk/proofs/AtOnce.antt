-- The keys of a node that are compared one after another, each of which may decide where the search stops.
use Rattle.std.proofs.Common.{◌≡◌, ℕ, ◌+◌, ◌<◌, refl, arith, Bool, true, false, ◌&&◌, ◌||◌, inl, inr}
use Rattle.std.proofs.lemmas.Bool.{cases_lt}
use Rattle.std.specs.declared.cmp.Ordering.{Ordering}
use Rattle.std.specs.declared.cmp.Ordering.TheVariants.{Less, Equal, Greater}
use Rattle.rkyv_btree_walk.specs.Search.{compared_of}
use Rattle.rkyv_btree_walk.specs.declared.search.Compared.{Compared}
use Rattle.rkyv_btree_walk.specs.mirror.Search.{StopsAt, StopsSoFar, stop_of}

module _ (comparison : ℕ → Ordering) (i next : ℕ) where
  -- a stop among the first entries is one among more
  kept : (equal : Bool) → next < i → StopsAt comparison i (stop_of equal next) → StopsAt comparison (i + 1) (stop_of equal next)
  kept true less s = (omega arith, s.1, s.2)
  kept false less s = (omega arith, s.1, λ h. s.2 less)

  -- where all before it gave Greater, this entry decides
  decides : (o : Ordering) → comparison i ≡ o → next ≡ i → StopsAt comparison i (stop_of false next) → (n : ℕ)
      → ((compared_of o).past ≡ true → n ≡ 1) → ((compared_of o).past ≡ false → n ≡ 0)
      → StopsSoFar comparison (i + 1) (compared_of o).past (compared_of o).equal (next + n)
  decides Less e here s n one none =
      let same : next + n ≡ next = omega (arith, none refl) in
      rw same ((omega arith, s.1, λ h. rw here e), λ h. absurd (cc h))
  decides Equal e here s n one none =
      let same : next + n ≡ next = omega (arith, none refl) in
      rw same ((omega arith, s.1, rw here e), λ h. absurd (cc h))
  decides Greater e here s n one none =
      let more : next + n ≡ i + 1 = omega (arith, one refl, here) in
      rw more (
        (
          omega arith,
          λ k h. elim (cases_lt k i) [
            | inl before ↦ s.1 k (omega arith)
            | inr at ↦ let same : k ≡ i = omega arith in rw same e
          ],
          λ h. absurd (omega arith),
        ),
        λ h. refl,
      )

  pub stops_more : (past equal : Bool) (r : Compared) → r ≡ compared_of (comparison i)
      → (past ≡ true → next ≡ i) → (past ≡ false → next < i) → StopsSoFar comparison i past equal next → (n : ℕ)
      → ((past && r.past) ≡ true → n ≡ 1) → ((past && r.past) ≡ false → n ≡ 0)
      → StopsSoFar comparison (i + 1) (past && r.past) (equal || (past && r.equal)) (next + n)
  stops_more true true r is goes_on stopped s n one none = absurd (cc (s.1 refl))
  stops_more true false r is goes_on stopped s n one none =
      rw is (decides (comparison i) refl (goes_on refl) s.0 n (rw is at one) (rw is at none))
  stops_more false true r is goes_on stopped s n one none =
      let same : next + n ≡ next = omega (arith, none refl) in
      rw same (kept true (stopped refl) s.0, λ h. absurd (cc h))
  stops_more false false r is goes_on stopped s n one none =
      let same : next + n ≡ next = omega (arith, none refl) in
      rw same (kept false (stopped refl) s.0, λ h. absurd (cc h))
