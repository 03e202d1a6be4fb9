-- The first result that is left is taken.
use Rattle.std.proofs.Common.{◌≡◌, ℕ, ◌+◌, ◌<◌, ◌≤◌, ◌-◌, ◌∙◌, ◌∷◌, ◌++◌, ap, arith, drop, length, map, sym, take, inl, inr}
use Rattle.std.proofs.lemmas.Bool.{cases_lt}
use Rattle.rkyv_btree_unverified.specs.Ends.{result_of}
use Rattle.rkyv_btree_unverified.specs.declared.many.UnverifiedWay.TheVariants.{On}
use Rattle.rkyv_btree_view.proofs.Held.{one_taken}
use Rattle.rkyv_btree_unverified.proofs.get_many.UnverifiedEntryLookups.next_found.Goals as goal

some_left : (left : ℕ) → (left ≡ 0 → ⊥) → 0 < left
some_left left some = elim (cases_lt 0 left) [
  | inl h ↦ h
  | inr h ↦ absurd (some (omega arith))
]

pub invariant_of-self : goal.invariant_of-self
invariant_of-self g c =
    let now = c.refill.new.self in
    let some = some_left now.left c.if-self-eq0.false in
    let within : now.next + 1 + (now.left - 1) ≤ 16 = omega (arith, some, now.within) in
    let short : now.left - 1 + length now.keys.now < 18446744073709551616 = omega (arith, some, now.short) in
    record {
      within = within;
      short = short;
      stand = λ i low high. now.stand i (omega (arith, low)) (omega (arith, high, some));
    }

pub returns-clause-left : goal.returns-clause-left
returns-clause-left g c rest are =
    let now = c.refill.new.self in
    let taken = one_taken result_of (On 0 0) now.ways now.next now.left (omega (arith, now.within)) c.if-self-eq0.false in
    c.refill.ensures.found _ (
      are.0,
      ap (λ later. c.result-found.result ∷ later) are.1
          ∙ ap (λ first. first ∷ (map result_of (take (now.left - 1) (drop (now.next + 1) now.ways)) ++ are.0)) c.result-found.ensures
          ∙ ap (λ held. held ++ are.0) (sym taken),
      are.2,
    )

pub returns-clause-stands : goal.returns-clause-stands
returns-clause-stands g c x is =
    let now = c.refill.new.self in
    let some = some_left now.left c.if-self-eq0.false in
    now.stand now.next (omega arith) (omega (arith, some)) x (sym c.result-found.ensures ∙ is)
