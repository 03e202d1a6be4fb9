-- What a range has left after a step of its walk.
use Rattle.std.proofs.Common.{◌≡◌, ◌∙◌, ℕ, ◌+◌, ◌-◌, ◌≤◌, ◌<◌, List, ◌∷◌, map, Option, Some, None, Result, Ok, Err, IfOk, false, refl, sym, ap, arith}
use Rattle.std.specs.declared.cmp.Ordering.{Ordering}
use Rattle.std.specs.Ordering.{is_le, is_lt}
use Rattle.std.specs.declared.ops.Bound.{Bound}
use Rattle.std.specs.declared.ops.Bound.TheVariants.{Included, Excluded, Unbounded}
use Rattle.rkyv_btree_format.specs.Read.{entry_at}
use Rattle.rkyv_btree_portable.specs.Kind.{Kind}
use Rattle.rkyv_btree_portable.specs.declared.refusal.Refusal.{Refusal}
use Rattle.rkyv_btree_source.proofs.Stepping.{not_over}
use Rattle.rkyv_btree_source.proofs.Walks.{compared_there, unread_on}
use Rattle.rkyv_btree_source.specs.SourceRange.{BringsFirst, BringsNext, entries_to_come, most_to_come, places_to_come}
use Rattle.rkyv_btree_source.specs.declared.fault.SourceFault.{SourceFault}
use Rattle.rkyv_btree_source.specs.declared.fault.SourceFault.TheVariants.{Refused, Read, NoRoom, OverBudget}
use Rattle.rkyv_btree_source.specs.declared.walk.Brought.{Brought}
use Rattle.rkyv_btree_source.specs.mirror.Walking.{StepGives, Waits, refuses}
use Rattle.rkyv_btree_unverified.proofs.Lent.{most_less}
use Rattle.rkyv_btree_unverified.proofs.OnWays.{places_are, way_takes, way_finishes}
use Rattle.rkyv_btree_unverified.proofs.Until.{until_goes}
use Rattle.rkyv_btree_unverified.specs.EntriesFrom.{is_past_place, past_place}
use Rattle.rkyv_btree_unverified.specs.Left.{most_entries, most_of, once_over}
use Rattle.rkyv_btree_unverified.specs.Ways.{places_left}
use Rattle.rkyv_btree_unverified.specs.declared.walk.Phase.{Phase}
use Rattle.rkyv_btree_unverified.specs.declared.walk.Phase.TheVariants.{Descend, Advance, Over}
use Rattle.rkyv_btree_unverified.specs.declared.walk.UnverifiedWalk.{UnverifiedWalk}
use Rattle.rkyv_btree_unverified.specs.mirror.Walked.{IsCounted, IsUnverifiedWalk, most_at, walk_most}
use Rattle.rkyv_btree_view.specs.Query.{ComparesAs}

-- once an entry is taken, no more are left than there can be
next_fits : (E most : ℕ) (p q : Phase) (w t : UnverifiedWalk) → most_at E p w ≤ once_over p 0 (most - w.taken) → most_at E q t < most_at E p w → t.taken ≡ w.taken + 1 → most_at E q t ≤ once_over q 0 (most - t.taken)
next_fits E most Over q w t le less more = absurd (omega (arith, less))
next_fits E most Descend Descend w t le less more = omega (arith, le, less, more)
next_fits E most Descend Advance w t le less more = omega (arith, le, less, more)
next_fits E most Descend Over w t le less more = omega arith
next_fits E most Advance Descend w t le less more = omega (arith, le, less, more)
next_fits E most Advance Advance w t le less more = omega (arith, le, less, more)
next_fits E most Advance Over w t le less more = omega arith

at_most : (p : Phase) (n m : ℕ) → n ≤ once_over p 0 m → n ≤ m
at_most Descend n m h = h
at_most Advance n m h = h
at_most Over n m h = omega (arith, h)

module _ (K V : Kind) (E : ℕ) (b : List ℕ) (at : ℕ) (old new : UnverifiedWalk) (counted : IsCounted K V E b at old) where
  -- a walk that waits counts as it did
  waiting_counts : Waits K V E b at old new → IsCounted K V E b at new
  waiting_counts w =
      let all : most_of K V E b new ≡ most_entries K V E b - new.taken = not_over new.phase 0 (most_entries K V E b - new.taken) w.begun in
      let before = at_most old.phase (walk_most E old) (most_entries K V E b - old.taken) counted.most in
      let less = w.most in
      let same = w.taken in
      record { walks = w.walks; most = omega (arith, all, before, less, same) }

  module _ (KR VR : List ℕ → ℕ → ℕ → ℕ → Refusal → Type 0) (room : List ℕ) {X : Type 0} where
    -- and so does each that refuses nothing
    pub counts_on : (r : Result (Option Brought) (SourceFault X)) → StepGives K V E b KR VR at old new room r → IfOk r (λ x. IsUnverifiedWalk K V E b at new) → refuses r ≡ false → IsCounted K V E b at new
    counts_on (Ok None) s walks none = let over = s.over in record { walks = walks; most = rw over (omega arith) }
    counts_on (Ok (Some e)) s walks none = record { walks = walks; most = next_fits E (most_entries K V E b) old.phase new.phase old new counted.most s.1.less s.1.more }
    counts_on (Err (Refused r)) s walks none = absurd (cc none)
    counts_on (Err (Read e)) s walks none = waiting_counts s.1
    counts_on (Err (NoRoom n)) s walks none = waiting_counts s.1
    counts_on (Err OverBudget) s walks none = waiting_counts s.1

    module _ {T : Type 0} (compared : T → List ℕ → ℕ → Ordering) (low high : Bound T) (before : Option UnverifiedWalk)
        (sought : places_left K V E b at old ≡ places_to_come K V E b at compared low high before) (most : most_of K V E b old ≤ most_to_come K V E b at before) where
      -- what it has left is what was to come, without what it brings
      pub brings_on : (r : Result (Option Brought) (SourceFault X)) → StepGives K V E b KR VR at old new room r → IfOk r (λ x. IsUnverifiedWalk K V E b at new)
          → BringsNext K V E b at compared low high KR VR before (Some new) room r
      brings_on (Ok None) s walks = (sym sought ∙ way_finishes K V E b at old new counted.walks s, let over = s.over in rw over refl)
      brings_on (Ok (Some e)) s walks =
          let less = most_less K V E b at old new counted s.0 s.1 in
          record {
            place = s.0;
            places = sym sought ∙ way_takes K V E b at old new s.0 counted.walks walks s.1;
            reads = s.2;
            less = omega (arith, less, most);
          }
      brings_on (Err fault) s walks = (
        s.0,
        unread_on (Waits K V E b at old new) _ (λ w. sym (places_are K V E b at new w.walks) ∙ (w.rest ∙ (places_are K V E b at old counted.walks ∙ sought))) fault s.1,
      )

-- where all is refused, what is left isn't said
pub refused_alike : (K V : Kind) (E : ℕ) (b : List ℕ) (at : ℕ) (KR VR : List ℕ → ℕ → ℕ → ℕ → Refusal → Type 0) (room : List ℕ) {T X : Type 0} (compared : T → List ℕ → ℕ → Ordering) (low high : Bound T)
    (before some none : Option UnverifiedWalk) (r : Result (Option Brought) (SourceFault X)) → ¬ (refuses r ≡ false) → BringsNext K V E b at compared low high KR VR before some room r
    → BringsNext K V E b at compared low high KR VR before none room r
refused_alike K V E b at KR VR room compared low high before some none (Ok x) other h = absurd (other refl)
refused_alike K V E b at KR VR room compared low high before some none (Err (Refused r)) other h = h
refused_alike K V E b at KR VR room compared low high before some none (Err (Read e)) other h = absurd (other refl)
refused_alike K V E b at KR VR room compared low high before some none (Err (NoRoom n)) other h = absurd (other refl)
refused_alike K V E b at KR VR room compared low high before some none (Err OverBudget) other h = absurd (other refl)

-- a key that was brought is past a bound where it is so where it was brought from
pub past_alike : {T : Type 0} {K : Kind} {compared_at : T → List ℕ → ℕ → Ordering} → ComparesAs K compared_at → (high : Bound T) (room b : List ℕ) (place at : ℕ) → K.read room place ≡ K.read b at
    → is_past_place compared_at room high place ≡ is_past_place compared_at b high at
past_alike law Unbounded room b place at same = refl
past_alike law (Included n) room b place at same = ap is_lt (compared_there law n room b place at same)
past_alike law (Excluded n) room b place at same = ap is_le (compared_there law n room b place at same)

-- an entry that isn't past the range is the first that it has left
pub first_yields : (K V : Kind) (E : ℕ) (b : List ℕ) (at : ℕ) {T : Type 0} (compared : T → List ℕ → ℕ → Ordering) (low high : Bound T) (KR VR : List ℕ → ℕ → ℕ → ℕ → Refusal → Type 0) (old new : Option UnverifiedWalk)
    (room : List ℕ) (e : Brought) (first : BringsFirst K V E b at compared low high KR VR old new room e) (entry : K.Value × V.Value) → entry ≡ entry_at K V E b first.place → past_place K V E compared b high first.place ≡ false
    → entries_to_come K V E b at compared low high old ≡ entry ∷ entries_to_come K V E b at compared low high new
first_yields K V E b at compared low high KR VR old new room e first entry is goes =
    let past = past_place K V E compared b high in
    ap (map (entry_at K V E b)) (until_goes past first.place _ _ first.places goes) ∙ ap (λ x. x ∷ entries_to_come K V E b at compared low high new) (sym is)

pub both_same : {A B : Type 0} {a c : A} {d f : B} → a ≡ c → d ≡ f → ◌≡◌ {A = A × B} (a, d) (c, f)
both_same same alike = rw (same, alike) refl
