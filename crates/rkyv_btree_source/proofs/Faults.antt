-- How faults of the steps become those of a lookup, and what the steps that succeed make up.
use Rattle.std.proofs.Common.{◌≡◌, ◌∙◌, ◌<◌, ◌≤◌, arith, ℕ, IsTrue, List, Option, Some, Result, Ok, Err, sym, ap, subst}
use Rattle.std.specs.declared.cmp.Ordering.{Ordering}
use Rattle.std.specs.declared.cmp.Ordering.TheVariants.{Equal}
use Rattle.rkyv_btree_portable.specs.Kind.{Kind}
use Rattle.rkyv_btree_portable.specs.declared.refusal.Refusal.{Refusal}
use Rattle.rkyv_btree_portable.specs.Views.{stands}
use Rattle.rkyv_btree_source.specs.Reading.{GivesBy, IfRefused, IsCaused}
use Rattle.rkyv_btree_source.specs.Reads.{IsLacking}
use Rattle.rkyv_btree_source.specs.declared.fault.SourceFault.{SourceFault}
use Rattle.rkyv_btree_source.specs.declared.fault.SourceFault.TheVariants.{Refused, Read, NoRoom, OverBudget}
use Rattle.rkyv_btree_source.specs.declared.search.Hit.{Hit}
use Rattle.rkyv_btree_source.specs.declared.search.Step.{Step}
use Rattle.rkyv_btree_source.specs.declared.search.Step.TheVariants.{Ends, Below}
use Rattle.rkyv_btree_source.specs.mirror.Found.{entry_of, StepStands}
use Rattle.rkyv_btree_unverified.proofs.Goes.{keys_refuse}
use Rattle.rkyv_btree_unverified.proofs.Passes.{gives_at}
use Rattle.rkyv_btree_unverified.specs.Lookups.{LookupGives, TreeGives}
use Rattle.rkyv_btree_unverified.specs.Steps.{key_place, value_place, Asks, Gives, HasRoom, HeadGives, KeysGive, bad_key, bad_value, NodeGives}
use Rattle.rkyv_btree_unverified.specs.mirror.Passes.{NextGives}

-- what follows from each refusal follows from a fault
pub passes_on : {X : Type 0} (P Q : Refusal → Type 0) → ((e : Refusal) → P e → Q e) → (fault : SourceFault X) → IfRefused P fault → IfRefused Q fault
passes_on P Q on (Refused e) h = on e h
passes_on P Q on (Read e) h = tt
passes_on P Q on (NoRoom n) h = tt
passes_on P Q on OverBudget h = tt

module _ (K V : Kind) (E : ℕ) (b : List ℕ) (comparison : K.Value → Ordering) where
  -- a key that was brought gives what it gives where it was brought to
  pub gives_there : (o w : Ordering) (p i at : ℕ) (room : List ℕ) (place : ℕ) → at ≡ key_place K V E (p, i) → IsTrue (stands K b at) × (K.read room place ≡ K.read b at)
      → w ≡ comparison (K.read room place) → w ≡ o → Gives K V E b comparison o (p, i)
  gives_there o w p i at room place same brought law is = gives_at K V E b comparison o (p, i) at same brought.0 (ap comparison (sym brought.1) ∙ (sym law ∙ is))

  module _ (KR VR : List ℕ → ℕ → ℕ → ℕ → Refusal → Type 0) where
    module _ (p n i : ℕ) (asks : Asks K V E b comparison p n i) {X : Type 0} (fault : SourceFault X) (at : ℕ) where
      pub key_fault : at ≡ key_place K V E (p, i) → IfRefused (KR b 0 at at) fault → IfRefused (λ e. KeysGive K V E b comparison KR VR p n (Err e)) fault
      key_fault same h =
          passes_on (KR b 0 at at) (λ e. KeysGive K V E b comparison KR VR p n (Err e))
          (λ e bad. bad_key asks (subst (λ x. KR b 0 x x e) same bad)) fault h

      pub value_fault : at ≡ value_place K V E (p, i) → Gives K V E b comparison Equal (p, i) → IfRefused (VR b 0 at at) fault → IfRefused (λ e. KeysGive K V E b comparison KR VR p n (Err e)) fault
      value_fault same gives h =
          passes_on (VR b 0 at at) (λ e. KeysGive K V E b comparison KR VR p n (Err e))
          (λ e bad. bad_value asks gives (subst (λ x. VR b 0 x x e) same bad)) fault h

    pub keys_fault : (m hi p n : ℕ) → NodeGives K V E b hi p (Ok n) → {X : Type 0} (fault : SourceFault X) → IfRefused (λ e. KeysGive K V E b comparison KR VR p n (Err e)) fault
        → IfRefused (λ e. NextGives K V E b comparison KR VR m hi p (Err e)) fault
    keys_fault m hi p n node fault h =
        passes_on (λ e. KeysGive K V E b comparison KR VR p n (Err e)) (λ e. NextGives K V E b comparison KR VR m hi p (Err e))
        (λ e bad. keys_refuse K V E b comparison KR VR m hi p n node e bad) fault h

    -- what the search of the tree at the map's root returns
    pub of_root : (at q : ℕ) → HeadGives K V E b at (Ok (Some q)) → {X : Type 0} (r : Result (Option Hit) (SourceFault X)) → GivesBy entry_of (TreeGives K V E b comparison KR VR 32 at q) r
        → GivesBy entry_of (LookupGives K V E b comparison KR VR at) r
    of_root at q head (Ok found) h = record { result = Ok (Some q); gives = head; goes_on = h }
    of_root at q head (Err fault) h =
        passes_on (λ e. TreeGives K V E b comparison KR VR 32 at q (Err e)) (λ e. LookupGives K V E b comparison KR VR at (Err e))
        (λ e bad. record { result = Ok (Some q); gives = head; goes_on = bad }) fault h

module _ (K V : Kind) (E : ℕ) (room : List ℕ) (p : ℕ) (step : Step) (h : StepStands K V E room p step) where
  pub ends_here : (hit : Hit) → step ≡ Ends hit → hit.node ≡ p
  ends_here hit is = let there : StepStands K V E room p (Ends hit) = rw is at h in there.1

  pub room_below : (q : ℕ) → step ≡ Below q → HasRoom K V E p q
  room_below q is = rw is at h

-- what is caused by a bound is caused by a greater one
pub caused_within : (end further node room left : ℕ) {X : Type 0} (fault : SourceFault X) → end ≤ further → IsCaused end node room left fault → IsCaused further node room left fault
caused_within end further node room left (Refused e) more h = tt
caused_within end further node room left (Read e) more h = tt
caused_within end further node room left (NoRoom n) more h = let small = h.2 in (h.0, h.1, omega (arith, more, small))
caused_within end further node room left OverBudget more h = omega (arith, more, h)

-- the map's own bytes need no room
pub head_within : (before after room : ℕ) {X : Type 0} (fault : SourceFault X) → after ≤ before → IsLacking (λ (n : ℕ). ⊥) (before < 8) fault → IsCaused 4294967295 0 room after fault
head_within before after room (Refused e) less h = tt
head_within before after room (Read e) less h = tt
head_within before after room (NoRoom n) less h = absurd h
head_within before after room OverBudget less h = omega (arith, less, h)
