-- What the way to the last entry of a map in a source gives, as its bytes say it. This mirrors the code.
use Rattle.std.specs.Prelude.{◌≡◌, ℕ, List, Option, Some, None, Result, Ok, Err}
use Rattle.rkyv_btree_portable.specs.Kind.{Kind}
use Rattle.rkyv_btree_portable.specs.declared.refusal.Refusal.{Refusal}
use Rattle.rkyv_btree_source.specs.LastEntry.{EndRefuses, LastFails, last_place}
use Rattle.rkyv_btree_source.specs.Reading.{IfRefused}
use Rattle.rkyv_btree_source.specs.declared.fault.SourceFault.{SourceFault}
use Rattle.rkyv_btree_source.specs.declared.walk.Brought.{Brought}
use Rattle.rkyv_btree_source.specs.mirror.Walking.{ReadsAs}
use Rattle.rkyv_btree_unverified.specs.Steps.{ChildGives, NodeGives}

module _ (K V : Kind) (E : ℕ) (b : List ℕ) where
  -- how many entries the node at p in front of hi has, and the child after them
  abbrev pub EndGives : (hi p : ℕ) → Result (ℕ × Option ℕ) Refusal → Type 0
  EndGives hi p (Ok end) = NodeGives K V E b hi p (Ok end.0) × ChildGives K V E b hi p end.0 (Ok end.1)
  EndGives hi p (Err r) = EndRefuses K V E b hi p r

  module _ (KR VR : List ℕ → ℕ → ℕ → ℕ → Refusal → Type 0) (at : ℕ) where
    -- where the last entry is
    abbrev pub LastGives : {X : Type 0} → Result (Option (ℕ × ℕ)) (SourceFault X) → Type 0
    LastGives (Ok last) = last_place K V E b at ≡ last
    LastGives (Err fault) = IfRefused (LastFails K V E b at KR VR) fault

    -- and where it was brought to
    abbrev pub BringsLast : {X : Type 0} → List ℕ → Result (Option Brought) (SourceFault X) → Type 0
    BringsLast room (Ok None) = last_place K V E b at ≡ None
    BringsLast room (Ok (Some e)) = (place : ℕ × ℕ) × (last_place K V E b at ≡ Some place) × ReadsAs K V E b room e place
    BringsLast room (Err fault) = IfRefused (LastFails K V E b at KR VR) fault
