-- Typed files that are made native again.
use Rattle.std.specs.Prelude.{ℕ, List, Option, Some, Result}
use Rattle.rkyv_btree_convert.specs.Deserializing.{IsRefused, deserialize_text}
use Rattle.rkyv_btree_convert.specs.Whole.{IsUnopened}
use Rattle.rkyv_btree_format.specs.OwnBytes.{IsArchiveOf, own_at}
use Rattle.rkyv_btree_portable.specs.Kind.{Kind}
use Rattle.rkyv_btree_portable.specs.declared.refusal.Refusal.{Refusal}
use Rattle.rkyv_btree_typed.specs.TypeHeader.{HasHeader}
use Rattle.rkyv_btree_typed.specs.TypedOpening.{IsTypedRefused, typed_output}
use Rattle.rkyv_btree_typed.specs.declared.from_typed.FromTypedFault.{FromTypedFault}
use Rattle.rkyv_btree_typed.specs.declared.from_typed.FromTypedFault.TheVariants.{Refused, NotMade}
use Rattle.rkyv_btree_writer.specs.declared.fault.EntryFault.{EntryFault}

-- what a fault says
abbrev pub made_output : {M : Type 0} → FromTypedFault M → Option (List ℕ)
made_output (Refused refusal) = typed_output refusal
made_output (NotMade fault) = Some (deserialize_text fault)

module _ (kind : Kind) (name : List ℕ) (Refuses : List ℕ → ℕ → ℕ → ℕ → Refusal → Type 0) where
  -- why no native value is made of bytes: they aren't opened as of this name, or what the file holds gives none
  abbrev pub IsTypedUnmade : {M H : Type 0} → (List ℕ → ℕ → Result H EntryFault) → List ℕ → FromTypedFault M → Type 0
  IsTypedUnmade native bytes (Refused refusal) = IsTypedRefused name bytes ((v : kind.Value) × IsArchiveOf kind bytes v) (IsUnopened kind Refuses bytes) refusal
  IsTypedUnmade native bytes (NotMade fault) = HasHeader name bytes × ((v : kind.Value) × IsArchiveOf kind bytes v) × IsRefused (native bytes (own_at kind bytes)) fault
