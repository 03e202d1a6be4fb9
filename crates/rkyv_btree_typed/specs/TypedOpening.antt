-- Opening typed files.
use Rattle.std.specs.Prelude.{◌≡◌, ◌≢◌, ◌↔◌, ℕ, List, take, Option, Some, None, Result, IsOk, IfErr}
use Rattle.rkyv_btree_portable.specs.RefusalText.{refusal_text}
use Rattle.rkyv_btree_portable.specs.declared.refusal.Refusal.{Refusal}
use Rattle.rkyv_btree_typed.specs.TypeHeader.{HasHeader, IsUnheaded, header_text}
use Rattle.rkyv_btree_typed.specs.declared.type_check.TypedRefusal.{TypedRefusal}
use Rattle.rkyv_btree_typed.specs.declared.type_check.TypedRefusal.TheVariants.{Header, OtherType, Refused}

module _ {M : Type 0} (name bytes : List ℕ) where
  -- why the bytes have no header of this name
  abbrev pub IsMistyped : TypedRefusal M → Type 0
  IsMistyped (Header fault) = IsUnheaded bytes fault
  IsMistyped (OtherType other) = (found : List ℕ) × HasHeader found bytes × (found ≢ name) × (other.found ≡ take 128 found)
  IsMistyped (Refused refusal) = ⊥

  module _ (Opened : Type 0) (Unopened : Refusal → Type 0) where
    -- why bytes aren't opened as of this name: they have no such header, or they have it and aren't opened as an untyped archive is
    abbrev pub IsTypedRefused : TypedRefusal M → Type 0
    IsTypedRefused (Refused refusal) = HasHeader name bytes × Unopened refusal
    IsTypedRefused refusal = IsMistyped refusal

    -- the result is `Ok` exactly for bytes with the header of this name that are opened as an untyped archive is, and each error has its cause
    pub record IsTypedOpening {X : Type 0} (result : Result X (TypedRefusal M)) : Type 0 where
      pub accepts : IsOk result ↔ (HasHeader name bytes × Opened)
      pub refuses : IfErr result IsTypedRefused

-- what a refusal says; the text with two names isn't specified
abbrev pub typed_output : {M : Type 0} → TypedRefusal M → Option (List ℕ)
typed_output (Header fault) = Some (header_text fault)
typed_output (OtherType other) = None
typed_output (Refused refusal) = Some (refusal_text refusal)
