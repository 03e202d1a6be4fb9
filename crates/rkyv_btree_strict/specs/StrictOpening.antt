-- What opens strict maps and sets: exactly those whose keys increase, and every other one with its own error.
use Rattle.std.specs.Prelude.{◌≡◌, ◌↔◌, ℕ, List, Result, Err, IsOk}
use Rattle.rkyv_btree_format.specs.Increasing.{Increasing}
use Rattle.rkyv_btree_portable.specs.Kind.{Kind}
use Rattle.rkyv_btree_verify.specs.Map.{map_kind}
use Rattle.rkyv_btree_portable.specs.declared.refusal.Refusal.{Refusal}
use Rattle.rkyv_btree_format.specs.OwnBytes.{IsArchiveOf}
use Rattle.rkyv_btree_convert.specs.Whole.{IsUnopened}
use Rattle.rkyv_btree_strict.specs.Strict.{IsStrictMap, RefusesStrict}

module _ (K V : Kind) (E : ℕ) (b : List ℕ) where
  -- the bytes are an archive of a map of these entries, whose keys increase
  abbrev pub IsStrictArchive : List (K.Value × V.Value) → Type 0
  IsStrictArchive m = IsArchiveOf (map_kind K V E) b m × Increasing K.order m

  module _ {X : Type 0} where
    -- the result at a position is `Ok` exactly for a map whose keys increase, and each error exactly for bytes with that error
    pub record IsStrictAccess (at : ℕ) (result : Result X Refusal) : Type 0 where
      pub accepts : IsOk result ↔ ((m : List (K.Value × V.Value)) × IsStrictMap K V E b at m)
      pub refuses : (e : Refusal) → (result ≡ Err e) ↔ RefusesStrict K V E b 0 at at e

    -- the result of the whole bytes is `Ok` exactly for an archive of a map whose keys increase, and each error exactly for bytes
    -- with that error
    pub record IsStrictOpening (result : Result X Refusal) : Type 0 where
      pub accepts : IsOk result ↔ ((m : List (K.Value × V.Value)) × IsStrictArchive m)
      pub refuses : (e : Refusal) → (result ≡ Err e) ↔ IsUnopened (map_kind K V E) (RefusesStrict K V E) b e
