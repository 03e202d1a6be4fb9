-- Strict maps that are opened, at a position and as whole archives.
use Rattle.std.proofs.Common.{◌≡◌, ℕ, ◌≤◌, ◌<◌, List, length, ap, arith, refl, subst, sym}
use Rattle.std.specs.Prelude.{Result, Ok, Err, IfOk}
use Rattle.rkyv_btree_verify.proofs.MapLaws.{map_laws}
use Rattle.rkyv_btree_portable.specs.Kind.{Kind, IsLawful}
use Rattle.rkyv_btree_verify.specs.Map.{map_kind}
use Rattle.rkyv_btree_format.specs.Read.{read_map}
use Rattle.rkyv_btree_portable.specs.declared.refusal.Refusal.{Refusal}
use Rattle.rkyv_btree_portable.specs.declared.refusal.Refusal.TheVariants.{TooLong}
use Rattle.rkyv_btree_format.specs.OwnBytes.{own_at}
use Rattle.rkyv_btree_convert.proofs.Opened.{archive_short, refused_exactly, too_long_alone}
use Rattle.rkyv_btree_strict.proofs.Checked.{is_what_is_read}
use Rattle.rkyv_btree_strict.specs.Strict.{IsStrictMap, RefusesStrict}
use Rattle.rkyv_btree_strict.specs.StrictOpening.{IsStrictAccess, IsStrictArchive, IsStrictOpening}

module _ (K V : Kind) (E : ℕ) (k : IsLawful K) (v : IsLawful V) (b : List ℕ) (at : ℕ) where
  -- the list of a strict map is what is read
  pub strict_there : (m : List (K.Value × V.Value)) → IsStrictMap K V E b at m → IsStrictMap K V E b at (read_map K V E b at)
  strict_there m is = subst (λ (l : List (K.Value × V.Value)). IsStrictMap K V E b at l) (is_what_is_read K V E k v b 0 at at is.map.0 m is.map.1) is

module _ (K V : Kind) (E : ℕ) (b : List ℕ) (at : ℕ) {X Y : Type 0} where
  -- another value in the place of the one that is accepted
  pub access_ok : (x : X) (y : Y) → IsStrictAccess K V E b {X = X} at (Ok x) → IsStrictAccess K V E b {X = Y} at (Ok y)
  access_ok x y is = record {
    accepts = ((λ ok. is.accepts.0 refl), (λ m. refl));
    refuses = (λ e. ((λ err. absurd (cc err)), (λ r. let err = (is.refuses e).1 r in absurd (cc err))));
  }

  -- the same error of another result
  pub access_err : (f : Refusal) → IsStrictAccess K V E b {X = X} at (Err f) → IsStrictAccess K V E b {X = Y} at (Err f)
  access_err f is = record {
    accepts = ((λ ok. absurd (cc ok)), (λ m. let ok = is.accepts.1 m in absurd (cc ok)));
    refuses = (λ e. (
      (λ err. let same : f ≡ e = cc err in (is.refuses e).0 (ap Err same)),
      (λ r. let err = (is.refuses e).1 r in let same : f ≡ e = cc err in ap Err same),
    ));
  }

module _ (K V : Kind) (E : ℕ) (bytes : List ℕ) where
  -- a strict map at the place of own bytes is a strict archive
  strict_archive : (m : List (K.Value × V.Value)) → IsStrictMap K V E bytes (own_at (map_kind K V E) bytes) m → IsStrictArchive K V E bytes m
  strict_archive m is = let room = is.map.1.room in (record { room = omega arith; left = is.map.0; means = is.map.1 }, is.increasing)

  archive_strict : (m : List (K.Value × V.Value)) → IsStrictArchive K V E bytes m → IsStrictMap K V E bytes (own_at (map_kind K V E) bytes) m
  archive_strict m is = record { map = (is.0.left, is.0.means); increasing = is.1 }

  module _ {X : Type 0} (at : ℕ) (place : at ≡ own_at (map_kind K V E) bytes) where
    -- what is exact there is exact for the whole bytes
    pub opening : (r : Result X Refusal) → length bytes ≤ 4294967295 → IsStrictAccess K V E bytes at r → IsStrictOpening K V E bytes r
    opening r short access = record {
      accepts = (
        (λ ok. let is = access.accepts.0 ok in (is.0, strict_archive is.0 (subst (λ p. IsStrictMap K V E bytes p is.0) place is.1))),
        (λ is. access.accepts.1 (is.0, subst (λ p. IsStrictMap K V E bytes p is.0) (sym place) (archive_strict is.0 is.1))),
      );
      refuses = refused_exactly (map_kind K V E) (RefusesStrict K V E) bytes at r place short access.refuses;
    }

    -- and its list is that of the archive
    pub listed : (list : X → List (K.Value × V.Value)) (r : Result X Refusal) → IfOk r (λ x. IsStrictMap K V E bytes at (list x)) → IfOk r (λ x. IsStrictArchive K V E bytes (list x))
    listed list (Ok x) is = strict_archive (list x) (subst (λ p. IsStrictMap K V E bytes p (list x)) place is)
    listed list (Err e) is = tt

    pub placed : (pos : X → ℕ) (r : Result X Refusal) → IfOk r (λ x. pos x ≡ at) → IfOk r (λ x. pos x ≡ own_at (map_kind K V E) bytes)
    placed pos (Ok x) is = rw is place
    placed pos (Err e) is = tt

  -- another value in the place of the one that is opened
  pub opening_ok : {X Y : Type 0} (x : X) (y : Y) → IsStrictOpening K V E bytes {X = X} (Ok x) → IsStrictOpening K V E bytes {X = Y} (Ok y)
  opening_ok {X} {Y} x y opens = record {
    accepts = ((λ ok. opens.accepts.0 refl), (λ m. refl));
    refuses = (λ e. ((λ is. absurd (cc is)), (λ u. let is = (opens.refuses e).1 u in absurd (cc is))));
  }

  -- the same error of another result
  pub opening_err : {X Y : Type 0} (f : Refusal) → IsStrictOpening K V E bytes {X = X} (Err f) → IsStrictOpening K V E bytes {X = Y} (Err f)
  opening_err {X} {Y} f opens = record {
    accepts = ((λ ok. absurd (cc ok)), (λ m. let ok = opens.accepts.1 m in absurd (cc ok)));
    refuses = (λ e. (
      (λ is. let same : f ≡ e = cc is in (opens.refuses e).0 (ap Err same)),
      (λ u. let is = (opens.refuses e).1 u in let same : f ≡ e = cc is in ap Err same),
    ));
  }

  -- bytes that are too long have that error alone
  pub opening_long : {X : Type 0} → 4294967295 < length bytes → IsLawful K → IsLawful V → IsStrictOpening K V E bytes {X = X} (Err TooLong)
  opening_long {X} long k v = record {
    accepts = ((λ ok. absurd (cc ok)), (λ is. let short = archive_short (map_kind K V E) (map_laws K V E k v) bytes is.0 is.1.0 in absurd (omega (arith, short, long))));
    refuses = too_long_alone (map_kind K V E) (RefusesStrict K V E) bytes long;
  }
