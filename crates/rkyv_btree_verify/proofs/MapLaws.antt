-- Maps are lawful where their keys and values are.
use Rattle.std.specs.Prelude.{◌≡◌, ℕ, ◌+◌, ◌≤◌, IsTrue, List, length}
use Rattle.std.proofs.Common.{refl, sym, ap, ◌∙◌, arith, inl, inr}
use Rattle.rkyv_btree_portable.specs.Bytes.{number_at}
use Rattle.rkyv_btree_verify.specs.Refusals.{RefusesMap}
use Rattle.rkyv_btree_portable.specs.Kind.{Kind, IsLawful, Leaving}
use Rattle.rkyv_btree_portable.specs.Refusing.{AreRefusals}
use Rattle.rkyv_btree_portable.specs.Rounding.{four}
use Rattle.rkyv_btree_portable.specs.Standing.{Lies}
use Rattle.rkyv_btree_verify.proofs.Faulty.{no_map, one_refusal}
use Rattle.rkyv_btree_format.proofs.Local.{map_local}
use Rattle.rkyv_btree_format.specs.Layout.{are_fitting}
use Rattle.rkyv_btree_verify.specs.Map.{map_kind}
use Rattle.rkyv_btree_format.proofs.Readings.{map_is_read}
use Rattle.rkyv_btree_verify.proofs.Root.{map_decides, map_within}
use Rattle.rkyv_btree_format.proofs.Sizes.{fitting_parts, sound_of}
use Rattle.rkyv_btree_format.specs.Spells.{Accepted}
use Rattle.rkyv_btree_format.specs.Read.{read_map}
use Rattle.rkyv_btree_portable.specs.Views.{stands}
use Rattle.rkyv_btree_portable.specs.laws.Views.{means_read}
use Rattle.rkyv_btree_format.proofs.Unique.{map_unique}
use Rattle.rkyv_btree_format.proofs.Widen.{map_widens}

pub leaving_of : {kind : Kind} → IsLawful kind → Leaving kind
leaving_of laws b lo hi at left v m = let l = laws.lies b lo hi at left v m in (l.forward, l.kept)

module _ (K V : Kind) (E : ℕ) (k : IsLawful K) (v : IsLawful V) where
  map_lies : (b : List ℕ) (lo hi at left : ℕ) (m : List (K.Value × V.Value)) → Accepted K V E b lo hi at left m → Lies b 8 4 lo hi at left
  map_lies b lo hi at left m a =
      let w = map_within K V E b lo hi at left m a in
      record { short = a.short; inside = a.room; aligned = a.aligned; forward = w.0; kept = w.1; before = a.before }

  pub map_laws : IsLawful (map_kind K V E)
  map_laws = record {
    alignment = four;
    whole = refl;
    size_fits = λ _. omega arith;
    lies = map_lies;
    local = λ fits b c lo hi at left m short.
        let f = fitting_parts K V E fits in
        map_local K V E b c short (k.local f.key) (v.local f.value) (leaving_of k) (leaving_of v) (sound_of K V E k v fits) lo hi at left m;
    widens = λ b. map_widens K V E b k.widens v.widens;
    one_meaning = λ b. map_unique K V E b k.one_meaning v.one_meaning;
    is_read = λ b. map_is_read K V E b k.is_read v.is_read;
    decides = λ fits.
        let f = fitting_parts K V E fits in
        map_decides K V E K.leaves V.leaves (k.decides f.key) (v.decides f.value) (sound_of K V E k v fits);
  }

  pub map_refusals : IsTrue (are_fitting K V E) → AreRefusals (map_kind K V E) (RefusesMap K V E)
  map_refusals fits =
      let f = fitting_parts K V E fits in
      let sound = sound_of K V E k v fits in
      record {
        no_meaning = λ b lo hi at e refuses left m a. no_map K V E K.leaves V.leaves b (k.decides f.key) (v.decides f.value) sound lo hi at left m e refuses a;
        one_refusal = λ b lo hi at e d p q. one_refusal K V E K.leaves V.leaves b (k.decides f.key) (v.decides f.value) sound lo hi at e d p q;
      }

  -- the length of the list that is read is the number that the map says
  pub map_length : (b : List ℕ) (pos : ℕ) → IsTrue (stands (map_kind K V E) b pos) → length (read_map K V E b pos) ≡ number_at b (pos + 4) 4
  map_length b pos h =
      let m = means_read map_laws b pos h in
      elim m.means.root [
        | inl e ↦ ap length e.1 ∙ sym e.0
        | inr r ↦ r.1.total
      ]

  pub map_room : (b : List ℕ) (pos : ℕ) → IsTrue (stands (map_kind K V E) b pos) → pos + 8 ≤ length b
  map_room b pos h = (means_read map_laws b pos h).means.room

  pub map_short : (b : List ℕ) (pos : ℕ) → IsTrue (stands (map_kind K V E) b pos) → length b ≤ 4294967295
  map_short b pos h = (means_read map_laws b pos h).means.short
