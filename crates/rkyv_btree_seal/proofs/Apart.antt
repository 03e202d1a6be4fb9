-- A value of a map shares no byte with what is read of other entries, of the entry's key and of its node.
use Rattle.std.proofs.Common.{◌≡◌, ◌≢◌, ℕ, ◌+◌, ◌*◌, ◌≤◌, ◌<◌, ◌⊎◌, inl, inr, IsTrue, List, sym, ap, arith, Some, slice_get, slice_index, nat_eq, mul-le-mul_right}
use Rattle.std.proofs.lemmas.Bool.{cases_lt, cases_Bool}
use Rattle.rkyv_btree_portable.specs.Kind.{Kind, IsLawful}
use Rattle.rkyv_btree_format.specs.Layout.{layout_of, keys_at, values_at, key_at, value_at, are_fitting, len_at}
use Rattle.rkyv_btree_format.proofs.Local.{key_room, value_room}
use Rattle.rkyv_btree_format.proofs.Sizes.{follow, sound_of}
use Rattle.rkyv_btree_seal.specs.Apart.{ValueIsApart, ValuesAreApart}
use Rattle.rkyv_btree_walk.specs.EntryPlaces.{entry_places, size_at}
use Rattle.rkyv_btree_walk.proofs.NodesApart.{StandsIn, Others, map_stands}
use Rattle.rkyv_btree_walk.proofs.Pairs.{Pairs, each_get, pairs_get}

module _ (K V : Kind) (E : ℕ) (b : List ℕ) where
  -- in numbers, where the parts of an entry stand in its node
  record Parts (e : ℕ × ℕ) : Type 0 where
    kind : 1 ≤ keys_at (layout_of K V E)
    key : key_at (layout_of K V E) e.1 + K.size ≤ values_at (layout_of K V E)
    value : value_at (layout_of K V E) e.1 + V.size ≤ len_at (layout_of K V E)
    size : len_at (layout_of K V E) ≤ size_at (layout_of K V E) b e.0
    keys : keys_at (layout_of K V E) ≤ values_at (layout_of K V E)

  module _ (k : IsLawful K) (v : IsLawful V) (fits : IsTrue (are_fitting K V E)) where
    parts_of : (e : ℕ × ℕ) → e.1 < E → Parts e
    parts_of e few =
        let s = layout_of K V E in
        let sound = sound_of K V E k v fits in
        let parts = follow s sound in
        record {
          kind = parts.kind;
          key = key_room s e.1 sound few;
          value = value_room s e.1 sound few;
          size = elim (cases_Bool (nat_eq (slice_index b e.0) 0)) [
            | inl is ↦ rw is (omega (arith, parts.len))
            | inr is ↦ rw is (omega (arith, parts.len, parts.leaf))
          ];
          keys = omega (arith, parts.keys);
        }

    -- two entries of one node, the same one or at other numbers, or of nodes beside each other
    abbrev Meet : ℕ → ℕ → ℕ × ℕ → ℕ × ℕ → Type 0
    Meet i j e f = ((e.0 ≡ f.0) × (i ≢ j → (e.1 < f.1) ⊎ (f.1 < e.1))) ⊎ ((e.0 + size_at (layout_of K V E) b e.0 ≤ f.0) ⊎ (f.0 + size_at (layout_of K V E) b f.0 ≤ e.0))

    met : (i j : ℕ) (e f : ℕ × ℕ) → Parts e → Parts f → Meet i j e f → ValueIsApart K V E b i j e f
    met i j e f one other (inl w) =
        let size = one.value in
        let size2 = other.value in
        let key = other.key in
        let kind = other.kind in
        let keys = other.keys in
        let node = w.0 in
        record {
          value = λ apart. elim (w.1 apart) [
            | inl less ↦ let after : (e.1 + 1) * V.size ≤ f.1 * V.size = mul-le-mul_right V.size (omega arith) in (λ x first past first2 past2. omega arith)
            | inr more ↦ let after : (f.1 + 1) * V.size ≤ e.1 * V.size = mul-le-mul_right V.size (omega arith) in (λ x first past first2 past2. omega arith)
          ];
          key = λ x first past first2 past2. omega arith;
          kind = λ x first past first2 past2. omega arith;
          tail = λ x first past first2 past2. omega arith;
        }
    met i j e f one other (inr (inl w)) =
        let value = one.value in
        let size = one.size in
        record {
          value = λ apart x first past first2 past2. omega arith;
          key = λ x first past first2 past2. omega arith;
          kind = λ x first past first2 past2. omega arith;
          tail = λ x first past first2 past2. omega arith;
        }
    met i j e f one other (inr (inr w)) =
        let value = other.value in
        let key = other.key in
        let kind = other.kind in
        let keys = other.keys in
        let size = other.size in
        record {
          value = λ apart x first past first2 past2. omega arith;
          key = λ x first past first2 past2. omega arith;
          kind = λ x first past first2 past2. omega arith;
          tail = λ x first past first2 past2. omega arith;
        }

    -- any two entries of a list that stands meet so
    meet : (es : List (ℕ × ℕ)) (i j : ℕ) (e f : ℕ × ℕ) → Pairs (Others K V E b) es → slice_get es i ≡ Some e → slice_get es j ≡ Some f → Meet i j e f
    meet es i j e f pairs is at =
        elim (cases_lt i j) [
          | inl less ↦ elim (pairs_get (Others K V E b) es i j e f pairs less is at) [
            | inl w ↦ inl (w.0, λ apart. inl w.1)
            | inr w ↦ inr w
          ]
          | inr not_less ↦ elim (cases_lt j i) [
            | inl less ↦ elim (pairs_get (Others K V E b) es j i f e pairs less at is) [
              | inl w ↦ inl (sym w.0, λ apart. inr w.1)
              | inr (inl w) ↦ inr (inr w)
              | inr (inr w) ↦ inr (inl w)
            ]
            | inr not_more ↦
                let same : i ≡ j = omega arith in
                let one : e ≡ f = cc in
                inl (ap (λ (x : ℕ × ℕ). x.0) one, λ apart. absurd (apart same))
          ]
        ]

pub values_apart : (K V : Kind) (E : ℕ) → IsLawful K → IsLawful V → IsTrue (are_fitting K V E) → ValuesAreApart K V E
values_apart K V E k v fits b lo hi at left m a i j e f is same =
    let es = entry_places K V E b at in
    let stands = map_stands K V E b lo hi at left m a in
    let one = each_get (StandsIn K V E b lo stands.0) es i e stands.1.each is in
    let other = each_get (StandsIn K V E b lo stands.0) es j f stands.1.each same in
    met K V E b k v fits i j e f (parts_of K V E b k v fits e one.few) (parts_of K V E b k v fits f other.few) (meet K V E b k v fits es i j e f stands.1.pairs is same)
