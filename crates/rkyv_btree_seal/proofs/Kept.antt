-- What a write over one value of a node makes of its entries: that value is the one written, and all others stay.
use Rattle.std.proofs.Common.{◌≡◌, ℕ, zero, suc, ◌+◌, ◌*◌, ◌≤◌, ◌<◌, ◌⊎◌, inl, inr, IsTrue, List, [], ◌∷◌, length, refl, sym, ap, subst, ◌∙◌, arith, mul-le-mul_right}
use Rattle.rkyv_btree_portable.specs.Bytes.{bytes_at}
use Rattle.rkyv_btree_portable.specs.InPlace.{IsOwn, value_of}
use Rattle.rkyv_btree_portable.specs.Kind.{Kind, IsLawful}
use Rattle.rkyv_btree_format.specs.Layout.{layout_of, are_fitting, key_at, value_at, leaf_size}
use Rattle.rkyv_btree_format.specs.Spells.{Entries}
use Rattle.rkyv_btree_format.proofs.Local.{key_room, value_room}
use Rattle.rkyv_btree_format.proofs.Sizes.{sound_of, room_of}
use Rattle.rkyv_btree_portable.specs.InPlace.{LiesAlone}
use Rattle.rkyv_btree_seal.specs.Put.{put_value}
use Rattle.rkyv_btree_seal.proofs.Puts.{Wrote, earlier, later}

-- what the own bytes at a place mean
abbrev pub own_value : (V : Kind) → List ℕ → ℕ → V.Value
own_value V c q = value_of V (bytes_at c q V.size)

-- the buffer c is b but for a value's own bytes at q
module _ (K V : Kind) (E : ℕ) (b c : List ℕ) (k : IsLawful K) (v : IsLawful V) (alone : LiesAlone V) (fits : IsTrue (are_fitting K V E)) (short : length c ≤ 4294967295) (q : ℕ) (made : Wrote b c q V.size) (new : IsOwn V (bytes_at b q V.size) → IsOwn V (bytes_at c q V.size)) where
  -- the node's key number n, and its value number n, where the write is over value number j
  key_kept : (p n j lo mid : ℕ) (x : K.Value) → n < E → p + leaf_size (layout_of K V E) ≤ length b → q ≡ p + value_at (layout_of K V E) j → K.Means b lo p (p + key_at (layout_of K V E) n) mid x → K.Means c lo p (p + key_at (layout_of K V E) n) mid x
  key_kept p n j lo mid x index room at h =
      let s = layout_of K V E in
      let sizes = room_of K V E k v fits in
      let parts = sizes.parts in
      let inside = key_room s n (sound_of K V E k v fits) index in
      let kept = (k.lies b lo p (p + key_at s n) mid x h).kept in
      k.local sizes.key b c lo p (p + key_at s n) mid x short (earlier made lo mid (omega arith) (omega arith)) (earlier made (p + key_at s n) (p + key_at s n + K.size) (omega arith) (omega arith)) h

  value_kept : (p n j lo mid : ℕ) (x : V.Value) → n < E → (n < j) ⊎ (j < n) → p + leaf_size (layout_of K V E) ≤ length b → q ≡ p + value_at (layout_of K V E) j → V.Means b lo p (p + value_at (layout_of K V E) n) mid x → V.Means c lo p (p + value_at (layout_of K V E) n) mid x
  value_kept p n j lo mid x index other room at h =
      let s = layout_of K V E in
      let sizes = room_of K V E k v fits in
      let len = sizes.parts.len in
      let inside = value_room s n (sound_of K V E k v fits) index in
      let kept = (v.lies b lo p (p + value_at s n) mid x h).kept in
      let outlying = earlier made lo mid (omega arith) (omega arith) in
      elim other [
        | inl less ↦
            let apart : (n + 1) * s.value_size ≤ j * s.value_size = mul-le-mul_right s.value_size (omega arith) in
            v.local sizes.value b c lo p (p + value_at s n) mid x short outlying (earlier made (p + value_at s n) (p + value_at s n + V.size) (omega arith) (omega arith)) h
        | inr more ↦
            let apart : (j + 1) * s.value_size ≤ n * s.value_size = mul-le-mul_right s.value_size (omega arith) in
            v.local sizes.value b c lo p (p + value_at s n) mid x short outlying (later made (p + value_at s n) (p + value_at s n + V.size) (omega arith) (omega arith)) h
      ]

  -- the value that is written over
  value_put : (p lo mid : ℕ) (x : V.Value) → V.Means b lo p q mid x → V.Means c lo p q mid (own_value V c q) × IsOwn V (bytes_at b q V.size)
  value_put p lo mid x h =
      let lies = v.lies b lo p q mid x h in
      let old = alone.is_own b lo p q mid x h in
      let long = made.long in
      let means = (new old).means c lo p q short (omega (arith, lies.forward, lies.kept)) lies.before lies.aligned (omega (arith, lies.inside)) refl in
      (subst (λ (n : ℕ). V.Means c lo p q n (own_value V c q)) (sym (alone.unmoved b lo p q mid x h)) means, old)

  entries_kept : (m : List (K.Value × V.Value)) (p n j lo left : ℕ) → n + length m ≤ E → j < n → p + leaf_size (layout_of K V E) ≤ length b → q ≡ p + value_at (layout_of K V E) j → Entries K V E b p n lo left m → Entries K V E c p n lo left m
  entries_kept [] p n j lo left count less room at h = h
  entries_kept (e ∷ m) p n j lo left count less room at h =
      (h.0, h.1, key_kept p n j lo h.0 e.0 (omega arith) room at h.2, value_kept p n j h.0 h.1 e.1 (omega arith) (inr less) room at h.3, entries_kept m p (n + 1) j h.1 left (omega arith) (omega arith) room at h.4)

  pub entries_put : (m : List (K.Value × V.Value)) (p n j lo left i : ℕ) → n + length m ≤ E → i < length m → j ≡ n + i → p + leaf_size (layout_of K V E) ≤ length b → q ≡ p + value_at (layout_of K V E) j → Entries K V E b p n lo left m
      → Entries K V E c p n lo left (put_value m i (own_value V c q)) × IsOwn V (bytes_at b q V.size)
  entries_put [] p n j lo left i count index is room at h = absurd (omega arith)
  entries_put (e ∷ m) p n j lo left zero count index is room at h =
      let s = layout_of K V E in
      let same : j ≡ n = omega arith in
      let here : q ≡ p + value_at s n = at ∙ ap (λ (k : ℕ). p + value_at s k) same in
      let put = value_put p h.0 h.1 e.1 (subst (λ (x : ℕ). V.Means b h.0 p x h.1 e.1) (sym here) h.3) in
      ((h.0, h.1, key_kept p n j lo h.0 e.0 (omega arith) room at h.2, subst (λ (x : ℕ). V.Means c h.0 p x h.1 (own_value V c q)) here put.0, entries_kept m p (n + 1) j h.1 left (omega arith) (omega arith) room at h.4), put.1)
  entries_put (e ∷ m) p n j lo left (suc i) count index is room at h =
      let rest = entries_put m p (n + 1) j h.1 left i (omega arith) (omega arith) (omega arith) room at h.4 in
      ((h.0, h.1, key_kept p n j lo h.0 e.0 (omega arith) room at h.2, value_kept p n j h.0 h.1 e.1 (omega arith) (inl (omega arith)) room at h.3, rest.0), rest.1)
