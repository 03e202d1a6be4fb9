-- An option is archived by what archives its value.
use Rattle.std.specs.Prelude.{◌≡◌, ℕ, ◌+◌, ◌-◌, ◌≤◌, ◌<◌, ◌^◌, ◌&&◌, Bool, List, [], ◌∷◌, ◌++◌, length, Option, Some, None, option_map, slice_index, nat_lt}
use Rattle.std.proofs.Common.{suc, zero, arith, refl, ap, subst, ◌∙◌, length-append}
use Rattle.rkyv_btree_archive.specs.OptionArchival.{option_archival}
use Rattle.rkyv_btree_compound.specs.Option.{option_size, MeansTagged, MeansOption, option_kind}
use Rattle.rkyv_btree_compound.specs.laws.OptionLaws.{fitting_option, aligned_self, option_of}
use Rattle.rkyv_btree_portable.specs.Bytes.{Holds, zeros, filled}
use Rattle.rkyv_btree_portable.specs.Kind.{Kind, IsLawful}
use Rattle.rkyv_btree_portable.specs.Standing.{IsAligned}
use Rattle.rkyv_btree_portable.specs.laws.Holding.{Holds-back, first-held, length-zeros, length-filled}
use Rattle.rkyv_btree_portable.specs.laws.Rounding.{alignment_positive, aligned_add}
use Rattle.rkyv_btree_writer.specs.Archiving.{Archival, Matches, IsArchived}
use Rattle.rkyv_btree_writer.specs.Writing.{Write, appended}

-- two options whose values lie alike
module _ (K A : Kind) (k : Matches K A) where
  pub same_option_size : option_size K ≡ option_size A
  same_option_size = let a = k.size in let b = k.align in cc

  same_tagged : (b : List ℕ) (lo hi at left : ℕ) (o : Option K.Value) → MeansTagged K b lo hi at left o → MeansTagged A b lo hi at left (option_map k.to o)
  same_tagged b lo hi at left None m = m
  same_tagged b lo hi at left (Some v) m = (m.0, subst (λ n. A.Means b lo hi (at + n) left (k.to v)) k.align (k.means b lo hi (at + K.align) left v m.1))

  fitting : (a a2 : Bool) (m n : ℕ) → a ≡ a2 → m ≡ n → (a && nat_lt m (2 ^ 32)) ≡ (a2 && nat_lt n (2 ^ 32))
  fitting a a2 m n p q = cc

  pub same_option : Matches (option_kind K) (option_kind A)
  same_option = record {
    to = option_map k.to;
    size = same_option_size;
    align = k.align;
    fits = fitting K.is_fitting A.is_fitting (option_size K) (option_size A) k.fits same_option_size;
    means = λ b lo hi at left o m.
        let l = m.lies in
        let size = same_option_size in
        record {
          lies = record { short = l.short; inside = omega arith; aligned = subst (λ a. IsAligned a at) k.align l.aligned; forward = l.forward; kept = l.kept; before = l.before };
          tagged = same_tagged b lo hi at left o m.tagged;
        };
  }

zeros_begin : (n : ℕ) → 0 < n → zeros n ≡ 0 ∷ zeros (n - 1)
zeros_begin zero h = absurd (omega arith)
zeros_begin (suc n) h =
    let less : n ≡ suc n - 1 = omega arith in
    ap (λ k. 0 ∷ zeros k) less

module _ {M R : Type 0} (T : Archival M R) (t : IsLawful T.kind) where
  -- the place of the value's own bytes
  pub front_length : length (filled (1 ∷ []) T.kind.align) ≡ T.kind.align
  front_length =
      let positive = alignment_positive t.alignment in
      length-filled (1 ∷ []) T.kind.align (omega (arith, positive))

  pub value_held : (b : List ℕ) (at : ℕ) (own value : List ℕ) → own ≡ filled (1 ∷ []) T.kind.align ++ value → Holds b at own → Holds b (at + T.kind.align) value
  value_held b at own value parts there = subst (λ n. Holds b (at + n) value) front_length (Holds-back b at (filled (1 ∷ []) T.kind.align) value (subst (Holds b at) parts there))

  none_held : (b : List ℕ) (at : ℕ) (own : List ℕ) → own ≡ zeros (option_size T.kind) → Holds b at own → slice_index b at ≡ 0
  none_held b at own parts there =
      let positive = alignment_positive t.alignment in
      first-held b at 0 (zeros (option_size T.kind - 1)) (subst (Holds b at) (parts ∙ zeros_begin (option_size T.kind) (omega (arith, positive))) there)

  some_held : (b : List ℕ) (at : ℕ) (own value : List ℕ) → own ≡ filled (1 ∷ []) T.kind.align ++ value → Holds b at own → slice_index b at ≡ 1
  some_held b at own value parts there = first-held b at 1 (zeros (T.kind.align - 1) ++ value) (subst (Holds b at) parts there)

  -- no value in the window of what was written
  none_means : (b : List ℕ) (from at : ℕ) (writes : List Write) (own : List ℕ) → own ≡ zeros (option_size T.kind) → length b ≤ 4294967295 → IsAligned T.kind.align at → from + length (appended writes) ≤ at → at + option_size T.kind ≤ length b → Holds b at own
      → MeansOption T.kind b from (from + length (appended writes)) at from None
  none_means b from at writes own parts short aligned before inside there =
      option_of T.kind t b from (from + length (appended writes)) at from None (omega arith) (omega arith) before (record { short = short; room = inside; aligned = aligned }) (none_held b at own parts there, refl)

  module _ (is_value : IsArchived T) where
    pub option_archived : IsArchived (option_archival T)
    option_archived None from at writes None own is_in w o = (
      ap length o ∙ length-zeros (option_size T.kind),
      λ fits b reach short aligned before inside held there. (from, none_means b from at writes own o short aligned before inside there),
    )
    option_archived None from at writes (Some r) own is_in w o = absurd w
    option_archived (Some x) from at writes None own is_in w o = absurd w
    option_archived (Some x) from at writes (Some r) own is_in w o =
        let value = is_value x from (at + T.kind.align) writes r o.0 is_in w o.1 in (
          ap length o.2 ∙ (length-append (filled (1 ∷ []) T.kind.align) o.0 ∙ omega (arith, front_length, value.0)),
          λ fits b reach short aligned before inside held there.
              let place = aligned_add T.kind.align at T.kind.align aligned (aligned_self t.alignment) in
              let m = value.1 (fitting_option T.kind fits).value b reach short place (omega arith) (omega arith) held (value_held b at own o.0 o.2 there) in
              let l = t.lies _ _ _ _ _ _ m.1 in
              (m.0, option_of T.kind t b from (from + length (appended writes)) at m.0 (Some (T.meaning x)) l.forward l.kept before (record { short = short; room = inside; aligned = aligned }) (some_held b at own o.0 o.2 there, m.1)),
        )
