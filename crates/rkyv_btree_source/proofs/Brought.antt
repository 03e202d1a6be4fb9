-- Values whose own bytes are all of them, brought from a source.
use Rattle.std.proofs.Common.{◌≡◌, ◌∙◌, ℕ, ◌+◌, ◌%◌, ◌≤◌, ◌++◌, IsTrue, List, length, take, ap, sym, subst, arith, refl, false}
use Rattle.std.proofs.Math.Seq.{take-append_seam}
use Rattle.rkyv_btree_portable.specs.Bytes.{bytes_at}
use Rattle.rkyv_btree_portable.specs.Kind.{IsLawful}
use Rattle.rkyv_btree_portable.specs.Plain.{Plain, MeansPlainly, plain_kind}
use Rattle.rkyv_btree_portable.specs.declared.refusal.Refusal.TheVariants.{Misaligned, BadEntry}
use Rattle.rkyv_btree_portable.specs.Refusing.{RefusesWhole, misplaced, bad_entry, unaligned}
use Rattle.rkyv_btree_portable.specs.Views.{stands}
use Rattle.rkyv_btree_portable.specs.laws.Views.{stands_of}
use Rattle.rkyv_btree_source.specs.Reading.{IsPart}

-- the bytes at the front
pub held_front : (xs ys : List ℕ) (n : ℕ) → length xs ≡ n → bytes_at (xs ++ ys) 0 n ≡ xs
held_front xs ys n size = ap (λ k. take k (xs ++ ys)) (sym size) ∙ take-append_seam xs ys

module _ (plain : Plain) (law : IsLawful (plain_kind plain)) where
  -- own bytes that are a value mean it where they lie
  means_there : (b : List ℕ) (at : ℕ) → length b ≤ 4294967295 → at + plain.size ≤ length b → at % plain.align ≡ 0 → IsTrue (plain.is_value (bytes_at b at plain.size))
      → MeansPlainly plain b 0 at at 0 (plain.value (bytes_at b at plain.size))
  means_there b at short inside aligned valid = record {
    lies = record { short = short; inside = inside; aligned = aligned; forward = omega arith; kept = omega arith; before = omega arith };
    unmoved = refl;
    is_value = valid;
    value = refl;
  }

  pub valid_there : (b : List ℕ) (at : ℕ) → length b ≤ 4294967295 → at + plain.size ≤ length b → at % plain.align ≡ 0 → IsTrue (plain.is_value (bytes_at b at plain.size)) → IsTrue (stands (plain_kind plain) b at)
  valid_there b at short inside aligned valid = stands_of law refl b 0 at at 0 _ (means_there b at short inside aligned valid)

  module _ (b own : List ℕ) (at : ℕ) (part : IsPart b own at) (size : length own ≡ plain.size) where
    own_there : bytes_at b at plain.size ≡ own
    own_there = ap (bytes_at b at) (sym size) ∙ sym part.same

    pub brought : (room : List ℕ) (place : ℕ) → bytes_at room place plain.size ≡ own → at % plain.align ≡ 0 → IsTrue (plain.is_value own)
        → IsTrue (stands (plain_kind plain) b at) × (plain.value (bytes_at room place plain.size) ≡ plain.value (bytes_at b at plain.size))
    brought room place held aligned valid =
        let inside = part.inside in (
          valid_there b at part.short (omega (arith, size, inside)) aligned (subst (λ (bytes : List ℕ). IsTrue (plain.is_value bytes)) (sym own_there) valid),
          ap plain.value (held ∙ sym own_there),
        )

    pub refuses_odd : ¬ (at % plain.align ≡ 0) → RefusesWhole (plain_kind plain) b 0 at at (Misaligned at)
    refuses_odd odd = let inside = part.inside in misplaced (unaligned part.short (omega (arith, size, inside)) odd)

    pub refuses_value : at % plain.align ≡ 0 → plain.is_value own ≡ false → RefusesWhole (plain_kind plain) b 0 at at (BadEntry at)
    refuses_value aligned none =
        let inside = part.inside in
        bad_entry (record { short = part.short; room = omega (arith, size, inside); aligned = aligned })
        (λ left v m. let valid : IsTrue (plain.is_value own) = subst (λ (bytes : List ℕ). IsTrue (plain.is_value bytes)) own_there m.is_value in absurd (cc (sym none ∙ valid)))
