-- A type whose values lie in their own bytes alone is lawful.
use Rattle.std.specs.Prelude.{◌≡◌, ℕ, ◌≤◌, ◌<◌, ◌^◌, IsTrue, List, length, Some}
use Rattle.std.proofs.Common.{arith, refl, sym, ap, subst, ◌∙◌}
use Rattle.std.proofs.lemmas.List.{take_all}
use Rattle.rkyv_btree_portable.specs.Bytes.{bytes_at}
use Rattle.rkyv_btree_portable.specs.InPlace.{IsOwn}
use Rattle.rkyv_btree_portable.specs.Kind.{IsLawful}
use Rattle.rkyv_btree_portable.specs.Plain.{Plain, MeansPlainly, plain_leaves, plain_kind}
use Rattle.rkyv_btree_portable.specs.Rounding.{IsAlignment}
use Rattle.rkyv_btree_portable.specs.Standing.{IsAligned}
use Rattle.rkyv_btree_portable.specs.laws.Choices.{through}
use Rattle.rkyv_btree_portable.specs.laws.Standing.{same_bytes_at, placed_found, placed_only}

module _ (plain : Plain) where
  plain_found : (b : List ℕ) (lo hi at left : ℕ) → lo ≤ hi → hi ≤ at → plain_leaves plain b lo hi at ≡ Some left → (v : plain.Value) × MeansPlainly plain b lo hi at left v
  plain_found b lo hi at left window before e =
      let placed = placed_found b plain.size plain.align at _ left e in
      let own = placed.0 in
      let valid = through (plain.is_value (bytes_at b at plain.size)) (Some lo) left placed.1 in
      let same : left ≡ lo = cc valid.1 in
      (plain.value (bytes_at b at plain.size), record { lies = record { short = own.short; inside = own.room; aligned = own.aligned; forward = omega arith; kept = omega arith; before = before }; unmoved = same; is_value = valid.0; value = refl })

  plain_only : (b : List ℕ) (lo hi at left : ℕ) (v : plain.Value) → MeansPlainly plain b lo hi at left v → plain_leaves plain b lo hi at ≡ Some left
  plain_only b lo hi at left v m = placed_only b plain.size plain.align at _ m.lies ∙ rw m.is_value (ap Some (sym m.unmoved))

  pub plain_laws : IsAlignment plain.align → IsAligned plain.align plain.size → plain.size < 2 ^ 32 → IsLawful (plain_kind plain)
  plain_laws alignment whole small = record {
    alignment = alignment;
    whole = whole;
    size_fits = λ _. small;
    lies = λ b lo hi at left v m. m.lies;
    local = λ _ b c lo hi at left v short _ own m.
        let same = same_bytes_at b c at plain.size m.lies.inside own in
        record {
          lies = record { short = short; inside = own.covers; aligned = m.lies.aligned; forward = m.lies.forward; kept = m.lies.kept; before = m.lies.before };
          unmoved = m.unmoved;
          is_value = subst (λ (bytes : List ℕ). IsTrue (plain.is_value bytes)) same m.is_value;
          value = m.value ∙ ap plain.value same;
        };
    widens = λ b lo hi at left lo2 hi2 v p q r m.
        let l = m.lies in
        let e = m.unmoved in
        (lo2, omega arith, record { lies = record { short = l.short; inside = l.inside; aligned = l.aligned; forward = omega arith; kept = omega arith; before = r }; unmoved = refl; is_value = m.is_value; value = m.value });
    one_meaning = λ b lo hi at left left2 v w m n. (m.unmoved ∙ sym n.unmoved, m.value ∙ sym n.value);
    is_read = λ b lo hi at left v m. m.value;
    decides = λ _. record { found = plain_found; only = plain_only; within = λ b lo hi at left v m. (m.lies.forward, m.lies.kept) };
  }

-- bytes that are a value are its own
pub plain_own : (plain : Plain) (own : List ℕ) → length own ≡ plain.size → IsTrue (plain.is_value own) → IsOwn (plain_kind plain) own
plain_own plain own size valid = record {
  size = size;
  means = λ b lo hi at short window before aligned inside holds.
      let whole : bytes_at own 0 plain.size ≡ own = take_all plain.size own (omega (arith, size)) in
      record {
        lies = record { short = short; inside = inside; aligned = aligned; forward = omega arith; kept = window; before = before };
        unmoved = refl;
        is_value = subst (λ (bytes : List ℕ). IsTrue (plain.is_value bytes)) (sym holds) valid;
        value = ap plain.value (whole ∙ sym holds);
      };
}
