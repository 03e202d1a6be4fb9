-- What arrays owe as an archived type.
use Rattle.std.specs.Prelude.{◌≡◌, ℕ, ◌+◌, ◌*◌, ◌^◌, ◌≤◌, ◌<◌, IsTrue, List, Some, nat_lt}
use Rattle.std.proofs.Common.{arith, sym, ap, subst, ◌∙◌}
use Rattle.std.proofs.lemmas.Bool.{ltb-true}
use Rattle.rkyv_btree_compound.specs.Arrays.{array_size, MeansArray, RefusesArray, misplaced_array, bad_element, array_leaves, array_kind}
use Rattle.rkyv_btree_compound.specs.Elements.{elements_leaves, elements_read}
use Rattle.rkyv_btree_compound.specs.laws.ElementLaws.{elements_within, elements_local, elements_widen, elements_are_read, elements_left_once, elements_found, elements_only, first_bad_once, no_elements}
use Rattle.rkyv_btree_portable.specs.declared.refusal.Refusal.{Refusal}
use Rattle.rkyv_btree_portable.specs.declared.refusal.Refusal.TheVariants.{BadEntry}
use Rattle.rkyv_btree_portable.specs.Kind.{Kind, IsLawful, Local, Widens, OneMeaning, IsRead}
use Rattle.rkyv_btree_portable.specs.Refusing.{AreRefusals, MeansNothing}
use Rattle.rkyv_btree_portable.specs.Standing.{SameBytes}
use Rattle.rkyv_btree_portable.specs.laws.Choices.{three}
use Rattle.rkyv_btree_portable.specs.laws.Refusing.{misplaced_once, not_misplaced, place_of}
use Rattle.rkyv_btree_portable.specs.laws.Rounding.{aligned_mul}
use Rattle.rkyv_btree_portable.specs.laws.Standing.{placed_found, placed_only}

-- what fits where an array fits
pub record FittingArray (T : Kind) (N : ℕ) : Type 0 where
  pub element : IsTrue T.is_fitting
  pub few : N < 2 ^ 32
  pub size : array_size T N < 2 ^ 32

pub fitting_array : (T : Kind) (N : ℕ) → IsTrue (array_kind T N).is_fitting → FittingArray T N
fitting_array T N fits =
    let f = three T.is_fitting (nat_lt N (2 ^ 32)) (nat_lt (array_size T N) (2 ^ 32)) fits in
    record { element = f.0; few = ltb-true N (2 ^ 32) f.1; size = ltb-true (array_size T N) (2 ^ 32) f.2 }

module _ (T : Kind) (N : ℕ) (t : IsLawful T) where
  array_local : IsTrue (array_kind T N).is_fitting → Local (array_kind T N)
  array_local fits b c lo hi at left v short out own m =
      let l = m.lies in
      let own_of = subst (λ n. SameBytes b c at (at + n * T.size)) (sym m.count) own in
      record {
        lies = record { short = short; inside = own.covers; aligned = l.aligned; forward = l.forward; kept = l.kept; before = l.before };
        count = m.count;
        elements = elements_local T t (fitting_array T N fits).element b c lo hi at left v (omega (arith, l.forward, l.kept)) short out own_of m.elements;
      }

  array_widens : Widens (array_kind T N)
  array_widens b lo hi at left lo2 hi2 v p q r m =
      let l = m.lies in
      let w = elements_widen T t b lo hi at left lo2 hi2 v p q r m.elements in (
        w.0,
        w.1,
        record {
          lies = record { short = l.short; inside = l.inside; aligned = l.aligned; forward = (elements_within T t b lo2 hi2 at w.0 v (omega (arith, p, q, l.forward, l.kept)) w.2).0; kept = omega (arith, w.1, q, l.kept); before = r };
          count = m.count;
          elements = w.2;
        },
      )

  array_is_read : IsRead (array_kind T N)
  array_is_read b lo hi at left v m = elements_are_read T t b lo hi at left v m.elements ∙ ap (λ n. elements_read T b n at) m.count

  array_one_meaning : OneMeaning (array_kind T N)
  array_one_meaning b lo hi at left left2 v w m n =
      (elements_left_once T t b lo hi at left left2 v w (m.count ∙ sym n.count) m.elements n.elements, array_is_read b lo hi at left v m ∙ sym (array_is_read b lo hi at left2 w n))

  array_found : IsTrue (array_kind T N).is_fitting → (b : List ℕ) (lo hi at left : ℕ) → lo ≤ hi → hi ≤ at → array_leaves T N b lo hi at ≡ Some left → (v : List T.Value) × MeansArray T N b lo hi at left v
  array_found fits b lo hi at left window before e =
      let placed = placed_found b (array_size T N) T.align at _ left e in
      let own = placed.0 in
      let m = elements_found T t (fitting_array T N fits).element b N lo hi at left window before placed.1 in
      let within = elements_within T t b lo hi at left m.0 window m.2 in
      (m.0, record { lies = record { short = own.short; inside = own.room; aligned = own.aligned; forward = within.0; kept = within.1; before = before }; count = m.1; elements = m.2 })

  array_only : IsTrue (array_kind T N).is_fitting → (b : List ℕ) (lo hi at left : ℕ) (v : List T.Value) → MeansArray T N b lo hi at left v → array_leaves T N b lo hi at ≡ Some left
  array_only fits b lo hi at left v m =
      placed_only b (array_size T N) T.align at _ m.lies
      ∙ subst (λ n. elements_leaves T b n lo hi at ≡ Some left) m.count (elements_only T t (fitting_array T N fits).element b lo hi at left v m.elements)

  pub array_laws : IsLawful (array_kind T N)
  array_laws = record {
    alignment = t.alignment;
    whole = aligned_mul T.align T.size N t.whole;
    size_fits = λ fits. (fitting_array T N fits).size;
    lies = λ b lo hi at left v m. m.lies;
    local = array_local;
    widens = array_widens;
    one_meaning = array_one_meaning;
    is_read = array_is_read;
    decides = λ fits. record { found = array_found fits; only = array_only fits; within = λ b lo hi at left v m. (m.lies.forward, m.lies.kept) };
  }

  -- an array has one refusal at most, and none where it means something
  no_array : (b : List ℕ) (lo hi at : ℕ) (e : Refusal) → RefusesArray T N b lo hi at e → MeansNothing (array_kind T N) b lo hi at
  no_array b lo hi at e (misplaced_array p) left v m = not_misplaced b (array_size T N) T.align at (place_of b (array_size T N) T.align at m.lies) p
  no_array b lo hi at e (bad_element {place} has bad) left v m = no_elements T t b N lo hi at place left v m.count bad m.elements

  one_refusal : (b : List ℕ) (lo hi at : ℕ) {e d : Refusal} → RefusesArray T N b lo hi at e → RefusesArray T N b lo hi at d → e ≡ d
  one_refusal b lo hi at (misplaced_array p) (misplaced_array q) = misplaced_once b (array_size T N) T.align at p q
  one_refusal b lo hi at (misplaced_array p) (bad_element has bad) = absurd (not_misplaced b (array_size T N) T.align at has p)
  one_refusal b lo hi at (bad_element has bad) (misplaced_array q) = absurd (not_misplaced b (array_size T N) T.align at has q)
  one_refusal b lo hi at (bad_element {place} has bad) (bad_element {place = place2} has2 bad2) = ap BadEntry (first_bad_once T t b N lo hi at place place2 bad bad2)

  pub array_refusals : AreRefusals (array_kind T N) (RefusesArray T N)
  array_refusals = record { no_meaning = no_array; one_refusal = λ b lo hi at e d. one_refusal b lo hi at }
