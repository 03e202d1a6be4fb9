-- What vectors owe as an archived type.
use Rattle.std.specs.Prelude.{◌≡◌, ℕ, ◌+◌, ◌*◌, ◌≤◌, ◌<◌, IsTrue, List, length, Some, ℤ, pos, negsuc, nat_lt}
use Rattle.std.specs.Int.RustNames.{unsigned_abs}
use Rattle.std.proofs.Common.{arith, refl, sym, ap, subst, ◌∙◌}
use Rattle.std.proofs.lemmas.Bool.{ltb-true, ltb-false, le-ltb}
use Rattle.rkyv_btree_compound.specs.Elements.{elements_leaves, elements_read}
use Rattle.rkyv_btree_compound.specs.Vectors.{MeansVector, behind_elements, vector_leaves, vector_kind}
use Rattle.rkyv_btree_compound.specs.laws.ElementLaws.{left_through, elements_within, elements_local, elements_widen, elements_are_read, elements_found, elements_only}
use Rattle.rkyv_btree_portable.specs.Bytes.{place_at}
use Rattle.rkyv_btree_portable.specs.Kind.{Kind, IsLawful, Local, Widens, OneMeaning, IsRead}
use Rattle.rkyv_btree_portable.specs.Refusing.{HasPlace}
use Rattle.rkyv_btree_portable.specs.Rounding.{four}
use Rattle.rkyv_btree_portable.specs.Text.{text_len}
use Rattle.rkyv_btree_portable.specs.laws.Choices.{both, past}
use Rattle.rkyv_btree_portable.specs.laws.Numbers.{number_same, place_same}
use Rattle.rkyv_btree_portable.specs.laws.Standing.{same_within, placed_found, placed_only}

-- what fits where a vector fits: its elements, which have bytes
pub record FittingVector (T : Kind) : Type 0 where
  pub element : IsTrue T.is_fitting
  pub some : 0 < T.size

pub fitting_vector : (T : Kind) → IsTrue (vector_kind T).is_fitting → FittingVector T
fitting_vector T fits =
    let f = both T.is_fitting (nat_lt 0 T.size) fits in
    record { element = f.0; some = ltb-true 0 T.size f.1 }

module _ (T : Kind) (t : IsLawful T) where
  vector_local : IsTrue (vector_kind T).is_fitting → Local (vector_kind T)
  vector_local fits b c lo hi at left v short out own m =
      let l = m.lies in
      let ends : left ≡ m.start + length v * T.size = m.ends ∙ ap (λ n. m.start + n * T.size) (sym m.count) in
      let place = place_same b c at (same_within b c at (at + 8) at (at + 4) (omega arith) (omega arith) own) in
      let count : text_len b at ≡ text_len c at = number_same b c (at + 4) (same_within b c at (at + 8) (at + 4) (at + 4 + 4) (omega arith) (omega arith) own) in
      let within = elements_within T t b lo m.start m.start m.after v m.from m.elements in
      let outlying = same_within b c lo left lo m.after (omega arith) (omega (arith, within.1, ends)) out in
      let owns = same_within b c lo left m.start (m.start + length v * T.size) m.from (omega (arith, ends)) out in
      record {
        lies = record { short = short; inside = own.covers; aligned = l.aligned; forward = l.forward; kept = l.kept; before = l.before };
        start = m.start;
        after = m.after;
        leads = sym place ∙ m.leads;
        count = m.count ∙ count;
        from = m.from;
        elements = elements_local T t (fitting_vector T fits).element b c lo m.start m.start m.after v m.from short outlying owns m.elements;
        ends = m.ends ∙ ap (λ n. m.start + n * T.size) count;
      }

  vector_widens : Widens (vector_kind T)
  vector_widens b lo hi at left lo2 hi2 v p q r m =
      let l = m.lies in
      let w = elements_widen T t b lo m.start m.start m.after lo2 m.start v p (omega arith) (omega arith) m.elements in (
        left,
        omega arith,
        record {
          lies = record { short = l.short; inside = l.inside; aligned = l.aligned; forward = omega (arith, p, l.forward); kept = omega (arith, q, l.kept); before = r };
          start = m.start;
          after = w.0;
          leads = m.leads;
          count = m.count;
          from = omega (arith, p, m.from);
          elements = w.2;
          ends = m.ends;
        },
      )

  vector_is_read : IsRead (vector_kind T)
  vector_is_read b lo hi at left v m =
      let read = elements_are_read T t b lo m.start m.start m.after v m.elements in
      read ∙ (ap (λ n. elements_read T b n m.start) m.count ∙ ap (λ z. elements_read T b (text_len b at) (unsigned_abs z)) (sym m.leads))

  vector_one_meaning : OneMeaning (vector_kind T)
  vector_one_meaning b lo hi at left left2 v w m n =
      let start : m.start ≡ n.start = ap unsigned_abs (sym m.leads ∙ n.leads) in
      (m.ends ∙ (ap (λ s. s + text_len b at * T.size) start ∙ sym n.ends), vector_is_read b lo hi at left v m ∙ sym (vector_is_read b lo hi at left2 w n))

  module _ (fits : IsTrue (vector_kind T).is_fitting) (b : List ℕ) (lo hi at left : ℕ) where
    row_found : HasPlace b 8 4 at → hi ≤ at → (z : ℤ) → place_at b at ≡ z → behind_elements T b (text_len b at) lo hi z ≡ Some left → (vs : List T.Value) × MeansVector T b lo hi at left vs
    row_found own before (negsuc n) leads e = absurd (cc e)
    row_found own before (pos start) leads e =
        let end = start + text_len b at * T.size in
        let from = past (nat_lt start lo) _ left e in
        let room = past (nat_lt hi end) _ left from.1 in
        let row = left_through (elements_leaves T b (text_len b at) lo start start) (λ _. Some end) left room.1 in
        let after = ltb-false start lo from.0 in
        let within = ltb-false hi end room.0 in
        let ends : left ≡ end = cc row.2 in
        let m = elements_found T t (fitting_vector T fits).element b (text_len b at) lo start start row.0 after (omega arith) row.1 in (
          m.0,
          record {
            lies = record { short = own.short; inside = own.room; aligned = own.aligned; forward = omega (arith, after, ends); kept = omega (arith, within, ends); before = before };
            start = start;
            after = row.0;
            leads = leads;
            count = m.1;
            from = after;
            elements = m.2;
            ends = ends;
          },
        )

    vector_found : lo ≤ hi → hi ≤ at → vector_leaves T b lo hi at ≡ Some left → (vs : List T.Value) × MeansVector T b lo hi at left vs
    vector_found window before e =
        let placed = placed_found b 8 4 at _ left e in
        row_found placed.0 before (place_at b at) refl placed.1

    vector_only : (vs : List T.Value) → MeansVector T b lo hi at left vs → vector_leaves T b lo hi at ≡ Some left
    vector_only vs m =
        let end = m.start + text_len b at * T.size in
        let room : end ≤ hi = omega (arith, m.ends, m.lies.kept) in
        let row : elements_leaves T b (text_len b at) lo m.start m.start ≡ Some m.after = subst (λ n. elements_leaves T b n lo m.start m.start ≡ Some m.after) m.count (elements_only T t (fitting_vector T fits).element b lo m.start m.start m.after vs m.elements) in
        placed_only b 8 4 at _ m.lies ∙ rw (m.leads, le-ltb m.start lo m.from, le-ltb hi end room, row) (ap Some (sym m.ends))

  pub vector_laws : IsLawful (vector_kind T)
  vector_laws = record {
    alignment = four;
    whole = refl;
    size_fits = λ _. omega arith;
    lies = λ b lo hi at left v m. m.lies;
    local = vector_local;
    widens = vector_widens;
    one_meaning = vector_one_meaning;
    is_read = vector_is_read;
    decides = λ fits. record { found = vector_found fits; only = vector_only fits; within = λ b lo hi at left v m. (m.lies.forward, m.lies.kept) };
  }
