-- The elements of a vector that stands.
use Rattle.std.specs.Prelude.{◌≡◌, ℕ, zero, suc, ◌+◌, ◌*◌, ◌≤◌, ◌<◌, IsTrue, List, [], ◌∷◌, length, drop, Some, None, ℤ, pos}
use Rattle.std.specs.Int.RustNames.{unsigned_abs}
use Rattle.std.specs.List.{slice_get}
use Rattle.std.proofs.Common.{arith, refl, sym, ap, subst, ◌∙◌, to_z, of_z, w64}
use Rattle.std.proofs.lemmas.Int.{ints}
use Rattle.std.proofs.Math.Nat.{mul-le-mul_right}
use Rattle.rkyv_btree_compound.specs.Elements.{Elements, elements_read}
use Rattle.rkyv_btree_compound.specs.Vectors.{vector_kind, vector_read}
use Rattle.rkyv_btree_compound.specs.laws.ElementLaws.{after_one}
use Rattle.rkyv_btree_compound.specs.laws.VectorLaws.{fitting_vector, vector_laws}
use Rattle.rkyv_btree_portable.specs.Bytes.{place_at}
use Rattle.rkyv_btree_portable.specs.Kind.{Kind, IsLawful}
use Rattle.rkyv_btree_portable.specs.Text.{text_len}
use Rattle.rkyv_btree_portable.specs.Views.{stands}
use Rattle.rkyv_btree_portable.specs.laws.Views.{means_read, stands_of, fitting_of}

pub read_length : (T : Kind) (b : List ℕ) (n at : ℕ) → length (elements_read T b n at) ≡ n
read_length T b zero at = refl
read_length T b (suc n) at = ap suc (read_length T b n (at + T.size))

-- the value of an element by its number
pub read_at : (T : Kind) (b : List ℕ) (n at i : ℕ) → i < n → slice_get (elements_read T b n at) i ≡ Some (T.read b (at + i * T.size))
read_at T b zero at i inside = absurd (omega (arith, inside))
read_at T b (suc n) at zero inside = ap (λ p. Some (T.read b p)) (omega arith)
read_at T b (suc n) at (suc i) inside = read_at T b n (at + T.size) i (omega arith) ∙ ap (λ p. Some (T.read b p)) (sym (after_one at i T.size))

-- each of the elements stands
elements_stand : (T : Kind) → IsLawful T → IsTrue T.is_fitting → (b : List ℕ) (lo hi at left i : ℕ) (vs : List T.Value) → Elements T b lo hi at left vs → i < length vs → IsTrue (stands T b (at + i * T.size))
elements_stand T t fits b lo hi at left i [] m inside = absurd (omega (arith, inside))
elements_stand T t fits b lo hi at left zero (v ∷ vs) m inside = subst (λ p. IsTrue (stands T b p)) (omega arith) (stands_of t fits b lo hi at m.0 v m.1)
elements_stand T t fits b lo hi at left (suc i) (v ∷ vs) m inside = subst (λ p. IsTrue (stands T b p)) (sym (after_one at i T.size)) (elements_stand T t fits b m.0 hi (at + T.size) left i vs m.2 (omega (arith, inside)))

-- where a vector stands, its number and its offset do, and its elements stand from where that leads
pub record Standing (T : Kind) (b : List ℕ) (at : ℕ) : Type 0 where
  pub start : ℕ
  pub room : at + 8 ≤ length b
  pub short : length b ≤ 4294967295
  pub leads : place_at b at ≡ pos start
  pub end : start + text_len b at * T.size ≤ at
  pub few : text_len b at ≤ at
  pub fits : IsTrue T.is_fitting
  pub each : (i : ℕ) → i < text_len b at → IsTrue (stands T b (start + i * T.size))

-- as many have at least as many bytes
few_of : (count size : ℕ) → 1 ≤ size → count ≤ count * size
few_of count size some = omega (arith, mul-le-mul_right count some)

pub standing : (T : Kind) → IsLawful T → (b : List ℕ) (at : ℕ) → IsTrue (stands (vector_kind T) b at) → Standing T b at
standing T t b at h =
    let m = (means_read (vector_laws T t) b at h).means in
    let fitting = fitting_vector T (fitting_of (vector_kind T) b at h) in
    let one : 1 ≤ T.size = fitting.some in
    let l = m.lies in
    record {
      start = m.start;
      room = l.inside;
      short = l.short;
      leads = m.leads;
      end = omega (arith, m.ends, l.kept);
      few = omega (arith, m.ends, l.kept, few_of (text_len b at) T.size one);
      fits = fitting.element;
      each = λ i inside. elements_stand T t fitting.element b 0 m.start m.start m.after i _ m.elements (omega (arith, m.count, inside));
    }

-- an element's place is before the vector
pub element_below : (start size count at i : ℕ) → start + count * size ≤ at → i < count → start + i * size + size ≤ at
element_below start size count at i end inside =
    let up : i + 1 ≤ count = omega arith in
    omega (arith, mul-le-mul_right size up)

-- a place that isn't before the buffer's start is its number
pub place_is : (r : ℤ) (start : ℕ) → r ≡ pos start → start < 9223372036854775808 → unsigned_abs (to_z w64 (of_z w64 r)) ≡ start
place_is r start e low = rw e (let same : to_z w64 (of_z w64 (pos start)) ≡ pos start = omega (arith, ints, low) in rw same refl)

-- where the element of a number is, by the calls that give its vector's offset and its size
pub element_place : (T : Kind) (b : List ℕ) (at i size : ℕ) (r : ℤ) (s : Standing T b at) → r ≡ place_at b at → size ≡ T.size → unsigned_abs (to_z w64 (of_z w64 r)) + i * size ≡ s.start + i * T.size
element_place T b at i size r s leads same =
    let low : s.start < 9223372036854775808 = omega (arith, s.end, s.room, s.short) in
    ap (λ n. n + i * size) (place_is r s.start (leads ∙ s.leads) low) ∙ ap (λ n. s.start + i * n) same

-- and what is read there
pub element_read : (T : Kind) (b : List ℕ) (at i : ℕ) (s : Standing T b at) → i < text_len b at → slice_get (vector_read T b at) i ≡ Some (T.read b (s.start + i * T.size))
element_read T b at i s inside = read_at T b (text_len b at) (unsigned_abs (place_at b at)) i inside ∙ ap (λ (z : ℤ). Some (T.read b (unsigned_abs z + i * T.size))) s.leads

-- a list from a place on, by what is at the place
pub drop_none : {X : Type 0} (xs : List X) (i : ℕ) → slice_get xs i ≡ None → drop i xs ≡ []
drop_none [] zero e = refl
drop_none [] (suc i) e = refl
drop_none (x ∷ xs) zero e = absurd (cc e)
drop_none (x ∷ xs) (suc i) e = drop_none xs i e

pub drop_some : {X : Type 0} (xs : List X) (i : ℕ) (x : X) → slice_get xs i ≡ Some x → drop i xs ≡ x ∷ drop (i + 1) xs
drop_some [] zero x e = absurd (cc e)
drop_some [] (suc i) x e = absurd (cc e)
drop_some (y ∷ xs) zero x e = ap (λ z. z ∷ xs) (cc e)
drop_some (y ∷ xs) (suc i) x e =
    let next : suc (i + 1) ≡ suc i + 1 = omega arith in
    drop_some xs i x e ∙ ap (λ n. x ∷ drop n (y ∷ xs)) next
