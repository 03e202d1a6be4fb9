-- An array is archived by what archives its elements.
use Rattle.std.specs.Prelude.{◌≡◌, ℕ, ◌+◌, ◌*◌, ◌≤◌, ◌<◌, ◌^◌, ◌&&◌, Bool, IsTrue, List, [], ◌∷◌, ◌++◌, length, map, take, nat_lt, Option, Some}
use Rattle.std.specs.List.{All}
use Rattle.std.proofs.Common.{arith, refl, sym, ap, subst, ◌∙◌}
use Rattle.std.proofs.lemmas.List.{length-map, take_all}
use Rattle.rkyv_btree_archive.specs.ArrayArchival.{RowResolves, array_archival}
use Rattle.rkyv_btree_archive.specs.VectorArchival.{ElementsImage}
use Rattle.rkyv_btree_archive.specs.laws.VectorArchived.{joined, row_length, elements_meant, same_elements}
use Rattle.rkyv_btree_compound.specs.Arrays.{array_kind}
use Rattle.rkyv_btree_compound.specs.Elements.{Elements}
use Rattle.rkyv_btree_compound.specs.laws.ArrayLaws.{fitting_array}
use Rattle.rkyv_btree_compound.specs.laws.ElementLaws.{elements_within}
use Rattle.rkyv_btree_portable.specs.Bytes.{Holds}
use Rattle.rkyv_btree_portable.specs.Kind.{Kind, IsLawful}
use Rattle.rkyv_btree_portable.specs.Standing.{IsAligned}
use Rattle.rkyv_btree_writer.specs.Archiving.{Archival, Matches, IsArchived}
use Rattle.rkyv_btree_writer.specs.Writing.{Write, appended}
use Rattle.rkyv_btree_writing_laws.specs.Entries.{AreResolved}
use Rattle.rkyv_btree_writing_laws.specs.Imaged.{end_of}

-- two arrays whose elements lie alike
module _ (K A : Kind) (N : ℕ) (k : Matches K A) where
  fitting : (a a2 few : Bool) (m n : ℕ) → a ≡ a2 → m ≡ n → (a && few && nat_lt m (2 ^ 32)) ≡ (a2 && few && nat_lt n (2 ^ 32))
  fitting a a2 few m n p q = cc

  same_size : N * K.size ≡ N * A.size
  same_size = ap (λ n. N * n) k.size

  pub same_array : Matches (array_kind K N) (array_kind A N)
  same_array = record {
    to = map k.to;
    size = same_size;
    align = k.align;
    fits = fitting K.is_fitting A.is_fitting (nat_lt N (2 ^ 32)) (N * K.size) (N * A.size) k.fits same_size;
    means = λ b lo hi at left vs m.
        let l = m.lies in
        record {
          lies = record { short = l.short; inside = omega (arith, same_size, l.inside); aligned = subst (λ a. IsAligned a at) k.align l.aligned; forward = l.forward; kept = l.kept; before = l.before };
          count = length-map vs k.to ∙ m.count;
          elements = same_elements K A k b lo hi at left vs m.elements;
        };
  }

module _ {M R : Type 0} (T : Archival M R) where
  -- elements of which serialising told are resolved one after another
  pub resolved_of : (from at : ℕ) (xs : List M) (writes : List Write) (told : List R) (rs : List (Option R)) (own : List ℕ) → ElementsImage T from xs writes told → rs ≡ map Some told → RowResolves T xs rs at own → (owns : List (List ℕ)) × AreResolved T at xs told owns × (own ≡ joined owns)
  resolved_of from at [] writes told rs own h same o = ([], (h.1, refl), o)
  resolved_of from at (x ∷ xs) writes told rs own h same o =
      let all : rs ≡ Some h.2 ∷ map Some h.3 = same ∙ ap (λ ts. map Some ts) h.7 in
      let p = subst (λ qs. RowResolves T (x ∷ xs) qs at own) all o in
      let rest = resolved_of (end_of from h.0) (at + T.kind.size) xs h.1 h.3 (map Some h.3) p.1 h.5 refl p.3 in
      (p.0 ∷ rest.0, (h.2, h.3, p.0, rest.0, p.2, rest.1, h.7, refl), p.4 ∙ ap (λ bs. p.0 ++ bs) rest.2)

  module _ (N : ℕ) (t : IsLawful T.kind) (is_value : IsArchived T) where
    pub array_archived : IsArchived (array_archival T N)
    array_archived x from at writes rs own is_in w o =
        let all : take N x ≡ x = take_all N x (omega (arith, is_in.0)) in
        let count : length (take N x) ≡ N = ap length all ∙ is_in.0 in
        let are_in : All T.IsIn (take N x) = subst (All T.IsIn) (sym all) is_in.1 in
        let row = resolved_of from at (take N x) writes w.0 rs own w.1 w.2 o in
        let long = row_length T t is_value from at (take N x) writes w.0 row.0 w.1 row.1 are_in in
        let size : length (take N x) * T.kind.size ≡ N * T.kind.size = ap (λ n. n * T.kind.size) count in (
          ap length row.2 ∙ (long ∙ size),
          λ fits b reach short aligned before inside held there.
              let element = (fitting_array T.kind N fits).element in
              let end = from + length (appended writes) in
              let m = elements_meant T t is_value element b from end from at (take N x) writes w.0 row.0 w.1 row.1 are_in reach short (omega arith) (omega arith) before aligned (omega (arith, size, inside)) held (subst (Holds b at) row.2 there) in
              let means = subst (λ xs. Elements T.kind b from end at m.0 (map T.meaning xs)) all m.1 in
              let within = elements_within T.kind t b from end at m.0 (map T.meaning x) (omega arith) means in
              (m.0, record { lies = record { short = short; inside = inside; aligned = aligned; forward = within.0; kept = within.1; before = before }; count = length-map x T.meaning ∙ is_in.0; elements = means }),
        )
