-- Where what elements mean determines how they are archived, what an array means does.
use Rattle.std.specs.Prelude.{◌≡◌, ℕ, ◌+◌, List, [], ◌∷◌, ◌++◌, map, take, Option, Some, None}
use Rattle.std.proofs.Common.{zero, suc, refl, sym, ap, ◌∙◌}
use Rattle.rkyv_btree_archive.proofs.VectorsDetermined.{images_alike}
use Rattle.rkyv_btree_archive.specs.ArrayArchival.{PartResolves, RowResolves, array_archival}
use Rattle.rkyv_btree_writer.specs.Archiving.{Archival}
use Rattle.rkyv_btree_writing_laws.specs.Determined.{IsDetermined}

module _ {M R : Type 0} (T : Archival M R) (d : IsDetermined T) where
  part_alike : (at : ℕ) (x y : M) (r : Option R) (own other : List ℕ) → T.meaning x ≡ T.meaning y → PartResolves T x r at own → PartResolves T y r at other → own ≡ other
  part_alike at x y None own other mean a b = a ∙ sym b
  part_alike at x y (Some r) own other mean a b = d.resolved x y r at own other mean a b

  rows_alike : (at : ℕ) (xs ys : List M) (rs : List (Option R)) (own other : List ℕ) → map T.meaning xs ≡ map T.meaning ys → RowResolves T xs rs at own → RowResolves T ys rs at other → own ≡ other
  rows_alike at [] [] rs own other mean a b = a ∙ sym b
  rows_alike at [] (y ∷ ys) rs own other mean a b = absurd (cc mean)
  rows_alike at (x ∷ xs) [] rs own other mean a b = absurd (cc mean)
  rows_alike at (x ∷ xs) (y ∷ ys) [] own other mean a b = a ∙ sym b
  rows_alike at (x ∷ xs) (y ∷ ys) (r ∷ rs) own other mean a b =
      let first = part_alike at x y r a.0 b.0 (cc mean) a.2 b.2 in
      let rest = rows_alike (at + T.kind.size) xs ys rs a.1 b.1 (cc mean) a.3 b.3 in
      a.4 ∙ (ap (λ bs. bs ++ a.1) first ∙ (ap (λ bs. b.0 ++ bs) rest ∙ sym b.4))

  -- lists that mean the same begin with what means the same
  begin_alike : (N : ℕ) (xs ys : List M) → map T.meaning xs ≡ map T.meaning ys → map T.meaning (take N xs) ≡ map T.meaning (take N ys)
  begin_alike zero xs ys mean = refl
  begin_alike (suc N) [] [] mean = refl
  begin_alike (suc N) [] (y ∷ ys) mean = absurd (cc mean)
  begin_alike (suc N) (x ∷ xs) [] mean = absurd (cc mean)
  begin_alike (suc N) (x ∷ xs) (y ∷ ys) mean =
      let first : T.meaning x ≡ T.meaning y = cc mean in
      let rest = begin_alike N xs ys (cc mean) in
      cc

  pub arrays_determined : (N : ℕ) → IsDetermined (array_archival T N)
  arrays_determined N = record {
    serialised = λ x y from writes others r q mean a b.
        let same = images_alike T d from (take N x) (take N y) writes others a.0 b.0 (begin_alike N x y mean) a.1 b.1 in
        (same.0, a.2 ∙ (ap (λ ts. map Some ts) same.1 ∙ sym b.2));
    resolved = λ x y r at own other mean a b. rows_alike at (take N x) (take N y) r own other (begin_alike N x y mean) a b;
  }
