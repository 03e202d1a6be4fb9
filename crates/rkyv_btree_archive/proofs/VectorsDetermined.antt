-- Where what elements mean determines how they are archived, what a vector means does.
use Rattle.std.specs.Prelude.{◌≡◌, ℕ, ◌+◌, List, [], ◌∷◌, ◌++◌, length, map}
use Rattle.std.proofs.Common.{sym, ap, subst, ◌∙◌}
use Rattle.std.proofs.lemmas.List.{length-map}
use Rattle.rkyv_btree_archive.specs.VectorArchival.{row_image, ElementsImage, VectorImage, vector_archival}
use Rattle.rkyv_btree_portable.specs.Rounding.{round_up}
use Rattle.rkyv_btree_writer.specs.Archiving.{Archival}
use Rattle.rkyv_btree_writer.specs.TextArchival.{text_own}
use Rattle.rkyv_btree_writer.specs.Writing.{Write}
use Rattle.rkyv_btree_writing_laws.specs.Determined.{IsDetermined}
use Rattle.rkyv_btree_writing_laws.specs.Entries.{AreResolved}
use Rattle.rkyv_btree_writing_laws.specs.Imaged.{end_of}

module _ {M R : Type 0} (T : Archival M R) (d : IsDetermined T) where
  pub images_alike : (from : ℕ) (xs ys : List M) (writes others : List Write) (rs qs : List R) → map T.meaning xs ≡ map T.meaning ys → ElementsImage T from xs writes rs → ElementsImage T from ys others qs → (writes ≡ others) × (rs ≡ qs)
  images_alike from [] [] writes others rs qs mean a b = (a.0 ∙ sym b.0, a.1 ∙ sym b.1)
  images_alike from [] (y ∷ ys) writes others rs qs mean a b = absurd (cc mean)
  images_alike from (x ∷ xs) [] writes others rs qs mean a b = absurd (cc mean)
  images_alike from (x ∷ xs) (y ∷ ys) writes others rs qs mean a b =
      let one = d.serialised x y from a.0 b.0 a.2 b.2 (cc mean) a.4 b.4 in
      let rest = images_alike (end_of from b.0) xs ys a.1 b.1 a.3 b.3 (cc mean) (subst (λ (ws : List Write). ElementsImage T (end_of from ws) xs a.1 a.3) one.0 a.5) b.5 in (
        a.6 ∙ (ap (λ (ws : List Write). ws ++ a.1) one.0 ∙ (ap (λ (ws : List Write). b.0 ++ ws) rest.0 ∙ sym b.6)),
        a.7 ∙ (ap (λ (z : R). z ∷ a.3) one.1 ∙ (ap (λ (zs : List R). b.2 ∷ zs) rest.1 ∙ sym b.7)),
      )

  resolved_alike : (at : ℕ) (xs ys : List M) (rs : List R) (owns others : List (List ℕ)) → map T.meaning xs ≡ map T.meaning ys → AreResolved T at xs rs owns → AreResolved T at ys rs others → owns ≡ others
  resolved_alike at [] [] rs owns others mean a b = a.1 ∙ sym b.1
  resolved_alike at [] (y ∷ ys) rs owns others mean a b = absurd (cc mean)
  resolved_alike at (x ∷ xs) [] rs owns others mean a b = absurd (cc mean)
  resolved_alike at (x ∷ xs) (y ∷ ys) rs owns others mean a b =
      let first : a.0 ≡ b.0 = cc (a.6, b.6) in
      let rest : a.1 ≡ b.1 = cc (a.6, b.6) in
      let own = d.resolved x y b.0 at a.2 b.2 (cc mean) (subst (λ (r : R). T.Resolves x r at a.2) first a.4) b.4 in
      let more = resolved_alike (at + T.kind.size) xs ys b.1 a.3 b.3 (cc mean) (subst (λ (qs : List R). AreResolved T (at + T.kind.size) xs qs a.3) rest a.5) b.5 in
      a.7 ∙ (ap (λ (z : List ℕ). z ∷ a.3) own ∙ (ap (λ (zs : List (List ℕ)). b.2 ∷ zs) more ∙ sym b.7))

  vectors_alike : (from : ℕ) (xs ys : List M) (writes others : List Write) (start place : ℕ) → map T.meaning xs ≡ map T.meaning ys → VectorImage T from xs writes start → VectorImage T from ys others place → (writes ≡ others) × (start ≡ place)
  vectors_alike from xs ys writes others start place mean a b =
      let align = T.kind.align in
      let elements = images_alike from xs ys a.first b.first a.rs b.rs mean a.elements b.elements in
      let same : end_of from a.first ≡ end_of from b.first = ap (end_of from) elements.0 in
      let there = subst (λ (n : ℕ). AreResolved T (round_up n align) xs b.rs a.row.owns) same (subst (λ (rs : List R). AreResolved T (round_up (end_of from a.first) align) xs rs a.row.owns) elements.1 a.row.resolved) in
      let owns = resolved_alike (round_up (end_of from b.first) align) xs ys b.rs a.row.owns b.row.owns mean there b.row.resolved in
      let rows = a.row.image ∙ (ap (λ n. row_image align n a.row.owns) same ∙ (ap (row_image align (end_of from b.first)) owns ∙ sym b.row.image)) in (
        a.both ∙ (ap (λ (ws : List Write). ws ++ a.second) elements.0 ∙ (ap (λ (ws : List Write). b.first ++ ws) rows ∙ sym b.both)),
        a.place ∙ (ap (λ n. round_up n align) same ∙ sym b.place),
      )

  -- lists that mean the same are as long
  as_long : (xs ys : List M) → map T.meaning xs ≡ map T.meaning ys → length xs ≡ length ys
  as_long xs ys mean = sym (length-map xs T.meaning) ∙ (ap length mean ∙ length-map ys T.meaning)

  pub vectors_determined : {X : Type 0} (elements : X → List M) → IsDetermined (vector_archival T elements)
  vectors_determined elements = record {
    serialised = λ x y from writes others r q mean a b. vectors_alike from (elements x) (elements y) writes others r q mean a b;
    resolved = λ x y r at own other mean a b. a.1 ∙ (ap (text_own at r) (as_long (elements x) (elements y) mean) ∙ sym b.1);
  }
