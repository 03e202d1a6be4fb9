-- Where what keys and values mean determines how they are archived, what entries mean determines what is built of them.
use Rattle.std.proofs.Common.{ℕ, List, length, Option, unwrap_or, sym, ap, subst, ◌∙◌}
use Rattle.std.proofs.lemmas.List.{length-map}
use Rattle.rkyv_btree_writer.specs.Archiving.{Archival}
use Rattle.rkyv_btree_writing_laws.specs.Determined.{IsDetermined}
use Rattle.rkyv_btree_writing_laws.specs.Alike.{BuildsAlike, entry_meaning}
use Rattle.rkyv_btree_format.specs.Layout.{NodeLayout}
use Rattle.rkyv_btree_shape.specs.Plan.{planned_alone}
use Rattle.rkyv_btree_shape.proofs.Mapped.{alone_mapped}
use Rattle.rkyv_btree_writer.specs.Writing.{Write, position, appended, Wrote}
use Rattle.rkyv_btree_writing_laws.specs.Image.{root_bytes}
use Rattle.rkyv_btree_writing_laws.specs.Imaged.{ChildImage}
use Rattle.rkyv_btree_writing_laws.specs.TreeArchival.{nodes, tree_archival}
use Rattle.rkyv_btree_writing_laws.proofs.ImagesDetermined.{images_are_determined}
use Rattle.rkyv_btree_writing_laws.proofs.TreesImaged.{child_imaged}

module _ {M N R S : Type 0} (s : NodeLayout) (K : Archival M R) (V : Archival N S) (k : IsDetermined K) (v : IsDetermined V) where
  pub builds_alike : BuildsAlike s K V
  builds_alike from t start u xs ys root place at mean a b =
      let planned = sym (alone_mapped (entry_meaning K V) s.E xs) ∙ (ap (planned_alone s.E) mean ∙ alone_mapped (entry_meaning K V) s.E ys) in
      let one = child_imaged s K V from (planned_alone s.E xs) a.place t a.written in
      let other = child_imaged s K V start (planned_alone s.E ys) b.place u b.written in
      let here = subst (λ (n : ℕ). ChildImage s K V n (planned_alone s.E xs) one.0 a.place) at one.1 in
      let same = images_are_determined s K V k v (position start) (planned_alone s.E xs) (planned_alone s.E ys) one.0 other.0 a.place b.place planned here other.1 in
      let first : Wrote from other.0 t = subst (λ (writes : List Write). Wrote from writes t) same.0 one.2 in
      (a.root_is ∙ (ap (λ (r : Option ℕ). unwrap_or r 0) same.1 ∙ sym b.root_is), record { bytes = appended other.0; first = first.done; second = other.2.done })

-- and so how a list of entries is archived
pub tree_determined : {X M N R S : Type 0} (E : ℕ) (K : Archival M R) (V : Archival N S) → IsDetermined K → IsDetermined V → (entries : X → List (M × N)) → IsDetermined (tree_archival E K V entries)
tree_determined E K V k v entries = record {
  serialised = λ x y from writes others r q same a b.
      let planned = sym (alone_mapped (entry_meaning K V) E (entries x)) ∙ (ap (planned_alone E) same ∙ alone_mapped (entry_meaning K V) E (entries y)) in
      let images = images_are_determined (nodes E K V) K V k v from (planned_alone E (entries x)) (planned_alone E (entries y)) writes others a.0 b.0 planned a.1 b.1 in
      (images.0, a.2 ∙ (ap (λ (place : Option ℕ). unwrap_or place 0) images.1 ∙ sym b.2));
  resolved = λ x y r at own other same a b.
      let count = sym (length-map (entries x) (entry_meaning K V)) ∙ (ap length same ∙ length-map (entries y) (entry_meaning K V)) in
      a.bytes ∙ (ap (root_bytes at r) count ∙ sym b.bytes);
}
