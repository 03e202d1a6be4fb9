-- What a writer took of a tree is the tree's image from the writer's position on.
use Rattle.std.proofs.Common.{◌≡◌, ℕ, List, [], ◌∷◌, ◌++◌, Option, refl, sym, ap, subst, ◌∙◌}
use Rattle.rkyv_btree_format.specs.Layout.{NodeLayout, align, leaf_size, inner_size}
use Rattle.rkyv_btree_portable.specs.InPlace.{OwnBytes}
use Rattle.rkyv_btree_portable.specs.Rounding.{round_up}
use Rattle.rkyv_btree_shape.specs.Tree.{Tree, leaf, inner, Row, last, step, Child, absent, child, row_entries}
use Rattle.rkyv_btree_writer.specs.Archiving.{Archival}
use Rattle.rkyv_btree_writer.specs.Writing.{Writing, Write, position, appended, Wrote}
use Rattle.rkyv_btree_writer.proofs.WriteRuns.{appended-position, wrote-none, wrote-both}
use Rattle.rkyv_btree_writing_laws.specs.Entries.{IsSerialised, AreSerialised}
use Rattle.rkyv_btree_writing_laws.specs.Image.{leaf_image, inner_image}
use Rattle.rkyv_btree_writing_laws.specs.Imaged.{end_of, EntryImage, EntriesImage, NodeImage, TreeImage, RowImage, ChildImage}
use Rattle.rkyv_btree_writing_laws.specs.Written.{AreInNode, NodeWritten, TreeWritten, RowWritten, ChildWritten}

-- where writes led a writer
pub wrote-end : (s : Writing) (writes : List Write) (t : Writing) → Wrote s writes t → position t ≡ end_of (position s) writes
wrote-end s writes t w = appended-position s (appended writes) t w.done

-- nothing was written
pub wrote-nothing : (s t : Writing) → t ≡ s → Wrote s [] t
wrote-nothing s t same = subst (λ (u : Writing). Wrote s [] u) (sym same) (wrote-none s)

module _ {M N R S : Type 0} (K : Archival M R) (V : Archival N S) where
  pub entry_imaged : (from mid to : Writing) (x : M × N) (r : R) (q : S) → IsSerialised K from x.0 r mid → IsSerialised V mid x.1 q to → (writes : List Write) × EntryImage K V (position from) x writes r q × Wrote from writes to
  entry_imaged from mid to x r q key value = (
    key.writes ++ value.writes,
    record { first = key.writes; second = value.writes; key = key.allowed; value = subst (λ (n : ℕ). V.Writes x.1 n value.writes q) (wrote-end from key.writes mid key.wrote) value.allowed; both = refl },
    wrote-both from key.writes mid value.writes to key.wrote value.wrote,
  )

  pub entries_imaged : (from : Writing) (xs : List (M × N)) (keys : List R) (values : List S) (to : Writing) → AreSerialised K V from xs keys values to → (writes : List Write) × EntriesImage K V (position from) xs writes keys values × Wrote from writes to
  entries_imaged from [] keys values to h = ([], (refl, h.1, h.2), wrote-nothing from to h.0)
  entries_imaged from (x ∷ xs) keys values to h =
      let one = entry_imaged from h.4 h.5 x h.0 h.1 h.6 h.7 in
      let rest = entries_imaged h.5 xs h.2 h.3 to h.8 in
      let next = subst (λ (n : ℕ). EntriesImage K V n xs rest.0 h.2 h.3) (wrote-end from one.0 h.5 one.2) rest.1 in
      (one.0 ++ rest.0, (one.0, rest.0, h.0, h.1, h.2, h.3, one.1, next, refl, h.9, h.10), wrote-both from one.0 h.5 rest.0 to one.2 rest.2)

module _ {M N R S : Type 0} (s : NodeLayout) (K : Archival M R) (V : Archival N S) where
  pub in_node_imaged : (image : ℕ → List OwnBytes → List Write) (from : Writing) (xs : List (M × N)) (root : ℕ) (owns : List OwnBytes) (mid : Writing) → AreInNode s K V from xs root owns mid →
      (before : List Write) × NodeImage s K V image (position from) xs (before ++ image (position mid) owns) root × Wrote from before mid
  in_node_imaged image from xs root owns mid h =
      let before = entries_imaged K V from xs h.keys h.values mid h.serialised in
      let here = wrote-end from before.0 mid before.2 in (
        before.0,
        record {
          keys = h.keys;
          values = h.values;
          before = before.0;
          owns = owns;
          entries = before.1;
          place = h.place ∙ ap (λ (n : ℕ). round_up n (align s)) here;
          resolved = h.resolved;
          both = ap (λ (n : ℕ). before.0 ++ image n owns) here;
        },
        before.2,
      )

  node_imaged : (image : ℕ → List OwnBytes → List Write) (size : ℕ) (from : Writing) (xs : List (M × N)) (root : ℕ) (to : Writing) → NodeWritten s K V image size from xs root to → (writes : List Write) × NodeImage s K V image (position from) xs writes root × Wrote from writes to
  node_imaged image size from xs root to h =
      let node = in_node_imaged image from xs root h.owns h.mid h.entries in
      (node.0 ++ image (position h.mid) h.owns, node.1, wrote-both from node.0 h.mid (image (position h.mid) h.owns) to node.2 h.wrote)

  mutual
    tree_imaged : (from : Writing) (t : Tree (M × N)) (root : ℕ) (to : Writing) → TreeWritten s K V from t root to → (writes : List Write) × TreeImage s K V (position from) t writes root × Wrote from writes to
    tree_imaged from (leaf xs) root to h = node_imaged (leaf_image s) (leaf_size s) from xs root to h
    tree_imaged from (inner row) root to h =
        let image : ℕ → List OwnBytes → List Write = λ at owns. inner_image s at owns h.0 in
        let before = row_imaged from row h.0 h.1 h.2 in
        let node = node_imaged image (inner_size s) h.1 (row_entries row) root to h.3 in
        let behind = subst (λ (n : ℕ). NodeImage s K V image n (row_entries row) node.0 root) (wrote-end from before.0 h.1 before.2) node.1 in
        (before.0 ++ node.0, (before.0, node.0, h.0, before.1, behind, refl), wrote-both from before.0 h.1 node.0 to before.2 node.2)

    pub row_imaged : (from : Writing) (row : Row (M × N)) (roots : List (Option ℕ)) (to : Writing) → RowWritten s K V from row roots to → (writes : List Write) × RowImage s K V (position from) row writes roots × Wrote from writes to
    row_imaged from (last c) roots to h =
        let one = child_imaged from c h.0 to h.1 in
        (one.0, (h.0, one.1, h.2), one.2)
    row_imaged from (step c x row) roots to h =
        let one = child_imaged from c h.0 h.2 h.3 in
        let rest = row_imaged h.2 row h.1 to h.4 in
        let behind = subst (λ (n : ℕ). RowImage s K V n row rest.0 h.1) (wrote-end from one.0 h.2 one.2) rest.1 in
        (one.0 ++ rest.0, (one.0, rest.0, h.0, h.1, one.1, behind, refl, h.5), wrote-both from one.0 h.2 rest.0 to one.2 rest.2)

    pub child_imaged : (from : Writing) (c : Child (M × N)) (root : Option ℕ) (to : Writing) → ChildWritten s K V from c root to → (writes : List Write) × ChildImage s K V (position from) c writes root × Wrote from writes to
    child_imaged from absent root to h = ([], (refl, h.0), wrote-nothing from to h.1)
    child_imaged from (child t) root to h =
        let one = tree_imaged from t h.0 to h.1 in
        (one.0, (h.0, one.1, h.2), one.2)
