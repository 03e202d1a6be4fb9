-- The image of a tree from a position on is what a writer at that position takes of the tree, where all of it is in reach.
use Rattle.std.proofs.Common.{◌≡◌, ℕ, ◌+◌, ◌<◌, ◌≤◌, ◌∙◌, true, IsTrue, List, [], ◌∷◌, ◌++◌, length, Option, inr, refl, sym, ap, subst, arith}
use Rattle.std.proofs.lemmas.List.{length-append}
use Rattle.std.proofs.lemmas.List.Elements.{All-nil, All-cons, All-head, All-tail}
use Rattle.std.specs.List.{All}
use Rattle.rkyv_btree_format.proofs.Aligned.{alignment}
use Rattle.rkyv_btree_format.specs.Layout.{NodeLayout, layout_of, are_fitting, align, leaf_size, inner_size}
use Rattle.rkyv_btree_portable.specs.InPlace.{OwnBytes}
use Rattle.rkyv_btree_portable.specs.Kind.{Kind, IsLawful}
use Rattle.rkyv_btree_portable.specs.Rounding.{round_up}
use Rattle.rkyv_btree_portable.specs.laws.Rounding.{alignment_positive}
use Rattle.rkyv_btree_shape.proofs.Levels.{all_left, all_right}
use Rattle.rkyv_btree_shape.specs.Tree.{Tree, leaf, inner, Row, last, step, Child, absent, child, list, row_list, child_list, row_entries, HasShape, RowHasShape, ChildHasShape}
use Rattle.rkyv_btree_writer.specs.Archiving.{Archival, IsArchived, Matches}
use Rattle.rkyv_btree_writer.specs.Padding.{padding}
use Rattle.rkyv_btree_writer.specs.Writing.{Writing, Write, position, appended, AllReach, Wrote, last_end}
use Rattle.rkyv_btree_writer.proofs.WriteRuns.{appended-append, reach_split, wrote-none, wrote-both}
use Rattle.rkyv_btree_writing_laws.specs.Entries.{IsSerialised, AreSerialised}
use Rattle.rkyv_btree_writing_laws.specs.Image.{leaf_bytes, leaf_image, inner_write, inner_image}
use Rattle.rkyv_btree_writing_laws.specs.Imaged.{end_of, EntryIn, EntryImage, EntriesImage, NodeImage, TreeImage, RowImage, ChildImage}
use Rattle.rkyv_btree_writing_laws.specs.Written.{AreInNode, NodeWritten, TreeWritten, RowWritten, ChildWritten}
use Rattle.rkyv_btree_writing_laws.proofs.Leaves.{length-padding}
use Rattle.rkyv_btree_writing_laws.proofs.NodesDecided.{leaf_sized, inner_sized}
use Rattle.rkyv_btree_writing_laws.proofs.TreesImaged.{wrote-end}
use Rattle.rkyv_btree_writing_laws.proofs.TreesStopped.{image_roots}

-- a writer that took all writes
abbrev behind : Writing → List Write → Writing
behind s writes = record { base = s.base; contents = s.contents ++ appended writes; failures = s.failures }

wrote_behind : (s : Writing) (writes : List Write) → AllReach writes → Wrote s writes (behind s writes)
wrote_behind s writes reach = record { done = record { base = refl; contents = refl; failures = refl }; reach = reach }

-- how much two parts append
long_both : (writes first second : List Write) → writes ≡ first ++ second → length (appended writes) ≡ length (appended first) + length (appended second)
long_both writes first second both = ap (λ (ws : List Write). length (appended ws)) both ∙ (ap length (appended-append first second) ∙ length-append (appended first) (appended second))

-- where a node's writes end
node_end : (align at : ℕ) (node : Write) → 0 < align → end_of at (padding align at ++ node ∷ []) ≡ round_up at align + length node.bytes
node_end align at node positive = omega (arith, long_both (padding align at ++ node ∷ []) (padding align at) (node ∷ []) refl, length-padding align at positive, length-append node.bytes [])

-- what holds of all of a row's entries holds of those of its node
pub all_of_node : {A : Type 0} (P : A → Type 0) (row : Row A) → All P (row_list row) → All P (row_entries row)
all_of_node P (last c) h = All-nil P
all_of_node P (step c x row) h =
    let later = all_right P (child_list c) (x ∷ row_list row) h in
    All-cons P x (row_entries row) (All-head P x (row_list row) later) (all_of_node P row (All-tail P x (row_list row) later))

module _ {M N R S : Type 0} (K : Archival M R) (V : Archival N S) where
  entry_written : (from : ℕ) (x : M × N) (writes : List Write) (r : R) (q : S) (start : Writing) → EntryImage K V from x writes r q → AllReach writes → EntryIn K V x → position start ≡ from → end_of from writes ≤ last_end →
      (mid : Writing) × (to : Writing) × IsSerialised K start x.0 r mid × IsSerialised V mid x.1 q to × Wrote start writes to
  entry_written from x writes r q start h reach is_in at inside =
      let parts = reach_split h.first h.second (subst AllReach h.both reach) in
      let mid = behind start h.first in
      let to = behind mid h.second in
      let key = wrote_behind start h.first parts.0 in
      let value = wrote_behind mid h.second parts.1 in
      let long = long_both writes h.first h.second h.both in
      let middle : end_of from h.first ≡ position mid = omega (arith, at, wrote-end start h.first mid key) in
      let end : end_of from writes ≡ position to = omega (arith, middle, long, wrote-end mid h.second to value) in (
        mid,
        to,
        record { writes = h.first; allowed = subst (λ (n : ℕ). K.Writes x.0 n h.first r) (sym at) h.key; wrote = key; is_in = is_in.0; end = inr (omega (arith, middle, long, inside)) },
        record { writes = h.second; allowed = subst (λ (n : ℕ). V.Writes x.1 n h.second q) middle h.value; wrote = value; is_in = is_in.1; end = inr (omega (arith, end, inside)) },
        subst (λ (ws : List Write). Wrote start ws to) (sym h.both) (wrote-both start h.first mid h.second to key value),
      )

  entries_written : (from : ℕ) (xs : List (M × N)) (writes : List Write) (keys : List R) (values : List S) (start : Writing) → EntriesImage K V from xs writes keys values → AllReach writes → All (EntryIn K V) xs → position start ≡ from → end_of from writes ≤ last_end →
      (to : Writing) × AreSerialised K V start xs keys values to × Wrote start writes to
  entries_written from [] writes keys values start h reach are_in at inside = (start, (refl, h.1, h.2), subst (λ (ws : List Write). Wrote start ws start) (sym h.0) (wrote-none start))
  entries_written from (x ∷ xs) writes keys values start h reach are_in at inside =
      let parts = reach_split h.0 h.1 (subst AllReach h.8 reach) in
      let long = long_both writes h.0 h.1 h.8 in
      let one = entry_written from x h.0 h.2 h.3 start h.6 parts.0 (All-head (EntryIn K V) x xs are_in) at (omega (arith, long, inside)) in
      let next : position one.1 ≡ end_of from h.0 = omega (arith, at, wrote-end start h.0 one.1 one.4) in
      let rest = entries_written (end_of from h.0) xs h.1 h.4 h.5 one.1 h.7 parts.1 (All-tail (EntryIn K V) x xs are_in) next (omega (arith, long, inside)) in
      (rest.0, (h.2, h.3, h.4, h.5, one.0, one.1, one.2, one.3, rest.1, h.9, h.10), subst (λ (ws : List Write). Wrote start ws rest.0) (sym h.8) (wrote-both start h.0 one.1 h.1 rest.0 one.4 rest.2))

module _ {M N R S : Type 0} (s : NodeLayout) (K : Archival M R) (V : Archival N S) (positive : 0 < align s) (image : ℕ → List OwnBytes → List Write) (node : ℕ → List OwnBytes → Write) (size : ℕ) (image_is : (at : ℕ) (owns : List OwnBytes) → image at owns ≡ padding (align s) at ++ node at owns ∷ []) (xs : List (M × N)) (long : (from : Writing) (root : ℕ) (owns : List OwnBytes) (mid : Writing) (at : ℕ) → AreInNode s K V from xs root owns mid → length (node at owns).bytes ≡ size) where
  node_written : (from : ℕ) (writes : List Write) (root : ℕ) (start : Writing) → NodeImage s K V image from xs writes root → AllReach writes → All (EntryIn K V) xs → position start ≡ from → end_of from writes ≤ last_end → (to : Writing) × NodeWritten s K V image size start xs root to × Wrote start writes to
  node_written from writes root start h reach are_in at inside =
      let own = image (end_of from h.before) h.owns in
      let parts = reach_split h.before own (subst AllReach h.both reach) in
      let entries = entries_written K V from xs h.before h.keys h.values start h.entries parts.0 are_in at (omega (arith, long_both writes h.before own h.both, inside)) in
      let mid = entries.0 in
      let to = behind mid own in
      let here : end_of from h.before ≡ position mid = omega (arith, at, wrote-end start h.before mid entries.2) in
      let there : AreInNode s K V start xs root h.owns mid = record { keys = h.keys; values = h.values; serialised = entries.1; place = h.place ∙ ap (λ (n : ℕ). round_up n (align s)) here; resolved = h.resolved } in
      let wrote = wrote_behind mid own parts.1 in
      let last = node (end_of from h.before) h.owns in
      let end : end_of (end_of from h.before) own ≡ round_up (end_of from h.before) (align s) + length last.bytes = ap (λ (ws : List Write). end_of (end_of from h.before) ws) (image_is (end_of from h.before) h.owns) ∙ node_end (align s) (end_of from h.before) last positive in (
        to,
        record {
          owns = h.owns;
          mid = mid;
          entries = there;
          wrote = subst (λ (n : ℕ). Wrote mid (image n h.owns) to) here wrote;
          end = omega (arith, wrote-end mid own to wrote, end, here, h.place, long start root h.owns mid (end_of from h.before) there);
        },
        subst (λ (ws : List Write). Wrote start ws to) (sym h.both) (wrote-both start h.before mid own to entries.2 wrote),
      )

module _ {M N R S : Type 0} (K V : Kind) (E : ℕ) (k : IsLawful K) (v : IsLawful V) (fits : IsTrue (are_fitting K V E)) (KA : Archival M R) (VA : Archival N S) (key : Matches KA.kind K) (value : Matches VA.kind V) (ka : IsArchived KA) (va : IsArchived VA) where
  positive : 0 < align (layout_of K V E)
  positive = alignment_positive (alignment K V E k v)

  mutual
    tree_written : (from : ℕ) (t : Tree (M × N)) (writes : List Write) (root : ℕ) (start : Writing) → HasShape E t → TreeImage (layout_of K V E) KA VA from t writes root → AllReach writes → All (EntryIn KA VA) (list t) → position start ≡ from → end_of from writes ≤ last_end →
        (to : Writing) × TreeWritten (layout_of K V E) KA VA start t root to × Wrote start writes to
    tree_written from (leaf xs) writes root start few h reach are_in at inside =
        let s = layout_of K V E in
        node_written s KA VA positive (leaf_image s) (λ at owns. record { bytes = leaf_bytes s owns; reaches = true }) (leaf_size s) (λ at owns. refl) xs
        (λ begin root owns mid at there. leaf_sized K V E k v fits KA VA key value ka va begin xs root owns mid there few) from writes root start h reach are_in at inside
    tree_written from (inner row) writes root start shape h reach are_in at inside =
        let s = layout_of K V E in
        let parts = reach_split h.0 h.1 (subst AllReach h.5 reach) in
        let long = long_both writes h.0 h.1 h.5 in
        let before = row_written from row h.0 h.2 start shape.1 h.3 parts.0 are_in at (omega (arith, long, inside)) in
        let next : position before.0 ≡ end_of from h.0 = omega (arith, at, wrote-end start h.0 before.0 before.2) in
        let count : length h.2 ≡ E + 1 = omega (arith, image_roots s KA VA from row h.0 h.2 h.3, shape.0) in
        let node = node_written s KA VA positive (λ at owns. inner_image s at owns h.2) (λ at owns. inner_write s (round_up at (align s)) owns h.2) (inner_size s) (λ at owns. refl) (row_entries row)
        (λ begin root owns mid at there. inner_sized K V E k v fits KA VA key value ka va begin (row_entries row) root owns mid there (round_up at (align s)) h.2 shape.0 count)
        (end_of from h.0) h.1 root before.0 h.4 parts.1 (all_of_node (EntryIn KA VA) row are_in) next (omega (arith, long, inside)) in
        (node.0, (h.2, before.0, before.1, node.1), subst (λ (ws : List Write). Wrote start ws node.0) (sym h.5) (wrote-both start h.0 before.0 h.1 node.0 before.2 node.2))

    row_written : (from : ℕ) (row : Row (M × N)) (writes : List Write) (roots : List (Option ℕ)) (start : Writing) → RowHasShape E row → RowImage (layout_of K V E) KA VA from row writes roots → AllReach writes → All (EntryIn KA VA) (row_list row) → position start ≡ from → end_of from writes ≤ last_end →
        (to : Writing) × RowWritten (layout_of K V E) KA VA start row roots to × Wrote start writes to
    row_written from (last c) writes roots start shape h reach are_in at inside =
        let one = image_written from c writes h.0 start shape h.1 reach are_in at inside in
        (one.0, (h.0, one.1, h.2), one.2)
    row_written from (step c x row) writes roots start shape h reach are_in at inside =
        let P = EntryIn KA VA in
        let parts = reach_split h.0 h.1 (subst AllReach h.6 reach) in
        let long = long_both writes h.0 h.1 h.6 in
        let one = image_written from c h.0 h.2 start shape.0 h.4 parts.0 (all_left P (child_list c) (x ∷ row_list row) are_in) at (omega (arith, long, inside)) in
        let next : position one.0 ≡ end_of from h.0 = omega (arith, at, wrote-end start h.0 one.0 one.2) in
        let rest = row_written (end_of from h.0) row h.1 h.3 one.0 shape.1 h.5 parts.1 (All-tail P x (row_list row) (all_right P (child_list c) (x ∷ row_list row) are_in)) next (omega (arith, long, inside)) in
        (rest.0, (h.2, h.3, one.0, one.1, rest.1, h.7), subst (λ (ws : List Write). Wrote start ws rest.0) (sym h.6) (wrote-both start h.0 one.0 h.1 rest.0 one.2 rest.2))

    pub image_written : (from : ℕ) (c : Child (M × N)) (writes : List Write) (root : Option ℕ) (start : Writing) → ChildHasShape E c → ChildImage (layout_of K V E) KA VA from c writes root → AllReach writes → All (EntryIn KA VA) (child_list c) → position start ≡ from → end_of from writes ≤ last_end →
        (to : Writing) × ChildWritten (layout_of K V E) KA VA start c root to × Wrote start writes to
    image_written from absent writes root start shape h reach are_in at inside = (start, (h.1, refl), subst (λ (ws : List Write). Wrote start ws start) (sym h.0) (wrote-none start))
    image_written from (child t) writes root start shape h reach are_in at inside =
        let one = tree_written from t writes h.0 start shape h.1 reach are_in at inside in
        (one.0, (h.0, one.1, h.2), one.2)
