-- What was written as a tree, and resolved, has no length past 32 bits.
use Rattle.std.proofs.Common.{◌≡◌, ℕ, ◌+◌, ◌≤◌, ◌⊎◌, ◌∙◌, IsTrue, List, [], ◌∷◌, map, get_or, ⊎_elim, refl, sym, ap, subst, arith, inl, inr, Option}
use Rattle.std.specs.List.{All, flat_map}
use Rattle.std.proofs.lemmas.List.Elements.{All-nil, All-cons, All-head, All-tail}
use Rattle.rkyv_btree_format.specs.Layout.{NodeLayout, key_at, value_at}
use Rattle.rkyv_btree_writing_laws.specs.Entries.{AreResolved}
use Rattle.rkyv_btree_writing_laws.specs.Imaged.{EntriesImage, NodeImage, TreeImage, RowImage, ChildImage, end_of}
use Rattle.rkyv_btree_writing_laws.specs.TreeArchival.{entry_lengths}
use Rattle.rkyv_btree_portable.specs.InPlace.{OwnBytes}
use Rattle.rkyv_btree_shape.specs.Plan.{planned_alone}
use Rattle.rkyv_btree_shape.specs.Tree.{Tree, leaf, inner, Row, last, step, Child, absent, child, list, row_list, child_list, row_entries}
use Rattle.rkyv_btree_shape.proofs.Smallest.{plan_is_left_complete}
use Rattle.rkyv_btree_writer.specs.Archiving.{Archival, IsTooLong}
use Rattle.rkyv_btree_writer.specs.Causes.{HasCauses}
use Rattle.rkyv_btree_writer.specs.Fields.{HasLong}
use Rattle.rkyv_btree_writer.specs.Writing.{Write}
use Rattle.rkyv_btree_writer.proofs.FieldRuns.{long_parts}
use Rattle.rkyv_btree_writing_laws.proofs.EntriesWritten.{tail_of}
use Rattle.rkyv_btree_writing_laws.proofs.ImagesInOrder.{all_of_row}

-- the planned tree has the entries that it was planned of
pub alone_list : {X : Type 0} (E : ℕ) → 1 ≤ E → (xs : List X) → child_list (planned_alone E xs) ≡ xs
alone_list E some [] = refl
alone_list {X} E some (x ∷ xs) = (plan_is_left_complete X E some (x ∷ xs) (omega arith)).1

module _ {M N R S : Type 0} (K : Archival M R) (V : Archival N S) (key : HasCauses K) (value : HasCauses V) (fits : IsTrue K.kind.is_fitting) (fits2 : IsTrue V.kind.is_fitting) where
  -- neither has a long length
  abbrev pub IsShort : M × N → Type 0
  IsShort x = (IsTooLong K x.0 → ⊥) × (IsTooLong V x.1 → ⊥)

  entries_short : (from at at2 : ℕ) (xs : List (M × N)) (writes : List Write) (keys : List R) (values : List S) (owns owns2 : List (List ℕ)) → EntriesImage K V from xs writes keys values → AreResolved K at (map (λ x. x.0) xs) keys owns → AreResolved V at2 (map (λ x. x.1) xs) values owns2 → All IsShort xs
  entries_short from at at2 [] writes keys values owns owns2 h hk hv = All-nil IsShort
  entries_short from at at2 (x ∷ xs) writes keys values owns owns2 h hk hv =
      let one : hk.0 ≡ h.2 = ap (λ (zs : List R). get_or zs 0 h.2) (sym hk.6 ∙ h.9) in
      let two : hv.0 ≡ h.3 = ap (λ (zs : List S). get_or zs 0 h.3) (sym hv.6 ∙ h.10) in
      let more : hk.1 ≡ h.4 = ap tail_of (sym hk.6 ∙ h.9) in
      let more2 : hv.1 ≡ h.5 = ap tail_of (sym hv.6 ∙ h.10) in
      All-cons IsShort x xs (
        key.short fits x.0 from at h.6.first h.2 hk.2 h.6.key (subst (λ (r : R). K.Resolves x.0 r at hk.2) one hk.4),
        value.short fits2 x.1 (end_of from h.6.first) at2 h.6.second h.3 hv.2 h.6.value (subst (λ (r : S). V.Resolves x.1 r at2 hv.2) two hv.4),
      )
      (entries_short (end_of from h.0) (at + K.kind.size) (at2 + V.kind.size) xs h.1 h.4 h.5 hk.3 hv.3 h.7
      (subst (λ (rs : List R). AreResolved K (at + K.kind.size) (map (λ z. z.0) xs) rs hk.3) more hk.5)
      (subst (λ (rs : List S). AreResolved V (at2 + V.kind.size) (map (λ z. z.1) xs) rs hv.3) more2 hv.5))

  node_short : (s : NodeLayout) (image : ℕ → List OwnBytes → List Write) (from : ℕ) (xs : List (M × N)) (writes : List Write) (root : ℕ) → NodeImage s K V image from xs writes root → All IsShort xs
  node_short s image from xs writes root h = entries_short from (root + key_at s 0) (root + value_at s 0) xs h.before h.keys h.values (map (λ o. o.0) h.owns) (map (λ o. o.1) h.owns) h.entries h.resolved.own_keys h.resolved.own_values

  mutual
    tree_short : (s : NodeLayout) (from : ℕ) (t : Tree (M × N)) (writes : List Write) (root : ℕ) → TreeImage s K V from t writes root → All IsShort (list t)
    tree_short s from (leaf xs) writes root h = node_short s _ from xs writes root h
    tree_short s from (inner row) writes root h = row_short s from row h.0 h.2 h.3 (node_short s _ (end_of from h.0) (row_entries row) h.1 root h.4)

    row_short : (s : NodeLayout) (from : ℕ) (row : Row (M × N)) (writes : List Write) (roots : List (Option ℕ)) → RowImage s K V from row writes roots → All IsShort (row_entries row) → All IsShort (row_list row)
    row_short s from (last c) writes roots h own = child_short s from c writes h.0 h.1
    row_short s from (step c x row) writes roots h own =
        all_of_row IsShort c x row (child_short s from c h.0 h.2 h.4) (All-head IsShort x (row_entries row) own) (row_short s (end_of from h.0) row h.1 h.3 h.5 (All-tail IsShort x (row_entries row) own))

    child_short : (s : NodeLayout) (from : ℕ) (c : Child (M × N)) (writes : List Write) (root : Option ℕ) → ChildImage s K V from c writes root → All IsShort (child_list c)
    child_short s from absent writes root h = All-nil IsShort
    child_short s from (child t) writes root h = tree_short s from t writes h.0 h.1

  short_entry : (x : M × N) → IsShort x → HasLong (K.lengths x.0) ⊎ HasLong (V.lengths x.1) → ⊥
  short_entry x short (inl h) = short.0 h
  short_entry x short (inr h) = short.1 h

  none_long : (E : ℕ) (xs : List (M × N)) → All IsShort xs → HasLong (flat_map (entry_lengths E K V) xs) → ⊥
  none_long E [] all h = h
  none_long E (x ∷ xs) all h = ⊎_elim (λ own. short_entry x (All-head IsShort x xs all) (long_parts (K.lengths x.0) (V.lengths x.1) own)) (none_long E xs (All-tail IsShort x xs all)) (long_parts (entry_lengths E K V x) (flat_map (entry_lengths E K V) xs) h)

  pub written_short : (s : NodeLayout) (E : ℕ) → 1 ≤ E → (from : ℕ) (xs : List (M × N)) (writes : List Write) (place : Option ℕ) → ChildImage s K V from (planned_alone E xs) writes place → HasLong (flat_map (entry_lengths E K V) xs) → ⊥
  written_short s E some from xs writes place h long = none_long E xs (subst (All IsShort) (alone_list E some xs) (child_short s from (planned_alone E xs) writes place h)) long
