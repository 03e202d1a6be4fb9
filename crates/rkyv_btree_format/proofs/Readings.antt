-- What a spelled tree means is what is read.
use Rattle.std.specs.Prelude.{◌≡◌, ◌≢◌, ◌⊎◌, ℕ, zero, suc, ◌+◌, ◌≤◌, List, [], ◌∷◌, map, length, slice_index}
use Rattle.std.proofs.Common.{refl, ap, ◌∙◌, subst, arith, inl, inr}
use Rattle.std.proofs.lemmas.Bool.{eq-eqb, ne_eqb}
use Rattle.rkyv_btree_portable.specs.Bytes.{number_at, target_at}
use Rattle.rkyv_btree_portable.specs.Kind.{Kind, IsRead}
use Rattle.rkyv_btree_format.specs.Layout.{layout_of, key_at, value_at, pointer_at}
use Rattle.rkyv_btree_format.specs.Read.{run, child_of, row_at, tree_at, tree_of, map_tree, entry_at, read_map}
use Rattle.rkyv_btree_format.specs.Spells.{Entries, Spells, SpellsRow, SpellsChild, SpellsRoot, Accepted, accepted_tree}
use Rattle.rkyv_btree_shape.proofs.Mapped.{list_mapped, child_list_mapped}
use Rattle.rkyv_btree_shape.specs.Mapped.{mapped, mapped_row, mapped_child}
use Rattle.rkyv_btree_shape.specs.Tree.{Tree, leaf, inner, Row, last, step, Child, absent, child, list, child_list, row_entries, height, row_height, child_height}

same_pair : {A B : Type 0} (k l : A) (v w : B) → k ≡ l → v ≡ w → ◌≡◌ {A = A × B} (k, v) (l, w)
same_pair k l v w ek ev = cc

same_step : {X : Type 0} (c d : Child X) (e f : X) (r q : Row X) → c ≡ d → e ≡ f → r ≡ q → step c e r ≡ step d f q
same_step c d e f r q ec ee er = cc

module _ (K V : Kind) (E : ℕ) (b : List ℕ) (kr : IsRead K) (vr : IsRead V) where
  entries_read : (m : List (K.Value × V.Value)) (p i lo lo2 : ℕ) → Entries K V E b p i lo lo2 m → m ≡ map (entry_at K V E b) (run (layout_of K V E) b p (length m) i)
  entries_read [] p i lo lo2 h = refl
  entries_read (e ∷ m) p i lo lo2 h =
      let key = kr b lo p (p + key_at (layout_of K V E) i) h.0 e.0 h.2 in
      let value = vr b h.0 p (p + value_at (layout_of K V E) i) h.1 e.1 h.3 in
      let rest = entries_read m p (i + 1) h.1 lo2 h.4 in
      let first : e ≡ entry_at K V E b (p, i) = same_pair e.0 _ e.1 _ key value in
      ap (λ x. x ∷ m) first ∙ ap (λ r. entry_at K V E b (p, i) ∷ r) rest

  mutual
    tree_read : (t : Tree (K.Value × V.Value)) (levels lo hi p : ℕ) → Spells K V E b lo hi p t → height t ≤ levels → t ≡ mapped (entry_at K V E b) (tree_at (layout_of K V E) b levels p)
    tree_read (leaf m) zero lo hi p h d = absurd (omega arith)
    tree_read (inner row) zero lo hi p h d = absurd (omega arith)
    tree_read (leaf m) (suc levels) lo hi p h d =
        rw (eq-eqb (slice_index b p) 0 h.0.kind_byte, h.1) (ap leaf (entries_read m p 0 lo h.3 h.4))
    tree_read (inner row) (suc levels) lo hi p h d =
        let kind = h.0.kind_byte in
        rw (ne_eqb (slice_index b p) 0 (omega arith)) (ap inner (subst (λ (n : ℕ). row ≡ mapped_row (entry_at K V E b) (row_at (layout_of K V E) b (tree_at (layout_of K V E) b levels) p n 0)) h.1 (row_read row levels p 0 lo h.2 h.2 h.4 h.3 h.5 (omega arith))))

    row_read : (row : Row (K.Value × V.Value)) (levels p i lo mid from to : ℕ) → SpellsRow K V E b p i lo mid row → Entries K V E b p i from to (row_entries row) → row_height row ≤ levels → row ≡ mapped_row (entry_at K V E b) (row_at (layout_of K V E) b (tree_at (layout_of K V E) b levels) p (length (row_entries row)) i)
    row_read (last c) levels p i lo mid from to h own d = ap last (child_read c levels p i lo mid h d)
    row_read (step c e row) levels p i lo mid from to h own d =
        let s = layout_of K V E in
        let first = child_read c levels p i lo h.0 h.1 (omega arith) in
        let key = kr b from p (p + key_at s i) own.0 e.0 own.2 in
        let value = vr b own.0 p (p + value_at s i) own.1 e.1 own.3 in
        let rest = row_read row levels p (i + 1) h.0 mid own.1 to h.2 own.4 (omega arith) in
        let middle : e ≡ entry_at K V E b (p, i) = same_pair e.0 _ e.1 _ key value in
        same_step c _ e _ row _ first middle rest

    child_read : (c : Child (K.Value × V.Value)) (levels p i lo next : ℕ) → SpellsChild K V E b p i lo next c → child_height c ≤ levels → c ≡ mapped_child (entry_at K V E b) (child_of (layout_of K V E) b (tree_at (layout_of K V E) b levels) (target_at b (p + pointer_at (layout_of K V E) i)))
    child_read absent levels p i lo next h d = rw h.0 refl
    child_read (child t) levels p i lo next h d = rw h.1 (ap child (tree_read t levels lo p h.0 h.2 d))

  pub child_list_read : (c : Child (K.Value × V.Value)) (levels p i lo next : ℕ) → SpellsChild K V E b p i lo next c → child_height c ≤ levels → child_list c ≡ map (entry_at K V E b) (child_list (child_of (layout_of K V E) b (tree_at (layout_of K V E) b levels) (target_at b (p + pointer_at (layout_of K V E) i))))
  child_list_read c levels p i lo next h d =
      ap child_list (child_read c levels p i lo next h d) ∙ child_list_mapped (entry_at K V E b) (child_of (layout_of K V E) b (tree_at (layout_of K V E) b levels) (target_at b (p + pointer_at (layout_of K V E) i)))

  -- the tree that is read is the one that is spelled
  pub tree_is_read : (lo hi at left : ℕ) (m : List (K.Value × V.Value)) (a : Accepted K V E b lo hi at left m) → accepted_tree K V E b lo hi at left m a ≡ mapped (entry_at K V E b) (map_tree (layout_of K V E) b at)
  unfolding tree_of
  tree_is_read lo hi at left m a = go a.root
    where
      n : ℕ
      n = number_at b (at + 4) 4

      go : (root : ((n ≡ 0) × (m ≡ []) × (left ≡ lo)) ⊎ ((n ≢ 0) × SpellsRoot K V E b lo hi at left m)) → elim root [ inl h ↦ leaf [] | inr h ↦ h.1.tree ] ≡ mapped (entry_at K V E b) (map_tree (layout_of K V E) b at)
      go (inl h) = rw (eq-eqb n 0 h.0) refl
      go (inr h) =
          let r = h.1 in
          rw (ne_eqb n 0 h.0, r.leads) (tree_read r.tree 32 lo hi r.start r.spelled r.levels)

  accepted_list : (lo hi at left : ℕ) (m : List (K.Value × V.Value)) (a : Accepted K V E b lo hi at left m) → m ≡ list (accepted_tree K V E b lo hi at left m a)
  accepted_list lo hi at left m a = go a.root
    where
      go : (root : ((number_at b (at + 4) 4 ≡ 0) × (m ≡ []) × (left ≡ lo)) ⊎ ((number_at b (at + 4) 4 ≢ 0) × SpellsRoot K V E b lo hi at left m)) → m ≡ list (elim root [ inl h ↦ leaf [] | inr h ↦ h.1.tree ])
      go (inl h) = h.1
      go (inr h) = h.1.means

  pub map_is_read : (lo hi at left : ℕ) (m : List (K.Value × V.Value)) → Accepted K V E b lo hi at left m → m ≡ read_map K V E b at
  map_is_read lo hi at left m a =
      accepted_list lo hi at left m a ∙ ap list (tree_is_read lo hi at left m a) ∙ list_mapped (entry_at K V E b) (map_tree (layout_of K V E) b at)
