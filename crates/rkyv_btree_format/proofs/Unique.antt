-- A map has one meaning at most, where its keys and values have.
use Rattle.std.specs.Prelude.{◌≡◌, ℕ, ◌+◌, List, [], ◌∷◌, length}
use Rattle.std.proofs.Common.{refl, sym, ap, ◌∙◌, subst, arith, inl, inr}
use Rattle.rkyv_btree_portable.specs.Kind.{Kind, OneMeaning}
use Rattle.rkyv_btree_format.specs.Layout.{layout_of, key_at, value_at}
use Rattle.rkyv_btree_format.specs.Spells.{Entries, Spells, SpellsRow, SpellsChild, Accepted, root_size}
use Rattle.rkyv_btree_shape.specs.Tree.{Tree, leaf, inner, Row, last, step, Child, absent, child, list, row_entries}

module _ (K V : Kind) (E : ℕ) (b : List ℕ) (ku : OneMeaning K) (vu : OneMeaning V) where
  entries_unique : (m m2 : List (K.Value × V.Value)) (p i lo left left2 : ℕ) → length m ≡ length m2 → Entries K V E b p i lo left m → Entries K V E b p i lo left2 m2 → (m ≡ m2) × (left ≡ left2)
  entries_unique [] [] p i lo left left2 count h h2 = (refl, h ∙ sym h2)
  entries_unique [] (f ∷ m2) p i lo left left2 count h h2 = absurd (cc count)
  entries_unique (e ∷ m) [] p i lo left left2 count h h2 = absurd (cc count)
  entries_unique (e ∷ m) (f ∷ m2) p i lo left left2 count h h2 =
      let key = ku b lo p (p + key_at (layout_of K V E) i) h.0 h2.0 e.0 f.0 h.2 h2.2 in
      let value = vu b h.0 p (p + value_at (layout_of K V E) i) h.1 h2.1 e.1 f.1 h.3 (subst (λ (n : ℕ). V.Means b n p (p + value_at (layout_of K V E) i) h2.1 f.1) (sym key.0) h2.3) in
      let rest = entries_unique m m2 p (i + 1) h.1 left left2 (cc count) h.4 (subst (λ (n : ℕ). Entries K V E b p (i + 1) n left2 m2) (sym value.0) h2.4) in
      let first : e ≡ f = pair e.0 f.0 e.1 f.1 key.1 value.1 in
      (ap (λ x. x ∷ m) first ∙ ap (λ r. f ∷ r) rest.0, rest.1)
    where
      pair : (k l : K.Value) (v w : V.Value) → k ≡ l → v ≡ w → ◌≡◌ {A = K.Value × V.Value} (k, v) (l, w)
      pair k l v w ek ev = cc

  mutual
    tree_unique : (t t2 : Tree (K.Value × V.Value)) (lo hi p : ℕ) → Spells K V E b lo hi p t → Spells K V E b lo hi p t2 → t ≡ t2
    tree_unique (leaf m) (leaf m2) lo hi p h h2 = ap leaf (entries_unique m m2 p 0 lo h.3 h2.3 (sym h.1 ∙ h2.1) h.4 h2.4).0
    tree_unique (leaf m) (inner row) lo hi p h h2 = absurd (omega (arith, h.0.kind_byte, h2.0.kind_byte))
    tree_unique (inner row) (leaf m) lo hi p h h2 = absurd (omega (arith, h.0.kind_byte, h2.0.kind_byte))
    tree_unique (inner row) (inner row2) lo hi p h h2 =
        let rows = row_unique row row2 p 0 lo h.2 h2.2 (h.1 ∙ sym h2.1) h.3 h2.3 in
        let own = entries_unique (row_entries row) (row_entries row2) p 0 h.2 h.4 h2.4 (h.1 ∙ sym h2.1) h.5 (subst (λ (n : ℕ). Entries K V E b p 0 n h2.4 (row_entries row2)) (sym rows.0) h2.5) in
        ap inner (rows.1 own.0)

    row_unique : (row row2 : Row (K.Value × V.Value)) (p i lo mid mid2 : ℕ) → length (row_entries row) ≡ length (row_entries row2) → SpellsRow K V E b p i lo mid row → SpellsRow K V E b p i lo mid2 row2 → (mid ≡ mid2) × (row_entries row ≡ row_entries row2 → row ≡ row2)
    row_unique (last c) (last c2) p i lo mid mid2 count h h2 = let one = child_unique c c2 p i lo mid mid2 h h2 in (one.0, λ _. ap last one.1)
    row_unique (last c) (step c2 e row2) p i lo mid mid2 count h h2 = absurd (cc count)
    row_unique (step c e row) (last c2) p i lo mid mid2 count h h2 = absurd (cc count)
    row_unique (step c e row) (step c2 e2 row2) p i lo mid mid2 count h h2 =
        let one = child_unique c c2 p i lo h.0 h2.0 h.1 h2.1 in
        let rest = row_unique row row2 p (i + 1) h.0 mid mid2 (cc count) h.2 (subst (λ (n : ℕ). SpellsRow K V E b p (i + 1) n mid2 row2) (sym one.0) h2.2) in
        (rest.0, λ same. let rows = rest.1 (cc same) in let children = one.1 in let firsts : e ≡ e2 = cc same in cc)

    child_unique : (c c2 : Child (K.Value × V.Value)) (p i lo next next2 : ℕ) → SpellsChild K V E b p i lo next c → SpellsChild K V E b p i lo next2 c2 → (next ≡ next2) × (c ≡ c2)
    child_unique absent absent p i lo next next2 h h2 = (h.1 ∙ sym h2.1, refl)
    child_unique absent (child t2) p i lo next next2 h h2 = absurd (cc (h.0, h2.1))
    child_unique (child t) absent p i lo next next2 h h2 = absurd (cc (h.1, h2.0))
    child_unique (child t) (child t2) p i lo next next2 h h2 =
        let place : h.0 ≡ h2.0 = cc (h.1, h2.1) in
        let trees = tree_unique t t2 lo p h.0 h.2 (subst (λ (n : ℕ). Spells K V E b lo p n t2) (sym place) h2.2) in
        let size = ap (λ (x : Tree (K.Value × V.Value)). root_size (layout_of K V E) x) trees in
        (omega (arith, h.3, h2.3), ap child trees)

  pub map_unique : (lo hi at left left2 : ℕ) (m m2 : List (K.Value × V.Value)) → Accepted K V E b lo hi at left m → Accepted K V E b lo hi at left2 m2 → (left ≡ left2) × (m ≡ m2)
  map_unique lo hi at left left2 m m2 a a2 =
      elim a.root [
        | inl h ↦ elim a2.root [
          | inl h2 ↦ (h.2 ∙ sym h2.2, h.1 ∙ sym h2.1)
          | inr h2 ↦ absurd (h2.0 h.0)
        ]
        | inr h ↦ elim a2.root [
          | inl h2 ↦ absurd (h.0 h2.0)
          | inr h2 ↦
              let r = h.1 in
              let r2 = h2.1 in
              let start : r.start ≡ r2.start = cc (r.leads, r2.leads) in
              let trees = tree_unique r.tree r2.tree lo hi r.start r.spelled (subst (λ (n : ℕ). Spells K V E b lo hi n r2.tree) (sym start) r2.spelled) in
              let size = ap (λ (x : Tree (K.Value × V.Value)). root_size (layout_of K V E) x) trees in
              (omega (arith, r.left, r2.left), r.means ∙ ap list trees ∙ sym r2.means)
        ]
      ]
