-- Where a tree is spelled, its nodes stand.
use Rattle.std.proofs.Common.{◌≡◌, ℕ, zero, suc, ◌+◌, ◌≤◌, ◌<◌, IsTrue, List, [], ◌∷◌, length, refl, arith, true, false, Option, Some, None, slice_index, inl, inr}
use Rattle.std.proofs.lemmas.Bool.{eq-eqb, ne_eqb, cases_lt, cases_Bool}
use Rattle.std.specs.Prelude.{ℤ, pos, negsuc}
use Rattle.rkyv_btree_portable.specs.Bytes.{target_at}
use Rattle.rkyv_btree_portable.specs.Kind.{Kind, IsLawful}
use Rattle.rkyv_btree_format.specs.Layout.{layout_of, are_fitting, pointer_at}
use Rattle.rkyv_btree_format.specs.Spells.{Entries, Spells, SpellsRow, SpellsChild}
use Rattle.rkyv_btree_shape.specs.Tree.{Tree, leaf, inner, Row, last, step, Child, absent, child, row_entries, height, row_height, child_height}
use Rattle.rkyv_btree_portable.specs.laws.Views.{stands_of}
use Rattle.rkyv_btree_format.proofs.Sizes.{room_of}
use Rattle.rkyv_btree_walk.specs.mirror.Node.{EntryStands, LeadsBefore, NodeStands, TreeStands}
use Rattle.rkyv_btree_walk.specs.Nodes.{natural, is_leaf, child_place}

module _ (K V : Kind) (E : ℕ) (b : List ℕ) where
  -- a tree has a level for its root, which stands
  pub tree_levels : (levels p : ℕ) → TreeStands K V E b levels p → (m : ℕ) × (levels ≡ suc m) × NodeStands K V E b p
  unfolding TreeStands
  tree_levels zero p h = absurd h
  tree_levels (suc m) p h = (m, refl, h.0)

  pub tree_node : (levels p : ℕ) → TreeStands K V E b levels p → NodeStands K V E b p
  tree_node levels p tree = (tree_levels levels p tree).2

  leads_before : (p q : ℕ) (t : Option ℤ) → LeadsBefore p t → natural t ≡ Some q → q < p
  leads_before p q None h e = absurd (cc e)
  leads_before p q (Some (negsuc n)) h e = absurd h
  leads_before p q (Some (pos r)) h e = let same : r ≡ q = cc e in omega arith

  -- the children of a node stand before it
  pub child_before : (p : ℕ) → NodeStands K V E b p → (i q : ℕ) → i ≤ E → child_place (layout_of K V E) b p i ≡ Some q → q < p
  child_before p node i q le to =
      elim (cases_Bool (is_leaf (layout_of K V E) b p)) [
        | inl e ↦ absurd (cc (rw e at to))
        | inr e ↦ leads_before p q (target_at b (p + pointer_at (layout_of K V E) i)) (node.leads e i le) (rw e at to)
      ]

  -- and are trees with a level less
  pub child_stands : (levels p : ℕ) → TreeStands K V E b (suc levels) p → (i q : ℕ) → i ≤ E → child_place (layout_of K V E) b p i ≡ Some q → TreeStands K V E b levels q
  unfolding TreeStands
  child_stands levels p tree = tree.1

  pub tree_child_node : (levels p : ℕ) → TreeStands K V E b levels p → (i q : ℕ) → i ≤ E → child_place (layout_of K V E) b p i ≡ Some q → NodeStands K V E b q
  tree_child_node levels p tree i q le to =
      let o = tree_levels levels p tree in
      tree_node o.0 q (child_stands o.0 p (rw o.1 at tree) i q le to)

  grown : (m p : ℕ) → NodeStands K V E b p → ((i q : ℕ) → i ≤ E → child_place (layout_of K V E) b p i ≡ Some q → TreeStands K V E b m q) → TreeStands K V E b (suc m) p
  unfolding TreeStands
  grown m p node below = (node, below)

  module _ (k : IsLawful K) (v : IsLawful V) (fits : IsTrue (are_fitting K V E)) where
    entry_stands : (m : List (K.Value × V.Value)) (p i lo lo2 : ℕ) → Entries K V E b p i lo lo2 m → (j : ℕ) → i ≤ j → j < i + length m → EntryStands K V E b (p, j)
    entry_stands [] p i lo lo2 h j low high = absurd (omega arith)
    entry_stands (e ∷ m) p i lo lo2 h j low high =
        let room = room_of K V E k v fits in
        elim (cases_lt i j) [
          | inl after ↦ entry_stands m p (i + 1) h.1 lo2 h.4 j (omega arith) (omega arith)
          | inr here ↦
              let same : j ≡ i = omega arith in
              rw same (record { key = stands_of k room.key b lo p _ h.0 e.0 h.2; value = stands_of v room.value b h.0 p _ h.1 e.1 h.3 })
        ]

    pub starts_before : (t : Tree (K.Value × V.Value)) (lo hi p : ℕ) → Spells K V E b lo hi p t → p < hi
    starts_before (leaf m) lo hi p h = let room = room_of K V E k v fits in let inside = h.0.room in let parts = room.parts.leaf in omega (arith, room.eight)
    starts_before (inner row) lo hi p h = let room = room_of K V E k v fits in let inside = h.0.room in let parts = room.parts.leaf in omega (arith, room.eight)

    mutual
      -- where a tree is spelled, a tree of that many levels stands
      pub spelled_stands : (t : Tree (K.Value × V.Value)) (levels lo hi p : ℕ) → Spells K V E b lo hi p t → height t ≤ levels → hi ≤ length b → TreeStands K V E b levels p
      spelled_stands (leaf m) zero lo hi p h d close = absurd (omega arith)
      spelled_stands (inner row) zero lo hi p h d close = absurd (omega arith)
      spelled_stands (leaf m) (suc levels) lo hi p h d close =
          let room = h.0.room in
          let few = h.2 in
          let e : is_leaf (layout_of K V E) b p ≡ true = eq-eqb (slice_index b p) 0 h.0.kind_byte in
          grown levels p record {
            leaf_inside = omega arith;
            inner_inside = λ no. absurd (cc (e, no));
            count = rw (e, h.1) few;
            entries = λ i low. entry_stands m p 0 lo h.3 h.4 i (omega arith) (let l : i < length m = rw (e, h.1) at low in omega arith);
            leads = λ no. absurd (cc (e, no));
          } (λ i q le to. absurd (cc (rw e at to)))
      spelled_stands (inner row) (suc levels) lo hi p h d close =
          let room = h.0.room in
          let kind = h.0.kind_byte in
          let parts = (room_of K V E k v fits).parts.leaf in
          let e : is_leaf (layout_of K V E) b p ≡ false = ne_eqb (slice_index b p) 0 (omega arith) in
          let many = h.1 in
          let children = row_stands row levels p 0 lo h.2 h.3 (omega arith) (omega arith) (omega arith) in
          grown levels p record {
            leaf_inside = omega arith;
            inner_inside = λ no. omega arith;
            count = rw e (omega arith);
            entries = λ i less. entry_stands (row_entries row) p 0 h.2 h.4 h.5 i (omega arith) (let l : i < E = rw e at less in omega arith);
            leads = λ no i le. (children i (omega arith) le).0;
          } (λ i q le to. (children i (omega arith) le).1 q (rw e at to))

      -- and so do trees where the pointers of a row lead
      row_stands : (row : Row (K.Value × V.Value)) (levels p i lo mid : ℕ) → SpellsRow K V E b p i lo mid row → i + length (row_entries row) ≡ E → row_height row ≤ levels → p ≤ length b
          → (j : ℕ) → i ≤ j → j ≤ E → LeadsBefore p (target_at b (p + pointer_at (layout_of K V E) j)) × ((q : ℕ) → natural (target_at b (p + pointer_at (layout_of K V E) j)) ≡ Some q → TreeStands K V E b levels q)
      row_stands (last c) levels p i lo mid h n d close j low high =
          let same : j ≡ i = omega arith in
          rw same (pointer_stands c levels p i lo mid h d close)
      row_stands (step c e row) levels p i lo mid h n d close j low high =
          elim (cases_lt i j) [
            | inl after ↦ row_stands row levels p (i + 1) h.0 mid h.2 (omega arith) (omega arith) close j (omega arith) high
            | inr here ↦ let same : j ≡ i = omega arith in rw same (pointer_stands c levels p i lo h.0 h.1 (omega arith) close)
          ]

      pointer_stands : (c : Child (K.Value × V.Value)) (levels p i lo next : ℕ) → SpellsChild K V E b p i lo next c → child_height c ≤ levels → p ≤ length b
          → LeadsBefore p (target_at b (p + pointer_at (layout_of K V E) i)) × ((q : ℕ) → natural (target_at b (p + pointer_at (layout_of K V E) i)) ≡ Some q → TreeStands K V E b levels q)
      pointer_stands absent levels p i lo next h d close = rw h.0 (tt, λ q to. absurd (cc to))
      pointer_stands (child t) levels p i lo next h d close =
          let below = spelled_stands t levels lo p h.0 h.2 d close in
          rw h.1 (starts_before t lo p h.0 h.2, λ q to. let same : q ≡ h.0 = cc to in rw same below)
