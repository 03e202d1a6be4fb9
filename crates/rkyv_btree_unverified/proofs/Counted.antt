-- How many nodes a tree has, and how many are left of a path.
use Rattle.std.proofs.Common.{◌≡◌, ℕ, zero, suc, ◌+◌, ◌-◌, ◌*◌, ◌/◌, ◌≤◌, ◌<◌, List, [], ◌∷◌, ◌++◌, length, length-append, refl, ap, ◌∙◌, subst, arith, Option, Some, None, IsTrue, true, false, inl, inr, slice_index}
use Rattle.std.proofs.Math.Nat.{le-div_iff_mul-le}
use Rattle.std.proofs.lemmas.Bool.{cases_eq, eq-eqb, ne_eqb}
use Rattle.rkyv_btree_format.proofs.Sizes.{room_of}
use Rattle.rkyv_btree_portable.specs.Bytes.{number_at}
use Rattle.rkyv_btree_portable.specs.Kind.{Kind, IsLawful}
use Rattle.rkyv_btree_format.specs.Layout.{NodeLayout, layout_of, are_fitting, leaf_size}
use Rattle.rkyv_btree_format.specs.Spells.{Spells, SpellsRow, SpellsChild}
use Rattle.rkyv_btree_shape.specs.Tree.{Tree, leaf, inner, Row, last, step, Child, absent, child, row_entries, height, row_height, child_height, nodes, row_nodes, child_nodes as spelled_child_nodes}
use Rattle.rkyv_btree_unverified.specs.mirror.Walked.{child_nodes, children_nodes, tree_nodes, rest_nodes, path_nodes, down_nodes, chain_end}
use Rattle.rkyv_btree_unverified.proofs.Chains.{all_end}
use Rattle.rkyv_btree_verify.proofs.Answered.{keys, values, sound}
use Rattle.rkyv_btree_verify.proofs.Claims.{tree_nodes as claimed_nodes, root_inside}
use Rattle.rkyv_btree_view.specs.Map.{IsMap}
use Rattle.rkyv_btree_walk.specs.Below.{root_place}
use Rattle.rkyv_btree_walk.specs.Nodes.{is_leaf, child_place}

module _ (s : NodeLayout) (b : List ℕ) where
  tree_is : (m p : ℕ) → tree_nodes s b (suc m) p ≡ suc (children_nodes s b (tree_nodes s b m) p (suc s.E) 0)
  unfolding tree_nodes
  tree_is m p = refl

  -- a tree has its root, and the trees of its children
  pub tree_first : (m p : ℕ) → tree_nodes s b (suc m) p ≡ suc (child_nodes (tree_nodes s b m) (child_place s b p 0) + rest_nodes s b m p 0)
  unfolding tree_nodes rest_nodes
  tree_first m p = let same : s.E - 0 ≡ s.E = omega arith in rw same refl

  pub rest_next : (m p i : ℕ) → i < s.E → rest_nodes s b m p i ≡ child_nodes (tree_nodes s b m) (child_place s b p (i + 1)) + rest_nodes s b m p (i + 1)
  unfolding rest_nodes
  rest_next m p i low = let same : s.E - i ≡ suc (s.E - (i + 1)) = omega arith in rw same refl

  nodes_put : (n m : ℕ) (fs : List (ℕ × ℕ)) (p i : ℕ) → n ≡ length fs + suc m → path_nodes s b n (fs ++ (p, i) ∷ []) ≡ path_nodes s b n fs + rest_nodes s b m p i
  nodes_put zero m fs p i is = absurd (omega arith)
  nodes_put (suc n) m [] p i is = let e : n ≡ m = omega arith in rw e refl
  nodes_put (suc n) m (g ∷ fs) p i is = let r = nodes_put n m fs p i (omega arith) in omega (arith, r)

  module _ (at : ℕ) (fs : List (ℕ × ℕ)) (short : length fs < 32) where
    -- what is left to go down to, once a node is on the path
    down_nodes_put : (p i : ℕ) → down_nodes s b at (fs ++ (p, i) ∷ []) ≡ child_nodes (tree_nodes s b (31 - length fs)) (child_place s b p i) + (path_nodes s b 32 fs + rest_nodes s b (31 - length fs) p i)
    down_nodes_put p i =
        let levels : 32 - length (fs ++ (p, i) ∷ []) ≡ 31 - length fs = omega (arith, length-append fs ((p, i) ∷ [])) in
        rw (levels, all_end s b at fs p i (fs ++ (p, i) ∷ []) refl, nodes_put 32 (31 - length fs) fs p i (omega arith)) refl

    -- a node that is not a leaf is read
    pub enter_nodes : (p : ℕ) → chain_end s b (root_place b at) fs ≡ Some p → down_nodes s b at fs ≡ suc (down_nodes s b at (fs ++ (p, 0) ∷ []))
    enter_nodes p leads =
        let levels : 32 - length fs ≡ suc (31 - length fs) = omega arith in
        rw (leads, levels, tree_first (31 - length fs) p, down_nodes_put p 0) (omega arith)

    -- a node is read
    pub leaf_nodes : (p : ℕ) → chain_end s b (root_place b at) fs ≡ Some p → suc (path_nodes s b 32 fs) ≤ down_nodes s b at fs
    leaf_nodes p leads =
        let levels : 32 - length fs ≡ suc (31 - length fs) = omega arith in
        rw (leads, levels, tree_first (31 - length fs) p) (omega arith)

    -- an entry of the path's last node is taken
    pub take_nodes : (p i : ℕ) → i < s.E → down_nodes s b at (fs ++ (p, i + 1) ∷ []) ≡ path_nodes s b 32 (fs ++ (p, i) ∷ [])
    take_nodes p i low =
        let next = rest_next (31 - length fs) p i low in
        rw (down_nodes_put p (i + 1), nodes_put 32 (31 - length fs) fs p i (omega arith)) (omega (arith, next))

    -- children before a later one aren't read
    pub skip_nodes : (p i : ℕ) → i ≤ s.E → down_nodes s b at (fs ++ (p, i) ∷ []) ≤ down_nodes s b at (fs ++ (p, 0) ∷ [])
    skip_nodes p zero low = omega arith
    skip_nodes p (suc i) low =
        let before = skip_nodes p i (omega arith) in
        let next = rest_next (31 - length fs) p i (omega arith) in
        let here = down_nodes_put p i in
        let after = down_nodes_put p (i + 1) in
        let more : suc i ≡ i + 1 = omega arith in
        rw more (omega (arith, before, next, here, after))

    -- and the node is left
    pub leave_nodes : (p i : ℕ) → path_nodes s b 32 fs ≤ path_nodes s b 32 (fs ++ (p, i) ∷ [])
    leave_nodes p i = rw (nodes_put 32 (31 - length fs) fs p i (omega arith)) (omega arith)

module _ (K V : Kind) (E : ℕ) (b : List ℕ) where
  no_children : (below : ℕ → ℕ) (p n i : ℕ) → is_leaf (layout_of K V E) b p ≡ true → children_nodes (layout_of K V E) b below p n i ≡ 0
  no_children below p zero i e = refl
  no_children below p (suc n) i e = let r = no_children below p n (i + 1) e in rw e (omega (arith, r))

  mutual
    -- a spelled tree has as many nodes as are read
    spelled_nodes : (t : Tree (K.Value × V.Value)) (levels lo hi p : ℕ) → Spells K V E b lo hi p t → height t ≤ levels → tree_nodes (layout_of K V E) b levels p ≡ nodes t
    spelled_nodes (leaf m) zero lo hi p h d = absurd (omega arith)
    spelled_nodes (inner row) zero lo hi p h d = absurd (omega arith)
    spelled_nodes (leaf m) (suc levels) lo hi p h d = tree_is (layout_of K V E) b levels p ∙ ap suc (no_children (tree_nodes (layout_of K V E) b levels) p (suc E) 0 (eq-eqb (slice_index b p) 0 h.0.kind_byte))
    spelled_nodes (inner row) (suc levels) lo hi p h d =
        let byte = h.0.kind_byte in
        let e : is_leaf (layout_of K V E) b p ≡ false = ne_eqb (slice_index b p) 0 (omega (arith, byte)) in
        let r = row_nodes_are row levels p 0 lo h.2 e h.3 (omega arith) in
        let n = h.1 in
        let all : children_nodes (layout_of K V E) b (tree_nodes (layout_of K V E) b levels) p (suc E) 0 ≡ row_nodes row = subst (λ k. children_nodes (layout_of K V E) b (tree_nodes (layout_of K V E) b levels) p (suc k) 0 ≡ row_nodes row) n r in
        let root = tree_is (layout_of K V E) b levels p in
        omega (arith, root, all)

    row_nodes_are : (row : Row (K.Value × V.Value)) (levels p i lo mid : ℕ) → is_leaf (layout_of K V E) b p ≡ false → SpellsRow K V E b p i lo mid row → row_height row ≤ levels
        → children_nodes (layout_of K V E) b (tree_nodes (layout_of K V E) b levels) p (suc (length (row_entries row))) i ≡ row_nodes row
    row_nodes_are (last c) levels p i lo mid e h d = let r = child_nodes_are c levels p i lo mid e h d in omega (arith, r)
    row_nodes_are (step c x row) levels p i lo mid e h d =
        let r = child_nodes_are c levels p i lo h.0 e h.1 (omega arith) in
        let rest = row_nodes_are row levels p (i + 1) h.0 mid e h.2 (omega arith) in
        omega (arith, r, rest)

    child_nodes_are : (c : Child (K.Value × V.Value)) (levels p i lo next : ℕ) → is_leaf (layout_of K V E) b p ≡ false → SpellsChild K V E b p i lo next c → child_height c ≤ levels
        → child_nodes (tree_nodes (layout_of K V E) b levels) (child_place (layout_of K V E) b p i) ≡ spelled_child_nodes c
    child_nodes_are absent levels p i lo next e h d = rw (e, h.0) refl
    child_nodes_are (child t) levels p i lo next e h d = rw (e, h.1) (spelled_nodes t levels lo p h.0 h.2 d)

  module _ (k : IsLawful K) (v : IsLawful V) (fits : IsTrue (are_fitting K V E)) (at : ℕ) (m : List (K.Value × V.Value)) (map : IsMap K V E b at m) where
    some_few : (q : ℕ) → root_place b at ≡ Some q → ¬ (number_at b (at + 4) 4 ≡ 0) → tree_nodes (layout_of K V E) b 32 q * leaf_size (layout_of K V E) ≤ length b
    some_few q to some =
        elim map.1.root [
          | inl none ↦ absurd (some none.0)
          | inr r ↦
              let root = r.1 in
              let same : root.start ≡ q = cc (rw (ne_eqb (number_at b (at + 4) 4) 0 some, root.leads) at to) in
              let counted : tree_nodes (layout_of K V E) b 32 q ≡ nodes root.tree = subst (λ x. tree_nodes (layout_of K V E) b 32 x ≡ nodes root.tree) same (spelled_nodes root.tree 32 0 at root.start root.spelled root.levels) in
              let claims = claimed_nodes K V E _ _ b (keys _ _ _ k v fits) (values _ _ _ k v fits) (sound _ _ _ k v fits) root.tree 0 at root.start root.spelled in
              let inside = root_inside K V E b root.tree 0 at root.start root.spelled in
              let room = map.1.room in
              rw counted (omega (arith, claims, inside, room))
        ]

    -- the nodes of a map fit into the buffer
    pub map_nodes : down_nodes (layout_of K V E) b at [] ≤ length b / leaf_size (layout_of K V E)
    map_nodes =
        let eight = (room_of K V E k v fits).eight in
        of_root (root_place b at) refl (omega (arith, eight))
      where
        of_root : (to : Option ℕ) → root_place b at ≡ to → 0 < leaf_size (layout_of K V E) → down_nodes (layout_of K V E) b at [] ≤ length b / leaf_size (layout_of K V E)
        of_root None is some = rw is (omega arith)
        of_root (Some q) is some =
            elim (cases_eq (number_at b (at + 4) 4) 0) [
              | inl e ↦ absurd (cc (rw (eq-eqb (number_at b (at + 4) 4) 0 e) at is))
              | inr e ↦
                  let fits : tree_nodes (layout_of K V E) b 32 q ≤ length b / leaf_size (layout_of K V E) = (le-div_iff_mul-le some).1 (some_few q is e) in
                  rw is (omega (arith, fits))
            ]
