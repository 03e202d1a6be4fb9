-- What is left of a path as nodes are put on it and taken from it.
use Rattle.std.proofs.Common.{◌≡◌, ℕ, zero, suc, ◌+◌, ◌-◌, ◌≤◌, ◌<◌, List, [], ◌∷◌, ◌++◌, length, refl, sym, ap, ◌∙◌, arith, Option, Some, None, append_assoc, length-append, true, false, inl, inr}
use Rattle.std.proofs.lemmas.Bool.{cases_Bool}
use Rattle.std.proofs.lemmas.List.{append-nil}
use Rattle.std.specs.Prelude.{ℤ, pos, negsuc}
use Rattle.rkyv_btree_portable.specs.Bytes.{number_at, target_at}
use Rattle.rkyv_btree_portable.specs.Kind.{Kind}
use Rattle.rkyv_btree_format.specs.Layout.{NodeLayout, layout_of, len_at, pointer_at}
use Rattle.rkyv_btree_format.specs.Read.{run, child_of, row_at, tree_at}
use Rattle.rkyv_btree_shape.specs.Tree.{list, row_list, child_list as tree_child_list}
use Rattle.rkyv_btree_walk.specs.Bounds.{IsLastOf}
use Rattle.rkyv_btree_walk.specs.Nodes.{natural, is_leaf, entry_count, child_place}
use Rattle.rkyv_btree_walk.specs.mirror.Node.{NodeStands, TreeStands, RunStands}
use Rattle.rkyv_btree_walk.specs.Paths.{row_rest, node_rest, path_rest, walk_rest, child_list}
use Rattle.rkyv_btree_walk.specs.mirror.Path.{tree_rest, IsPath}
use Rattle.rkyv_btree_walk.proofs.Nodes.{tree_levels, tree_node, child_stands}

module _ (s : NodeLayout) (b : List ℕ) (m : ℕ) where
  child_lists : (t : Option ℤ) → tree_child_list (child_of s b (tree_at s b m) t) ≡ child_list s b m (natural t)
  child_lists None = refl
  child_lists (Some (negsuc n)) = refl
  child_lists (Some (pos q)) = refl

  row_splits : (p n i : ℕ) → row_list (row_at s b (tree_at s b m) p n i) ≡ child_list s b m (natural (target_at b (p + pointer_at s i))) ++ row_rest s b (tree_at s b m) p n i
  row_splits p zero i = child_lists (target_at b (p + pointer_at s i)) ∙ sym (append-nil _)
  row_splits p (suc n) i = ap (λ xs. xs ++ row_rest s b (tree_at s b m) p (suc n) i) (child_lists (target_at b (p + pointer_at s i)))

  module _ (p : ℕ) where
    -- nothing is left past the last entry
    pub rest_end : (i : ℕ) → entry_count s b p ≤ i → node_rest s b m p i ≡ []
    unfolding node_rest
    rest_end i h =
        elim (cases_Bool (is_leaf s b p)) [
          | inl e ↦ let l : number_at b (p + len_at s) 4 ≤ i = rw e at h in let z : number_at b (p + len_at s) 4 - i ≡ 0 = omega arith in rw (e, z) refl
          | inr e ↦ let l : s.E ≤ i = rw e at h in let z : s.E - i ≡ 0 = omega arith in rw (e, z) refl
        ]

    -- from an entry on, that entry is left, and the tree from the child after it on
    pub rest_more : (i : ℕ) → i < entry_count s b p → node_rest s b m p i ≡ (p, i) ∷ tree_rest s b (suc m) p (i + 1)
    unfolding node_rest tree_rest
    rest_more i h =
        elim (cases_Bool (is_leaf s b p)) [
          | inl e ↦
              let l : i < number_at b (p + len_at s) 4 = rw e at h in
              let z : number_at b (p + len_at s) 4 - i ≡ suc (number_at b (p + len_at s) 4 - (i + 1)) = omega arith in
              rw (e, z) refl
          | inr e ↦
              let l : i < s.E = rw e at h in
              let z : s.E - i ≡ suc (s.E - (i + 1)) = omega arith in
              rw (e, z) (ap (λ xs. (p, i) ∷ xs) (row_splits p (s.E - (i + 1)) (i + 1)))
        ]

    -- a tree is left from its node's first child on
    pub tree_from : list (tree_at s b (suc m) p) ≡ tree_rest s b (suc m) p 0
    unfolding node_rest tree_rest
    tree_from =
        elim (cases_Bool (is_leaf s b p)) [
          | inl e ↦ let z : number_at b (p + len_at s) 4 - 0 ≡ number_at b (p + len_at s) 4 = omega arith in rw (e, z) refl
          | inr e ↦ let z : s.E - 0 ≡ s.E = omega arith in rw (e, z) (row_splits p s.E 0)
        ]

    -- a leaf is left with all its entries
    pub leaf_list : is_leaf s b p ≡ true → tree_rest s b (suc m) p 0 ≡ run s b p (number_at b (p + len_at s) 4 - 0) 0
    unfolding node_rest tree_rest
    leaf_list e = rw e refl

    pub tree_absent : (i : ℕ) → child_place s b p i ≡ None → tree_rest s b (suc m) p i ≡ node_rest s b m p i
    unfolding tree_rest
    tree_absent i none = rw none refl

    tree_child : (i q : ℕ) → child_place s b p i ≡ Some q → tree_rest s b (suc m) p i ≡ list (tree_at s b m q) ++ node_rest s b m p i
    unfolding tree_rest
    tree_child i q some = rw some refl

  pub rest_snoc : (n : ℕ) (fs : List (ℕ × ℕ)) (f : ℕ × ℕ) → n ≡ length fs + suc m → path_rest s b n (fs ++ f ∷ []) ≡ node_rest s b m f.0 f.1 ++ path_rest s b n fs
  rest_snoc zero fs f is = absurd (omega arith)
  rest_snoc (suc n) [] f is = let e : n ≡ m = omega arith in rw e (sym (append-nil _))
  rest_snoc (suc n) (g ∷ fs) f is =
      let r = rest_snoc n fs f (omega arith) in
      rw r (append_assoc (node_rest s b m f.0 f.1) (path_rest s b n fs) (node_rest s b n g.0 g.1))

module _ (K V : Kind) (E : ℕ) (b : List ℕ) where
  path_snoc : (n m : ℕ) (fs : List (ℕ × ℕ)) (f : ℕ × ℕ) → n ≡ length fs + suc m → IsPath K V E b n fs → TreeStands K V E b (suc m) f.0 → is_leaf (layout_of K V E) b f.0 ≡ false → f.1 ≤ E → IsPath K V E b n (fs ++ f ∷ [])
  path_snoc zero m fs f is path tree inner low = absurd (omega arith)
  path_snoc (suc n) m [] f is path tree inner low = let e : n ≡ m = omega arith in rw e (tree, inner, low, tt)
  path_snoc (suc n) m (g ∷ fs) f is path tree inner low = (path.0, path.1, path.2, path_snoc n m fs f (omega arith) path.3 tree inner low)

  path_parts : (n : ℕ) (fs : List (ℕ × ℕ)) (f : ℕ × ℕ) → IsPath K V E b n (fs ++ f ∷ [])
      → IsPath K V E b n fs × (m : ℕ) × (n ≡ length fs + suc m) × TreeStands K V E b (suc m) f.0 × (is_leaf (layout_of K V E) b f.0 ≡ false) × (f.1 ≤ E)
  path_parts zero [] f path = absurd path
  path_parts zero (g ∷ fs) f path = absurd path
  path_parts (suc n) [] f path = (tt, n, omega arith, path.0, path.1, path.2)
  path_parts (suc n) (g ∷ fs) f path = let r = path_parts n fs f path.3 in ((path.0, path.1, path.2, r.0), r.1, omega (arith, r.2), r.3, r.4, r.5)

  -- the entries of a leaf stand
  pub leaf_run : (p : ℕ) → NodeStands K V E b p → is_leaf (layout_of K V E) b p ≡ true → RunStands K V E b p 0 (number_at b (p + len_at (layout_of K V E)) 4)
  leaf_run p node e j low high =
      let count : number_at b (p + len_at (layout_of K V E)) 4 ≤ E = rw e at node.count in
      (node.entries j (rw e high), node.leaf_inside, omega arith)

  -- and each entry of an inner node
  pub inner_run : (p : ℕ) → NodeStands K V E b p → is_leaf (layout_of K V E) b p ≡ false → (i : ℕ) → i < E → RunStands K V E b p i (i + 1)
  inner_run p node e i less j low high =
      let small : j < E = omega arith in
      (node.entries j (rw e small), node.leaf_inside, small)

-- a walk through a leaf
module _ (s : NodeLayout) (b : List ℕ) (p : ℕ) where
  pub run_length : (n i : ℕ) → length (run s b p n i) ≡ n
  run_length zero i = refl
  run_length (suc n) i = ap suc (run_length n (i + 1))

  -- a run of entries ends with its last one
  run_last : (n i : ℕ) → run s b p (n + 1) i ≡ run s b p n i ++ (p, i + n) ∷ []
  run_last zero i = let z : i + 0 ≡ i = omega arith in rw z refl
  run_last (suc n) i =
      let m : suc n + 1 ≡ suc (n + 1) = omega arith in
      let z : i + suc n ≡ i + 1 + n = omega arith in
      rw (m, z) (ap (λ xs. (p, i) ∷ xs) (run_last n (i + 1)))

  module _ (i n : ℕ) (fs : List (ℕ × ℕ)) where
    -- the last entry that is left of the leaf
    pub walk_last : i < n → IsLastOf (n - i) (walk_rest s b p i n fs) (p, n - 1)
    walk_last less =
        let k : n - i ≡ n - 1 - i + 1 = omega arith in
        let at : i + (n - 1 - i) ≡ n - 1 = omega arith in
        let rest = path_rest s b 32 fs in (
          run s b p (n - 1 - i) i,
          rest,
          rw k (ap (λ xs. xs ++ rest) (run_last (n - 1 - i) i) ∙ append_assoc (run s b p (n - 1 - i) i) ((p, i + (n - 1 - i)) ∷ []) rest ∙ ap (λ j. run s b p (n - 1 - i) i ++ (p, j) ∷ rest) at),
          rw (run_length (n - 1 - i) i) k,
        )

    pub walk_more : i < n → walk_rest s b p i n fs ≡ (p, i) ∷ walk_rest s b p (i + 1) n fs
    walk_more less = let z : n - i ≡ suc (n - (i + 1)) = omega arith in rw z refl

    pub walk_end : n ≤ i → walk_rest s b p i n fs ≡ path_rest s b 32 fs
    walk_end le = let z : n - i ≡ 0 = omega arith in rw z refl

    pub walk_length : length (walk_rest s b p i n fs) ≡ (n - i) + length (path_rest s b 32 fs)
    walk_length = length-append (run s b p (n - i) i) (path_rest s b 32 fs) ∙ ap (λ k. k + length (path_rest s b 32 fs)) (run_length (n - i) i)

  -- a path with an entry, a leaf after it and a path left has as many entries
  pub step_length : (e : ℕ × ℕ) (n : ℕ) (old new : List (ℕ × ℕ)) → path_rest s b 32 old ≡ e ∷ walk_rest s b p 0 n new → length (path_rest s b 32 old) ≡ suc (n + length (path_rest s b 32 new))
  step_length e n old new h = let same = walk_length 0 n new in ap length h ∙ omega arith

  -- a walk with all its leaf left is as long as what it goes along
  pub begun_length : (n : ℕ) (fs xs : List (ℕ × ℕ)) → walk_rest s b p 0 n fs ≡ xs → length xs ≡ n + length (path_rest s b 32 fs)
  begun_length n fs xs h = let same = walk_length 0 n fs in let r : length (walk_rest s b p 0 n fs) ≡ length xs = ap length h in omega arith

-- an inner node is put on a path, at the level below the last, and its child number i is next
module _ (K V : Kind) (E : ℕ) (b : List ℕ) (n p i : ℕ) (fs : List (ℕ × ℕ)) (path : IsPath K V E b n fs) (tree : TreeStands K V E b (n - length fs) p) where
  pub put_short : length fs < n
  put_short = let o = tree_levels K V E b (n - length fs) p tree in omega (arith, o.1)

  pub put_path : is_leaf (layout_of K V E) b p ≡ false → i ≤ E → IsPath K V E b n (fs ++ (p, i) ∷ [])
  put_path inner low =
      let o = tree_levels K V E b (n - length fs) p tree in
      path_snoc K V E b n o.0 fs (p, i) (omega (arith, o.1)) path (rw o.1 at tree) inner low

  -- a leaf there is left with its entries
  pub put_leaf : is_leaf (layout_of K V E) b p ≡ true → walk_rest (layout_of K V E) b p 0 (number_at b (p + len_at (layout_of K V E)) 4) fs ≡ tree_rest (layout_of K V E) b (n - length fs) p 0 ++ path_rest (layout_of K V E) b 32 fs
  put_leaf leaf =
      let o = tree_levels K V E b (n - length fs) p tree in
      rw o.1 (ap (λ xs. xs ++ path_rest (layout_of K V E) b 32 fs) (sym (leaf_list (layout_of K V E) b o.0 p leaf)))

  -- with no child there, the entries of the node come next
  pub put_absent : child_place (layout_of K V E) b p i ≡ None → path_rest (layout_of K V E) b n (fs ++ (p, i) ∷ []) ≡ tree_rest (layout_of K V E) b (n - length fs) p i ++ path_rest (layout_of K V E) b n fs
  put_absent none =
      let o = tree_levels K V E b (n - length fs) p tree in
      rw (o.1, tree_absent (layout_of K V E) b o.0 p i none) (rest_snoc (layout_of K V E) b o.0 n fs (p, i) (omega (arith, o.1)))

  put_over : (m q : ℕ) → n - length fs ≡ suc (suc m) → child_place (layout_of K V E) b p i ≡ Some q
      → tree_rest (layout_of K V E) b (suc m) q 0 ++ path_rest (layout_of K V E) b n (fs ++ (p, i) ∷ []) ≡ tree_rest (layout_of K V E) b (n - length fs) p i ++ path_rest (layout_of K V E) b n fs
  put_over m q levels some =
      rw (rest_snoc (layout_of K V E) b (suc m) n fs (p, i) (omega arith), levels, tree_child (layout_of K V E) b (suc m) p i q some, ← tree_from (layout_of K V E) b m q)
      (sym (append_assoc (list (tree_at (layout_of K V E) b (suc m) q)) (node_rest (layout_of K V E) b (suc m) p i) (path_rest (layout_of K V E) b n fs)))

  -- else the tree of the child
  pub put_child : i ≤ E → (q : ℕ) → child_place (layout_of K V E) b p i ≡ Some q → (m : ℕ) → m ≡ n - (length fs + 1) → TreeStands K V E b m q
      × (tree_rest (layout_of K V E) b m q 0 ++ path_rest (layout_of K V E) b n (fs ++ (p, i) ∷ []) ≡ tree_rest (layout_of K V E) b (n - length fs) p i ++ path_rest (layout_of K V E) b n fs)
  put_child le q some m less =
      let o = tree_levels K V E b (n - length fs) p tree in
      let levels : n - length fs ≡ suc m = omega (arith, o.1) in
      let below = child_stands K V E b m p (rw levels at tree) i q le some in
      let deep = tree_levels K V E b m q below in
      (below, rw deep.1 (put_over deep.0 q (omega (arith, deep.1)) some))

-- the last node of a path is taken from it
module _ (K V : Kind) (E : ℕ) (b : List ℕ) (n p i : ℕ) (fs all : List (ℕ × ℕ)) (ends : all ≡ fs ++ (p, i) ∷ []) (path : IsPath K V E b n all) where
  parts : IsPath K V E b n fs × (m : ℕ) × (n ≡ length fs + suc m) × TreeStands K V E b (suc m) p × (is_leaf (layout_of K V E) b p ≡ false) × (i ≤ E)
  parts = path_parts K V E b n fs (p, i) (rw ends at path)

  pub pop_path : IsPath K V E b n fs
  pop_path = parts.0

  pub pop_tree : TreeStands K V E b (n - length fs) p
  pop_tree =
      let r = parts in
      let levels : n - length fs ≡ suc r.1 = omega (arith, r.2) in
      rw levels r.3

  pub pop_node : NodeStands K V E b p
  pop_node = tree_node K V E b (n - length fs) p pop_tree

  pub pop_inner : is_leaf (layout_of K V E) b p ≡ false
  pop_inner = parts.4

  pub pop_run : i < E → RunStands K V E b p i (i + 1)
  pop_run less = inner_run K V E b p pop_node pop_inner i less

  -- there is room to put it back
  pub pop_short : length fs < n
  pop_short = put_short K V E b n p i fs pop_path pop_tree

  -- with no entry left of it, all the others are left
  pub pop_end : E ≤ i → path_rest (layout_of K V E) b n all ≡ path_rest (layout_of K V E) b n fs
  pop_end h =
      let r = parts in
      ap (path_rest (layout_of K V E) b n) ends ∙ rest_snoc (layout_of K V E) b r.1 n fs (p, i) r.2 ∙ ap (λ xs. xs ++ path_rest (layout_of K V E) b n fs) (rest_end (layout_of K V E) b r.1 p i (rw r.4 h))

  -- else its next entry is, and the tree from the child after it on
  pub pop_more : i < E → path_rest (layout_of K V E) b n all ≡ (p, i) ∷ (tree_rest (layout_of K V E) b (n - length fs) p (i + 1) ++ path_rest (layout_of K V E) b n fs)
  pop_more h =
      let r = parts in
      let levels : n - length fs ≡ suc r.1 = omega (arith, r.2) in
      rw levels (ap (path_rest (layout_of K V E) b n) ends ∙ rest_snoc (layout_of K V E) b r.1 n fs (p, i) r.2 ∙ ap (λ xs. xs ++ path_rest (layout_of K V E) b n fs) (rest_more (layout_of K V E) b r.1 p i (rw r.4 h)))
