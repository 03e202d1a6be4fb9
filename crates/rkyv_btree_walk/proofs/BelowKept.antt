-- Two buffers of which the same tree is read have the same paths and entries below a root, and as much is left of a walk:
-- the tree holds at each entry its node and its number.
use Rattle.std.proofs.Common.{◌≡◌, ℕ, zero, suc, ◌+◌, ◌-◌, ◌≤◌, ◌<◌, List, [], ◌∷◌, ◌++◌, length, refl, sym, ap, ◌∙◌, arith, Bool, true, false, Option, Some, None, inl, inr, IsTrue}
use Rattle.std.specs.Prelude.{ℤ, pos, negsuc, nat_eq}
use Rattle.std.proofs.lemmas.Bool.{cases_Bool, cases_lt, eq-eqb}
use Rattle.rkyv_btree_portable.specs.Bytes.{number_at, target_at, place_at}
use Rattle.rkyv_btree_portable.specs.Kind.{Kind, IsLawful}
use Rattle.rkyv_btree_format.specs.Layout.{NodeLayout, layout_of, len_at, pointer_at}
use Rattle.rkyv_btree_verify.specs.Map.{map_kind}
use Rattle.rkyv_btree_format.specs.Read.{run, child_of, row_at, tree_at, tree_of, map_tree}
use Rattle.rkyv_btree_shape.specs.Tree.{Tree, leaf, inner, Row, last, step, Child, absent, child, row_entries, list, row_list}
use Rattle.rkyv_btree_portable.specs.Views.{stands}
use Rattle.rkyv_btree_portable.specs.laws.Views.{fitting_of}
use Rattle.rkyv_btree_format.proofs.Sizes.{sound_of}
use Rattle.rkyv_btree_walk.specs.Below.{root_place, IsBelow, PathBelow, RunBelow, WalkBelow}
use Rattle.rkyv_btree_walk.specs.Nodes.{natural, is_leaf, entry_count, child_place}
use Rattle.rkyv_btree_walk.specs.Paths.{row_rest, node_rest, path_rest, walk_rest}
use Rattle.rkyv_btree_walk.specs.WalkBetween.{IsPlaced}
use Rattle.rkyv_btree_walk.proofs.Below.{below_stands, place_stands}
use Rattle.rkyv_btree_walk.proofs.Paths.{run_length}
use Rattle.rkyv_btree_walk.proofs.Searches.{child_at, children_of, inner_children}

-- the entries of a tree's root node, and whether it is a leaf
abbrev own : Tree (ℕ × ℕ) → List (ℕ × ℕ)
own (leaf xs) = xs
own (inner row) = row_entries row

abbrev is_bottom : Tree (ℕ × ℕ) → Bool
is_bottom (leaf xs) = true
is_bottom (inner row) = false

-- its children, and one of them
abbrev row_of_tree : Tree (ℕ × ℕ) → Row (ℕ × ℕ)
row_of_tree (leaf xs) = last absent
row_of_tree (inner row) = row

abbrev nth_child : Row (ℕ × ℕ) → ℕ → Child (ℕ × ℕ)
nth_child (last c) j = c
nth_child (step c e row) zero = c
nth_child (step c e row) (suc j) = nth_child row j

-- the tree below a place, of n levels
abbrev pub tree_under : NodeLayout → List ℕ → ℕ → Option ℕ → Tree (ℕ × ℕ)
tree_under s b n None = leaf []
tree_under s b n (Some q) = tree_at s b n q

module _ (s : NodeLayout) (b : List ℕ) where
  row_own : (below : ℕ → Tree (ℕ × ℕ)) (p n i : ℕ) → row_entries (row_at s b below p n i) ≡ run s b p n i
  row_own below p zero i = refl
  row_own below p (suc n) i = ap (λ xs. (p, i) ∷ xs) (row_own below p n (i + 1))

  own_run : (m p : ℕ) → own (tree_at s b (suc m) p) ≡ run s b p (entry_count s b p) 0
  own_run m p =
      elim (cases_Bool (is_leaf s b p)) [
        | inl e ↦ rw e refl
        | inr e ↦ rw e (row_own (tree_at s b m) p s.E 0)
      ]

  own_count : (m p : ℕ) → length (own (tree_at s b (suc m) p)) ≡ entry_count s b p
  own_count m p = ap length (own_run m p) ∙ run_length s b p (entry_count s b p) 0

  bottom_is : (m p : ℕ) → is_bottom (tree_at s b (suc m) p) ≡ is_leaf s b p
  bottom_is m p = elim (cases_Bool (is_leaf s b p)) [ inl e ↦ rw e refl | inr e ↦ rw e refl ]

  row_nth : (below : ℕ → Tree (ℕ × ℕ)) (p n i j k : ℕ) → j ≤ n → k ≡ i + j → nth_child (row_at s b below p n i) j ≡ child_of s b below (target_at b (p + pointer_at s k))
  row_nth below p zero i j k low is = let e : k ≡ i = omega arith in rw e refl
  row_nth below p (suc n) i zero k low is = let e : k ≡ i = omega arith in rw e refl
  row_nth below p (suc n) i (suc j) k low is = row_nth below p n (i + 1) j k (omega arith) (omega arith)

  child_nth : (m p j : ℕ) → is_leaf s b p ≡ false → j ≤ s.E → nth_child (row_of_tree (tree_at s b (suc m) p)) j ≡ children_of s b m p j
  child_nth m p j e low = rw (inner_children s b m p e j, e) (row_nth (tree_at s b m) p s.E 0 j j low (omega arith))

run_same : (s : NodeLayout) (b c : List ℕ) (p n i : ℕ) → run s b p n i ≡ run s c p n i
run_same s b c p zero i = refl
run_same s b c p (suc n) i = ap (λ xs. (p, i) ∷ xs) (run_same s b c p n (i + 1))

module _ (s : NodeLayout) (b c : List ℕ) where
  starts_same : (p q n k : ℕ) → 0 < n → run s b p n 0 ≡ run s c q k 0 → p ≡ q
  starts_same p q zero k some is = absurd (omega arith)
  starts_same p q (suc n) zero some is = absurd (cc is)
  starts_same p q (suc n) (suc k) some is = let e : ◌≡◌ {A = ℕ × ℕ} (p, 0) (q, 0) = cc is in ap (λ (e : ℕ × ℕ). e.0) e

  -- trees that are read alike
  module _ (m p q : ℕ) (alike : tree_at s b (suc m) p ≡ tree_at s c (suc m) q) where
    -- have as many entries in their roots, of the same sort
    same_count : entry_count s b p ≡ entry_count s c q
    same_count = sym (own_count s b m p) ∙ ap (λ t. length (own t)) alike ∙ own_count s c m q

    same_sort : is_leaf s b p ≡ is_leaf s c q
    same_sort = sym (bottom_is s b m p) ∙ ap is_bottom alike ∙ bottom_is s c m q

    -- and have the same root, if that has entries
    same_place : 0 < entry_count s b p → p ≡ q
    same_place some = starts_same p q (entry_count s b p) (entry_count s c q) some (sym (own_run s b m p) ∙ ap own alike ∙ own_run s c m q)

    same_child : is_leaf s b p ≡ false → (j : ℕ) → j ≤ s.E → children_of s b m p j ≡ children_of s c m q j
    same_child e j low = sym (child_nth s b m p j e low) ∙ ap (λ t. nth_child (row_of_tree t) j) alike ∙ child_nth s c m q j (sym same_sort ∙ e) low

  -- children that are read alike are both there or both absent
  children_alike : (m r : ℕ) (x : Option ℕ) → child (tree_at s b m r) ≡ child_at (tree_at s c m) x → (t : ℕ) × (x ≡ Some t) × (tree_at s b m r ≡ tree_at s c m t)
  children_alike m r None is = absurd (cc is)
  children_alike m r (Some t) is = (t, refl, cc is)

  row_same : (below under : ℕ → Tree (ℕ × ℕ)) (p n i : ℕ) → ((j : ℕ) → i ≤ j → j ≤ i + n → child_of s b below (target_at b (p + pointer_at s j)) ≡ child_of s c under (target_at c (p + pointer_at s j))) → row_at s b below p n i ≡ row_at s c under p n i
  row_same below under p zero i are = ap (λ x. last x) (are i (omega arith) (omega arith))
  row_same below under p (suc n) i are =
      rw (are i (omega arith) (omega arith)) (ap (λ row. step (child_of s c under (target_at c (p + pointer_at s i))) (p, i) row) (row_same below under p n (i + 1) (λ j low high. are j (omega arith) (omega arith))))

  -- of a node whose tree is read alike as much is left
  module _ (m p : ℕ) (alike : tree_at s b (suc m) p ≡ tree_at s c (suc m) p) where
    row_left : is_leaf s b p ≡ false → (n i : ℕ) → n ≤ s.E - i → row_rest s b (tree_at s b m) p n i ≡ row_rest s c (tree_at s c m) p n i
    row_left e zero i room = refl
    row_left e (suc n) i room =
        let f : is_leaf s c p ≡ false = sym (same_sort m p p alike) ∙ e in
        let row = row_same (tree_at s b m) (tree_at s c m) p n (i + 1) (λ j low high.
        sym (inner_children s b m p e j) ∙ same_child m p p alike e j (omega arith) ∙ inner_children s c m p f j) in
        ap (λ r. (p, i) ∷ row_list r) row

    node_kept : (i : ℕ) → node_rest s b m p i ≡ node_rest s c m p i
    unfolding node_rest
    node_kept i =
        let sort = same_sort m p p alike in
        elim (cases_Bool (is_leaf s b p)) [
          | inl e ↦
              let f : is_leaf s c p ≡ true = sym sort ∙ e in
              let count : number_at b (p + len_at s) 4 ≡ number_at c (p + len_at s) 4 = rw (e, f) at (same_count m p p alike) in
              rw (e, f, count) (run_same s b c p (number_at c (p + len_at s) 4 - i) i)
          | inr e ↦ let f : is_leaf s c p ≡ false = sym sort ∙ e in rw (e, f) (row_left e (s.E - i) i (omega arith))
        ]

-- the same tree of n levels is read below two places
module _ (s : NodeLayout) (b c : List ℕ) (here there : Option ℕ) (n : ℕ) (room : 1 ≤ s.E) (alike : tree_under s b n here ≡ tree_under s c n there) where
  inner_some : (p : ℕ) → is_leaf s b p ≡ false → 0 < entry_count s b p
  inner_some p e = rw e (omega arith)

  root_kept : (m q : ℕ) (x : Option ℕ) → tree_at s b (suc m) q ≡ tree_under s c (suc m) x → 0 < entry_count s b q → (x ≡ Some q) × (tree_at s b (suc m) q ≡ tree_at s c (suc m) q)
  root_kept m q None is some =
      let count = own_count s b m q in
      let none : length (own (tree_at s b (suc m) q)) ≡ 0 = ap (λ t. length (own t)) is in
      absurd (omega arith)
  root_kept m q (Some r) is some = let e : r ≡ q = sym (same_place s b c m q r is some) in (ap (λ x. Some x) e, rw e at is)

  -- a node with entries below the one is below the other, as far down, and its tree is read alike
  pub below_kept : (d m q : ℕ) → d + suc m ≡ n → IsBelow s b here d q → 0 < entry_count s b q → IsBelow s c there d q × (tree_at s b (suc m) q ≡ tree_at s c (suc m) q)
  below_kept zero m q levels below some =
      let e : n ≡ suc m = omega arith in
      root_kept m q there (rw (e, below) at alike) some
  below_kept (suc d) m q levels below some =
      let p = below.0 in
      let i = below.1 in
      let inner : is_leaf s b p ≡ false = elim (cases_Bool (is_leaf s b p)) [ inl e ↦ absurd (cc (rw e at below.4)) | inr e ↦ e ] in
      let up = below_kept d (suc m) p (omega arith) below.2 (inner_some p inner) in
      let same = same_child s b c (suc m) p p up.1 inner i below.3 in
      let t = children_alike s b c (suc m) q (child_place s c p i) (rw below.4 at same) in
      let e : t.0 ≡ q = sym {b = t.0} (same_place s b c m q t.0 t.2 some) in
      ((p, i, up.0, below.3, rw e at t.1), rw e at t.2)

  -- of a path as much is left
  pub path_rest_kept : (d m : ℕ) (fs : List (ℕ × ℕ)) → d + m ≡ n → PathBelow s b here d fs → path_rest s b m fs ≡ path_rest s c m fs
  path_rest_kept d m [] levels path = refl
  path_rest_kept d zero (f ∷ fs) levels path = refl
  path_rest_kept d (suc m) (f ∷ fs) levels path =
      let k = below_kept d m f.0 levels path.0 (inner_some f.0 path.1) in
      rw (path_rest_kept (suc d) m fs (omega arith) path.3, node_kept s b c m f.0 k.1 f.1) refl

  -- and where no node below the first place is n pointers below it
  module _ (deep : (d q : ℕ) → IsBelow s b here d q → d < n) where
    pub path_kept : (d : ℕ) (fs : List (ℕ × ℕ)) → PathBelow s b here d fs → PathBelow s c there d fs
    path_kept d [] path = tt
    path_kept d (f ∷ fs) path =
        let less = deep d f.0 path.0 in
        let m = n - suc d in
        let k = below_kept d m f.0 (omega arith) path.0 (inner_some f.0 path.1) in
        (k.0, sym (same_sort s b c m f.0 f.0 k.1) ∙ path.1, path.2, path_kept (suc d) fs path.3)

    pub run_kept : (p i count : ℕ) → RunBelow s b here p i count → RunBelow s c there p i count
    run_kept p i count run less =
        let r = run less in
        let in_tree = deep r.0 p r.1 in
        let m = n - suc r.0 in
        let k = below_kept r.0 m p (omega arith) r.1 (omega (arith, r.2)) in
        (r.0, k.0, rw (← same_count s b c m p p k.1) r.2)

place_under : (s : NodeLayout) (b : List ℕ) (t : ℤ) → tree_of s b t ≡ tree_under s b 32 (natural (Some t))
unfolding tree_of
place_under s b (pos q) = refl
place_under s b (negsuc n) = refl

-- the tree of a map is the one below its root
map_under : (s : NodeLayout) (b : List ℕ) (at : ℕ) → map_tree s b at ≡ tree_under s b 32 (root_place b at)
map_under s b at =
    elim (cases_Bool (nat_eq (number_at b (at + 4) 4) 0)) [
      | inl e ↦ rw e refl
      | inr e ↦ rw e (place_under s b (place_at b at))
    ]

placed : (b : List ℕ) (at q : ℕ) → root_place b at ≡ Some q → 0 < number_at b (at + 4) 4
placed b at q is =
    elim (cases_lt 0 (number_at b (at + 4) 4)) [
      | inl some ↦ some
      | inr none ↦ absurd (cc (rw (eq-eqb (number_at b (at + 4) 4) 0 (omega arith)) at is))
    ]

-- a tree with entries has some in its root
listed : (s : NodeLayout) (b : List ℕ) → 1 ≤ s.E → (m p : ℕ) → 0 < length (list (tree_at s b (suc m) p)) → 0 < entry_count s b p
listed s b room m p some =
    elim (cases_Bool (is_leaf s b p)) [
      | inl e ↦ let l : 0 < length (run s b p (number_at b (p + len_at s) 4) 0) = rw e at some in rw e (rw (run_length s b p (number_at b (p + len_at s) 4) 0) at l)
      | inr e ↦ rw e (omega arith)
    ]

-- a map stands, and the same tree is read of another buffer
module _ (K V : Kind) (E : ℕ) (k : IsLawful K) (v : IsLawful V) (b c : List ℕ) (at : ℕ) (h : IsTrue (stands (map_kind K V E) b at)) (same : map_tree (layout_of K V E) b at ≡ map_tree (layout_of K V E) c at) where
  some_entries : 1 ≤ E
  some_entries = (sound_of K V E k v (fitting_of (map_kind K V E) b at h)).capacity

  alike_under : tree_under (layout_of K V E) b 32 (root_place b at) ≡ tree_under (layout_of K V E) c 32 (root_place c at)
  alike_under = sym (map_under (layout_of K V E) b at) ∙ same ∙ map_under (layout_of K V E) c at

  deep_under : (d q : ℕ) → IsBelow (layout_of K V E) b (root_place b at) d q → d < 32
  deep_under d q below = let r = below_stands K V E b (root_place b at) 32 (place_stands K V E k v b at h) d q below in omega (arith, r.1)

  -- of a path below the root of the one as much is left in the other
  pub map_path_rest_kept : (fs : List (ℕ × ℕ)) → PathBelow (layout_of K V E) b (root_place b at) 0 fs → path_rest (layout_of K V E) b 32 fs ≡ path_rest (layout_of K V E) c 32 fs
  map_path_rest_kept fs path = path_rest_kept (layout_of K V E) b c (root_place b at) (root_place c at) 32 some_entries alike_under 0 32 fs refl path

  module _ (p i n : ℕ) (fs : List (ℕ × ℕ)) (walk : WalkBelow (layout_of K V E) b (root_place b at) p i n fs) where
    -- a walk below the root of the one is below that of the other
    pub walk_kept : WalkBelow (layout_of K V E) c (root_place c at) p i n fs
    walk_kept = (
      run_kept (layout_of K V E) b c (root_place b at) (root_place c at) 32 some_entries alike_under deep_under p i n walk.0,
      path_kept (layout_of K V E) b c (root_place b at) (root_place c at) 32 some_entries alike_under deep_under 0 fs walk.1,
    )

    -- and as much is left of it
    pub walk_rest_kept : walk_rest (layout_of K V E) b p i n fs ≡ walk_rest (layout_of K V E) c p i n fs
    walk_rest_kept = rw (run_same (layout_of K V E) b c p (n - i) i, map_path_rest_kept fs walk.1) refl

    -- so it has its place in a list
    pub placed_kept : (all : List (ℕ × ℕ)) (stop : Option (ℕ × ℕ)) → IsPlaced (layout_of K V E) b all stop p i n fs → IsPlaced (layout_of K V E) c all stop p i n fs
    placed_kept all stop (inl w) = inl (record { ends = (w.ends.0, w.ends.1 ∙ ap (λ xs. w.ends.0 ++ xs) walk_rest_kept); off = w.off })
    placed_kept all stop (inr w) =
        inr (record {
          none = w.none;
          skipped = w.skipped;
          later = w.later;
          is = w.is ∙ ap (λ xs. w.skipped ++ (xs ++ w.later)) (run_same (layout_of K V E) b c p (n - i) i);
          stops = w.stops;
        })
