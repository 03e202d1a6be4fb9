-- The first entry that passes a test, of what is left after a way down.
use Rattle.std.proofs.Common.{◌≡◌, ℕ, zero, suc, ◌+◌, ◌-◌, ◌≤◌, ◌<◌, List, [], ◌∷◌, ◌++◌, length, refl, sym, ap, ◌∙◌, subst, arith, append_assoc, add-one, take, drop, get_or, Bool, true, false, inl, inr, Option, Some, None}
use Rattle.std.specs.Prelude.{filter}
use Rattle.std.proofs.lemmas.Bool.{cases_Bool, cases_lt}
use Rattle.std.proofs.lemmas.List.{append-nil, take_all}
use Rattle.std.proofs.Math.Seq.{split_at, take-suc}
use Rattle.rkyv_btree_portable.specs.Kind.{Kind}
use Rattle.rkyv_btree_format.specs.Layout.{NodeLayout, layout_of}
use Rattle.rkyv_btree_format.specs.Read.{run}
use Rattle.rkyv_btree_walk.specs.Visit.{or_else}
use Rattle.rkyv_btree_walk.specs.Nodes.{is_leaf, entry_count, child_place}
use Rattle.rkyv_btree_walk.specs.mirror.Node.{TreeStands}
use Rattle.rkyv_btree_walk.specs.Paths.{node_rest, path_rest, child_list}
use Rattle.rkyv_btree_walk.specs.mirror.Path.{tree_rest, IsPath}
use Rattle.rkyv_btree_walk.specs.mirror.Range.{IsFirst, Rises, first_of}
use Rattle.rkyv_btree_walk.proofs.Nodes.{tree_levels, child_stands}
use Rattle.rkyv_btree_walk.proofs.Paths.{rest_end, rest_more, rest_snoc, tree_from}
use Rattle.rkyv_btree_walk.proofs.Seeks.{rises_left, rises_right, none_before, front, front_then, front_fails, tree_splits}

module _ {X : Type 0} (test : X → Bool) where
  -- the first entry of a list that passes, or else another
  abbrev pub first_or : List X → Option X → Option X
  first_or xs other = or_else (first_of (filter test xs)) other

  pub first_append : (xs ys : List X) (other : Option X) → first_or (xs ++ ys) other ≡ first_or xs (first_or ys other)
  first_append [] ys other = refl
  first_append (x ∷ xs) ys other =
      elim (cases_Bool (test x)) [
        | inl t ↦ rw t refl
        | inr f ↦ rw f (first_append xs ys other)
      ]

  first_skips : (xs : List X) (other : Option X) → filter test xs ≡ [] → first_or xs other ≡ other
  first_skips xs other none = rw none refl

  -- before an entry that fails none passes
  pub first_behind : (front : List X) (x : X) (rest : List X) (other : Option X) → Rises test (front ++ x ∷ rest) → test x ≡ false → first_or (front ++ x ∷ rest) other ≡ first_or rest other
  first_behind front x rest other rises f =
      first_append front (x ∷ rest) other ∙ first_skips front (first_or (x ∷ rest) other) (none_before test front x rest rises f) ∙ rw f refl

-- `found` is entry j of the node at p, if that has so many of its entries, or else `other`
pub record IsEntryOr (p j count : ℕ) (other found : Option (ℕ × ℕ)) : Type 0 where
  pub there : j < count → found ≡ Some (p, j)
  pub none : count ≤ j → found ≡ other

module _ (s : NodeLayout) (b : List ℕ) (test : ℕ × ℕ → Bool) (p j count : ℕ) (other found : Option (ℕ × ℕ)) (is : IsEntryOr p j count other found) where
  -- of a run of entries
  pub run_first : (n i : ℕ) → i + n ≡ count → i ≤ j → j ≤ count → IsFirst (λ k. test (p, k)) i count j → first_or test (run s b p n i) other ≡ found
  run_first zero i ends low high first = sym (is.none (omega arith))
  run_first (suc n) i ends low high first =
      elim (cases_lt i j) [
        | inl h ↦
            let f : test (p, i) ≡ false = first.0 i (omega arith) h in
            rw f (run_first n (i + 1) (omega arith) (omega arith) high (λ k from before. first.0 k (omega arith) before, first.1))
        | inr h ↦
            let same : j ≡ i = omega arith in
            let t : test (p, i) ≡ true = rw same at (first.1 (omega arith)) in
            rw t (sym (rw same at (is.there (omega arith))))
      ]

  module _ (m i : ℕ) (counted : count ≡ entry_count s b p) where
    node_first : (j < count → test (p, j) ≡ true) → first_or test (node_rest s b m p j) other ≡ found
    node_first passes =
        elim (cases_lt j count) [
          | inl h ↦ rw (rest_more s b m p j (rw counted at h), passes h) (sym (is.there h))
          | inr h ↦ rw (rest_end s b m p j (rw counted at h)) (sym (is.none h))
        ]

    module _ (low : i ≤ j) (high : j ≤ count) (rises : Rises test (tree_rest s b (suc m) p i)) (first : IsFirst (λ k. test (p, k)) i count j) where
      splits : tree_rest s b (suc m) p i ≡ front s b m p (j - i) i ++ (child_list s b m (child_place s b p j) ++ node_rest s b m p j)
      splits =
          front_then s b m p j (j - i) i (omega arith) (rw counted at high)
          ∙ ap (λ xs. front s b m p (j - i) i ++ xs) (tree_splits s b m p j)

      behind : Rises test (front s b m p (j - i) i ++ (child_list s b m (child_place s b p j) ++ node_rest s b m p j))
      behind = rw splits at rises

      -- the first of a node's tree from a child on is in the child before entry j, or is that entry
      first_down : first_or test (tree_rest s b (suc m) p i) other ≡ first_or test (child_list s b m (child_place s b p j)) found
      first_down =
          let child = child_list s b m (child_place s b p j) in
          let rest = node_rest s b m p j in
          let skipped = front s b m p (j - i) i in
          ap (λ xs. first_or test xs other) splits
          ∙ first_append test skipped (child ++ rest) other
          ∙ first_skips test skipped (first_or test (child ++ rest) other) (front_fails s b m p test j (j - i) i (child ++ rest) (omega arith) behind first.0)
          ∙ first_append test child rest other
          ∙ ap (first_or test child) (node_first first.1)

      pub down_none : child_place s b p j ≡ None → first_or test (tree_rest s b (suc m) p i) other ≡ found
      down_none none = rw none at first_down

      pub down_some : (q k : ℕ) → m ≡ suc k → child_place s b p j ≡ Some q
          → Rises test (tree_rest s b m q 0) × (first_or test (tree_rest s b (suc m) p i) other ≡ first_or test (tree_rest s b m q 0) found)
      down_some q k levels some =
          let child = rises_left test (child_list s b m (child_place s b p j)) (node_rest s b m p j) (rises_right test (front s b m p (j - i) i) _ behind) in
          let same : child_list s b m (Some q) ≡ tree_rest s b m q 0 = rw levels (tree_from s b k q) in
          (rw (← same) (rw some at child), rw (← same) (rw some at first_down))

-- the same of the tree at p, whatever levels it has
module _ (K V : Kind) (E : ℕ) (b : List ℕ) (levels p : ℕ) (tree : TreeStands K V E b levels p) where
  pub child_tree : (i q : ℕ) → i ≤ E → child_place (layout_of K V E) b p i ≡ Some q → (m : ℕ) × (levels ≡ suc m) × TreeStands K V E b m q
  child_tree i q le some =
      let o = tree_levels K V E b levels p tree in
      (o.0, o.1, child_stands K V E b o.0 p (rw o.1 at tree) i q le some)

  module _ (test : ℕ × ℕ → Bool) (i j count : ℕ) (other found : Option (ℕ × ℕ)) (entry : IsEntryOr p j count other found) (counted : count ≡ entry_count (layout_of K V E) b p)
      (low : i ≤ j) (high : j ≤ count) (rises : Rises test (tree_rest (layout_of K V E) b levels p i)) (first : IsFirst (λ k. test (p, k)) i count j) where
    pub below_none : child_place (layout_of K V E) b p j ≡ None → found ≡ first_or test (tree_rest (layout_of K V E) b levels p i) other
    below_none none =
        let o = tree_levels K V E b levels p tree in
        rw o.1 (sym (down_none (layout_of K V E) b test p j count other found entry o.0 i counted low high (rw o.1 at rises) first none))

    pub below_some : (q m : ℕ) → levels ≡ suc m → TreeStands K V E b m q → child_place (layout_of K V E) b p j ≡ Some q
        → Rises test (tree_rest (layout_of K V E) b m q 0) × (first_or test (tree_rest (layout_of K V E) b m q 0) found ≡ first_or test (tree_rest (layout_of K V E) b levels p i) other)
    below_some q m is below some =
        let deep = tree_levels K V E b m q below in
        let down = down_some (layout_of K V E) b test p j count other found entry m i counted low high (rw is at rises) first q deep.0 deep.1 some in
        (down.0, rw is (sym down.1))

pub or_none : {X : Type 0} (found : Option X) → or_else found None ≡ found
or_none None = refl
or_none (Some x) = refl

module _ (s : NodeLayout) (b : List ℕ) (m : ℕ) where
  path_splits : (n : ℕ) (above : List (ℕ × ℕ)) (f : ℕ × ℕ) (below : List (ℕ × ℕ)) → n ≡ length above + suc m
      → path_rest s b n (above ++ f ∷ below) ≡ (path_rest s b m below ++ node_rest s b m f.0 f.1) ++ path_rest s b n above
  path_splits zero above f below is = absurd (omega arith)
  path_splits (suc n) [] f below is = let e : n ≡ m = omega arith in rw e (sym (append-nil _))
  path_splits (suc n) (g ∷ above) f below is =
      rw (path_splits n above f below (omega arith))
      (append_assoc (path_rest s b m below ++ node_rest s b m f.0 f.1) (path_rest s b n above) (node_rest s b n g.0 g.1))

  -- what is left of a path, at one of its nodes, of which an entry is left
  module _ (n : ℕ) (above : List (ℕ × ℕ)) (f : ℕ × ℕ) (is : n ≡ length above + suc m) where
    module _ (test : ℕ × ℕ → Bool) (stop : Option (ℕ × ℕ)) (so_far : first_or test (path_rest s b n above) None ≡ stop) where
      -- where that entry passes, it is the first of the path up to the node
      pub path_passed : (count : ℕ) (found : Option (ℕ × ℕ)) → IsEntryOr f.0 f.1 count stop found → count ≡ entry_count s b f.0 → (f.1 < count → test f ≡ true) → first_or test (path_rest s b n (above ++ f ∷ [])) None ≡ found
      path_passed count found entry counted passes =
          ap (λ xs. first_or test xs None) (rest_snoc s b m n above f is)
          ∙ first_append test (node_rest s b m f.0 f.1) (path_rest s b n above) None
          ∙ ap (first_or test (node_rest s b m f.0 f.1)) so_far
          ∙ node_first s b test f.0 f.1 count stop found entry m 0 counted passes

      -- where it fails, the first one is after it in the node's tree, or above
      module _ (front below : List (ℕ × ℕ)) (more : f.1 < entry_count s b f.0) (rises : Rises test (front ++ path_rest s b n (above ++ f ∷ below))) (fails : test f ≡ false) where
        parts : front ++ path_rest s b n (above ++ f ∷ below) ≡ (front ++ path_rest s b m below) ++ f ∷ (tree_rest s b (suc m) f.0 (f.1 + 1) ++ path_rest s b n above)
        parts = ap (λ xs. front ++ xs) (path_splits n above f below is) ∙ rw (rest_more s b m f.0 f.1 more) (simp append_assoc)

        pub parted_rises : Rises test (tree_rest s b (suc m) f.0 (f.1 + 1))
        parted_rises =
            let behind = rises_right test (front ++ path_rest s b m below) (f ∷ (tree_rest s b (suc m) f.0 (f.1 + 1) ++ path_rest s b n above)) (rw parts at rises) in
            rises_left test (tree_rest s b (suc m) f.0 (f.1 + 1)) (path_rest s b n above) behind.1

        pub parted : first_or test (tree_rest s b (suc m) f.0 (f.1 + 1)) stop ≡ first_or test (front ++ path_rest s b n (above ++ f ∷ below)) None
        parted = sym (
            ap (λ xs. first_or test xs None) parts
            ∙ first_behind test (front ++ path_rest s b m below) f (tree_rest s b (suc m) f.0 (f.1 + 1) ++ path_rest s b n above) None (rw parts at rises) fails
            ∙ first_append test (tree_rest s b (suc m) f.0 (f.1 + 1)) (path_rest s b n above) None
            ∙ ap (first_or test (tree_rest s b (suc m) f.0 (f.1 + 1))) so_far
            )

module _ (K V : Kind) (E : ℕ) (b : List ℕ) where
  -- a node of a path stands, with so many levels below it
  pub record IsOnPath (n : ℕ) (above : List (ℕ × ℕ)) (f : ℕ × ℕ) : Type 0 where
    pub below : ℕ
    pub levels : n ≡ length above + suc below
    pub tree : TreeStands K V E b (suc below) f.0
    pub inner : is_leaf (layout_of K V E) b f.0 ≡ false
    pub within : f.1 ≤ E

  pub on_path : (n : ℕ) (above : List (ℕ × ℕ)) (f : ℕ × ℕ) (below : List (ℕ × ℕ)) → IsPath K V E b n (above ++ f ∷ below) → IsOnPath n above f
  on_path zero [] f below path = absurd path
  on_path zero (g ∷ above) f below path = absurd path
  on_path (suc n) [] f below path = record { below = n; levels = omega arith; tree = path.0; inner = path.1; within = path.2 }
  on_path (suc n) (g ∷ above) f below path =
      let on = on_path n above f below path.3 in
      record { below = on.below; levels = omega (arith, on.levels); tree = on.tree; inner = on.inner; within = on.within }

-- of a leaf's part and the path above it
module _ (s : NodeLayout) (b : List ℕ) (test : ℕ × ℕ → Bool) (all : List (ℕ × ℕ)) (p i end : ℕ) (low : i ≤ end) where
  pub walk_first : (nodes : List (ℕ × ℕ)) (at : ℕ) → nodes ≡ all → length nodes ≤ at → (stop : Option (ℕ × ℕ)) → first_or test (path_rest s b 32 (take at nodes)) None ≡ stop
      → (j : ℕ) (found : Option (ℕ × ℕ)) → i ≤ j → j ≤ end → IsFirst (λ k. test (p, k)) i end j → IsEntryOr p j end stop found → found ≡ first_of (filter test (run s b p (end - i) i ++ path_rest s b 32 all))
  walk_first nodes at same done stop so_far j found begins within first entry =
      let whole : take at nodes ≡ all = take_all at nodes done ∙ same in
      let path = ap (λ xs. first_or test (path_rest s b 32 xs) None) (sym whole) ∙ so_far in
      let part = run_first s b test p j end stop found entry (end - i) i (omega arith) begins within first in
      let walk = first_append test (run s b p (end - i) i) (path_rest s b 32 all) None ∙ ap (first_or test (run s b p (end - i) i)) path ∙ part in
      sym walk ∙ or_none (first_of (filter test (run s b p (end - i) i ++ path_rest s b 32 all)))

-- at a node of a path
module _ (K V : Kind) (E : ℕ) (b : List ℕ) (nodes all : List (ℕ × ℕ)) (at : ℕ) (same : nodes ≡ all) (path : IsPath K V E b 32 all) (less : at < length nodes) where
  cut : all ≡ take at nodes ++ get_or nodes at (0, 0) ∷ drop (suc at) nodes
  cut = sym same ∙ split_at nodes at (0, 0) less

  pub node_on : IsOnPath K V E b 32 (take at nodes) (get_or nodes at (0, 0))
  node_on = on_path K V E b 32 (take at nodes) (get_or nodes at (0, 0)) (drop (suc at) nodes) (subst (IsPath K V E b 32) cut path)

  module _ (test : ℕ × ℕ → Bool) (stop : Option (ℕ × ℕ)) (so_far : first_or test (path_rest (layout_of K V E) b 32 (take at nodes)) None ≡ stop)
      (j count : ℕ) (found : Option (ℕ × ℕ)) (entry : IsEntryOr (get_or nodes at (0, 0)).0 j count stop found) (counted : count ≡ entry_count (layout_of K V E) b (get_or nodes at (0, 0)).0)
      (within : j ≤ count) (first : IsFirst (λ k. test ((get_or nodes at (0, 0)).0, k)) (get_or nodes at (0, 0)).1 count j) where
    -- the first of its entries that passes is its next one, or it has none left
    pub stays : (get_or nodes at (0, 0)).1 ≤ j → j ≤ (get_or nodes at (0, 0)).1 → first_or test (path_rest (layout_of K V E) b 32 (take (at + 1) nodes)) None ≡ found
    stays begins low =
        let on = node_on in
        let next : j ≡ (get_or nodes at (0, 0)).1 = omega arith in
        let entries = rw next at entry in
        let passes = rw next at first.1 in
        rw (add-one at, take-suc nodes at (0, 0) less)
        (path_passed (layout_of K V E) b on.below 32 (take at nodes) (get_or nodes at (0, 0)) on.levels test stop so_far count found entries counted passes)

    -- or it is further on: then the way leaves the path
    module _ (later : (get_or nodes at (0, 0)).1 < j) (front : List (ℕ × ℕ)) (rises : Rises test (front ++ path_rest (layout_of K V E) b 32 all)) where
      leaves : Rises test (tree_rest (layout_of K V E) b (suc node_on.below) (get_or nodes at (0, 0)).0 ((get_or nodes at (0, 0)).1 + 1))
          × (first_or test (tree_rest (layout_of K V E) b (suc node_on.below) (get_or nodes at (0, 0)).0 ((get_or nodes at (0, 0)).1 + 1)) stop ≡ first_or test (front ++ path_rest (layout_of K V E) b 32 all) None)
      leaves =
          let on = node_on in
          let more : (get_or nodes at (0, 0)).1 < entry_count (layout_of K V E) b (get_or nodes at (0, 0)).0 = rw (← counted) (omega arith) in
          let fails = first.0 (get_or nodes at (0, 0)).1 (omega arith) later in
          let up = subst (λ xs. Rises test (front ++ path_rest (layout_of K V E) b 32 xs)) cut rises in (
            parted_rises (layout_of K V E) b on.below 32 (take at nodes) (get_or nodes at (0, 0)) on.levels test stop so_far front (drop (suc at) nodes) more up fails,
            parted (layout_of K V E) b on.below 32 (take at nodes) (get_or nodes at (0, 0)) on.levels test stop so_far front (drop (suc at) nodes) more up fails
                ∙ ap (λ xs. first_or test (front ++ path_rest (layout_of K V E) b 32 xs) None) (sym cut),
          )

      first_later : IsFirst (λ k. test ((get_or nodes at (0, 0)).0, k)) ((get_or nodes at (0, 0)).1 + 1) count j
      first_later = (λ k low before. first.0 k (omega arith) before, first.1)

      all_first : first_or test (front ++ path_rest (layout_of K V E) b 32 all) None ≡ first_of (filter test (front ++ path_rest (layout_of K V E) b 32 all))
      all_first = or_none (first_of (filter test (front ++ path_rest (layout_of K V E) b 32 all)))

      pub leaves_none : child_place (layout_of K V E) b (get_or nodes at (0, 0)).0 j ≡ None → found ≡ first_of (filter test (front ++ path_rest (layout_of K V E) b 32 all))
      leaves_none none =
          below_none K V E b (suc node_on.below) (get_or nodes at (0, 0)).0 node_on.tree test ((get_or nodes at (0, 0)).1 + 1) j count stop found entry counted (omega arith) within leaves.0 first_later none
          ∙ leaves.1 ∙ all_first

      pub leaves_into : (q : ℕ) → TreeStands K V E b node_on.below q → child_place (layout_of K V E) b (get_or nodes at (0, 0)).0 j ≡ Some q
          → Rises test (tree_rest (layout_of K V E) b node_on.below q 0) × (first_or test (tree_rest (layout_of K V E) b node_on.below q 0) found ≡ first_of (filter test (front ++ path_rest (layout_of K V E) b 32 all)))
      leaves_into q tree some =
          let down = below_some K V E b (suc node_on.below) (get_or nodes at (0, 0)).0 node_on.tree test ((get_or nodes at (0, 0)).1 + 1) j count stop found entry counted (omega arith) within leaves.0 first_later q node_on.below refl tree some in
          (down.0, down.1 ∙ leaves.1 ∙ all_first)
