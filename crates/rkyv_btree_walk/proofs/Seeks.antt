-- What a way down skips and what it leaves, beside the first entry of each node that passes a test.
use Rattle.std.proofs.Common.{◌≡◌, ℕ, zero, suc, ◌+◌, ◌-◌, ◌≤◌, ◌<◌, List, [], ◌∷◌, ◌++◌, length, refl, sym, ap, ◌∙◌, arith, append_assoc, Bool, true, false, inl, inr, Some, None}
use Rattle.std.specs.Prelude.{filter}
use Rattle.std.proofs.lemmas.Bool.{cases_Bool, cases_lt}
use Rattle.std.proofs.lemmas.List.Elements.{filter-append}
use Rattle.rkyv_btree_portable.specs.Bytes.{number_at}
use Rattle.rkyv_btree_portable.specs.Kind.{Kind}
use Rattle.rkyv_btree_format.specs.Layout.{NodeLayout, layout_of, len_at}
use Rattle.rkyv_btree_format.specs.Read.{run}
use Rattle.rkyv_btree_walk.specs.Nodes.{is_leaf, entry_count, child_place}
use Rattle.rkyv_btree_walk.specs.mirror.Node.{NodeStands, TreeStands}
use Rattle.rkyv_btree_walk.specs.Paths.{node_rest, path_rest, walk_rest, child_list}
use Rattle.rkyv_btree_walk.specs.mirror.Path.{tree_rest, IsPath}
use Rattle.rkyv_btree_walk.specs.mirror.Range.{IsFirst, Climbs, AllPass, Rises}
use Rattle.rkyv_btree_walk.proofs.Nodes.{tree_levels}
use Rattle.rkyv_btree_walk.proofs.Paths.{rest_end, rest_more, tree_absent, rest_snoc, put_absent, put_child}
use Rattle.rkyv_btree_walk.proofs.Searches.{leaf_alone}

module _ {X : Type 0} (test : X → Bool) where
  pub all_kept : (xs : List X) → AllPass test xs → filter test xs ≡ xs
  all_kept [] h = refl
  all_kept (x ∷ xs) h = rw h.0 (ap (λ ys. x ∷ ys) (all_kept xs h.1))

  all_left : (xs ys : List X) → AllPass test (xs ++ ys) → AllPass test xs
  all_left [] ys h = tt
  all_left (x ∷ xs) ys h = (h.0, all_left xs ys h.1)

  all_right : (xs ys : List X) → AllPass test (xs ++ ys) → AllPass test ys
  all_right [] ys h = h
  all_right (x ∷ xs) ys h = all_right xs ys h.1

  all_both : (xs ys : List X) → AllPass test xs → AllPass test ys → AllPass test (xs ++ ys)
  all_both [] ys h k = k
  all_both (x ∷ xs) ys h k = (h.0, all_both xs ys h.1 k)

  pub rises_left : (xs ys : List X) → Rises test (xs ++ ys) → Rises test xs
  rises_left [] ys h = tt
  rises_left (x ∷ xs) ys h = (λ e. all_left xs ys (h.0 e), rises_left xs ys h.1)

  pub rises_right : (xs ys : List X) → Rises test (xs ++ ys) → Rises test ys
  rises_right [] ys h = h
  rises_right (x ∷ xs) ys h = rises_right xs ys h.1

  -- what stands before an entry that fails, fails
  pub none_before : (xs : List X) (y : X) (ys : List X) → Rises test (xs ++ y ∷ ys) → test y ≡ false → filter test xs ≡ []
  none_before [] y ys h f = refl
  none_before (x ∷ xs) y ys h f =
      elim (cases_Bool (test x)) [
        | inl e ↦ let t = (all_right xs (y ∷ ys) (h.0 e)).0 in cc
        | inr e ↦ rw e (none_before xs y ys h.1 f)
      ]

  -- what is left after entries that fail is what passes
  pub kept_behind : (all front rest : List X) → all ≡ front ++ rest → filter test front ≡ [] → AllPass test rest → rest ≡ filter test all
  kept_behind all front rest is none pass = rw (is, filter-append test front rest, none) (sym (all_kept rest pass))

-- what holds of each number from one on to before another, and of that, holds of one more
pub between_more : (P : ℕ → Type 0) (from i : ℕ) → ((k : ℕ) → from ≤ k → k < i → P k) → P i → (k : ℕ) → from ≤ k → k < i + 1 → P k
between_more P from i before here k low high =
    elim (cases_lt k i) [
      | inl h ↦ before k low h
      | inr h ↦ let same : k ≡ i = omega arith in rw same here
    ]

-- the keys are counted that fail, as long as none after one that passes does
module _ (test : ℕ → Bool) (from count i next : ℕ) (climbs : Climbs test from count) (low : from ≤ next) (high : next ≤ i) (less : i < count) (first : IsFirst test from i next) where
  pub count_same : test i ≡ true → IsFirst test from (i + 1) next
  count_same t = (
    first.0,
    λ _. elim (cases_lt next i) [
      | inl before ↦ first.1 before
      | inr here ↦ let same : next ≡ i = omega arith in rw same t
    ],
  )

  pub count_more : test i ≡ false → IsFirst test from (i + 1) (next + 1)
  count_more f =
      elim (cases_lt next i) [
        | inl before ↦ let t = climbs next i low before less (first.1 before) in absurd (cc (f, t))
        | inr here ↦
            let same : next ≡ i = omega arith in
            rw same (between_more (λ k. test k ≡ false) from i (rw same at first.0) f, λ h. absurd (omega arith))
      ]

module _ (s : NodeLayout) (b : List ℕ) (m p : ℕ) where
  -- so many children and entries of a node, from number i on
  abbrev pub front : ℕ → ℕ → List (ℕ × ℕ)
  front zero i = []
  front (suc d) i = child_list s b m (child_place s b p i) ++ (p, i) ∷ front d (i + 1)

  pub tree_splits : (i : ℕ) → tree_rest s b (suc m) p i ≡ child_list s b m (child_place s b p i) ++ node_rest s b m p i
  unfolding tree_rest
  tree_splits i = refl

  pub front_then : (j d i : ℕ) → i + d ≡ j → j ≤ entry_count s b p → tree_rest s b (suc m) p i ≡ front d i ++ tree_rest s b (suc m) p j
  front_then j zero i is low = let e : i ≡ j = omega arith in rw e refl
  front_then j (suc d) i is low =
      rw (tree_splits i, rest_more s b m p i (omega arith), front_then j d (i + 1) (omega arith) low)
      (sym (append_assoc (child_list s b m (child_place s b p i)) ((p, i) ∷ front d (i + 1)) (tree_rest s b (suc m) p j)))

  module _ (test : ℕ × ℕ → Bool) (j : ℕ) where
    -- where entries fail, so do those of the children before them
    pub front_fails : (d i : ℕ) (after : List (ℕ × ℕ)) → i + d ≡ j → Rises test (front d i ++ after) → ((x : ℕ) → i ≤ x → x < j → test (p, x) ≡ false) → filter test (front d i) ≡ []
    front_fails zero i after is rises fails = refl
    front_fails (suc d) i after is rises fails =
        let f : test (p, i) ≡ false = fails i (omega arith) (omega arith) in
        let below = child_list s b m (child_place s b p i) in
        let own = none_before test below (p, i) (front d (i + 1)) (rises_left test (below ++ (p, i) ∷ front d (i + 1)) after rises) f in
        let rest = rises_right test below ((p, i) ∷ front d (i + 1) ++ after) (rw append_assoc at rises) in
        rw (filter-append, own, f, front_fails d (i + 1) after (omega arith) rest.1 (λ x low high. fails x (omega arith) high)) refl

    node_passes : Rises test (node_rest s b m p j) → (j < entry_count s b p → test (p, j) ≡ true) → AllPass test (node_rest s b m p j)
    node_passes rises passes =
        elim (cases_lt j (entry_count s b p)) [
          | inl h ↦ let more = rest_more s b m p j h in rw more (passes h, (rw more at rises).0 (passes h))
          | inr h ↦ rw (rest_end s b m p j h) tt
        ]

-- a way down has come to the node at p, and skipped some of a list; it goes on beside entry j
module _ (s : NodeLayout) (b : List ℕ) (n m p j : ℕ) (fs all skipped : List (ℕ × ℕ)) (low : j ≤ entry_count s b p) (is : all ≡ skipped ++ (tree_rest s b (suc m) p 0 ++ path_rest s b n fs)) where
  skips_front : all ≡ (skipped ++ front s b m p j 0) ++ (tree_rest s b (suc m) p j ++ path_rest s b n fs)
  skips_front =
      is ∙ ap (λ xs. skipped ++ (xs ++ path_rest s b n fs)) (front_then s b m p j j 0 (omega arith) low)
      ∙ ap (λ xs. skipped ++ xs) (append_assoc (front s b m p j 0) (tree_rest s b (suc m) p j) (path_rest s b n fs))
      ∙ sym (append_assoc skipped (front s b m p j 0) (tree_rest s b (suc m) p j ++ path_rest s b n fs))

  module _ (test : ℕ × ℕ → Bool) (rises : Rises test all) (first : IsFirst (λ i. test (p, i)) 0 (entry_count s b p) j) where
    behind : Rises test (front s b m p j 0 ++ (tree_rest s b (suc m) p j ++ path_rest s b n fs))
    behind = rises_right test skipped (front s b m p j 0 ++ (tree_rest s b (suc m) p j ++ path_rest s b n fs)) (rw (skips_front, append_assoc) at rises)

    front_skipped : filter test skipped ≡ [] → filter test (skipped ++ front s b m p j 0) ≡ []
    front_skipped none = rw (filter-append, none) (front_fails s b m p test j j 0 _ (omega arith) behind first.0)

    rest_passes : AllPass test (path_rest s b n fs) → AllPass test (node_rest s b m p j ++ path_rest s b n fs)
    rest_passes pass =
        let child = child_list s b m (child_place s b p j) in
        let rest = node_rest s b m p j in
        let here = rises_left test (tree_rest s b (suc m) p j) (path_rest s b n fs) (rises_right test (front s b m p j 0) _ behind) in
        all_both test rest (path_rest s b n fs) (node_passes s b m p test j (rises_right test child rest (rw (tree_splits s b m p j) at here)) first.1) pass

-- where a test rises along what is left of a node's tree, it does along the node's own entries
module _ (s : NodeLayout) (b : List ℕ) (m p : ℕ) (test : ℕ × ℕ → Bool) where
  all_from : (i j : ℕ) → i ≤ j → j < entry_count s b p → AllPass test (tree_rest s b (suc m) p i) → test (p, j) ≡ true
  all_from i j low high all =
      let parts = front_then s b m p j (j - i) i (omega arith) (omega arith) in
      let rest = all_right test (front s b m p (j - i) i) (tree_rest s b (suc m) p j) (rw parts at all) in
      let own = all_right test (child_list s b m (child_place s b p j)) (node_rest s b m p j) (rw (tree_splits s b m p j) at rest) in
      (rw (rest_more s b m p j high) at own).0

  node_climbs : (i count : ℕ) → count ≡ entry_count s b p → Rises test (tree_rest s b (suc m) p i) → Climbs (λ k. test (p, k)) i count
  node_climbs i count counted rises k l low before high t =
      let last : l < entry_count s b p = rw counted at high in
      let parts = front_then s b m p k (k - i) i (omega arith) (omega arith) in
      let rest = rises_right test (front s b m p (k - i) i) (tree_rest s b (suc m) p k) (rw parts at rises) in
      let own = rises_right test (child_list s b m (child_place s b p k)) (node_rest s b m p k) (rw (tree_splits s b m p k) at rest) in
      let behind = (rw (rest_more s b m p k (omega arith)) at own).0 t in
      all_from (k + 1) l (omega arith) last behind

leaf_rest : (s : NodeLayout) (b : List ℕ) (m p j : ℕ) → is_leaf s b p ≡ true → node_rest s b m p j ≡ run s b p (number_at b (p + len_at s) 4 - j) j
unfolding node_rest
leaf_rest s b m p j e = rw e refl

-- the same of a tree that stands, whatever levels it has, before other entries
pub tree_climbs : (K V : Kind) (E : ℕ) (b : List ℕ) (levels p : ℕ) → TreeStands K V E b levels p → (test : ℕ × ℕ → Bool) (i count : ℕ) → count ≡ entry_count (layout_of K V E) b p
    → Rises test (tree_rest (layout_of K V E) b levels p i) → Climbs (λ k. test (p, k)) i count
tree_climbs K V E b levels p tree test i count counted rises =
    let o = tree_levels K V E b levels p tree in
    node_climbs (layout_of K V E) b o.0 p test i count counted (rw o.1 at rises)

-- and in a list of which some is skipped
pub below_climbs : (K V : Kind) (E : ℕ) (b : List ℕ) (p levels count : ℕ) → TreeStands K V E b levels p → {all : List (ℕ × ℕ)} (skipped rest : List (ℕ × ℕ)) → all ≡ skipped ++ (tree_rest (layout_of K V E) b levels p 0 ++ rest)
    → (test : ℕ × ℕ → Bool) → count ≡ entry_count (layout_of K V E) b p → Rises test all → Climbs (λ k. test (p, k)) 0 count
below_climbs K V E b p levels count tree skipped rest is test counted rises =
    let here = tree_rest (layout_of K V E) b levels p 0 in
    tree_climbs K V E b levels p tree test 0 count counted (rises_left test here rest (rises_right test skipped (here ++ rest) (rw is at rises)))

-- the same beside the path that leads there, on which the node is put
module _ (K V : Kind) (E : ℕ) (b : List ℕ) (p j count : ℕ) (fs all skipped : List (ℕ × ℕ)) (path : IsPath K V E b 32 fs) (tree : TreeStands K V E b (32 - length fs) p)
    (counted : count ≡ entry_count (layout_of K V E) b p) (low : j ≤ count) (is : all ≡ skipped ++ (tree_rest (layout_of K V E) b (32 - length fs) p 0 ++ path_rest (layout_of K V E) b 32 fs)) where
  levels : (m : ℕ) × (32 - length fs ≡ suc m) × NodeStands K V E b p
  levels = tree_levels K V E b (32 - length fs) p tree

  skips : List (ℕ × ℕ)
  skips = skipped ++ front (layout_of K V E) b levels.0 p j 0

  -- more is skipped before the rest of the list; and where what was skipped fails a test, and what is left of the path
  -- passes it, so do what is skipped now and what is kept for good
  abbrev pub Leaves : List (ℕ × ℕ) → List (ℕ × ℕ) → Type 0
  Leaves rest kept = (front : List (ℕ × ℕ)) × (all ≡ front ++ rest)
      × ((test : ℕ × ℕ → Bool) → Rises test all → IsFirst (λ i. test (p, i)) 0 count j → (filter test skipped ≡ []) × AllPass test (path_rest (layout_of K V E) b 32 fs)
      → (filter test front ≡ []) × AllPass test kept)

  on : all ≡ skips ++ (tree_rest (layout_of K V E) b (32 - length fs) p j ++ path_rest (layout_of K V E) b 32 fs)
  unfolding skips
  on = rw levels.1 (skips_front (layout_of K V E) b 32 levels.0 p j fs all skipped (rw counted at low) (rw levels.1 at is))

  leaves : (rest kept : List (ℕ × ℕ)) → all ≡ skips ++ rest → kept ≡ node_rest (layout_of K V E) b levels.0 p j ++ path_rest (layout_of K V E) b 32 fs → Leaves rest kept
  unfolding skips
  leaves rest kept run left = (
    skips,
    run,
    λ test rises first from. (
      front_skipped (layout_of K V E) b 32 levels.0 p j fs all skipped (rw counted at low) (rw levels.1 at is) test rises (rw counted at first) from.0,
      rw left (rest_passes (layout_of K V E) b 32 levels.0 p j fs all skipped (rw counted at low) (rw levels.1 at is) test rises (rw counted at first) from.1),
    ),
  )

  -- of a leaf its rest is left, and the path
  pub leaves_leaf : is_leaf (layout_of K V E) b p ≡ true → (end : ℕ) → end ≡ number_at b (p + len_at (layout_of K V E)) 4 → Leaves (walk_rest (layout_of K V E) b p j end fs) (walk_rest (layout_of K V E) b p j end fs)
  leaves_leaf e end ends =
      let rest = leaf_rest (layout_of K V E) b levels.0 p j e in
      let all = tree_absent (layout_of K V E) b levels.0 p j (leaf_alone (layout_of K V E) b p j e) ∙ rest in
      leaves _ _ (on ∙ ap (λ xs. skips ++ (xs ++ path_rest (layout_of K V E) b 32 fs)) (rw (levels.1, ends) all)) (rw (ends, rest) refl)

  kept_path : path_rest (layout_of K V E) b 32 (fs ++ (p, j) ∷ []) ≡ node_rest (layout_of K V E) b levels.0 p j ++ path_rest (layout_of K V E) b 32 fs
  kept_path = rest_snoc (layout_of K V E) b levels.0 32 fs (p, j) (omega (arith, levels.1))

  -- of an inner node with no child there the path with the node is left
  pub leaves_absent : child_place (layout_of K V E) b p j ≡ None → (new : List (ℕ × ℕ)) → new ≡ fs ++ (p, j) ∷ [] → Leaves (path_rest (layout_of K V E) b 32 new) (path_rest (layout_of K V E) b 32 new)
  leaves_absent none new items = rw items (leaves _ _ (on ∙ ap (λ xs. skips ++ xs) (sym (put_absent K V E b 32 p j fs path tree none))) kept_path)

  -- and before that the tree of the child
  pub leaves_child : j ≤ E → (q : ℕ) → child_place (layout_of K V E) b p j ≡ Some q → (m : ℕ) → m ≡ 32 - (length fs + 1) → (new : List (ℕ × ℕ)) → new ≡ fs ++ (p, j) ∷ []
      → Leaves (tree_rest (layout_of K V E) b m q 0 ++ path_rest (layout_of K V E) b 32 new) (path_rest (layout_of K V E) b 32 new)
  leaves_child le q some m less new items = rw items (leaves _ _ (on ∙ ap (λ xs. skips ++ xs) (sym (put_child K V E b 32 p j fs path tree le q some m less).1)) kept_path)
