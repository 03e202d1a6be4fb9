-- What the search of a node finds and asks, and where it goes on.
use Rattle.std.proofs.Common.{◌≡◌, ℕ, zero, suc, ◌+◌, ◌*◌, ◌≤◌, ◌<◌, List, [], ◌∷◌, length, refl, ap, ◌∙◌, arith, min, max, true, false, Option, Some, None, inl, inr}
use Rattle.std.proofs.Math.Nat.{mul-le-mul_left}
use Rattle.std.proofs.lemmas.Bool.{cases_lt, cases_Bool}
use Rattle.std.specs.Prelude.{ℤ, pos, negsuc}
use Rattle.std.specs.declared.cmp.Ordering.{Ordering}
use Rattle.std.specs.declared.cmp.Ordering.TheVariants.{Less, Equal, Greater}
use Rattle.rkyv_btree_portable.specs.Bytes.{number_at, target_at}
use Rattle.rkyv_btree_portable.specs.Kind.{Kind}
use Rattle.rkyv_btree_format.specs.Layout.{NodeLayout, layout_of, len_at, pointer_at}
use Rattle.rkyv_btree_format.specs.Read.{run, child_of, row_at, tree_at}
use Rattle.rkyv_btree_shape.specs.Tree.{Tree, Row, last, step, Child, absent, child, height, row_height, child_height}
use Rattle.std.specs.Ordering.{match_ordering}
use Rattle.rkyv_btree_walk.specs.Search.{compared_in_leaf, compared_entries, compared_in_row, compared_in_child, first_equal, compared_of}
use Rattle.rkyv_btree_walk.specs.declared.search.Stop.TheVariants.{At, Before}
use Rattle.rkyv_btree_walk.specs.Nodes.{natural, is_leaf, entry_count, child_place}
use Rattle.rkyv_btree_walk.specs.mirror.Node.{NodeStands, TreeStands, RunStands}
use Rattle.rkyv_btree_walk.specs.mirror.Search.{StopsAt, searched, comparison_at}
use Rattle.rkyv_btree_walk.proofs.Nodes.{tree_levels, child_stands}

pair-path : {A B : Type 0} {x z : A} {y w : B} → x ≡ z → y ≡ w → ◌≡◌ {A = A × B} (x, y) (z, w)
pair-path e f = rw (e, f) refl

-- a node's row, a leaf's too, whose children are absent
abbrev pub row_of : (ℕ → Child (ℕ × ℕ)) → ℕ → ℕ → ℕ → Row (ℕ × ℕ)
row_of children p zero i = last (children i)
row_of children p (suc n) i = step (children i) (p, i) (row_of children p n (i + 1))

-- the tree below a pointer
abbrev pub child_at : (ℕ → Tree (ℕ × ℕ)) → Option ℕ → Child (ℕ × ℕ)
child_at below None = absent
child_at below (Some q) = child (below q)

module _ (s : NodeLayout) (b : List ℕ) where
  abbrev pub children_of : ℕ → ℕ → ℕ → Child (ℕ × ℕ)
  children_of m p i = child_at (tree_at s b m) (child_place s b p i)

  no_children : (m p : ℕ) → is_leaf s b p ≡ true → (j : ℕ) → children_of m p j ≡ absent
  no_children m p e j = rw e refl

  child_is : (below : ℕ → Tree (ℕ × ℕ)) (t : Option ℤ) → child_at below (natural t) ≡ child_of s b below t
  child_is below None = refl
  child_is below (Some (negsuc n)) = refl
  child_is below (Some (pos q)) = refl

  pub inner_children : (m p : ℕ) → is_leaf s b p ≡ false → (j : ℕ) → children_of m p j ≡ child_of s b (tree_at s b m) (target_at b (p + pointer_at s j))
  inner_children m p e j = rw e (child_is (tree_at s b m) (target_at b (p + pointer_at s j)))

  row_is : (below : ℕ → Tree (ℕ × ℕ)) (children : ℕ → Child (ℕ × ℕ)) (p : ℕ) → ((j : ℕ) → children j ≡ child_of s b below (target_at b (p + pointer_at s j))) → (n i : ℕ) → row_at s b below p n i ≡ row_of children p n i
  row_is below children p are zero i = rw (are i) refl
  row_is below children p are (suc n) i = rw (are i) (ap (λ r. step (child_of s b below (target_at b (p + pointer_at s i))) (p, i) r) (row_is below children p are n (i + 1)))

  module _ (c : ℕ × ℕ → Ordering) (p : ℕ) where
    leaf_compared : (children : ℕ → Child (ℕ × ℕ)) → ((j : ℕ) → children j ≡ absent) → (n i : ℕ) → compared_in_leaf c (run s b p n i) ≡ compared_in_row c (row_of children p n i)
    leaf_compared children none zero i = rw (none i) refl
    leaf_compared children none (suc n) i = rw (none i) (ap (λ xs. (p, i) ∷ match_ordering (c (p, i)) [] [] xs) (leaf_compared children none n (i + 1)))

    -- what is asked of a node is what is asked of its row
    pub node_compared : (m : ℕ) → compared_entries c (tree_at s b (suc m) p) ≡ compared_in_row c (row_of (children_of m p) p (entry_count s b p) 0)
    node_compared m =
        elim (cases_Bool (is_leaf s b p)) [
          | inl e ↦ rw e (leaf_compared (children_of m p) (no_children m p e) (number_at b (p + len_at s) 4) 0)
          | inr e ↦ rw e (ap (compared_in_row c) (row_is (tree_at s b m) (children_of m p) p (inner_children m p e) s.E 0))
        ]

  leaf_height : (children : ℕ → Child (ℕ × ℕ)) → ((j : ℕ) → children j ≡ absent) → (p n i : ℕ) → row_height (row_of children p n i) ≡ 0
  leaf_height children none p zero i = rw (none i) refl
  leaf_height children none p (suc n) i = rw (none i) (let r = leaf_height children none p n (i + 1) in omega (arith, r))

  -- and it has a level more than its row
  pub node_height : (m p : ℕ) → height (tree_at s b (suc m) p) ≡ 1 + row_height (row_of (children_of m p) p (entry_count s b p) 0)
  node_height m p =
      elim (cases_Bool (is_leaf s b p)) [
        | inl e ↦ let none = leaf_height (children_of m p) (no_children m p e) p (number_at b (p + len_at s) 4) 0 in rw e (omega (arith, none))
        | inr e ↦ let same = ap row_height (row_is (tree_at s b m) (children_of m p) p (inner_children m p e) s.E 0) in rw e (omega (arith, same))
      ]

module _ (c : ℕ × ℕ → Ordering) (p : ℕ) (children : ℕ → Child (ℕ × ℕ)) where
  module _ (j : ℕ) where
    row_finds : (n i : ℕ) → i ≤ j → j < i + n → ((x : ℕ) → i ≤ x → x < j → c (p, x) ≡ Greater) → c (p, j) ≡ Equal
        → (first_equal c (compared_in_row c (row_of children p n i)) ≡ Some (p, j)) × (length (compared_in_row c (row_of children p n i)) + i ≡ j + 1)
    row_finds zero i low high before e = absurd (omega arith)
    row_finds (suc n) i low high before e =
        elim (cases_lt i j) [
          | inl h ↦ let r = row_finds n (i + 1) (omega arith) (omega arith) (λ x a z. before x (omega arith) z) e in
              let g : c (p, i) ≡ Greater = before i (omega arith) h in
              rw g (r.0, omega (arith, r.1))
          | inr h ↦ let same : j ≡ i = omega arith in rw same (let g : c (p, i) ≡ Equal = rw same at e in rw g (refl, omega arith))
        ]

    row_down : (n i : ℕ) → i ≤ j → j ≤ i + n → ((x : ℕ) → i ≤ x → x < j → c (p, x) ≡ Greater) → (j < i + n → c (p, j) ≡ Less)
        → (first_equal c (compared_in_row c (row_of children p n i)) ≡ first_equal c (compared_in_child c (children j)))
        × (length (compared_in_row c (row_of children p n i)) + i ≡ min (j + 1) (i + n) + length (compared_in_child c (children j)))
    row_down zero i low high before e = let same : j ≡ i = omega arith in rw same (refl, omega arith)
    row_down (suc n) i low high before e =
        elim (cases_lt i j) [
          | inl h ↦ let r = row_down n (i + 1) (omega arith) (omega arith) (λ x a z. before x (omega arith) z) (λ z. e (omega arith)) in
              let g : c (p, i) ≡ Greater = before i (omega arith) h in
              rw g (r.0, omega (arith, r.1))
          | inr h ↦ let same : j ≡ i = omega arith in
              rw same (let g : c (p, i) ≡ Less = rw same at (e (omega arith)) in rw g (refl, omega arith))
        ]

  row_bound : (E n i : ℕ) → ((j : ℕ) → i ≤ j → j ≤ i + n → length (compared_in_child c (children j)) ≤ E * child_height (children j))
      → length (compared_in_row c (row_of children p n i)) ≤ n + E * row_height (row_of children p n i)
  row_bound E zero i below = let last = below i (omega arith) (omega arith) in omega (arith, last)
  row_bound E (suc n) i below =
      let here = below i (omega arith) (omega arith) in
      let rest = row_bound E n (i + 1) (λ j low high. below j (omega arith) (omega arith)) in
      let top = max (child_height (children i)) (row_height (row_of children p n (i + 1))) in
      let left : child_height (children i) ≤ top = omega arith in
      let right : row_height (row_of children p n (i + 1)) ≤ top = omega arith in
      let l = mul-le-mul_left E left in
      let r = mul-le-mul_left E right in
      elim (c (p, i)) as (λ o. length ((p, i) ∷ match_ordering o (compared_in_child c (children i)) [] (compared_in_row c (row_of children p n (i + 1)))) ≤ suc n + E * top) [
        | Less ↦ omega (arith, here, l)
        | Equal ↦ omega arith
        | Greater ↦ omega (arith, rest, r)
      ]

-- the search of a tree of so many levels, whose node at p has `count` entries
module _ (K V : Kind) (E : ℕ) (b : List ℕ) (levels p count : ℕ) (tree : TreeStands K V E b levels p) (counted : count ≡ entry_count (layout_of K V E) b p) (compare : K.Value → Ordering) (i : ℕ) where
  abbrev comparison : ℕ × ℕ → Ordering
  comparison = comparison_at K V E b compare

  -- it finds the entry at which it stops
  pub search_finds : StopsAt (λ k. comparison (p, k)) count (At i) → searched (layout_of K V E) b comparison levels p ≡ (Some (p, i), i + 1)
  unfolding searched
  search_finds stops =
      let o = tree_levels K V E b levels p tree in
      let at = rw counted at stops in
      let r = row_finds comparison p (children_of (layout_of K V E) b o.0 p) i (entry_count (layout_of K V E) b p) 0 (omega arith) (omega (arith, at.0)) (λ x low h. at.1 x h) at.2 in
      let asks : length (compared_in_row comparison (row_of (children_of (layout_of K V E) b o.0 p) p (entry_count (layout_of K V E) b p) 0)) ≡ i + 1 = omega (arith, r.1) in
      rw (o.1, node_compared (layout_of K V E) b comparison p o.0) (pair-path r.0 asks)

  -- or it goes on in a child
  search_goes : (m : ℕ) → levels ≡ suc m → StopsAt (λ k. comparison (p, k)) count (Before i)
      → searched (layout_of K V E) b comparison levels p
      ≡ (first_equal comparison (compared_in_child comparison (children_of (layout_of K V E) b m p i)), min (i + 1) count + length (compared_in_child comparison (children_of (layout_of K V E) b m p i)))
  unfolding searched
  search_goes m is stops =
      let at = rw counted at stops in
      let r = row_down comparison p (children_of (layout_of K V E) b m p) i (entry_count (layout_of K V E) b p) 0 (omega arith) (omega (arith, at.0)) (λ x low h. at.1 x h) (λ h. at.2 (omega arith)) in
      let asks : length (compared_in_row comparison (row_of (children_of (layout_of K V E) b m p) p (entry_count (layout_of K V E) b p) 0)) ≡ min (i + 1) (entry_count (layout_of K V E) b p) + length (compared_in_child comparison (children_of (layout_of K V E) b m p i)) = omega (arith, r.1) in
      rw (is, counted, node_compared (layout_of K V E) b comparison p m) (pair-path r.0 asks)

  -- to none
  pub search_ends : child_place (layout_of K V E) b p i ≡ None → StopsAt (λ k. comparison (p, k)) count (Before i) → searched (layout_of K V E) b comparison levels p ≡ (None, min (i + 1) count)
  search_ends none stops =
      let o = tree_levels K V E b levels p tree in
      let e : min (i + 1) count + 0 ≡ min (i + 1) count = omega arith in
      rw none at (search_goes o.0 o.1 stops) ∙ ap (λ n. (None, n)) e

  -- to the one at q
  pub search_down : (m q : ℕ) → levels ≡ suc m → child_place (layout_of K V E) b p i ≡ Some q → StopsAt (λ k. comparison (p, k)) count (Before i)
      → searched (layout_of K V E) b comparison levels p ≡ ((searched (layout_of K V E) b comparison m q).0, min (i + 1) count + (searched (layout_of K V E) b comparison m q).1)
  unfolding searched
  search_down m q is to stops = rw to at (search_goes m is stops)

module _ (K V : Kind) (E : ℕ) (b : List ℕ) (comparison : ℕ × ℕ → Ordering) where
  -- at most as many entries are asked as there is room for on each level
  pub compared_bound : (levels p : ℕ) → TreeStands K V E b levels p → length (compared_entries comparison (tree_at (layout_of K V E) b levels p)) ≤ E * height (tree_at (layout_of K V E) b levels p)
  compared_bound zero p tree = omega arith
  compared_bound (suc m) p tree =
      let o = tree_levels K V E b (suc m) p tree in
      let below : (j : ℕ) → 0 ≤ j → j ≤ 0 + entry_count (layout_of K V E) b p → length (compared_in_child comparison (children_of (layout_of K V E) b m p j)) ≤ E * child_height (children_of (layout_of K V E) b m p j) =
      λ j low high. elim (child_place (layout_of K V E) b p j) as (λ v. child_place (layout_of K V E) b p j ≡ v → length (compared_in_child comparison (child_at (tree_at (layout_of K V E) b m) v)) ≤ E * child_height (child_at (tree_at (layout_of K V E) b m) v)) [
        | None ↦ λ to. omega arith
        | Some q ↦ λ to. compared_bound m q (child_stands K V E b m p tree j q (omega (arith, o.2.count)) to)
      ] refl in
      let r = row_bound comparison p (children_of (layout_of K V E) b m p) E (entry_count (layout_of K V E) b p) 0 below in
      let h = row_height (row_of (children_of (layout_of K V E) b m p) p (entry_count (layout_of K V E) b p) 0) in
      let d : E * (1 + h) ≡ E + E * h = grind arith in
      rw (node_compared (layout_of K V E) b comparison p m, node_height (layout_of K V E) b m p) (omega (arith, r, d, o.2.count))

-- a comparison gives what a search needs of it
pub past_is : (o : Ordering) → (compared_of o).past ≡ true → o ≡ Greater
past_is Less e = cc
past_is Equal e = cc
past_is Greater e = refl

pub equal_is : (o : Ordering) → (compared_of o).equal ≡ true → o ≡ Equal
equal_is Less e = cc
equal_is Equal e = refl
equal_is Greater e = cc

pub less_is : (o : Ordering) → (compared_of o).past ≡ false → (compared_of o).equal ≡ false → o ≡ Less
less_is Less e f = refl
less_is Equal e f = cc
less_is Greater e f = cc

-- the entries of a node stand
pub node_run : (K V : Kind) (E : ℕ) (b : List ℕ) (p : ℕ) → NodeStands K V E b p → RunStands K V E b p 0 (entry_count (layout_of K V E) b p)
node_run K V E b p node j low high = let count = node.count in (node.entries j high, node.leaf_inside, omega arith)

-- a search that begins has asked nothing
pub search_begins : {A : Type 0} (whole : A × ℕ) → ◌≡◌ {A = A × ℕ} whole (whole.0, 0 + whole.1)
search_begins whole = let e : whole.1 ≡ 0 + whole.1 = omega arith in pair-path refl e

-- a search that goes on below finds what is found there, and has asked as many more
pub search_then : {A : Type 0} {whole below : A × ℕ} {found : A} (count more k : ℕ) → whole ≡ (below.0, count + below.1) → below ≡ (found, k) → more ≡ k → ◌≡◌ {A = A × ℕ} (found, count + more) whole
search_then count more k is here same = rw (is, here, same) refl

-- and so where it goes on below that
pub search_on : {A : Type 0} {whole here : A × ℕ} (below : A × ℕ) (count more k : ℕ) → whole ≡ (here.0, count + here.1) → here ≡ (below.0, k + below.1) → more ≡ k → whole ≡ (below.0, count + more + below.1)
search_on below count more k is goes same = let e : count + (k + below.1) ≡ count + k + below.1 = omega arith in rw (is, goes, same, e) refl

-- how many entries a leaf has, and an inner node
pub leaf_counted : {n : ℕ} (s : NodeLayout) (b : List ℕ) (p : ℕ) → is_leaf s b p ≡ true → n ≡ number_at b (p + len_at s) 4 → n ≡ entry_count s b p
leaf_counted s b p e counted = rw e counted

pub inner_counted : {n : ℕ} (s : NodeLayout) (b : List ℕ) (p : ℕ) → is_leaf s b p ≡ false → n ≡ s.E → n ≡ entry_count s b p
inner_counted s b p e counted = rw e counted

-- a leaf has no child
pub leaf_alone : (s : NodeLayout) (b : List ℕ) (p i : ℕ) → is_leaf s b p ≡ true → child_place s b p i ≡ None
leaf_alone s b p i e = rw e refl

-- what was asked on the way down stays within the entries of the levels that were left
pub compared_within : (E a r n m count : ℕ) → a + E * n ≤ E * 32 → n ≡ suc m → r ≤ count → count ≤ E → a + r + E * m ≤ E * 32
compared_within E a r n m count h is low room = let e : E * n ≡ E * m + E = rw is (grind arith) in omega arith
