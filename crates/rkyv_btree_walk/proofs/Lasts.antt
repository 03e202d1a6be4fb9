-- The last entry of a tree is that of the last child of its node, or else the node's own.
use Rattle.std.proofs.Common.{◌≡◌, ℕ, zero, suc, ◌+◌, ◌-◌, ◌<◌, List, [], ◌∷◌, ◌++◌, refl, sym, ap, ◌∙◌, arith, Option, Some, None}
use Rattle.std.proofs.lemmas.List.{append-nil}
use Rattle.std.specs.List.{last_or}
use Rattle.rkyv_btree_format.specs.Layout.{NodeLayout}
use Rattle.rkyv_btree_format.specs.Read.{tree_at}
use Rattle.rkyv_btree_shape.specs.Tree.{list}
use Rattle.rkyv_btree_walk.specs.Nodes.{entry_count, child_place}
use Rattle.rkyv_btree_walk.specs.Paths.{node_rest, child_list}
use Rattle.rkyv_btree_walk.specs.mirror.Path.{tree_rest}
use Rattle.rkyv_btree_walk.proofs.Paths.{rest_end, rest_more, tree_from}

last_append : {A : Type 0} (o : Option A) (xs ys : List A) → last_or o (xs ++ ys) ≡ last_or (last_or o xs) ys
last_append o [] ys = refl
last_append o (x ∷ xs) ys = last_append (Some x) xs ys

module _ (s : NodeLayout) (b : List ℕ) (m p : ℕ) where
  past_entry : (o : Option (ℕ × ℕ)) (i : ℕ) → i < entry_count s b p → last_or o (tree_rest s b (suc m) p i) ≡ last_or (Some (p, i)) (tree_rest s b (suc m) p (i + 1))
  unfolding tree_rest
  past_entry o i less =
      ap (λ xs. last_or o (child_list s b m (child_place s b p i) ++ xs)) (rest_more s b m p i less)
      ∙ last_append o (child_list s b m (child_place s b p i)) _

  past_all : (d : ℕ) (o : Option (ℕ × ℕ)) (i : ℕ) → i + suc d ≡ entry_count s b p → last_or o (tree_rest s b (suc m) p i) ≡ last_or (Some (p, entry_count s b p - 1)) (tree_rest s b (suc m) p (entry_count s b p))
  past_all zero o i is =
      let here : entry_count s b p - 1 ≡ i = omega arith in
      let next : entry_count s b p ≡ i + 1 = omega arith in
      past_entry o i (omega arith) ∙ rw (here, next) refl
  past_all (suc d) o i is = past_entry o i (omega arith) ∙ past_all d (Some (p, i)) (i + 1) (omega arith)

  at_end : tree_rest s b (suc m) p (entry_count s b p) ≡ child_list s b m (child_place s b p (entry_count s b p))
  unfolding tree_rest
  at_end = ap (λ xs. child_list s b m (child_place s b p (entry_count s b p)) ++ xs) (rest_end s b m p (entry_count s b p) (omega arith)) ∙ append-nil _

  -- past the entries of a node is its last child
  pub last_in_child : (o : Option (ℕ × ℕ)) → 0 < entry_count s b p → last_or o (tree_rest s b (suc m) p 0) ≡ last_or (Some (p, entry_count s b p - 1)) (child_list s b m (child_place s b p (entry_count s b p)))
  last_in_child o some = past_all (entry_count s b p - 1) o 0 (omega arith) ∙ ap (last_or (Some (p, entry_count s b p - 1))) at_end

-- a node without entries and children has no last one
pub last_of_none : (s : NodeLayout) (b : List ℕ) (levels m p : ℕ) (o : Option (ℕ × ℕ)) → levels ≡ suc m → entry_count s b p ≡ 0 → child_place s b p 0 ≡ None → last_or o (tree_rest s b levels p 0) ≡ o
unfolding tree_rest
last_of_none s b levels m p o is none no_child = rw (is, no_child, rest_end s b m p 0 (omega arith)) refl

-- one without a child after its entries has its own last one
pub last_here : (s : NodeLayout) (b : List ℕ) (levels m p count : ℕ) (o : Option (ℕ × ℕ)) → levels ≡ suc m → count ≡ entry_count s b p → 0 < count → child_place s b p count ≡ None
    → last_or o (tree_rest s b levels p 0) ≡ Some (p, count - 1)
last_here s b levels m p count o is counted some none =
    let n = entry_count s b p in
    rw (is, counted) (last_in_child s b m p o (omega arith) ∙ ap (λ c. last_or (Some (p, n - 1)) (child_list s b m c)) (rw counted at none))

-- and one with such a child has the child's
pub last_below : (s : NodeLayout) (b : List ℕ) (levels m k p count q : ℕ) (o : Option (ℕ × ℕ)) → levels ≡ suc m → m ≡ suc k → count ≡ entry_count s b p → 0 < count → child_place s b p count ≡ Some q
    → last_or o (tree_rest s b levels p 0) ≡ last_or (Some (p, count - 1)) (tree_rest s b m q 0)
last_below s b levels m k p count q o is more counted some to =
    let n = entry_count s b p in
    let whole : list (tree_at s b m q) ≡ tree_rest s b m q 0 = rw more (tree_from s b k q) in
    rw (is, counted) (last_in_child s b m p o (omega arith) ∙ (ap (λ c. last_or (Some (p, n - 1)) (child_list s b m c)) (rw counted at to) ∙ ap (last_or (Some (p, n - 1))) whole))
