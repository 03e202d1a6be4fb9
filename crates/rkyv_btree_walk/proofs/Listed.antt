-- The entries of a node and of its children are those of its tree. These speak of what is left from its
-- first child on: the list of a tree of 32 levels would unfold, level by level, in each goal that names it.
use Rattle.std.proofs.Common.{◌≡◌, ℕ, zero, suc, ◌+◌, ◌≤◌, ◌<◌, List, [], ◌∷◌, ◌++◌, refl, sym, subst, arith, Some}
use Rattle.rkyv_btree_format.specs.Layout.{NodeLayout}
use Rattle.rkyv_btree_format.specs.Read.{tree_at}
use Rattle.rkyv_btree_shape.specs.Tree.{list}
use Rattle.rkyv_btree_walk.specs.Nodes.{entry_count, child_place}
use Rattle.rkyv_btree_walk.specs.Paths.{node_rest, child_list}
use Rattle.rkyv_btree_walk.specs.mirror.Path.{tree_rest}
use Rattle.rkyv_btree_walk.specs.mirror.Search.{IsListed}
use Rattle.rkyv_btree_walk.proofs.Paths.{rest_more, tree_from}

listed_left : {X : Type 0} (x : X) (xs ys : List X) → IsListed x xs → IsListed x (xs ++ ys)
listed_left x [] ys h = absurd (cc h.1)
listed_left x (y ∷ xs) ys (zero, e) = (zero, e)
listed_left x (y ∷ xs) ys (suc i, e) = let r = listed_left x xs ys (i, e) in (suc r.0, r.1)

listed_right : {X : Type 0} (x : X) (xs ys : List X) → IsListed x ys → IsListed x (xs ++ ys)
listed_right x [] ys h = h
listed_right x (y ∷ xs) ys h = let r = listed_right x xs ys h in (suc r.0, r.1)

-- an entry of what is left of a whole tree is in its list
rest_listed : (s : NodeLayout) (b : List ℕ) (levels p : ℕ) (e : ℕ × ℕ) → IsListed e (tree_rest s b levels p 0) → IsListed e (list (tree_at s b levels p))
unfolding tree_rest
rest_listed s b zero p e h = h
rest_listed s b (suc m) p e h = subst (IsListed e) (sym (tree_from s b m p)) h

module _ (s : NodeLayout) (b : List ℕ) (m p : ℕ) (e : ℕ × ℕ) where
  -- what is left from an entry on is left from the child before it on, and the child is too
  behind_child : (i : ℕ) → IsListed e (node_rest s b m p i) → IsListed e (tree_rest s b (suc m) p i)
  unfolding tree_rest
  behind_child i h = listed_right e (child_list s b m (child_place s b p i)) (node_rest s b m p i) h

  in_child : (i q : ℕ) → child_place s b p i ≡ Some q → IsListed e (tree_rest s b m q 0) → IsListed e (tree_rest s b (suc m) p i)
  unfolding tree_rest
  in_child i q to h = rw to (listed_left e (list (tree_at s b m q)) (node_rest s b m p i) (rest_listed s b m q e h))

  -- so is what is left from any child on
  from_child : (i : ℕ) → i ≤ entry_count s b p → IsListed e (tree_rest s b (suc m) p i) → IsListed e (tree_rest s b (suc m) p 0)
  from_child zero le h = h
  from_child (suc i) le h =
      let more : IsListed e ((p, i) ∷ tree_rest s b (suc m) p (i + 1)) = listed_right e ((p, i) ∷ []) _ (subst (λ n. IsListed e (tree_rest s b (suc m) p n)) (omega arith) h) in
      from_child i (omega arith) (behind_child i (subst (IsListed e) (sym (rest_more s b m p i (omega arith))) more))

  pub child_listed : (levels i q : ℕ) → levels ≡ suc m → i ≤ entry_count s b p → child_place s b p i ≡ Some q → IsListed e (tree_rest s b m q 0) → IsListed e (tree_rest s b levels p 0)
  child_listed levels i q is le to h = rw is (from_child i le (in_child i q to h))

pub entry_listed : (s : NodeLayout) (b : List ℕ) (levels m p i : ℕ) → levels ≡ suc m → i < entry_count s b p → IsListed (p, i) (tree_rest s b levels p 0)
entry_listed s b levels m p i is less = rw is (from_child s b m p (p, i) i (omega arith) (behind_child s b m p (p, i) i (subst (IsListed (p, i)) (sym (rest_more s b m p i less)) (0, refl))))
