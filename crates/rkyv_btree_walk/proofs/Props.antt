-- What a walk needs is a fact and no data, so a ghost field can keep it.
use Rattle.std.proofs.Common.{◌≡◌, ℕ, zero, suc, List, [], ◌∷◌, Option, Some, None}
use Rattle.std.proofs.Math.Bool.{Bool-set}
use Rattle.std.specs.Coded.{le_prop, Coded-set, coded_list, coded×, coded_ℕ}
use Rattle.std.specs.Prelude.{ℤ, pos, negsuc}
use mathlib.Core.Logic.{∥∥₁_elim}
use Rattle.rkyv_btree_portable.specs.Kind.{Kind}
use Rattle.rkyv_btree_walk.specs.mirror.Node.{EntryStands, LeadsBefore, NodeStands, TreeStands, RunStands}
use Rattle.rkyv_btree_walk.specs.mirror.Path.{IsPath}

leads_prop : (p : ℕ) (t : Option ℤ) → IsProp (LeadsBefore p t)
leads_prop p None = hlevel
leads_prop p (Some (negsuc n)) = hlevel
leads_prop p (Some (pos q)) = hlevel le_prop

module _ (K V : Kind) (E : ℕ) (b : List ℕ) where
  stands_prop : (e : ℕ × ℕ) → IsProp (EntryStands K V E b e)
  stands_prop e = hlevel Bool-set

  node_prop : (p : ℕ) → IsProp (NodeStands K V E b p)
  node_prop p = hlevel (le_prop, leads_prop, stands_prop)

  tree_prop : (levels p : ℕ) → IsProp (TreeStands K V E b levels p)
  unfolding TreeStands
  tree_prop zero p = hlevel
  tree_prop (suc levels) p = let below = tree_prop levels in hlevel (node_prop, below)

  path_prop : (levels : ℕ) (fs : List (ℕ × ℕ)) → IsProp (IsPath K V E b levels fs)
  path_prop levels [] = hlevel
  path_prop zero (f ∷ fs) = hlevel
  path_prop (suc levels) (f ∷ fs) =
      let rest = path_prop levels fs in
      let tree = tree_prop (suc levels) f.0 in
      hlevel (le_prop, rest, tree, Bool-set)

  run_prop : (p i n : ℕ) → IsProp (RunStands K V E b p i n)
  run_prop p i n = hlevel (le_prop, stands_prop)

  pub run_had : (p i n : ℕ) → ∥ RunStands K V E b p i n ∥₁ → RunStands K V E b p i n
  run_had p i n h = ∥∥₁_elim h (run_prop p i n) (λ r. r)

  pub path_had : (levels : ℕ) (fs : List (ℕ × ℕ)) → ∥ IsPath K V E b levels fs ∥₁ → IsPath K V E b levels fs
  path_had levels fs h = ∥∥₁_elim h (path_prop levels fs) (λ p. p)

-- How a node is reached from a root is data, so of a walk below a root a ghost field keeps only that it is: what is left
-- of it is known all the same.
pub places_had : (xs ys : List (ℕ × ℕ)) → ∥ xs ≡ ys ∥₁ → xs ≡ ys
places_had xs ys h = ∥∥₁_elim h (Coded-set (coded_list (coded× coded_ℕ coded_ℕ)) xs ys) (λ e. e)
