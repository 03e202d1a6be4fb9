-- Paths below a root, as nodes are put on them and taken from them; and what stands below a root that stands.
use Rattle.std.proofs.Common.{◌≡◌, ℕ, zero, suc, ◌+◌, ◌≤◌, ◌<◌, List, [], ◌∷◌, ◌++◌, length, refl, arith, Option, Some, false, IsTrue, inl, inr}
use Rattle.std.proofs.lemmas.Bool.{cases_lt, eq-eqb, ne_eqb}
use Rattle.rkyv_btree_portable.specs.Bytes.{number_at, place_at}
use Rattle.rkyv_btree_portable.specs.Kind.{Kind, IsLawful}
use Rattle.rkyv_btree_format.specs.Layout.{NodeLayout, layout_of}
use Rattle.rkyv_btree_verify.specs.Map.{map_kind}
use Rattle.rkyv_btree_format.specs.Read.{read_map}
use Rattle.rkyv_btree_portable.specs.Views.{stands}
use Rattle.rkyv_btree_verify.proofs.MapLaws.{map_length}
use Rattle.rkyv_btree_walk.specs.Below.{root_place, IsBelow, PathBelow, RunBelow, WalkBelow}
use Rattle.rkyv_btree_walk.specs.Nodes.{natural, is_leaf, child_place}
use Rattle.rkyv_btree_walk.specs.mirror.Node.{TreeStands, RunStands}
use Rattle.rkyv_btree_walk.specs.mirror.Path.{IsPath}
use Rattle.rkyv_btree_walk.proofs.Nodes.{tree_levels, tree_node, child_stands}
use Rattle.rkyv_btree_walk.proofs.Roots.{root_stands}

module _ (s : NodeLayout) (b : List ℕ) (root : Option ℕ) where
  below_snoc : (d k : ℕ) (fs : List (ℕ × ℕ)) (f : ℕ × ℕ) → k ≡ d + length fs → PathBelow s b root d fs → IsBelow s b root k f.0 → is_leaf s b f.0 ≡ false → f.1 ≤ s.E → PathBelow s b root d (fs ++ f ∷ [])
  below_snoc d k [] f is path below inner low = let e : k ≡ d = omega arith in (rw e at below, inner, low, tt)
  below_snoc d k (g ∷ fs) f is path below inner low = (path.0, path.1, path.2, below_snoc (suc d) k fs f (omega arith) path.3 below inner low)

  below_parts : (d k : ℕ) (fs : List (ℕ × ℕ)) (f : ℕ × ℕ) → k ≡ d + length fs → PathBelow s b root d (fs ++ f ∷ []) → PathBelow s b root d fs × IsBelow s b root k f.0 × (is_leaf s b f.0 ≡ false) × (f.1 ≤ s.E)
  below_parts d k [] f is path = let e : k ≡ d = omega arith in (tt, rw e path.0, path.1, path.2)
  below_parts d k (g ∷ fs) f is path = let r = below_parts (suc d) k fs f (omega arith) path.3 in ((path.0, path.1, path.2, r.0), r.1, r.2, r.3)

  module _ (p i : ℕ) (fs all : List (ℕ × ℕ)) (ends : all ≡ fs ++ (p, i) ∷ []) where
    -- with a node put on it a path stays below the root, and there is the child after it
    pub put_below : PathBelow s b root 0 fs → IsBelow s b root (length fs) p → is_leaf s b p ≡ false → i ≤ s.E → length all ≡ length fs + 1
        → PathBelow s b root 0 all × ((q : ℕ) → child_place s b p i ≡ Some q → IsBelow s b root (length all) q)
    put_below path below inner low len = (
      rw ends (below_snoc 0 (length fs) fs (p, i) (omega arith) path below inner low),
      λ q to. let e : length all ≡ suc (length fs) = omega arith in rw e (p, i, below, low, to),
    )

    -- and so are the path and the node that is taken from it
    pub pop_below : PathBelow s b root 0 all → PathBelow s b root 0 fs × IsBelow s b root (length fs) p × (is_leaf s b p ≡ false) × (i ≤ s.E)
    pop_below path = below_parts 0 (length fs) fs (p, i) (omega arith) (rw ends at path)

  -- each run of entries of an inner node below the root is below it
  pub run_inner : (d p i n : ℕ) → IsBelow s b root d p → is_leaf s b p ≡ false → n ≤ s.E → RunBelow s b root p i n
  run_inner d p i n below inner low less = (d, below, rw inner low)

  -- of a run below the root its later part is, and its earlier one
  pub run_within : (p i n j m : ℕ) → i ≤ j → m ≤ n → RunBelow s b root p i n → RunBelow s b root p j m
  run_within p i n j m later earlier run less = let r = run (omega arith) in (r.0, r.1, omega (arith, r.2))

-- below the root of a tree of n levels that stands, if there is a root
module _ (K V : Kind) (E : ℕ) (b : List ℕ) (root : Option ℕ) (n : ℕ) (rooted : (q : ℕ) → root ≡ Some q → TreeStands K V E b n q) where
  -- there are trees of fewer levels
  pub below_stands : (d q : ℕ) → IsBelow (layout_of K V E) b root d q → (m : ℕ) × (d + suc m ≡ n) × TreeStands K V E b (suc m) q
  below_stands zero q is =
      let tree = rooted q is in
      let o = tree_levels K V E b n q tree in
      (o.0, omega (arith, o.1), rw o.1 at tree)
  below_stands (suc d) q below =
      let r = below_stands d below.0 below.2 in
      let tree = child_stands K V E b r.0 below.0 r.2 below.1 q below.3 below.4 in
      let o = tree_levels K V E b r.0 q tree in
      (o.0, omega (arith, r.1, o.1), rw o.1 at tree)

  -- and runs of entries
  pub run_stands : (p i n : ℕ) → RunBelow (layout_of K V E) b root p i n → RunStands K V E b p i n
  run_stands p i n run j low high =
      let r = run (omega arith) in
      let s = below_stands r.0 p r.1 in
      let node = tree_node K V E b (suc s.0) p s.2 in
      let count = node.count in
      (node.entries j (omega (arith, r.2)), node.leaf_inside, omega (arith, r.2))

  -- and paths of nodes
  pub path_stands : (d m : ℕ) (fs : List (ℕ × ℕ)) → d + m ≡ n → PathBelow (layout_of K V E) b root d fs → IsPath K V E b m fs
  path_stands d m [] is path = tt
  path_stands d zero (f ∷ fs) is path = let r = below_stands d f.0 path.0 in absurd (omega (arith, r.1))
  path_stands d (suc m) (f ∷ fs) is path =
      let r = below_stands d f.0 path.0 in
      let e : r.0 ≡ m = omega (arith, r.1) in
      (rw e at r.2, path.1, path.2, path_stands (suc d) m fs (omega arith) path.3)

-- below the root of a map that stands
module _ (K V : Kind) (E : ℕ) (k : IsLawful K) (v : IsLawful V) (b : List ℕ) (at : ℕ) (h : IsTrue (stands (map_kind K V E) b at)) where
  -- there is a tree of 32 levels, if there is a root
  pub place_stands : (q : ℕ) → root_place b at ≡ Some q → TreeStands K V E b 32 q
  place_stands q is =
      let counted = map_length K V E k v b at h in
      elim (cases_lt 0 (number_at b (at + 4) 4)) [
        | inl some ↦ root_stands K V E k v b at h (omega (arith, counted)) q (rw (ne_eqb (number_at b (at + 4) 4) 0 (omega arith)) at is)
        | inr none ↦ absurd (cc (rw (eq-eqb (number_at b (at + 4) 4) 0 (omega arith)) at is))
      ]

  -- which a map with entries has
  pub root_placed : 0 < length (read_map K V E b at) → (q : ℕ) → natural (Some (place_at b at)) ≡ Some q → root_place b at ≡ Some q
  root_placed some q to =
      let counted = map_length K V E k v b at h in
      rw (ne_eqb (number_at b (at + 4) 4) 0 (omega arith)) to

  module _ (p i n : ℕ) (fs : List (ℕ × ℕ)) (walk : WalkBelow (layout_of K V E) b (root_place b at) p i n fs) where
    -- the path of a walk is one of nodes that stand
    pub walk_path : IsPath K V E b 32 fs
    walk_path = path_stands K V E b (root_place b at) 32 place_stands 0 32 fs refl walk.1

    -- and so do the entries of its leaf
    pub walk_run : RunStands K V E b p i n
    walk_run = run_stands K V E b (root_place b at) 32 place_stands p i n walk.0
