-- Where what is left of a walk is good, so was what was left before a step, up to the whole map.
use Rattle.std.proofs.Common.{◌≡◌, ℕ, zero, suc, ◌+◌, ◌-◌, ◌≤◌, ◌<◌, List, [], ◌∷◌, ◌++◌, length, refl, sym, subst, arith, Some, None, Ok, Err, inl, inr}
use Rattle.std.proofs.lemmas.Bool.{cases_eq}
use Rattle.rkyv_btree_portable.specs.Kind.{Kind}
use Rattle.rkyv_btree_verify.specs.Refusals.{HasKind, IsInner}
use Rattle.rkyv_btree_unverified.proofs.Exact.{one_node, one_pointer, one_head}
use Rattle.rkyv_btree_unverified.specs.Steps.{NodeGives, inner, ChildGives, of_leaf, HeadGives}
use Rattle.rkyv_btree_unverified.specs.Walks.{IsReached, as_root, as_child, IsFaultless}
use Rattle.rkyv_btree_unverified.specs.mirror.Faultless.{FaultlessChild, FaultlessNode, FaultlessFrom, FaultlessTree, FaultlessMap, FaultlessPath, FaultlessEnd, FaultlessPending}
use Rattle.rkyv_btree_unverified.specs.mirror.Walked.{chain_before}
use Rattle.rkyv_btree_walk.specs.mirror.Node.{EntryStands}

module _ (K V : Kind) (E : ℕ) (b : List ℕ) where
  -- a map with no root is good, or one whose tree is
  pub no_root : (at : ℕ) → HeadGives K V E b at (Ok None) → FaultlessMap K V E b at
  no_root at gives = record {
    own_bytes = λ r bad. cc (one_head K V E b at (Ok None) (Err r) gives bad);
    root = λ q leads. cc (one_head K V E b at (Ok None) (Ok (Some q)) gives leads);
  }

  pub some_root : (at p : ℕ) → HeadGives K V E b at (Ok (Some p)) → FaultlessTree K V E b 32 at p → FaultlessMap K V E b at
  some_root at p gives tree = record {
    own_bytes = λ r bad. cc (one_head K V E b at (Ok (Some p)) (Err r) gives bad);
    root = λ q leads. let same : p ≡ q = cc (one_head K V E b at (Ok (Some p)) (Ok (Some q)) gives leads) in subst (λ x. FaultlessTree K V E b 32 at x) same tree;
  }

  module _ (Below : ℕ → ℕ → Type 0) (hi p : ℕ) where
    -- so it is of a pointer
    pub no_child : (i : ℕ) → ChildGives K V E b hi p i (Ok None) → FaultlessChild K V E b Below hi p i
    no_child i gives = record {
      pointer = λ r bad. cc (one_pointer K V E b hi p i (Ok None) (Err r) gives bad);
      below = λ q leads. cc (one_pointer K V E b hi p i (Ok None) (Ok (Some q)) gives leads);
    }

    pub some_child : (i q : ℕ) → ChildGives K V E b hi p i (Ok (Some q)) → Below p q → FaultlessChild K V E b Below hi p i
    some_child i q gives below = record {
      pointer = λ r bad. cc (one_pointer K V E b hi p i (Ok (Some q)) (Err r) gives bad);
      below = λ x leads. let same : q ≡ x = cc (one_pointer K V E b hi p i (Ok (Some q)) (Ok (Some x)) gives leads) in subst (λ y. Below p y) same below;
    }

    -- an entry of an inner node is good, and the pointer after it
    pub from_next : (i : ℕ) → EntryStands K V E b (p, i) → FaultlessChild K V E b Below hi p (i + 1) → FaultlessFrom K V E b Below hi p (i + 1) → FaultlessFrom K V E b Below hi p i
    from_next i stands child from = record {
      entries = λ j le low. elim (cases_eq j i) [
        | inl e ↦ subst (λ k. EntryStands K V E b (p, k)) (sym e) stands
        | inr e ↦ from.entries j (omega (arith, le, e)) low
      ];
      children = λ j more low. elim (cases_eq j (i + 1)) [
        | inl e ↦ subst (λ k. FaultlessChild K V E b Below hi p k) (sym e) child
        | inr e ↦ from.children j (omega (arith, more, e)) low
      ];
    }

    -- none is left of it
    pub from_end : (i : ℕ) → E ≤ i → FaultlessFrom K V E b Below hi p i
    from_end i high = record { entries = λ j le low. absurd (omega (arith, high, le, low)); children = λ j more low. absurd (omega (arith, high, more, low)) }

    -- a leaf is good where its entries are
    leaf_node : (n : ℕ) → NodeGives K V E b hi p (Ok n) → HasKind K V E b 0 hi p 0 → ((i : ℕ) → i < n → EntryStands K V E b (p, i)) → FaultlessNode K V E b Below hi p
    leaf_node n gives is entries = record {
      node = λ r bad. cc (one_node K V E b hi p (Ok n) (Err r) gives bad);
      entries = λ k i other low. let same : n ≡ k = cc (one_node K V E b hi p (Ok n) (Ok k) gives other) in entries i (omega (arith, same, low));
      children = λ i le. no_child i (of_leaf is);
    }

    -- and an inner node where its first pointer is, and all after it
    inner_node : IsInner K V E b 0 hi p → FaultlessChild K V E b Below hi p 0 → FaultlessFrom K V E b Below hi p 0 → FaultlessNode K V E b Below hi p
    inner_node is child from = record {
      node = λ r bad. cc (one_node K V E b hi p (Ok E) (Err r) (inner is) bad);
      entries = λ n i other low. let same : E ≡ n = cc (one_node K V E b hi p (Ok E) (Ok n) (inner is) other) in from.entries i (omega arith) (omega (arith, same, low));
      children = λ i le. elim (cases_eq i 0) [
        | inl e ↦ subst (λ k. FaultlessChild K V E b Below hi p k) (sym e) child
        | inr e ↦ from.children i (omega (arith, e)) le
      ];
    }

  tree_of : (levels hi p : ℕ) → FaultlessNode K V E b (FaultlessTree K V E b levels) hi p → FaultlessTree K V E b (suc levels) hi p
  unfolding FaultlessTree
  tree_of levels hi p node = node

  pub leaf_tree : (levels hi p n : ℕ) → NodeGives K V E b hi p (Ok n) → HasKind K V E b 0 hi p 0 → ((i : ℕ) → i < n → EntryStands K V E b (p, i)) → FaultlessTree K V E b (suc levels) hi p
  leaf_tree levels hi p n gives is entries = tree_of levels hi p (leaf_node (FaultlessTree K V E b levels) hi p n gives is entries)

  pub inner_tree : (levels hi p : ℕ) → IsInner K V E b 0 hi p → FaultlessChild K V E b (FaultlessTree K V E b levels) hi p 0 → FaultlessFrom K V E b (FaultlessTree K V E b levels) hi p 0 → FaultlessTree K V E b (suc levels) hi p
  inner_tree levels hi p is child from = tree_of levels hi p (inner_node (FaultlessTree K V E b levels) hi p is child from)

  -- a good tree has a level
  tree_node : (n hi p : ℕ) → FaultlessTree K V E b n hi p → (m : ℕ) × (n ≡ suc m) × FaultlessNode K V E b (FaultlessTree K V E b m) hi p
  unfolding FaultlessTree
  tree_node zero hi p tree = absurd tree
  tree_node (suc m) hi p tree = (m, refl, tree)

  -- a node is put on a path
  module _ (m p i : ℕ) where
    path_put : (levels hi : ℕ) (fs : List (ℕ × ℕ)) → levels ≡ length fs + suc m → FaultlessPath K V E b levels hi fs → FaultlessFrom K V E b (FaultlessTree K V E b m) (chain_before hi fs) p i → FaultlessPath K V E b levels hi (fs ++ (p, i) ∷ [])
    path_put zero hi fs is path from = absurd (omega (arith, is))
    path_put (suc levels) hi [] is path from = let e : levels ≡ m = omega (arith, is) in rw e (from, tt)
    path_put (suc levels) hi (f ∷ fs) is path from = (path.0, path_put levels f.0 fs (omega (arith, is)) path.1 from)

    path_parts : (levels hi : ℕ) (fs : List (ℕ × ℕ)) → levels ≡ length fs + suc m → FaultlessPath K V E b levels hi (fs ++ (p, i) ∷ []) → FaultlessPath K V E b levels hi fs × FaultlessFrom K V E b (FaultlessTree K V E b m) (chain_before hi fs) p i
    path_parts zero hi fs is path = absurd (omega (arith, is))
    path_parts (suc levels) hi [] is path = let e : levels ≡ m = omega (arith, is) in (tt, rw e at path.0)
    path_parts (suc levels) hi (f ∷ fs) is path = let r = path_parts levels f.0 fs (omega (arith, is)) path.1 in ((path.0, r.0), r.1)

    end_put : (Start : Type 0) (levels hi : ℕ) (fs : List (ℕ × ℕ)) → levels ≡ length fs + suc m → FaultlessChild K V E b (FaultlessTree K V E b m) (chain_before hi fs) p i → FaultlessEnd K V E b Start levels hi (fs ++ (p, i) ∷ [])
    end_put Start zero hi fs is child = absurd (omega (arith, is))
    end_put Start (suc levels) hi [] is child = let e : levels ≡ m = omega (arith, is) in rw e child
    end_put Start (suc levels) hi (f ∷ fs) is child = end_put (FaultlessChild K V E b (FaultlessTree K V E b levels) hi f.0 f.1) levels f.0 fs (omega (arith, is)) child

    end_child : (Start : Type 0) (levels hi : ℕ) (fs : List (ℕ × ℕ)) → levels ≡ length fs + suc m → FaultlessEnd K V E b Start levels hi (fs ++ (p, i) ∷ []) → FaultlessChild K V E b (FaultlessTree K V E b m) (chain_before hi fs) p i
    end_child Start zero hi fs is end = absurd (omega (arith, is))
    end_child Start (suc levels) hi [] is end = let e : levels ≡ m = omega (arith, is) in rw e at end
    end_child Start (suc levels) hi (f ∷ fs) is end = end_child (FaultlessChild K V E b (FaultlessTree K V E b levels) hi f.0 f.1) levels f.0 fs (omega (arith, is)) end

  module _ (at : ℕ) (fs all : List (ℕ × ℕ)) (p i : ℕ) (ends : all ≡ fs ++ (p, i) ∷ []) (short : length fs < 32) where
    -- what is left of the last node of a path, and where the path leads
    abbrev pub LastFrom : Type 0
    LastFrom = FaultlessFrom K V E b (FaultlessTree K V E b (31 - length fs)) (chain_before at fs) p i

    abbrev pub LastChild : Type 0
    LastChild = FaultlessChild K V E b (FaultlessTree K V E b (31 - length fs)) (chain_before at fs) p i

    pub path_with : FaultlessPath K V E b 32 at fs → LastFrom → FaultlessPath K V E b 32 at all
    path_with path from = rw ends (path_put (31 - length fs) p i 32 at fs (omega (arith, short)) path from)

    pub path_without : FaultlessPath K V E b 32 at all → FaultlessPath K V E b 32 at fs × LastFrom
    path_without path = path_parts (31 - length fs) p i 32 at fs (omega (arith, short)) (rw ends at path)

    pub pending_from : LastChild → FaultlessPending K V E b at all
    pending_from child = rw ends (end_put (31 - length fs) p i (FaultlessMap K V E b at) 32 at fs (omega (arith, short)) child)

    pub pending_child : FaultlessPending K V E b at all → LastChild
    pending_child pending = end_child (31 - length fs) p i (FaultlessMap K V E b at) 32 at fs (omega (arith, short)) (rw ends at pending)

  -- all that is reached from a good map is good
  module _ (at : ℕ) (good : FaultlessMap K V E b at) where
    reached_tree : {levels hi p : ℕ} → IsReached K V E b at levels hi p → FaultlessTree K V E b (32 - levels) hi p
    reached_tree (as_root gives) = good.root _ gives
    reached_tree (as_child {levels = levels} {hi = hi} {p = p} {i = i} {q = q} above low gives) =
        let here = tree_node (32 - levels) hi p (reached_tree above) in
        let same : here.0 ≡ 32 - suc levels = omega (arith, here.1) in
        subst (λ n. FaultlessTree K V E b n p q) same ((here.2.children i low).below q gives)

    pub all_faultless : IsFaultless K V E b at
    all_faultless = record {
      own_bytes = good.own_bytes;
      levels = λ {levels} {hi} {p} is. let here = tree_node (32 - levels) hi p (reached_tree is) in omega (arith, here.1);
      nodes = λ {levels} {hi} {p} is. (tree_node (32 - levels) hi p (reached_tree is)).2.node;
      pointers = λ {levels} {hi} {p} {i} is low. ((tree_node (32 - levels) hi p (reached_tree is)).2.children i low).pointer;
      keys = λ {e} is. ((tree_node (32 - is.levels) is.hi e.0 (reached_tree is.reached)).2.entries is.count e.1 is.counted is.within).key;
      values = λ {e} is. ((tree_node (32 - is.levels) is.hi e.0 (reached_tree is.reached)).2.entries is.count e.1 is.counted is.within).value;
    }
