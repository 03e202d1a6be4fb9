-- In an accepted map the nodes of a path stand, and what is left of the path is known.
use Rattle.std.proofs.Common.{◌≡◌, ℕ, zero, suc, ◌+◌, ◌-◌, ◌≤◌, ◌<◌, List, [], ◌∷◌, ◌++◌, length, length-append, append-nil, append_assoc, refl, sym, ap, ◌∙◌, subst, arith, Option, Some, IsTrue, true, false, inl, inr}
use Rattle.std.proofs.lemmas.Bool.{cases_eq, eq-eqb, ne_eqb}
use Rattle.std.specs.Prelude.{ℤ, pos, negsuc}
use Rattle.rkyv_btree_verify.proofs.MapLaws.{map_laws}
use Rattle.rkyv_btree_portable.specs.Bytes.{number_at, place_at}
use Rattle.rkyv_btree_portable.specs.Kind.{Kind, IsLawful}
use Rattle.rkyv_btree_format.specs.Layout.{NodeLayout, layout_of, are_fitting, inner_size, len_at}
use Rattle.rkyv_btree_format.specs.Read.{run, tree_at, tree_of, map_tree, read_map}
use Rattle.rkyv_btree_shape.specs.Tree.{list}
use Rattle.rkyv_btree_unverified.proofs.Chains.{all_end, is_inner, natural_is, some_is, way_parts}
use Rattle.rkyv_btree_unverified.proofs.Passes.{accepted_passes, child_passes, none_left}
use Rattle.rkyv_btree_unverified.specs.mirror.Passes.{Passes}
use Rattle.rkyv_btree_unverified.specs.mirror.Walked.{IsChain, IsWay, chain_before, chain_end, down_rest}
use Rattle.rkyv_btree_view.specs.Map.{IsMap}
use Rattle.rkyv_btree_walk.proofs.Paths.{rest_snoc, rest_end, rest_more, tree_from, leaf_list}
use Rattle.rkyv_btree_walk.specs.Below.{root_place}
use Rattle.rkyv_btree_walk.specs.Nodes.{natural, is_leaf, child_place}
use Rattle.rkyv_btree_walk.specs.Paths.{child_list, node_rest, path_rest, walk_rest}
use Rattle.rkyv_btree_walk.specs.mirror.Path.{tree_rest, IsPath}

-- what is left once a node is put on a path, which may lead further down
module _ (s : NodeLayout) (b : List ℕ) (at : ℕ) (fs : List (ℕ × ℕ)) (short : length fs < 32) where
  tree_splits : (m p i : ℕ) → tree_rest s b (suc m) p i ≡ child_list s b m (child_place s b p i) ++ node_rest s b m p i
  unfolding tree_rest
  tree_splits m p i = refl

  rest_put : (p i : ℕ) → down_rest s b at (fs ++ (p, i) ∷ []) ≡ tree_rest s b (32 - length fs) p i ++ path_rest s b 32 fs
  rest_put p i =
      let levels : 32 - length fs ≡ suc (31 - length fs) = omega arith in
      let below : 32 - length (fs ++ (p, i) ∷ []) ≡ 31 - length fs = omega (arith, length-append fs ((p, i) ∷ [])) in
      rw (below, all_end s b at fs p i (fs ++ (p, i) ∷ []) refl, rest_snoc s b (31 - length fs) 32 fs (p, i) (omega arith), levels, tree_splits (31 - length fs) p i)
      (sym (append_assoc (child_list s b (31 - length fs) (child_place s b p i)) (node_rest s b (31 - length fs) p i) (path_rest s b 32 fs)))

  pub rest_at : (p : ℕ) → chain_end s b (root_place b at) fs ≡ Some p → down_rest s b at fs ≡ tree_rest s b (32 - length fs) p 0 ++ path_rest s b 32 fs
  rest_at p leads =
      let levels : 32 - length fs ≡ suc (31 - length fs) = omega arith in
      rw (leads, levels) (ap (λ xs. xs ++ path_rest s b 32 fs) (tree_from s b (31 - length fs) p))

  -- an inner node is read
  pub enter_rest : (p : ℕ) → chain_end s b (root_place b at) fs ≡ Some p → down_rest s b at (fs ++ (p, 0) ∷ []) ≡ down_rest s b at fs
  enter_rest p leads = rest_put p 0 ∙ sym (rest_at p leads)

  -- all entries of a leaf are left, and then the path
  pub leaf_rest_is : (p n : ℕ) → chain_end s b (root_place b at) fs ≡ Some p → is_leaf s b p ≡ true → n ≡ number_at b (p + len_at s) 4 → walk_rest s b p 0 n fs ≡ down_rest s b at fs
  leaf_rest_is p n leads leaf count =
      let levels : 32 - length fs ≡ suc (31 - length fs) = omega arith in
      let here : tree_rest s b (32 - length fs) p 0 ≡ run s b p (number_at b (p + len_at s) 4 - 0) 0 = rw levels (leaf_list s b (31 - length fs) p leaf) in
      rw count (ap (λ xs. xs ++ path_rest s b 32 fs) (sym here)) ∙ sym (rest_at p leads)

  module _ (all : List (ℕ × ℕ)) (p i : ℕ) (ends : all ≡ fs ++ (p, i) ∷ []) (inner : is_leaf s b p ≡ false) where
    last_rest : path_rest s b 32 all ≡ node_rest s b (31 - length fs) p i ++ path_rest s b 32 fs
    last_rest = ap (path_rest s b 32) ends ∙ rest_snoc s b (31 - length fs) 32 fs (p, i) (omega arith)

    -- an entry of the path's last node is taken
    pub take_rest : i < s.E → path_rest s b 32 all ≡ (p, i) ∷ down_rest s b at (fs ++ (p, i + 1) ∷ [])
    take_rest low =
        let levels : 32 - length fs ≡ suc (31 - length fs) = omega arith in
        let after : down_rest s b at (fs ++ (p, i + 1) ∷ []) ≡ tree_rest s b (suc (31 - length fs)) p (i + 1) ++ path_rest s b 32 fs = subst (λ n. down_rest s b at (fs ++ (p, i + 1) ∷ []) ≡ tree_rest s b n p (i + 1) ++ path_rest s b 32 fs) levels (rest_put p (i + 1)) in
        last_rest ∙ ap (λ xs. xs ++ path_rest s b 32 fs) (rest_more s b (31 - length fs) p i (rw inner low)) ∙ ap (λ xs. (p, i) ∷ xs) (sym after)

    -- the node is left
    pub leave_rest : s.E ≤ i → path_rest s b 32 all ≡ path_rest s b 32 fs
    leave_rest high = last_rest ∙ ap (λ xs. xs ++ path_rest s b 32 fs) (rest_end s b (31 - length fs) p i (rw inner high))

module _ (K V : Kind) (E : ℕ) (b : List ℕ) where
  chain_passes : (levels hi : ℕ) (to : Option ℕ) (fs : List (ℕ × ℕ)) → ((q : ℕ) → to ≡ Some q → Passes K V E b levels hi q) → IsChain (layout_of K V E) b hi to fs
      → IsPath K V E b levels fs × ((q : ℕ) → chain_end (layout_of K V E) b to fs ≡ Some q → Passes K V E b (levels - length fs) (chain_before hi fs) q)
  chain_passes levels hi to [] from c = let same : levels ≡ levels - 0 = omega arith in (tt, λ q e. subst (λ n. Passes K V E b n hi q) same (from q e))
  chain_passes zero hi to (f ∷ fs) from c = absurd (none_left K V E b 0 hi f.0 refl (from f.0 c.0))
  chain_passes (suc m) hi to (f ∷ fs) from c =
      let h = from f.0 c.0 in
      let r = chain_passes m f.0 (child_place (layout_of K V E) b f.0 f.1) fs (λ q e. child_passes K V E b m hi f.0 f.1 q h c.2 e) c.3 in
      let same : m - length fs ≡ suc m - suc (length fs) = omega arith in
      ((h.stands, is_inner (layout_of K V E) b hi f.0 (inner_size (layout_of K V E)) c.1, c.2, r.0), λ q e. subst (λ n. Passes K V E b n (chain_before f.0 fs) q) same (r.1 q e))

  module _ (k : IsLawful K) (v : IsLawful V) (fits : IsTrue (are_fitting K V E)) (at : ℕ) (m : List (K.Value × V.Value)) (map : IsMap K V E b at m) where
    root_passes : (q : ℕ) → root_place b at ≡ Some q → Passes K V E b 32 at q
    root_passes q to =
        elim (cases_eq (number_at b (at + 4) 4) 0) [
          | inl e ↦ absurd (cc (rw (eq-eqb (number_at b (at + 4) 4) 0 e) at to))
          | inr e ↦
              let leads : place_at b at ≡ pos q = some_is _ _ (natural_is (Some (place_at b at)) q (rw (ne_eqb (number_at b (at + 4) 4) 0 e) at to)) in
              accepted_passes K V E b k v fits at map.0 q m map.1 e leads
        ]

    module _ (fs : List (ℕ × ℕ)) (way : IsWay (layout_of K V E) b at fs) where
      pub passes : IsPath K V E b 32 fs × ((q : ℕ) → chain_end (layout_of K V E) b (root_place b at) fs ≡ Some q → Passes K V E b (32 - length fs) (chain_before at fs) q)
      passes = chain_passes 32 at (root_place b at) fs root_passes way.chain

      -- the node to which a path leads passes
      pub end_passes : (q : ℕ) → chain_end (layout_of K V E) b (root_place b at) fs ≡ Some q → Passes K V E b (32 - length fs) (chain_before at fs) q
      end_passes = passes.1

      -- so it has a level
      pub end_short : (q : ℕ) → chain_end (layout_of K V E) b (root_place b at) fs ≡ Some q → length fs < 32
      end_short q leads = some_level (32 - length fs) refl
        where
          some_level : (n : ℕ) → 32 - length fs ≡ n → length fs < 32
          some_level zero e = absurd (none_left K V E b (32 - length fs) (chain_before at fs) q e (end_passes q leads))
          some_level (suc n) e = omega (arith, e)

    module _ (fs all : List (ℕ × ℕ)) (p i : ℕ) (ends : all ≡ fs ++ (p, i) ∷ []) (way : IsWay (layout_of K V E) b at all) where
      before : IsWay (layout_of K V E) b at fs
      before = (way_parts (layout_of K V E) b at fs p i all ends way).0

      leads : chain_end (layout_of K V E) b (root_place b at) fs ≡ Some p
      leads = (way_parts (layout_of K V E) b at fs p i all ends way).1

      pub last_passes : Passes K V E b (32 - length fs) (chain_before at fs) p
      last_passes = end_passes fs before p leads

      pub last_short : length fs < 32
      last_short = end_short fs before p leads

module _ (s : NodeLayout) (b : List ℕ) where
  root_rest : (z : ℤ) → child_list s b 32 (natural (Some z)) ++ [] ≡ list (tree_of s b z)
  unfolding tree_of
  root_rest (negsuc n) = refl
  root_rest (pos q) = append-nil (list (tree_at s b 32 q))

  -- before a walk begins all entries are left
  pub whole_rest : (at : ℕ) → down_rest s b at [] ≡ list (map_tree s b at)
  whole_rest at =
      elim (cases_eq (number_at b (at + 4) 4) 0) [
        | inl e ↦ rw (eq-eqb (number_at b (at + 4) 4) 0 e) refl
        | inr e ↦ rw (ne_eqb (number_at b (at + 4) 4) 0 e) (root_rest (place_at b at))
      ]

-- a map is read as its entries
pub map_is_read : (K V : Kind) (E : ℕ) (b : List ℕ) → IsLawful K → IsLawful V → (at : ℕ) (m : List (K.Value × V.Value)) → IsMap K V E b at m → read_map K V E b at ≡ m
map_is_read K V E b k v at m is = sym ((map_laws K V E k v).is_read b 0 at at is.0 m is.1)
