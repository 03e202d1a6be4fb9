-- What is left of a path is what comes after its way.
use Rattle.std.proofs.Common.{◌≡◌, ℕ, zero, suc, ◌+◌, ◌-◌, ◌≤◌, List, [], ◌∷◌, ◌++◌, length, map, refl, sym, ap, ◌∙◌, subst, arith, append-nil, Option, Some, None, false, inl, inr}
use Rattle.std.proofs.lemmas.Bool.{cases_eq, eq-eqb, ne_eqb}
use Rattle.std.specs.Prelude.{ℤ, pos, negsuc}
use Rattle.rkyv_btree_portable.specs.Bytes.{number_at, place_at, target_at}
use Rattle.rkyv_btree_portable.specs.Kind.{Kind}
use Rattle.rkyv_btree_format.specs.Layout.{NodeLayout, layout_of, inner_size, pointer_at}
use Rattle.rkyv_btree_format.specs.Read.{run, child_of, row_at, tree_at, tree_of, map_tree}
use Rattle.rkyv_btree_shape.specs.Tree.{Tree, Child, absent, child, child_list as tree_child_list}
use Rattle.rkyv_btree_unverified.proofs.Chains.{is_inner}
use Rattle.rkyv_btree_unverified.proofs.OnWalks.{whole_rest}
use Rattle.rkyv_btree_unverified.specs.Ways.{way_end, row_way_end, child_way_end, after_way, after_row_way, after_child_way, places_left, places_left_at}
use Rattle.rkyv_btree_unverified.specs.declared.walk.Phase.{Phase}
use Rattle.rkyv_btree_unverified.specs.declared.walk.Phase.TheVariants.{Descend, Advance, Over}
use Rattle.rkyv_btree_unverified.specs.declared.walk.UnverifiedWalk.{UnverifiedWalk}
use Rattle.rkyv_btree_unverified.specs.mirror.Walked.{IsChain, IsWay, HasPhase, IsUnverifiedWalk, Finishes, TakesEntry, chain_end, down_rest, places_at, unverified_left}
use Rattle.rkyv_btree_walk.specs.Below.{root_place}
use Rattle.rkyv_btree_walk.specs.Nodes.{natural, is_leaf, child_place}
use Rattle.rkyv_btree_walk.specs.Paths.{child_list, row_rest, node_rest, path_rest}

module _ (s : NodeLayout) (b : List ℕ) where
  -- the child at a place, with so many levels
  abbrev child_at : ℕ → Option ℕ → Child (ℕ × ℕ)
  child_at levels None = absent
  child_at levels (Some q) = child (tree_at s b levels q)

  abbrev numbers : List (ℕ × ℕ) → List ℕ
  numbers fs = map (λ f. f.1) fs

  same_child : (m : ℕ) (t : Option ℤ) → child_of s b (tree_at s b m) t ≡ child_at m (natural t)
  same_child m None = refl
  same_child m (Some (negsuc n)) = refl
  same_child m (Some (pos q)) = refl

  module _ (below : ℕ → Tree (ℕ × ℕ)) (p : ℕ) (is : List ℕ) where
    row_leads : (j n i k : ℕ) → j ≤ n → i + j ≡ k → row_way_end j is (row_at s b below p n i) ≡ child_way_end is (child_of s b below (target_at b (p + pointer_at s k)))
    row_leads zero zero i k le e = let same : i ≡ k = omega (arith, e) in rw same refl
    row_leads (suc j) zero i k le e = absurd (omega (arith, le))
    row_leads zero (suc n) i k le e = let same : i ≡ k = omega (arith, e) in rw same refl
    row_leads (suc j) (suc n) i k le e = row_leads j n (i + 1) k (omega (arith, le)) (omega (arith, e))

    row_after : (j n i k m : ℕ) → i + j ≡ k → j + m ≡ n → after_row_way j is (row_at s b below p n i) ≡ after_child_way is (child_of s b below (target_at b (p + pointer_at s k))) ++ row_rest s b below p m k
    row_after zero zero i k m e d = let same : i ≡ k = omega (arith, e) in let z : m ≡ 0 = omega (arith, d) in rw (same, z) (sym (append-nil _))
    row_after (suc j) zero i k m e d = absurd (omega (arith, d))
    row_after zero (suc n) i k m e d = let same : i ≡ k = omega (arith, e) in let z : m ≡ suc n = omega (arith, d) in rw (same, z) refl
    row_after (suc j) (suc n) i k m e d = row_after j n (i + 1) k m (omega (arith, e)) (omega (arith, d))

  node_leads : (m p j : ℕ) (is : List ℕ) → is_leaf s b p ≡ false → j ≤ s.E → way_end (j ∷ is) (tree_at s b (suc m) p) ≡ child_way_end is (child_at m (child_place s b p j))
  node_leads m p j is inner low = rw inner (row_leads (tree_at s b m) p is j s.E 0 j low (omega arith) ∙ ap (child_way_end is) (same_child m (target_at b (p + pointer_at s j))))

  node_after : (m p j : ℕ) (is : List ℕ) → is_leaf s b p ≡ false → j ≤ s.E → after_way (j ∷ is) (tree_at s b (suc m) p) ≡ after_child_way is (child_at m (child_place s b p j)) ++ node_rest s b m p j
  unfolding node_rest
  node_after m p j is inner low = rw inner (row_after (tree_at s b m) p is j s.E 0 j (s.E - j) (omega arith) (omega (arith, low)) ∙ ap (λ c. after_child_way is c ++ row_rest s b (tree_at s b m) p (s.E - j) j) (same_child m (target_at b (p + pointer_at s j))))

  end_here : (m n : ℕ) (to : Option ℕ) → m ≡ n → child_way_end [] (child_at m to) ≡ child_at n to
  end_here m n None e = refl
  end_here m n (Some q) e = rw e refl

  after_here : (m : ℕ) (to : Option ℕ) → after_child_way [] (child_at m to) ≡ []
  after_here m None = refl
  after_here m (Some q) = refl

  chain_leads : (n hi : ℕ) (to : Option ℕ) (fs : List (ℕ × ℕ)) → IsChain s b hi to fs → length fs ≤ n → child_way_end (numbers fs) (child_at n to) ≡ child_at (n - length fs) (chain_end s b to fs)
  chain_leads n hi to [] c short = end_here n (n - 0) to (omega arith)
  chain_leads zero hi to (f ∷ fs) c short = absurd (omega (arith, short))
  chain_leads (suc m) hi to (f ∷ fs) c short =
      let levels : m - length fs ≡ suc m - suc (length fs) = omega arith in
      let rest = chain_leads m f.0 (child_place s b f.0 f.1) fs c.3 (omega (arith, short)) in
      rw c.0 (node_leads m f.0 f.1 (numbers fs) (is_inner s b hi f.0 (inner_size s) c.1) c.2) ∙ subst (λ k. child_way_end (numbers fs) (child_at m (child_place s b f.0 f.1)) ≡ child_at k (chain_end s b (child_place s b f.0 f.1) fs)) levels rest

  chain_after : (n hi : ℕ) (to : Option ℕ) (fs : List (ℕ × ℕ)) → IsChain s b hi to fs → length fs ≤ n → after_child_way (numbers fs) (child_at n to) ≡ path_rest s b n fs
  chain_after n hi to [] c short = after_here n to
  chain_after zero hi to (f ∷ fs) c short = absurd (omega (arith, short))
  chain_after (suc m) hi to (f ∷ fs) c short =
      let rest = chain_after m f.0 (child_place s b f.0 f.1) fs c.3 (omega (arith, short)) in
      rw c.0 (node_after m f.0 f.1 (numbers fs) (is_inner s b hi f.0 (inner_size s) c.1) c.2) ∙ ap (λ xs. xs ++ node_rest s b m f.0 f.1) rest

  root_tree : (z : ℤ) (q : ℕ) → natural (Some z) ≡ Some q → tree_of s b z ≡ tree_at s b 32 q
  unfolding tree_of
  root_tree (negsuc n) q e = absurd (cc e)
  root_tree (pos r) q e = let same : r ≡ q = cc e in rw same refl

  map_root : (at q : ℕ) → root_place b at ≡ Some q → map_tree s b at ≡ tree_at s b 32 q
  map_root at q some =
      elim (cases_eq (number_at b (at + 4) 4) 0) [
        | inl e ↦ absurd (cc (rw (eq-eqb (number_at b (at + 4) 4) 0 e) at some))
        | inr e ↦ rw (ne_eqb (number_at b (at + 4) 4) 0 e) (root_tree (place_at b at) q (rw (ne_eqb (number_at b (at + 4) 4) 0 e) at some))
      ]

  child_lists : (n : ℕ) (to : Option ℕ) → tree_child_list (child_at n to) ≡ child_list s b n to
  child_lists n None = refl
  child_lists n (Some q) = refl

  both : {xs ys zs ws : List (ℕ × ℕ)} → xs ≡ ys → zs ≡ ws → xs ++ zs ≡ ys ++ ws
  both {ys} {zs} e f = ap (λ l. l ++ zs) e ∙ ap (λ l. ys ++ l) f

  module _ (at : ℕ) where
    way_after : (fs : List (ℕ × ℕ)) → IsWay s b at fs → after_way (numbers fs) (map_tree s b at) ≡ path_rest s b 32 fs
    way_after [] way = refl
    way_after (f ∷ fs) way =
        rw (map_root at f.0 way.chain.0) (ap (λ to. after_child_way (numbers (f ∷ fs)) (child_at 32 to)) (sym way.chain.0)) ∙ chain_after 32 at (root_place b at) (f ∷ fs) way.chain way.levels

    way_leads : (f : ℕ × ℕ) (fs : List (ℕ × ℕ)) → IsWay s b at (f ∷ fs) → way_end (numbers (f ∷ fs)) (map_tree s b at) ≡ child_at (32 - length (f ∷ fs)) (chain_end s b (root_place b at) (f ∷ fs))
    way_leads f fs way =
        rw (map_root at f.0 way.chain.0) (ap (λ to. child_way_end (numbers (f ∷ fs)) (child_at 32 to)) (sym way.chain.0)) ∙ chain_leads 32 at (root_place b at) (f ∷ fs) way.chain way.levels

    way_down : (fs : List (ℕ × ℕ)) → IsWay s b at fs → tree_child_list (way_end (numbers fs) (map_tree s b at)) ++ after_way (numbers fs) (map_tree s b at) ≡ down_rest s b at fs
    way_down [] way = append-nil _ ∙ sym (whole_rest s b at)
    way_down (f ∷ fs) way = both (ap tree_child_list (way_leads f fs way) ∙ child_lists (32 - length (f ∷ fs)) (chain_end s b (root_place b at) (f ∷ fs))) (way_after (f ∷ fs) way)

module _ (K V : Kind) (E : ℕ) (b : List ℕ) (at : ℕ) where
  phase_places : (phase : Phase) (w : UnverifiedWalk) → HasPhase K V E b phase at w → places_at (layout_of K V E) b phase at w ≡ places_left_at K V E b at phase w
  phase_places Descend w has = sym (way_down (layout_of K V E) b at w.path.items has.way)
  phase_places Advance w has = ap (λ xs. run (layout_of K V E) b w.node (w.end - w.next) w.next ++ xs) (sym (way_after (layout_of K V E) b at w.path.items has.way))
  phase_places Over w has = refl

  -- what is left of a walk is what comes after its way
  pub places_are : (w : UnverifiedWalk) → IsUnverifiedWalk K V E b at w → unverified_left (layout_of K V E) b at w ≡ places_left K V E b at w
  places_are w walks = phase_places w.phase w walks

  -- so it is of the first entry, which is taken, and of the end
  pub way_takes : (w t : UnverifiedWalk) (e : ℕ × ℕ) → IsUnverifiedWalk K V E b at w → IsUnverifiedWalk K V E b at t → TakesEntry K V E b at w t e → places_left K V E b at w ≡ e ∷ places_left K V E b at t
  way_takes w t e walks after takes = sym (places_are w walks) ∙ takes.rest ∙ ap (λ xs. e ∷ xs) (places_are t after)

  pub way_finishes : (w t : UnverifiedWalk) → IsUnverifiedWalk K V E b at w → Finishes K V E b at w t → places_left K V E b at w ≡ []
  way_finishes w t walks ends = sym (places_are w walks) ∙ ends.none
