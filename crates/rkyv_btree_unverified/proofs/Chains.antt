-- Paths from the root of a map on, as nodes are put on them and taken from them.
use Rattle.std.proofs.Common.{◌≡◌, ℕ, suc, ◌+◌, ◌-◌, ◌≤◌, ◌<◌, List, [], ◌∷◌, ◌++◌, length, length-append, refl, sym, ap, subst, arith, Option, Some, None, Ok, IsTrue, false, inl, inr, slice_index}
use Rattle.std.proofs.lemmas.Bool.{cases_eq, eq-eqb, ne_eqb}
use Rattle.std.specs.Prelude.{ℤ, pos, negsuc}
use Rattle.rkyv_btree_format.proofs.Sizes.{room_of}
use Rattle.rkyv_btree_portable.specs.Bytes.{number_at, place_at}
use Rattle.rkyv_btree_portable.specs.Kind.{Kind, IsLawful}
use Rattle.rkyv_btree_format.specs.Layout.{NodeLayout, layout_of, are_fitting, inner_size, len_at}
use Rattle.rkyv_btree_verify.specs.Refusals.{IsInner}
use Rattle.rkyv_btree_portable.specs.Refusing.{HasPlace}
use Rattle.rkyv_btree_format.specs.Spells.{IsNodeAt}
use Rattle.rkyv_btree_unverified.specs.Steps.{HasRoom, HeadGives, root, ChildGives, child, leaf, inner, PlaceGives, good_place}
use Rattle.rkyv_btree_unverified.specs.Walks.{IsReached, as_root, as_child, IsReachedEntry}
use Rattle.rkyv_btree_unverified.specs.mirror.Walked.{IsChain, chain_before, IsWay, IsLeafRun, path_entries, chain_end}
use Rattle.rkyv_btree_walk.specs.Below.{root_place}
use Rattle.rkyv_btree_walk.specs.Nodes.{natural, is_leaf, child_place}

pub before_put : (hi : ℕ) (fs : List (ℕ × ℕ)) (p i : ℕ) → chain_before hi (fs ++ (p, i) ∷ []) ≡ p
before_put hi [] p i = refl
before_put hi (f ∷ fs) p i = before_put f.0 fs p i

pub entries_put : (E : ℕ) (fs : List (ℕ × ℕ)) (p i : ℕ) → path_entries E (fs ++ (p, i) ∷ []) ≡ path_entries E fs + (E - i)
entries_put E [] p i = refl
entries_put E (f ∷ fs) p i = let r = entries_put E fs p i in omega (arith, r)

module _ (s : NodeLayout) (b : List ℕ) where
  pub end_put : (to : Option ℕ) (fs : List (ℕ × ℕ)) (p i : ℕ) → chain_end s b to (fs ++ (p, i) ∷ []) ≡ child_place s b p i
  end_put to [] p i = refl
  end_put to (f ∷ fs) p i = end_put (child_place s b f.0 f.1) fs p i

  chain_put : (hi : ℕ) (to : Option ℕ) (fs : List (ℕ × ℕ)) (p i : ℕ) → IsChain s b hi to fs → chain_end s b to fs ≡ Some p → IsNodeAt s b 0 (chain_before hi fs) p 1 (inner_size s) → i ≤ s.E → IsChain s b hi to (fs ++ (p, i) ∷ [])
  chain_put hi to [] p i chain leads node low = (leads, node, low, tt)
  chain_put hi to (f ∷ fs) p i chain leads node low = (chain.0, chain.1, chain.2, chain_put f.0 (child_place s b f.0 f.1) fs p i chain.3 leads node low)

  chain_parts : (hi : ℕ) (to : Option ℕ) (fs : List (ℕ × ℕ)) (p i : ℕ) → IsChain s b hi to (fs ++ (p, i) ∷ [])
      → IsChain s b hi to fs × (chain_end s b to fs ≡ Some p) × IsNodeAt s b 0 (chain_before hi fs) p 1 (inner_size s) × (i ≤ s.E)
  chain_parts hi to [] p i c = (tt, c.0, c.1, c.2)
  chain_parts hi to (f ∷ fs) p i c = let r = chain_parts f.0 (child_place s b f.0 f.1) fs p i c.3 in ((c.0, c.1, c.2, r.0), r.1, r.2, r.3)

  chain_low : (hi : ℕ) (to : Option ℕ) (fs : List (ℕ × ℕ)) → IsChain s b hi to fs → chain_before hi fs ≤ hi
  chain_low hi to [] c = omega arith
  chain_low hi to (f ∷ fs) c = let r = chain_low f.0 (child_place s b f.0 f.1) fs c.3 in let room = c.1.room in omega (arith, r, room)

  -- a path with nothing on it
  pub no_way : (at : ℕ) → IsWay s b at []
  no_way at = record { levels = omega arith; placed = λ some. absurd (omega (arith, some)); chain = tt }

  module _ (at : ℕ) (fs : List (ℕ × ℕ)) where
    pub way_low : IsWay s b at fs → chain_before at fs ≤ at
    way_low way = chain_low at (root_place b at) fs way.chain

    module _ (p i : ℕ) (all : List (ℕ × ℕ)) (ends : all ≡ fs ++ (p, i) ∷ []) where
      -- an inner node is put on a path where it leads
      pub way_put : length fs < 32 → HasPlace b 8 4 at → IsWay s b at fs → chain_end s b (root_place b at) fs ≡ Some p → IsNodeAt s b 0 (chain_before at fs) p 1 (inner_size s) → i ≤ s.E → IsWay s b at all
      way_put short placed way leads node low = rw ends (record { levels = omega (arith, short, length-append fs ((p, i) ∷ [])); placed = λ some. placed; chain = chain_put at (root_place b at) fs p i way.chain leads node low })

      pub all_end : chain_end s b (root_place b at) all ≡ child_place s b p i
      all_end = rw ends (end_put (root_place b at) fs p i)

      pub all_before : chain_before at all ≡ p
      all_before = rw ends (before_put at fs p i)

      -- and taken from one
      pub way_placed : IsWay s b at all → HasPlace b 8 4 at
      way_placed way = way.placed (omega (arith, ap length ends, length-append fs ((p, i) ∷ [])))

      pub way_short : IsWay s b at all → length fs < 32
      way_short way = let levels = way.levels in omega (arith, levels, ap length ends, length-append fs ((p, i) ∷ []))

      pub way_parts : IsWay s b at all → IsWay s b at fs × (chain_end s b (root_place b at) fs ≡ Some p) × IsNodeAt s b 0 (chain_before at fs) p 1 (inner_size s) × (i ≤ s.E)
      way_parts way =
          let r = chain_parts at (root_place b at) fs p i (rw ends at way.chain) in
          let short = way_short way in
          (record { levels = omega (arith, short); placed = λ some. way_placed way; chain = r.0 }, r.1, r.2, r.3)

  -- a node before a place in the buffer lies in it
  pub node_inside : (hi p kind size : ℕ) → hi ≤ length b → IsNodeAt s b 0 hi p kind size → IsNodeAt s b 0 (length b) p kind size
  node_inside hi p kind size le node = let room = node.room in record { start = node.start; room = omega (arith, le, room); aligned = node.aligned; kind_byte = node.kind_byte }

  pub is_inner : (hi p size : ℕ) → IsNodeAt s b 0 hi p 1 size → is_leaf s b p ≡ false
  is_inner hi p size node = let byte = node.kind_byte in ne_eqb (slice_index b p) 0 (λ e. absurd (omega (arith, e, byte)))

pub natural_is : (t : Option ℤ) (q : ℕ) → natural t ≡ Some q → t ≡ Some (pos q)
natural_is None q e = absurd (cc e)
natural_is (Some (negsuc n)) q e = absurd (cc e)
natural_is (Some (pos r)) q e = let same : r ≡ q = cc e in rw same refl

pub some_is : (z w : ℤ) → ◌≡◌ {A = Option ℤ} (Some z) (Some w) → z ≡ w
some_is z w e = cc e

module _ (K V : Kind) (E : ℕ) (b : List ℕ) where
  child_leads : (hi p i q : ℕ) → IsInner K V E b 0 hi p → child_place (layout_of K V E) b p i ≡ Some q → HasRoom K V E p q → ChildGives K V E b hi p i (Ok (Some q))
  child_leads hi p i q is to room =
      let other : is_leaf (layout_of K V E) b p ≡ false = is_inner (layout_of K V E) b hi p (inner_size (layout_of K V E)) is in
      child is (natural_is _ q (rw other at to)) (good_place room)

  module _ (at : ℕ) (placed : HasPlace b 8 4 at) where
    -- where the root's place is known, the own bytes of the map have said it
    root_leads : (q : ℕ) → root_place b at ≡ Some q → HasRoom K V E at q → HeadGives K V E b at (Ok (Some q))
    root_leads q to room =
        elim (cases_eq (number_at b (at + 4) 4) 0) [
          | inl e ↦ absurd (cc (rw (eq-eqb (number_at b (at + 4) 4) 0 e) at to))
          | inr e ↦
              let leads : place_at b at ≡ pos q = some_is _ _ (natural_is (Some (place_at b at)) q (rw (ne_eqb (number_at b (at + 4) 4) 0 e) at to)) in
              root placed e (subst (λ z. PlaceGives K V E at z (Ok q)) (sym leads) (good_place room))
        ]

  module _ (k : IsLawful K) (v : IsLawful V) (fits : IsTrue (are_fitting K V E)) where
    -- where an inner node stands there is room for a leaf
    pub inner_room : (hi p : ℕ) → IsInner K V E b 0 hi p → HasRoom K V E hi p
    inner_room hi p node =
        let parts = (room_of K V E k v fits).parts.leaf in
        let room = node.room in
        record { room = omega (arith, parts, room); aligned = node.aligned }

    module _ (at : ℕ) where
      chain_reached : (levels hi : ℕ) (to : Option ℕ) (fs : List (ℕ × ℕ)) → ((q : ℕ) → to ≡ Some q → HasRoom K V E hi q → IsReached K V E b at levels hi q) → IsChain (layout_of K V E) b hi to fs
          → (q : ℕ) → chain_end (layout_of K V E) b to fs ≡ Some q → HasRoom K V E (chain_before hi fs) q → IsReached K V E b at (levels + length fs) (chain_before hi fs) q
      chain_reached levels hi to [] from c q leads room =
          let same : levels ≡ levels + 0 = omega arith in
          subst (λ n. IsReached K V E b at n hi q) same (from q leads room)
      chain_reached levels hi to (f ∷ fs) from c q leads room =
          let here = from f.0 c.0 (inner_room hi f.0 c.1) in
          let same : suc levels + length fs ≡ levels + suc (length fs) = omega arith in
          subst (λ n. IsReached K V E b at n (chain_before f.0 fs) q) same (chain_reached (suc levels) f.0 (child_place (layout_of K V E) b f.0 f.1) fs (λ r e space. as_child here c.2 (child_leads hi f.0 f.1 r c.1 e space)) c.3 q leads room)

      -- a node with room where a path leads is reached
      pub way_reached : (fs : List (ℕ × ℕ)) → HasPlace b 8 4 at → IsWay (layout_of K V E) b at fs → (q : ℕ) → chain_end (layout_of K V E) b (root_place b at) fs ≡ Some q
          → HasRoom K V E (chain_before at fs) q → IsReached K V E b at (length fs) (chain_before at fs) q
      way_reached fs placed way q leads room =
          let same : 0 + length fs ≡ length fs = omega arith in
          subst (λ n. IsReached K V E b at n (chain_before at fs) q) same (chain_reached 0 at (root_place b at) fs (λ r e space. as_root (root_leads at placed r e space)) way.chain q leads room)

      -- and so is each entry of the last node of a path
      pub inner_entry : (fs all : List (ℕ × ℕ)) (p i : ℕ) → all ≡ fs ++ (p, i) ∷ [] → IsWay (layout_of K V E) b at all → i < E → IsReachedEntry K V E b at (p, i)
      inner_entry fs all p i ends way low =
          let parts = way_parts (layout_of K V E) b at fs p i all ends way in
          record {
            levels = length fs;
            hi = chain_before at fs;
            count = E;
            reached = way_reached fs (way_placed (layout_of K V E) b at fs p i all ends way) parts.0 p parts.1 (inner_room (chain_before at fs) p parts.2);
            counted = inner parts.2;
            within = low;
          }

      -- and each of a leaf to which it leads
      pub leaf_entry : (fs : List (ℕ × ℕ)) (p n i : ℕ) → IsWay (layout_of K V E) b at fs → IsLeafRun (layout_of K V E) b at fs p n → i < n → IsReachedEntry K V E b at (p, i)
      leaf_entry fs p n i way run low =
          let count = run.count in
          let few = run.few in
          record {
            levels = length fs;
            hi = chain_before at fs;
            count = number_at b (p + len_at (layout_of K V E)) 4;
            reached = way_reached fs run.placed way p run.leads (record { room = run.node.room; aligned = run.node.aligned });
            counted = leaf run.node (omega (arith, count, few));
            within = omega (arith, count, low);
          }
