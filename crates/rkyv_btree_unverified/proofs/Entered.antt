-- A walk down from where a path leads, node by node.
use Rattle.std.proofs.Common.{◌≡◌, ℕ, zero, suc, ◌+◌, ◌-◌, ◌*◌, ◌≤◌, ◌<◌, List, [], ◌∷◌, ◌++◌, length, length-append, refl, sym, ap, ◌∙◌, subst, arith, Option, Some, None, Ok, Err, IsTrue, true, slice_index}
use Rattle.std.proofs.lemmas.Bool.{eq-eqb}
use Rattle.std.specs.Prelude.{pos}
use Rattle.rkyv_btree_portable.specs.Kind.{Kind, IsLawful}
use Rattle.rkyv_btree_format.specs.Layout.{layout_of, are_fitting, inner_size, leaf_size}
use Rattle.rkyv_btree_portable.specs.declared.refusal.Refusal.{Refusal}
use Rattle.rkyv_btree_portable.specs.declared.refusal.Refusal.TheVariants.{OutOfRange, TooDeep}
use Rattle.rkyv_btree_verify.specs.Refusals.{IsInner}
use Rattle.rkyv_btree_format.specs.Spells.{IsNodeAt}
use Rattle.rkyv_btree_unverified.proofs.Chains.{way_low, way_reached, way_put, all_end, all_before, entries_put}
use Rattle.rkyv_btree_unverified.proofs.Counted.{enter_nodes, leaf_nodes, skip_nodes}
use Rattle.rkyv_btree_unverified.proofs.Faultless.{leaf_tree, inner_tree, no_child, some_child, path_without}
use Rattle.rkyv_btree_unverified.proofs.Goes.{leaf_of}
use Rattle.rkyv_btree_unverified.proofs.OnWalks.{end_passes, end_short, enter_rest, leaf_rest_is}
use Rattle.rkyv_btree_unverified.proofs.Passes.{tree_node, with_level}
use Rattle.rkyv_btree_unverified.specs.Steps.{HasRoom, NodeGives, ChildGives}
use Rattle.rkyv_btree_unverified.specs.Walks.{IsReached, Fails, of_node, of_child, too_deep, too_many_nodes}
use Rattle.rkyv_btree_unverified.specs.mirror.Faultless.{FaultlessChild, FaultlessFrom, FaultlessTree, FaultlessPath, FaultlessDown}
use Rattle.rkyv_btree_unverified.specs.mirror.Passes.{NodePasses, Passes}
use Rattle.rkyv_btree_unverified.specs.mirror.Walked.{IsWay, IsLeafRun, LeadsTo, LeadsNowhere, FewLeft, OnMaps, LeafFound, path_entries, path_nodes, chain_end, down_rest}
use Rattle.rkyv_btree_view.specs.Map.{IsMap}
use Rattle.rkyv_btree_walk.specs.Below.{root_place}
use Rattle.rkyv_btree_walk.specs.Nodes.{is_leaf, entry_count, child_place}

-- a node takes room for E entries
pub one_less : (E n : ℕ) → ¬ (n ≡ 0) → E * n ≡ E * (n - 1) + E
one_less E zero some = absurd (some refl)
one_less E (suc n) some = let less : suc n - 1 ≡ n = omega arith in rw less (let d : E * (1 + n) ≡ E + E * n = grind arith in omega (arith, d))

module _ (K V : Kind) (E : ℕ) (b : List ℕ) where
  -- a way down has come from an old path and a number of nodes to a path that leads to the node at p
  pub record IsDown (at : ℕ) (old : List (ℕ × ℕ)) (before : ℕ) (fs : List (ℕ × ℕ)) (nodes p hi : ℕ) : Type 0 where
    pub way : IsWay (layout_of K V E) b at fs
    pub leads : LeadsTo K V E b at fs p hi
    pub most : E * nodes + path_entries E fs ≤ E * before + path_entries E old
    pub few : FewLeft K V E b at fs nodes

  -- and all entries are left that were
  pub record IsDescending (at : ℕ) (old : List (ℕ × ℕ)) (before : ℕ) (fs : List (ℕ × ℕ)) (nodes p hi : ℕ) : Type 0 where
    pub down : IsDown at old before fs nodes p hi
    pub rest : down_rest (layout_of K V E) b at fs ≡ down_rest (layout_of K V E) b at old
    pub faultless : FaultlessTree K V E b (32 - length fs) hi p → FaultlessPath K V E b 32 at fs → FaultlessDown K V E b at old

  -- where a path leads to no child, the entries of its last node come next
  pub no_leaf : (at : ℕ) (fs : List (ℕ × ℕ)) (nodes : ℕ) → IsWay (layout_of K V E) b at fs → FewLeft K V E b at fs nodes → LeadsNowhere K V E b at fs → LeafFound K V E b at fs nodes fs nodes (record { node = 0; count = 0 })
  no_leaf at fs nodes way few nowhere = record {
    way = way;
    run = λ x. absurd (omega (arith, x));
    most = omega arith;
    rest = rw nowhere.leads refl;
    few = λ m map. let left = few m map in let less = rw nowhere.leads at left in omega (arith, less);
    faultless = λ left. record { pending = nowhere.faultless; path = left.path };
  }

  -- the node lies in the buffer
  pub leads_inside : (at : ℕ) (fs : List (ℕ × ℕ)) (p hi : ℕ) → IsWay (layout_of K V E) b at fs → LeadsTo K V E b at fs p hi → hi ≤ length b
  leads_inside at fs p hi way leads =
      let low = way_low (layout_of K V E) b at fs way in
      let before = leads.before in
      let room = leads.placed.room in
      omega (arith, low, before, room)

  module _ (k : IsLawful K) (v : IsLawful V) (fits : IsTrue (are_fitting K V E)) (KR VR : List ℕ → ℕ → ℕ → ℕ → Refusal → Type 0) (at : ℕ) (old : List (ℕ × ℕ)) (before : ℕ) (fs : List (ℕ × ℕ)) (nodes p hi : ℕ) (inv : IsDown at old before fs nodes p hi) where
    pub reached : IsReached K V E b at (length fs) hi p
    reached =
        let to = inv.leads in
        subst (λ h. IsReached K V E b at (length fs) h p) (sym to.before) (way_reached K V E b k v fits at fs to.placed inv.way p to.leads (subst (λ h. HasRoom K V E h p) to.before to.room))

    pub passes : (m : List (K.Value × V.Value)) → IsMap K V E b at m → Passes K V E b (suc (32 - length fs - 1)) hi p
    passes m map =
        let to = inv.leads in
        with_level K V E b (32 - length fs) hi p (subst (λ h. Passes K V E b (32 - length fs) h p) (sym to.before) (end_passes K V E b k v fits at m map fs inv.way p to.leads))

    short : (m : List (K.Value × V.Value)) → IsMap K V E b at m → length fs < 32
    short m map = end_short K V E b k v fits at m map fs inv.way p inv.leads.leads

    pub is_deep : length fs ≡ 32 → Fails K V E b KR VR at (TooDeep (pos p))
    is_deep len = record {
      refuses = too_deep (subst (λ n. IsReached K V E b at n hi p) len reached);
      no_map = λ m map. let s = short m map in absurd (omega (arith, s, len));
    }

    pub is_past : nodes ≡ 0 → Fails K V E b KR VR at (OutOfRange (pos p))
    is_past none =
        let no_map : (m : List (K.Value × V.Value)) → IsMap K V E b at m → ⊥ = λ m map. let s = leaf_nodes (layout_of K V E) b at fs (short m map) p inv.leads.leads in let few = inv.few m map in absurd (omega (arith, s, few, none)) in
        record { refuses = too_many_nodes reached no_map; no_map = no_map }

    pub node_fails : (r : Refusal) → NodeGives K V E b hi p (Err r) → (NodePasses (layout_of K V E) b hi p → ⊥) → Fails K V E b KR VR at r
    node_fails r gives never = record {
      refuses = of_node reached gives;
      no_map = λ m map. never (tree_node K V E b (32 - length fs - 1) hi p (passes m map).passes);
    }

    pub child_fails : (i : ℕ) (r : Refusal) → i ≤ E → ChildGives K V E b hi p i (Err r) → ((m hi : ℕ) → Passes K V E b (suc m) hi p → ⊥) → Fails K V E b KR VR at r
    child_fails i r low gives never = record {
      refuses = of_child reached low gives;
      no_map = λ m map. never (32 - length fs - 1) hi (passes m map);
    }

    module _ (some : ¬ (nodes ≡ 0)) where
      -- the node is a leaf to which the path leads
      pub leaf_runs : (n : ℕ) → slice_index b p ≡ 0 → n ≡ entry_count (layout_of K V E) b p → n ≤ E → IsLeafRun (layout_of K V E) b at fs p n
      leaf_runs n byte count few =
          let to = inv.leads in
          let leaf : is_leaf (layout_of K V E) b p ≡ true = eq-eqb (slice_index b p) 0 byte in
          record {
            placed = to.placed;
            leads = to.leads;
            node = subst (λ h. IsNodeAt (layout_of K V E) b 0 h p 0 (leaf_size (layout_of K V E))) to.before (record { start = omega arith; room = to.room.room; aligned = to.room.aligned; kind_byte = byte });
            count = rw leaf at count;
            few = few;
          }

      pub leaf_few : OnMaps K V E b at (path_nodes (layout_of K V E) b 32 fs ≤ nodes - 1)
      leaf_few m map = let s = leaf_nodes (layout_of K V E) b at fs (short m map) p inv.leads.leads in let left = inv.few m map in omega (arith, s, left, some)

      -- or it is put on the path
      module _ (less : length fs < 32) (i : ℕ) (low : i ≤ E) (all : List (ℕ × ℕ)) (ends : all ≡ fs ++ (p, i) ∷ []) (is : IsInner K V E b 0 hi p) where
        pub way_on : IsWay (layout_of K V E) b at all
        way_on =
            let to = inv.leads in
            way_put (layout_of K V E) b at fs p i all ends less to.placed inv.way to.leads (subst (λ h. IsNodeAt (layout_of K V E) b 0 h p 1 (inner_size (layout_of K V E))) to.before is) low

        pub most_on : E * (nodes - 1) + path_entries E all ≤ E * before + path_entries E old
        most_on =
            let most = inv.most in
            let entries : path_entries E all ≡ path_entries E fs + (E - i) = rw ends (entries_put E fs p i) in
            omega (arith, most, one_less E nodes some, entries)

        pub few_on : FewLeft K V E b at all (nodes - 1)
        few_on m map =
            let left = inv.few m map in
            let enter = enter_nodes (layout_of K V E) b at fs (short m map) p inv.leads.leads in
            let skip = skip_nodes (layout_of K V E) b at fs (short m map) p i low in
            rw ends (omega (arith, left, enter, skip))

        pub none_on : ◌≡◌ {A = Option ℕ} None (child_place (layout_of K V E) b p i) → chain_end (layout_of K V E) b (root_place b at) all ≡ None
        none_on none = all_end (layout_of K V E) b at fs p i all ends ∙ sym none

        pub none_few : ◌≡◌ {A = Option ℕ} None (child_place (layout_of K V E) b p i) → OnMaps K V E b at (path_nodes (layout_of K V E) b 32 all ≤ nodes - 1)
        none_few none m map = let few = few_on m map in let left = rw (none_on none) at few in omega (arith, left)

        pub down_on : (q : ℕ) → ◌≡◌ {A = Option ℕ} (Some q) (child_place (layout_of K V E) b p i) → HasRoom K V E p q → IsDown at old before all (nodes - 1) q p
        down_on q to room = record {
          way = way_on;
          leads = record {
            placed = inv.leads.placed;
            leads = all_end (layout_of K V E) b at fs p i all ends ∙ sym to;
            before = sym (all_before (layout_of K V E) b at fs p i all ends);
            room = room;
          };
          most = most_on;
          few = few_on;
        }

  module _ (k : IsLawful K) (v : IsLawful V) (fits : IsTrue (are_fitting K V E)) (KR VR : List ℕ → ℕ → ℕ → ℕ → Refusal → Type 0) (at : ℕ) (old : List (ℕ × ℕ)) (before : ℕ) (fs : List (ℕ × ℕ)) (nodes p hi : ℕ) (inv : IsDescending at old before fs nodes p hi) (some : ¬ (nodes ≡ 0)) (less : length fs < 32) where
    levels : 32 - length fs ≡ suc (31 - length fs)
    levels = omega (arith, less)

    pub leaf_found : (n : ℕ) → slice_index b p ≡ 0 → NodeGives K V E b hi p (Ok n) → n ≡ entry_count (layout_of K V E) b p → n ≤ E → LeafFound K V E b at old before fs (nodes - 1) (record { node = p; count = n })
    leaf_found n byte gives count few =
        let run = leaf_runs k v fits KR VR at old before fs nodes p hi inv.down some n byte count few in
        let leaf : is_leaf (layout_of K V E) b p ≡ true = eq-eqb (slice_index b p) 0 byte in
        let most = inv.down.most in
        record {
          way = inv.down.way;
          run = λ x. run;
          most = omega (arith, most, one_less E nodes some, few);
          rest = leaf_rest_is (layout_of K V E) b at fs less p n run.leads leaf run.count ∙ inv.rest;
          few = leaf_few k v fits KR VR at old before fs nodes p hi inv.down some;
          faultless = λ left. inv.faultless (rw levels (leaf_tree K V E b (31 - length fs) hi p n gives (leaf_of K V E b hi p n gives byte) (λ i low. left.entries i (omega arith) low))) left.path;
        }

    module _ (all : List (ℕ × ℕ)) (ends : all ≡ fs ++ (p, 0) ∷ []) (is : IsInner K V E b 0 hi p) where
      rest_on : down_rest (layout_of K V E) b at all ≡ down_rest (layout_of K V E) b at old
      rest_on = rw ends (enter_rest (layout_of K V E) b at fs less p inv.down.leads.leads) ∙ inv.rest

      abbrev First : Type 0
      First = FaultlessChild K V E b (FaultlessTree K V E b (31 - length fs)) hi p 0

      -- where its first pointer is good, and what is left of the path with it, so is what was left
      entered : First → FaultlessPath K V E b 32 at all → FaultlessDown K V E b at old
      entered first path =
          let parts = path_without K V E b at fs all p 0 ends less path in
          let from = subst (λ h. FaultlessFrom K V E b (FaultlessTree K V E b (31 - length fs)) h p 0) (sym inv.down.leads.before) parts.1 in
          inv.faultless (rw levels (inner_tree K V E b (31 - length fs) hi p is first from)) parts.0

      -- with no child there, the entries of the node come next
      pub none_found : ◌≡◌ {A = Option ℕ} None (child_place (layout_of K V E) b p 0) → ChildGives K V E b hi p 0 (Ok None) → LeafFound K V E b at old before all (nodes - 1) (record { node = p; count = 0 })
      none_found none gives =
          let most = most_on k v fits KR VR at old before fs nodes p hi inv.down some less 0 (omega arith) all ends is in
          let leads = none_on k v fits KR VR at old before fs nodes p hi inv.down some less 0 (omega arith) all ends is none in
          record {
            way = way_on k v fits KR VR at old before fs nodes p hi inv.down some less 0 (omega arith) all ends is;
            run = λ x. absurd (omega (arith, x));
            most = omega (arith, most);
            rest = let rest = rest_on in rw leads at rest;
            few = none_few k v fits KR VR at old before fs nodes p hi inv.down some less 0 (omega arith) all ends is none;
            faultless = λ left. entered (no_child K V E b _ hi p 0 gives) left.path;
          }

      pub goes_on : (q : ℕ) → ◌≡◌ {A = Option ℕ} (Some q) (child_place (layout_of K V E) b p 0) → HasRoom K V E p q → ChildGives K V E b hi p 0 (Ok (Some q)) → IsDescending at old before all (nodes - 1) q p
      goes_on q to room gives =
          let below : 32 - length all ≡ 31 - length fs = omega (arith, ap length ends, length-append fs ((p, 0) ∷ [])) in
          record {
            down = down_on k v fits KR VR at old before fs nodes p hi inv.down some less 0 (omega arith) all ends is q to room;
            rest = rest_on;
            faultless = λ tree path. entered (some_child K V E b _ hi p 0 q gives (subst (λ n. FaultlessTree K V E b n p q) below tree)) path;
          }
