-- A walk down beside the first entry that reaches a query, node by node.
use Rattle.std.proofs.Common.{◌≡◌, ℕ, suc, ◌-◌, ◌≤◌, ◌<◌, List, [], ◌∷◌, ◌++◌, length, length-append, append-nil, append_assoc, refl, sym, ap, ◌∙◌, subst, arith, Option, Some, None, Result, Ok, IsTrue, Bool, true, false, slice_index}
use Rattle.std.specs.Borrow.{Bor}
use Rattle.std.specs.Range.Bound.{bound_map}
use Rattle.std.specs.declared.cmp.Ordering.{Ordering}
use Rattle.std.specs.declared.ops.Bound.{Bound}
use Rattle.std.specs.declared.ops.Bound.TheVariants.{Unbounded}
use Rattle.std.proofs.lemmas.Bool.{eq-eqb}
use Rattle.rkyv_btree_portable.specs.Kind.{Kind, IsLawful}
use Rattle.rkyv_btree_format.specs.Layout.{layout_of, are_fitting, inner_size}
use Rattle.rkyv_btree_format.specs.Read.{map_tree}
use Rattle.rkyv_btree_portable.specs.declared.refusal.Refusal.{Refusal}
use Rattle.rkyv_btree_verify.specs.Refusals.{IsInner}
use Rattle.rkyv_btree_unverified.proofs.Chains.{no_way, is_inner}
use Rattle.rkyv_btree_unverified.proofs.Entered.{IsDown, one_less, reached, passes, leaf_runs, leaf_few, way_on, most_on, none_few, down_on}
use Rattle.rkyv_btree_unverified.proofs.Froms.{tree_from, leaf_since, absent_since, child_since, map_since, map_gone, from_whole}
use Rattle.rkyv_btree_unverified.proofs.OnWalks.{whole_rest}
use Rattle.rkyv_btree_unverified.proofs.Passes.{root_entries}
use Rattle.rkyv_btree_unverified.specs.EntriesFrom.{entries_from, from_place}
use Rattle.rkyv_btree_unverified.specs.Steps.{key_place, HasRoom, NodeGives}
use Rattle.rkyv_btree_unverified.specs.Walks.{Fails, of_entry, refused_key}
use Rattle.rkyv_btree_unverified.specs.declared.walk.Phase.TheVariants.{Descend, Advance, Over}
use Rattle.rkyv_btree_unverified.specs.declared.walk.UnverifiedWalk.{UnverifiedWalk}
use Rattle.rkyv_btree_unverified.specs.mirror.Sought.{PartFound, Begins, BeginGives}
use Rattle.rkyv_btree_unverified.specs.mirror.Walked.{LeadsTo, FewLeft, HasPhase, IsUnverifiedWalk, unverified_left}
use Rattle.rkyv_btree_walk.proofs.Paths.{rest_snoc}
use Rattle.rkyv_btree_walk.specs.declared.seek.Part.{Part}
use Rattle.rkyv_btree_walk.specs.Below.{root_place}
use Rattle.rkyv_btree_walk.specs.Nodes.{is_leaf, entry_count, child_place}
use Rattle.rkyv_btree_walk.specs.mirror.Node.{EntryStands}
use Rattle.rkyv_btree_walk.specs.Paths.{node_rest, path_rest}
use Rattle.rkyv_btree_walk.specs.mirror.Range.{IsFirst}

module _ (K V : Kind) (E : ℕ) (b : List ℕ) (at : ℕ) (test : ℕ × ℕ → Bool) where
  -- what is sought is in the tree of the node at p, or after it in what is left of the path
  pub record IsSeeking (before : ℕ) (fs : List (ℕ × ℕ)) (nodes p hi : ℕ) : Type 0 where
    pub down : IsDown K V E b at [] before fs nodes p hi
    pub sought : entries_from test (map_tree (layout_of K V E) b at) ≡ tree_from (layout_of K V E) b test (32 - length fs) p ++ path_rest (layout_of K V E) b 32 fs

  pub seek_starts : (before p : ℕ) → LeadsTo K V E b at [] p at → FewLeft K V E b at [] before → IsSeeking before [] before p at
  seek_starts before p leads few = record {
    down = record { way = no_way (layout_of K V E) b at; leads = leads; most = omega arith; few = few };
    sought = map_since (layout_of K V E) b test at p leads.leads ∙ sym (append-nil _);
  }

  module _ (k : IsLawful K) (v : IsLawful V) (fits : IsTrue (are_fitting K V E)) (KR VR : List ℕ → ℕ → ℕ → ℕ → Refusal → Type 0) (before : ℕ) (fs : List (ℕ × ℕ)) (nodes p hi : ℕ) (inv : IsSeeking before fs nodes p hi) (n : ℕ) (counted : n ≡ entry_count (layout_of K V E) b p) where
    pub key_fails : NodeGives K V E b hi p (Ok n) → (r : Refusal) → (i : ℕ) × (i < n) × KR b 0 (key_place K V E (p, i)) (key_place K V E (p, i)) r → (((i : ℕ) → i < n → EntryStands K V E b (p, i)) → ⊥) → Fails K V E b KR VR at r
    key_fails gives r why never = record {
      refuses = of_entry (record {
        levels = length fs;
        hi = hi;
        count = n;
        reached = reached K V E b k v fits KR VR at [] before fs nodes p hi inv.down;
        counted = gives;
        within = why.1;
      }) (refused_key why.2);
      no_map = λ m map. never (root_entries K V E b (32 - length fs - 1) hi p n (passes K V E b k v fits KR VR at [] before fs nodes p hi inv.down m map) counted);
    }

    module _ (some : ¬ (nodes ≡ 0)) (j : ℕ) (low : j ≤ n) (first : IsFirst (λ i. test (p, i)) 0 n j) where
      pub part_found : length fs < 32 → slice_index b p ≡ 0 → n ≤ E → PartFound K V E b at test before fs (nodes - 1) (record { node = p; next = j; end = n })
      part_found less byte few =
          let run = leaf_runs K V E b k v fits KR VR at [] before fs nodes p hi inv.down some n byte counted few in
          let leaf : is_leaf (layout_of K V E) b p ≡ true = eq-eqb (slice_index b p) 0 byte in
          let most = inv.down.most in
          let levels : 32 - length fs ≡ suc (31 - length fs) = omega (arith, less) in
          record {
            way = inv.down.way;
            run = λ x. run;
            most = omega (arith, most, one_less E nodes some, few);
            few = leaf_few K V E b k v fits KR VR at [] before fs nodes p hi inv.down some;
            sought = sym (inv.sought ∙ ap (λ xs. xs ++ path_rest (layout_of K V E) b 32 fs) (rw levels (leaf_since (layout_of K V E) b test (31 - length fs) p j n leaf run.count low first)));
          }

      module _ (less : length fs < 32) (within : j ≤ E) (all : List (ℕ × ℕ)) (ends : all ≡ fs ++ (p, j) ∷ []) (inner : IsInner K V E b 0 hi p) where
        node : is_leaf (layout_of K V E) b p ≡ false
        node = is_inner (layout_of K V E) b hi p (inner_size (layout_of K V E)) inner

        first_of_all : IsFirst (λ i. test (p, i)) 0 E j
        first_of_all = let all : n ≡ E = rw node at counted in rw all at first

        after : path_rest (layout_of K V E) b 32 all ≡ node_rest (layout_of K V E) b (31 - length fs) p j ++ path_rest (layout_of K V E) b 32 fs
        after = ap (path_rest (layout_of K V E) b 32) ends ∙ rest_snoc (layout_of K V E) b (31 - length fs) 32 fs (p, j) (omega (arith, less))

        pub part_absent : ◌≡◌ {A = Option ℕ} None (child_place (layout_of K V E) b p j) → PartFound K V E b at test before all (nodes - 1) (record { node = p; next = 0; end = 0 })
        part_absent none =
            let most = most_on K V E b k v fits KR VR at [] before fs nodes p hi inv.down some less j within all ends inner in
            let levels : 32 - length fs ≡ suc (31 - length fs) = omega (arith, less) in
            record {
              way = way_on K V E b k v fits KR VR at [] before fs nodes p hi inv.down some less j within all ends inner;
              run = λ x. absurd (omega (arith, x));
              most = omega (arith, most);
              few = none_few K V E b k v fits KR VR at [] before fs nodes p hi inv.down some less j within all ends inner none;
              sought = after ∙ sym (inv.sought ∙ ap (λ xs. xs ++ path_rest (layout_of K V E) b 32 fs) (rw levels (absent_since (layout_of K V E) b test (31 - length fs) p j node within first_of_all (sym none))));
            }

        pub seeks_on : (q : ℕ) → ◌≡◌ {A = Option ℕ} (Some q) (child_place (layout_of K V E) b p j) → HasRoom K V E p q → IsSeeking before all (nodes - 1) q p
        seeks_on q to room =
            let levels : 32 - length fs ≡ suc (31 - length fs) = omega (arith, less) in
            let below : 32 - length all ≡ 31 - length fs = omega (arith, less, ap length ends, length-append fs ((p, j) ∷ [])) in
            let there = tree_from (layout_of K V E) b test (31 - length fs) q in
            record {
              down = down_on K V E b k v fits KR VR at [] before fs nodes p hi inv.down some less j within all ends inner q to room;
              sought = inv.sought ∙ ap (λ xs. xs ++ path_rest (layout_of K V E) b 32 fs) (rw levels (child_since (layout_of K V E) b test (31 - length fs) p j node within first_of_all q (sym to)))
                  ∙ append_assoc there (node_rest (layout_of K V E) b (31 - length fs) p j) (path_rest (layout_of K V E) b 32 fs) ∙ rw below (ap (λ xs. there ++ xs) (sym after));
            }

-- a walk that hasn't begun is at the start of an empty map
module _ (K V : Kind) (E : ℕ) (b : List ℕ) (at : ℕ) (test : ℕ × ℕ → Bool) (w : UnverifiedWalk) (empty : w.path.items ≡ []) (phase : w.phase ≡ Descend) (taken : w.taken ≡ 0) (few : FewLeft K V E b at [] w.nodes) where
  not_begun : IsUnverifiedWalk K V E b at w
  not_begun = subst (λ ph. HasPhase K V E b ph at w) (sym phase) (record { way = rw empty (no_way (layout_of K V E) b at); few = rw empty few })

  pub begins_first : unverified_left (layout_of K V E) b at w ≡ entries_from test (map_tree (layout_of K V E) b at) → Begins K V E b at test w.nodes w
  begins_first sought = record {
    walks = not_begun;
    most = rw (phase, empty) (omega arith);
    begun = λ over. let never : Descend ≡ Over = sym phase ∙ over in cc never;
    taken = taken;
    sought = sought;
  }

  pub begins_empty : ◌≡◌ {A = Option ℕ} None (root_place b at) → Begins K V E b at test w.nodes w
  begins_empty none = begins_first (let gone = map_gone (layout_of K V E) b test at (sym none) in rw (phase, empty, ← none, gone) refl)

-- or it has come to a part of a leaf
pub begins_part : (K V : Kind) (E : ℕ) (b : List ℕ) (at : ℕ) (test : ℕ × ℕ → Bool) (before : ℕ) (w : UnverifiedWalk) (part : Part) → PartFound K V E b at test before w.path.items w.nodes part
    → w.node ≡ part.node → w.next ≡ part.next → w.end ≡ part.end → w.phase ≡ Advance → w.taken ≡ 0 → Begins K V E b at test before w
begins_part K V E b at test before w part found node next end phase taken =
    let most = found.most in
    record {
      walks = subst (λ ph. HasPhase K V E b ph at w) (sym phase) (record { way = found.way; run = λ less. rw (node, end) (found.run (rw (next, end) at less)); few = found.few });
      most = rw (phase, next, end) (omega (arith, most));
      begun = λ over. let never : Advance ≡ Over = sym phase ∙ over in cc never;
      taken = taken;
      sought = rw (phase, node, next, end) found.sought;
    }

module _ (K V : Kind) (E : ℕ) {T : Type 0} (compared : T → List ℕ → ℕ → Ordering) (b : List ℕ) (KR VR : List ℕ → ℕ → ℕ → ℕ → Refusal → Type 0) (at : ℕ) where
  -- without a bound all entries are sought
  pub begins_whole : (low : Bound (Bor T)) (w : UnverifiedWalk) → low ≡ Unbounded → w.path.items ≡ [] → w.phase ≡ Descend → w.taken ≡ 0 → FewLeft K V E b at [] w.nodes
      → Begins K V E b at (from_place K V E compared b (bound_map (λ q. q.now) low)) w.nodes w
  begins_whole low w is empty phase taken few =
      begins_first K V E b at _ w empty phase taken few (rw (phase, empty, is) (whole_rest (layout_of K V E) b at ∙ sym (from_whole (map_tree (layout_of K V E) b at))))

  -- with one, the first entry is sought that reaches its query
  pub begins_at : (low bound : Bound (Bor T)) (nodes : ℕ) (w : UnverifiedWalk) (r : Result (Unit {0}) Refusal) → low ≡ bound → BeginGives K V E b KR VR at (from_place K V E compared b (bound_map (λ q. q.now) bound)) nodes w r
      → BeginGives K V E b KR VR at (from_place K V E compared b (bound_map (λ q. q.now) low)) nodes w r
  begins_at low bound nodes w r is h = subst (λ x. BeginGives K V E b KR VR at (from_place K V E compared b (bound_map (λ q. q.now) x)) nodes w r) (sym is) h
