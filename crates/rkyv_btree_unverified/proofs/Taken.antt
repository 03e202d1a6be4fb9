-- Entries that a walk takes of a path, and of a leaf.
use Rattle.std.proofs.Common.{◌≡◌, ℕ, ◌+◌, ◌-◌, ◌≤◌, ◌<◌, List, [], ◌∷◌, ◌++◌, length, refl, sym, ◌∙◌, subst, arith, Option, Some, None, Result, Ok, Err, IsTrue, true, false, inl, inr, slice_index}
use Rattle.std.proofs.lemmas.Bool.{cases_eq, eq-eqb}
use Rattle.rkyv_btree_format.proofs.Sizes.{room_of}
use Rattle.rkyv_btree_portable.specs.Kind.{Kind, IsLawful}
use Rattle.rkyv_btree_format.specs.Layout.{layout_of, are_fitting, inner_size, leaf_size}
use Rattle.rkyv_btree_portable.specs.declared.refusal.Refusal.{Refusal}
use Rattle.std.specs.Prelude.{◌≢◌}
use Rattle.rkyv_btree_unverified.proofs.Chains.{way_low, way_placed, way_short, way_parts, way_put, entries_put, inner_entry, leaf_entry, is_inner}
use Rattle.rkyv_btree_unverified.proofs.Counted.{take_nodes, leave_nodes}
use Rattle.rkyv_btree_unverified.proofs.Faultless.{from_next, from_end, path_with, path_without, pending_child}
use Rattle.rkyv_btree_unverified.proofs.OnWalks.{end_passes, last_passes, last_short, take_rest, leave_rest}
use Rattle.rkyv_btree_unverified.proofs.Passes.{root_entries, with_level}
use Rattle.rkyv_btree_unverified.specs.Walks.{EntryRefuses, Fails, of_entry}
use Rattle.rkyv_btree_unverified.specs.declared.walk.Phase.{Phase}
use Rattle.rkyv_btree_unverified.specs.declared.walk.Phase.TheVariants.{Descend, Advance, Over}
use Rattle.rkyv_btree_unverified.specs.declared.walk.UnverifiedWalk.{UnverifiedWalk}
use Rattle.rkyv_btree_unverified.specs.mirror.Faultless.{FaultlessPath, FaultlessDown, FaultlessAt, FaultlessPhase, FaultlessLeft}
use Rattle.rkyv_btree_unverified.specs.mirror.Walked.{IsWay, IsLeafRun, OnMaps, IsClimbed, HasClimbed, HasPhase, IsUnverifiedWalk, Finishes, TakesEntry, GoesDown, Stepped, HasAt, chain_before, path_entries, path_nodes, walk_most, unverified_left}
use Rattle.rkyv_btree_view.specs.Map.{IsMap}
use Rattle.rkyv_btree_walk.proofs.Paths.{walk_more, walk_end}
use Rattle.rkyv_btree_walk.specs.Nodes.{is_leaf}
use Rattle.rkyv_btree_walk.specs.mirror.Node.{EntryStands}
use Rattle.rkyv_btree_walk.specs.Paths.{path_rest}

pub none_of : {X : Type 0} (xs : List X) → (0 < length xs → ⊥) → xs ≡ []
none_of [] h = refl
none_of (x ∷ xs) h = absurd (h (omega arith))

module _ (K V : Kind) (E : ℕ) (b : List ℕ) where
  -- a walk that is at a leaf isn't over
  pub has_begun : (at : ℕ) (w : UnverifiedWalk) → HasAt K V E b at w → w.phase ≢ Over
  has_begun at w has over = let never : Advance ≡ Over = sym has.1 ∙ over in cc never

  -- what a walk has in a phase is what it has
  has_phase : (at : ℕ) (w : UnverifiedWalk) (phase : Phase) → w.phase ≡ phase → HasPhase K V E b phase at w → IsUnverifiedWalk K V E b at w
  has_phase at w phase is has = subst (λ ph. HasPhase K V E b ph at w) (sym is) has

  -- what is left of a walk at a leaf is what is left of it there
  left_at : (at : ℕ) (w : UnverifiedWalk) → w.phase ≡ Advance → FaultlessAt K V E b at w.node w.next w.end w.path.items → FaultlessLeft K V E b at w
  left_at at w is left = subst (λ ph. FaultlessPhase K V E b ph at w) (sym is) left

  at_leaf : (at : ℕ) (w : UnverifiedWalk) → w.phase ≡ Advance → FaultlessLeft K V E b at w → FaultlessAt K V E b at w.node w.next w.end w.path.items
  at_leaf at w is left = subst (λ ph. FaultlessPhase K V E b ph at w) is left

  -- and of one that goes down, what is left on its way
  left_down : (at : ℕ) (w : UnverifiedWalk) → w.phase ≡ Descend → FaultlessDown K V E b at w.path.items → FaultlessLeft K V E b at w
  left_down at w is left = subst (λ ph. FaultlessPhase K V E b ph at w) (sym is) left

  down_left : (at : ℕ) (w : UnverifiedWalk) → w.phase ≡ Descend → FaultlessLeft K V E b at w → FaultlessDown K V E b at w.path.items
  down_left at w is left = subst (λ ph. FaultlessPhase K V E b ph at w) is left

  -- a walk that goes up has come from an old path to this one
  pub record IsClimbing (at : ℕ) (old fs : List (ℕ × ℕ)) : Type 0 where
    pub way : IsWay (layout_of K V E) b at fs
    pub most : path_entries E fs ≤ path_entries E old
    pub rest : path_rest (layout_of K V E) b 32 fs ≡ path_rest (layout_of K V E) b 32 old
    pub few : OnMaps K V E b at (path_nodes (layout_of K V E) b 32 fs ≤ path_nodes (layout_of K V E) b 32 old)
    pub faultless : FaultlessPath K V E b 32 at fs → FaultlessPath K V E b 32 at old

  pub climb_ends : (at : ℕ) (old fs : List (ℕ × ℕ)) → fs ≡ [] → IsClimbing at old fs → HasClimbed K V E b at old
  climb_ends at old fs none inv = record { rest = sym inv.rest ∙ rw none refl; faultless = inv.faultless (rw none tt) }

  module _ (k : IsLawful K) (v : IsLawful V) (fits : IsTrue (are_fitting K V E)) (at : ℕ) where
    module _ (old fs all : List (ℕ × ℕ)) (p i : ℕ) (ends : all ≡ fs ++ (p, i) ∷ []) (inv : IsClimbing at old all) where
      pub climb_short : length b ≤ 4294967295
      climb_short = (way_placed (layout_of K V E) b at fs p i all ends inv.way).short

      pub climb_inside : p + leaf_size (layout_of K V E) ≤ length b
      climb_inside =
          let parts = way_parts (layout_of K V E) b at fs p i all ends inv.way in
          let low = way_low (layout_of K V E) b at fs parts.0 in
          let size = (room_of K V E k v fits).parts.leaf in
          let place = (way_placed (layout_of K V E) b at fs p i all ends inv.way).room in
          let room = parts.2.room in
          omega (arith, low, size, place, room)

      climb_stands : (m : List (K.Value × V.Value)) → IsMap K V E b at m → i < E → EntryStands K V E b (p, i)
      climb_stands m map low =
          let parts = way_parts (layout_of K V E) b at fs p i all ends inv.way in
          let passes = with_level K V E b (32 - length fs) (chain_before at fs) p (last_passes K V E b k v fits at m map fs all p i ends inv.way) in
          let inner : is_leaf (layout_of K V E) b p ≡ false = is_inner (layout_of K V E) b (chain_before at fs) p (inner_size (layout_of K V E)) parts.2 in
          root_entries K V E b (32 - length fs - 1) (chain_before at fs) p E passes (rw inner refl) i low

      pub climb_fails : (KR VR : List ℕ → ℕ → ℕ → ℕ → Refusal → Type 0) (r : Refusal) → i < E → EntryRefuses K V E b KR VR (p, i) r → (EntryStands K V E b (p, i) → ⊥) → Fails K V E b KR VR at r
      climb_fails KR VR r low why never = record {
        refuses = of_entry (inner_entry K V E b k v fits at fs all p i ends inv.way low) why;
        no_map = λ m map. never (climb_stands m map low);
      }

      pub climbed : (new : List (ℕ × ℕ)) → new ≡ fs ++ (p, i + 1) ∷ [] → i < E → EntryStands K V E b (p, i) → IsClimbed K V E b at old new (p, i)
      climbed new is low stands =
          let parts = way_parts (layout_of K V E) b at fs p i all ends inv.way in
          let placed = way_placed (layout_of K V E) b at fs p i all ends inv.way in
          let most = inv.most in
          let before : path_entries E all ≡ path_entries E fs + (E - i) = rw ends (entries_put E fs p i) in
          let after : path_entries E new ≡ path_entries E fs + (E - (i + 1)) = rw is (entries_put E fs p (i + 1)) in
          record {
            way = way_put (layout_of K V E) b at fs p (i + 1) new is (way_short (layout_of K V E) b at fs p i all ends inv.way) placed parts.0 parts.1 parts.2 (omega (arith, low));
            taken = record {
              reached = inner_entry K V E b k v fits at fs all p i ends inv.way low;
              stands = stands;
              short = climb_short;
              inside = climb_inside;
              within = low;
            };
            less = omega (arith, most, before, after, low);
            rest = sym inv.rest ∙ take_rest (layout_of K V E) b at fs (way_short (layout_of K V E) b at fs p i all ends inv.way) all p i ends (is_inner (layout_of K V E) b (chain_before at fs) p (inner_size (layout_of K V E)) parts.2) low ∙ rw is refl;
            few = λ m map.
                let few = inv.few m map in
                let same = take_nodes (layout_of K V E) b at fs (last_short K V E b k v fits at m map fs all p i ends inv.way) p i low in
                let few2 : path_nodes (layout_of K V E) b 32 (fs ++ (p, i) ∷ []) ≤ path_nodes (layout_of K V E) b 32 old = rw (← ends) few in
                rw is (omega (arith, same, few2));
            faultless = λ down.
                let short = way_short (layout_of K V E) b at fs p i all ends inv.way in
                let child = pending_child K V E b at fs new p (i + 1) is short down.pending in
                let after = path_without K V E b at fs new p (i + 1) is short down.path in
                inv.faultless (path_with K V E b at fs all p i ends short after.0 (from_next K V E b _ (chain_before at fs) p i stands child after.1));
          }

      pub climbs_on : E ≤ i → IsClimbing at old fs
      climbs_on high =
          let parts = way_parts (layout_of K V E) b at fs p i all ends inv.way in
          let most = inv.most in
          let before : path_entries E all ≡ path_entries E fs + (E - i) = rw ends (entries_put E fs p i) in
          record {
            way = parts.0;
            most = omega (arith, most, before);
            rest = sym (leave_rest (layout_of K V E) b at fs (way_short (layout_of K V E) b at fs p i all ends inv.way) all p i ends (is_inner (layout_of K V E) b (chain_before at fs) p (inner_size (layout_of K V E)) parts.2) high) ∙ inv.rest;
            few = λ m map.
                let few = inv.few m map in
                let less = leave_nodes (layout_of K V E) b at fs (last_short K V E b k v fits at m map fs all p i ends inv.way) p i in
                let few2 : path_nodes (layout_of K V E) b 32 (fs ++ (p, i) ∷ []) ≤ path_nodes (layout_of K V E) b 32 old = rw (← ends) few in
                omega (arith, less, few2);
            faultless = λ path. inv.faultless (path_with K V E b at fs all p i ends (way_short (layout_of K V E) b at fs p i all ends inv.way) path (from_end K V E b _ (chain_before at fs) p i high));
          }

    -- the next entry of a leaf
    module _ (w : UnverifiedWalk) (has : HasAt K V E b at w) (less : w.next < w.end) where
      run : IsLeafRun (layout_of K V E) b at w.path.items w.node w.end
      run = has.0.run less

      pub leaf_short : length b ≤ 4294967295
      leaf_short = run.placed.short

      pub leaf_inside : w.node + leaf_size (layout_of K V E) ≤ length b
      leaf_inside =
          let low = way_low (layout_of K V E) b at w.path.items has.0.way in
          let place = run.placed.room in
          let room = run.node.room in
          omega (arith, low, place, room)

      pub leaf_within : w.next < E
      leaf_within = let few = run.few in omega (arith, few, less)

      leaf_stands : (m : List (K.Value × V.Value)) → IsMap K V E b at m → EntryStands K V E b (w.node, w.next)
      leaf_stands m map =
          let passes = with_level K V E b (32 - length w.path.items) (chain_before at w.path.items) w.node (end_passes K V E b k v fits at m map w.path.items has.0.way w.node run.leads) in
          let leaf : is_leaf (layout_of K V E) b w.node ≡ true = eq-eqb (slice_index b w.node) 0 run.node.kind_byte in
          let count = run.count in
          root_entries K V E b (32 - length w.path.items - 1) (chain_before at w.path.items) w.node w.end passes (rw leaf count) w.next less

      pub leaf_fails : (KR VR : List ℕ → ℕ → ℕ → ℕ → Refusal → Type 0) (r : Refusal) → EntryRefuses K V E b KR VR (w.node, w.next) r → (EntryStands K V E b (w.node, w.next) → ⊥) → Fails K V E b KR VR at r
      leaf_fails KR VR r why never = record {
        refuses = of_entry (leaf_entry K V E b k v fits at w.path.items w.node w.end w.next has.0.way run less) why;
        no_map = λ m map. never (leaf_stands m map);
      }

      pub leaf_some : 0 < walk_most E w
      leaf_some = rw has.1 (omega (arith, less))

      -- the walk after it
      module _ (new : UnverifiedWalk) (path : new.path.items ≡ w.path.items) (node : new.node ≡ w.node) (next : new.next ≡ w.next + 1) (end : new.end ≡ w.end) (nodes : new.nodes ≡ w.nodes) (taken : new.taken ≡ w.taken + 1) (phase : new.phase ≡ Advance) where
        pub leaf_takes : EntryStands K V E b (w.node, w.next) → TakesEntry K V E b at w new (w.node, w.next)
        leaf_takes stands =
            let old_phase = has.1 in
            let fewer : new.end - new.next < w.end - w.next = omega (arith, end, next, less) in
            record {
              taken = record {
                reached = leaf_entry K V E b k v fits at w.path.items w.node w.end w.next has.0.way run less;
                stands = stands;
                short = leaf_short;
                inside = leaf_inside;
                within = leaf_within;
              };
              more = taken;
              less = rw (phase, old_phase, path, nodes) (omega (arith, fewer));
              rest = rw (phase, old_phase, path, node, next, end) (walk_more (layout_of K V E) b w.node w.next w.end w.path.items less);
              goes_on = λ over. let never : Advance ≡ Over = sym phase ∙ over in cc never;
              faultless = λ left.
                  let after : FaultlessAt K V E b at w.node (w.next + 1) w.end w.path.items = rw (← path, ← node, ← next, ← end) (at_leaf at new phase left) in
                  left_at at w old_phase (record {
                    entries = λ j le low. elim (cases_eq j w.next) [
                      | inl e ↦ subst (λ i. EntryStands K V E b (w.node, i)) (sym e) stands
                      | inr e ↦ after.entries j (omega (arith, le, e)) low
                    ];
                    path = after.path;
                  });
            }

    -- the next entry of the path, where none is left of the leaf
    module _ (w : UnverifiedWalk) (has : HasAt K V E b at w) (none : w.end ≤ w.next) where
      places_are : unverified_left (layout_of K V E) b at w ≡ path_rest (layout_of K V E) b 32 w.path.items
      places_are = rw has.1 (walk_end (layout_of K V E) b w.node w.next w.end w.path.items none)

      on_path : FaultlessPath K V E b 32 at w.path.items → FaultlessLeft K V E b at w
      on_path path = left_at at w has.1 (record { entries = λ j le low. absurd (omega (arith, none, le, low)); path = path })

      pub path_some : (new : List (ℕ × ℕ)) (e : ℕ × ℕ) → IsClimbed K V E b at w.path.items new e → 0 < walk_most E w
      path_some new e climb = let less = climb.less in rw has.1 (omega (arith, less))

      pub path_finishes : (new : UnverifiedWalk) → new.phase ≡ Over → HasClimbed K V E b at w.path.items → Finishes K V E b at w new
      path_finishes new over climb = record { over = over; none = places_are ∙ climb.rest; faultless = λ begun. on_path climb.faultless }

      module _ (new : UnverifiedWalk) (nodes : new.nodes ≡ w.nodes) (taken : new.taken ≡ w.taken + 1) (phase : new.phase ≡ Descend) (e : ℕ × ℕ) (climb : IsClimbed K V E b at w.path.items new.path.items e) where
        pub path_walks : IsUnverifiedWalk K V E b at new
        path_walks = has_phase at new Descend phase (record {
          way = climb.way;
          few = λ m map. let few = has.0.few m map in let less = climb.few m map in omega (arith, few, less, nodes);
        })

        pub path_takes : TakesEntry K V E b at w new e
        path_takes =
            let less = climb.less in
            let old_phase = has.1 in
            record {
              taken = climb.taken;
              more = taken;
              less = rw (phase, old_phase, nodes) (omega (arith, less));
              rest = places_are ∙ climb.rest ∙ rw phase refl;
              goes_on = λ over. let never : Descend ≡ Over = sym phase ∙ over in cc never;
              faultless = λ left. on_path (climb.faultless (down_left at new phase left));
            }

  module _ (at : ℕ) where
    -- what a walk gives once it is down is what it gives
    module _ (KR VR : List ℕ → ℕ → ℕ → ℕ → Refusal → Type 0) (old mid new : UnverifiedWalk) (phase : old.phase ≡ Descend) (down : GoesDown K V E b at old mid) where
      pub steps_on : (r : Result (Option (ℕ × ℕ)) Refusal) → Stepped K V E b KR VR at mid new r → Stepped K V E b KR VR at old new r
      steps_on (Err r) s = record { fails = s.fails; begun = λ over. let never : Descend ≡ Over = sym phase ∙ over in cc never; over = s.over }
      steps_on (Ok None) s = record {
        over = s.over;
        none = rw phase (sym down.rest ∙ s.none);
        faultless = λ begun. left_down at old phase (down.faultless (s.faultless (λ over. let never : Advance ≡ Over = sym down.phase ∙ over in cc never)));
      }
      steps_on (Ok (Some e)) s =
          let less = s.less in
          let most = down.most in
          record {
            taken = s.taken;
            more = rw (← down.taken) s.more;
            less = rw phase (omega (arith, less, most));
            rest = rw phase (sym down.rest ∙ s.rest);
            goes_on = s.goes_on;
            faultless = λ left. left_down at old phase (down.faultless (s.faultless left));
          }
