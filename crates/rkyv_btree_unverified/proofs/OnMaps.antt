-- A lookup in an accepted map returns what a lookup in a view of it finds.
use Rattle.std.proofs.Common.{◌≡◌, ◌∙◌, inl, inr, ℕ, zero, suc, ◌+◌, ◌≤◌, ◌<◌, IsTrue, List, Option, None, Result, Ok, Err, refl, sym, ap, slice_index, arith}
use Rattle.std.proofs.lemmas.Bool.{eq-eqb, ne_eqb, eqb-true, cases_Bool}
use Rattle.std.specs.Prelude.{ℤ, pos}
use Rattle.std.specs.declared.cmp.Ordering.{Ordering}
use Rattle.std.specs.declared.cmp.Ordering.TheVariants.{Less, Greater}
use Rattle.rkyv_btree_portable.specs.Bytes.{number_at, place_at}
use Rattle.rkyv_btree_portable.specs.Kind.{Kind, IsLawful}
use Rattle.rkyv_btree_format.specs.Layout.{layout_of, are_fitting}
use Rattle.rkyv_btree_portable.specs.declared.refusal.Refusal.{Refusal}
use Rattle.rkyv_btree_portable.specs.Refusing.{AreRefusals}
use Rattle.rkyv_btree_unverified.proofs.Exact.{is_place, is_node, no_key, no_value}
use Rattle.rkyv_btree_unverified.proofs.Goes.{has_kind}
use Rattle.rkyv_btree_unverified.proofs.Passes.{accepted_passes, child_fits, child_none, child_passes, child_some, none_left, not_misplaced, root_entries, root_finds, root_fits, tree_node}
use Rattle.rkyv_btree_unverified.specs.Lookups.{AtChild, AtHalt, TreeGives, LookupGives}
use Rattle.rkyv_btree_unverified.specs.Steps.{key_place, value_place, Then, GoesOn, HasRoom, PlaceGives, starts_before, ends_past, misaligned, good_place, NodeGives, leaf, inner, ChildGives, of_leaf, absent, bad_place, child}
use Rattle.rkyv_btree_unverified.specs.Steps.{HeadGives, misplaced, empty, bad_root, root, KeysGive, bad_key, bad_value, equal_key, stops}
use Rattle.rkyv_btree_unverified.specs.declared.search.Halt.{Halt}
use Rattle.rkyv_btree_unverified.specs.mirror.Passes.{NodePasses, Passes}
use Rattle.rkyv_btree_view.specs.Map.{IsMap}
use Rattle.rkyv_btree_walk.proofs.Searches.{leaf_alone, search_finds, search_ends, search_down}
use Rattle.rkyv_btree_walk.specs.Nodes.{child_place, entry_count, is_leaf}
use Rattle.rkyv_btree_walk.specs.mirror.Search.{comparison_at, searched, searched_map}

abbrev R : Type 0
R = Result (Option (ℕ × ℕ)) Refusal

-- a place that a pointer gives is where it leads
pub placed : (K V : Kind) (E hi q : ℕ) (z : ℤ) (r : Result ℕ Refusal) → PlaceGives K V E hi z r → r ≡ Ok q → z ≡ pos q
placed K V E hi q z r (starts_before h) e = absurd (cc e)
placed K V E hi q z r (ends_past h) e = absurd (cc e)
placed K V E hi q z r (misaligned room h) e = absurd (cc e)
placed K V E hi q z r (good_place h) e = let same : z ≡ z = refl in ap pos (cc e)

-- and a pointer that leads to a good place gives no error
pub no_bad_place : (K V : Kind) (E hi q : ℕ) (z : ℤ) (e : Refusal) → z ≡ pos q → HasRoom K V E hi q → PlaceGives K V E hi z (Err e) → ⊥
no_bad_place K V E hi q z e is room bad =
    let good : PlaceGives K V E hi z (Ok q) = rw is (good_place room) in
    absurd (cc (sym (is_place K V E hi z (Err e) bad) ∙ is_place K V E hi z (Ok q) good))

module _ (K V : Kind) (E : ℕ) (b : List ℕ) (hi p : ℕ) where
  -- a node that passes gives its count
  node_gives : NodePasses (layout_of K V E) b hi p → NodeGives K V E b hi p (Ok (entry_count (layout_of K V E) b p))
  node_gives node =
      let room : HasRoom K V E hi p = record { room = node.leaf_room; aligned = node.aligned } in
      elim (cases_Bool (is_leaf (layout_of K V E) b p)) [
        | inl e ↦
            let few = node.count in
            rw e (leaf (has_kind K V E b hi p 0 room (eqb-true (slice_index b p) 0 e)) (rw e at few))
        | inr e ↦
            let inside = node.inner_room e in
            rw e (inner (record { start = omega arith; room = inside; aligned = node.aligned; kind_byte = node.kind e }))
      ]

module _ (K V : Kind) (E : ℕ) (b : List ℕ) (comparison : K.Value → Ordering) (KR VR : List ℕ → ℕ → ℕ → ℕ → Refusal → Type 0) (k : IsLawful K) (v : IsLawful V) (kr : AreRefusals K KR) (vr : AreRefusals V VR) where
  abbrev comparisons : ℕ × ℕ → Ordering
  comparisons = comparison_at K V E b comparison

  module _ (m hi p : ℕ) (h : Passes K V E b (suc m) hi p) (below : (q : ℕ) (r : R) → Passes K V E b m p q → TreeGives K V E b comparison KR VR m p q r → r ≡ Ok (searched (layout_of K V E) b comparisons m q).0) (n : ℕ) (counted : n ≡ entry_count (layout_of K V E) b p) where
    abbrev Is : R → Type 0
    Is r = r ≡ Ok (searched (layout_of K V E) b comparisons (suc m) p).0

    few : n ≤ E
    few = let count = (tree_node K V E b m hi p h.passes).count in omega (arith, counted, count)

    module _ (i : ℕ) (le : i ≤ n) (before : (j : ℕ) → j < i → comparisons (p, j) ≡ Greater) (less : i < n → comparisons (p, i) ≡ Less) (r : R) where
      ends : child_place (layout_of K V E) b p i ≡ None → r ≡ Ok None → Is r
      ends none is = is ∙ ap Ok (sym (ap (λ x. x.0) (search_ends K V E b (suc m) p n h.stands counted comparison i none (le, before, less))))

      at_child : (c : Result (Option ℕ) Refusal) → ChildGives K V E b hi p i c → GoesOn (AtChild K V E b comparison KR VR (TreeGives K V E b comparison KR VR m p)) c r → Is r
      at_child c (of_leaf is) on = ends (leaf_alone (layout_of K V E) b p i (eq-eqb (slice_index b p) 0 is.kind_byte)) on
      at_child c (absent is to) on =
          let byte = is.kind_byte in
          ends (child_none (layout_of K V E) b p i (ne_eqb (slice_index b p) 0 (λ e. absurd (omega (arith, e, byte)))) to) on
      at_child c (bad_place {z = z} {e = e} is to bad) on =
          let byte = is.kind_byte in
          let fits = child_fits K V E b m hi p i z h (ne_eqb (slice_index b p) 0 (λ x. absurd (omega (arith, x, byte)))) (omega (arith, le, few)) to in
          absurd (no_bad_place K V E p fits.0 z e fits.1 fits.2 bad)
      at_child c (child {z = z} {q = q} is to place) on =
          let byte = is.kind_byte in
          let some = child_some (layout_of K V E) b p i q z (ne_eqb (slice_index b p) 0 (λ x. absurd (omega (arith, x, byte)))) to (placed K V E p q z (Ok q) place refl) in
          let passes = child_passes K V E b m hi p i q h (omega (arith, le, few)) some in
          below q r passes on ∙ ap Ok (sym (ap (λ x. x.0) (search_down K V E b (suc m) p n h.stands counted comparison i m q refl some (le, before, less))))

    at_keys : (r : R) (halt : Result Halt Refusal) → KeysGive K V E b comparison KR VR p n halt → GoesOn (AtHalt K V E b comparison KR VR (TreeGives K V E b comparison KR VR m p) hi p) halt r → Is r
    at_keys r halt (bad_key {i = i} {e = e} a bad) on =
        absurd (no_key K V E b comparison KR VR k v kr vr e (key_place K V E (p, i)) bad (root_entries K V E b m hi p n h counted i a.within).key)
    at_keys r halt (bad_value {i = i} {e = e} a g bad) on =
        absurd (no_value K V E b comparison KR VR k v kr vr e (value_place K V E (p, i)) bad (root_entries K V E b m hi p n h counted i a.within).value)
    at_keys r halt (equal_key {i = i} a g valid) on =
        on ∙ ap Ok (sym (ap (λ x. x.0) (search_finds K V E b (suc m) p n h.stands counted comparison i (a.within, λ j low. (a.before j low).gives, g.gives))))
    at_keys r halt (stops {i = i} s) on = at_child i s.within (λ j low. (s.before j low).gives) (λ low. (s.less low).gives) r on.result on.gives on.goes_on

  module _ (m hi p : ℕ) (h : Passes K V E b (suc m) hi p) (below : (q : ℕ) (r : R) → Passes K V E b m p q → TreeGives K V E b comparison KR VR m p q r → r ≡ Ok (searched (layout_of K V E) b comparisons m q).0) (r : R) where
    at_node : (n : Result ℕ Refusal) → n ≡ Ok (entry_count (layout_of K V E) b p) → GoesOn (λ n. Then (KeysGive K V E b comparison KR VR p n) (AtHalt K V E b comparison KR VR (TreeGives K V E b comparison KR VR m p) hi p)) n r → r ≡ Ok (searched (layout_of K V E) b comparisons (suc m) p).0
    at_node (Ok n) is on = at_keys m hi p h below n (cc is) r on.result on.gives on.goes_on
    at_node (Err e) is on = absurd (cc is)

  tree_is : (levels hi p : ℕ) (r : R) → Passes K V E b levels hi p → TreeGives K V E b comparison KR VR levels hi p r → r ≡ Ok (searched (layout_of K V E) b comparisons levels p).0
  unfolding TreeGives
  tree_is zero hi p r h t = absurd (none_left K V E b zero hi p refl h)
  tree_is (suc m) hi p r h t =
      let node = node_gives K V E b hi p (tree_node K V E b m hi p h.passes) in
      at_node m hi p h (λ q s passes tree. tree_is m p q s passes tree) r t.result (sym (is_node K V E b hi p t.result t.gives) ∙ is_node K V E b hi p _ node) t.goes_on

  module _ (fits : IsTrue (are_fitting K V E)) (at : ℕ) (m : List (K.Value × V.Value)) (map : IsMap K V E b at m) (r : R) where
    at_head : (c : Result (Option ℕ) Refusal) → HeadGives K V E b at c → GoesOn (AtChild K V E b comparison KR VR (TreeGives K V E b comparison KR VR 32 at)) c r → r ≡ Ok (searched_map (layout_of K V E) b comparisons at).0
    at_head c (misplaced {e = e} bad) on = absurd (not_misplaced b at e map.1.short map.1.room map.1.aligned bad)
    at_head c (empty placed none) on = on ∙ rw (eq-eqb (number_at b (at + 4) 4) 0 none) refl
    at_head c (bad_root {e = e} placed some bad) on =
        let good = root_fits K V E b k v fits at map.0 m map.1 some in
        absurd (no_bad_place K V E at good.0 (place_at b at) e good.1 good.2 bad)
    at_head c (root {q = q} there some place) on =
        let leads = placed K V E at q (place_at b at) (Ok q) place refl in
        let passes = accepted_passes K V E b k v fits at map.0 q m map.1 some leads in
        tree_is 32 at q r passes on ∙ ap Ok (root_finds K V E b k v fits at map.0 m map.1 some q leads comparisons)

    -- what a lookup returns in an accepted map
    pub lookup_is : LookupGives K V E b comparison KR VR at r → r ≡ Ok (searched_map (layout_of K V E) b comparisons at).0
    lookup_is t = at_head t.result t.gives t.goes_on
