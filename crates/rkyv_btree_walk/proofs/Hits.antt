-- An entry that a search finds is a hit; and along an ordered list it finds one if there is one. Greater ranks above
-- Equal, and Equal above Less: along an ordered list the ranks fall.
use Rattle.std.proofs.Common.{◌≡◌, ℕ, zero, suc, ◌≤◌, ◌<◌, List, [], ◌∷◌, ◌++◌, length, map, refl, ap, sym, arith, Option, Some, None, ◌⊎◌, inl, inr, IsSome, append_assoc, false, true, slice_get}
use Rattle.std.proofs.lemmas.List.{append-nil}
use Rattle.std.specs.List.{All, HoldsAt}
use Rattle.std.specs.Option.{option_map}
use Rattle.std.specs.declared.cmp.Ordering.{Ordering}
use Rattle.std.specs.declared.cmp.Ordering.TheVariants.{Less, Equal, Greater}
use Rattle.rkyv_btree_shape.specs.Tree.{Tree, leaf, inner, Row, last, step, Child, absent, child, list, row_list, child_list}
use Rattle.std.specs.Ordering.{match_ordering}
use Rattle.rkyv_btree_walk.specs.Search.{IsSearch, compared_in_leaf, compared_entries, compared_in_row, compared_in_child, first_equal, probe, OrderedBy, AnyHit, IsHit}

abbrev pub rank : Ordering → ℕ
rank Less = 0
rank Equal = 1
rank Greater = 2

module _ {X : Type 0} (c : X → Ordering) where
  abbrev pub NoneAbove : ℕ → List X → Type 0
  NoneAbove n [] = Unit {0}
  NoneAbove n (x ∷ xs) = (rank (c x) ≤ n) × NoneAbove n xs

  abbrev NoneBelow : ℕ → List X → Type 0
  NoneBelow n [] = Unit {0}
  NoneBelow n (x ∷ xs) = (n ≤ rank (c x)) × NoneBelow n xs

  -- no entry ranks above an earlier one
  abbrev pub Falls : List X → Type 0
  Falls [] = Unit {0}
  Falls (x ∷ xs) = NoneAbove (rank (c x)) xs × Falls xs

  abbrev Exists : List X → Type 0
  Exists [] = ⊥
  Exists (x ∷ xs) = (c x ≡ Equal) ⊎ Exists xs

  none_left : (n : ℕ) (xs ys : List X) → NoneAbove n (xs ++ ys) → NoneAbove n xs
  none_left n [] ys h = tt
  none_left n (x ∷ xs) ys h = (h.0, none_left n xs ys h.1)

  none_right : (n : ℕ) (xs ys : List X) → NoneAbove n (xs ++ ys) → NoneAbove n ys
  none_right n [] ys h = h
  none_right n (x ∷ xs) ys h = none_right n xs ys h.1

  falls_left : (xs ys : List X) → Falls (xs ++ ys) → Falls xs
  falls_left [] ys h = tt
  falls_left (x ∷ xs) ys h = (none_left (rank (c x)) xs ys h.0, falls_left xs ys h.1)

  falls_right : (xs ys : List X) → Falls (xs ++ ys) → Falls ys
  falls_right [] ys h = h
  falls_right (x ∷ xs) ys h = falls_right xs ys h.1

  falls_across : (xs : List X) (y : X) (ys : List X) → Falls (xs ++ y ∷ ys) → NoneBelow (rank (c y)) xs
  falls_across [] y ys h = tt
  falls_across (x ∷ xs) y ys h = ((none_right (rank (c x)) xs (y ∷ ys) h.0).0, falls_across xs y ys h.1)

  -- a list of one rank, before entries that don't rank above it
  falls_same : (o : Ordering) (xs ys : List X) → All (λ x. c x ≡ o) xs → NoneAbove (rank o) ys → Falls ys → NoneAbove (rank o) (xs ++ ys) × Falls (xs ++ ys)
  falls_same o [] ys all above falls = (above, falls)
  falls_same o (x ∷ xs) ys all above falls =
      let e : c x ≡ o = all 0 x (omega arith) in
      let r = falls_same o xs ys (λ k d h. all (suc k) d (omega arith)) above falls in
      ((omega (arith, ap rank e), r.0), (rw e r.0, r.1))

  none_more : (m n : ℕ) (xs : List X) → m ≤ n → NoneAbove m xs → NoneAbove n xs
  none_more m n [] h a = tt
  none_more m n (x ∷ xs) h a = (omega (arith, a.0), none_more m n xs h a.1)

  pub ordered_falls : (xs : List X) → OrderedBy c xs → Falls xs
  ordered_falls xs h =
      let greater = h.0 in let equal = h.1 in let less = h.2 in
      let r = falls_same Less less [] h.6 tt tt in
      let s = falls_same Equal equal (less ++ []) h.5 (none_more 0 1 (less ++ []) (omega arith) r.0) r.1 in
      let t = falls_same Greater greater (equal ++ (less ++ [])) h.4 (none_more 1 2 (equal ++ (less ++ [])) (omega arith) s.0) s.1 in
      rw (h.3, append_assoc) (rw append-nil at t.1)

  exists_from : (xs : List X) (i : ℕ) → i < length xs → HoldsAt (λ y. c y ≡ Equal) xs i → Exists xs
  exists_from [] i low e = absurd (omega arith)
  exists_from (x ∷ xs) zero low e = inl (e x)
  exists_from (x ∷ xs) (suc i) low e = inr (exists_from xs i (omega arith) e)

  exists_cases : (xs ys : List X) → Exists (xs ++ ys) → Exists xs ⊎ Exists ys
  exists_cases [] ys h = inr h
  exists_cases (x ∷ xs) ys h = elim h [ inl e ↦ inl (inl e) | inr r ↦ elim (exists_cases xs ys r) [ inl a ↦ inl (inr a) | inr b ↦ inr b ] ]

  -- where every entry ranks above Equal there is none that gives it, nor where every entry ranks below
  all_greater : (xs : List X) → NoneBelow 2 xs → Exists xs → ⊥
  all_greater [] low h = h
  all_greater (x ∷ xs) low h = elim h [ inl e ↦ let l : 2 ≤ rank (c x) = low.0 in let r = rw e at l in omega arith | inr r ↦ all_greater xs low.1 r ]

  all_less : (xs : List X) → NoneAbove 0 xs → Exists xs → ⊥
  all_less [] low h = h
  all_less (x ∷ xs) low h = elim h [ inl e ↦ let l : rank (c x) ≤ 0 = low.0 in let r = rw e at l in omega arith | inr r ↦ all_less xs low.1 r ]

  leaf_finds : (xs : List X) → Falls xs → Exists xs → IsSome (first_equal c (compared_in_leaf c xs))
  leaf_finds [] f h = absurd h
  leaf_finds (x ∷ xs) f h =
      elim (c x) as (λ o. c x ≡ o → IsSome (match_ordering o (first_equal c (match_ordering o [] [] (compared_in_leaf c xs))) (Some x) (first_equal c (match_ordering o [] [] (compared_in_leaf c xs))))) [
        | Less ↦ λ e. absurd (elim h [ inl q ↦ cc | inr r ↦ all_less xs (rw e at f.0) r ])
        | Equal ↦ λ e. refl
        | Greater ↦ λ e. leaf_finds xs f.1 (elim h [ inl q ↦ cc | inr r ↦ r ])
      ] refl

  mutual
    tree_finds : (t : Tree X) → Falls (list t) → Exists (list t) → IsSome (first_equal c (compared_entries c t))
    tree_finds (leaf xs) f h = leaf_finds xs f h
    tree_finds (inner row) f h = row_finds row f h

    row_finds : (r : Row X) → Falls (row_list r) → Exists (row_list r) → IsSome (first_equal c (compared_in_row c r))
    row_finds (last d) f h = child_finds d f h
    row_finds (step d x r) f h =
        let across = falls_across (child_list d) x (row_list r) f in
        let left = falls_left (child_list d) (x ∷ row_list r) f in
        let right = falls_right (child_list d) (x ∷ row_list r) f in
        let parts = exists_cases (child_list d) (x ∷ row_list r) h in
        elim (c x) as (λ o. c x ≡ o → IsSome (match_ordering o (first_equal c (match_ordering o (compared_in_child c d) [] (compared_in_row c r))) (Some x) (first_equal c (match_ordering o (compared_in_child c d) [] (compared_in_row c r))))) [
          | Less ↦ λ e. child_finds d left (elim parts [ inl q ↦ q | inr q ↦ absurd (elim q [ inl z ↦ cc | inr z ↦ all_less (row_list r) (rw e at right.0) z ]) ])
          | Equal ↦ λ e. refl
          | Greater ↦ λ e. row_finds r right.1 (elim parts [ inl q ↦ absurd (all_greater (child_list d) (rw e at across) q) | inr q ↦ elim q [ inl z ↦ cc | inr z ↦ z ] ])
        ] refl

    child_finds : (d : Child X) → Falls (child_list d) → Exists (child_list d) → IsSome (first_equal c (compared_in_child c d))
    child_finds absent f h = absurd h
    child_finds (child t) f h = tree_finds t f h

-- x is an entry of the list
abbrev IsIn : {X : Type 0} → X → List X → Type 0
IsIn x [] = ⊥
IsIn x (y ∷ ys) = (y ≡ x) ⊎ IsIn x ys

module _ {X : Type 0} where
  in_left : (x : X) (xs ys : List X) → IsIn x xs → IsIn x (xs ++ ys)
  in_left x [] ys h = absurd h
  in_left x (z ∷ xs) ys h = elim h [ inl e ↦ inl e | inr r ↦ inr (in_left x xs ys r) ]

  in_right : (x : X) (xs ys : List X) → IsIn x ys → IsIn x (xs ++ ys)
  in_right x [] ys h = h
  in_right x (z ∷ xs) ys h = inr (in_right x xs ys h)

  in_at : (x : X) (xs : List X) → IsIn x xs → (i : ℕ) × (i < length xs) × HoldsAt (λ y. y ≡ x) xs i
  in_at x [] h = absurd h
  in_at x (y ∷ xs) h = elim h [ inl e ↦ (0, omega arith, λ d. e) | inr r ↦ let q = in_at x xs r in (suc q.0, omega (arith, q.1), q.2) ]

  in_get : (x : X) (xs : List X) → IsIn x xs → (i : ℕ) × (slice_get xs i ≡ Some x)
  in_get x [] h = absurd h
  in_get x (y ∷ xs) h = elim h [ inl e ↦ (0, ap Some e) | inr r ↦ let q = in_get x xs r in (suc q.0, q.1) ]

  in_map : {Y : Type 0} (f : X → Y) (x : X) (xs : List X) → IsIn x xs → IsIn (f x) (map f xs)
  in_map f x [] h = absurd h
  in_map f x (y ∷ xs) h = elim h [ inl e ↦ inl (ap f e) | inr r ↦ inr (in_map f x xs r) ]

module _ {X : Type 0} (c : X → Ordering) where
  first_sound : (xs : List X) (x : X) → first_equal c xs ≡ Some x → (c x ≡ Equal) × IsIn x xs
  first_sound [] x h = cc
  first_sound (y ∷ xs) x h =
      (elim (c y) as (λ o. c y ≡ o → match_ordering o (first_equal c xs) (Some y) (first_equal c xs) ≡ Some x → (c x ≡ Equal) × ((y ≡ x) ⊎ IsIn x xs)) [
        | Less ↦ λ e q. let r = first_sound xs x q in (r.0, inr r.1)
        | Equal ↦ λ e q. let s : y ≡ x = cc in (rw s at e, inl s)
        | Greater ↦ λ e q. let r = first_sound xs x q in (r.0, inr r.1)
      ]) refl h

  leaf_asks : (xs : List X) (x : X) → IsIn x (compared_in_leaf c xs) → IsIn x xs
  leaf_asks [] x h = h
  leaf_asks (y ∷ xs) x h =
      elim h [
        | inl e ↦ inl e
        | inr r ↦ inr ((elim (c y) as (λ o. IsIn x (match_ordering o [] [] (compared_in_leaf c xs)) → IsIn x xs) [ Less ↦ λ q. absurd q | Equal ↦ λ q. absurd q | Greater ↦ λ q. leaf_asks xs x q ]) r)
      ]

  mutual
    -- what a search asks is in the list
    tree_asks : (t : Tree X) (x : X) → IsIn x (compared_entries c t) → IsIn x (list t)
    tree_asks (leaf xs) x h = leaf_asks xs x h
    tree_asks (inner row) x h = row_asks row x h

    row_asks : (r : Row X) (x : X) → IsIn x (compared_in_row c r) → IsIn x (row_list r)
    row_asks (last d) x h = child_asks d x h
    row_asks (step d y r) x h =
        elim h [
          | inl e ↦ in_right x (child_list d) (y ∷ row_list r) (inl e)
          | inr q ↦ (elim (c y) as (λ o. IsIn x (match_ordering o (compared_in_child c d) [] (compared_in_row c r)) → IsIn x (child_list d ++ y ∷ row_list r)) [
            | Less ↦ λ z. in_left x (child_list d) (y ∷ row_list r) (child_asks d x z)
            | Equal ↦ λ z. absurd z
            | Greater ↦ λ z. in_right x (child_list d) (y ∷ row_list r) (inr (row_asks r x z))
          ]) q
        ]

    child_asks : (d : Child X) (x : X) → IsIn x (compared_in_child c d) → IsIn x (child_list d)
    child_asks absent x h = h
    child_asks (child t) x h = tree_asks t x h

-- a tree of places, seen as the list of what the places mean
module _ {X Y : Type 0} (f : X → Y) (c : Y → Ordering) where
  pub falls_map : (xs : List X) → Falls c (map f xs) → Falls (λ x. c (f x)) xs
  falls_map [] h = tt
  falls_map (x ∷ xs) h = (above (rank (c (f x))) xs h.0, falls_map xs h.1) where
    above : (n : ℕ) (xs : List X) → NoneAbove c n (map f xs) → NoneAbove (λ x. c (f x)) n xs
    above n [] h = tt
    above n (x ∷ xs) h = (h.0, above n xs h.1)

  exists_map : (xs : List X) → Exists c (map f xs) → Exists (λ x. c (f x)) xs
  exists_map [] h = h
  exists_map (x ∷ xs) h = elim h [ inl e ↦ inl e | inr r ↦ inr (exists_map xs r) ]

  probe_hits : (t : Tree X) (x : X) → probe (λ x. c (f x)) t ≡ Some x → IsHit c (map f (list t)) (f x)
  probe_hits t x h =
      let s = first_sound (λ x. c (f x)) (compared_entries (λ x. c (f x)) t) x h in
      let q = in_at (f x) (map f (list t)) (in_map f x (list t) (tree_asks (λ x. c (f x)) t x s.1)) in
      (s.0, q.0, q.1, q.2)

  probe_completes : (t : Tree X) → OrderedBy c (map f (list t)) → AnyHit c (map f (list t)) → IsSome (probe (λ x. c (f x)) t)
  probe_completes t o h =
      tree_finds (λ x. c (f x)) t (falls_map (list t) (ordered_falls c (map f (list t)) o))
      (exists_map (list t) (exists_from c (map f (list t)) h.0 h.1 h.2))

  none_there : false ≡ true → ⊥
  none_there s = cc

  -- what the probe finds has all that a lookup promises
  pub probe_finds : (t : Tree X) (found : Option X) → found ≡ probe (λ x. c (f x)) t → IsSearch c f t (option_map f found)
  probe_finds t None is = record {
    probed = ap (option_map f) is;
    hit = tt;
    complete = λ o. (λ s. absurd (none_there s), λ h. absurd (none_there (rw (← is) at (probe_completes t o h))));
  }
  probe_finds t (Some x) is = record {
    probed = ap (option_map f) is;
    hit = probe_hits t x (sym is);
    complete = λ o. (λ s. let h = probe_hits t x (sym is) in (h.1, h.2, λ d. rw (h.3 d) h.0), λ h. refl);
  }

-- what a probe finds is an entry of the tree
pub probe_is_entry : {X : Type 0} (comparison : X → Ordering) (t : Tree X) (x : X) → probe comparison t ≡ Some x → (i : ℕ) × (slice_get (list t) i ≡ Some x)
probe_is_entry comparison t x h = let s = first_sound comparison (compared_entries comparison t) x h in in_get x (list t) (tree_asks comparison t x s.1)
