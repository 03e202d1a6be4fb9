-- The entries of a tree from a bound on: an end of its list, of which all pass if the test rises along the list.
use Rattle.std.proofs.Common.{◌≡◌, ℕ, zero, suc, ◌+◌, ◌-◌, ◌≤◌, ◌<◌, List, [], ◌∷◌, ◌++◌, refl, sym, ap, ◌∙◌, arith, append-nil, append_assoc, Bool, true, false, inl, inr, Option, Some, None}
use Rattle.std.specs.Prelude.{ℤ, pos, negsuc, filter}
use Rattle.std.proofs.lemmas.Bool.{cases_Bool, cases_lt, cases_eq, eq-eqb, ne_eqb}
use Rattle.std.proofs.lemmas.List.Elements.{filter-append}
use Rattle.rkyv_btree_portable.specs.Bytes.{number_at, place_at, target_at}
use Rattle.rkyv_btree_format.specs.Layout.{NodeLayout, len_at, pointer_at}
use Rattle.rkyv_btree_format.specs.Read.{run, child_of, row_at, tree_at, tree_of, map_tree}
use Rattle.rkyv_btree_shape.specs.Tree.{Tree, leaf, inner, Row, last, step, Child, absent, child, list, row_list, child_list}
use Rattle.rkyv_btree_unverified.proofs.Chains.{natural_is}
use Rattle.rkyv_btree_unverified.specs.EntriesFrom.{since, entries_from, row_from, child_from}
use Rattle.rkyv_btree_walk.proofs.Seeks.{all_kept, rises_left, rises_right, none_before}
use Rattle.rkyv_btree_walk.specs.Below.{root_place}
use Rattle.rkyv_btree_walk.specs.Nodes.{natural, is_leaf, child_place}
use Rattle.rkyv_btree_walk.specs.Paths.{row_rest, node_rest}
use Rattle.rkyv_btree_walk.specs.Bounds.{IsEnd}
use Rattle.rkyv_btree_walk.specs.mirror.Range.{IsFirst, Rises}

module _ {X : Type 0} (test : X → Bool) where
  since_end : (xs : List X) → IsEnd (since test xs) xs
  since_end [] = ([], refl)
  since_end (x ∷ xs) =
      elim (cases_Bool (test x)) [
        | inl t ↦ rw t ([], refl)
        | inr f ↦ let r = since_end xs in rw f (x ∷ r.0, ap (λ ys. x ∷ ys) r.1)
      ]

  since_kept : (xs : List X) → Rises test xs → since test xs ≡ filter test xs
  since_kept [] rises = refl
  since_kept (x ∷ xs) rises =
      elim (cases_Bool (test x)) [
        | inl t ↦ rw t (ap (λ ys. x ∷ ys) (sym (all_kept test xs (rises.0 t))))
        | inr f ↦ rw f (since_kept xs rises.1)
      ]

  mutual
    pub from_end : (t : Tree X) → IsEnd (entries_from test t) (list t)
    from_end (leaf xs) = since_end xs
    from_end (inner row) = row_end row

    row_end : (row : Row X) → IsEnd (row_from test row) (row_list row)
    row_end (last c) = child_end c
    row_end (step c x row) =
        elim (cases_Bool (test x)) [
          | inl t ↦ let r = child_end c in rw t (r.0, ap (λ ys. ys ++ x ∷ row_list row) r.1 ∙ append_assoc r.0 (child_from test c) (x ∷ row_list row))
          | inr f ↦ let r = row_end row in rw f (child_list c ++ x ∷ r.0, ap (λ ys. child_list c ++ x ∷ ys) r.1 ∙ sym (append_assoc (child_list c) (x ∷ r.0) (row_from test row)))
        ]

    child_end : (c : Child X) → IsEnd (child_from test c) (child_list c)
    child_end absent = ([], refl)
    child_end (child t) = from_end t

  mutual
    pub from_kept : (t : Tree X) → Rises test (list t) → entries_from test t ≡ filter test (list t)
    from_kept (leaf xs) rises = since_kept xs rises
    from_kept (inner row) rises = row_kept row rises

    row_kept : (row : Row X) → Rises test (row_list row) → row_from test row ≡ filter test (row_list row)
    row_kept (last c) rises = child_kept c rises
    row_kept (step c x row) rises =
        let right = rises_right test (child_list c) (x ∷ row_list row) rises in
        elim (cases_Bool (test x)) [
          | inl t ↦ rw (filter-append test (child_list c) (x ∷ row_list row), t, all_kept test (row_list row) (right.0 t)) (ap (λ ys. ys ++ x ∷ row_list row) (child_kept c (rises_left test (child_list c) (x ∷ row_list row) rises)))
          | inr f ↦ rw (filter-append test (child_list c) (x ∷ row_list row), none_before test (child_list c) x (row_list row) rises f, f) (row_kept row right.1)
        ]

    child_kept : (c : Child X) → Rises test (child_list c) → child_from test c ≡ filter test (child_list c)
    child_kept absent rises = refl
    child_kept (child t) rises = from_kept t rises

-- with no bound these are all
module _ {X : Type 0} where
  since_whole : (xs : List X) → since (λ _. true) xs ≡ xs
  since_whole [] = refl
  since_whole (x ∷ xs) = refl

  mutual
    pub from_whole : (t : Tree X) → entries_from (λ _. true) t ≡ list t
    from_whole (leaf xs) = since_whole xs
    from_whole (inner row) = row_whole row

    row_whole : (row : Row X) → row_from (λ _. true) row ≡ row_list row
    row_whole (last c) = child_whole c
    row_whole (step c x row) = ap (λ ys. ys ++ x ∷ row_list row) (child_whole c)

    child_whole : (c : Child X) → child_from (λ _. true) c ≡ child_list c
    child_whole absent = refl
    child_whole (child t) = from_whole t

module _ (s : NodeLayout) (b : List ℕ) (test : ℕ × ℕ → Bool) where
  -- those of the tree at p, of so many levels
  unfoldable pub tree_from : ℕ → ℕ → List (ℕ × ℕ)
  tree_from levels p = entries_from test (tree_at s b levels p)

  module _ (p j count : ℕ) (high : j ≤ count) (passes : j < count → test (p, j) ≡ true) where
    run_since : (n i : ℕ) → i + n ≡ count → i ≤ j → ((k : ℕ) → i ≤ k → k < j → test (p, k) ≡ false) → since test (run s b p n i) ≡ run s b p (count - j) j
    run_since zero i all low fails = let z : count - j ≡ 0 = omega (arith, all, low) in rw z refl
    run_since (suc n) i all low fails =
        elim (cases_lt i j) [
          | inl later ↦ rw (fails i (omega arith) later) (run_since n (i + 1) (omega (arith, all)) (omega (arith, later)) (λ k from to. fails k (omega (arith, from)) to))
          | inr here ↦
              let is : j ≡ i = omega (arith, here, low) in
              let t : test (p, i) ≡ true = rw is at (passes (omega (arith, is, all))) in
              let left : count - i ≡ suc n = omega (arith, all) in
              rw (is, t, left) refl
        ]

    row_since : (below : ℕ → Tree (ℕ × ℕ)) (n i : ℕ) → i + n ≡ count → i ≤ j → ((k : ℕ) → i ≤ k → k < j → test (p, k) ≡ false)
        → row_from test (row_at s b below p n i) ≡ child_from test (child_of s b below (target_at b (p + pointer_at s j))) ++ row_rest s b below p (count - j) j
    row_since below zero i all low fails =
        let is : j ≡ i = omega (arith, low, high, all) in
        let z : count - i ≡ 0 = omega (arith, all) in
        rw (is, z) (sym (append-nil _))
    row_since below (suc n) i all low fails =
        elim (cases_lt i j) [
          | inl later ↦ rw (fails i (omega arith) later) (row_since below n (i + 1) (omega (arith, all)) (omega (arith, later)) (λ k from to. fails k (omega (arith, from)) to))
          | inr here ↦
              let is : j ≡ i = omega (arith, here, low) in
              let t : test (p, i) ≡ true = rw is at (passes (omega (arith, is, all))) in
              let left : count - i ≡ suc n = omega (arith, all) in
              rw (is, t, left) refl
        ]

  module _ (m p j : ℕ) where
    -- in a leaf, from the first entry on that passes
    pub leaf_since : (n : ℕ) → is_leaf s b p ≡ true → n ≡ number_at b (p + len_at s) 4 → j ≤ n → IsFirst (λ i. test (p, i)) 0 n j → tree_from (suc m) p ≡ run s b p (n - j) j
    unfolding tree_from
    leaf_since n byte is low first = rw (byte, ← is) (run_since p j n low first.1 n 0 (omega arith) (omega arith) first.0)

    -- in an inner node, in the child before it, and then from it on
    pub inner_since : is_leaf s b p ≡ false → j ≤ s.E → IsFirst (λ i. test (p, i)) 0 s.E j → tree_from (suc m) p ≡ child_from test (child_of s b (tree_at s b m) (target_at b (p + pointer_at s j))) ++ node_rest s b m p j
    unfolding tree_from node_rest
    inner_since byte low first = rw byte (row_since p j s.E low first.1 (tree_at s b m) s.E 0 (omega arith) (omega arith) first.0)

  none_there : (below : ℕ → Tree (ℕ × ℕ)) (t : Option ℤ) → natural t ≡ None → child_from test (child_of s b below t) ≡ []
  none_there below None none = refl
  none_there below (Some (negsuc n)) none = refl
  none_there below (Some (pos q)) none = absurd (cc none)

  module _ (m p j : ℕ) (byte : is_leaf s b p ≡ false) (low : j ≤ s.E) (first : IsFirst (λ i. test (p, i)) 0 s.E j) where
    -- where there is no child, from it on
    pub absent_since : child_place s b p j ≡ None → tree_from (suc m) p ≡ node_rest s b m p j
    absent_since none = inner_since m p j byte low first ∙ ap (λ xs. xs ++ node_rest s b m p j) (none_there (tree_at s b m) (target_at b (p + pointer_at s j)) (rw byte at none))

    pub child_since : (q : ℕ) → child_place s b p j ≡ Some q → tree_from (suc m) p ≡ tree_from m q ++ node_rest s b m p j
    unfolding tree_from
    child_since q some = inner_since m p j byte low first ∙ rw (natural_is (target_at b (p + pointer_at s j)) q (rw byte at some)) refl

  root_since : (z : ℤ) (q : ℕ) → natural (Some z) ≡ Some q → entries_from test (tree_of s b z) ≡ tree_from 32 q
  unfolding tree_of tree_from
  root_since (negsuc n) q some = absurd (cc some)
  root_since (pos r) q some = let same : r ≡ q = cc some in rw same refl

  root_gone : (z : ℤ) → natural (Some z) ≡ None → entries_from test (tree_of s b z) ≡ []
  unfolding tree_of
  root_gone (negsuc n) none = refl
  root_gone (pos r) none = absurd (cc none)

  module _ (at : ℕ) where
    pub map_since : (q : ℕ) → root_place b at ≡ Some q → entries_from test (map_tree s b at) ≡ tree_from 32 q
    map_since q some =
        elim (cases_eq (number_at b (at + 4) 4) 0) [
          | inl e ↦ absurd (cc (rw (eq-eqb (number_at b (at + 4) 4) 0 e) at some))
          | inr e ↦ rw (ne_eqb (number_at b (at + 4) 4) 0 e) (root_since (place_at b at) q (rw (ne_eqb (number_at b (at + 4) 4) 0 e) at some))
        ]

    pub map_gone : root_place b at ≡ None → entries_from test (map_tree s b at) ≡ []
    map_gone none =
        elim (cases_eq (number_at b (at + 4) 4) 0) [
          | inl e ↦ rw (eq-eqb (number_at b (at + 4) 4) 0 e) refl
          | inr e ↦ rw (ne_eqb (number_at b (at + 4) 4) 0 e) (root_gone (place_at b at) (rw (ne_eqb (number_at b (at + 4) 4) 0 e) at none))
        ]
