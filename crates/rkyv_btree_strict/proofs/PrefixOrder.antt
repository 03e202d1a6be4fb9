-- Where keys increase, those before a prefix come first, and then those that begin with it.
use Rattle.std.proofs.Common.{◌≡◌, ℕ, zero, suc, ◌<◌, ◌&&◌, true, false, nat_eq, List, [], ◌∷◌, ◌++◌, map, refl, ap, ◌∙◌, arith}
use Rattle.std.proofs.lemmas.Bool.Decides.{nat_tests}
use Rattle.std.specs.Cmp.Lexicographic.{slice_cmp}
use Rattle.std.specs.List.{All, AllByRecursion, starts_with}
use Rattle.std.specs.List.Sorted.{IsStrictlySortedBy}
use Rattle.std.specs.Ordering.{nat_cmp, ordering_then, is_le, is_ge}
use Rattle.std.specs.declared.cmp.Ordering.{Ordering}
use Rattle.std.specs.declared.cmp.Ordering.TheVariants.{Less, Equal, Greater}
use Rattle.rkyv_btree_walk.specs.Search.{OrderedBy}
use Rattle.rkyv_btree_format.specs.Increasing.{Increasing}
use Rattle.rkyv_btree_strict.specs.Prefix.{prefix_cmp}

-- the order of two numbers before a third

less_is : (n m : ℕ) → nat_cmp n m ≡ Less → n < m
less_is n m h = grind (arith, nat_tests)

is_less : (n m : ℕ) → n < m → nat_cmp n m ≡ Less
is_less n m h = grind (arith, nat_tests)

equal_is : (n m : ℕ) → nat_cmp n m ≡ Equal → n ≡ m
equal_is n m h = grind (arith, nat_tests)

is_equal : (n m : ℕ) → n ≡ m → nat_cmp n m ≡ Equal
is_equal n m h = grind (arith, nat_tests)

-- a key that is greater than one past the prefix is past it
pub past : (p x y : List ℕ) → slice_cmp nat_cmp x y ≡ Less → prefix_cmp p x ≡ Less → prefix_cmp p y ≡ Less
past [] x y less h = absurd (cc h)
past (a ∷ p) [] y less h = absurd (cc h)
past (a ∷ p) (b ∷ x) [] less h = absurd (cc less)
past (a ∷ p) (b ∷ x) (c ∷ y) less h =
    (elim (nat_cmp b c) as (λ o. nat_cmp b c ≡ o → ordering_then o (slice_cmp nat_cmp x y) ≡ Less → prefix_cmp (a ∷ p) (c ∷ y) ≡ Less) [
      | Less ↦ λ e l. first_less (less_is b c e)
      | Equal ↦ λ e l. first_equal (past p x y) (equal_is b c e) l
      | Greater ↦ λ e l. absurd (cc l)
    ]) refl less
  where
    first_less : b < c → prefix_cmp (a ∷ p) (c ∷ y) ≡ Less
    first_less bc =
        (elim (nat_cmp a b) as (λ o. nat_cmp a b ≡ o → ordering_then o (prefix_cmp p x) ≡ Less → prefix_cmp (a ∷ p) (c ∷ y) ≡ Less) [
          | Less ↦ λ e l. let ab = less_is a b e in rw (is_less a c (omega arith)) refl
          | Equal ↦ λ e l. let ab = equal_is a b e in rw (is_less a c (omega arith)) refl
          | Greater ↦ λ e l. absurd (cc l)
        ]) refl h

    first_equal : (slice_cmp nat_cmp x y ≡ Less → prefix_cmp p x ≡ Less → prefix_cmp p y ≡ Less) → b ≡ c → slice_cmp nat_cmp x y ≡ Less → prefix_cmp (a ∷ p) (c ∷ y) ≡ Less
    first_equal rest bc xy =
        (elim (nat_cmp a b) as (λ o. nat_cmp a b ≡ o → ordering_then o (prefix_cmp p x) ≡ Less → prefix_cmp (a ∷ p) (c ∷ y) ≡ Less) [
          | Less ↦ λ e l. let ab = less_is a b e in rw (is_less a c (omega arith)) refl
          | Equal ↦ λ e l. let ab = equal_is a b e in rw (is_equal a c (ab ∙ bc)) (rest xy l)
          | Greater ↦ λ e l. absurd (cc l)
        ]) refl h

-- a key that is greater than one with the prefix isn't before it
pub beside : (p x y : List ℕ) → slice_cmp nat_cmp x y ≡ Less → prefix_cmp p x ≡ Equal → prefix_cmp p y ≡ Greater → ⊥
beside [] x y less h g = cc g
beside (a ∷ p) [] y less h g = cc h
beside (a ∷ p) (b ∷ x) [] less h g = cc less
beside (a ∷ p) (b ∷ x) (c ∷ y) less h g =
    (elim (nat_cmp a b) as (λ o. nat_cmp a b ≡ o → ordering_then o (prefix_cmp p x) ≡ Equal → ⊥) [
      | Less ↦ λ e l. cc l
      | Equal ↦ λ e l. same (beside p x y) (equal_is a b e) l
      | Greater ↦ λ e l. cc l
    ]) refl h
  where
    same : (slice_cmp nat_cmp x y ≡ Less → prefix_cmp p x ≡ Equal → prefix_cmp p y ≡ Greater → ⊥) → a ≡ b → prefix_cmp p x ≡ Equal → ⊥
    same rest ab px =
        (elim (nat_cmp b c) as (λ o. nat_cmp b c ≡ o → ordering_then o (slice_cmp nat_cmp x y) ≡ Less → ⊥) [
          | Less ↦ λ e l. (let bc = less_is b c e in let first : nat_cmp a c ≡ Less = is_less a c (omega arith) in cc (rw first at g))
          | Equal ↦ λ e l. (let bc = equal_is b c e in rest l px (rw (is_equal a c (ab ∙ bc)) at g))
          | Greater ↦ λ e l. cc l
        ]) refl less

-- a key is equal to the prefix if it begins with it
pub equal_begins : (p k : List ℕ) → (is_le (prefix_cmp p k) && is_ge (prefix_cmp p k)) ≡ starts_with nat_eq k p
equal_begins [] k = refl
equal_begins (a ∷ p) [] = refl
equal_begins (a ∷ p) (b ∷ k) =
    (elim (nat_cmp a b) as (λ o. nat_cmp a b ≡ o → (is_le (ordering_then o (prefix_cmp p k)) && is_ge (ordering_then o (prefix_cmp p k))) ≡ (nat_eq a b && starts_with nat_eq k p)) [
      | Less ↦ λ e. rw (unequal (λ same. (let l = less_is a b e in omega arith))) refl
      | Equal ↦ λ e. rw (equal (equal_is a b e)) (equal_begins p k)
      | Greater ↦ λ e. rw (unequal (λ same. (let l = is_equal a b same in cc))) refl
    ]) refl
  where
    equal : a ≡ b → nat_eq a b ≡ true
    equal h = grind (arith, nat_tests)

    unequal : (a ≡ b → ⊥) → nat_eq a b ≡ false
    unequal h = grind (arith, nat_tests)

module _ {B : Type 0} (p : List ℕ) where
  abbrev at : List ℕ × B → Ordering
  at e = prefix_cmp p e.0

  abbrev Below : List ℕ → List (List ℕ × B) → Type 0
  Below k es = AllByRecursion (λ y. slice_cmp nat_cmp k y ≡ Less) (map (λ e. e.0) es)

  none : (P : List ℕ × B → Type 0) → All P []
  none P i d less = absurd (omega arith)

  more : (P : List ℕ × B → Type 0) (x : List ℕ × B) (xs : List (List ℕ × B)) → P x → All P xs → All P (x ∷ xs)
  more P x xs h all zero d less = h
  more P x xs h all (suc i) d less = all i d (omega arith)

  all_past : (k : List ℕ) (es : List (List ℕ × B)) → prefix_cmp p k ≡ Less → Below k es → All (λ e. at e ≡ Less) es
  all_past k [] less below = none _
  all_past k (e ∷ es) less below = more (λ e. at e ≡ Less) e es (past p k e.0 below.0 less) (all_past k es less below.1)

  -- after a key with the prefix no key is before it
  none_before : (k : List ℕ) (xs greater equal less : List (List ℕ × B)) → prefix_cmp p k ≡ Equal → Below k xs → xs ≡ greater ++ equal ++ less → All (λ e. at e ≡ Greater) greater → greater ≡ []
  none_before k xs [] equal less same below parts g = refl
  none_before k [] (z ∷ zs) equal less same below parts g = absurd (cc parts)
  none_before k (x ∷ xs) (z ∷ zs) equal less same below parts g =
      let first : x ≡ z = cc in
      absurd (beside p k x.0 below.0 same (ap at first ∙ g 0 z (omega arith)))

  pub ordered : (es : List (List ℕ × B)) → Increasing (slice_cmp nat_cmp) es → OrderedBy at es
  unfolding IsStrictlySortedBy
  ordered [] h = ([], [], [], refl, none _, none _, none _)
  ordered (x ∷ xs) h =
      elim (prefix_cmp p x.0) as (λ o. prefix_cmp p x.0 ≡ o → OrderedBy at (x ∷ xs)) [
        | Less ↦ λ e. ([], [], x ∷ xs, refl, none _, none _, more (λ e. at e ≡ Less) x xs e (all_past x.0 xs e h.0))
        | Equal ↦ λ e. (
            let r = ordered xs h.1 in
            let no = none_before x.0 xs r.0 r.1 r.2 e h.0 r.3 r.4 in
            ([], x ∷ r.1, r.2, ap (λ (zs : List (List ℕ × B)). x ∷ zs) (r.3 ∙ ap (λ (zs : List (List ℕ × B)). zs ++ r.1 ++ r.2) no), none _, more (λ e. at e ≡ Equal) x r.1 e r.5, r.6)
            )
        | Greater ↦ λ e. let r = ordered xs h.1 in (x ∷ r.0, r.1, r.2, ap (λ (zs : List (List ℕ × B)). x ∷ zs) r.3, more (λ e. at e ≡ Greater) x r.0 e r.4, r.5, r.6)
      ] refl
