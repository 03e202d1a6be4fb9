-- Which lists increase, and which entry is the first out of order.
use Rattle.std.proofs.Common.{◌≡◌, ℕ, suc, ◌+◌, ◌<◌, List, [], ◌∷◌, ◌++◌, length, Option, Some, None, refl, sym, ap, ◌∙◌, subst, arith, append_assoc, length-append}
use Rattle.std.specs.Cmp.{IsTotalOrder}
use Rattle.std.specs.List.Sorted.{IsStrictlySortedBy}
use Rattle.std.specs.Ordering.{match_ordering}
use Rattle.std.specs.Prelude.{MatchOption}
use Rattle.std.specs.declared.cmp.Ordering.{Ordering}
use Rattle.std.specs.declared.cmp.Ordering.TheVariants.{Less, Equal, Greater}
use Rattle.rkyv_btree_format.proofs.Increasing.{alone, increasing_snoc, nothing}
use Rattle.rkyv_btree_format.specs.Increasing.{Increasing, EachIsGreater, IsOutOfOrder}
use Rattle.rkyv_btree_strict.specs.mirror.Order.{unordered_after, unordered}

module _ {A B : Type 0} {order : A → A → Ordering} (total : IsTotalOrder order) where
  joined : (front : List (A × B)) (last e : A × B) (m : List (A × B)) → (front ++ last ∷ []) ++ e ∷ m ≡ front ++ last ∷ e ∷ m
  joined front last e m = append_assoc front (last ∷ []) (e ∷ m)

  -- what the search finds after entries that increase
  found_after : (front : List (A × B)) (last : A × B) (m : List (A × B)) (index : ℕ) → Increasing order (front ++ last ∷ []) → index ≡ length front + 1
      → MatchOption (unordered_after order last.0 m index) (Increasing order (front ++ last ∷ m)) (IsOutOfOrder order (front ++ last ∷ m))
  found_after front last [] index h number = h
  found_after front last (e ∷ m) index h number =
      elim (order last.0 e.0) as (λ o. order last.0 e.0 ≡ o
      → MatchOption (match_ordering o (unordered_after order e.0 m (index + 1)) (Some index) (Some index)) (Increasing order (front ++ last ∷ e ∷ m)) (IsOutOfOrder order (front ++ last ∷ e ∷ m))) [
        | Less ↦ λ less.
            let more : index + 1 ≡ length (front ++ last ∷ []) + 1 = omega (arith, length-append front (last ∷ [])) in
            subst (λ (l : List (A × B)). MatchOption (unordered_after order e.0 m (index + 1)) (Increasing order l) (IsOutOfOrder order l)) (joined front last e m)
            (found_after (front ++ last ∷ []) e m (index + 1) (increasing_snoc total front last e h less) more)
        | Equal ↦ λ is. record { front = front; before = last; entry = e; back = m; parts = refl; number = number; first = h; not_greater = λ less. cc }
        | Greater ↦ λ is. record { front = front; before = last; entry = e; back = m; parts = refl; number = number; first = h; not_greater = λ less. cc }
      ] refl

  -- what it finds in a list
  pub found : (m : List (A × B)) → MatchOption (unordered order m) (Increasing order m) (IsOutOfOrder order m)
  found [] = nothing B order
  found (e ∷ m) = found_after [] e m 1 (alone order e) refl

  -- in a list that increases each key is greater than the one before it
  less_next : (m front back : List (A × B)) (before e : A × B) → m ≡ front ++ before ∷ e ∷ back → Increasing order m → order before.0 e.0 ≡ Less
  unfolding IsStrictlySortedBy
  less_next [] [] back before e is h = absurd (cc)
  less_next [] (f ∷ front) back before e is h = absurd (cc)
  less_next (x ∷ []) [] back before e is h = absurd (cc)
  less_next (x ∷ y ∷ m) [] back before e is h =
      let same : x ≡ before = cc in
      let next : y ≡ e = cc in
      subst (λ (z : A × B). order z.0 e.0 ≡ Less) same (subst (λ (z : A × B). order x.0 z.0 ≡ Less) next h.0.0)
  less_next (x ∷ m) (f ∷ front) back before e is h = let rest : m ≡ front ++ before ∷ e ∷ back = cc in less_next m front back before e rest h.1

  pub each_is_greater : (m : List (A × B)) → Increasing order m → EachIsGreater order m
  each_is_greater m h front back before e is = less_next m front back before e is h

  -- and the other way round
  pub increasing_of_each : (m : List (A × B)) → EachIsGreater order m → Increasing order m
  increasing_of_each m each = case (unordered order m) (found m)
    where
      case : (r : Option ℕ) → MatchOption r (Increasing order m) (IsOutOfOrder order m) → Increasing order m
      case None h = h
      case (Some i) o = absurd (o.not_greater (each o.front o.back o.before o.entry o.parts))

  -- a list with an entry out of order doesn't increase
  pub not_both : (m : List (A × B)) (index : ℕ) → Increasing order m → IsOutOfOrder order m index → ⊥
  not_both m index h o = o.not_greater (each_is_greater m h o.front o.back o.before o.entry o.parts)

  -- two entries that are the first out of order have one number
  one_number : (f g k l : List (A × B)) (b c d e : A × B) → f ++ b ∷ d ∷ k ≡ g ++ c ∷ e ∷ l → Increasing order (f ++ b ∷ []) → Increasing order (g ++ c ∷ [])
      → ¬ (order b.0 d.0 ≡ Less) → ¬ (order c.0 e.0 ≡ Less) → length f ≡ length g
  unfolding IsStrictlySortedBy
  one_number [] [] k l b c d e is h i p q = refl
  one_number [] (x ∷ []) k l b c d e is h i p q =
      let same : x ≡ b = cc in
      let next : c ≡ d = cc in
      absurd (p (subst (λ (z : A × B). order z.0 d.0 ≡ Less) same (subst (λ (z : A × B). order x.0 z.0 ≡ Less) next i.0.0)))
  one_number [] (x ∷ y ∷ g) k l b c d e is h i p q =
      let same : x ≡ b = cc in
      let next : y ≡ d = cc in
      absurd (p (subst (λ (z : A × B). order z.0 d.0 ≡ Less) same (subst (λ (z : A × B). order x.0 z.0 ≡ Less) next i.0.0)))
  one_number (x ∷ []) [] k l b c d e is h i p q =
      let same : x ≡ c = cc in
      let next : b ≡ e = cc in
      absurd (q (subst (λ (z : A × B). order z.0 e.0 ≡ Less) same (subst (λ (z : A × B). order x.0 z.0 ≡ Less) next h.0.0)))
  one_number (x ∷ y ∷ f) [] k l b c d e is h i p q =
      let same : x ≡ c = cc in
      let next : y ≡ e = cc in
      absurd (q (subst (λ (z : A × B). order z.0 e.0 ≡ Less) same (subst (λ (z : A × B). order x.0 z.0 ≡ Less) next h.0.0)))
  one_number (x ∷ f) (y ∷ g) k l b c d e is h i p q =
      let rest : f ++ b ∷ d ∷ k ≡ g ++ c ∷ e ∷ l = cc in
      ap suc (one_number f g k l b c d e rest h.1 i.1 p q)

  pub one_index : (m : List (A × B)) (i j : ℕ) → IsOutOfOrder order m i → IsOutOfOrder order m j → i ≡ j
  one_index m i j o p =
      let same = one_number o.front p.front o.back p.back o.before p.before o.entry p.entry (sym o.parts ∙ p.parts) o.first p.first o.not_greater p.not_greater in
      o.number ∙ ap (λ n. n + 1) same ∙ sym p.number

-- the steps of the search: what is left of a list decides it, as all does
module _ {A B : Type 0} (order : A → A → Ordering) (all : List (A × B)) where
  abbrev Decided : Option ℕ → Type 0
  Decided r = MatchOption r (Increasing order all) (IsOutOfOrder order all)

  -- an entry that isn't greater is out of order
  pub stops : (last key : A) (value : B) (left more : List (A × B)) (index : ℕ) → ¬ (order last key ≡ Less) → left ≡ (key, value) ∷ more
      → Decided (unordered_after order last left index) → IsOutOfOrder order all index
  stops last key value left more index not_less parts h =
      let here : Decided (match_ordering (order last key) (unordered_after order key more (index + 1)) (Some index) (Some index)) = subst (λ (m : List (A × B)). Decided (unordered_after order last m index)) parts h in
      (elim (order last key) as (λ o. order last key ≡ o → Decided (match_ordering o (unordered_after order key more (index + 1)) (Some index) (Some index)) → IsOutOfOrder order all index) [
        | Less ↦ λ is d. absurd (not_less is)
        | Equal ↦ λ is d. d
        | Greater ↦ λ is d. d
      ]) refl here

  -- after one that is greater the search goes on
  pub goes_on : (last key : A) (value : B) (left more : List (A × B)) (index : ℕ) → order last key ≡ Less → left ≡ (key, value) ∷ more
      → Decided (unordered_after order last left index) → Decided (unordered_after order key more (index + 1))
  goes_on last key value left more index less parts h =
      let here : Decided (match_ordering (order last key) (unordered_after order key more (index + 1)) (Some index) (Some index)) = subst (λ (m : List (A × B)). Decided (unordered_after order last m index)) parts h in
      subst (λ (o : Ordering). Decided (match_ordering o (unordered_after order key more (index + 1)) (Some index) (Some index))) less here

  pub starts : (first : A) (value : B) (more : List (A × B)) → all ≡ (first, value) ∷ more → Decided (unordered order all) → Decided (unordered_after order first more 1)
  starts first value more parts h = subst (λ (m : List (A × B)). Decided (unordered order m)) parts h

  pub ends : (last : A) (left : List (A × B)) (index : ℕ) → left ≡ [] → Decided (unordered_after order last left index) → Increasing order all
  ends last left index empty h = subst (λ (m : List (A × B)). Decided (unordered_after order last m index)) empty h

  pub none : all ≡ [] → Decided (unordered order all) → Increasing order all
  none empty h = subst (λ (m : List (A × B)). Decided (unordered order m)) empty h

pub first_counted : {X : Type 0} (all more : List X) (x : X) → all ≡ x ∷ more → 1 + length more ≡ length all
first_counted all more x parts = let e : length all ≡ length (x ∷ more) = ap length parts in omega (arith, e)

pub next_counted : {X : Type 0} (all left more : List X) (x : X) (index : ℕ) → left ≡ x ∷ more → index + length left ≡ length all → index + 1 + length more ≡ length all
next_counted all left more x index parts count = let e : length left ≡ length (x ∷ more) = ap length parts in omega (arith, e, count)

pub few : {X : Type 0} (all left more : List X) (x : X) (index len : ℕ) → left ≡ x ∷ more → index + length left ≡ length all → len ≡ length all → len < 18446744073709551616 → index + 1 < 18446744073709551616
few all left more x index len parts count is small = let e : length left ≡ length (x ∷ more) = ap length parts in omega (arith, e, count, is, small)
