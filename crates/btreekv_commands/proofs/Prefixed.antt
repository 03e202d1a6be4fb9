-- Of entries whose keys increase, those from a prefix on begin with it up to the first that doesn't, and no others do.
use Rattle.std.proofs.Common.{◌≡◌, ℕ, ◌&&◌, List, [], ◌∷◌, map, filter, refl, sym, ◌∙◌, ap}
use Rattle.std.specs.Cmp.Lexicographic.{slice_cmp}
use Rattle.std.specs.List.{AllByRecursion}
use Rattle.std.specs.List.Sorted.{IsStrictlySortedBy}
use Rattle.std.specs.Ordering.{nat_cmp, ordering_then, is_le, is_ge}
use Rattle.std.specs.declared.cmp.Ordering.{Ordering}
use Rattle.std.specs.declared.cmp.Ordering.TheVariants.{Less, Equal, Greater}
use Rattle.std.specs.declared.ops.Bound.TheVariants.{Included, Unbounded}
use Rattle.rkyv_btree_strict.proofs.PrefixOrder.{past, equal_begins}
use Rattle.rkyv_btree_strict.specs.Prefix.{begins_with, prefix_cmp}
use Rattle.rkyv_btree_walk.specs.Bounds.{entries_within}
use Rattle.btreekv_commands.specs.Lines.{Entry}
use Rattle.btreekv_commands.specs.Opening.{KeysIncrease}
use Rattle.btreekv_commands.specs.Ranged.{sought}

-- a key isn't before a text where its first bytes aren't
front_from : (p k : List ℕ) → is_le (slice_cmp nat_cmp p k) ≡ is_le (prefix_cmp p k)
front_from [] [] = refl
front_from [] (b ∷ k) = refl
front_from (a ∷ p) [] = refl
front_from (a ∷ p) (b ∷ k) =
    elim (nat_cmp a b) as (λ o. is_le (ordering_then o (slice_cmp nat_cmp p k)) ≡ is_le (ordering_then o (prefix_cmp p k))) [
      | Less ↦ refl
      | Equal ↦ front_from p k
      | Greater ↦ refl
    ]

module _ (p : List ℕ) where
  abbrev Below : List ℕ → List Entry → Type 0
  Below k es = AllByRecursion (λ y. slice_cmp nat_cmp k y ≡ Less) (map (λ e. e.0) es)

  begins_at : (e : Entry) (o : Ordering) → prefix_cmp p e.0 ≡ o → begins_with p e ≡ (is_le o && is_ge o)
  begins_at e o is = sym (equal_begins p e.0) ∙ rw is refl

  from_at : (e : Entry) (o : Ordering) → prefix_cmp p e.0 ≡ o → is_le (slice_cmp nat_cmp p e.0) ≡ is_le o
  from_at e o is = front_from p e.0 ∙ rw is refl

  -- after a key past the prefix none begins with it
  none_begin : (k : List ℕ) (es : List Entry) → prefix_cmp p k ≡ Less → Below k es → filter (begins_with p) es ≡ []
  none_begin k [] less below = refl
  none_begin k (e ∷ es) less below = rw (begins_at e Less (past p k e.0 below.0 less)) (none_begin k es less below.1)

  abbrev from : List Entry → List Entry
  from es = entries_within (Included (slice_cmp nat_cmp p)) Unbounded es

  pub sought_begin : (es : List Entry) → KeysIncrease es → sought p (from es) ≡ filter (begins_with p) es
  unfolding IsStrictlySortedBy
  sought_begin [] h = refl
  sought_begin (x ∷ xs) h =
      elim (prefix_cmp p x.0) as (λ o. prefix_cmp p x.0 ≡ o → sought p (from (x ∷ xs)) ≡ filter (begins_with p) (x ∷ xs)) [
        | Less ↦ λ e. rw (from_at x Less e, begins_at x Less e) (sym (none_begin x.0 xs e h.0))
        | Equal ↦ λ e. rw (from_at x Equal e, begins_at x Equal e) (ap (λ zs. x ∷ zs) (sought_begin xs h.1))
        | Greater ↦ λ e. rw (from_at x Greater e, begins_at x Greater e) (sought_begin xs h.1)
      ] refl

-- every key begins with no bytes
pub sought_all : (es : List Entry) → sought [] es ≡ es
sought_all [] = refl
sought_all (x ∷ xs) = ap (λ zs. x ∷ zs) (sought_all xs)
