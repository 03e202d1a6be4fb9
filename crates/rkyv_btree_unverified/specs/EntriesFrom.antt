-- Which entries of a tree are in a range, whatever order they are in: where it begins as a search for its low bound finds it, and
-- where it ends at the first key past its high one.
use Rattle.std.specs.Prelude.{ℕ, List, [], ◌∷◌, ◌++◌, map, Bool, true, false, if◌then◌else◌}
use Rattle.std.specs.Ordering.{is_le, is_lt}
use Rattle.std.specs.declared.cmp.Ordering.{Ordering}
use Rattle.std.specs.declared.ops.Bound.{Bound}
use Rattle.std.specs.declared.ops.Bound.TheVariants.{Included, Excluded, Unbounded}
use Rattle.rkyv_btree_portable.specs.Kind.{Kind}
use Rattle.rkyv_btree_format.specs.Layout.{layout_of}
use Rattle.rkyv_btree_format.specs.Read.{entry_at, map_tree}
use Rattle.rkyv_btree_shape.specs.Tree.{Tree, leaf, inner, Row, last, step, Child, absent, child, row_list}
use Rattle.rkyv_btree_unverified.specs.Steps.{key_place}

module _ {X : Type 0} (test : X → Bool) where
  -- the elements before the first that passes a test
  abbrev pub until : List X → List X
  until [] = []
  until (x ∷ xs) = if test x then [] else x ∷ until xs

  -- and those from it on
  abbrev pub since : List X → List X
  since [] = []
  since (x ∷ xs) = if test x then x ∷ xs else since xs

  -- the entries of a tree from where a search comes to: in each node it goes into the child before the node's first entry that
  -- passes, or into the last one, and all entries after that child follow
  abbrev mutual
    pub entries_from : Tree X → List X
    entries_from (leaf xs) = since xs
    entries_from (inner row) = row_from row

    pub row_from : Row X → List X
    row_from (last c) = child_from c
    row_from (step c x row) = if test x then child_from c ++ x ∷ row_list row else row_from row

    pub child_from : Child X → List X
    child_from absent = []
    child_from (child t) = entries_from t

module _ {T : Type 0} (compared : T → List ℕ → ℕ → Ordering) (b : List ℕ) where
  -- whether the key at a position isn't before a low bound
  abbrev pub is_from_place : Bound T → ℕ → Bool
  is_from_place Unbounded at = true
  is_from_place (Included n) at = is_le (compared n b at)
  is_from_place (Excluded n) at = is_lt (compared n b at)

  -- whether it is past a high one
  abbrev pub is_past_place : Bound T → ℕ → Bool
  is_past_place Unbounded at = false
  is_past_place (Included n) at = is_lt (compared n b at)
  is_past_place (Excluded n) at = is_le (compared n b at)

module _ (K V : Kind) (E : ℕ) {T : Type 0} (compared : T → List ℕ → ℕ → Ordering) (b : List ℕ) where
  -- the same of entries, by their keys
  abbrev pub from_place : Bound T → ℕ × ℕ → Bool
  from_place low e = is_from_place compared b low (key_place K V E e)

  abbrev pub past_place : Bound T → ℕ × ℕ → Bool
  past_place high e = is_past_place compared b high (key_place K V E e)

  -- the places of the entries from a low bound on, in the map at a position
  abbrev pub places_from : Bound T → ℕ → List (ℕ × ℕ)
  places_from low at = entries_from (from_place low) (map_tree (layout_of K V E) b at)

  -- the entries from a low bound on, up to the first that is past a high one
  abbrev pub entries_between : Bound T → Bound T → ℕ → List (K.Value × V.Value)
  entries_between low high at = map (entry_at K V E b) (until (past_place high) (places_from low at))
