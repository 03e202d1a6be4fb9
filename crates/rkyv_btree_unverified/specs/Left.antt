-- What a walk has left in bytes that nobody has validated, by the number of entries that it has lent.
use Rattle.std.specs.Prelude.{ℕ, suc, ◌-◌, ◌*◌, ◌/◌, List, [], length, drop}
use Rattle.rkyv_btree_portable.specs.Kind.{Kind}
use Rattle.rkyv_btree_format.specs.Layout.{layout_of, leaf_size}
use Rattle.rkyv_btree_unverified.specs.declared.walk.Phase.{Phase}
use Rattle.rkyv_btree_unverified.specs.declared.walk.Phase.TheVariants.{Descend, Advance, Over}
use Rattle.rkyv_btree_unverified.specs.declared.walk.UnverifiedWalk.{UnverifiedWalk}

-- the first once a walk is over, else the second
abbrev pub once_over : {X : Type 0} → Phase → X → X → X
once_over Descend over else = else
once_over Advance over else = else
once_over Over over else = over

-- what is left of a list along which a walk goes
abbrev pub left_of : {X : Type 0} → UnverifiedWalk → List X → List X
left_of w xs = once_over w.phase [] (drop w.taken xs)

module _ (K V : Kind) (E : ℕ) (b : List ℕ) where
  -- how many entries there are in as many nodes as fit into the buffer
  abbrev pub most_entries : ℕ
  most_entries = E * (length b / leaf_size (layout_of K V E))

  -- an upper bound of the entries that a walk still lends
  abbrev pub most_of : UnverifiedWalk → ℕ
  most_of w = once_over w.phase 0 (most_entries - w.taken)

  -- and of its items: an error or the end may come after the entries
  abbrev pub turns_of : UnverifiedWalk → ℕ
  turns_of w = once_over w.phase 0 (suc (most_entries - w.taken))
