-- Trees with each entry replaced by its image.
use Rattle.std.specs.Prelude.{map}
use Rattle.rkyv_btree_shape.specs.Tree.{Tree, leaf, inner, Row, last, step, Child, absent, child}

abbrev mutual
  pub mapped : {X Y : Type 0} → (X → Y) → Tree X → Tree Y
  mapped f (leaf xs) = leaf (map f xs)
  mapped f (inner row) = inner (mapped_row f row)

  pub mapped_row : {X Y : Type 0} → (X → Y) → Row X → Row Y
  mapped_row f (last c) = last (mapped_child f c)
  mapped_row f (step c x row) = step (mapped_child f c) (f x) (mapped_row f row)

  pub mapped_child : {X Y : Type 0} → (X → Y) → Child X → Child Y
  mapped_child f absent = absent
  mapped_child f (child t) = child (mapped f t)
