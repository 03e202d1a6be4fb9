-- What is left of a walk in bytes that nobody has validated, by the tree along which it goes. A way goes down from the root: in each
-- node, to the child before the entry of a number, or after all.
use Rattle.std.specs.Prelude.{ℕ, zero, suc, ◌-◌, List, [], ◌∷◌, ◌++◌, map}
use Rattle.rkyv_btree_portable.specs.Kind.{Kind}
use Rattle.rkyv_btree_format.specs.Layout.{layout_of}
use Rattle.rkyv_btree_format.specs.Read.{run, map_tree}
use Rattle.rkyv_btree_shape.specs.Tree.{Tree, leaf, inner, Row, last, step, Child, absent, child, row_list, child_list}
use Rattle.rkyv_btree_unverified.specs.declared.walk.Phase.{Phase}
use Rattle.rkyv_btree_unverified.specs.declared.walk.Phase.TheVariants.{Descend, Advance, Over}
use Rattle.rkyv_btree_unverified.specs.declared.walk.UnverifiedWalk.{UnverifiedWalk}

module _ {X : Type 0} where
  -- the child to which a way leads
  abbrev mutual
    pub way_end : List ℕ → Tree X → Child X
    way_end [] t = child t
    way_end (i ∷ is) (leaf xs) = absent
    way_end (i ∷ is) (inner row) = row_way_end i is row

    pub row_way_end : ℕ → List ℕ → Row X → Child X
    row_way_end i is (last c) = child_way_end is c
    row_way_end zero is (step c x row) = child_way_end is c
    row_way_end (suc i) is (step c x row) = row_way_end i is row

    pub child_way_end : List ℕ → Child X → Child X
    child_way_end is absent = absent
    child_way_end is (child t) = way_end is t

  -- the entries after that child
  abbrev mutual
    pub after_way : List ℕ → Tree X → List X
    after_way [] t = []
    after_way (i ∷ is) (leaf xs) = []
    after_way (i ∷ is) (inner row) = after_row_way i is row

    pub after_row_way : ℕ → List ℕ → Row X → List X
    after_row_way i is (last c) = after_child_way is c
    after_row_way zero is (step c x row) = after_child_way is c ++ x ∷ row_list row
    after_row_way (suc i) is (step c x row) = after_row_way i is row

    pub after_child_way : List ℕ → Child X → List X
    after_child_way is absent = []
    after_child_way is (child t) = after_way is t

module _ (K V : Kind) (E : ℕ) (b : List ℕ) (at : ℕ) where
  -- the way of a walk's path
  abbrev pub way_of : UnverifiedWalk → List ℕ
  way_of w = map (λ f. f.1) w.path.items

  -- the places of the entries that a walk has left: it goes down to the child to which its way leads, or has come to a leaf there
  abbrev pub places_left_at : Phase → UnverifiedWalk → List (ℕ × ℕ)
  places_left_at Descend w = child_list (way_end (way_of w) (map_tree (layout_of K V E) b at)) ++ after_way (way_of w) (map_tree (layout_of K V E) b at)
  places_left_at Advance w = run (layout_of K V E) b w.node (w.end - w.next) w.next ++ after_way (way_of w) (map_tree (layout_of K V E) b at)
  places_left_at Over w = []

  abbrev pub places_left : UnverifiedWalk → List (ℕ × ℕ)
  places_left w = places_left_at w.phase w
