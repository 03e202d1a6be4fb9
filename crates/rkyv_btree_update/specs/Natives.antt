-- Native values that are read of archived ones, and what native values mean.
use Rattle.std.specs.Cmp.{IsTotalOrder}
use Rattle.std.specs.Prelude.{◌≡◌, ℕ, ◌+◌, List, Option, Some, None, if◌then◌else◌, map, nat_eq, slice_index}
use Rattle.std.specs.declared.cmp.Ordering.{Ordering}
use Rattle.std.specs.declared.cmp.Ordering.TheVariants.{Equal}
use Rattle.rkyv_btree_writer.specs.Archiving.{Archival, Matches}
use Rattle.rkyv_btree_portable.specs.Kind.{Kind}
use Rattle.rkyv_btree_format.specs.Layout.{layout_of, key_at, value_at}
use Rattle.rkyv_btree_portable.specs.declared.check.Portable
use Rattle.rkyv_btree_view.specs.declared.view.View.{View}
use Rattle.rkyv_btree_walk.specs.EntryPlaces.{entry_places}

-- what a native value means
abbrev pub meaning : {X R : Type 0} {kind : Kind} (archival : Archival X R)
    → Matches archival.kind kind → X → kind.Value
meaning archival same x = same.to (archival.meaning x)

-- Values of X are compared by what they show, of type Y. What one shows is what an archived value means, and what is read at a
-- position shows what the bytes there mean.
pub record IsLent {X Y R : Type 0} (archival : Archival X R) (kind : Kind) (shown : X → Y) (order : Y → Y → Ordering)
    (lent : List ℕ → ℕ → Y) (cmp : X → X → Ordering) : Type 0 where
  pub same : Matches archival.kind kind
  -- what a shown value means, and the shown value of each archived one
  pub meant : Y → kind.Value
  pub of_value : kind.Value → Y
  pub means : (x : X) → meaning archival same x ≡ meant (shown x)
  pub reads : (b : List ℕ) (at : ℕ) → lent b at ≡ of_value (kind.read b at)
  pub back : (v : kind.Value) → meant (of_value v) ≡ v
  -- native, shown and archived values are ordered alike, and equal ones are the same
  pub compared : (x y : X) → cmp x y ≡ order (shown x) (shown y)
  pub alike : (x y : Y) → order x y ≡ kind.order (meant x) (meant y)
  pub total : IsTotalOrder order
  pub exact : (x y : Y) → order x y ≡ Equal → x ≡ y

-- what the option at a position shows: what its value shows, if it has one
abbrev pub option_lent : {Y : Type 0} → Kind → (List ℕ → ℕ → Y) → List ℕ → ℕ → Option Y
option_lent kind lent b at = if nat_eq (slice_index b at) 1 then Some (lent b (at + kind.align)) else None

-- what a key and a value show
abbrev pub both : {T U A B : Type 0} → (T → A) → (U → B) → T × U → A × B
both key value e = (key e.0, value e.1)

module _ {T U : Type 0} (K V : Kind) (E : ℕ) (key_lent : List ℕ → ℕ → T) (value_lent : List ℕ → ℕ → U) where
  -- what an entry shows
  abbrev pub shown_at : List ℕ → ℕ × ℕ → T × U
  shown_at b e =
      (key_lent b (e.0 + key_at (layout_of K V E) e.1), value_lent b (e.0 + value_at (layout_of K V E) e.1))

  -- what the entries of the map at a position show, in order
  abbrev pub read_shown : List ℕ → ℕ → List (T × U)
  read_shown b at = map (shown_at b) (entry_places K V E b at)

  -- and those of a view's map
  abbrev pub shown_of : {M : Type 0} {m : Portable.Ghosts M} → View M m → List (T × U)
  shown_of map = read_shown map.buf.now map.pos
