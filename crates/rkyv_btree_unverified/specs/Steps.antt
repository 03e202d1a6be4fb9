-- The steps of a lookup in bytes that nobody has validated, and what each of them gives. A lookup reads the map's own bytes, then one
-- node a level, and in each node keys from the left, up to the first that the query isn't past. `comparison` is what comparing the query
-- with a key gives, at each value of a key.
use Rattle.std.specs.Prelude.{◌≡◌, ◌≢◌, ℕ, ◌+◌, ◌%◌, ◌≤◌, ◌<◌, IsTrue, List, Option, Some, None, Result, Ok, Err, ℤ, pos, ◌+ℤ◌, ◌<ℤ◌}
use Rattle.std.specs.declared.cmp.Ordering.{Ordering}
use Rattle.std.specs.declared.cmp.Ordering.TheVariants.{Less, Equal, Greater}
use Rattle.rkyv_btree_portable.specs.Bytes.{place_at, target_at}
use Rattle.rkyv_btree_portable.specs.Kind.{Kind}
use Rattle.rkyv_btree_format.specs.Layout.{layout_of, key_at, value_at, leaf_size, inner_size, pointer_at, align}
use Rattle.rkyv_btree_portable.specs.declared.refusal.Refusal.{Refusal}
use Rattle.rkyv_btree_portable.specs.declared.refusal.Refusal.TheVariants.{OutOfRange, Misaligned, BadKind, InvalidLength}
use Rattle.rkyv_btree_verify.specs.Refusals.{HasKind, IsInner, leaf_len, map_len}
use Rattle.rkyv_btree_portable.specs.Refusing.{HasPlace, Misplaced}
use Rattle.rkyv_btree_portable.specs.Views.{stands}
use Rattle.rkyv_btree_portable.specs.declared.check.Portable
use Rattle.rkyv_btree_unverified.specs.declared.search.Halt.{Halt}
use Rattle.rkyv_btree_unverified.specs.declared.search.Halt.TheVariants.{Found, Below}
use Rattle.rkyv_btree_view.specs.declared.view.View.{View}

-- a step gives some value, with which the next one goes on, or an error, which is the last
abbrev pub GoesOn : {A B : Type 0} → (A → Result B Refusal → Type 0) → Result A Refusal → Result B Refusal → Type 0
GoesOn next (Ok a) r = next a r
GoesOn next (Err e) r = r ≡ Err e

pub record Then {A B : Type 0} (first : Result A Refusal → Type 0) (next : A → Result B Refusal → Type 0) (r : Result B Refusal) : Type 0 where
  pub result : Result A Refusal
  pub gives : first result
  pub goes_on : GoesOn next result r

-- the positions of two views
abbrev pub places : {K V : Type 0} {k : Portable.Ghosts K} {v : Portable.Ghosts V} → View K k × View V v → ℕ × ℕ
places e = (e.0.pos, e.1.pos)

module _ (K V : Kind) (E : ℕ) where
  -- the positions of key and value of an entry, which is given by its node and its number
  abbrev pub key_place : ℕ × ℕ → ℕ
  key_place e = e.0 + key_at (layout_of K V E) e.1

  abbrev pub value_place : ℕ × ℕ → ℕ
  value_place e = e.0 + value_at (layout_of K V E) e.1

  abbrev pub entry_places : ℕ × ℕ → ℕ × ℕ
  entry_places e = (key_place e, value_place e)

  -- there is room for a leaf at q before hi, and q is aligned
  pub record HasRoom (hi q : ℕ) : Type 0 where
    pub room : q + leaf_size (layout_of K V E) ≤ hi
    pub aligned : q % align (layout_of K V E) ≡ 0

  -- what a pointer in front of hi gives that leads to a place
  pub data PlaceGives (hi : ℕ) : ℤ → Result ℕ Refusal → Type 0 where
    starts_before : {p : ℤ} → p <ℤ pos 0 → PlaceGives hi p (Err (OutOfRange p))
    ends_past : {p : ℤ} → pos hi <ℤ (p +ℤ pos (leaf_size (layout_of K V E))) → PlaceGives hi p (Err (OutOfRange p))
    misaligned : {q : ℕ} → q + leaf_size (layout_of K V E) ≤ hi → q % align (layout_of K V E) ≢ 0 → PlaceGives hi (pos q) (Err (Misaligned q))
    good_place : {q : ℕ} → HasRoom hi q → PlaceGives hi (pos q) (Ok q)

module _ (K V : Kind) (E : ℕ) (b : List ℕ) where
  -- what the node at p in front of hi gives: the number of its entries
  pub data NodeGives (hi p : ℕ) : Result ℕ Refusal → Type 0 where
    bad_kind : {kind : ℕ} → HasKind K V E b 0 hi p kind → kind ≢ 0 → kind ≢ 1 → NodeGives hi p (Err (BadKind p kind))
    inner_past : HasKind K V E b 0 hi p 1 → hi < p + inner_size (layout_of K V E) → NodeGives hi p (Err (OutOfRange (pos p)))
    too_many : HasKind K V E b 0 hi p 0 → E < leaf_len K V E b p
        → NodeGives hi p (Err (InvalidLength (record { len = leaf_len K V E b p; maximum = E })))
    leaf : HasKind K V E b 0 hi p 0 → leaf_len K V E b p ≤ E → NodeGives hi p (Ok (leaf_len K V E b p))
    inner : IsInner K V E b 0 hi p → NodeGives hi p (Ok E)

  -- what there is before entry i of the node at p in front of hi, or after all: a child, or none
  pub data ChildGives (hi p i : ℕ) : Result (Option ℕ) Refusal → Type 0 where
    of_leaf : HasKind K V E b 0 hi p 0 → ChildGives hi p i (Ok None)
    absent : IsInner K V E b 0 hi p → target_at b (p + pointer_at (layout_of K V E) i) ≡ None → ChildGives hi p i (Ok None)
    bad_place : {z : ℤ} {e : Refusal} → IsInner K V E b 0 hi p → target_at b (p + pointer_at (layout_of K V E) i) ≡ Some z
        → PlaceGives K V E p z (Err e) → ChildGives hi p i (Err e)
    child : {z : ℤ} {q : ℕ} → IsInner K V E b 0 hi p → target_at b (p + pointer_at (layout_of K V E) i) ≡ Some z
        → PlaceGives K V E p z (Ok q) → ChildGives hi p i (Ok (Some q))

  -- what the own bytes of the map at a position give: its root, if it says that it has entries
  pub data HeadGives (at : ℕ) : Result (Option ℕ) Refusal → Type 0 where
    misplaced : {e : Refusal} → Misplaced b 8 4 at e → HeadGives at (Err e)
    empty : HasPlace b 8 4 at → map_len K V E b at ≡ 0 → HeadGives at (Ok None)
    bad_root : {e : Refusal} → HasPlace b 8 4 at → map_len K V E b at ≢ 0 → PlaceGives K V E at (place_at b at) (Err e) → HeadGives at (Err e)
    root : {q : ℕ} → HasPlace b 8 4 at → map_len K V E b at ≢ 0 → PlaceGives K V E at (place_at b at) (Ok q) → HeadGives at (Ok (Some q))

  module _ (comparison : K.Value → Ordering) where
    -- the key of an entry is valid, and gives this
    pub record Gives (o : Ordering) (e : ℕ × ℕ) : Type 0 where
      pub valid : IsTrue (stands K b (key_place K V E e))
      pub gives : comparison (K.read b (key_place K V E e)) ≡ o

    -- of n entries of the node at p the search asks entry i, since all before it give Greater
    pub record Asks (p n i : ℕ) : Type 0 where
      pub within : i < n
      pub before : (k : ℕ) → k < i → Gives Greater (p, k)

    -- it goes on before entry i, the first that gives Less, or after all
    pub record StopsBefore (p n i : ℕ) : Type 0 where
      pub within : i ≤ n
      pub before : (k : ℕ) → k < i → Gives Greater (p, k)
      pub less : i < n → Gives Less (p, i)

    module _ (KRefuses VRefuses : List ℕ → ℕ → ℕ → ℕ → Refusal → Type 0) where
      -- what the keys of n entries of the node at p give: the entry that gives Equal, or the one before which the search goes on
      pub data KeysGive (p n : ℕ) : Result Halt Refusal → Type 0 where
        bad_key : {i : ℕ} {e : Refusal} → Asks p n i → KRefuses b 0 (key_place K V E (p, i)) (key_place K V E (p, i)) e → KeysGive p n (Err e)
        bad_value : {i : ℕ} {e : Refusal} → Asks p n i → Gives Equal (p, i) → VRefuses b 0 (value_place K V E (p, i)) (value_place K V E (p, i)) e
            → KeysGive p n (Err e)
        equal_key : {i : ℕ} → Asks p n i → Gives Equal (p, i) → IsTrue (stands V b (value_place K V E (p, i))) → KeysGive p n (Ok (Found i))
        stops : {i : ℕ} → StopsBefore p n i → KeysGive p n (Ok (Below i))
