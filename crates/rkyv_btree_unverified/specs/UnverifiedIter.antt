-- What an iterator over the entries of bytes that nobody has validated lends.
use Rattle.std.specs.Prelude.{◌≡◌, ℕ, ◌<◌, List, [], ◌∷◌, ◌++◌, ◌⊎◌, map, Option, Some, None, Result, Ok, Err}
use Rattle.std.specs.Iterator.{Drains}
use Rattle.rkyv_btree_format.specs.Read.{read_map}
use Rattle.rkyv_btree_portable.specs.declared.refusal.Refusal.{Refusal}
use Rattle.rkyv_btree_portable.specs.declared.check.Portable
use Rattle.rkyv_btree_walk.specs.declared.archived_map.ArchivedMap
use Rattle.rkyv_btree_unverified.specs.Left.{left_of, most_of, turns_of}
use Rattle.rkyv_btree_unverified.specs.Steps.{entry_places, places}
use Rattle.rkyv_btree_unverified.specs.Walks.{IsReachedEntry, IsFaultless, WalkRefuses, NoMap}
use Rattle.rkyv_btree_unverified.specs.declared.iter.UnverifiedIter.{UnverifiedIter}
use Rattle.rkyv_btree_unverified.specs.declared.walk.Phase.TheVariants.{Over}
use Rattle.rkyv_btree_view.specs.View.{view_entry}
use Rattle.rkyv_btree_view.specs.declared.view.View.{View}

module _ {M K V : Type 0} {g : ArchivedMap.Ghosts M K V} {m : Portable.Ghosts M} {k : Portable.Ghosts K} {v : Portable.Ghosts V} where
  -- the buffer along which an iterator goes, and the position of the map in it
  abbrev pub buffer_of : UnverifiedIter M K V g m k v → List ℕ
  buffer_of s = s.buf.now

  abbrev pub position_of : UnverifiedIter M K V g m k v → ℕ
  position_of s = s.pos

  -- of the entries to which the pointers lead, those that an iterator has left, in order
  abbrev pub entries_left : UnverifiedIter M K V g m k v → List (k.kind.Value × v.kind.Value)
  entries_left s = left_of s.walk (read_map k.kind v.kind g.E s.buf.now s.pos)

  -- an upper bound of the entries that it still lends, and of the items
  abbrev pub most_left : UnverifiedIter M K V g m k v → ℕ
  most_left s = most_of k.kind v.kind g.E s.buf.now s.walk

  abbrev pub turns_left : UnverifiedIter M K V g m k v → ℕ
  turns_left s = turns_of k.kind v.kind g.E s.buf.now s.walk

  -- it is over: only `None` follows
  abbrev pub IsOver : UnverifiedIter M K V g m k v → Type 0
  IsOver s = s.walk.phase ≡ Over

  -- an entry that it lends is the first that is left, at the places of an entry that is reached; less is left, and it isn't over
  pub record Lends (s : UnverifiedIter M K V g m k v) (e : View K k × View V v) (t : UnverifiedIter M K V g m k v) : Type 0 where
    pub buffer : (e.0.buf.now ≡ s.buf.now) × (e.1.buf.now ≡ s.buf.now)
    pub entries : entries_left s ≡ view_entry e ∷ entries_left t
    pub place : ℕ × ℕ
    pub reached : IsReachedEntry k.kind v.kind g.E s.buf.now s.pos place
    pub places : places e ≡ entry_places k.kind v.kind g.E place
    pub less : most_left t < most_left s
    pub goes_on : IsOver t → ⊥

  -- an error has its reason, the bytes are no map, and it is the last item
  pub record FailsLast (KR VR : List ℕ → ℕ → ℕ → ℕ → Refusal → Type 0) (s : UnverifiedIter M K V g m k v) (r : Refusal) (t : UnverifiedIter M K V g m k v) : Type 0 where
    pub refuses : WalkRefuses k.kind v.kind g.E s.buf.now KR VR s.pos r
    pub no_map : NoMap k.kind v.kind g.E s.buf.now s.pos
    pub over : IsOver t

  -- at the end nothing is left, and nothing that is reached is at fault
  pub record EndsHere (s t : UnverifiedIter M K V g m k v) : Type 0 where
    pub entries : entries_left s ≡ []
    pub faultless : (IsOver s → ⊥) → IsFaultless k.kind v.kind g.E s.buf.now s.pos
    pub over : IsOver t

  module _ (KR VR : List ℕ → ℕ → ℕ → ℕ → Refusal → Type 0) (s : UnverifiedIter M K V g m k v) where
    abbrev pub ItemGives : Option (Result (View K k × View V v) Refusal) → UnverifiedIter M K V g m k v → Type 0
    ItemGives None t = EndsHere s t
    ItemGives (Some (Err r)) t = FailsLast KR VR s r t
    ItemGives (Some (Ok e)) t = Lends s e t

  -- a call of `next`, with its item
  pub record StepsUnverified (KR VR : List ℕ → ℕ → ℕ → ℕ → Refusal → Type 0) (s : UnverifiedIter M K V g m k v) (item : Option (Result (View K k × View V v) Refusal)) (t : UnverifiedIter M K V g m k v) : Type 0 where
    pub buffer : t.buf.now ≡ s.buf.now
    pub position : t.pos ≡ s.pos
    pub gives : ItemGives KR VR s item t
    pub stays_over : IsOver s → (item ≡ None) × IsOver t

-- all items of an iterator are entries, and show this list
abbrev pub ShowsItems : {S X Y : Type 0} → (S → Option (Result X Refusal) → S → Type 0) → (X → Y) → S → List Y → Type 0
ShowsItems steps shows start entries = (items : _) → Drains steps start items → (shown : List _) × (items ≡ map Ok shown) × (map shows shown ≡ entries)

-- if no item is an error, this holds
abbrev pub IfNoError : {S X : Type 0} → (S → Option (Result X Refusal) → S → Type 0) → S → Type 0 → Type 0
IfNoError steps start Holds = (shown : List _) → Drains steps start (map Ok shown) → Holds

-- items show the first elements of a list, in order; then the list has ended, or an error that has its reason is the last item
pub record AgreesWith {X Y : Type 0} (Reason : Refusal → Type 0) (shows : X → Y) (items : List (Result X Refusal)) (entries : List Y) : Type 0 where
  pub shown : List X
  pub last : List (Result X Refusal)
  pub left : List Y
  pub items_are : items ≡ map Ok shown ++ last
  pub entries_are : entries ≡ map shows shown ++ left
  pub ends : ((last ≡ []) × (left ≡ [])) ⊎ ((r : Refusal) × (last ≡ Err r ∷ []) × Reason r)

-- all items of an iterator do
abbrev pub Agrees : {S X Y : Type 0} → (S → Option (Result X Refusal) → S → Type 0) → (Refusal → Type 0) → (X → Y) → S → List Y → Type 0
Agrees steps Reason shows start entries = (items : _) → Drains steps start items → AgreesWith Reason shows items entries
