-- What the steps of a walk along a map in a source say, as those of a walk along its bytes say it. This mirrors the code.
use Rattle.std.specs.Prelude.{◌≡◌, ◌≢◌, ℕ, ◌+◌, ◌*◌, ◌≤◌, ◌<◌, [], ◌∷◌, Bool, true, false, IsTrue, List, length, IfSome, Option, Some, None, Result, Ok, Err, take, drop}
use Rattle.std.specs.declared.cmp.Ordering.{Ordering}
use Rattle.rkyv_btree_format.specs.Layout.{layout_of, inner_size, leaf_size}
use Rattle.rkyv_btree_portable.specs.Kind.{Kind}
use Rattle.rkyv_btree_portable.specs.Views.{stands}
use Rattle.rkyv_btree_portable.specs.declared.refusal.Refusal.{Refusal}
use Rattle.rkyv_btree_source.specs.Known.{AreOf, Known}
use Rattle.rkyv_btree_source.specs.Reading.{IfRefused, IfUnread}
use Rattle.rkyv_btree_source.specs.declared.fault.SourceFault.{SourceFault}
use Rattle.rkyv_btree_source.specs.declared.fault.SourceFault.TheVariants.{Refused, Read, NoRoom, OverBudget}
use Rattle.rkyv_btree_source.specs.declared.walk.Brought.{Brought}
use Rattle.rkyv_btree_unverified.specs.Steps.{key_place, value_place}
use Rattle.rkyv_btree_unverified.specs.Walks.{EntryRefuses, Fails}
use Rattle.rkyv_btree_unverified.specs.declared.walk.Phase.TheVariants.{Over}
use Rattle.rkyv_btree_unverified.specs.declared.walk.UnverifiedWalk.{UnverifiedWalk}
use Rattle.rkyv_btree_unverified.specs.mirror.Sought.{reached_place}
use Rattle.rkyv_btree_unverified.specs.mirror.Walked.{FewLeft, Finishes, HasClimbed, IsClimbed, IsCounted, IsUnverifiedWalk, IsWay, OnMaps, TakesEntry, down_rest, path_entries, path_nodes, unverified_left, walk_most}
use Rattle.rkyv_btree_walk.specs.Paths.{path_rest}
use Rattle.rkyv_btree_walk.specs.mirror.Node.{EntryStands}
use Rattle.rkyv_btree_walk.specs.mirror.Range.{IsFirst}

module _ (K V : Kind) (E : ℕ) where
  -- whatever the bytes are, an inner node of a path lies before the map at a position, and its next entry is one of E, or after all
  abbrev pub IsLow : ℕ → ℕ × ℕ → Type 0
  IsLow at f = (f.0 + inner_size (layout_of K V E) ≤ at) × (f.1 ≤ E)

  abbrev pub AreLow : ℕ → List (ℕ × ℕ) → Type 0
  AreLow at [] = Unit {0}
  AreLow at (f ∷ fs) = IsLow at f × AreLow at fs

  -- so do all nodes of a path, of which there are no more than levels
  pub record IsLowPath (at : ℕ) (fs : List (ℕ × ℕ)) : Type 0 where
    pub levels : length fs ≤ 32
    pub nodes : AreLow at fs

  -- and all nodes of a walk
  pub record IsPlaced (at : ℕ) (w : UnverifiedWalk) : Type 0 where
    pub path : IsLowPath at w.path.items
    pub leaf : w.next < w.end → w.node + leaf_size (layout_of K V E) ≤ at
    pub few : w.end ≤ E

-- the parts of an entry are valid where they were brought to: the key before the cut of a buffer, the value after it
pub record IsHeld (K V : Kind) (room : List ℕ) (e : Brought) : Type 0 where
  pub cut : e.cut ≤ length room
  pub key : IsTrue (stands K (take e.cut room) e.key)
  pub value : IsTrue (stands V (drop e.cut room) e.value)

module _ (K V : Kind) (E : ℕ) (b : List ℕ) where
  -- they read there as the entry does in the source
  pub record ReadsAs (room : List ℕ) (e : Brought) (place : ℕ × ℕ) : Type 0 where
    pub stands : EntryStands K V E b place
    pub key : K.read (take e.cut room) e.key ≡ K.read b (key_place K V E place)
    pub value : V.read (drop e.cut room) e.value ≡ V.read b (value_place K V E place)

  -- a way down that reads no further has all that it had left
  pub record WaitsDown (at : ℕ) (old : List (ℕ × ℕ)) (before : ℕ) (new : List (ℕ × ℕ)) (after : ℕ) : Type 0 where
    pub way : IsWay (layout_of K V E) b at new
    pub few : FewLeft K V E b at new after
    pub most : E * after + path_entries E new ≤ E * before + path_entries E old
    pub rest : down_rest (layout_of K V E) b at new ≡ down_rest (layout_of K V E) b at old

  -- and so has a way up
  pub record WaitsUp (at : ℕ) (old new : List (ℕ × ℕ)) : Type 0 where
    pub way : IsWay (layout_of K V E) b at new
    pub few : OnMaps K V E b at (path_nodes (layout_of K V E) b 32 new ≤ path_nodes (layout_of K V E) b 32 old)
    pub most : path_entries E new ≤ path_entries E old
    pub rest : path_rest (layout_of K V E) b 32 new ≡ path_rest (layout_of K V E) b 32 old

  -- and a walk
  pub record Waits (at : ℕ) (old new : UnverifiedWalk) : Type 0 where
    pub walks : IsUnverifiedWalk K V E b at new
    pub most : walk_most E new ≤ walk_most E old
    pub taken : new.taken ≡ old.taken
    pub begun : new.phase ≢ Over
    pub rest : unverified_left (layout_of K V E) b at new ≡ unverified_left (layout_of K V E) b at old

  module _ (KR VR : List ℕ → ℕ → ℕ → ℕ → Refusal → Type 0) where
    -- what bringing an entry gives
    abbrev pub BringsEntry : {X : Type 0} → ℕ × ℕ → List ℕ → Result Brought (SourceFault X) → Type 0
    BringsEntry place room (Ok e) = ReadsAs room e place
    BringsEntry place room (Err fault) = IfRefused (EntryRefuses K V E b KR VR place) fault

    -- what the next entry of a path gives
    abbrev pub ClimbGives : {X : Type 0} → ℕ → (old new : List (ℕ × ℕ)) → List ℕ → Result (Option Brought) (SourceFault X) → Type 0
    ClimbGives at old new room (Ok None) = HasClimbed K V E b at old
    ClimbGives at old new room (Ok (Some e)) = (place : ℕ × ℕ) × IsClimbed K V E b at old new place × ReadsAs room e place
    ClimbGives at old new room (Err fault) = IfRefused (Fails K V E b KR VR at) fault × IfUnread (WaitsUp at old new) fault

    -- and what the next one of a walk does
    abbrev pub StepGives : {X : Type 0} → ℕ → (old new : UnverifiedWalk) → List ℕ → Result (Option Brought) (SourceFault X) → Type 0
    StepGives at old new room (Ok None) = Finishes K V E b at old new
    StepGives at old new room (Ok (Some e)) = (place : ℕ × ℕ) × TakesEntry K V E b at old new place × ReadsAs room e place
    StepGives at old new room (Err fault) = IfRefused (Fails K V E b KR VR at) fault × IfUnread (Waits at old new) fault

  -- where the keys of a node reach a query: the first that does, of n, or after all
  abbrev pub SeekGives : {X T : Type 0} → (T → List ℕ → ℕ → Ordering) → (List ℕ → ℕ → ℕ → ℕ → Refusal → Type 0) → (key : T) (past : Bool) (node n : ℕ) → Result ℕ (SourceFault X) → Type 0
  SeekGives compared KR key past node n (Ok next) = IsFirst (λ i. reached_place K V E compared b key past (node, i)) 0 n next
  SeekGives compared KR key past node n (Err fault) =
      IfRefused (λ r. (i : ℕ) × (i < n) × KR b 0 (key_place K V E (node, i)) (key_place K V E (node, i)) r) fault

-- a walk that has begun counts its entries, whichever the bytes of the source may be
abbrev pub AreWalks : (K V : Kind) (E : ℕ) → Known → ℕ → Option UnverifiedWalk → Type 0
AreWalks K V E known at walk = (b : List ℕ) → AreOf known b → IfSome walk (IsCounted K V E b at)

-- whether a result says that the bytes are no map
abbrev pub refuses : {A X : Type 0} → Result A (SourceFault X) → Bool
refuses (Ok a) = false
refuses (Err (Refused r)) = true
refuses (Err (Read e)) = false
refuses (Err (NoRoom n)) = false
refuses (Err OverBudget) = false
