-- Which nodes and entries a walk reaches in bytes that nobody has validated, and why it fails.
use Rattle.std.specs.Prelude.{ℕ, suc, ◌≤◌, ◌<◌, IsTrue, List, Some, Result, Ok, Err, pos}
use Rattle.rkyv_btree_portable.specs.Kind.{Kind}
use Rattle.rkyv_btree_portable.specs.declared.refusal.Refusal.{Refusal}
use Rattle.rkyv_btree_portable.specs.declared.refusal.Refusal.TheVariants.{OutOfRange, TooDeep}
use Rattle.rkyv_btree_portable.specs.Views.{stands}
use Rattle.rkyv_btree_unverified.specs.Steps.{key_place, value_place, NodeGives, ChildGives, HeadGives}
use Rattle.rkyv_btree_view.specs.Map.{IsMap}

-- a step gives no error
abbrev pub GivesNoError : {A : Type 0} → (Result A Refusal → Type 0) → Type 0
GivesNoError gives = (r : Refusal) → gives (Err r) → ⊥

module _ (K V : Kind) (E : ℕ) (b : List ℕ) (at : ℕ) where
  -- the node at p is so many pointers below the root of the map at a position; what leads to it is at hi
  pub data IsReached : ℕ → ℕ → ℕ → Type 0 where
    as_root : {q : ℕ} → HeadGives K V E b at (Ok (Some q)) → IsReached 0 at q
    as_child : {levels hi p i q : ℕ} → IsReached levels hi p → i ≤ E → ChildGives K V E b hi p i (Ok (Some q)) → IsReached (suc levels) p q

  -- an entry, given by its node and its number, is one of a node that is reached
  pub record IsReachedEntry (e : ℕ × ℕ) : Type 0 where
    pub levels : ℕ
    pub hi : ℕ
    pub count : ℕ
    pub reached : IsReached levels hi e.0
    pub counted : NodeGives K V E b hi e.0 (Ok count)
    pub within : e.1 < count

  -- nothing that is reached is at fault, and no node is on a 33rd level
  pub record IsFaultless : Type 0 where
    pub own_bytes : GivesNoError (HeadGives K V E b at)
    pub levels : {levels hi p : ℕ} → IsReached levels hi p → levels < 32
    pub nodes : {levels hi p : ℕ} → IsReached levels hi p → GivesNoError (NodeGives K V E b hi p)
    pub pointers : {levels hi p i : ℕ} → IsReached levels hi p → i ≤ E → GivesNoError (ChildGives K V E b hi p i)
    pub keys : {e : ℕ × ℕ} → IsReachedEntry e → IsTrue (stands K b (key_place K V E e))
    pub values : {e : ℕ × ℕ} → IsReachedEntry e → IsTrue (stands V b (value_place K V E e))

  -- the bytes at the position are no map
  abbrev pub NoMap : Type 0
  NoMap = (m : List (K.Value × V.Value)) → IsMap K V E b at m → ⊥

module _ (K V : Kind) (E : ℕ) (b : List ℕ) (KRefuses VRefuses : List ℕ → ℕ → ℕ → ℕ → Refusal → Type 0) where
  -- why an entry is refused: its key is, or its value
  pub data EntryRefuses (e : ℕ × ℕ) (r : Refusal) : Type 0 where
    refused_key : KRefuses b 0 (key_place K V E e) (key_place K V E e) r → EntryRefuses e r
    refused_value : VRefuses b 0 (value_place K V E e) (value_place K V E e) r → EntryRefuses e r

  -- why a walk along the map at a position fails
  pub data WalkRefuses (at : ℕ) : Refusal → Type 0 where
    own_bytes : {r : Refusal} → HeadGives K V E b at (Err r) → WalkRefuses at r
    of_node : {levels hi p : ℕ} {r : Refusal} → IsReached K V E b at levels hi p → NodeGives K V E b hi p (Err r) → WalkRefuses at r
    of_child : {levels hi p i : ℕ} {r : Refusal} → IsReached K V E b at levels hi p → i ≤ E → ChildGives K V E b hi p i (Err r) → WalkRefuses at r
    of_entry : {e : ℕ × ℕ} {r : Refusal} → IsReachedEntry K V E b at e → EntryRefuses e r → WalkRefuses at r
    too_deep : {hi p : ℕ} → IsReached K V E b at 32 hi p → WalkRefuses at (TooDeep (pos p))
    too_many_nodes : {levels hi p : ℕ} → IsReached K V E b at levels hi p → NoMap K V E b at → WalkRefuses at (OutOfRange (pos p))

  -- a walk fails with a reason, and the bytes are no map
  pub record Fails (at : ℕ) (r : Refusal) : Type 0 where
    pub refuses : WalkRefuses at r
    pub no_map : NoMap K V E b at
