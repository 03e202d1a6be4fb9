-- Which parts of a source a lookup reads, how many bytes it has read by then, and what it needs of the lent buffer.
use Rattle.std.specs.Prelude.{◌≡◌, ℕ, zero, suc, ◌+◌, ◌-◌, ◌*◌, ◌/◌, ◌≤◌, ◌<◌, List, Some, None, Ok, min}
use Rattle.std.specs.declared.cmp.Ordering.{Ordering}
use Rattle.std.specs.declared.cmp.Ordering.TheVariants.{Equal}
use Rattle.rkyv_btree_portable.specs.Kind.{Kind}
use Rattle.rkyv_btree_format.specs.Layout.{layout_of, inner_size}
use Rattle.rkyv_btree_portable.specs.Text.{text_len}
use Rattle.rkyv_btree_source.specs.declared.fault.SourceFault.{SourceFault}
use Rattle.rkyv_btree_source.specs.declared.fault.SourceFault.TheVariants.{Refused, Read, NoRoom, OverBudget}
use Rattle.rkyv_btree_unverified.specs.Steps.{key_place, value_place, Asks, ChildGives, Gives, HeadGives, NodeGives, StopsBefore}
use Rattle.rkyv_btree_unverified.specs.declared.search.Next.{Next}
use Rattle.rkyv_btree_unverified.specs.declared.search.Next.TheVariants.{Hit, Miss, Down}

-- the lengths of a value that is brought from a source
pub record Lengths : Type 0 where
  -- how many bytes the value at a position has outside its own bytes
  pub outlying : List ℕ → ℕ → ℕ
  -- how many bytes of a lent buffer it takes
  pub room : List ℕ → ℕ → ℕ

-- those of a value whose own bytes are all of it
abbrev pub own_lengths : ℕ → Lengths
own_lengths size = record { outlying = λ b at. 0; room = λ b at. size }

-- a text takes its bytes, filled up to a multiple of four, and then its own
abbrev pub text_lengths : Lengths
text_lengths = record { outlying = text_len; room = λ b at. (text_len b at + 3) / 4 * 4 + 8 }

-- a part of a map: its own bytes, the bytes of the node at a position in front of another, or what the key or the value of an entry has
-- outside the node
pub data Part : Type 0 where
  OwnBytes : Part
  NodeBytes : ℕ → ℕ → Part
  KeyText : ℕ × ℕ → Part
  ValueText : ℕ × ℕ → Part

-- no room, and then P holds of the number of bytes that were needed; or the budget is too small, and then Q holds
abbrev pub IsLacking : {E : Type 0} → (ℕ → Type 0) → Type 0 → SourceFault E → Type 0
IsLacking P Q (Refused e) = Unit {0}
IsLacking P Q (Read e) = Unit {0}
IsLacking P Q (NoRoom n) = P n
IsLacking P Q OverBudget = Q

-- the search ends after a node with this
abbrev pub IsLast : Next → Type 0
IsLast (Hit i) = Unit {0}
IsLast Miss = Unit {0}
IsLast (Down q) = ⊥

module _ (K V : Kind) (E : ℕ) (b : List ℕ) (KL VL : Lengths) where
  -- how many bytes of the source a part has
  abbrev pub part_len : Part → ℕ
  part_len OwnBytes = 8
  part_len (NodeBytes hi p) = min (hi - p) (inner_size (layout_of K V E))
  part_len (KeyText e) = KL.outlying b (key_place K V E e)
  part_len (ValueText e) = VL.outlying b (value_place K V E e)

  -- how many bytes of the lent buffer it takes beside those for a node
  abbrev pub part_room : Part → ℕ
  part_room OwnBytes = 0
  part_room (NodeBytes hi p) = 0
  part_room (KeyText e) = KL.room b (key_place K V E e)
  part_room (ValueText e) = VL.room b (value_place K V E e)

  -- how many bytes the first i keys of the node at p have outside the node
  unfoldable pub keys_len : ℕ → ℕ → ℕ
  keys_len p zero = 0
  keys_len p (suc i) = keys_len p i + KL.outlying b (key_place K V E (p, i))

  -- of the parts that are read, each after so many bytes, one has more than the budget by then
  pub record IsOver (Reading : ℕ → Part → Type 0) (budget : ℕ) : Type 0 where
    pub before : ℕ
    pub part : Part
    pub reads : Reading before part
    pub within : before ≤ budget
    pub more : budget < before + part_len part

  -- one of them takes more of the lent buffer, beside so many bytes for a node, than the room that there is
  pub record IsShort (Reading : ℕ → Part → Type 0) (node room needed : ℕ) : Type 0 where
    pub before : ℕ
    pub part : Part
    pub reads : Reading before part
    pub needs : needed ≡ node + part_room part
    pub more : room < needed

  -- none of them takes more
  abbrev pub EachFits : (ℕ → Part → Type 0) → (node room : ℕ) → Type 0
  EachFits Reading node room = (before : ℕ) (part : Part) → Reading before part → node + part_room part ≤ room

  -- the cause of a fault of a lookup that reads these parts
  abbrev pub Lacks : {X : Type 0} → (ℕ → Part → Type 0) → (node budget room : ℕ) → SourceFault X → Type 0
  Lacks Reading node budget room fault = IsLacking (IsShort Reading node room) (IsOver Reading budget) fault

  module _ (comparison : K.Value → Ordering) where
    -- after its bytes the search of the node at p in front of hi has read so many more when it reads a part
    pub data NodeReads (hi p : ℕ) : ℕ → Part → Type 0 where
      reads_key : {n i : ℕ} → NodeGives K V E b hi p (Ok n) → Asks K V E b comparison p n i → NodeReads hi p (keys_len p i) (KeyText (p, i))
      reads_value : {n i : ℕ} → NodeGives K V E b hi p (Ok n) → Asks K V E b comparison p n i → Gives K V E b comparison Equal (p, i)
          → NodeReads hi p (keys_len p (i + 1)) (ValueText (p, i))

    -- and all together so many, and then it ends, or goes on with a child
    pub data NodeTakes (hi p : ℕ) : ℕ → Next → Type 0 where
      takes_hit : {n i : ℕ} → NodeGives K V E b hi p (Ok n) → Asks K V E b comparison p n i → Gives K V E b comparison Equal (p, i)
          → NodeTakes hi p (keys_len p (i + 1) + VL.outlying b (value_place K V E (p, i))) (Hit i)
      takes_miss : {n i : ℕ} → NodeGives K V E b hi p (Ok n) → StopsBefore K V E b comparison p n i → ChildGives K V E b hi p i (Ok None)
          → NodeTakes hi p (keys_len p (min (i + 1) n)) Miss
      takes_down : {n i q : ℕ} → NodeGives K V E b hi p (Ok n) → StopsBefore K V E b comparison p n i → ChildGives K V E b hi p i (Ok (Some q))
          → NodeTakes hi p (keys_len p (min (i + 1) n)) (Down q)

    -- a lookup in the map at a position reads a part after so many bytes
    pub data Reads (at : ℕ) : ℕ → Part → Type 0 where
      reads_own : Reads at 0 OwnBytes
      reads_root : {q : ℕ} → HeadGives K V E b at (Ok (Some q)) → Reads at 8 (NodeBytes at q)
      reads_child : {before hi p more q : ℕ} → Reads at before (NodeBytes hi p) → NodeTakes hi p more (Down q)
          → Reads at (before + part_len (NodeBytes hi p) + more) (NodeBytes p q)
      reads_entry : {before hi p more : ℕ} {part : Part} → Reads at before (NodeBytes hi p) → NodeReads hi p more part
          → Reads at (before + part_len (NodeBytes hi p) + more) part

    -- it reads so many bytes all together
    pub data Takes (at : ℕ) : ℕ → Type 0 where
      takes_own : HeadGives K V E b at (Ok None) → Takes at 8
      takes_tree : {before hi p more : ℕ} {next : Next} → Reads at before (NodeBytes hi p) → NodeTakes hi p more next → IsLast next
          → Takes at (before + part_len (NodeBytes hi p) + more)

module _ (K V : Kind) (E : ℕ) (KL VL : Lengths) where
  -- what a lookup that ends reads all together covers each part that it reads
  abbrev pub TakesCoverReads : Type 0
  TakesCoverReads =
      (b : List ℕ) (comparison : K.Value → Ordering) (at before all : ℕ) (part : Part) → Reads K V E b KL VL comparison at before part → Takes K V E b KL VL comparison at all
      → before + part_len K V E b KL VL part ≤ all

  -- so a budget of that many bytes is enough
  abbrev pub TakesAreEnough : Type 0
  TakesAreEnough =
      (b : List ℕ) (comparison : K.Value → Ordering) (at all budget : ℕ) → Takes K V E b KL VL comparison at all → all ≤ budget → ¬ (IsOver K V E b KL VL (Reads K V E b KL VL comparison at) budget)

  -- it is determined
  abbrev pub TakesAreDetermined : Type 0
  TakesAreDetermined =
      (b : List ℕ) (comparison : K.Value → Ordering) (at all other : ℕ) → Takes K V E b KL VL comparison at all → Takes K V E b KL VL comparison at other → all ≡ other
