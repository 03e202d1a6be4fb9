-- What the steps of a search in a source say, as the search of its bytes says it, and what is known of the value found. This mirrors
-- the code.
use Rattle.std.specs.Option.{option_map}
use Rattle.std.specs.Prelude.{◌≡◌, ◌+◌, ◌≤◌, ◌<◌, ℕ, IsTrue, List, Option, min}
use Rattle.std.specs.declared.cmp.Ordering.{Ordering}
use Rattle.std.specs.declared.cmp.Ordering.TheVariants.{Equal}
use Rattle.rkyv_btree_portable.specs.Kind.{Kind}
use Rattle.rkyv_btree_portable.specs.Views.{stands}
use Rattle.rkyv_btree_source.specs.Reads.{Lengths, Part, NodeBytes, NodeReads, NodeTakes, keys_len, part_len, part_room}
use Rattle.rkyv_btree_source.specs.declared.search.Hit.{Hit}
use Rattle.rkyv_btree_source.specs.declared.search.Stop.{Stop}
use Rattle.rkyv_btree_source.specs.declared.search.Stop.TheVariants.{At, Before}
use Rattle.rkyv_btree_source.specs.declared.search.Step.{Step}
use Rattle.rkyv_btree_source.specs.declared.search.Step.TheVariants.{Ends, Nothing, Below}
use Rattle.rkyv_btree_unverified.specs.Steps.{key_place, value_place, Asks, Gives, HasRoom, StopsBefore}
use Rattle.rkyv_btree_unverified.specs.declared.search.Halt.{Halt}
use Rattle.rkyv_btree_unverified.specs.declared.search.Halt.TheVariants.{Found, Below as HaltBelow}
use Rattle.rkyv_btree_unverified.specs.declared.search.Next.{Next}
use Rattle.rkyv_btree_unverified.specs.declared.search.Next.TheVariants.{Hit as NextHit, Miss, Down}

abbrev pub halt_of : Stop → Halt
halt_of (At i place) = Found i
halt_of (Before i) = HaltBelow i

abbrev pub next_of : Step → Next
next_of (Ends hit) = NextHit hit.index
next_of Nothing = Miss
next_of (Below q) = Down q

abbrev pub entry_of : Option Hit → Option (ℕ × ℕ)
entry_of = option_map (λ hit. (hit.node, hit.index))

-- the value that was brought is valid where it was brought to
abbrev pub StopStands : Kind → List ℕ → Stop → Type 0
StopStands V room (At i place) = IsTrue (stands V room place)
StopStands V room (Before i) = Unit {0}

-- where the search stops before an entry, this is one of so many, or after them
abbrev pub StopWithin : ℕ → Stop → Type 0
StopWithin count (At i place) = Unit {0}
StopWithin count (Before i) = i ≤ count

module _ (K V : Kind) (E : ℕ) where
  -- and reads there as the entry's value does in the source
  abbrev pub StopReads : List ℕ → List ℕ → ℕ → Stop → Type 0
  StopReads b room p (At i place) = V.read room place ≡ V.read b (value_place K V E (p, i))
  StopReads b room p (Before i) = Unit {0}

  abbrev pub HitReads : List ℕ → List ℕ → Hit → Type 0
  HitReads b room hit = V.read room hit.value ≡ V.read b (value_place K V E (hit.node, hit.index))

  -- the same of the step after the node at p, and where it goes on there is room for a leaf
  abbrev pub StepStands : List ℕ → ℕ → Step → Type 0
  StepStands room p (Ends hit) = IsTrue (stands V room hit.value) × (hit.node ≡ p)
  StepStands room p Nothing = Unit {0}
  StepStands room p (Below q) = HasRoom K V E p q

  abbrev pub StepReads : List ℕ → List ℕ → Step → Type 0
  StepReads b room (Ends hit) = HitReads b room hit
  StepReads b room Nothing = Unit {0}
  StepReads b room (Below q) = Unit {0}

module _ (K V : Kind) (E : ℕ) (b : List ℕ) (KL VL : Lengths) (comparison : K.Value → Ordering) where
  -- where the search of n keys of the node at p stops, and what it takes of a budget
  abbrev pub StopTakes : (p n old left : ℕ) → Stop → Type 0
  StopTakes p n old left (At i place) =
      Asks K V E b comparison p n i × Gives K V E b comparison Equal (p, i) × (old ≡ left + (keys_len K V E b KL VL p (i + 1) + VL.outlying b (value_place K V E (p, i))))
  StopTakes p n old left (Before i) = StopsBefore K V E b comparison p n i × (old ≡ left + keys_len K V E b KL VL p (min (i + 1) n))

  -- it had room for the keys that it compared, and for a value
  abbrev pub StopFits : (p n room : ℕ) → Stop → Type 0
  StopFits p n room (At i place) = ((k : ℕ) → k < i + 1 → KL.room b (key_place K V E (p, k)) ≤ room) × (VL.room b (value_place K V E (p, i)) ≤ room)
  StopFits p n room (Before i) = (k : ℕ) → k < min (i + 1) n → KL.room b (key_place K V E (p, k)) ≤ room

  -- the same of the search of the node, after its bytes and with them
  abbrev pub StepTakes : (hi p old left : ℕ) → Step → Type 0
  StepTakes hi p old left step = (more : ℕ) × NodeTakes K V E b KL VL comparison hi p more (next_of step) × (old ≡ left + more)

  abbrev pub NodeStepTakes : (hi p old left : ℕ) → Step → Type 0
  NodeStepTakes hi p old left step = (more : ℕ) × NodeTakes K V E b KL VL comparison hi p more (next_of step) × (old ≡ left + (part_len K V E b KL VL (NodeBytes hi p) + more))

  -- what is read from a node on: its bytes, its keys and a value, and what is read from its child on
  pub data From : ℕ → ℕ → Part → Type 0 where
    from_node : {hi p : ℕ} → From hi p (NodeBytes hi p)
    from_entry : {hi p more : ℕ} {part : Part} → NodeReads K V E b KL VL comparison hi p more part → From hi p part
    from_child : {hi p more q : ℕ} {part : Part} → NodeTakes K V E b KL VL comparison hi p more (Down q) → From p q part → From hi p part

  abbrev pub FromFits : (hi p room : ℕ) → Type 0
  FromFits hi p room = (part : Part) → From hi p part → part_room K V E b KL VL part ≤ room
