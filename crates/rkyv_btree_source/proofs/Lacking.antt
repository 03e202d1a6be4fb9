-- What a lookup lacks where a read of one of its parts fails.
use Rattle.std.proofs.Common.{◌≡◌, ℕ, ◌+◌, ◌<◌, List, arith, subst, refl, add-one}
use Rattle.std.specs.declared.cmp.Ordering.{Ordering}
use Rattle.std.specs.declared.cmp.Ordering.TheVariants.{Equal}
use Rattle.std.specs.Prelude.{Ok}
use Rattle.rkyv_btree_portable.specs.Kind.{Kind}
use Rattle.rkyv_btree_source.specs.Reading.{IsOfReading}
use Rattle.rkyv_btree_source.specs.Reads.{Lengths, Part, NodeBytes, KeyText, ValueText, IsLacking, Lacks, IsShort, NodeReads, Reads, keys_len, part_len, part_room, reads_entry, reads_key, reads_value}
use Rattle.rkyv_btree_source.specs.declared.fault.SourceFault.{SourceFault}
use Rattle.rkyv_btree_source.specs.declared.fault.SourceFault.TheVariants.{Refused, Read, NoRoom, OverBudget}
use Rattle.rkyv_btree_unverified.specs.Steps.{key_place, value_place, Asks, Gives, NodeGives}

module _ (K V : Kind) (E : ℕ) (b : List ℕ) (KL VL : Lengths) where
  pub keys_more : (p i : ℕ) → keys_len K V E b KL VL p (i + 1) ≡ keys_len K V E b KL VL p i + KL.outlying b (key_place K V E (p, i))
  unfolding keys_len
  keys_more p i = rw add-one refl

  module _ {X : Type 0} (fault : SourceFault X) where
    -- where the budget is spelled otherwise
    pub lacks_by : (Reading : ℕ → Part → Type 0) (node budget other room : ℕ) → budget ≡ other → Lacks K V E b KL VL Reading node budget room fault → Lacks K V E b KL VL Reading node other room fault
    lacks_by Reading node budget other room same h = subst (λ (n : ℕ). Lacks K V E b KL VL Reading node n room fault) same h

    -- and where the length is
    pub lacks_in : (Reading : ℕ → Part → Type 0) (node budget room other : ℕ) → room ≡ other → Lacks K V E b KL VL Reading node budget room fault → Lacks K V E b KL VL Reading node budget other fault
    lacks_in Reading node budget room other same h = subst (λ (n : ℕ). Lacks K V E b KL VL Reading node budget n fault) same h

  -- the read of a part fails, or bringing it
  module _ (Reading : ℕ → Part → Type 0) (before : ℕ) (part : Part) (reads : Reading before part) (budget room left : ℕ) (spent : budget ≡ before + left) where
    pub part_lacks : {X : Type 0} (fault : SourceFault X) → IsLacking (λ n. (n ≡ part_room K V E b KL VL part) × (room < n)) (left < part_len K V E b KL VL part) fault
        → Lacks K V E b KL VL Reading 0 budget room fault
    part_lacks (Refused e) h = tt
    part_lacks (Read e) h = tt
    part_lacks (NoRoom n) h = record { before = before; part = part; reads = reads; needs = omega (arith, h.0); more = h.1 }
    part_lacks OverBudget h = record { before = before; part = part; reads = reads; within = omega (arith, spent); more = omega (arith, h, spent) }

    pub read_lacks : {X : Type 0} (fault : SourceFault X) → IsLacking (λ n. ⊥) (left < part_len K V E b KL VL part) fault → Lacks K V E b KL VL Reading 0 budget room fault
    read_lacks (Refused e) h = tt
    read_lacks (Read e) h = tt
    read_lacks (NoRoom n) h = absurd h
    read_lacks OverBudget h = record { before = before; part = part; reads = reads; within = omega (arith, spent); more = omega (arith, h, spent) }

    pub reading_lacks : {X : Type 0} (P : Type 0) (fault : SourceFault X) (n : ℕ) → n ≡ part_len K V E b KL VL part → IsOfReading ((left < n) × P) fault → Lacks K V E b KL VL Reading 0 budget room fault
    reading_lacks P (Refused e) n same h = tt
    reading_lacks P (Read e) n same h = tt
    reading_lacks P (NoRoom n) m same h = absurd h
    reading_lacks P OverBudget n same h = let low = h.0 in record { before = before; part = part; reads = reads; within = omega (arith, spent); more = omega (arith, low, spent, same) }

  -- a value at a place, spelled otherwise
  pub lacks_at : {X : Type 0} (fault : SourceFault X) (L : Lengths) (at place room left : ℕ) → at ≡ place → IsLacking (λ n. (n ≡ L.room b at) × (room < n)) (left < L.outlying b at) fault
      → IsLacking (λ n. (n ≡ L.room b place) × (room < n)) (left < L.outlying b place) fault
  lacks_at fault L at place room left same h = subst (λ (x : ℕ). IsLacking (λ n. (n ≡ L.room b x) × (room < n)) (left < L.outlying b x) fault) same h

  -- beside the bytes for a node
  pub short_beside : (Reading : ℕ → Part → Type 0) (node room lent n needed : ℕ) → IsShort K V E b KL VL Reading 0 room n → lent < needed → needed ≡ n + node → IsShort K V E b KL VL Reading node lent needed
  short_beside Reading node room lent n needed h short same =
      let needs = h.needs in
      record { before = h.before; part = h.part; reads = h.reads; needs = omega (arith, needs, same); more = short }

  module _ (comparison : K.Value → Ordering) where
    -- a key of a node or a value, after the keys before it
    module _ (hi p n i : ℕ) (gives : NodeGives K V E b hi p (Ok n)) (asks : Asks K V E b comparison p n i) (budget room left at : ℕ) {X : Type 0} (fault : SourceFault X) where
      pub key_lacks : budget ≡ left + keys_len K V E b KL VL p i → at ≡ key_place K V E (p, i) → IsLacking (λ n. (n ≡ KL.room b at) × (room < n)) (left < KL.outlying b at) fault
          → Lacks K V E b KL VL (NodeReads K V E b KL VL comparison hi p) 0 budget room fault
      key_lacks spent same h =
          part_lacks (NodeReads K V E b KL VL comparison hi p) (keys_len K V E b KL VL p i) (KeyText (p, i)) (reads_key gives asks) budget room left (omega (arith, spent)) fault
          (lacks_at fault KL at (key_place K V E (p, i)) room left same h)

      pub value_lacks : budget ≡ left + keys_len K V E b KL VL p (i + 1) → Gives K V E b comparison Equal (p, i) → at ≡ value_place K V E (p, i)
          → IsLacking (λ n. (n ≡ VL.room b at) × (room < n)) (left < VL.outlying b at) fault → Lacks K V E b KL VL (NodeReads K V E b KL VL comparison hi p) 0 budget room fault
      value_lacks spent equal same h =
          part_lacks (NodeReads K V E b KL VL comparison hi p) (keys_len K V E b KL VL p (i + 1)) (ValueText (p, i)) (reads_value gives asks equal) budget room left (omega (arith, spent)) fault
          (lacks_at fault VL at (value_place K V E (p, i)) room left same h)

    -- what the search of a node lacks, the lookup does
    pub below : {X : Type 0} (fault : SourceFault X) (at before hi p budget room left : ℕ) → Reads K V E b KL VL comparison at before (NodeBytes hi p) → budget ≡ before + part_len K V E b KL VL (NodeBytes hi p) + left
        → Lacks K V E b KL VL (NodeReads K V E b KL VL comparison hi p) 0 left room fault → Lacks K V E b KL VL (Reads K V E b KL VL comparison at) 0 budget room fault
    below (Refused e) at before hi p budget room left reads spent h = tt
    below (Read e) at before hi p budget room left reads spent h = tt
    below (NoRoom n) at before hi p budget room left reads spent h =
        record { before = before + part_len K V E b KL VL (NodeBytes hi p) + h.before; part = h.part; reads = reads_entry reads h.reads; needs = h.needs; more = h.more }
    below OverBudget at before hi p budget room left reads spent h =
        let within = h.within in
        let more = h.more in
        record {
          before = before + part_len K V E b KL VL (NodeBytes hi p) + h.before;
          part = h.part;
          reads = reads_entry reads h.reads;
          within = omega (arith, within, spent);
          more = omega (arith, more, spent);
        }
