-- How the entries of a node are archived: each key and value is serialised by its writes, and resolved to its own bytes in
-- the node; or up to one that is refused.
use Rattle.std.specs.Prelude.{◌≡◌, ℕ, ◌+◌, ◌⊎◌, false, List, [], ◌∷◌, map, Option}
use Rattle.std.specs.Borrow.{Bor}
use Rattle.rkyv_btree_writer.specs.Archiving.{Archival, IsUnresolved, IsUnserialised}
use Rattle.rkyv_btree_writing_laws.specs.Image.{pointers_reach}
use Rattle.rkyv_btree_portable.specs.InPlace.{OwnBytes}
use Rattle.rkyv_btree_format.specs.Layout.{NodeLayout, key_at, value_at, len_at}
use Rattle.rkyv_btree_writer.specs.Writing.{Writing, position, Write, Wrote, EndInReach}
use Rattle.rkyv_btree_writer.specs.declared.fault.Fault.{Fault}
use Rattle.rkyv_btree_writer.specs.declared.fault.Fault.TheVariants.{LengthOverflow, OffsetOverflow}
use Rattle.rkyv_btree_writer.specs.declared.fault.ResolveFault.{ResolveFault}
use Rattle.rkyv_btree_writer.specs.declared.fault.ResolveFault.TheVariants as resolving

-- a value's writes were made in reach
pub record IsSerialised {X R : Type 0} (T : Archival X R) (from : Writing) (x : X) (r : R) (to : Writing) : Type 0 where
  pub writes : List Write
  pub allowed : T.Writes x (position from) writes r
  pub wrote : Wrote from writes to
  pub is_in : T.IsIn x
  pub end : EndInReach writes to

-- the own bytes of values that stand one after another from a position on
abbrev pub AreResolved : {X R : Type 0} → Archival X R → ℕ → List X → List R → List (List ℕ) → Type 0
AreResolved T at [] rs owns = (rs ≡ []) × (owns ≡ [])
AreResolved {X} {R} T at (x ∷ xs) rs owns =
    (r : R) × (others : List R) × (own : List ℕ) × (rest : List (List ℕ)) × T.Resolves x r at own
    × AreResolved T (at + T.kind.size) xs others rest × (rs ≡ r ∷ others) × (owns ≡ own ∷ rest)

-- the same up to a value that isn't resolved
abbrev pub AreUnresolved : {X R : Type 0} → Archival X R → ℕ → List X → List R → ResolveFault → Type 0
AreUnresolved T at [] rs fault = ⊥
AreUnresolved {X} {R} T at (x ∷ xs) rs fault =
    (r : R) × (others : List R) × (rs ≡ r ∷ others)
    × (IsUnresolved T x r at fault
    ⊎ ((own : List ℕ) × T.Resolves x r at own × AreUnresolved T (at + T.kind.size) xs others fault))

-- the fault of serialising that a fault of resolving is
abbrev pub as_fault : {E : Type 0} → ResolveFault → Fault E
as_fault resolving.LengthOverflow = LengthOverflow
as_fault resolving.OffsetOverflow = OffsetOverflow

-- what a pair of references leads to
abbrev pub now_of : {M N : Type 0} → Bor M × Bor N → M × N
now_of x = (x.0.now, x.1.now)

-- what a reference to a key leads to
abbrev pub now_of_key : {M : Type 0} → Bor M → M
now_of_key k = k.now

-- what a pair lends, by what its halves lend
abbrev pub both_borrowed : {A B M N : Type 0} → (A → M) → (B → N) → A × B → M × N
both_borrowed key value x = (key x.0, value x.1)

module _ {M N R S : Type 0} (K : Archival M R) (V : Archival N S) where
  -- the writes of entries, each with its key's first
  abbrev pub AreSerialised : Writing → List (M × N) → List R → List S → Writing → Type 0
  AreSerialised from [] rs ss to = (to ≡ from) × (rs ≡ []) × (ss ≡ [])
  AreSerialised from (x ∷ xs) rs ss to =
      (r : R) × (r2 : S) × (others : List R) × (others2 : List S) × (mid : Writing) × (next : Writing)
      × IsSerialised K from x.0 r mid × IsSerialised V mid x.1 r2 next × AreSerialised next xs others others2 to
      × (rs ≡ r ∷ others) × (ss ≡ r2 ∷ others2)

  -- the same up to a key or value that isn't serialised
  abbrev pub AreUnserialised : {E : Type 0} → Writing → List (M × N) → Fault E → Writing → Type 0
  AreUnserialised from [] fault to = ⊥
  AreUnserialised {E} from (x ∷ xs) fault to =
      IsUnserialised K x.0 from fault to
      ⊎ (((r : R) × (mid : Writing) × IsSerialised K from x.0 r mid × IsUnserialised V x.1 mid fault to)
      ⊎ ((r : R) × (r2 : S) × (mid : Writing) × (next : Writing) × IsSerialised K from x.0 r mid
      × IsSerialised V mid x.1 r2 next × AreUnserialised next xs fault to))

module _ {M N R S : Type 0} (s : NodeLayout) (K : Archival M R) (V : Archival N S) where
  -- the own bytes of entries in the node at a place
  pub record EntriesResolved (root : ℕ) (xs : List (M × N)) (keys : List R) (values : List S) (owns : List OwnBytes) : Type 0 where
    pub own_keys : AreResolved K (root + key_at s 0) (map (λ x. x.0) xs) keys (map (λ o. o.0) owns)
    pub own_values : AreResolved V (root + value_at s 0) (map (λ x. x.1) xs) values (map (λ o. o.1) owns)

  -- a key or value of theirs isn't resolved
  abbrev pub EntriesUnresolved : ℕ → List (M × N) → List R → List S → ResolveFault → Type 0
  EntriesUnresolved root xs keys values fault =
      AreUnresolved K (root + key_at s 0) (map (λ x. x.0) xs) keys fault
      ⊎ AreUnresolved V (root + value_at s 0) (map (λ x. x.1) xs) values fault

  -- they aren't, or a pointer of their inner node doesn't reach
  abbrev pub InnerUnfilled : ℕ → List (M × N) → List R → List S → List (Option ℕ) → ResolveFault → Type 0
  InnerUnfilled root xs keys values roots fault =
      EntriesUnresolved root xs keys values fault
      ⊎ ((owns : List OwnBytes) × EntriesResolved root xs keys values owns × (fault ≡ resolving.OffsetOverflow)
      × (pointers_reach (root + len_at s) roots ≡ false))
