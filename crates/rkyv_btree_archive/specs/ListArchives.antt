-- Archives of lists of items, which an iterator gives.
use Rattle.std.specs.Prelude.{ℕ, ◌≤◌, List, length, map, Option}
use Rattle.std.specs.Iterator.{Drains}
use Rattle.rkyv_btree_format.specs.OwnBytes.{own_at}
use Rattle.rkyv_btree_format.specs.Spells.{Accepted}
use Rattle.rkyv_btree_portable.specs.Kind.{Kind}
use Rattle.rkyv_btree_portable.specs.Scalars.{unit_kind}
use Rattle.rkyv_btree_verify.specs.Map.{map_kind}
use Rattle.rkyv_btree_writer.specs.Archiving.{Archival, Matches}
use Rattle.rkyv_btree_writer.specs.Writing.{Writing}
use Rattle.rkyv_btree_writer.specs.declared.fault.Fault.{Fault}
use Rattle.rkyv_btree_writing_laws.specs.Building.{IsMapUnwritten, IsSetUnwritten}
use Rattle.rkyv_btree_writing_laws.specs.SmallestMaps.{IsSmallestMap, entry_value, map_at}
use Rattle.rkyv_btree_writing_laws.specs.Whole.{fresh}

module _ {I M N R S P : Type 0} (K V : Kind) (E : ℕ) (KA : Archival M R) (VA : Archival N S) (borrowed : I → M × N) (steps : P → Option I → P → Type 0) (iter : P) where
  -- the bytes are an archive of the iterator's items
  pub record IsArchivedMap (bytes : List ℕ) : Type 0 where
    pub items : List I
    pub all : Drains steps iter items
    pub room : 8 ≤ length bytes
    -- its own bytes are the last eight, and no accepted map with as many entries is smaller
    pub smallest : (key : Matches KA.kind K) (value : Matches VA.kind V) → let at = own_at (map_kind K V E) bytes in
        (left : ℕ) × (a : Accepted K V E bytes 0 at at left (map (entry_value K V E KA VA key value) (map borrowed items))) × IsSmallestMap (map_at a)

  -- an error stopped it: that of writing the map into an empty vector
  abbrev pub IsUnarchivedMap : {X : Type 0} → ℕ → Fault X → Type 0
  IsUnarchivedMap claim fault = (after : Writing) × IsMapUnwritten K V E KA VA borrowed steps iter claim (λ w. w) fresh after fault

module _ {I M R P : Type 0} (K : Kind) (E : ℕ) (KA : Archival M R) (borrowed : I → M) (steps : P → Option I → P → Type 0) (iter : P) where
  -- the bytes are an archive of the iterator's items, as a set
  pub record IsArchivedSet (bytes : List ℕ) : Type 0 where
    pub keys : List I
    pub all : Drains steps iter keys
    pub room : 8 ≤ length bytes
    -- its own bytes are the last eight, and no accepted set with as many keys is smaller
    pub smallest : (key : Matches KA.kind K) → let at = own_at (map_kind K unit_kind E) bytes in
        (left : ℕ) × (a : Accepted K unit_kind E bytes 0 at at left (map (λ k. (key.to (KA.meaning (borrowed k)), tt)) keys)) × IsSmallestMap (map_at a)

  -- an error stopped it: that of writing the set into an empty vector
  abbrev pub IsUnarchivedSet : {X : Type 0} → ℕ → Fault X → Type 0
  IsUnarchivedSet claim fault = (after : Writing) × IsSetUnwritten K E KA borrowed steps iter claim (λ w. w) fresh after fault
