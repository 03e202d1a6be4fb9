-- What the calls promise that build from an iterator, and what an error of theirs leaves.
use Rattle.std.specs.Prelude.{◌≡◌, ℕ, ◌+◌, ◌<◌, ◌≤◌, ◌↔◌, ◌⊎◌, ◌++◌, true, List, length, map, Option, Result, IsOk, OnOk, OnErr, IsErrOf, alloc_error}
use Rattle.std.specs.declared.cmp.Ordering.{Ordering}
use Rattle.rkyv_btree_portable.specs.Kind.{Kind}
use Rattle.rkyv_btree_portable.specs.Rounding.{round_up}
use Rattle.rkyv_btree_portable.specs.Scalars.{unit_kind}
use Rattle.rkyv_btree_format.specs.Layout.{layout_of}
use Rattle.rkyv_btree_format.specs.Spells.{Accepted}
use Rattle.std.specs.Iterator.{Drains}
use Rattle.rkyv_btree_writer.specs.Archiving.{Archival, BeginsWith, Matches}
use Rattle.rkyv_btree_writer.specs.Writing.{Writing, Wrote, position, last_end}
use Rattle.rkyv_btree_writer.specs.declared.fault.Fault.{Fault}
use Rattle.rkyv_btree_writer.specs.declared.fault.Fault.TheVariants.{Memory, OutOfOrder}
use Rattle.rkyv_btree_writer.specs.declared.fault.ResolveFault.{ResolveFault}
use Rattle.rkyv_btree_writer.specs.declared.fault.ResolveFault.TheVariants as resolving
use Rattle.rkyv_btree_writing_laws.specs.Image.{root_bytes, root_image, root_reaches}
use Rattle.rkyv_btree_writing_laws.specs.Kept.{NeverGrows, OnlyAppended}
use Rattle.rkyv_btree_writing_laws.specs.OneTree.{BuildsOneTree, BuildsOneTreeSet, OneTreeWritten}
use Rattle.rkyv_btree_writing_laws.specs.Serialising.{BuildsTree, FailsToBuild, RootFault}
use Rattle.rkyv_btree_writing_laws.specs.Sets.{BuildsSet, FailsToBuildSet}
use Rattle.rkyv_btree_writing_laws.specs.SmallestMaps.{ArchivesItems, ArchivesKeys, BuildsSmallest, BuildsSmallestSet, IsSmallestArchive, IsSmallestMap, entry_value, map_at}
use Rattle.rkyv_btree_writing_laws.specs.StrictBuilding.{FailsInOrder, FailsSetInOrder}

module _ {I M N R S P Q : Type 0} (K V : Kind) (E : ℕ) (KA : Archival M R) (VA : Archival N S)
    (borrowed : I → M × N) (steps : P → Option I → P → Type 0) (iter : P) (claim : ℕ) (state : Q → Writing) (before after : Q) where
  -- the tree of the iterator's items was built
  pub record IsBuilt (root : ℕ) : Type 0 where
    -- with the map after it, what was appended is a map of the items
    pub archived : ArchivesItems K V E KA VA borrowed steps iter claim state before after root
    -- no accepted map with as many entries has fewer nodes, node bytes or levels
    pub smallest : BuildsSmallest K V E KA VA borrowed steps iter claim state before after root
    -- docs/FORMAT.md says which bytes these are
    pub written : BuildsTree K V E KA VA borrowed steps iter claim state before after root
    -- the tree is the only left-complete tree of the items, and the appended bytes are its image
    pub one_tree : BuildsOneTree K V E KA VA borrowed steps iter claim state before after root
    -- no node ends past the last position
    pub end : 0 < claim → position (state after) ≤ last_end
    -- no write has failed, and bytes were only appended
    pub went : OnlyAppended (state before) (state after)

  -- an error stopped it
  pub record IsUnbuilt {X : Type 0} (fault : Fault X) : Type 0 where
    pub cause : FailsToBuild K V E KA VA borrowed steps iter claim state before after fault
    -- the contents begin with the old ones
    pub kept : BeginsWith (state after) (state before)
    -- after an error of memory the writer is unchanged, if serializing an entry takes no memory
    pub memory : NeverGrows KA → NeverGrows VA → fault ≡ Memory alloc_error → state after ≡ state before
    -- keys in any order are serialized: no error is `OutOfOrder`
    pub any_order : (index : ℕ) → fault ≡ OutOfOrder index → ⊥

  -- the iterator's items were written as a map at a position
  pub record IsMapWritten (at : ℕ) : Type 0 where
    pub items : List I
    pub all : Drains steps iter items
    -- the writer's bytes, after as many as its base, are a map of them, and no accepted map with as many entries is smaller
    pub smallest : (key : Matches KA.kind K) (value : Matches VA.kind V) (front : List ℕ) → length front ≡ (state before).base
        → (left : ℕ) × (a : Accepted K V E (front ++ (state after).contents) 0 at at left (map (entry_value K V E KA VA key value) (map borrowed items)))
        × IsSmallestMap (map_at a)
    -- the map is the last of them
    pub end : position (state after) ≡ at + 8
    -- no write has failed, and bytes were only appended
    pub went : OnlyAppended (state before) (state after)

  -- an error stopped it
  pub record IsMapUnwritten {X : Type 0} (fault : Fault X) : Type 0 where
    -- the tree isn't built, or the map isn't written after it
    pub cause : FailsToBuild K V E KA VA borrowed steps iter claim state before after fault
        ⊎ ((mid : Q) × (root : ℕ) × BuildsTree K V E KA VA borrowed steps iter claim state before mid root × RootFault root claim (state mid) fault (state after))
    -- the contents begin with the old ones
    pub kept : BeginsWith (state after) (state before)

module _ {I M R P Q : Type 0} (K : Kind) (E : ℕ) (KA : Archival M R) (borrowed : I → M) (steps : P → Option I → P → Type 0)
    (iter : P) (claim : ℕ) (state : Q → Writing) (before after : Q) where
  -- the tree of the iterator's items was built, which are the keys of a set
  pub record IsBuiltSet (root : ℕ) : Type 0 where
    -- with the set after it, what was appended is a set of the items
    pub archived : ArchivesKeys K E KA borrowed steps iter claim state before after root
    -- no accepted set with as many keys has fewer nodes, node bytes or levels
    pub smallest : BuildsSmallestSet K E KA borrowed steps iter claim state before after root
    -- docs/FORMAT.md says which bytes these are
    pub written : BuildsSet K E KA borrowed steps iter claim state before after root
    -- the tree is the only left-complete tree of the keys, and the appended bytes are its image
    pub one_tree : BuildsOneTreeSet K E KA borrowed steps iter claim state before after root
    -- no node ends past the last position
    pub end : 0 < claim → position (state after) ≤ last_end
    -- no write has failed, and bytes were only appended
    pub went : OnlyAppended (state before) (state after)

  -- an error stopped it
  pub record IsUnbuiltSet {X : Type 0} (fault : Fault X) : Type 0 where
    pub cause : FailsToBuildSet K E KA borrowed steps iter claim state before after fault
    -- the contents begin with the old ones
    pub kept : BeginsWith (state after) (state before)
    -- after an error of memory the writer is unchanged, if serializing a key takes no memory
    pub memory : NeverGrows KA → fault ≡ Memory alloc_error → state after ≡ state before
    -- keys in any order are serialized: no error is `OutOfOrder`
    pub any_order : (index : ℕ) → fault ≡ OutOfOrder index → ⊥

  -- the iterator's items were written as a set at a position
  pub record IsSetWritten (at : ℕ) : Type 0 where
    pub keys : List I
    pub all : Drains steps iter keys
    -- the writer's bytes, after as many as its base, are a set of them, and no accepted set with as many keys is smaller
    pub smallest : (key : Matches KA.kind K) (front : List ℕ) → length front ≡ (state before).base
        → (left : ℕ) × (a : Accepted K unit_kind E (front ++ (state after).contents) 0 at at left
        (map (λ k. (key.to (KA.meaning (borrowed k)), tt)) keys))
        × IsSmallestMap (map_at a)
    -- the set is the last of them
    pub end : position (state after) ≡ at + 8
    -- no write has failed, and bytes were only appended
    pub went : OnlyAppended (state before) (state after)

  -- an error stopped it
  pub record IsSetUnwritten {X : Type 0} (fault : Fault X) : Type 0 where
    -- the tree isn't built, or the set isn't written after it
    pub cause : FailsToBuildSet K E KA borrowed steps iter claim state before after fault
        ⊎ ((mid : Q) × (root : ℕ) × BuildsSet K E KA borrowed steps iter claim state before mid root × RootFault root claim (state mid) fault (state after))
    -- the contents begin with the old ones
    pub kept : BeginsWith (state after) (state before)

module _ {I M N R S P Q : Type 0} (order : M → M → Ordering) (K V : Kind) (E : ℕ) (KA : Archival M R) (VA : Archival N S)
    (borrowed : I → M × N) (steps : P → Option I → P → Type 0) (iter : P) (claim : ℕ) (state : Q → Writing) (before after : Q) where
  -- an error stopped building, where keys must increase
  pub record IsUnbuiltInOrder {X : Type 0} (fault : Fault X) : Type 0 where
    -- each error's cause is there, and no key before it is out of order
    pub cause : FailsInOrder order K V E KA VA borrowed steps iter claim state before after fault
    -- the contents begin with the old ones
    pub kept : BeginsWith (state after) (state before)
    -- after an error of memory the writer is unchanged, if serializing an entry takes no memory
    pub memory : NeverGrows KA → NeverGrows VA → fault ≡ Memory alloc_error → state after ≡ state before

module _ {I M R P Q : Type 0} (order : M → M → Ordering) (K : Kind) (E : ℕ) (KA : Archival M R) (borrowed : I → M) (steps : P → Option I → P → Type 0)
    (iter : P) (claim : ℕ) (state : Q → Writing) (before after : Q) where
  -- an error stopped that of a set, whose keys must increase
  pub record IsUnbuiltSetInOrder {X : Type 0} (fault : Fault X) : Type 0 where
    -- each error's cause is there, and no key before it is out of order
    pub cause : FailsSetInOrder order K E KA borrowed steps iter claim state before after fault
    -- the contents begin with the old ones
    pub kept : BeginsWith (state after) (state before)
    -- after an error of memory the writer is unchanged, if serializing a key takes no memory
    pub memory : NeverGrows KA → fault ≡ Memory alloc_error → state after ≡ state before

module _ {M N R S : Type 0} (K V : Kind) (E : ℕ) (KA : Archival M R) (VA : Archival N S) (from : Writing) (entries : List (M × N)) (to : Writing) where
  -- the tree of these entries was built
  pub record IsBuiltOf (root : ℕ) : Type 0 where
    -- with the map after it, it means the entries, and no accepted map with as many has fewer nodes, node bytes or levels
    pub smallest : IsSmallestArchive K V E KA VA from entries root to
    -- the tree is the only left-complete tree of the entries, and the appended bytes are its image
    pub one_tree : 0 < length entries → OneTreeWritten (layout_of K V E) KA VA from entries root to

-- what filling the eight bytes of a map at a position leaves, over its root node and for so many entries
pub record IsRootFilled (pos root entries : ℕ) (before after : List ℕ) (result : Result (Unit {0}) ResolveFault) : Type 0 where
  -- docs/FORMAT.md says which bytes these are
  pub ok : OnOk result (after ≡ root_bytes pos root entries)
  -- after an error they are unchanged
  pub err : OnErr result (after ≡ before)
  -- it succeeds exactly where the number has 32 bits and the pointer reaches the root
  pub fits : IsOk result ↔ ((entries ≤ last_end) × (root_reaches pos root entries ≡ true))
  pub length : IsErrOf result resolving.LengthOverflow ↔ (last_end < entries)

-- a map of so many entries was written over its root node, at a position
pub record IsRootWritten (entries root : ℕ) (from to : Writing) (at : ℕ) : Type 0 where
  pub pos : at ≡ round_up (position from) 4
  -- docs/FORMAT.md says which bytes these are
  pub wrote : Wrote from (root_image (position from) root entries) to
  pub last : position to ≤ last_end
  pub len : entries ≤ last_end
  pub went : OnlyAppended from to

-- an error stopped it
pub record IsRootUnwritten {X : Type 0} (entries root : ℕ) (from to : Writing) (fault : Fault X) : Type 0 where
  pub cause : RootFault root entries from fault to
  -- the contents begin with the old ones
  pub kept : BeginsWith to from
