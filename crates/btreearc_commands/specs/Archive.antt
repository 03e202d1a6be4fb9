-- The archive of entries: the header of the type or none, then their tree, and after it the map.
use Rattle.std.specs.Prelude.{◌≡◌, ℕ, ◌+◌, ◌<◌, ◌≤◌, List, ◌++◌, length, map, unwrap_or}
use Rattle.std.specs.Int.{w32, to_le_bytes}
use Rattle.std.specs.Ordering.{nat_cmp}
use Rattle.rkyv_btree_writing_laws.specs.Image.{child_image, child_root, root_image}
use Rattle.rkyv_btree_portable.specs.InPlace.{OwnBytes}
use Rattle.rkyv_btree_format.specs.Layout.{NodeLayout, layout_of}
use Rattle.rkyv_btree_portable.specs.Scalars.{u32_kind}
use Rattle.rkyv_btree_shape.specs.Plan.{planned_alone}
use Rattle.rkyv_btree_writer.specs.Writing.{Write, appended, AllReach, last_end, position}
use Rattle.rkyv_btree_writer.specs.declared.fault.Fault.{Fault}
use Rattle.rkyv_btree_writer.specs.declared.fault.Fault.TheVariants.{Length, LengthOverflow, PositionOverflow, OffsetOverflow, Writer, Memory, Entry, OutOfOrder}
use Rattle.rkyv_btree_format.specs.Increasing.{IsOutOfOrder}
use Rattle.btreearc_commands.specs.Opening.{IsArchive, numbers_name}
use Rattle.btreearc_lines.specs.Headings.{IsHeaded, begun, prefix}
use Rattle.btreearc_lines.specs.declared.heading.Heading.{Heading}
use Rattle.btreearc_lines.specs.declared.fault.ProgramFault.{ProgramFault}
use Rattle.btreearc_lines.specs.declared.fault.ProgramFault.TheVariants.{NotBuilt}

-- the own bytes of an entry's key and value
abbrev pub own_bytes : ℕ × ℕ → OwnBytes
own_bytes x = (to_le_bytes w32 x.0, to_le_bytes w32 x.1)

-- the program's nodes have five entries
abbrev pub five : NodeLayout
five = layout_of u32_kind u32_kind 5

-- the position after the header, if there is one
abbrev pub start : Heading → ℕ
start heading = position (begun numbers_name heading)

-- the writes of the tree from there on, and then of the map
abbrev pub tree_writes : Heading → List (ℕ × ℕ) → List Write
tree_writes heading entries = child_image five (start heading) (planned_alone 5 (map own_bytes entries))

abbrev pub root_node : Heading → List (ℕ × ℕ) → ℕ
root_node heading entries = unwrap_or (child_root five (start heading) (planned_alone 5 (map own_bytes entries))) 0

abbrev pub root_writes : Heading → List (ℕ × ℕ) → List Write
root_writes heading entries =
    root_image (start heading + length (appended (tree_writes heading entries))) (root_node heading entries) (length entries)

abbrev pub archive_of : Heading → List (ℕ × ℕ) → List ℕ
archive_of heading entries = prefix numbers_name heading ++ appended (tree_writes heading entries ++ root_writes heading entries)

-- entries have an archive: they are not too many, it ends at the last position at most, and each pointer in it reaches
pub record HasArchive (heading : Heading) (entries : List (ℕ × ℕ)) : Type 0 where
  pub count : length entries ≤ last_end
  pub end : length (archive_of heading entries) ≤ last_end
  pub reach : AllReach (tree_writes heading entries ++ root_writes heading entries)

-- bytes are the archive of entries, which they have, and which begins so, is accepted and means them
pub record IsArchived (heading : Heading) (bytes : List ℕ) (entries : List (ℕ × ℕ)) : Type 0 where
  pub exact : bytes ≡ archive_of heading entries
  pub fits : HasArchive heading entries
  pub headed : IsHeaded numbers_name bytes heading
  pub accepted : IsArchive bytes entries

-- why entries have no archive: they are too many, or it ends past the last position, or a pointer in it would not reach; or a growth is refused
abbrev pub IsUnbuilt : {X : Type 0} → Heading → List (ℕ × ℕ) → Fault X → Type 0
IsUnbuilt heading entries LengthOverflow = last_end < length entries
IsUnbuilt heading entries PositionOverflow = last_end < length (archive_of heading entries)
IsUnbuilt heading entries OffsetOverflow = AllReach (tree_writes heading entries ++ root_writes heading entries) → ⊥
IsUnbuilt heading entries (Writer error) = Unit {0}
IsUnbuilt heading entries (Memory error) = Unit {0}
IsUnbuilt heading entries (Length mismatch) = ⊥
IsUnbuilt heading entries (Entry fault) = ⊥
IsUnbuilt heading entries (OutOfOrder index) = ⊥

-- why entries have no archive whose keys must increase: an entry is the first out of order; or for one of these causes
abbrev pub IsUnbuiltInOrder : {X : Type 0} → Heading → List (ℕ × ℕ) → Fault X → Type 0
IsUnbuiltInOrder heading entries (OutOfOrder index) = IsOutOfOrder nat_cmp entries index
IsUnbuiltInOrder heading entries fault = IsUnbuilt heading entries fault

-- a fault of building an archive
abbrev pub IsBuildFault : Heading → List (ℕ × ℕ) → ProgramFault → Type 0
IsBuildFault heading entries (NotBuilt fault) = IsUnbuilt heading entries fault
IsBuildFault heading entries _ = ⊥
