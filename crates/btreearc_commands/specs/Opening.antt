-- What an archive is, and why other bytes are refused.
use Rattle.std.specs.Prelude.{ℕ, ◌-◌, List, length, Option}
use Rattle.std.specs.Option.{option_map}
use Rattle.std.specs.Ordering.{nat_cmp}
use Rattle.rkyv_btree_portable.specs.declared.refusal.Refusal.{Refusal}
use Rattle.rkyv_btree_verify.specs.Refusals.{RefusesMap}
use Rattle.rkyv_btree_portable.specs.Scalars.{u32_kind}
use Rattle.rkyv_btree_format.specs.Read.{entry_at, map_tree, read_map}
use Rattle.rkyv_btree_format.specs.Layout.{layout_of}
use Rattle.rkyv_btree_format.specs.Spells.{Accepted}
use Rattle.rkyv_btree_walk.specs.Search.{probe}
use Rattle.rkyv_btree_strict.specs.Strict.{RefusesStrict}
use Rattle.rkyv_btree_typed.specs.TypeNames.{name_of}
use Rattle.rkyv_btree_typed.specs.TypeNames as term
use Rattle.btreearc_lines.specs.Headings.{IsHeaded, IsMisheaded}
use Rattle.btreearc_lines.specs.declared.heading.Heading.{Heading}
use Rattle.btreearc_lines.specs.declared.fault.ProgramFault.{ProgramFault}
use Rattle.btreearc_lines.specs.declared.fault.ProgramFault.TheVariants.{Misheaded, Refused}

-- the position of the root: the last eight bytes, or position 0 where there are fewer
abbrev pub root_of : List ℕ → ℕ
root_of b = length b - 8

-- the name of its type
abbrev pub numbers_name : List ℕ
numbers_name = name_of (term.map term.u32 term.u32 5)

-- bytes begin with the header of the type, or with none
abbrev pub HasFitHeading : List ℕ → Type 0
HasFitHeading bytes = (heading : Heading) × IsHeaded numbers_name bytes heading

-- the archive of a list of entries
abbrev pub IsArchive : List ℕ → List (ℕ × ℕ) → Type 0
IsArchive b entries = (left : ℕ) × Accepted u32_kind u32_kind 5 b 0 (root_of b) (root_of b) left entries

-- a file that the program opens, with these entries
abbrev pub IsInput : List ℕ → List (ℕ × ℕ) → Type 0
IsInput bytes entries = HasFitHeading bytes × IsArchive bytes entries

-- the refusal of bytes that are no archive
abbrev pub RefusesArchive : List ℕ → Refusal → Type 0
RefusesArchive b refusal = RefusesMap u32_kind u32_kind 5 b 0 (root_of b) (root_of b) refusal

-- the entries that are read of the map at a position
abbrev pub entries_read : List ℕ → ℕ → List (ℕ × ℕ)
entries_read b at = read_map u32_kind u32_kind 5 b at

-- where the entry of the map at a position is that a search for a key asks and finds equal: its node and its number there
abbrev pub place_at : List ℕ → ℕ → ℕ → Option (ℕ × ℕ)
place_at b at key = probe (λ e. nat_cmp key (entry_at u32_kind u32_kind 5 b e).0) (map_tree (layout_of u32_kind u32_kind 5) b at)

-- that entry
abbrev pub found_at : List ℕ → ℕ → ℕ → Option (ℕ × ℕ)
found_at b at key = option_map (entry_at u32_kind u32_kind 5 b) (place_at b at key)

-- those of an archive
abbrev pub place_in_archive : List ℕ → ℕ → Option (ℕ × ℕ)
place_in_archive b key = place_at b (root_of b) key

abbrev pub found_in_archive : List ℕ → ℕ → Option (ℕ × ℕ)
found_in_archive b key = found_at b (root_of b) key

-- a fault of opening an archive
abbrev pub IsOpenFault : List ℕ → ProgramFault → Type 0
IsOpenFault bytes (Refused refusal) = RefusesArchive bytes refusal
IsOpenFault bytes (Misheaded fault) = IsMisheaded numbers_name bytes fault
IsOpenFault bytes _ = ⊥

-- the refusal of bytes that are no archive whose keys increase
abbrev pub RefusesStrictArchive : List ℕ → Refusal → Type 0
RefusesStrictArchive b refusal = RefusesStrict u32_kind u32_kind 5 b 0 (root_of b) (root_of b) refusal

-- a fault of opening one
abbrev pub IsStrictOpenFault : List ℕ → ProgramFault → Type 0
IsStrictOpenFault bytes (Refused refusal) = RefusesStrictArchive bytes refusal
IsStrictOpenFault bytes (Misheaded fault) = IsMisheaded numbers_name bytes fault
IsStrictOpenFault bytes _ = ⊥
