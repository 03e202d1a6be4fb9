-- Which entries are archived, and why entries have no archive.
use Rattle.std.specs.Prelude.{◌≡◌, ◌⊎◌, ℕ, List, map}
use Rattle.std.specs.declared.alloc.AllocError.{AllocError}
use Rattle.std.specs.declared.cmp.Ordering.{Ordering}
use Rattle.rkyv_btree_convert.specs.Maps.{last_wins}
use Rattle.rkyv_btree_format.specs.Increasing.{IsOutOfOrder}
use Rattle.rkyv_btree_portable.specs.Kind.{Kind}
use Rattle.rkyv_btree_verify.specs.Map.{map_kind}
use Rattle.rkyv_btree_writer.specs.Archiving.{Archival, Matches}
use Rattle.rkyv_btree_writer.specs.declared.fault.Fault.{Fault}
use Rattle.rkyv_btree_writer.specs.declared.fault.Fault.TheVariants.{OutOfOrder}
use Rattle.rkyv_btree_writing_laws.specs.SmallestMaps.{entry_value}
use Rattle.rkyv_btree_writing_laws.specs.TreeArchival.{tree_archival}
use Rattle.btreearc_lines.specs.Headings.{IsUnbegun, begun}
use Rattle.btreearc_lines.specs.declared.heading.Heading.{Heading}
use Rattle.btreekv_commands.specs.Files.{IsUnwrittenAfter}
use Rattle.btreekv_types.specs.declared.command.Order.{Order}
use Rattle.btreekv_types.specs.declared.command.Order.TheVariants.{Any, Increasing}

-- the entries that are archived: if they may come in any order, they are inserted in turn into a std map, so that of equal keys
-- the last value counts
abbrev pub archived_entries : {A B : Type 0} → (A → A → Ordering) → Order → List (A × B) → List (A × B)
archived_entries order Any entries = last_wins order entries
archived_entries order Increasing entries = entries

module _ {X R Y S : Type 0} (KA : Archival X R) (VA : Archival Y S) (K V : Kind) (name : List ℕ) where
  -- native entries have no file: the header isn't written, or they aren't written after it
  abbrev pub IsUnmadeOf : Heading → List (X × Y) → Fault AllocError → Type 0
  IsUnmadeOf heading natives fault =
      IsUnbegun name heading fault ⊎ IsUnwrittenAfter (tree_archival 5 KA VA (λ xs. xs)) (map_kind K V 5) (begun name heading) natives fault

  -- native entries that mean these
  pub record MeanEntries (entries : List (K.Value × V.Value)) (natives : List (X × Y)) : Type 0 where
    pub key : Matches KA.kind K
    pub value : Matches VA.kind V
    pub meant : map (entry_value K V 5 KA VA key value) natives ≡ entries

  -- why entries have no file: the first is out of order, if they must come in order; or native ones of those to be archived have none
  abbrev pub IsUnarchived : Order → Heading → List (K.Value × V.Value) → Fault AllocError → Type 0
  IsUnarchived order heading entries (OutOfOrder index) = (order ≡ Increasing) × IsOutOfOrder K.order entries index
  IsUnarchived order heading entries fault =
      (natives : List (X × Y)) × MeanEntries (archived_entries K.order order entries) natives × IsUnmadeOf heading natives fault
