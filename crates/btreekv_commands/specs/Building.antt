-- Which entries are archived, and why entries have no archive.
use Rattle.std.specs.Prelude.{◌≡◌, ℕ, List, map, String, string_bytes}
use Rattle.std.specs.Cmp.Lexicographic.{slice_cmp}
use Rattle.std.specs.Ordering.{nat_cmp}
use Rattle.std.specs.declared.alloc.AllocError.{AllocError}
use Rattle.std.specs.declared.alloc.Global.{Global}
use Rattle.rkyv_btree_writer.specs.Archiving.{Archival}
use Rattle.rkyv_btree_writer.specs.declared.fault.Fault.{Fault}
use Rattle.rkyv_btree_writer.specs.declared.fault.Fault.TheVariants.{OutOfOrder}
use Rattle.rkyv_btree_format.specs.Increasing.{IsOutOfOrder}
use Rattle.rkyv_btree_writer.specs.TextArchival.{text_archival}
use Rattle.rkyv_btree_writing_laws.specs.TreeArchival.{tree_archival}
use Rattle.rkyv_btree_writer.specs.Writing.{Writing}
use Rattle.rkyv_btree_archive.specs.declared.try_build.TryFault.{TryFault}
use Rattle.rkyv_btree_archive.specs.declared.try_build.TryFault.TheVariants.{Item, Build}
use Rattle.rkyv_btree_convert.specs.Maps.{last_wins}
use Rattle.btreearc_lines.specs.Faults.{IsReadFault}
use Rattle.btreearc_lines.specs.declared.fault.ProgramFault.{ProgramFault}
use Rattle.btreearc_lines.specs.declared.fault.ProgramFault.TheVariants.{NotBuilt}
use Rattle.btreearc_lines.specs.declared.heading.Heading.{Heading}
use Rattle.btreekv_commands.specs.Files.{IsFile, IsUnmade, IsUnwrittenAfter, IsWhole}
use Rattle.btreekv_commands.specs.Lines.{Entry}
use Rattle.btreekv_commands.specs.Opening.{texts}
use Rattle.btreekv_commands.specs.Texts.{texts_of}

-- the entries of a std map into which all are inserted in turn: of equal keys the last value counts
abbrev pub last_values : List Entry → List Entry
last_values entries = last_wins (slice_cmp nat_cmp) entries

abbrev pub Native : Type 0
Native = String Global × String Global

-- how lists of entries are archived, whose texts are read so
abbrev pub entries_archival : {X : Type 0} → (X → List ℕ) → Archival (List (X × X)) ℕ
entries_archival text = tree_archival 5 (text_archival text) (text_archival text) (λ entries. entries)

abbrev pub bytes_archival : Archival (List Entry) ℕ
bytes_archival = entries_archival (λ bytes. bytes)

-- bytes are the file of texts of these bytes: it means them, and is what the builder writes
pub record IsBuilt (heading : Heading) (bytes : List ℕ) (entries : List Entry) : Type 0 where
  pub file : IsFile heading bytes entries
  pub whole : IsWhole bytes_archival heading entries bytes

-- bytes are the file of the entries of a std map, whose texts have these bytes
pub record IsBuiltMap (heading : Heading) (bytes : List ℕ) (entries : List Entry) : Type 0 where
  pub file : IsFile heading bytes entries
  pub native : List Native
  pub texts_are : map texts_of native ≡ entries
  pub whole : IsWhole (entries_archival string_bytes) heading native bytes

-- why texts of these bytes have no file
abbrev pub IsUnbuilt : {E : Type 0} → Heading → List Entry → Fault E → Type 0
IsUnbuilt heading entries fault = IsUnmade bytes_archival heading entries fault

-- why the entries of a std map have none, whose texts have these bytes
abbrev pub IsUnbuiltMap : Heading → List Entry → Fault AllocError → Type 0
IsUnbuiltMap heading entries fault = (native : List Native) × (map texts_of native ≡ entries) × IsUnmade (entries_archival string_bytes) heading native fault

-- an entry is the first out of order
abbrev pub IsOutOfOrderAt : List Entry → Fault AllocError → Type 0
IsOutOfOrderAt entries (OutOfOrder index) = IsOutOfOrder (slice_cmp nat_cmp) entries index
IsOutOfOrderAt entries fault = ⊥

-- why they have none whose keys increase: an entry is the first out of order, or one of these causes
abbrev pub IsUnbuiltInOrder : Heading → List Entry → Fault AllocError → Type 0
IsUnbuiltInOrder heading entries (OutOfOrder index) = IsOutOfOrder (slice_cmp nat_cmp) entries index
IsUnbuiltInOrder heading entries fault = IsUnbuilt heading entries fault

-- an error of building an archive
abbrev pub IsBuildFault : (Fault AllocError → Type 0) → ProgramFault → Type 0
IsBuildFault Unbuilt (NotBuilt fault) = Unbuilt fault
IsBuildFault Unbuilt _ = ⊥

-- an error of reading, or one of building an archive
abbrev pub IsReadOrBuildFault : (Fault AllocError → Type 0) → ProgramFault → Type 0
IsReadOrBuildFault Unbuilt (NotBuilt fault) = Unbuilt fault
IsReadOrBuildFault Unbuilt fault = IsReadFault fault

-- an error of building an archive of so many entries from a reader: why they have none, or reading has failed
abbrev pub IsTriedBy : {E : Type 0} → (Fault E → Type 0) → TryFault E ProgramFault → Type 0
IsTriedBy Unbuilt (Item fault) = IsReadFault fault
IsTriedBy Unbuilt (Build fault) = Unbuilt fault

abbrev pub IsTried : {E : Type 0} → Heading → List Entry → TryFault E ProgramFault → Type 0
IsTried {E} heading entries fault = IsTriedBy {E = E} (IsUnbuilt heading entries) fault

-- the same after what a writer holds
abbrev pub IsTriedAfter : {E : Type 0} → Writing → List Entry → TryFault E ProgramFault → Type 0
IsTriedAfter {E} from entries fault = IsTriedBy {E = E} (IsUnwrittenAfter bytes_archival texts from entries) fault
