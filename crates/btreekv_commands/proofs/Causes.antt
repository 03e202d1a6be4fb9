-- The program's errors of building, by their causes.
use Rattle.std.proofs.Common.{◌≡◌, ℕ, List, [], length, Bool, true, false, Option, Some, None, IfSome, Ok, Err, IfErr, inl, inr, refl, sym, subst}
use Rattle.std.specs.Prelude.{Result}
use Rattle.std.specs.declared.alloc.AllocError.{AllocError}
use Rattle.std.specs.Io.KnownBytes.{Keeps, Appends}
use Rattle.rkyv_btree_writer.specs.Archiving.{Archival, IsUnserialised, StopsIn}
use Rattle.rkyv_btree_writer.specs.declared.fault.Fault.{Fault}
use Rattle.rkyv_btree_writer.specs.declared.fault.Fault.TheVariants.{Length, LengthOverflow, PositionOverflow, OffsetOverflow, Writer, Memory, Entry as EntryRefused, OutOfOrder}
use Rattle.rkyv_btree_typed.specs.TypedWriting.{IsHeaderUnwritten}
use Rattle.rkyv_btree_writing_laws.specs.Whole.{IsUnplaced, fresh}
use Rattle.rkyv_btree_writer.specs.Writing.{Writing}
use Rattle.rkyv_btree_archive.specs.declared.try_build.TryFault.{TryFault}
use Rattle.rkyv_btree_archive.specs.declared.try_build.TryFault.TheVariants.{Item, Build}
use Rattle.btreearc_lines.specs.declared.fault.ProgramFault.{ProgramFault}
use Rattle.btreearc_lines.specs.declared.fault.ProgramFault.TheVariants.{Usage, Line, Refused, Misheaded, NotBuilt, InputFailed, OutputFailed, Memory as NoMemory}
use Rattle.btreearc_lines.specs.Faults.{IsReadTry, IsWriteFault, in_memory, program_fault}
use Rattle.btreekv_commands.specs.Building.{bytes_archival, IsBuilt, IsReadOrBuildFault, IsTried, IsTriedAfter, IsUnbuilt, IsUnbuiltInOrder}
use Rattle.btreearc_lines.specs.Headings.{IsUnbegun, begun}
use Rattle.btreearc_lines.specs.declared.heading.Heading.{Heading}
use Rattle.btreearc_lines.specs.declared.heading.Heading.TheVariants.{Typed, Untyped}
use Rattle.btreekv_commands.specs.Commands.{Does, Fails, Outputs}
use Rattle.btreekv_commands.specs.Lines.{Entry, AreLines}
use Rattle.btreekv_commands.specs.Opening.{texts, texts_name}
use Rattle.btreekv_commands.specs.Streaming.{IsInOrder, IsTested, build_command}

module _ {X R E : Type 0} (T : Archival X R) (x : X) (s t : Writing) where
  stops_past : StopsIn {E = E} T x s PositionOverflow t → StopsIn {E = AllocError} T x s PositionOverflow t
  stops_past (writes, begins, h) = (writes, begins, record { made = h.made; next = h.next; rest = h.rest; mid = h.mid; parts = h.parts; wrote = h.wrote; refused = h.refused })

  stops_stray : StopsIn {E = E} T x s OffsetOverflow t → StopsIn {E = AllocError} T x s OffsetOverflow t
  stops_stray (writes, begins, h) = (writes, begins, record { made = h.made; next = h.next; rest = h.rest; mid = h.mid; parts = h.parts; wrote = h.wrote; refused = h.refused })

  stops_writing : (error : E) (other : AllocError) → StopsIn T x s (Writer error) t → StopsIn T x s (Writer other) t
  stops_writing error other (writes, begins, h) = (writes, begins, record { made = h.made; next = h.next; rest = h.rest; mid = h.mid; parts = h.parts; wrote = h.wrote; refused = h.refused })

  unserialised_so : (fault : Fault E) → IsUnserialised T x s fault t → IsUnserialised T x s (in_memory fault) t
  unserialised_so (Length m) h = h
  unserialised_so LengthOverflow h = h
  unserialised_so PositionOverflow h = stops_past h
  unserialised_so OffsetOverflow h = stops_stray h
  unserialised_so (Writer error) h = stops_writing error _ h
  unserialised_so (Memory error) h = h
  unserialised_so (EntryRefused fault) h = h
  unserialised_so (OutOfOrder index) h = h

unplaced_so : {E : Type 0} (entries : List Entry) (r at : ℕ) (fault : Fault E) → IsUnplaced bytes_archival texts entries r at fault → IsUnplaced bytes_archival texts entries r at (in_memory fault)
unplaced_so entries r at (Length m) h = h
unplaced_so entries r at LengthOverflow h = h
unplaced_so entries r at PositionOverflow h = h
unplaced_so entries r at OffsetOverflow h = h
unplaced_so entries r at (Writer error) h = h
unplaced_so entries r at (Memory error) h = h
unplaced_so entries r at (EntryRefused fault) h = h
unplaced_so entries r at (OutOfOrder index) h = h

header_unwritten : {E : Type 0} (name : List ℕ) (s t : Writing) (fault : Fault E) → IsHeaderUnwritten name s fault t → IsHeaderUnwritten name s (in_memory fault) t
header_unwritten name s t (Length m) h = h
header_unwritten name s t LengthOverflow h = h
header_unwritten name s t PositionOverflow h = h
header_unwritten name s t OffsetOverflow h = h
header_unwritten name s t (Writer error) h = h
header_unwritten name s t (Memory error) h = h
header_unwritten name s t (EntryRefused fault) h = h
header_unwritten name s t (OutOfOrder index) h = h

unbegun_so : {E : Type 0} (name : List ℕ) (heading : Heading) (fault : Fault E) → IsUnbegun name heading fault → IsUnbegun name heading (in_memory fault)
unbegun_so name Typed fault h = (h.0, header_unwritten name fresh h.0 fault h.1)
unbegun_so name Untyped fault h = absurd h

unbuilt_so : {E : Type 0} (heading : Heading) (entries : List Entry) (fault : Fault E) → IsUnbuilt heading entries fault → IsUnbuilt heading entries (in_memory fault)
unbuilt_so heading entries fault (inl h) = inl (unbegun_so texts_name heading fault h)
unbuilt_so heading entries fault (inr (inl h)) = inr (inl (h.0, unserialised_so bytes_archival entries (begun texts_name heading) h.0 fault h.1))
unbuilt_so heading entries fault (inr (inr h)) = inr (inr (h.0, h.1, h.2, unplaced_so entries h.1 _ fault h.3))

-- after the heading, an error is one of the whole file
tried_after : {E : Type 0} (heading : Heading) (entries : List Entry) (fault : TryFault E ProgramFault) → IsTriedAfter (begun texts_name heading) entries fault → IsTried heading entries fault
tried_after heading entries (Item fault) h = h
tried_after heading entries (Build fault) h = inr h

pub tried_so : {E : Type 0} (heading : Heading) (from : Writing) (entries : List Entry) (fault : TryFault E ProgramFault) → from ≡ begun texts_name heading → IsTriedAfter from entries fault → IsTried heading entries fault
tried_so {E} heading from entries fault start h = tried_after heading entries fault (subst (λ (w : Writing). IsTriedAfter {E = E} w entries fault) start h)

-- a cause for the entries of lines, whatever is known of them
abbrev pub Because : Option (List ℕ) → ℕ → (List Entry → Type 0) → Type 0
Because given count Why = IfSome given (λ bytes. (entries : List Entry) → AreLines bytes entries → count ≡ length entries → Why entries)

pub because_so : {P Q : List Entry → Type 0} (given : Option (List ℕ)) (count : ℕ) → ((entries : List Entry) → P entries → Q entries) → Because given count P → Because given count Q
because_so None count f h = tt
because_so (Some bytes) count f h = λ entries are number. f entries (h entries are number)

pub always : {Q : List Entry → Type 0} (given : Option (List ℕ)) (count : ℕ) → ((entries : List Entry) → Q entries) → Because given count Q
always None count f = tt
always (Some bytes) count f = λ entries are number. f entries

-- the program's error for one of building
pub program_caused : {E : Type 0} (heading : Heading) (given : Option (List ℕ)) (count : ℕ) (fault : TryFault E ProgramFault) → IsReadTry fault → Because given count (λ entries. IsTried heading entries fault) → IsReadOrBuildFault (λ f. Because given count (λ entries. IsUnbuilt heading entries f)) (program_fault fault)
program_caused heading given count (Item Usage) read h = absurd read
program_caused heading given count (Item (Line n)) read h = absurd read
program_caused heading given count (Item (Refused r)) read h = absurd read
program_caused heading given count (Item (Misheaded f)) read h = absurd read
program_caused heading given count (Item (NotBuilt f)) read h = absurd read
program_caused heading given count (Item InputFailed) read h = tt
program_caused heading given count (Item OutputFailed) read h = absurd read
program_caused heading given count (Item NoMemory) read h = tt
program_caused heading given count (Build fault) read h = because_so given count (λ entries. unbuilt_so heading entries fault) h

begun_in_order : (name : List ℕ) (heading : Heading) (index : ℕ) → IsUnbegun {E = AllocError} name heading (OutOfOrder index) → ⊥
begun_in_order name Typed index h = h.1
begun_in_order name Untyped index h = h

unbuilt_in_order : (heading : Heading) (entries : List Entry) (fault : Fault AllocError) → IsUnbuilt heading entries fault → IsUnbuiltInOrder heading entries fault
unbuilt_in_order heading entries (Length m) h = h
unbuilt_in_order heading entries LengthOverflow h = h
unbuilt_in_order heading entries PositionOverflow h = h
unbuilt_in_order heading entries OffsetOverflow h = h
unbuilt_in_order heading entries (Writer error) h = h
unbuilt_in_order heading entries (Memory error) h = h
unbuilt_in_order heading entries (EntryRefused fault) h = h
unbuilt_in_order heading entries (OutOfOrder index) (inl h) = absurd (begun_in_order texts_name heading index h)
unbuilt_in_order heading entries (OutOfOrder index) (inr (inl h)) = absurd h.1
unbuilt_in_order heading entries (OutOfOrder index) (inr (inr h)) = absurd h.3

fails_unbuilt : (is_strict : Bool) (heading : Heading) (bytes : List ℕ) (entries : List Entry) → AreLines bytes entries → (fault : Fault AllocError) → IsUnbuilt heading entries fault → Fails (build_command is_strict heading) bytes (NotBuilt fault)
fails_unbuilt true heading bytes entries are fault h = (entries, are, unbuilt_in_order heading entries fault h)
fails_unbuilt false heading bytes entries are fault h = (entries, are, h)

fails_reading : (is_strict : Bool) (heading : Heading) (bytes : List ℕ) → Fails (build_command is_strict heading) bytes InputFailed × Fails (build_command is_strict heading) bytes NoMemory
fails_reading true heading bytes = (tt, tt)
fails_reading false heading bytes = (tt, tt)

-- an error of building of lines that were counted is one of the command
fails_known : (is_strict : Bool) (heading : Heading) (bytes : List ℕ) (count : ℕ) (entries : List Entry) → AreLines bytes entries → count ≡ length entries → (fault : ProgramFault) → IsReadOrBuildFault (λ f. Because (Some bytes) count (λ es. IsUnbuilt heading es f)) fault → Fails (build_command is_strict heading) bytes fault
fails_known is_strict heading bytes count entries are number Usage h = absurd h
fails_known is_strict heading bytes count entries are number (Line n) h = absurd h
fails_known is_strict heading bytes count entries are number (Refused r) h = absurd h
fails_known is_strict heading bytes count entries are number (Misheaded f) h = absurd h
fails_known is_strict heading bytes count entries are number (NotBuilt fault) h = fails_unbuilt is_strict heading bytes entries are fault (h entries are number)
fails_known is_strict heading bytes count entries are number InputFailed h = (fails_reading is_strict heading bytes).0
fails_known is_strict heading bytes count entries are number OutputFailed h = absurd h
fails_known is_strict heading bytes count entries are number NoMemory h = (fails_reading is_strict heading bytes).1

pub fails_so : (is_strict : Bool) (heading : Heading) (given : Option (List ℕ)) (count : ℕ) → IfSome given (λ bytes. (entries : List Entry) × AreLines bytes entries × (count ≡ length entries)) → (fault : ProgramFault) → IsReadOrBuildFault (λ f. Because given count (λ es. IsUnbuilt heading es f)) fault → IfSome given (λ bytes. Fails (build_command is_strict heading) bytes fault)
fails_so is_strict heading None count counted fault h = tt
fails_so is_strict heading (Some bytes) count counted fault h = fails_known is_strict heading bytes count counted.0 counted.1 counted.2 fault h

pub errs_so : {T E : Type 0} {P Q : E → Type 0} (r : Result T E) → ((fault : E) → P fault → Q fault) → IfErr r P → IfErr r Q
errs_so (Ok x) f h = tt
errs_so (Err fault) f h = f fault h

-- what a writer is known to hold stays so
pub keeps_known : (old new : Option (List ℕ)) (xs : List ℕ) → old ≡ Some xs → Keeps old new → new ≡ Some xs
keeps_known old None xs is keeps = absurd (subst (λ (o : Option (List ℕ)). Keeps o None) is keeps)
keeps_known old (Some ys) xs is keeps = let same : ys ≡ xs = subst (λ (o : Option (List ℕ)). Keeps o (Some ys)) is keeps in subst (λ (zs : List ℕ). Some zs ≡ Some xs) (sym same) refl

outputs : (is_strict : Bool) (heading : Heading) (bytes text : List ℕ) (entries : List Entry) → AreLines bytes entries → IsBuilt heading text entries → IsInOrder is_strict entries → Outputs (build_command is_strict heading) bytes text 0
outputs true heading bytes text entries are archive order = (refl, (entries, are, archive, order))
outputs false heading bytes text entries are archive order = (refl, (entries, are, archive))

-- the archive was written of lines that were tested, and nothing else is held
pub written_so : (is_strict : Bool) (heading : Heading) (given left : Option (List ℕ)) (count : ℕ) (held : Option (List ℕ)) → left ≡ given → IfSome given (IsTested is_strict heading count) → Because left count (λ entries. (text : List ℕ) × IsBuilt heading text entries × (held ≡ Some text)) → IfSome given (λ bytes. (text : List ℕ) × Outputs (build_command is_strict heading) bytes text 0 × Appends (Some []) held text)
written_so is_strict heading None left count held same tested h = tt
written_so is_strict heading (Some bytes) left count held same tested h =
    let made = subst (λ (o : Option (List ℕ)). Because o count (λ entries. (text : List ℕ) × IsBuilt heading text entries × (held ≡ Some text))) same h tested.entries tested.are tested.number in
    (made.0, outputs is_strict heading bytes made.0 tested.entries tested.are made.1 tested.order, subst (λ (o : Option (List ℕ)). Appends (Some []) o made.0) (sym made.2) refl)

tested_outputs : (is_strict : Bool) (heading : Heading) (given : Option (List ℕ)) (count : ℕ) → IfSome given (IsTested is_strict heading count)
    → IfSome given (λ bytes. (text : List ℕ) × (status : ℕ) × Outputs (build_command is_strict heading) bytes text status)
tested_outputs is_strict heading None count tested = tt
tested_outputs is_strict heading (Some bytes) count t = (t.text, 0, outputs is_strict heading bytes t.text t.entries t.are t.archive t.order)

-- lines that were tested weren't written
pub unwritten_so : (is_strict : Bool) (heading : Heading) (given old new : Option (List ℕ)) (count : ℕ) → IfSome given (IsTested is_strict heading count)
    → (fault : ProgramFault) → IsWriteFault fault → Does (build_command is_strict heading) given old new (Err fault)
unwritten_so is_strict heading given old new count tested Usage h = absurd h
unwritten_so is_strict heading given old new count tested (Line n) h = absurd h
unwritten_so is_strict heading given old new count tested (Refused r) h = absurd h
unwritten_so is_strict heading given old new count tested (Misheaded f) h = absurd h
unwritten_so is_strict heading given old new count tested (NotBuilt f) h = absurd h
unwritten_so is_strict heading given old new count tested InputFailed h = absurd h
unwritten_so is_strict heading given old new count tested OutputFailed h = tested_outputs is_strict heading given count tested
unwritten_so is_strict heading given old new count tested NoMemory h = absurd h
