-- The program's errors of building from lines, by their causes.
use Rattle.std.proofs.Common.{arith, ◌≡◌, ℕ, List, [], length, Bool, true, false, Option, Some, None, IfSome, Ok, Err, refl, sym, subst}
use Rattle.std.specs.Io.KnownBytes.{Keeps, Appends}
use Rattle.rkyv_btree_writer.specs.declared.fault.Fault.{Fault}
use Rattle.rkyv_btree_writer.specs.declared.fault.Fault.TheVariants.{Length, LengthOverflow, PositionOverflow, OffsetOverflow, Writer, Memory, Entry, OutOfOrder}
use Rattle.rkyv_btree_archive.specs.declared.try_build.TryFault.{TryFault}
use Rattle.rkyv_btree_archive.specs.declared.try_build.TryFault.TheVariants.{Item, Build}
use Rattle.btreearc_lines.specs.Faults.{IsReadFault, IsWriteFault, in_memory, program_fault}
use Rattle.btreearc_lines.specs.Grammar.{IsLines}
use Rattle.btreearc_lines.specs.declared.fault.ProgramFault.{ProgramFault}
use Rattle.btreearc_lines.specs.declared.fault.ProgramFault.TheVariants.{Usage, Line, Refused, Misheaded, NotBuilt, InputFailed, OutputFailed, Memory as NoMemory}
use Rattle.btreearc_commands.proofs.Starts.{name_length, typed_start}
use Rattle.rkyv_btree_typed.specs.TypedWriting.{IsHeaderUnwritten}
use Rattle.rkyv_btree_writer.specs.Writing.{Writing}
use Rattle.rkyv_btree_writing_laws.specs.Whole.{fresh}
use Rattle.btreearc_lines.specs.Headings.{IsUnbegun}
use Rattle.btreearc_lines.specs.declared.heading.Heading.{Heading}
use Rattle.btreearc_lines.specs.declared.heading.Heading.TheVariants.{Typed, Untyped}
use Rattle.btreearc_commands.specs.Archive.{HasArchive, IsArchived, IsUnbuilt, IsUnbuiltInOrder, archive_of}
use Rattle.btreearc_commands.specs.Opening.{numbers_name}
use Rattle.btreearc_commands.specs.Streaming.{AreCounted, BuildsSo, FailsToTest, IsInOrder, IsTested, IsTried, IsUnbuiltSo, IsUnfit, OfLines}

-- a cause of the one is one of the other
in_order_of : {X : Type 0} (heading : Heading) (entries : List (ℕ × ℕ)) (fault : Fault X) → IsUnbuilt heading entries fault → IsUnbuiltInOrder heading entries fault
in_order_of heading entries (Length m) h = h
in_order_of heading entries LengthOverflow h = h
in_order_of heading entries PositionOverflow h = h
in_order_of heading entries OffsetOverflow h = h
in_order_of heading entries (Writer error) h = h
in_order_of heading entries (Memory error) h = h
in_order_of heading entries (Entry fault) h = h
in_order_of heading entries (OutOfOrder index) h = absurd h

unbuilt_so : {X : Type 0} (is_strict : Bool) (heading : Heading) (entries : List (ℕ × ℕ)) (fault : Fault X) → IsUnbuilt heading entries fault → IsUnbuiltSo is_strict heading entries fault
unbuilt_so true heading entries fault h = in_order_of heading entries fault h
unbuilt_so false heading entries fault h = h

pub unbuilt_in_memory : {X : Type 0} (heading : Heading) (entries : List (ℕ × ℕ)) (fault : Fault X) → IsUnbuilt heading entries fault → IsUnbuilt heading entries (in_memory fault)
unbuilt_in_memory heading entries (Length m) h = h
unbuilt_in_memory heading entries LengthOverflow h = h
unbuilt_in_memory heading entries PositionOverflow h = h
unbuilt_in_memory heading entries OffsetOverflow h = h
unbuilt_in_memory heading entries (Writer error) h = tt
unbuilt_in_memory heading entries (Memory error) h = tt
unbuilt_in_memory heading entries (Entry fault) h = h
unbuilt_in_memory heading entries (OutOfOrder index) h = h

-- a header of 32 bytes that isn't written
header_fails : {X : Type 0} (t : Writing) (entries : List (ℕ × ℕ)) (fault : Fault X) → IsHeaderUnwritten numbers_name fresh fault t → IsUnbuilt Typed entries fault
header_fails t entries LengthOverflow h = absurd (omega (arith, h.1, name_length))
header_fails t entries PositionOverflow h = absurd (omega (arith, h.1, typed_start))
header_fails t entries OffsetOverflow h = absurd h
header_fails t entries (Writer error) h = tt
header_fails t entries (Memory error) h = tt
header_fails t entries (Length m) h = absurd h
header_fails t entries (Entry fault) h = absurd h
header_fails t entries (OutOfOrder index) h = absurd h

pub unbegun : {X : Type 0} (heading : Heading) (entries : List (ℕ × ℕ)) (fault : Fault X) → IsUnbegun numbers_name heading fault → IsUnbuilt heading entries fault
unbegun Typed entries fault h = header_fails h.0 entries fault h.1
unbegun Untyped entries fault h = absurd h

pub unbegun_in_memory : {X : Type 0} (heading : Heading) (entries : List (ℕ × ℕ)) (fault : Fault X) → IsUnbegun numbers_name heading fault → IsUnbuilt heading entries (in_memory fault)
unbegun_in_memory heading entries fault h = unbuilt_in_memory heading entries fault (unbegun heading entries fault h)

-- an error of building from lines that were counted
pub tried_fails : {X : Type 0} (is_strict : Bool) (heading : Heading) (bytes : List ℕ) (entries : List (ℕ × ℕ)) → IsLines bytes entries → (fault : TryFault X ProgramFault) → IsTried heading entries fault → FailsToTest is_strict heading (Some bytes) (program_fault fault)
tried_fails is_strict heading bytes entries are (Item Usage) h = absurd h
tried_fails is_strict heading bytes entries are (Item (Line n)) h = absurd h
tried_fails is_strict heading bytes entries are (Item (Refused r)) h = absurd h
tried_fails is_strict heading bytes entries are (Item (Misheaded f)) h = absurd h
tried_fails is_strict heading bytes entries are (Item (NotBuilt f)) h = absurd h
tried_fails is_strict heading bytes entries are (Item InputFailed) h = tt
tried_fails is_strict heading bytes entries are (Item OutputFailed) h = absurd h
tried_fails is_strict heading bytes entries are (Item NoMemory) h = tt
tried_fails is_strict heading bytes entries are (Build fault) h = (entries, are, unbuilt_so is_strict heading entries (in_memory fault) (unbuilt_in_memory heading entries fault h))

-- an error of testing so many
unfit_known : {X : Type 0} (is_strict : Bool) (heading : Heading) (known : Option (List ℕ)) (count : ℕ) (fault : Fault X) → IfSome known (AreCounted is_strict count) → ((entries : List (ℕ × ℕ)) → count ≡ length entries → IsUnbuilt heading entries fault) → IfSome known (λ bytes. (entries : List (ℕ × ℕ)) × IsLines bytes entries × IsUnbuiltSo is_strict heading entries fault)
unfit_known is_strict heading None count fault counted unfit = tt
unfit_known is_strict heading (Some bytes) count fault counted unfit = (counted.entries, counted.are, unbuilt_so is_strict heading counted.entries fault (unfit counted.entries counted.number))

pub unfit_fails : (is_strict : Bool) (heading : Heading) (known : Option (List ℕ)) (count : ℕ) → IfSome known (AreCounted is_strict count) → (fault : ProgramFault) → IsUnfit heading count fault → FailsToTest is_strict heading known fault
unfit_fails is_strict heading known count counted Usage h = absurd h
unfit_fails is_strict heading known count counted (Line n) h = absurd h
unfit_fails is_strict heading known count counted (Refused r) h = absurd h
unfit_fails is_strict heading known count counted (Misheaded f) h = absurd h
unfit_fails is_strict heading known count counted (NotBuilt fault) h = unfit_known is_strict heading known count fault counted h
unfit_fails is_strict heading known count counted InputFailed h = absurd h
unfit_fails is_strict heading known count counted OutputFailed h = absurd h
unfit_fails is_strict heading known count counted NoMemory h = absurd h

-- lines that were counted, and so many have an archive
pub tested : (is_strict : Bool) (heading : Heading) (known : Option (List ℕ)) (count : ℕ) → IfSome known (AreCounted is_strict count) → ((entries : List (ℕ × ℕ)) → count ≡ length entries → HasArchive heading entries) → IfSome known (IsTested is_strict heading count)
tested is_strict heading None count counted fits = tt
tested is_strict heading (Some bytes) count counted fits = record { counted = counted; fits = fits counted.entries counted.number }

pub of_lines_so : {P Q : List (ℕ × ℕ) → Type 0} (known : Option (List ℕ)) (count : ℕ) → ((entries : List (ℕ × ℕ)) → P entries → Q entries) → OfLines known count P → OfLines known count Q
of_lines_so None count f h = tt
of_lines_so (Some bytes) count f h = λ entries are number. f entries (h entries are number)

-- what a writer is known to hold stays so
pub keeps_known : (old new : Option (List ℕ)) (xs : List ℕ) → old ≡ Some xs → Keeps old new → new ≡ Some xs
keeps_known old None xs is keeps = absurd (subst (λ (o : Option (List ℕ)). Keeps o None) is keeps)
keeps_known old (Some ys) xs is keeps = let same : ys ≡ xs = subst (λ (o : Option (List ℕ)). Keeps o (Some ys)) is keeps in subst (λ (zs : List ℕ). Some zs ≡ Some xs) (sym same) refl

pub appends_all : (held : Option (List ℕ)) (xs : List ℕ) → held ≡ Some xs → Appends (Some []) held xs
appends_all held xs is = subst (λ (o : Option (List ℕ)). Appends (Some []) o xs) (sym is) refl

-- What the command does then.

-- an error in testing writes nothing
pub fails_so : (is_strict : Bool) (heading : Heading) (known old : Option (List ℕ)) (fault : ProgramFault) → FailsToTest is_strict heading known fault → BuildsSo is_strict heading known old old (Err fault)
fails_so true heading known old Usage h = absurd h
fails_so true heading known old (Line n) h = (h, refl)
fails_so true heading known old (Refused r) h = absurd h
fails_so true heading known old (Misheaded f) h = absurd h
fails_so true heading known old (NotBuilt fault) h = (h, refl)
fails_so true heading known old InputFailed h = refl
fails_so true heading known old OutputFailed h = absurd h
fails_so true heading known old NoMemory h = refl
fails_so false heading known old Usage h = absurd h
fails_so false heading known old (Line n) h = (h, refl)
fails_so false heading known old (Refused r) h = absurd h
fails_so false heading known old (Misheaded f) h = absurd h
fails_so false heading known old (NotBuilt fault) h = (h, refl)
fails_so false heading known old InputFailed h = refl
fails_so false heading known old OutputFailed h = absurd h
fails_so false heading known old NoMemory h = refl

-- an error in reading too
pub read_fails : (is_strict : Bool) (heading : Heading) (known : Option (List ℕ)) (fault : ProgramFault) → IsReadFault fault → FailsToTest is_strict heading known fault
read_fails is_strict heading known Usage h = absurd h
read_fails is_strict heading known (Line n) h = absurd h
read_fails is_strict heading known (Refused r) h = absurd h
read_fails is_strict heading known (Misheaded f) h = absurd h
read_fails is_strict heading known (NotBuilt fault) h = absurd h
read_fails is_strict heading known InputFailed h = tt
read_fails is_strict heading known OutputFailed h = absurd h
read_fails is_strict heading known NoMemory h = tt

-- what is known of a text is known of the input that it was read of
pub text_fails : (is_strict : Bool) (heading : Heading) (input : Option (List ℕ)) (text : List ℕ) → IfSome input (λ bytes. text ≡ bytes) → (fault : ProgramFault) → FailsToTest is_strict heading (Some text) fault → FailsToTest is_strict heading input fault
text_fails is_strict heading (Some bytes) text is fault h = subst (λ (t : List ℕ). FailsToTest is_strict heading (Some t) fault) is h
text_fails is_strict heading None text is Usage h = absurd h
text_fails is_strict heading None text is (Line n) h = tt
text_fails is_strict heading None text is (Refused r) h = absurd h
text_fails is_strict heading None text is (Misheaded f) h = absurd h
text_fails is_strict heading None text is (NotBuilt fault) h = tt
text_fails is_strict heading None text is InputFailed h = tt
text_fails is_strict heading None text is OutputFailed h = absurd h
text_fails is_strict heading None text is NoMemory h = tt

-- lines that are entries, in order if they must be, and their archive
abbrev pub Made : Bool → Heading → List ℕ → List ℕ → Type 0
Made is_strict heading text archive = (entries : List (ℕ × ℕ)) × IsLines text entries × IsInOrder is_strict entries × IsArchived heading archive entries

lines_made : (input : Option (List ℕ)) (text : List ℕ) (entries : List (ℕ × ℕ)) → IfSome input (λ bytes. text ≡ bytes) → IsLines text entries → IfSome input (λ bytes. (entries : List (ℕ × ℕ)) × IsLines bytes entries)
lines_made None text entries is are = tt
lines_made (Some bytes) text entries is are = (entries, subst (λ (t : List ℕ). IsLines t entries) is are)

-- a write failed of an archive that was made
pub write_fails : (is_strict : Bool) (heading : Heading) (input old new : Option (List ℕ)) (text archive : List ℕ) → IfSome input (λ bytes. text ≡ bytes) → Made is_strict heading text archive → (fault : ProgramFault) → IsWriteFault fault → BuildsSo is_strict heading input old new (Err fault)
write_fails is_strict heading input old new text archive is made Usage w = absurd w
write_fails is_strict heading input old new text archive is made (Line n) w = absurd w
write_fails is_strict heading input old new text archive is made (Refused r) w = absurd w
write_fails is_strict heading input old new text archive is made (Misheaded f) w = absurd w
write_fails is_strict heading input old new text archive is made (NotBuilt fault) w = absurd w
write_fails is_strict heading input old new text archive is made InputFailed w = absurd w
write_fails true heading input old new text archive is made OutputFailed w = lines_made input text made.0 is made.1
write_fails false heading input old new text archive is made OutputFailed w = lines_made input text made.0 is made.1
write_fails is_strict heading input old new text archive is made NoMemory w = absurd w

-- the archive of these entries is written
built_of : (is_strict : Bool) (heading : Heading) (input old new : Option (List ℕ)) → IfSome input (λ bytes. (entries : List (ℕ × ℕ)) × IsLines bytes entries × IsInOrder is_strict entries
    × IsArchived heading (archive_of heading entries) entries × Appends old new (archive_of heading entries)) → BuildsSo is_strict heading input old new (Ok 0)
built_of true heading None old new h = (refl, tt)
built_of false heading None old new h = (refl, tt)
built_of true heading (Some bytes) old new h = (refl, (h.0, h.1, h.2, h.3, h.4))
built_of false heading (Some bytes) old new h = (refl, (h.0, h.1, h.3, h.4))

-- of lines that were tested
pub built_so : (is_strict : Bool) (heading : Heading) (given left old held : Option (List ℕ)) (count : ℕ) → left ≡ given → IfSome given (IsTested is_strict heading count) → OfLines left count (λ entries. IsArchived heading (archive_of heading entries) entries × Appends old held (archive_of heading entries)) → BuildsSo is_strict heading given old held (Ok 0)
built_so is_strict heading None left old held count same h made = built_of is_strict heading None old held tt
built_so is_strict heading (Some bytes) left old held count same h made =
    let all = subst (λ (o : Option (List ℕ)). OfLines o count (λ entries. IsArchived heading (archive_of heading entries) entries × Appends old held (archive_of heading entries))) same made h.counted.entries h.counted.are h.counted.number in
    built_of is_strict heading (Some bytes) old held (h.counted.entries, h.counted.are, h.counted.order, all.0, all.1)

-- of an input that was read, and an archive that was made
pub output_built : (is_strict : Bool) (heading : Heading) (input old new : Option (List ℕ)) (text archive : List ℕ) → IfSome input (λ bytes. text ≡ bytes) → Made is_strict heading text archive → Appends old new archive → BuildsSo is_strict heading input old new (Ok 0)
output_built is_strict heading None old new text archive is made written = built_of is_strict heading None old new tt
output_built is_strict heading (Some bytes) old new text archive is (entries, are, order, a) written =
    built_of is_strict heading (Some bytes) old new (
      entries,
      subst (λ (t : List ℕ). IsLines t entries) is are,
      order,
      subst (λ (z : List ℕ). IsArchived heading z entries) a.exact a,
      subst (λ (z : List ℕ). Appends old new z) a.exact written,
    )

-- whatever the lines are
pub always : {Q : List (ℕ × ℕ) → Type 0} (known : Option (List ℕ)) (count : ℕ) → ((entries : List (ℕ × ℕ)) → Q entries) → OfLines known count Q
always None count f = tt
always (Some bytes) count f = λ entries are number. f entries
