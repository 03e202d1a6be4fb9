-- What an update, a merge and a difference of archives are, and why there is none.
use Rattle.std.specs.Prelude.{◌≡◌, ◌≢◌, ◌⊎◌, ℕ, ◌+◌, Bool, false, List, [], ◌∷◌, ◌++◌, Option, Some, length}
use Rattle.std.specs.BTreeMap.{is_at}
use Rattle.std.specs.Borrow.{Bor}
use Rattle.std.specs.Cmp.Lexicographic.{slice_cmp}
use Rattle.std.specs.List.{AllByRecursion, fold}
use Rattle.std.specs.Map.{lookup}
use Rattle.std.specs.Ordering.{nat_cmp}
use Rattle.std.specs.declared.alloc.AllocError.{AllocError}
use Rattle.rkyv_btree_writer.specs.Archiving.{Archival}
use Rattle.rkyv_btree_writer.specs.declared.fault.Fault.{Fault}
use Rattle.rkyv_btree_writer.specs.declared.fault.Fault.TheVariants as building
use Rattle.rkyv_btree_format.specs.Increasing.{IsOutOfOrder}
use Rattle.rkyv_btree_portable.specs.Text.{text_kind}
use Rattle.rkyv_btree_writer.specs.TextArchival.{text_archival}
use Rattle.rkyv_btree_writer.specs.Writing.{Writing}
use Rattle.rkyv_btree_update.specs.Differences.{IsDifference}
use Rattle.rkyv_btree_update.specs.Updated.{all_put, updated}
use Rattle.rkyv_btree_update.specs.Written.{FailsToWrite}
use Rattle.rkyv_btree_update.specs.declared.change.Change.TheVariants.{Put}
use Rattle.btreekv_commands.specs.Changing.{AreChanges, ChangesIncrease, IsBadChange, TextChange, changes_text, counted}
use Rattle.btreekv_commands.specs.Lines.{Entry}
use Rattle.btreearc_lines.specs.Headings.{IsHeaded, IsMisheaded, IsUnbegun, begun}
use Rattle.btreearc_lines.specs.declared.heading.Heading.{Heading}
use Rattle.btreekv_commands.specs.Files.{IsBegun}
use Rattle.btreekv_commands.specs.Opening.{HasFitHeading, IsArchive, KeysIncrease, RefusesStrictArchive, texts_name}
use Rattle.btreekv_commands.specs.declared.opening.ArchiveFault.{ArchiveFault}
use Rattle.btreekv_commands.specs.declared.opening.ArchiveFault.TheVariants.{Refused, Misheaded}
use Rattle.btreekv_commands.specs.declared.update_fault.UpdateFault.{UpdateFault}
use Rattle.btreekv_commands.specs.declared.update_fault.UpdateFault.TheVariants.{Line, OutOfOrder, Archive, NotBuilt, Memory}

-- the archive of a list whose keys increase
abbrev pub IsStrictArchive : List ℕ → List Entry → Type 0
IsStrictArchive bytes entries = IsArchive bytes entries × KeysIncrease entries

-- the same as a file, which begins as such files do
abbrev pub IsStrictFile : Heading → List ℕ → List Entry → Type 0
IsStrictFile heading bytes entries = IsBegun heading bytes × IsStrictArchive bytes entries

-- why bytes are no file of a list whose keys increase: another header comes first, or their first error
abbrev pub RefusesStrictFile : List ℕ → ArchiveFault → Type 0
RefusesStrictFile bytes (Refused refusal) = RefusesStrictArchive bytes refusal
RefusesStrictFile bytes (Misheaded fault) = IsMisheaded texts_name bytes fault

-- archives of these lists, whose keys increase
abbrev pub AreStrictArchives : List (List ℕ) → List (List Entry) → Type 0
AreStrictArchives [] [] = Unit {0}
AreStrictArchives [] (m ∷ ms) = ⊥
AreStrictArchives (b ∷ bs) [] = ⊥
AreStrictArchives (b ∷ bs) (m ∷ ms) = IsStrictArchive b m × AreStrictArchives bs ms

-- number `which`, counted from 0, is the first that isn't read as such an archive, and this is why
pub record IsFirstRefused (archives : List (List ℕ)) (which : ℕ) (refusal : ArchiveFault) : Type 0 where
  pub before : List (List ℕ)
  pub refused : List ℕ
  pub after : List (List ℕ)
  pub lists : List (List Entry)
  pub parts : archives ≡ before ++ refused ∷ after
  pub good : AreStrictArchives before lists
  pub refuses : RefusesStrictFile refused refusal
  pub number : which ≡ length before

-- Changes

-- entries after changes, in turn
abbrev pub changed_entries : List Entry → List TextChange → List Entry
changed_entries entries changes = updated (slice_cmp nat_cmp) entries changes

-- a text is the archive of another archive's entries after the changes of lines, whose keys must increase if they aren't sorted; it
-- begins with a header if the other does
pub record IsUpdate (is_sorted : Bool) (archive input text : List ℕ) : Type 0 where
  pub entries : List Entry
  pub changes : List TextChange
  pub heading : Heading
  pub headed : IsHeaded texts_name archive heading
  pub old : IsStrictArchive archive entries
  pub are : AreChanges input changes
  pub in_order : is_sorted ≡ false → ChangesIncrease changes
  pub new : IsStrictFile heading text (changed_entries entries (counted is_sorted changes))

abbrev pub text_lent : Archival (Bor (List ℕ)) ℕ
text_lent = text_archival (λ text. text.now)

-- why the texts of a list aren't written as a map: the header isn't written, or what the library says of the map after it
abbrev pub IsUnwritten : Heading → List Entry → Fault AllocError → Type 0
IsUnwritten heading entries fault = IsUnbegun texts_name heading fault ⊎ ((to : Writing)
    × FailsToWrite text_kind text_kind 5 text_lent text_lent (λ text. text.now) (λ text. text.now) entries (begun texts_name heading) fault to)

-- the line, counted from 1, of the first change out of order
abbrev pub IsDisorderedLine : List TextChange → ℕ → Type 0
IsDisorderedLine changes n = (index : ℕ) × (n ≡ index + 1) × IsOutOfOrder (slice_cmp nat_cmp) changes index

-- the program's fault for one of writing entries after changes
abbrev pub change_fault : Fault AllocError → UpdateFault
change_fault (building.OutOfOrder index) = OutOfOrder (index + 1)
change_fault fault = NotBuilt fault

-- why entries aren't archived after changes: the first line out of order, or why those after the changes aren't written
abbrev pub FailsChanges : Heading → List Entry → List TextChange → UpdateFault → Type 0
FailsChanges heading entries changes (OutOfOrder n) = IsDisorderedLine changes n
FailsChanges heading entries changes (NotBuilt fault) = IsUnwritten heading (changed_entries entries changes) fault
FailsChanges heading entries changes _ = ⊥

-- why there is no update: the first bad line, the first line out of order, the archive's first error, or why the entries
-- after the changes aren't archived; or there is no memory
abbrev pub FailsUpdate : Bool → List ℕ → List ℕ → UpdateFault → Type 0
FailsUpdate is_sorted archive input (Line n) = IsBadChange input n
FailsUpdate is_sorted archive input (OutOfOrder n) =
    (is_sorted ≡ false) × ((changes : List TextChange) × AreChanges input changes × IsDisorderedLine changes n)
FailsUpdate is_sorted archive input (Archive which refusal) = IsFirstRefused (archive ∷ []) which refusal
FailsUpdate is_sorted archive input (NotBuilt fault) =
    (entries : List Entry) × (changes : List TextChange) × (heading : Heading) × IsHeaded texts_name archive heading
    × IsStrictArchive archive entries × AreChanges input changes × IsUnwritten heading (changed_entries entries (counted is_sorted changes)) fault
FailsUpdate is_sorted archive input Memory = Unit {0}

-- Single entries

-- entries with one put
abbrev pub with_entry : List Entry → (key value : List ℕ) → List Entry
with_entry entries key value = changed_entries entries ((key, Put value) ∷ [])

-- the value that a key has in a list, if it is there
abbrev pub value_of : List Entry → List ℕ → Option (List ℕ)
value_of entries key = lookup (is_at (slice_cmp nat_cmp key)) entries

-- a text is the archive of another archive's entries with one put; it begins with a header if the other does
pub record IsSet (archive key value text : List ℕ) : Type 0 where
  pub entries : List Entry
  pub heading : Heading
  pub headed : IsHeaded texts_name archive heading
  pub old : IsStrictArchive archive entries
  pub new : IsStrictFile heading text (with_entry entries key value)
  -- the key has the value
  pub has : value_of (with_entry entries key value) key ≡ Some value
  -- each other key has what it had
  pub keeps : (other : List ℕ) → other ≢ key → value_of (with_entry entries key value) other ≡ value_of entries other

-- why an entry isn't put: the archive's first error, or why the entries with it aren't archived
abbrev pub FailsSet : (archive key value : List ℕ) → UpdateFault → Type 0
FailsSet archive key value (Archive which refusal) = IsFirstRefused (archive ∷ []) which refusal
FailsSet archive key value (NotBuilt fault) =
    (entries : List Entry) × (heading : Heading) × IsHeaded texts_name archive heading × IsStrictArchive archive entries
    × IsUnwritten heading (with_entry entries key value) fault
FailsSet archive key value _ = ⊥

-- Merges

-- the entries of a list put over those of another
abbrev pub put_over : List Entry → List Entry → List Entry
put_over entries others = changed_entries entries (all_put others)

-- a text is the archive of the first list, and each further one put over the list so far; it begins with a header if the first does
pub record IsMerge (first : List ℕ) (others : List (List ℕ)) (text : List ℕ) : Type 0 where
  pub entries : List Entry
  pub further : List (List Entry)
  pub heading : Heading
  pub headed : IsHeaded texts_name first heading
  pub first_is : IsStrictArchive first entries
  pub others_headed : AllByRecursion HasFitHeading others
  pub others_are : AreStrictArchives others further
  pub merged : IsStrictFile heading text (fold put_over entries further)

-- why entries aren't archived with others put over them
abbrev pub IsUnwrittenFault : Heading → List Entry → UpdateFault → Type 0
IsUnwrittenFault heading list (NotBuilt fault) = IsUnwritten heading list fault
IsUnwrittenFault heading list _ = ⊥

-- one more archive isn't put over a list: it isn't strict, or the entries aren't written
abbrev pub FailsNext : Heading → List Entry → ℕ → List ℕ → UpdateFault → Type 0
FailsNext heading entries number next (Archive which refusal) = (which ≡ number) × RefusesStrictFile next refusal
FailsNext heading entries number next (NotBuilt fault) =
    (others : List Entry) × IsStrictArchive next others × IsUnwritten heading (put_over entries others) fault
FailsNext heading entries number next _ = ⊥

-- the archives of lists put over one another, as far as they are written
pub record IsStopped (first : List ℕ) (others : List (List ℕ)) (fault : Fault AllocError) : Type 0 where
  pub entries : List Entry
  pub further : List (List Entry)
  pub before : List (List ℕ)
  pub after : List (List ℕ)
  pub parts : others ≡ before ++ after
  pub heading : Heading
  pub headed : IsHeaded texts_name first heading
  pub first_is : IsStrictArchive first entries
  pub before_are : AreStrictArchives before further
  pub unwritten : IsUnwritten heading (fold put_over entries further) fault

-- why there is no merge: the first error of the first archive that isn't strict, or why the entries of some first archives
-- aren't written; or there is no memory
abbrev pub FailsMerge : List ℕ → List (List ℕ) → UpdateFault → Type 0
FailsMerge first others (Archive which refusal) = IsFirstRefused (first ∷ others) which refusal
FailsMerge first others (NotBuilt fault) = IsStopped first others fault
FailsMerge first others Memory = Unit {0}
FailsMerge first others _ = ⊥

-- Differences

-- a text is the lines of the changes that lead from the one archive's list to the other's: their keys increase, and none is in vain
pub record IsDiff (old new text : List ℕ) : Type 0 where
  pub entries : List Entry
  pub others : List Entry
  pub headed : HasFitHeading old × HasFitHeading new
  pub old_is : IsStrictArchive old entries
  pub new_is : IsStrictArchive new others
  pub changes : List TextChange
  pub leads : IsDifference (slice_cmp nat_cmp) entries others changes
  pub lines : text ≡ changes_text changes

-- why there is no difference: the first error of an archive that isn't strict; or there is no memory
abbrev pub FailsDiff : List ℕ → List ℕ → UpdateFault → Type 0
FailsDiff old new (Archive which refusal) = IsFirstRefused (old ∷ new ∷ []) which refusal
FailsDiff old new Memory = Unit {0}
FailsDiff old new _ = ⊥
