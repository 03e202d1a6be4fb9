-- Why texts have no archive.
use Rattle.std.proofs.Common.{◌≡◌, ℕ, ◌+◌, ◌<◌, ◌≤◌, ◌||◌, Bool, true, false, nat_eq, if◌then◌else◌, List, [], ◌∷◌, ◌++◌, length, map, Option, Ok, Err, inl, inr, refl, ap, subst, arith, string_bytes}
use Rattle.std.proofs.Math.Nat.{lt_of_not-le}
use Rattle.std.proofs.lemmas.Bool.Decides.{nat_tests}
use Rattle.std.proofs.lemmas.List.{length-append, length-replicate}
use Rattle.std.specs.Iterator.{Yields, Drains}
use Rattle.std.specs.Prelude.{String, ◌-◌, replicate, Result}
use Rattle.std.specs.declared.alloc.AllocError.{AllocError}
use Rattle.std.specs.declared.alloc.Global.{Global}
use Rattle.rkyv_btree_writer.specs.Archiving.{Archival, IsArchived, IsUnserialised, Serialises, itself}
use Rattle.rkyv_btree_writer.specs.Causes.{HasCauses}
use Rattle.rkyv_btree_writing_laws.specs.Entries.{both_borrowed}
use Rattle.rkyv_btree_writer.specs.declared.fault.Fault.{Fault}
use Rattle.rkyv_btree_writer.specs.declared.fault.Fault.TheVariants.{Length, LengthOverflow, PositionOverflow, OffsetOverflow, Writer, Memory, Entry, OutOfOrder}
use Rattle.rkyv_btree_writer.specs.Fields.{FirstUnfit, a_pointer}
use Rattle.rkyv_btree_writing_laws.specs.Image.{root_bytes, root_image, root_reaches}
use Rattle.rkyv_btree_writing_laws.specs.Miscounts.{IsMiscount}
use Rattle.rkyv_btree_writer.specs.Padding.{padding, zeros_write}
use Rattle.rkyv_btree_writer.specs.Pointers.{FitsOffset, offset_fits, pointer, no_pointer}
use Rattle.std.specs.Int.{w32, to_le_bytes}
use Rattle.rkyv_btree_writer.specs.declared.fault.ResolveFault.TheVariants as resolving
use Rattle.rkyv_btree_portable.specs.Rounding.{round_up}
use Rattle.rkyv_btree_writing_laws.specs.Serialising.{BuildFault, RootFault, Serialised}
use Rattle.rkyv_btree_portable.specs.Text.{text_kind}
use Rattle.rkyv_btree_writer.specs.TextArchival.{text_archival}
use Rattle.rkyv_btree_writing_laws.specs.TreeArchival.{tree_archival}
use Rattle.rkyv_btree_writing_laws.specs.Whole.{IsUnplaced}
use Rattle.rkyv_btree_writer.specs.Writing.{Writing, Write, AllReach, appended, last_end, position}
use Rattle.rkyv_btree_portable.specs.laws.Rounding.{le-round_up}
use Rattle.rkyv_btree_portable.specs.laws.TextLaws.{text_laws}
use Rattle.rkyv_btree_writing_laws.proofs.TreeSerialised.{list_serialised, list_unserialised}
use Rattle.rkyv_btree_writer.proofs.WriteRuns.{AllReach-both, appended-append, stopped_past, stopped_stray}
use Rattle.btreekv_commands.specs.Building.{Native, bytes_archival, entries_archival, IsTriedAfter, IsUnbuiltMap}
use Rattle.btreearc_lines.specs.Headings.{begun as begun_file}
use Rattle.btreearc_lines.specs.declared.heading.Heading.{Heading}
use Rattle.btreekv_commands.specs.Texts.{texts_of}
use Rattle.btreekv_commands.specs.Files.{IsUnwrittenAfter, IsWrittenAfter}
use Rattle.btreekv_commands.specs.Lines.{Entry as TextEntry}
use Rattle.btreekv_commands.specs.Opening.{texts, texts_name}
use Rattle.btreekv_commands.specs.Reading.{GivesEntry}
use Rattle.btreekv_commands.proofs.Taken.{Left, all_taken, drained}
use Rattle.rkyv_btree_archive.specs.TryBuilding.{OkSteps, TryFaulted, IsItemOrMiscount}
use Rattle.rkyv_btree_archive.specs.declared.try_build.TryFault.{TryFault}
use Rattle.rkyv_btree_archive.specs.declared.try_build.TryFault.TheVariants.{Item, Build}
use Rattle.btreearc_lines.specs.declared.fault.ProgramFault.{ProgramFault}
use Rattle.btreekv_commands.proofs.Fits.{texts_fit}
use Rattle.btreekv_commands.proofs.WrittenFiles.{map_placed}
use Rattle.rkyv_btree_writing_laws.specs.Building.{IsRootWritten}

-- The map after a tree.

padded : (p : ℕ) (same : Bool) → nat_eq (round_up p 4) p ≡ same → length (appended (if same then [] else zeros_write (round_up p 4 - p) ∷ [])) + p ≡ round_up p 4
padded p true e = grind (arith, nat_tests)
padded p false e = omega (arith, length-append {A = ℕ} (replicate (round_up p 4 - p) 0) [], length-replicate {A = ℕ} (round_up p 4 - p) 0, le-round_up p 4 (omega arith))

root_length : (at root n : ℕ) → length (root_bytes at root n) ≡ 8
root_length at root n = go (nat_eq n 0)
  where
    go : (b : Bool) → length ((if b then no_pointer else pointer at root) ++ to_le_bytes w32 n) ≡ 8
    go true = refl
    go false = refl

root_end : (p root n : ℕ) → p + length (appended (root_image p root n)) ≡ round_up p 4 + 8
root_end p root n =
    let at = round_up p 4 in
    let write : Write = record { bytes = root_bytes at root n; reaches = root_reaches at root n } in
    omega (
      arith,
      ap length (appended-append (padding 4 p) (write ∷ [])),
      length-append (appended (padding 4 p)) (root_bytes at root n ++ []),
      length-append (root_bytes at root n) [],
      root_length at root n,
      padded p (nat_eq at p) refl,
    )

padding_reaches : (p : ℕ) (same : Bool) → AllReach (if same then [] else zeros_write (round_up p 4 - p) ∷ [])
padding_reaches p true = tt
padding_reaches p false = (refl, tt)

fits_test : (at root : ℕ) → FitsOffset at root → offset_fits at root ≡ true
fits_test at root h = let low = h.0 in let high = h.1 in grind (arith, nat_tests)

-- a pointer out of reach is the first field that doesn't fit
stray : (at root : ℕ) (none : Bool) → ((none || offset_fits at root) ≡ true → ⊥) → FirstUnfit (if none then [] else a_pointer at root ∷ []) resolving.OffsetOverflow
stray at root true h = absurd (h refl)
stray at root false h = inl (λ fits. h (fits_test at root fits))

module _ {X E : Type 0} (text : X → List ℕ) (native : List (X × X)) (root : ℕ) (s : Writing) where
  pub unplaced : (fault : Fault E) (t : Writing) → length native ≤ last_end → RootFault root (length native) s fault t → IsUnplaced (entries_archival text) texts native root (round_up (position s) 4) fault
  unplaced LengthOverflow t few h = absurd (omega (arith, h.0))
  unplaced PositionOverflow t few h = omega (arith, stopped_past {E = E} s (root_image (position s) root (length native)) t h, root_end (position s) root (length native))
  unplaced OffsetOverflow t few h =
      let at = round_up (position s) 4 in
      let reaches = λ (r : root_reaches at root (length native) ≡ true). stopped_stray {E = E} s (root_image (position s) root (length native)) t h (AllReach-both (padding 4 (position s)) (record { bytes = root_bytes at root (length native); reaches = root_reaches at root (length native) } ∷ []) (padding_reaches (position s) (nat_eq at (position s))) (r, tt)) in
      inr (few, stray at root (nat_eq (length native) 0) reaches)
  unplaced (Writer error) t few h = tt
  unplaced (Memory error) t few h = tt
  unplaced (Length m) t few h = absurd h
  unplaced (Entry fault) t few h = absurd h
  unplaced (OutOfOrder index) t few h = absurd h

pub ok_or_err : {T F : Type 0} (x : T) (fault : F) → Ok x ≡ Err fault → ⊥
ok_or_err x fault same = cc same

-- no more entries than the last position says
pub not_past : (n : ℕ) → (last_end < n → ⊥) → n ≤ last_end
not_past n none =
    let few : n < 4294967296 = lt_of_not-le (λ (more : 4294967296 ≤ n). none (omega (arith, more))) in
    omega (arith, few)

-- The tree of the entries of lines.

abbrev Bytes : Archival (List ℕ) ℕ
Bytes = text_archival (λ bytes. bytes)

module _ (archived : IsArchived Bytes) (causes : HasCauses Bytes) {S : Type 0} (left : S → ℕ) (known : S → Option (List ℕ)) (iter : S) (entries : List TextEntry) (is : Left left known iter entries) (from : Writing) where
  abbrev Steps : S → Option TextEntry → S → Type 0
  Steps = OkSteps (GivesEntry left known)

  abbrev lends : TextEntry → TextEntry
  lends x = both_borrowed (λ (k : List ℕ). k) (λ (v : List ℕ). v) x

  begun : (items : List TextEntry) (behind : S) → Yields Steps iter items behind → (later : List TextEntry) × (entries ≡ map lends items ++ later)
  begun items behind yields = let taken = all_taken left known iter items behind entries is yields in (taken.0, taken.1)

  given : (items : List TextEntry) → Drains Steps iter items → map lends items ≡ entries
  given items drains = drained left known iter items entries is drains

  -- why it isn't written
  pub unbuilt : {E : Type 0} (count : ℕ) → count ≡ length entries → (fault : Fault E) (t : Writing) → (count ≡ 0 → IsMiscount fault) → BuildFault text_kind text_kind 5 Bytes Bytes lends Steps iter count from fault t → IsUnwrittenAfter bytes_archival texts from entries fault
  unbuilt {E} count all fault t none h =
      let why : IsUnserialised (entries_archival (λ bytes. bytes)) entries from fault t =
      list_unserialised 5 text_kind text_kind Bytes Bytes (itself text_kind) (itself text_kind) text_laws text_laws texts_fit (λ es. es) entries from t lends Steps iter count given archived archived causes causes begun all (Err fault) none h in
      inl (t, why)

  -- the map isn't written after it
  pub rootless : {E : Type 0} (count : ℕ) → count ≡ length entries → (root : ℕ) (s t : Writing) (fault : Fault E) → count ≤ last_end → Serialised text_kind text_kind 5 Bytes Bytes lends Steps iter count from root s → RootFault root count s fault t → IsUnwrittenAfter bytes_archival texts from entries fault
  rootless {E} count all root s t fault few built h =
      let result : Result ℕ (Fault E) = Ok root in
      let written : Serialises (entries_archival (λ bytes. bytes)) entries from s root =
      list_serialised 5 text_kind text_kind Bytes Bytes (itself text_kind) (itself text_kind) text_laws text_laws texts_fit (λ es. es) entries from s lends Steps iter count given result built in
      let fewer : length entries ≤ last_end = subst (λ (n : ℕ). n ≤ last_end) all few in
      let why : RootFault root (length entries) s fault t = subst (λ (n : ℕ). RootFault root n s fault t) all h in
      inr (s, root, written, unplaced (λ bytes. bytes) entries root s fault t fewer why)

  -- the tree and the map are written
  pub entries_written : (count : ℕ) → count ≡ length entries → (root : ℕ) (s t : Writing) (at : ℕ) → Serialised text_kind text_kind 5 Bytes Bytes lends Steps iter count from root s → IsRootWritten count root s t at → IsWrittenAfter bytes_archival texts from entries t.contents
  entries_written count all root s t at built over =
      let result : Result ℕ (Fault AllocError) = Ok root in record {
        written = s;
        resolver = root;
        serialised = list_serialised 5 text_kind text_kind Bytes Bytes (itself text_kind) (itself text_kind) text_laws text_laws texts_fit (λ es. es) entries from s lends Steps iter count given result built;
        at = at;
        end = t;
        placed = map_placed entries count root s t at all over;
        whole = refl;
      }

  -- why it isn't written of lines that are read
  pub tried : {E : Type 0} (count : ℕ) → count ≡ length entries → (fault : TryFault E ProgramFault) (t : Writing) → (count ≡ 0 → IsItemOrMiscount fault) → TryFaulted text_kind text_kind 5 Bytes Bytes lends (GivesEntry left known) iter count from t fault → IsTriedAfter from entries fault
  tried count all (Item fault) t none h = h.met
  tried count all (Build fault) t none h = unbuilt count all fault t none h

abbrev Texts : Archival (String Global) ℕ
Texts = text_archival string_bytes

-- A value whose entries these are has no archive for the same causes.
module _ {X : Type 0} (entries : X → List Native) (x : X) (from : Writing) where
  abbrev whole : Archival X ℕ
  whole = tree_archival 5 Texts Texts entries

  same_unserialised : (fault : Fault AllocError) (t : Writing) → IsUnserialised whole x from fault t → IsUnserialised (entries_archival string_bytes) (entries x) from fault t
  same_unserialised (Length m) t h = h
  same_unserialised LengthOverflow t h = h
  same_unserialised PositionOverflow t h = h
  same_unserialised OffsetOverflow t h = h
  same_unserialised (Writer error) t h = h
  same_unserialised (Memory error) t h = h
  same_unserialised (Entry fault) t h = h
  same_unserialised (OutOfOrder index) t h = h

  same_unplaced : (r at : ℕ) (fault : Fault AllocError) → IsUnplaced whole texts x r at fault → IsUnplaced (entries_archival string_bytes) texts (entries x) r at fault
  same_unplaced r at (Length m) h = h
  same_unplaced r at LengthOverflow h = h
  same_unplaced r at PositionOverflow h = h
  same_unplaced r at OffsetOverflow h = h
  same_unplaced r at (Writer error) h = h
  same_unplaced r at (Memory error) h = h
  same_unplaced r at (Entry fault) h = h
  same_unplaced r at (OutOfOrder index) h = h

  pub same_unwritten : (fault : Fault AllocError) → IsUnwrittenAfter whole texts from x fault → IsUnwrittenAfter (entries_archival string_bytes) texts from (entries x) fault
  same_unwritten fault (inl h) = inl (h.0, same_unserialised fault h.0 h.1)
  same_unwritten fault (inr h) = inr (h.0, h.1, h.2, same_unplaced h.1 (round_up (position h.0) 4) fault h.3)

  -- so a std map isn't written after a heading
  pub map_unbuilt : (heading : Heading) → from ≡ begun_file texts_name heading → (fault : Fault AllocError) → IsUnwrittenAfter whole texts from x fault → IsUnbuiltMap heading (map texts_of (entries x)) fault
  map_unbuilt heading start fault h = (entries x, refl, inr (subst (λ (w : Writing). IsUnwrittenAfter (entries_archival string_bytes) texts w (entries x) fault) start (same_unwritten fault h)))
