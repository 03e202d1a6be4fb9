-- What is written after a heading is a file of the same entries.
use Rattle.std.specs.Global.{Global}
use Rattle.std.proofs.Common.{◌≡◌, ◌∙◌, ℕ, true, List, [], ◌∷◌, ◌++◌, length, map, IsUtf8, sym, ap, subst, refl, inl, inr, ◌<◌, ◌^◌, string_bytes}
use Rattle.rkyv_btree_format.specs.OwnBytes.{IsArchiveOf}
use Rattle.rkyv_btree_portable.specs.Kind.{IsLawful}
use Rattle.rkyv_btree_portable.specs.Rounding.{round_up}
use Rattle.rkyv_btree_portable.specs.Text.{text_kind}
use Rattle.rkyv_btree_portable.specs.laws.TextLaws.{text_laws}
use Rattle.rkyv_btree_typed.proofs.Built.{archive_after, typed_of_built}
use Rattle.rkyv_btree_typed.specs.TypedWriting.{IsTypedArchiveOf}
use Rattle.rkyv_btree_verify.proofs.MapLaws.{map_laws}
use Rattle.rkyv_btree_writer.specs.Archiving.{Archival, IsArchived, itself}
use Rattle.rkyv_btree_writer.specs.Padding.{padding}
use Rattle.rkyv_btree_writer.specs.TextArchival.{text_archival}
use Rattle.rkyv_btree_writer.specs.Writing.{AllReach, Write, Writing, Wrote, position}
use Rattle.rkyv_btree_writing_laws.proofs.TreeArchived.{tree_archived}
use Rattle.rkyv_btree_writing_laws.specs.Building.{IsRootWritten}
use Rattle.rkyv_btree_writing_laws.specs.Image.{root_bytes, root_reaches}
use Rattle.rkyv_btree_writing_laws.specs.TreeArchival.{tree_archival}
use Rattle.rkyv_btree_writing_laws.specs.Whole.{IsPlaced}
use Rattle.btreearc_lines.specs.Headings.{IsNamed, begun}
use Rattle.btreearc_lines.specs.declared.heading.Heading.{Heading}
use Rattle.btreearc_lines.specs.declared.heading.Heading.TheVariants.{Typed, Untyped}
use Rattle.btreekv_commands.specs.Building.{IsBuilt, IsBuiltMap, Native, bytes_archival, entries_archival}
use Rattle.btreekv_commands.specs.Files.{IsFile, IsWhole, IsWrittenAfter}
use Rattle.btreekv_commands.specs.Lines.{Entry}
use Rattle.btreekv_commands.specs.Opening.{IsArchive, texts, texts_name}
use Rattle.btreekv_commands.specs.Texts.{texts_of}
use Rattle.btreekv_commands.proofs.Fits.{texts_fit}
use Rattle.btreekv_commands.proofs.Taken.{map_same}

-- The map after a tree.

reach_last : (ws : List Write) (w : Write) → AllReach (ws ++ w ∷ []) → w.reaches ≡ true
reach_last [] w h = h.0
reach_last (x ∷ ws) w h = reach_last ws w h.1

placed_so : (entries : List Entry) (root : ℕ) (s t : Writing) (at : ℕ) → IsRootWritten (length entries) root s t at → IsPlaced bytes_archival texts entries root s at t
placed_so entries root s t at w =
    let p = position s in
    let n = length entries in
    let own = root_bytes (round_up p 4) root n in
    let reaches = reach_last (padding 4 p) (record { bytes = own; reaches = root_reaches (round_up p 4) root n }) w.wrote.reach in
    record {
      place = w.pos;
      own_bytes = own;
      resolved = record {
        few = w.len;
        reaches = subst (λ (a : ℕ). root_reaches a root n ≡ true) (sym w.pos) reaches;
        bytes = ap (λ (a : ℕ). root_bytes a root n) (sym w.pos);
      };
      wrote = subst (λ b. Wrote s (padding 4 p ++ record { bytes = own; reaches = b } ∷ []) t) reaches w.wrote;
      end = w.last;
    }

-- a map of so many entries that was written over its root node
pub map_placed : (entries : List Entry) (count root : ℕ) (s t : Writing) (at : ℕ) → count ≡ length entries → IsRootWritten count root s t at → IsPlaced bytes_archival texts entries root s at t
map_placed entries count root s t at number w = placed_so entries root s t at (subst (λ (n : ℕ). IsRootWritten n root s t at) number w)

-- Files.

lawful : IsLawful texts
lawful = map_laws text_kind text_kind 5 text_laws text_laws

module _ {X : Type 0} (text : X → List ℕ) (is_archived : IsArchived (text_archival text)) where
  abbrev T : Archival (List (X × X)) ℕ
  T = entries_archival text

  law : IsArchived T
  law = tree_archived 5 (text_archival text) (text_archival text) text_laws text_laws is_archived is_archived (λ es. es)

  abbrev bytes_of : X × X → Entry
  bytes_of e = (text e.0, text e.1)

  -- bytes that are built after a heading are a file
  pub file_of : (heading : Heading) (entries : List (X × X)) (bytes : List ℕ) → IsNamed texts_name heading → IsWhole T heading entries bytes → IsFile heading bytes (map bytes_of entries)
  file_of Typed entries bytes named b =
      typed_of_built T texts lawful (itself texts) law texts_fit texts_name entries bytes named.0 named.1
      (record { written = b.written; resolver = b.resolver; serialised = b.serialised; at = b.at; end = b.end; placed = b.placed; whole = b.whole })
  file_of Untyped entries bytes named b =
      subst (λ (z : List ℕ). IsArchiveOf texts z (map bytes_of entries)) (sym b.whole)
      (archive_after T texts lawful (itself texts) law texts_fit entries _ b.written b.end b.resolver b.at refl b.serialised b.placed).0

-- the file of texts, of which their bytes are known
pub built_of : IsArchived (text_archival (λ (bytes : List ℕ). bytes)) → (heading : Heading) (from : Writing) (entries : List Entry) (bytes : List ℕ) → from ≡ begun texts_name heading → IsNamed texts_name heading → IsWrittenAfter bytes_archival texts from entries bytes → IsBuilt heading bytes entries
built_of is_archived heading from entries bytes start named b =
    let whole = subst (λ (w : Writing). IsWrittenAfter bytes_archival texts w entries bytes) start b in
    record { file = subst (IsFile heading bytes) (map_same entries) (file_of (λ z. z) is_archived heading entries bytes named whole); whole = whole }

-- and of those of a std map
pub map_built_of : IsArchived (text_archival (string_bytes {Z = Global})) → (heading : Heading) (from : Writing) (native : List Native) (bytes : List ℕ) → from ≡ begun texts_name heading → IsNamed texts_name heading → IsWrittenAfter (entries_archival string_bytes) texts from native bytes → IsBuiltMap heading bytes (map texts_of native)
map_built_of is_archived heading from native bytes start named b =
    let whole = subst (λ (w : Writing). IsWrittenAfter (entries_archival string_bytes) texts w native bytes) start b in
    record { file = file_of (string_bytes {Z = Global}) is_archived heading native bytes named whole; native = native; texts_are = refl; whole = whole }

-- a std map is written as its entries are
pub map_whole : {X : Type 0} (entries : X → List Native) (x : X) (from : Writing) (bytes : List ℕ)
    → IsWrittenAfter (tree_archival 5 (text_archival (string_bytes {Z = Global})) (text_archival (string_bytes {Z = Global})) entries) texts from x bytes
    → IsWrittenAfter (entries_archival (string_bytes {Z = Global})) texts from (entries x) bytes
map_whole entries x from bytes b = record {
  written = b.written;
  resolver = b.resolver;
  serialised = b.serialised;
  at = b.at;
  end = b.end;
  placed = record { place = b.placed.place; own_bytes = b.placed.own_bytes; resolved = b.placed.resolved; wrote = b.placed.wrote; end = b.placed.end };
  whole = b.whole;
}
