-- The files of typed entries, and why there are none.
use Rattle.std.proofs.Common.{◌≡◌, ℕ, List, map, refl, ap, subst, ◌∙◌, inl, inr}
use Rattle.std.proofs.lemmas.Simd.{map-map}
use Rattle.std.specs.Cmp.{IsTotalOrder}
use Rattle.std.specs.declared.alloc.AllocError.{AllocError}
use Rattle.std.specs.declared.cmp.Ordering.{Ordering}
use Rattle.rkyv_btree_convert.proofs.LastWins.{counts_last}
use Rattle.rkyv_btree_convert.proofs.RoundTrip.{ascending_stay}
use Rattle.rkyv_btree_convert.specs.Maps.{last_wins}
use Rattle.rkyv_btree_format.specs.Increasing.{Increasing as AreIncreasing, IsOutOfOrder}
use Rattle.rkyv_btree_portable.specs.Kind.{Kind}
use Rattle.rkyv_btree_portable.specs.Rounding.{round_up}
use Rattle.rkyv_btree_verify.specs.Map.{map_kind}
use Rattle.rkyv_btree_writer.specs.Archiving.{Archival, IsUnserialised}
use Rattle.rkyv_btree_writer.specs.Writing.{Writing, position}
use Rattle.rkyv_btree_writer.specs.declared.fault.Fault.{Fault}
use Rattle.rkyv_btree_writer.specs.declared.fault.Fault.TheVariants.{Length, LengthOverflow, PositionOverflow, OffsetOverflow, Writer, Memory, Entry, OutOfOrder}
use Rattle.rkyv_btree_writing_laws.specs.TreeArchival.{tree_archival}
use Rattle.rkyv_btree_writing_laws.specs.Whole.{IsUnarchived, IsUnplaced}
use Rattle.rkyv_btree_typed.specs.TypedWriting.{IsUntypable}
use Rattle.btreearc_lines.specs.declared.heading.Heading.{Heading}
use Rattle.btreearc_lines.specs.declared.heading.Heading.TheVariants.{Typed, Untyped}
use Rattle.btreearc_lines.specs.Headings.{begun}
use Rattle.btreearc_lines.specs.declared.fault.ProgramFault.TheVariants.{NotBuilt}
use Rattle.btreearc_lines.specs.declared.fault.ProgramFault.TheVariants as fault
use Rattle.btreekv_commands.specs.Files.{IsUnwrittenAfter}
use Rattle.btreekv_commands.specs.Lines.{Entry as TextEntry}
use Rattle.btreekv_types.specs.Archiving.{IsUnmadeOf, MeanEntries, archived_entries}
use Rattle.btreekv_types.specs.Commands.{IsBuiltOf, IsUnbuiltOf}
use Rattle.btreekv_types.specs.Typed.{AreMapValues, AreTyped, AreValues, IsTypedFile, items, items_by}
use Rattle.btreekv_types.specs.declared.command.Order.{Order}
use Rattle.btreekv_types.specs.declared.command.Order.TheVariants.{Any, Increasing}
use Rattle.btreekv_types.specs.declared.fault.TypedFault.{TypedFault}
use Rattle.btreekv_types.specs.declared.fault.TypedFault.TheVariants.{Program, Archive, BadKey, BadValue, NoKey, NoLow, NoHigh}
use Rattle.btreekv_types.specs.Natives.{IsUnread}
use Rattle.btreekv_types.proofs.Meant.{increasing_meant, key_ordered, last_meant, meant, out_of_order_meant, typed_meant, unread_meant}

-- A value whose entries these are has no archive for the same causes.
module _ {X R Y S M : Type 0} (KA : Archival X R) (VA : Archival Y S) (kind : Kind) (entries : M → List (X × Y)) (x : M) (from : Writing) where
  same_unserialised : (fault : Fault AllocError) (t : Writing) → IsUnserialised (tree_archival 5 KA VA entries) x from fault t → IsUnserialised (tree_archival 5 KA VA (λ xs. xs)) (entries x) from fault t
  same_unserialised (Length m) t h = h
  same_unserialised LengthOverflow t h = h
  same_unserialised PositionOverflow t h = h
  same_unserialised OffsetOverflow t h = h
  same_unserialised (Writer error) t h = h
  same_unserialised (Memory error) t h = h
  same_unserialised (Entry fault) t h = h
  same_unserialised (OutOfOrder index) t h = h

  same_unplaced : (r at : ℕ) (fault : Fault AllocError) → IsUnplaced (tree_archival 5 KA VA entries) kind x r at fault → IsUnplaced (tree_archival 5 KA VA (λ xs. xs)) kind (entries x) r at fault
  same_unplaced r at (Length m) h = h
  same_unplaced r at LengthOverflow h = h
  same_unplaced r at PositionOverflow h = h
  same_unplaced r at OffsetOverflow h = h
  same_unplaced r at (Writer error) h = h
  same_unplaced r at (Memory error) h = h
  same_unplaced r at (Entry fault) h = h
  same_unplaced r at (OutOfOrder index) h = h

  pub same_unwritten : (fault : Fault AllocError) → IsUnwrittenAfter (tree_archival 5 KA VA entries) kind from x fault → IsUnwrittenAfter (tree_archival 5 KA VA (λ xs. xs)) kind from (entries x) fault
  same_unwritten fault (inl h) = inl (h.0, same_unserialised fault h.0 h.1)
  same_unwritten fault (inr h) = inr (h.0, h.1, h.2, same_unplaced h.1 (round_up (position h.0) kind.align) fault h.3)

-- A std map has no file for the causes of its entries.
module _ {X R Y S M : Type 0} (KA : Archival X R) (VA : Archival Y S) (K V : Kind) (name : List ℕ) (entries : M → List (X × Y)) (x : M) where
  pub typed_unmade : (fault : Fault AllocError) → IsUntypable (tree_archival 5 KA VA entries) (map_kind K V 5) name x fault → IsUnmadeOf KA VA K V name Typed (entries x) fault
  typed_unmade fault (inl h) = inl h
  typed_unmade fault (inr h) = inr (same_unwritten KA VA (map_kind K V 5) entries x (begun name Typed) fault h)

  pub untyped_unmade : (fault : Fault AllocError) → IsUnarchived (tree_archival 5 KA VA entries) (map_kind K V 5) x fault → IsUnmadeOf KA VA K V name Untyped (entries x) fault
  untyped_unmade fault h = inr (same_unwritten KA VA (map_kind K V 5) entries x (begun name Untyped) fault h)

module _ {X R A Y S B : Type 0} {KA : Archival X R} {K : Kind} {key_order : A → A → Ordering} {key_at : List ℕ → ℕ → A} {key_of : X → A} {VA : Archival Y S} {V : Kind} {value_order : B → B → Ordering} {value_at : List ℕ → ℕ → B} {value_of : Y → B}
    (key_to : K.Value → A) (value_to : V.Value → B) (keys : AreValues KA K key_order key_at key_of key_to) (values : AreValues VA V value_order value_at value_of value_to)
    (IsKey : A → Type 0) (key_text : A → List ℕ) (IsMapped : B → Type 0) (value_text : B → List ℕ) (name : List ℕ) (order : Order) (heading : Heading) (texts : List TextEntry) where
  -- not all are read
  pub unread : (fault : TypedFault) → IsUnread (items_by IsKey key_text key_of) (items_by IsMapped value_text value_of) (items IsKey key_text) (items IsMapped value_text) texts fault
      → IsUnbuiltOf K V name (items_by IsKey key_text key_to) (items_by IsMapped value_text value_to) KA VA order heading texts fault
  unread (BadKey n) b = unread_meant key_to value_to keys values IsKey key_text IsMapped value_text texts (BadKey n) b
  unread (BadValue n) b = unread_meant key_to value_to keys values IsKey key_text IsMapped value_text texts (BadValue n) b
  unread (Program fault.Memory) b = tt
  unread (Program fault.Usage) b = absurd b
  unread (Program (fault.Line n)) b = absurd b
  unread (Program (fault.Refused e)) b = absurd b
  unread (Program (fault.Misheaded e)) b = absurd b
  unread (Program (fault.NotBuilt e)) b = absurd b
  unread (Program fault.InputFailed) b = absurd b
  unread (Program fault.OutputFailed) b = absurd b
  unread NoKey b = absurd b
  unread NoLow b = absurd b
  unread NoHigh b = absurd b
  unread (Archive n f) b = absurd b

module _ {X R A Y S B : Type 0} {KA : Archival X R} {K : Kind} {key_order : A → A → Ordering} {key_at : List ℕ → ℕ → A} {key_of : X → A} {VA : Archival Y S} {V : Kind} {value_order : B → B → Ordering} {value_at : List ℕ → ℕ → B} {value_of : Y → B}
    (key_to : K.Value → A) (value_to : V.Value → B) (keys : AreValues KA K key_order key_at key_of key_to) (values : AreValues VA V value_order value_at value_of value_to) (maps : AreMapValues KA K VA V keys.same values.same)
    (native_order : X → X → Ordering) (natively : (x y : X) → native_order x y ≡ key_order (key_of x) (key_of y)) (total : IsTotalOrder K.order)
    (IsKey : A → Type 0) (key_text : A → List ℕ) (IsMapped : B → Type 0) (value_text : B → List ℕ) (name : List ℕ) (heading : Heading) (texts : List TextEntry)
    (natives m : List (X × Y)) (are : AreTyped (items_by IsKey key_text key_of) (items_by IsMapped value_text value_of) texts natives) (last : m ≡ last_wins native_order natives) where
  abbrev Meant : X × Y → K.Value × V.Value
  Meant = meant key_to value_to keys values

  abbrev entries : List (K.Value × V.Value)
  entries = map Meant natives

  ordered : (x y : X) → native_order x y ≡ K.order (keys.same.to (KA.meaning x)) (keys.same.to (KA.meaning y))
  ordered = key_ordered key_to value_to keys values native_order natively

  last_entries : map Meant m ≡ last_wins K.order entries
  last_entries = ap (map Meant) last ∙ last_meant K.order (λ x. keys.same.to (KA.meaning x)) (λ y. values.same.to (VA.meaning y)) ordered natives

  archived : (order : Order) → (order ≡ Increasing → AreIncreasing native_order natives) → map Meant m ≡ archived_entries K.order order entries
  archived Any up = last_entries
  archived Increasing up = last_entries ∙ ascending_stay total entries (increasing_meant K.order (λ x. keys.same.to (KA.meaning x)) (λ y. values.same.to (VA.meaning y)) ordered natives (up refl))

  increase : (order : Order) → (order ≡ Increasing → AreIncreasing native_order natives) → AreIncreasing K.order (archived_entries K.order order entries)
  increase Any up = (counts_last total entries).ascending
  increase Increasing up = increasing_meant K.order (λ x. keys.same.to (KA.meaning x)) (λ y. values.same.to (VA.meaning y)) ordered natives (up refl)

  whole_meant : maps.whole.to (map (λ e. (KA.meaning e.0, VA.meaning e.1)) m) ≡ map Meant m
  whole_meant = maps.each (map (λ e. (KA.meaning e.0, VA.meaning e.1)) m) ∙ map-map (λ e. (keys.same.to e.0, values.same.to e.1)) (λ e. (KA.meaning e.0, VA.meaning e.1)) m

  -- their file
  pub built : (order : Order) → (order ≡ Increasing → AreIncreasing native_order natives) → (bytes : List ℕ) → IsTypedFile K V name heading bytes (maps.whole.to (map (λ e. (KA.meaning e.0, VA.meaning e.1)) m))
      → IsBuiltOf K V name (items_by IsKey key_text key_to) (items_by IsMapped value_text value_to) order heading texts bytes
  built order up bytes file = record {
    entries = entries;
    typed = typed_meant key_to value_to keys values IsKey key_text IsMapped value_text texts natives are;
    file = subst (IsTypedFile K V name heading bytes) (whole_meant ∙ archived order up) file;
    increase = increase order up;
  }

  abbrev Unbuilt : Order → Fault AllocError → Type 0
  Unbuilt order fault = IsUnbuiltOf K V name (items_by IsKey key_text key_to) (items_by IsMapped value_text value_to) KA VA order heading texts (Program (NotBuilt fault))

  -- the first is out of order
  pub out_of_order : (order : Order) → order ≡ Increasing → (index : ℕ) → IsOutOfOrder native_order natives index → Unbuilt order (OutOfOrder index)
  out_of_order order is index out = (
    entries,
    typed_meant key_to value_to keys values IsKey key_text IsMapped value_text texts natives are,
    (is, out_of_order_meant K.order (λ x. keys.same.to (KA.meaning x)) (λ y. values.same.to (VA.meaning y)) ordered natives index out),
  )

  never_out : (index : ℕ) → IsUnmadeOf KA VA K V name heading m (OutOfOrder index) → ⊥
  never_out index h = none heading h
    where
      none : (heading : Heading) → IsUnmadeOf KA VA K V name heading m (OutOfOrder index) → ⊥
      none Typed (inl h) = h.1
      none Untyped (inl h) = h
      none Typed (inr (inl h)) = h.1
      none Untyped (inr (inl h)) = h.1
      none Typed (inr (inr h)) = h.3
      none Untyped (inr (inr h)) = h.3

  -- they aren't archived
  pub unbuilt : (order : Order) → (order ≡ Increasing → AreIncreasing native_order natives) → (fault : Fault AllocError) → IsUnmadeOf KA VA K V name heading m fault → Unbuilt order fault
  unbuilt order up fault h =
      let typed = typed_meant key_to value_to keys values IsKey key_text IsMapped value_text texts natives are in
      let mean : MeanEntries KA VA K V name (archived_entries K.order order entries) m = record { key = keys.same; value = values.same; meant = archived order up } in
      go fault h typed mean
    where
      go : (fault : Fault AllocError) → IsUnmadeOf KA VA K V name heading m fault → AreTyped (items_by IsKey key_text key_to) (items_by IsMapped value_text value_to) texts entries
          → MeanEntries KA VA K V name (archived_entries K.order order entries) m → Unbuilt order fault
      go (Length e) h typed mean = (entries, typed, (m, mean, h))
      go LengthOverflow h typed mean = (entries, typed, (m, mean, h))
      go PositionOverflow h typed mean = (entries, typed, (m, mean, h))
      go OffsetOverflow h typed mean = (entries, typed, (m, mean, h))
      go (Writer e) h typed mean = (entries, typed, (m, mean, h))
      go (Memory e) h typed mean = (entries, typed, (m, mean, h))
      go (Entry e) h typed mean = (entries, typed, (m, mean, h))
      go (OutOfOrder index) h typed mean = absurd (never_out index h)
