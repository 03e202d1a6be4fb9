-- A buffer with room for the longest archive isn't too short.
use Rattle.std.proofs.Common.{◌≡◌, ◌≢◌, ℕ, ◌+◌, ◌*◌, ◌≤◌, ◌<◌, ◌∙◌, List, length, map, ⊎_elim, sym, ap, subst, arith}
use Rattle.std.specs.Prelude.{Option, Some, Result, Ok, Err, unwrap_or}
use Rattle.std.specs.List.{All, range_with_len}
use Rattle.std.specs.declared.alloc.Global.{Global}
use Rattle.std.specs.declared.vec.Vec.{Vec}
use Rattle.std.proofs.lemmas.List.{length-map}
use Rattle.std.proofs.lemmas.List.FromFn.{length-map-range_with_len}
use Rattle.rkyv_btree_format.specs.Layout.{NodeLayout, align, len_at, leaf_size, inner_size}
use Rattle.rkyv_btree_portable.specs.laws.Rounding.{alignment_positive, round_up_mono}
use Rattle.rkyv_btree_writer.specs.declared.fault.Fault.TheVariants.{Length, LengthOverflow, PositionOverflow, OffsetOverflow, Writer, Memory, Entry, OutOfOrder}
use Rattle.rkyv_btree_ffi.specs.Building.{Archives, ArchivesColumns, Puts, code_of, given, row, IsRowOf}
use Rattle.rkyv_btree_ffi.specs.Lengths.{layout, most_len, texts_len, items_len, columns_len, buffers_len}
use Rattle.rkyv_btree_ffi.specs.declared.building.BuildFault.{BuildFault}
use Rattle.rkyv_btree_ffi.specs.declared.building.BuildFault.TheVariants.{BadItem, Unbuilt}
use Rattle.rkyv_btree_ffi.specs.declared.codes.BtreeRefusal.{BtreeRefusal}
use Rattle.rkyv_btree_ffi.specs.declared.column.BtreeColumn.{BtreeColumn}
use Rattle.rkyv_btree_ffi.specs.declared.item.BtreeEntry.{BtreeEntry}
use Rattle.rkyv_btree_ffi.specs.declared.map_type.MapType.{MapType}
use Rattle.rkyv_btree_ffi.specs.declared.order.Order.{Order}
use Rattle.rkyv_btree_ffi.proofs.ArchiveLengths.{alignment}
use Rattle.rkyv_btree_ffi.proofs.Lengths.{most_mono}
use Rattle.rkyv_btree_ffi.proofs.TextLengths.{items_texts, rows_texts, columns_inside}

-- no error of building has the code of too little room
another_code : (fault : BuildFault) → code_of fault ≢ 38
another_code (BadItem index) is = absurd (omega (arith, is))
another_code (Unbuilt LengthOverflow) is = absurd (omega (arith, is))
another_code (Unbuilt PositionOverflow) is = absurd (omega (arith, is))
another_code (Unbuilt OffsetOverflow) is = absurd (omega (arith, is))
another_code (Unbuilt (Writer error)) is = absurd (omega (arith, is))
another_code (Unbuilt (Memory error)) is = absurd (omega (arith, is))
another_code (Unbuilt (OutOfOrder index)) is = absurd (omega (arith, is))
another_code (Unbuilt (Length m)) is = absurd (omega (arith, is))
another_code (Unbuilt (Entry f)) is = absurd (omega (arith, is))

-- what puts an archive down that has room
put : (archive : Vec ℕ Global) (old new : List ℕ) (old_len len : ℕ) (old_why why : BtreeRefusal) (code : ℕ) → Puts (Ok archive) old new old_len len old_why why code → length archive.items ≤ length old → code ≢ 38
put archive old new old_len len old_why why code puts room is = ⊎_elim (λ h. omega (arith, h.0, is)) (λ h. omega (arith, h.1, puts.0, room)) puts.1

-- no leaf is larger than an inner node
not_longer : (s : NodeLayout) → 0 < align s → leaf_size s ≤ inner_size s
unfolding leaf_size inner_size
not_longer s some = round_up_mono (len_at s + 4) (len_at s + 4 * s.E + 4) (align s) (omega arith) (omega arith)

-- more bytes of texts need no less
more_texts : (t : MapType) (n texts more : ℕ) → texts ≤ more → most_len t n texts ≤ most_len t n more
more_texts t n texts more h = most_mono (leaf_size (layout t)) (inner_size (layout t)) (align (layout t)) n n texts more (not_longer (layout t) (alignment_positive (alignment t))) (omega arith) h

module _ (t u : MapType) (same : ◌≡◌ {A = Option MapType} (Some t) (Some u)) (order : Order) (old new : List ℕ) (old_len len : ℕ) (old_why why : BtreeRefusal) (code : ℕ) where
  one_type : t ≡ u
  one_type = ap (λ (o : Option MapType). unwrap_or o t) same

  -- of entries
  pub room : (texts : List ℕ) (es : List BtreeEntry) (r : Result (Vec ℕ Global) BuildFault) → Archives t order texts es r → Puts r old new old_len len old_why why code → most_len u (length es) (items_len u es) ≤ length old → code ≢ 38
  room texts es (Ok archive) built puts enough is =
      let at : most_len t (length es) (items_len t es) ≤ length old = subst (λ (v : MapType). most_len v (length es) (items_len v es) ≤ length old) (sym one_type) enough in
      let count = length-map es (given t texts) in
      let long = built.archived.most in
      let exactly : length archive.items ≤ most_len t (length es) (items_len t es) = rw (sym (items_texts t texts es built.good)) (rw (sym count) long) in
      put archive old new old_len len old_why why code puts (omega (arith, exactly, at)) is
  room texts es (Err fault) built puts enough is = another_code fault (sym puts.0 ∙ is)

  module _ (keys values : BtreeColumn) (n : ℕ) where
    -- of columns, whose texts have so many bytes or more
    of_columns : (texts : ℕ) (r : Result (Vec ℕ Global) BuildFault) → (All (IsRowOf t keys values) (range_with_len 0 n) → columns_len t keys values n ≤ texts) → ArchivesColumns t order keys values n r → Puts r old new old_len len old_why why code → most_len t n texts ≤ length old → code ≢ 38
    of_columns texts (Ok archive) within built puts enough is =
        let count = length-map-range_with_len (row t keys values) 0 n in
        let long = built.archived.most in
        let exactly : length archive.items ≤ most_len t n (columns_len t keys values n) = rw (sym (rows_texts t keys values n built.good)) (subst (λ (m : ℕ). length archive.items ≤ most_len t m (texts_len t (map (row t keys values) (range_with_len 0 n)))) count long) in
        put archive old new old_len len old_why why code puts (omega (arith, exactly, more_texts t n (columns_len t keys values n) texts (within built.good), enough)) is
    of_columns texts (Err fault) within built puts enough is = another_code fault (sym puts.0 ∙ is)

    pub room_of_columns : (r : Result (Vec ℕ Global) BuildFault) → ArchivesColumns t order keys values n r → Puts r old new old_len len old_why why code → most_len u n (columns_len u keys values n) ≤ length old → code ≢ 38
    room_of_columns r built puts enough = of_columns (columns_len t keys values n) r (λ good. omega arith) built puts (subst (λ (v : MapType). most_len v n (columns_len v keys values n) ≤ length old) (sym one_type) enough)

    pub room_of_buffers : (r : Result (Vec ℕ Global) BuildFault) → ArchivesColumns t order keys values n r → Puts r old new old_len len old_why why code → most_len u n (buffers_len u keys values) ≤ length old → code ≢ 38
    room_of_buffers r built puts enough = of_columns (buffers_len t keys values) r (λ good. columns_inside t keys values n good) built puts (subst (λ (v : MapType). most_len v n (buffers_len v keys values) ≤ length old) (sym one_type) enough)
