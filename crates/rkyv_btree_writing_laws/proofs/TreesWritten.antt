-- A buffer that holds what was written of a tree spells the tree.
use Rattle.std.proofs.Common.{◌≡◌, ℕ, ◌+◌, ◌≤◌, ◌∙◌, true, IsTrue, List, [], ◌∷◌, length, map, Option, slice_index, refl, sym, ap, subst, arith}
use Rattle.std.proofs.lemmas.List.{length-map}
use Rattle.std.specs.Int.{w32, to_le_bytes}
use Rattle.rkyv_btree_writer.specs.Archiving.{Archival, IsArchived, Matches}
use Rattle.rkyv_btree_portable.specs.Bytes.{Holds}
use Rattle.rkyv_btree_writer.specs.Padding.{padding}
use Rattle.rkyv_btree_writing_laws.specs.Image.{entry_bytes, leaf_bytes, leaf_image, inner_bytes, inner_write, inner_image, pointers, pointers_reach}
use Rattle.rkyv_btree_portable.specs.InPlace.{OwnBytes}
use Rattle.rkyv_btree_portable.specs.Kind.{Kind, IsLawful}
use Rattle.rkyv_btree_format.specs.Layout.{layout_of, are_fitting, align, keys_at, values_at, key_at, value_at, len_at, pointer_at, leaf_size, inner_size}
use Rattle.rkyv_btree_writer.specs.Pointers.{FitsOffset, pointer, no_pointer}
use Rattle.rkyv_btree_portable.specs.Rounding.{round_up}
use Rattle.rkyv_btree_portable.specs.laws.Rounding.{le-round_up, round_up-aligned, alignment_positive}
use Rattle.rkyv_btree_format.specs.Spells.{Entries, root_size, Spells, SpellsRow, SpellsChild}
use Rattle.rkyv_btree_portable.specs.Standing.{IsAligned}
use Rattle.rkyv_btree_shape.specs.Tree.{Tree, leaf, inner, Row, last, step, Child, absent, child, row_entries, HasShape, RowHasShape, ChildHasShape}
use Rattle.rkyv_btree_writer.specs.Writing.{Writing, Write, position}
use Rattle.rkyv_btree_writing_laws.specs.Written.{AreInNode, NodeWritten, TreeWritten, RowWritten, ChildWritten}
use Rattle.rkyv_btree_format.proofs.Sizes.{room_of}
use Rattle.rkyv_btree_format.proofs.Aligned.{alignment}
use Rattle.rkyv_btree_writing_laws.proofs.EntriesWritten.{Grown, HeldSince, grown-none, grown-both, grown-wrote, grown-position, held-split, held-wrote, AreWritten, together, entries_grown, meant, sizes, entries_spelled}
use Rattle.rkyv_btree_portable.specs.laws.Holding.{Holds-front, Holds-at, first-held, tail_held}
use Rattle.rkyv_btree_writer.proofs.HeldNumbers.{held_number, held_no_pointer, held_target}
use Rattle.rkyv_btree_writer.proofs.WriteRuns.{reach_split}
use Rattle.rkyv_btree_writing_laws.proofs.Leaves.{keys_of, values_of, parts_length, parts_held}
use Rattle.rkyv_btree_shape.proofs.Mapped.{entries_mapped}
use Rattle.rkyv_btree_shape.specs.Mapped.{mapped, mapped_row, mapped_child}
use Rattle.rkyv_btree_writing_laws.proofs.NodesHeld.{offset_reaches, pointers_rest, reach_rest, length-pointers, node_there}

module _ {M N R S : Type 0} (K V : Kind) (E : ℕ) (k : IsLawful K) (v : IsLawful V) (fits : IsTrue (are_fitting K V E)) (KA : Archival M R) (VA : Archival N S) (key : Matches KA.kind K) (value : Matches VA.kind V) (ka : IsArchived KA) (va : IsArchived VA) where
  in_node : (from : Writing) (xs : List (M × N)) (root : ℕ) (owns : List OwnBytes) (to : Writing) → AreInNode (layout_of K V E) KA VA from xs root owns to → AreWritten KA VA from (root + key_at (layout_of K V E) 0) (root + value_at (layout_of K V E) 0) xs owns to
  in_node from xs root owns to h = together KA VA from (root + key_at (layout_of K V E) 0) (root + value_at (layout_of K V E) 0) xs h.keys h.values owns to h.serialised h.resolved.own_keys h.resolved.own_values

  node_grown : (image : ℕ → List OwnBytes → List Write) (size : ℕ) (from : Writing) (xs : List (M × N)) (root : ℕ) (to : Writing) → NodeWritten (layout_of K V E) KA VA image size from xs root to → Grown from to
  node_grown image size from xs root to h =
      grown-both from h.mid to (entries_grown KA VA from (root + key_at (layout_of K V E) 0) (root + value_at (layout_of K V E) 0) xs h.owns h.mid (in_node from xs root h.owns h.mid h.entries)) (grown-wrote h.mid to (image (position h.mid) h.owns) h.wrote)

  mutual
    pub tree_grown : (from : Writing) (t : Tree (M × N)) (root : ℕ) (to : Writing) → TreeWritten (layout_of K V E) KA VA from t root to → Grown from to
    tree_grown from (leaf xs) root to h = node_grown (leaf_image (layout_of K V E)) (leaf_size (layout_of K V E)) from xs root to h
    tree_grown from (inner row) root to h =
        grown-both from h.1 to (row_grown from row h.0 h.1 h.2) (node_grown (λ (at : ℕ) (owns : List OwnBytes). inner_image (layout_of K V E) at owns h.0) (inner_size (layout_of K V E)) h.1 (row_entries row) root to h.3)

    row_grown : (from : Writing) (row : Row (M × N)) (roots : List (Option ℕ)) (to : Writing) → RowWritten (layout_of K V E) KA VA from row roots to → Grown from to
    row_grown from (last c) roots to h = child_grown from c h.0 to h.1
    row_grown from (step c x row) roots to h = grown-both from h.2 to (child_grown from c h.0 h.2 h.3) (row_grown h.2 row h.1 to h.4)

    child_grown : (from : Writing) (c : Child (M × N)) (root : Option ℕ) (to : Writing) → ChildWritten (layout_of K V E) KA VA from c root to → Grown from to
    child_grown from absent root to h = grown-none from to h.1
    child_grown from (child t) root to h = tree_grown from t h.0 to h.1

  roots_count : (from : Writing) (row : Row (M × N)) (roots : List (Option ℕ)) (to : Writing) → RowWritten (layout_of K V E) KA VA from row roots to → length roots ≡ length (row_entries row) + 1
  roots_count from (last c) roots to h = ap length h.2
  roots_count from (step c x row) roots to h = ap length h.5 ∙ omega (arith, roots_count h.2 row h.1 to h.4)

  pub tree_ends : (from : Writing) (t : Tree (M × N)) (root : ℕ) (to : Writing) → TreeWritten (layout_of K V E) KA VA from t root to → position to ≡ root + root_size (layout_of K V E) (mapped (meant K V E k v fits KA VA key value ka va) t)
  tree_ends from (leaf xs) root to h = h.end
  tree_ends from (inner row) root to h = h.3.end

  -- a node's kind and entries end before its length or its pointers
  pub entries_room : (kind : ℕ) (from : Writing) (xs : List (M × N)) (root : ℕ) (owns : List OwnBytes) (to : Writing) → AreInNode (layout_of K V E) KA VA from xs root owns to → length xs ≤ E → length (entry_bytes (layout_of K V E) kind owns) ≤ len_at (layout_of K V E)
  entries_room kind from xs root owns to h few =
      let s = layout_of K V E in
      let room = room_of K V E k v fits in
      let parts = room.parts in
      let long = sizes K V E k v fits KA VA key value ka va from (root + key_at s 0) (root + value_at s 0) xs owns to (in_node from xs root owns to h) in
      omega (arith, parts.values, parts.entries, parts_length (kind ∷ []) (keys_of owns) (values_of owns) (keys_at s) (values_at s) parts.kind (omega (arith, parts.keys, long.1, room.key_at (length xs) few)), long.2, room.value_at (length xs) few)

  module _ (b : List ℕ) (short : length b ≤ 4294967295) where
    -- the kind and the entries of a node whose bytes are held
    node_spelled : (lo kind : ℕ) (from : Writing) (xs : List (M × N)) (root : ℕ) (owns : List OwnBytes) (to : Writing) → AreInNode (layout_of K V E) KA VA from xs root owns to → HeldSince b from to → Holds b root (entry_bytes (layout_of K V E) kind owns) → lo ≤ position from → length xs ≤ E → root + leaf_size (layout_of K V E) ≤ length b →
        (slice_index b root ≡ kind) × ((left : ℕ) × Entries K V E b root 0 lo left (map (meant K V E k v fits KA VA key value ka va) xs) × (left ≤ position to))
    node_spelled lo kind from xs root owns to h held there low few inside =
        let s = layout_of K V E in
        let room = room_of K V E k v fits in
        let parts = room.parts in
        let written = in_node from xs root owns to h in
        let long = sizes K V E k v fits KA VA key value ka va from (root + key_at s 0) (root + value_at s 0) xs owns to written in
        let bytes = parts_held (kind ∷ []) (keys_of owns) (values_of owns) (keys_at s) (values_at s) parts.kind (omega (arith, parts.keys, long.1, room.key_at (length xs) few)) b root there in
        let aligned : IsAligned (align s) root = subst (IsAligned (align s)) (sym h.place) (round_up-aligned (position to) (align s)) in
        let up = le-round_up (position to) (align s) (alignment_positive (alignment K V E k v)) in (
          first-held b root kind [] bytes.0,
          entries_spelled K V E k v fits KA VA key value ka va b lo root 0 (root + key_at s 0) (root + value_at s 0) from xs owns to written refl refl held short low (omega (arith, up, h.place)) aligned (omega (arith, few)) inside
              (Holds-at b (root + keys_at s) (root + key_at s 0) (keys_of owns) (omega arith) bytes.1)
              (Holds-at b (root + values_at s) (root + value_at s 0) (values_of owns) (omega arith) bytes.2),
        )

    mutual
      pub tree_spelled : (lo hi : ℕ) (from : Writing) (t : Tree (M × N)) (root : ℕ) (to : Writing) → HasShape E t → TreeWritten (layout_of K V E) KA VA from t root to → HeldSince b from to → lo ≤ position from → position to ≤ hi → hi ≤ length b →
          Spells K V E b lo hi root (mapped (meant K V E k v fits KA VA key value ka va) t)
      tree_spelled lo hi from (leaf xs) root to is h held low high within =
          let s = layout_of K V E in
          let room = room_of K V E k v fits in
          let w = position h.mid in
          let up = le-round_up w (align s) (alignment_positive (alignment K V E k v)) in
          let written = in_node from xs root h.owns h.mid h.entries in
          let before = entries_grown KA VA from (root + key_at s 0) (root + value_at s 0) xs h.owns h.mid written in
          let parts = held-split b from h.mid to before (grown-wrote h.mid to (leaf_image s w h.owns) h.wrote) held in
          let own = leaf_bytes s h.owns in
          let there : Holds b root own = Holds-at b (round_up w (align s)) root own (sym h.entries.place) (node_there K V E k v fits b w (record { bytes = own; reaches = true }) (held-wrote b h.mid to (leaf_image s w h.owns) h.wrote parts.1)) in
          let tail = tail_held (entry_bytes s 0 h.owns) (to_le_bytes w32 (length h.owns)) (len_at s) (leaf_size s) (entries_room 0 from xs root h.owns h.mid h.entries is) room.parts.len b root there in
          let long = sizes K V E k v fits KA VA key value ka va from (root + key_at s 0) (root + value_at s 0) xs h.owns h.mid written in
          let node = node_spelled lo 0 from xs root h.owns h.mid h.entries parts.0 tail.0 low is (omega (arith, h.end, high, within)) in
          let count : length (map (meant K V E k v fits KA VA key value ka va) xs) ≡ length xs = length-map xs (meant K V E k v fits KA VA key value ka va) in (
            record { start = omega (arith, low, grown-position from h.mid before, up, h.entries.place); room = omega (arith, h.end, high); aligned = subst (IsAligned (align s)) (sym h.entries.place) (round_up-aligned w (align s)); kind_byte = node.0 },
            held_number b (root + len_at s) (length h.owns) (omega (arith, room.entries, long.0, is)) tail.1 ∙ (long.0 ∙ sym count),
            omega (arith, count, is),
            node.1.0,
            node.1.1,
          )
      tree_spelled lo hi from (inner row) root to is h held low high within =
          let s = layout_of K V E in
          let room = room_of K V E k v fits in
          let roots = h.0 in
          let m = h.1 in
          let node = h.3 in
          let w = position node.mid in
          let xs = row_entries row in
          let up = le-round_up w (align s) (alignment_positive (alignment K V E k v)) in
          let image : ℕ → List OwnBytes → List Write = λ at owns. inner_image s at owns roots in
          let children = row_grown from row roots m h.2 in
          let behind = node_grown image (inner_size s) m xs root to node in
          let first = held-split b from m to children behind held in
          let written = in_node m xs root node.owns node.mid node.entries in
          let before = entries_grown KA VA m (root + key_at s 0) (root + value_at s 0) xs node.owns node.mid written in
          let parts = held-split b m node.mid to before (grown-wrote node.mid to (image w node.owns) node.wrote) first.1 in
          let at = round_up w (align s) in
          let place : at ≡ root = sym node.entries.place in
          let write = inner_write s at node.owns roots in
          let there : Holds b root (inner_bytes s root node.owns roots) = subst (λ (n : ℕ). Holds b n (inner_bytes s n node.owns roots)) place (node_there K V E k v fits b w write (held-wrote b node.mid to (image w node.owns) node.wrote parts.1)) in
          let near : pointers_reach (root + len_at s) roots ≡ true = subst (λ (n : ℕ). pointers_reach (n + len_at s) roots ≡ true) place ((reach_split (padding (align s) w) (write ∷ []) node.wrote.reach).1.0) in
          let count = roots_count from row roots m h.2 in
          let tail = tail_held (entry_bytes s 1 node.owns) (pointers (root + len_at s) roots) (len_at s) (inner_size s) (entries_room 1 m xs root node.owns node.mid node.entries (omega (arith, is.0))) (omega (arith, room.parts.pointers, length-pointers (root + len_at s) roots, count, is.0)) b root there in
          let zeroth : root + len_at s ≡ root + pointer_at s 0 = omega arith in
          let rows = row_spelled lo root 0 from row roots m is.1 h.2 first.0 (subst (λ (n : ℕ). pointers_reach n roots ≡ true) zeroth near) (omega (arith, grown-position m node.mid before, up, node.entries.place)) (omega (arith, node.end, high, within)) (subst (λ (n : ℕ). Holds b n (pointers n roots)) zeroth tail.1) low (omega (arith, is.0)) in
          let entries = node_spelled rows.0 1 m xs root node.owns node.mid node.entries parts.0 tail.0 rows.2 (omega (arith, is.0)) (omega (arith, room.parts.leaf, node.end, high, within)) in
          let mapped = entries_mapped (meant K V E k v fits KA VA key value ka va) row in (
            record { start = omega (arith, low, grown-position from m children, grown-position m node.mid before, up, node.entries.place); room = omega (arith, node.end, high); aligned = subst (IsAligned (align s)) place (round_up-aligned w (align s)); kind_byte = entries.0 },
            ap length mapped ∙ (length-map xs (meant K V E k v fits KA VA key value ka va) ∙ is.0),
            rows.0,
            rows.1,
            entries.1.0,
            subst (λ ys. Entries K V E b root 0 rows.0 entries.1.0 ys) (sym mapped) entries.1.1,
          )

      row_spelled : (lo p i : ℕ) (from : Writing) (row : Row (M × N)) (roots : List (Option ℕ)) (to : Writing) → RowHasShape E row → RowWritten (layout_of K V E) KA VA from row roots to → HeldSince b from to → pointers_reach (p + pointer_at (layout_of K V E) i) roots ≡ true → position to ≤ p → p + inner_size (layout_of K V E) ≤ length b →
          Holds b (p + pointer_at (layout_of K V E) i) (pointers (p + pointer_at (layout_of K V E) i) roots) → lo ≤ position from → i + length (row_entries row) ≡ E → (mid : ℕ) × SpellsRow K V E b p i lo mid (mapped_row (meant K V E k v fits KA VA key value ka va) row) × (mid ≤ position to)
      row_spelled lo p i from (last c) roots to is h held near below room ptrs low full =
          let at = p + pointer_at (layout_of K V E) i in
          child_spelled lo p i from c h.0 [] to is h.1 held (subst (λ (rs : List (Option ℕ)). pointers_reach at rs ≡ true) h.2 near) below room (subst (λ (rs : List (Option ℕ)). Holds b at (pointers at rs)) h.2 ptrs) low (omega (arith, full))
      row_spelled lo p i from (step c x row) roots to is h held near below room ptrs low full =
          let s = layout_of K V E in
          let at = p + pointer_at s i in
          let next : at + 4 ≡ p + pointer_at s (i + 1) = omega arith in
          let first = child_grown from c h.0 h.2 h.3 in
          let others = row_grown h.2 row h.1 to h.4 in
          let split = held-split b from h.2 to first others held in
          let near2 = subst (λ (rs : List (Option ℕ)). pointers_reach at rs ≡ true) h.5 near in
          let ptrs2 = subst (λ (rs : List (Option ℕ)). Holds b at (pointers at rs)) h.5 ptrs in
          let one = child_spelled lo p i from c h.0 h.1 h.2 is.0 h.3 split.0 near2 (omega (arith, below, grown-position h.2 to others)) room ptrs2 low (omega (arith, full)) in
          let rest = row_spelled one.0 p (i + 1) h.2 row h.1 to is.1 h.4 split.1 (subst (λ (n : ℕ). pointers_reach n h.1 ≡ true) next (reach_rest at h.0 h.1 near2)) below room (subst (λ (n : ℕ). Holds b n (pointers n h.1)) next (pointers_rest b at h.0 h.1 ptrs2)) one.2 (omega (arith, full)) in
          (rest.0, (one.0, one.1, rest.1), rest.2)

      child_spelled : (lo p i : ℕ) (from : Writing) (c : Child (M × N)) (root : Option ℕ) (roots : List (Option ℕ)) (to : Writing) → ChildHasShape E c → ChildWritten (layout_of K V E) KA VA from c root to → HeldSince b from to → pointers_reach (p + pointer_at (layout_of K V E) i) (root ∷ roots) ≡ true → position to ≤ p → p + inner_size (layout_of K V E) ≤ length b →
          Holds b (p + pointer_at (layout_of K V E) i) (pointers (p + pointer_at (layout_of K V E) i) (root ∷ roots)) → lo ≤ position from → i ≤ E → (next : ℕ) × SpellsChild K V E b p i lo next (mapped_child (meant K V E k v fits KA VA key value ka va) c) × (next ≤ position to)
      child_spelled lo p i from absent root roots to is h held near below room ptrs low few =
          let at = p + pointer_at (layout_of K V E) i in
          let none = subst (λ (r : Option ℕ). Holds b at (pointers at (r ∷ roots))) h.0 ptrs in
          (lo, (held_no_pointer b at (Holds-front b at no_pointer (pointers (at + 4) roots) none), refl), omega (arith, low, ap position h.1))
      child_spelled lo p i from (child t) root roots to is h held near below room ptrs low few =
          let s = layout_of K V E in
          let at = p + pointer_at s i in
          let place = h.0 in
          let parts = (room_of K V E k v fits).parts in
          let ends = tree_ends from t place to h.1 in
          let here : FitsOffset at place = (offset_reaches at place (pointers_reach (at + 4) roots) (subst (λ (r : Option ℕ). pointers_reach at (r ∷ roots) ≡ true) h.2 near)).0 in
          let there = subst (λ (r : Option ℕ). Holds b at (pointers at (r ∷ roots))) h.2 ptrs in
          let leads = held_target b at place here (omega (arith, ends, below)) (omega (arith, parts.pointers, room, short, few)) (Holds-front b at (pointer at place) (pointers (at + 4) roots) there) in
          (position to, (place, leads, tree_spelled lo p from t place to is h.1 held low below (omega arith), ends), omega arith)
