-- What is spelled is accepted.
use Rattle.std.proofs.Common.{◌≡◌, ℕ, zero, suc, ◌+◌, ◌%◌, ◌≤◌, List, [], ◌∷◌, length, length-append, Ok, pos, refl, sym, ap, add-one, ◌∙◌, subst, slice_index, arith}
use Rattle.std.proofs.lemmas.Bool.{eq-eqb, ne_eqb, le-ltb}
use Rattle.rkyv_btree_portable.specs.Bytes.{number_at}
use Rattle.rkyv_btree_verify.specs.mirror.Check.{node_place, check_entry, check_entries, check_leaf, check_pointer, check_pointers, check_inner, check_placed, check_node}
use Rattle.rkyv_btree_portable.specs.Kind.{Kind, Leaves, Decides}
use Rattle.rkyv_btree_format.specs.Layout.{NodeLayout, layout_of, key_at, value_at, align, len_at, leaf_size, inner_size}
use Rattle.rkyv_btree_format.specs.Spells.{root_size, Entries, Spells, SpellsRow, SpellsChild}
use Rattle.rkyv_btree_shape.specs.Tree.{Tree, leaf, inner, Row, last, step, Child, absent, child, list, row_list, child_list, height, row_height, child_height, row_entries}
use Rattle.rkyv_btree_format.proofs.Sizes.{IsSound, follow}

-- how many entries the children of a row have
abbrev pub below : {X : Type 0} → Row X → ℕ
below (last c) = length (child_list c)
below (step c x row) = length (child_list c) + below row

pub below_list : {X : Type 0} (row : Row X) → below row + length (row_entries row) ≡ length (row_list row)
below_list (last c) = omega arith
below_list (step c x row) = omega (arith, below_list row, length-append (child_list c) (x ∷ row_list row))

pub place_complete : (s : NodeLayout) (lo hi p : ℕ) → lo ≤ p → p + leaf_size s ≤ hi → p % align s ≡ 0 → node_place s (pos p) lo hi ≡ Ok p
place_complete s lo hi p after room aligned =
    rw (le-ltb p lo after, le-ltb hi (p + leaf_size s) room, eq-eqb (p % align s) 0 aligned) refl

module _ (K V : Kind) (E : ℕ) (keys values : Leaves) (b : List ℕ) (ks : Decides K keys) (vs : Decides V values) (fits : IsSound (layout_of K V E)) where
  pub entries_complete : (m : List (K.Value × V.Value)) (p i lo lo2 : ℕ) → Entries K V E b p i lo lo2 m → check_entries (layout_of K V E) keys values b p (length m) i lo ≡ Ok lo2
  unfolding check_entry
  entries_complete [] p i lo lo2 h = ap Ok (sym h)
  entries_complete (e ∷ m) p i lo lo2 h =
      rw (ks.only b lo p (p + key_at (layout_of K V E) i) h.0 e.0 h.2, vs.only b h.0 p (p + value_at (layout_of K V E) i) h.1 e.1 h.3)
      (entries_complete m p (i + 1) h.1 lo2 h.4)

  leaf_complete : (m : List (K.Value × V.Value)) (levels lo hi p : ℕ) → Spells K V E b lo hi p (leaf m) → check_node (layout_of K V E) keys values b (suc levels) (pos p) lo hi ≡ Ok (record { lo = p + leaf_size (layout_of K V E); entries = length m })
  unfolding check_placed check_leaf
  leaf_complete m levels lo hi p h =
      let s = layout_of K V E in
      let at = h.0 in
      let n = number_at b (p + len_at s) 4 in
      rw (place_complete s lo hi p at.start at.room at.aligned)
      (rw (eq-eqb (slice_index b p) 0 at.kind_byte, le-ltb E n (omega (arith, h.1, h.2)), h.1, entries_complete m p 0 lo h.3 h.4) refl)

  inner_complete : (row : Row (K.Value × V.Value)) (levels lo hi p : ℕ) (h : Spells K V E b lo hi p (inner row)) → check_pointers (layout_of K V E) keys values b (check_node (layout_of K V E) keys values b levels) p (suc (length (row_entries row))) 0 (record { lo = lo; entries = 0 }) ≡ Ok (record { lo = h.2; entries = 0 + below row }) → check_node (layout_of K V E) keys values b (suc levels) (pos p) lo hi ≡ Ok (record { lo = p + inner_size (layout_of K V E); entries = length (row_list row) })
  unfolding check_placed check_inner
  inner_complete row levels lo hi p h children =
      let s = layout_of K V E in
      let at = h.0 in
      let node = check_node s keys values b levels in
      let room = follow s fits in
      let first : check_pointers s keys values b node p (E + 1) 0 (record { lo = lo; entries = 0 }) ≡ Ok (record { lo = h.2; entries = 0 + below row }) =
      subst (λ (k : ℕ). check_pointers s keys values b node p k 0 (record { lo = lo; entries = 0 }) ≡ Ok (record { lo = h.2; entries = 0 + below row })) (ap suc h.1 ∙ sym (add-one E)) children in
      let own : check_entries s keys values b p E 0 h.2 ≡ Ok h.4 = subst (λ (k : ℕ). check_entries s keys values b p k 0 h.2 ≡ Ok h.4) h.1 (entries_complete (row_entries row) p 0 h.2 h.4 h.5) in
      let total : 0 + below row + E ≡ length (row_list row) = omega (arith, below_list row, h.1) in
      rw (place_complete s lo hi p at.start (omega (arith, at.room)) at.aligned)
      (rw (ne_eqb (slice_index b p) 0 (λ e. absurd (omega (arith, at.kind_byte))), eq-eqb (slice_index b p) 1 at.kind_byte, le-ltb hi (p + inner_size s) at.room, first, own, total) refl)

  mutual
    unfolding check_pointer

    pub tree_complete : (t : Tree (K.Value × V.Value)) (levels lo hi p : ℕ) → Spells K V E b lo hi p t → height t ≤ levels → check_node (layout_of K V E) keys values b levels (pos p) lo hi ≡ Ok (record { lo = p + root_size (layout_of K V E) t; entries = length (list t) })
    tree_complete (leaf m) zero lo hi p h depth = absurd (omega arith)
    tree_complete (leaf m) (suc levels) lo hi p h depth = leaf_complete m levels lo hi p h
    tree_complete (inner row) zero lo hi p h depth = absurd (omega arith)
    tree_complete (inner row) (suc levels) lo hi p h depth = inner_complete row levels lo hi p h (row_complete row levels p 0 lo h.2 0 h.3 (omega arith))

    pub row_complete : (row : Row (K.Value × V.Value)) (levels p i lo mid so_far : ℕ) → SpellsRow K V E b p i lo mid row → row_height row ≤ levels → check_pointers (layout_of K V E) keys values b (check_node (layout_of K V E) keys values b levels) p (suc (length (row_entries row))) i (record { lo = lo; entries = so_far }) ≡ Ok (record { lo = mid; entries = so_far + below row })
    row_complete (last c) levels p i lo mid so_far h depth = rw (child_complete c levels p i lo mid so_far h depth) refl
    row_complete (step c x row) levels p i lo mid so_far h depth =
        rw (child_complete c levels p i lo h.0 so_far h.1 (omega arith))
        (row_complete row levels p (i + 1) h.0 mid (so_far + length (child_list c)) h.2 (omega arith) ∙ ap (λ (n : ℕ). Ok (record { lo = mid; entries = n })) (omega arith))

    pub child_complete : (c : Child (K.Value × V.Value)) (levels p i lo next so_far : ℕ) → SpellsChild K V E b p i lo next c → child_height c ≤ levels → check_pointer (layout_of K V E) keys values b (check_node (layout_of K V E) keys values b levels) p i (record { lo = lo; entries = so_far }) ≡ Ok (record { lo = next; entries = so_far + length (child_list c) })
    child_complete absent levels p i lo next so_far h depth = rw (h.0, h.1) (ap (λ (n : ℕ). Ok (record { lo = lo; entries = n })) (omega arith))
    child_complete (child t) levels p i lo next so_far h depth = rw (h.1, tree_complete t levels lo p h.0 h.2 depth, h.3) refl
