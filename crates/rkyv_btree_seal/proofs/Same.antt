-- The tree that is read is the same where the bytes are that it is spelled in.
use Rattle.std.proofs.Common.{◌≡◌, ℕ, zero, suc, ◌+◌, ◌≤◌, List, ◌∷◌, length, refl, sym, ap, subst, ◌∙◌, arith, slice_index}
use Rattle.std.proofs.lemmas.Bool.{eq-eqb, ne_eqb}
use Rattle.rkyv_btree_portable.specs.Bytes.{number_at, target_at}
use Rattle.rkyv_btree_portable.specs.Kind.{Kind}
use Rattle.rkyv_btree_format.specs.Layout.{NodeLayout, layout_of, len_at, leaf_size, inner_size, pointer_at}
use Rattle.rkyv_btree_format.specs.Read.{run, child_of, row_at, tree_at}
use Rattle.rkyv_btree_format.specs.Spells.{Spells, SpellsRow, SpellsChild, root_size}
use Rattle.rkyv_btree_portable.specs.Standing.{SameBytes}
use Rattle.rkyv_btree_shape.specs.Tree.{Tree, leaf, inner, Row, last, step, Child, absent, child, row_entries, height, row_height, child_height}
use Rattle.rkyv_btree_portable.specs.laws.Numbers.{number_same, target_same}
use Rattle.rkyv_btree_portable.specs.laws.Standing.{same_within}
use Rattle.rkyv_btree_format.proofs.Local.{child_from, row_from}
use Rattle.rkyv_btree_format.proofs.Sizes.{IsSound, follow}

module _ (s : NodeLayout) (b c : List ℕ) where
  run_same : (p count n : ℕ) → run s b p count n ≡ run s c p count n
  run_same p zero n = refl
  run_same p (suc count) n = ap (λ r. (p, n) ∷ r) (run_same p count (n + 1))

  -- a node with its kind, and its length or its row
  pub leaf_same : (levels p : ℕ) → slice_index b p ≡ 0 → slice_index c p ≡ 0 → number_at b (p + len_at s) 4 ≡ number_at c (p + len_at s) 4 → tree_at s b (suc levels) p ≡ tree_at s c (suc levels) p
  leaf_same levels p old new len = rw (eq-eqb (slice_index b p) 0 old, eq-eqb (slice_index c p) 0 new) (ap (λ n. leaf (run s b p n 0)) len ∙ ap leaf (run_same p (number_at c (p + len_at s) 4) 0))

  pub inner_same : (levels p : ℕ) → slice_index b p ≡ 1 → slice_index c p ≡ 1 → row_at s b (tree_at s b levels) p s.E 0 ≡ row_at s c (tree_at s c levels) p s.E 0 → tree_at s b (suc levels) p ≡ tree_at s c (suc levels) p
  inner_same levels p old new rows = rw (ne_eqb (slice_index b p) 0 (omega (arith, old)), ne_eqb (slice_index c p) 0 (omega (arith, new))) (ap inner rows)

-- a row with its first child and its rest
pub joined : {x y : Child (ℕ × ℕ)} {row row2 : Row (ℕ × ℕ)} (p n : ℕ) → x ≡ y → row ≡ row2 → step x (p, n) row ≡ step y (p, n) row2
joined p n one others = cc

module _ (K V : Kind) (E : ℕ) (b c : List ℕ) (sound : IsSound (layout_of K V E)) where
  pub pointer_same : (p n : ℕ) → n ≤ E → SameBytes b c (p + len_at (layout_of K V E)) (p + inner_size (layout_of K V E)) → target_at b (p + pointer_at (layout_of K V E) n) ≡ target_at c (p + pointer_at (layout_of K V E) n)
  pointer_same p n count pointers =
      let s = layout_of K V E in
      let f = follow s sound in
      target_same b c (p + pointer_at s n) (same_within b c (p + len_at s) (p + inner_size s) (p + pointer_at s n) (p + pointer_at s n + 4) (omega arith) (omega arith) pointers)

  mutual
    pub tree_same : (t : Tree (K.Value × V.Value)) (levels lo hi p : ℕ) → height t ≤ levels → SameBytes b c lo (p + root_size (layout_of K V E) t) → Spells K V E b lo hi p t → tree_at (layout_of K V E) b levels p ≡ tree_at (layout_of K V E) c levels p
    tree_same (leaf m) zero lo hi p d same h = absurd (omega arith)
    tree_same (inner row) zero lo hi p d same h = absurd (omega arith)
    tree_same (leaf m) (suc levels) lo hi p d same h =
        let s = layout_of K V E in
        let f = follow s sound in
        let start = h.0.start in
        let kind = same.same p (omega arith) (omega arith) in
        leaf_same s b c levels p h.0.kind_byte (sym kind ∙ h.0.kind_byte) (number_same b c (p + len_at s) (same_within b c lo (p + leaf_size s) (p + len_at s) (p + len_at s + 4) (omega arith) (omega arith) same))
    tree_same (inner row) (suc levels) lo hi p d same h =
        let s = layout_of K V E in
        let f = follow s sound in
        let start = h.0.start in
        let kind = same.same p (omega arith) (omega arith) in
        let mid = row_from K V E b row p 0 lo h.2 start h.3 in
        inner_same s b c levels p h.0.kind_byte (sym kind ∙ h.0.kind_byte)
        (subst (λ (n : ℕ). row_at s b (tree_at s b levels) p n 0 ≡ row_at s c (tree_at s c levels) p n 0) h.1
        (row_same row levels p 0 lo h.2 (omega arith) start (omega (arith, h.1)) (same_within b c lo (p + inner_size s) lo h.2 (omega arith) (omega (arith, mid.1)) same) (same_within b c lo (p + inner_size s) (p + len_at s) (p + inner_size s) (omega arith) (omega arith) same) h.3))

    pub row_same : (row : Row (K.Value × V.Value)) (levels p n lo mid : ℕ) → row_height row ≤ levels → lo ≤ p → n + length (row_entries row) ≤ E → SameBytes b c lo mid → SameBytes b c (p + len_at (layout_of K V E)) (p + inner_size (layout_of K V E)) → SpellsRow K V E b p n lo mid row
        → row_at (layout_of K V E) b (tree_at (layout_of K V E) b levels) p (length (row_entries row)) n ≡ row_at (layout_of K V E) c (tree_at (layout_of K V E) c levels) p (length (row_entries row)) n
    row_same (last x) levels p n lo mid d before count below pointers h = ap last (child_same x levels p n lo mid d before (omega arith) below pointers h)
    row_same (step x e row) levels p n lo mid d before count below pointers h =
        let first = child_from K V E b x p n lo h.0 before h.1 in
        let rest = row_from K V E b row p (n + 1) h.0 mid first.1 h.2 in
        joined p n (child_same x levels p n lo h.0 (omega arith) before (omega arith) (same_within b c lo mid lo h.0 (omega arith) (omega (arith, rest.0)) below) pointers h.1)
        (row_same row levels p (n + 1) h.0 mid (omega arith) first.1 (omega arith) (same_within b c lo mid h.0 mid (omega (arith, first.0)) (omega arith) below) pointers h.2)

    pub child_same : (x : Child (K.Value × V.Value)) (levels p n lo next : ℕ) → child_height x ≤ levels → lo ≤ p → n ≤ E → SameBytes b c lo next → SameBytes b c (p + len_at (layout_of K V E)) (p + inner_size (layout_of K V E)) → SpellsChild K V E b p n lo next x
        → child_of (layout_of K V E) b (tree_at (layout_of K V E) b levels) (target_at b (p + pointer_at (layout_of K V E) n)) ≡ child_of (layout_of K V E) c (tree_at (layout_of K V E) c levels) (target_at c (p + pointer_at (layout_of K V E) n))
    child_same absent levels p n lo next d before count below pointers h =
        let leads = pointer_same p n count pointers in
        rw (← leads, h.0) refl
    child_same (child t) levels p n lo next d before count below pointers h =
        let leads = pointer_same p n count pointers in
        rw (← leads, h.1) (ap child (tree_same t levels lo p h.0 d (subst (λ (x : ℕ). SameBytes b c lo x) h.3 below) h.2))
