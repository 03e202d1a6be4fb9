-- No bytes matter but those that a map takes from its window and its own, where this is so of its keys and values.
use Rattle.std.specs.Prelude.{ℕ, ◌+◌, ◌*◌, ◌≤◌, ◌<◌, List, [], ◌∷◌, length}
use Rattle.std.proofs.Common.{sym, ◌∙◌, subst, arith, inl, inr}
use Rattle.std.proofs.Math.Nat.{mul-le-mul_right}
use Rattle.rkyv_btree_portable.specs.Kind.{Kind, Local, Leaving}
use Rattle.rkyv_btree_format.specs.Layout.{NodeLayout, layout_of, values_at, key_at, value_at, len_at, leaf_size, inner_size, pointer_at}
use Rattle.rkyv_btree_format.proofs.Sizes.{IsSound, follow}
use Rattle.rkyv_btree_format.specs.Spells.{IsNodeAt, Entries, Spells, SpellsRow, SpellsChild, Accepted, root_size}
use Rattle.rkyv_btree_portable.specs.laws.Numbers.{number_same, target_same, place_same}
use Rattle.rkyv_btree_portable.specs.Standing.{SameBytes}
use Rattle.rkyv_btree_portable.specs.laws.Standing.{same_within}
use Rattle.rkyv_btree_shape.specs.Tree.{Tree, leaf, inner, Row, last, step, Child, absent, child, row_entries}

-- the keys of a node lie before its values, and these before its length or pointers
pub key_room : (s : NodeLayout) (i : ℕ) → IsSound s → i < s.E → key_at s i + s.key_size ≤ values_at s
key_room s i fits h =
    let f = follow s fits in
    let m : (i + 1) * s.key_size ≤ s.E * s.key_size = mul-le-mul_right s.key_size (omega arith) in
    omega arith

pub value_room : (s : NodeLayout) (i : ℕ) → IsSound s → i < s.E → value_at s i + s.value_size ≤ len_at s
value_room s i fits h =
    let f = follow s fits in
    let m : (i + 1) * s.value_size ≤ s.E * s.value_size = mul-le-mul_right s.value_size (omega arith) in
    omega arith

-- what the children of a row leave is of their window
module _ (K V : Kind) (E : ℕ) (b : List ℕ) where
  pub child_from : (x : Child (K.Value × V.Value)) (p i lo next : ℕ) → lo ≤ p → SpellsChild K V E b p i lo next x → (lo ≤ next) × (next ≤ p)
  child_from absent p i lo next inside h = (omega (arith, h.1), omega (arith, h.1))
  child_from (child (leaf m)) p i lo next inside h = let at = h.2.0 in (omega (arith, h.3), omega (arith, h.3))
  child_from (child (inner row)) p i lo next inside h = let at = h.2.0 in (omega (arith, h.3), omega (arith, h.3))

  pub row_from : (row : Row (K.Value × V.Value)) (p i lo mid : ℕ) → lo ≤ p → SpellsRow K V E b p i lo mid row → (lo ≤ mid) × (mid ≤ p)
  row_from (last x) p i lo mid inside h = child_from x p i lo mid inside h
  row_from (step x e row) p i lo mid inside h =
      let first = child_from x p i lo h.0 inside h.1 in
      let rest = row_from row p (i + 1) h.0 mid first.1 h.2 in
      (omega arith, rest.1)

module _ (K V : Kind) (E : ℕ) (b c : List ℕ) (short : length c ≤ 4294967295) (kl : Local K) (vl : Local V) (kin : Leaving K) (vin : Leaving V) (fits : IsSound (layout_of K V E)) where
  pub entries_local : (m : List (K.Value × V.Value)) (p i lo left from : ℕ) → from ≤ lo → lo ≤ p → i + length m ≤ E → SameBytes b c from (p + leaf_size (layout_of K V E)) → Entries K V E b p i lo left m → Entries K V E c p i lo left m
  entries_local [] p i lo left from before inside count same h = h
  entries_local (e ∷ m) p i lo left from before inside count same h =
      let s = layout_of K V E in
      let kr = key_room s i fits (omega arith) in
      let vr = value_room s i fits (omega arith) in
      let len = (follow s fits).len in
      let end = p + leaf_size s in
      let key = kin b lo p (p + key_at s i) h.0 e.0 h.2 in
      let value = vin b h.0 p (p + value_at s i) h.1 e.1 h.3 in (
        h.0,
        h.1,
        kl b c lo p (p + key_at s i) h.0 e.0 short (same_within b c from end lo h.0 before (omega arith) same) (same_within b c from end (p + key_at s i) (p + key_at s i + K.size) (omega arith) (omega arith) same) h.2,
        vl b c h.0 p (p + value_at s i) h.1 e.1 short (same_within b c from end h.0 h.1 (omega arith) (omega arith) same) (same_within b c from end (p + value_at s i) (p + value_at s i + V.size) (omega arith) (omega arith) same) h.3,
        entries_local m p (i + 1) h.1 left from (omega arith) value.1 (omega arith) same h.4,
      )

  node_local : (lo hi p kind size from : ℕ) → from ≤ lo → 1 ≤ size → SameBytes b c from (p + size) → IsNodeAt (layout_of K V E) b lo hi p kind size → IsNodeAt (layout_of K V E) c lo hi p kind size
  node_local lo hi p kind size from before some same at =
      let start = at.start in
      record { start = at.start; room = at.room; aligned = at.aligned; kind_byte = sym (same.same p (omega arith) (omega arith)) ∙ at.kind_byte }

  mutual
    tree_local : (t : Tree (K.Value × V.Value)) (lo hi p from : ℕ) → from ≤ lo → SameBytes b c from (p + root_size (layout_of K V E) t) → Spells K V E b lo hi p t → Spells K V E c lo hi p t
    tree_local (leaf m) lo hi p from before same h =
        let s = layout_of K V E in
        let f = follow s fits in
        let start = h.0.start in
        let len = number_same b c (p + len_at s) (same_within b c from (p + leaf_size s) (p + len_at s) (p + len_at s + 4) (omega arith) (omega arith) same) in
        (node_local lo hi p 0 (leaf_size s) from before (omega arith) same h.0, sym len ∙ h.1, h.2, h.3, entries_local m p 0 lo h.3 from before start (omega (arith, h.2)) same h.4)
    tree_local (inner row) lo hi p from before same h =
        let s = layout_of K V E in
        let f = follow s fits in
        let start = h.0.start in
        let rows = row_from K V E b row p 0 lo h.2 start h.3 in (
          node_local lo hi p 1 (inner_size s) from before (omega arith) same h.0,
          h.1,
          h.2,
          row_local row p 0 lo h.2 start (omega (arith, h.1)) (same_within b c from (p + inner_size s) lo h.2 before (omega (arith, rows.1)) same) (same_within b c from (p + inner_size s) (p + len_at s) (p + inner_size s) (omega arith) (omega arith) same) h.3,
          h.4,
          entries_local (row_entries row) p 0 h.2 h.4 from (omega arith) rows.1 (omega (arith, h.1)) (same_within b c from (p + inner_size s) from (p + leaf_size s) (omega arith) (omega arith) same) h.5,
        )

    -- children matter by the bytes that they take from the window, and by their pointers
    pub row_local : (row : Row (K.Value × V.Value)) (p i lo mid : ℕ) → lo ≤ p → i + length (row_entries row) ≤ E → SameBytes b c lo mid → SameBytes b c (p + len_at (layout_of K V E)) (p + inner_size (layout_of K V E)) → SpellsRow K V E b p i lo mid row → SpellsRow K V E c p i lo mid row
    row_local (last x) p i lo mid inside count below pointers h = child_local x p i lo mid inside (omega arith) below pointers h
    row_local (step x e row) p i lo mid inside count below pointers h =
        let first = child_from K V E b x p i lo h.0 inside h.1 in
        let rest = row_from K V E b row p (i + 1) h.0 mid first.1 h.2 in (
          h.0,
          child_local x p i lo h.0 inside (omega arith) (same_within b c lo mid lo h.0 (omega arith) (omega (arith, rest.0)) below) pointers h.1,
          row_local row p (i + 1) h.0 mid first.1 (omega arith) (same_within b c lo mid h.0 mid (omega (arith, first.0)) (omega arith) below) pointers h.2,
        )

    pub child_local : (x : Child (K.Value × V.Value)) (p i lo next : ℕ) → lo ≤ p → i ≤ E → SameBytes b c lo next → SameBytes b c (p + len_at (layout_of K V E)) (p + inner_size (layout_of K V E)) → SpellsChild K V E b p i lo next x → SpellsChild K V E c p i lo next x
    child_local absent p i lo next inside count below pointers h =
        let s = layout_of K V E in
        let f = follow s fits in
        (sym (target_same b c (p + pointer_at s i) (same_within b c (p + len_at s) (p + inner_size s) (p + pointer_at s i) (p + pointer_at s i + 4) (omega arith) (omega arith) pointers)) ∙ h.0, h.1)
    child_local (child t) p i lo next inside count below pointers h =
        let s = layout_of K V E in
        let f = follow s fits in (
          h.0,
          sym (target_same b c (p + pointer_at s i) (same_within b c (p + len_at s) (p + inner_size s) (p + pointer_at s i) (p + pointer_at s i + 4) (omega arith) (omega arith) pointers)) ∙ h.1,
          tree_local t lo p h.0 lo (omega arith) (subst (λ (n : ℕ). SameBytes b c lo n) h.3 below) h.2,
          h.3,
        )

  pub map_local : (lo hi at left : ℕ) (m : List (K.Value × V.Value)) → SameBytes b c lo left → SameBytes b c at (at + 8) → Accepted K V E b lo hi at left m → Accepted K V E c lo hi at left m
  map_local lo hi at left m outlying own a =
      let len = number_same b c (at + 4) (same_within b c at (at + 8) (at + 4) (at + 4 + 4) (omega arith) (omega arith) own) in
      let leads = place_same b c at (same_within b c at (at + 8) at (at + 4) (omega arith) (omega arith) own) in
      record {
        short = short;
        window = a.window;
        before = a.before;
        aligned = a.aligned;
        room = own.covers;
        root = elim a.root [
          | inl h ↦ inl (sym len ∙ h.0, h.1, h.2)
          | inr h ↦
              let r = h.1 in
              inr (
                λ e. h.0 (len ∙ e),
                record {
                  start = r.start;
                  tree = r.tree;
                  leads = sym leads ∙ r.leads;
                  spelled = tree_local r.tree lo hi r.start lo (omega arith) (subst (λ (n : ℕ). SameBytes b c lo n) r.left outlying) r.spelled;
                  levels = r.levels;
                  means = r.means;
                  total = r.total ∙ len;
                  left = r.left;
                },
              )
        ];
      }
