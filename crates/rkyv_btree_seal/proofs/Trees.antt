-- A write over one value of a spelled tree makes it the tree with that value put in, and entries are read where they were.
use Rattle.std.proofs.Common.{◌≡◌, ℕ, zero, suc, ◌+◌, ◌≤◌, ◌<◌, ◌⊎◌, inl, inr, IsTrue, List, ◌∷◌, ◌++◌, length, refl, sym, ap, subst, ◌∙◌, arith, Some, slice_get, slice_index, max}
use Rattle.std.proofs.lemmas.Bool.{eq-eqb, ne_eqb}
use Rattle.std.proofs.lemmas.List.{length-map}
use Rattle.rkyv_btree_portable.specs.Bytes.{bytes_at, target_at}
use Rattle.rkyv_btree_portable.specs.InPlace.{IsOwn}
use Rattle.rkyv_btree_portable.specs.Kind.{Kind, IsLawful}
use Rattle.rkyv_btree_format.specs.Layout.{layout_of, are_fitting, value_at, len_at, leaf_size, inner_size, pointer_at}
use Rattle.rkyv_btree_format.specs.Read.{run, child_of, row_at, tree_at, entry_at}
use Rattle.rkyv_btree_format.specs.Spells.{IsNodeAt, Entries, Spells, SpellsRow, SpellsChild, root_size}
use Rattle.rkyv_btree_portable.specs.Standing.{SameBytes}
use Rattle.rkyv_btree_shape.specs.Tree.{Tree, leaf, inner, Row, last, step, Child, absent, child, list, row_list, child_list, row_entries, height, row_height, child_height}
use Rattle.rkyv_btree_portable.specs.laws.Numbers.{number_same, target_same}
use Rattle.rkyv_btree_format.proofs.Local.{value_room, entries_local, child_from, row_from, row_local, child_local}
use Rattle.rkyv_btree_verify.proofs.MapLaws.{leaving_of}
use Rattle.rkyv_btree_format.proofs.Readings.{child_list_read}
use Rattle.rkyv_btree_format.proofs.Sizes.{IsSound, sound_of, follow, room_of}
use Rattle.rkyv_btree_portable.specs.InPlace.{LiesAlone}
use Rattle.rkyv_btree_seal.specs.Put.{value_place, put_value}
use Rattle.rkyv_btree_seal.proofs.Kept.{own_value, entries_put}
use Rattle.rkyv_btree_seal.proofs.Puts.{length-put_value, split_get, put_front, put_back, Wrote, earlier, later}
use Rattle.rkyv_btree_seal.proofs.Same.{leaf_same, inner_same, joined, row_same, child_same}

-- the buffer c is b but for the own bytes of the value of entry e, at q
module _ (K V : Kind) (E : ℕ) (b c : List ℕ) (k : IsLawful K) (v : IsLawful V) (alone : LiesAlone V) (fits : IsTrue (are_fitting K V E)) (short : length c ≤ 4294967295) (e : ℕ × ℕ) (q : ℕ) (place : q ≡ value_place K V E e) (made : Wrote b c q V.size) (new : IsOwn V (bytes_at b q V.size) → IsOwn V (bytes_at c q V.size)) where
  sound : IsSound (layout_of K V E)
  sound = sound_of K V E k v fits

  -- entry e among those of a node
  run_place : (p count n i : ℕ) → slice_get (run (layout_of K V E) b p count n) i ≡ Some e → (i < count) × (q ≡ p + value_at (layout_of K V E) (n + i))
  run_place p zero n i h = absurd (cc h)
  run_place p (suc count) n zero h =
      let same : (p, n) ≡ e = cc h in
      let is : n ≡ n + 0 = omega arith in
      (omega arith, place ∙ sym (ap (value_place K V E) same) ∙ ap (λ (j : ℕ). p + value_at (layout_of K V E) j) is)
  run_place p (suc count) n (suc i) h =
      let rest = run_place p count (n + 1) i h in
      let is : n + 1 + i ≡ n + suc i = omega arith in
      (omega (arith, rest.0), rest.1 ∙ ap (λ (j : ℕ). p + value_at (layout_of K V E) j) is)

  -- a child is read with as many entries as it is spelled with
  child_length : (x : Child (K.Value × V.Value)) (levels p n lo next : ℕ) → SpellsChild K V E b p n lo next x → child_height x ≤ levels
      → length (child_list (child_of (layout_of K V E) b (tree_at (layout_of K V E) b levels) (target_at b (p + pointer_at (layout_of K V E) n)))) ≡ length (child_list x)
  child_length x levels p n lo next h d =
      sym (ap length (child_list_read K V E b k.is_read v.is_read x levels p n lo next h d) ∙ length-map (child_list (child_of (layout_of K V E) b (tree_at (layout_of K V E) b levels) (target_at b (p + pointer_at (layout_of K V E) n)))) (entry_at K V E b))

  -- a child, and the children of a row, which the write leaves
  child_kept : (x : Child (K.Value × V.Value)) (p n lo next : ℕ) → lo ≤ p → n ≤ E → SameBytes b c lo next → SameBytes b c (p + len_at (layout_of K V E)) (p + inner_size (layout_of K V E)) → SpellsChild K V E b p n lo next x → SpellsChild K V E c p n lo next x
  child_kept x p n lo next before count below pointers h =
      let sizes = room_of K V E k v fits in
      child_local K V E b c short (k.local sizes.key) (v.local sizes.value) (leaving_of k) (leaving_of v) sound x p n lo next before count below pointers h

  row_kept : (row : Row (K.Value × V.Value)) (p n lo mid : ℕ) → lo ≤ p → n + length (row_entries row) ≤ E → SameBytes b c lo mid → SameBytes b c (p + len_at (layout_of K V E)) (p + inner_size (layout_of K V E)) → SpellsRow K V E b p n lo mid row → SpellsRow K V E c p n lo mid row
  row_kept row p n lo mid before count below pointers h =
      let sizes = room_of K V E k v fits in
      row_local K V E b c short (k.local sizes.key) (v.local sizes.value) (leaving_of k) (leaving_of v) sound row p n lo mid before count below pointers h

  -- what is spelled after the write over the value of entry number i
  pub record TreePut (levels lo hi p i : ℕ) (t : Tree (K.Value × V.Value)) : Type 0 where
    pub tree : Tree (K.Value × V.Value)
    pub spelled : Spells K V E c lo hi p tree
    pub same : tree_at (layout_of K V E) b levels p ≡ tree_at (layout_of K V E) c levels p
    pub means : list tree ≡ put_value (list t) i (own_value V c q)
    pub size : root_size (layout_of K V E) tree ≡ root_size (layout_of K V E) t
    pub levels_kept : height tree ≡ height t
    pub is_own : IsOwn V (bytes_at b q V.size)
    pub first : lo ≤ q
    pub past : q + V.size ≤ p + root_size (layout_of K V E) t

  record ChildPut (levels p n lo next i : ℕ) (x : Child (K.Value × V.Value)) : Type 0 where
    new_child : Child (K.Value × V.Value)
    spelled : SpellsChild K V E c p n lo next new_child
    same : child_of (layout_of K V E) b (tree_at (layout_of K V E) b levels) (target_at b (p + pointer_at (layout_of K V E) n)) ≡ child_of (layout_of K V E) c (tree_at (layout_of K V E) c levels) (target_at c (p + pointer_at (layout_of K V E) n))
    means : child_list new_child ≡ put_value (child_list x) i (own_value V c q)
    levels_kept : child_height new_child ≡ child_height x
    is_own : IsOwn V (bytes_at b q V.size)
    first : lo ≤ q
    past : q + V.size ≤ next

  -- the write is below a node, or over its own value number n + j
  abbrev Wherein : ℕ → ℕ → ℕ → Row (K.Value × V.Value) → Row (K.Value × V.Value) → Type 0
  Wherein p n mid row row2 = ((row_entries row2 ≡ row_entries row) × (q + V.size ≤ mid) × IsOwn V (bytes_at b q V.size)) ⊎ ((j : ℕ) × (j < length (row_entries row)) × (q ≡ p + value_at (layout_of K V E) (n + j)) × (row_entries row2 ≡ put_value (row_entries row) j (own_value V c q)))

  record RowPut (levels p n lo mid i : ℕ) (row : Row (K.Value × V.Value)) : Type 0 where
    new_row : Row (K.Value × V.Value)
    spelled : SpellsRow K V E c p n lo mid new_row
    same : row_at (layout_of K V E) b (tree_at (layout_of K V E) b levels) p (length (row_entries row)) n ≡ row_at (layout_of K V E) c (tree_at (layout_of K V E) c levels) p (length (row_entries row)) n
    means : row_list new_row ≡ put_value (row_list row) i (own_value V c q)
    levels_kept : row_height new_row ≡ row_height row
    first : lo ≤ q
    past : q + V.size ≤ p + len_at (layout_of K V E)
    wherein : Wherein p n mid row new_row

  -- what is the node's own: its kind and number of entries, and its keys and values
  record OwnPut (p lo hi mid left : ℕ) (row2 : Row (K.Value × V.Value)) : Type 0 where
    node : IsNodeAt (layout_of K V E) c lo hi p 1 (inner_size (layout_of K V E))
    count : length (row_entries row2) ≡ E
    entries : Entries K V E c p 0 mid left (row_entries row2)
    is_own : IsOwn V (bytes_at b q V.size)

  own_put : (row : Row (K.Value × V.Value)) (p lo hi mid left : ℕ) (row2 : Row (K.Value × V.Value)) → hi ≤ length b → IsNodeAt (layout_of K V E) b lo hi p 1 (inner_size (layout_of K V E)) → length (row_entries row) ≡ E → mid ≤ p → Entries K V E b p 0 mid left (row_entries row) → Wherein p 0 mid row row2 → OwnPut p lo hi mid left row2
  own_put row p lo hi mid left row2 close node count below h (inl w) =
      let s = layout_of K V E in
      let sizes = room_of K V E k v fits in
      let parts = sizes.parts.leaf in
      let room = node.room in
      let end = w.1 in
      record {
        node = record { start = node.start; room = node.room; aligned = node.aligned; kind_byte = sym (made.after p (omega arith)) ∙ node.kind_byte };
        count = ap length w.0 ∙ count;
        entries = subst (λ (m : List (K.Value × V.Value)). Entries K V E c p 0 mid left m) (sym w.0) (entries_local K V E b c short (k.local sizes.key) (v.local sizes.value) (leaving_of k) (leaving_of v) sound (row_entries row) p 0 mid left mid (omega arith) below (omega arith) (later made mid (p + leaf_size s) (omega arith) (omega arith)) h);
        is_own = w.2;
      }
  own_put row p lo hi mid left row2 close node count below h (inr w) =
      let s = layout_of K V E in
      let parts = (room_of K V E k v fits).parts in
      let kind = parts.kind in
      let keys = parts.keys in
      let leaf = parts.leaf in
      let room = node.room in
      let number : 0 + w.0 ≡ w.0 = omega arith in
      let here : q ≡ p + value_at s w.0 = w.2 ∙ ap (λ (j : ℕ). p + value_at s j) number in
      let put = entries_put K V E b c k v alone fits short q made new (row_entries row) p 0 w.0 mid left w.0 (omega arith) w.1 (omega arith) (omega arith) here h in
      record {
        node = record { start = node.start; room = node.room; aligned = node.aligned; kind_byte = sym (made.before p (omega arith)) ∙ node.kind_byte };
        count = ap length w.3 ∙ length-put_value (row_entries row) w.0 (own_value V c q) ∙ count;
        entries = subst (λ (m : List (K.Value × V.Value)). Entries K V E c p 0 mid left m) (sym w.3) put.0;
        is_own = put.1;
      }

  later_wherein : (y : K.Value × V.Value) (row row2 : Row (K.Value × V.Value)) (x : Child (K.Value × V.Value)) (p n mid : ℕ) → Wherein p (n + 1) mid row row2 → Wherein p n mid (step x y row) (step x y row2)
  later_wherein y row row2 x p n mid (inl w) = inl (ap (λ r. y ∷ r) w.0, w.1, w.2)
  later_wherein y row row2 x p n mid (inr w) =
      let is : n + 1 + w.0 ≡ n + suc w.0 = omega arith in
      inr (suc w.0, omega (arith, w.1), w.2 ∙ ap (λ (j : ℕ). p + value_at (layout_of K V E) j) is, ap (λ r. y ∷ r) w.3)

  -- a write after a row's first child
  rest_put : (x : Child (K.Value × V.Value)) (y : K.Value × V.Value) (row : Row (K.Value × V.Value)) (levels p n lo mid i j : ℕ) → row_height (step x y row) ≤ levels → lo ≤ p → n + length (row_entries (step x y row)) ≤ E → p + inner_size (layout_of K V E) ≤ length b → SpellsRow K V E b p n lo mid (step x y row) → i ≡ length (child_list x) + j
      → slice_get ((p, n) ∷ row_list (row_at (layout_of K V E) b (tree_at (layout_of K V E) b levels) p (length (row_entries row)) (n + 1))) j ≡ Some e
      → ((next j2 : ℕ) → next ≤ p → SpellsRow K V E b p (n + 1) next mid row → slice_get (row_list (row_at (layout_of K V E) b (tree_at (layout_of K V E) b levels) p (length (row_entries row)) (n + 1))) j2 ≡ Some e → RowPut levels p (n + 1) next mid j2 row)
      → RowPut levels p n lo mid i (step x y row)
  rest_put x y row levels p n lo mid i zero d before count room h is at below =
      let s = layout_of K V E in
      let f = follow s sound in
      let end = value_room s n sound (omega arith) in
      let same : (p, n) ≡ e = cc at in
      let here : q ≡ p + value_at s n = place ∙ sym (ap (value_place K V E) same) in
      let keys = f.keys in
      let number : n ≡ n + 0 = omega arith in
      let child_in = child_from K V E b x p n lo h.0 before h.1 in
      let row_in = row_from K V E b row p (n + 1) h.0 mid child_in.1 h.2 in
      let pointers = later made (p + len_at s) (p + inner_size s) (omega arith) (omega arith) in
      let front = earlier made lo h.0 (omega (arith, child_in.1)) (omega (arith, child_in.1)) in
      let back = earlier made h.0 mid (omega (arith, row_in.1)) (omega (arith, row_in.1)) in
      record {
        new_row = step x (y.0, own_value V c q) row;
        spelled = (h.0, child_kept x p n lo h.0 before (omega arith) front pointers h.1, row_kept row p (n + 1) h.0 mid child_in.1 (omega arith) back pointers h.2);
        same = joined p n (child_same K V E b c sound x levels p n lo h.0 (omega arith) before (omega arith) front pointers h.1) (row_same K V E b c sound row levels p (n + 1) h.0 mid (omega arith) child_in.1 (omega arith) back pointers h.2);
        means = sym (put_back (child_list x) (y ∷ row_list row) i 0 (own_value V c q) is);
        levels_kept = refl;
        first = omega arith;
        past = omega arith;
        wherein = inr (0, omega arith, here ∙ ap (λ (j : ℕ). p + value_at s j) number, refl);
      }
  rest_put x y row levels p n lo mid i (suc j) d before count room h is at below =
      let s = layout_of K V E in
      let f = follow s sound in
      let child_in = child_from K V E b x p n lo h.0 before h.1 in
      let r = below h.0 j child_in.1 h.2 at in
      let past = r.past in
      let first = r.first in
      let pointers = later made (p + len_at s) (p + inner_size s) (omega arith) (omega arith) in
      let front = earlier made lo h.0 (omega arith) (omega (arith, child_in.1)) in
      record {
        new_row = step x y r.new_row;
        spelled = (h.0, child_kept x p n lo h.0 before (omega arith) front pointers h.1, r.spelled);
        same = joined p n (child_same K V E b c sound x levels p n lo h.0 (omega arith) before (omega arith) front pointers h.1) r.same;
        means = ap (λ (l : List (K.Value × V.Value)). child_list x ++ y ∷ l) r.means ∙ sym (put_back (child_list x) (y ∷ row_list row) i (suc j) (own_value V c q) is);
        levels_kept = ap (λ (m : ℕ). max (child_height x) m) r.levels_kept;
        first = omega (arith, child_in.0);
        past = r.past;
        wherein = later_wherein y row r.new_row x p n mid r.wherein;
      }

  mutual
    pub tree_put : (t : Tree (K.Value × V.Value)) (levels lo hi p i : ℕ) → height t ≤ levels → hi ≤ length b → Spells K V E b lo hi p t → slice_get (list (tree_at (layout_of K V E) b levels p)) i ≡ Some e → TreePut levels lo hi p i t
    tree_put (leaf m) zero lo hi p i d close h is = absurd (omega arith)
    tree_put (inner row) zero lo hi p i d close h is = absurd (omega arith)
    tree_put (leaf m) (suc levels) lo hi p i d close h is =
        let s = layout_of K V E in
        let f = follow s sound in
        let node = h.0 in
        let start = node.start in
        let room = node.room in
        let at = run_place p (length m) 0 i (rw (eq-eqb (slice_index b p) 0 node.kind_byte, h.1) at is) in
        let index : i < E = omega (arith, at.0, h.2) in
        let end = value_room s i sound index in
        let kind = f.kind in
        let number : 0 + i ≡ i = omega arith in
        let here : q ≡ p + value_at s i = at.1 ∙ ap (λ (j : ℕ). p + value_at s j) number in
        let long = length-put_value m i (own_value V c q) in
        let put = entries_put K V E b c k v alone fits short q made new m p 0 i lo h.3 i (omega (arith, h.2)) at.0 (omega arith) (omega arith) here h.4 in
        let len = number_same b c (p + len_at s) (later made (p + len_at s) (p + len_at s + 4) (omega arith) (omega arith)) in
        let kind_byte = sym (made.before p (omega arith)) ∙ node.kind_byte in
        record {
          tree = leaf (put_value m i (own_value V c q));
          spelled = (
            record { start = node.start; room = node.room; aligned = node.aligned; kind_byte = kind_byte },
            sym len ∙ h.1 ∙ sym long,
            omega (arith, h.2),
            h.3,
            put.0,
          );
          same = leaf_same s b c levels p node.kind_byte kind_byte len;
          means = refl;
          size = refl;
          levels_kept = refl;
          is_own = put.1;
          first = omega arith;
          past = omega arith;
        }
    tree_put (inner row) (suc levels) lo hi p i d close h is =
        let s = layout_of K V E in
        let f = follow s sound in
        let node = h.0 in
        let start = node.start in
        let room = node.room in
        let kind = node.kind_byte in
        let at : slice_get (row_list (row_at s b (tree_at s b levels) p E 0)) i ≡ Some e = rw (ne_eqb (slice_index b p) 0 (omega arith)) at is in
        let r = row_put row levels p 0 lo h.2 i (omega arith) start (omega (arith, h.1)) (omega arith) h.3 (subst (λ (n : ℕ). slice_get (row_list (row_at s b (tree_at s b levels) p n 0)) i ≡ Some e) (sym h.1) at) in
        let own = own_put row p lo hi h.2 h.4 r.new_row close h.0 h.1 (row_from K V E b row p 0 lo h.2 start h.3).1 h.5 r.wherein in
        record {
          tree = inner r.new_row;
          spelled = (own.node, own.count, h.2, r.spelled, h.4, own.entries);
          same = inner_same s b c levels p node.kind_byte own.node.kind_byte (subst (λ (n : ℕ). row_at s b (tree_at s b levels) p n 0 ≡ row_at s c (tree_at s c levels) p n 0) h.1 r.same);
          means = r.means;
          size = refl;
          levels_kept = ap (λ (n : ℕ). 1 + n) r.levels_kept;
          is_own = own.is_own;
          first = r.first;
          past = omega (arith, r.past);
        }

    row_put : (row : Row (K.Value × V.Value)) (levels p n lo mid i : ℕ) → row_height row ≤ levels → lo ≤ p → n + length (row_entries row) ≤ E → p + inner_size (layout_of K V E) ≤ length b → SpellsRow K V E b p n lo mid row → slice_get (row_list (row_at (layout_of K V E) b (tree_at (layout_of K V E) b levels) p (length (row_entries row)) n)) i ≡ Some e → RowPut levels p n lo mid i row
    row_put (last x) levels p n lo mid i d before count room h is =
        let r = child_put x levels p n lo mid i d before (omega arith) room h is in
        let x_in = child_from K V E b x p n lo mid before h in
        record { new_row = last r.new_child; spelled = r.spelled; same = ap last r.same; means = r.means; levels_kept = r.levels_kept; first = r.first; past = omega (arith, r.past, x_in.1); wherein = inl (refl, r.past, r.is_own) }
    row_put (step x y row) levels p n lo mid i d before count room h is =
        let s = layout_of K V E in
        let f = follow s sound in
        let long = child_length x levels p n lo h.0 h.1 (omega arith) in
        let child_in = child_from K V E b x p n lo h.0 before h.1 in
        let row_in = row_from K V E b row p (n + 1) h.0 mid child_in.1 h.2 in
        elim (split_get (child_list (child_of s b (tree_at s b levels) (target_at b (p + pointer_at s n)))) ((p, n) ∷ row_list (row_at s b (tree_at s b levels) p (length (row_entries row)) (n + 1))) i e is) [
          | inl w ↦
              let r = child_put x levels p n lo h.0 i (omega arith) before (omega arith) room h.1 w.1 in
              let past = r.past in
              let pointers = later made (p + len_at s) (p + inner_size s) (omega (arith, child_in.1)) (omega arith) in
              let back = later made h.0 mid (omega arith) (omega (arith, row_in.1)) in
              record {
                new_row = step r.new_child y row;
                spelled = (h.0, r.spelled, row_kept row p (n + 1) h.0 mid child_in.1 (omega arith) back pointers h.2);
                same = joined p n r.same (row_same K V E b c sound row levels p (n + 1) h.0 mid (omega arith) child_in.1 (omega arith) back pointers h.2);
                means = ap (λ (l : List (K.Value × V.Value)). l ++ y ∷ row_list row) r.means ∙ sym (put_front (child_list x) (y ∷ row_list row) i (own_value V c q) (omega (arith, w.0)));
                levels_kept = ap (λ (m : ℕ). max m (row_height row)) r.levels_kept;
                first = r.first;
                past = omega (arith, child_in.1);
                wherein = inl (refl, omega (arith, row_in.0), r.is_own);
              }
          | inr w ↦ rest_put x y row levels p n lo mid i w.0 d before count room h (omega (arith, w.1)) w.2 (λ next j inside spelled at. row_put row levels p (n + 1) next mid j (omega arith) inside (omega arith) room spelled at)
        ]

    child_put : (x : Child (K.Value × V.Value)) (levels p n lo next i : ℕ) → child_height x ≤ levels → lo ≤ p → n ≤ E → p + inner_size (layout_of K V E) ≤ length b → SpellsChild K V E b p n lo next x → slice_get (child_list (child_of (layout_of K V E) b (tree_at (layout_of K V E) b levels) (target_at b (p + pointer_at (layout_of K V E) n)))) i ≡ Some e → ChildPut levels p n lo next i x
    child_put absent levels p n lo next i d before count room h is = absurd (cc (rw h.0 at is))
    child_put (child t) levels p n lo next i d before count room h is =
        let s = layout_of K V E in
        let f = follow s sound in
        let x_in = child_from K V E b (child t) p n lo next before h in
        let r = tree_put t levels lo p h.0 i d (omega arith) h.2 (rw h.1 at is) in
        let past = r.past in
        let leads = target_same b c (p + pointer_at s n) (later made (p + pointer_at s n) (p + pointer_at s n + 4) (omega (arith, h.3, x_in.1)) (omega arith)) in
        record {
          new_child = child r.tree;
          spelled = (h.0, sym leads ∙ h.1, r.spelled, h.3 ∙ ap (λ (n : ℕ). h.0 + n) (sym r.size));
          same = rw (← leads, h.1) (ap child r.same);
          means = r.means;
          levels_kept = r.levels_kept;
          is_own = r.is_own;
          first = r.first;
          past = omega (arith, h.3);
        }
