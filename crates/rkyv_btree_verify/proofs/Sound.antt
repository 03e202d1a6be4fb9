-- What the check accepts is spelled.
use Rattle.std.proofs.Common.{◌≡◌, inl, inr, ℕ, zero, suc, ◌+◌, ◌%◌, ◌≤◌, ◌||◌, Bool, true, false, if◌then◌else◌, List, [], ◌∷◌, length, length-append, Option, Some, None, Result, Ok, Err, ℤ, pos, negsuc, refl, sym, ap, add-one, ◌∙◌, subst, nat_eq, nat_lt, slice_index, arith}
use Rattle.std.proofs.lemmas.Bool.{eqb-true, ltb-false}
use Rattle.rkyv_btree_portable.specs.declared.refusal.Refusal.{Refusal}
use Rattle.rkyv_btree_portable.specs.declared.refusal.Refusal.TheVariants.{OutOfRange, Misaligned}
use Rattle.rkyv_btree_verify.specs.declared.verify.Checked.{Checked}
use Rattle.rkyv_btree_portable.specs.Bytes.{number_at, target_at}
use Rattle.rkyv_btree_verify.specs.mirror.Check.{◌>>=◌, node_place, check_entry, check_entries, check_leaf, check_target, check_pointer, check_pointers, check_inner, check_placed, check_node}
use Rattle.rkyv_btree_portable.specs.Refusing.{or_bad}
use Rattle.rkyv_btree_portable.specs.Kind.{Kind, Leaves, Decides}
use Rattle.rkyv_btree_format.specs.Layout.{NodeLayout, layout_of, key_at, value_at, align, len_at, leaf_size, inner_size, pointer_at}
use Rattle.rkyv_btree_portable.specs.laws.Choices.{chosen}
use Rattle.rkyv_btree_format.specs.Spells.{root_size, Entries, Spells, SpellsRow, SpellsChild}
use Rattle.rkyv_btree_shape.specs.Tree.{Tree, leaf, inner, Row, last, step, Child, absent, child, list, row_list, child_list, height, row_height, child_height, row_entries}
use Rattle.rkyv_btree_verify.proofs.Results.{bind_ok, or_bad_ok}

-- a node has a place
pub record Placed (s : NodeLayout) (p : ℤ) (lo hi start : ℕ) : Type 0 where
  pub leads : p ≡ pos start
  pub after : lo ≤ start
  pub room : start + leaf_size s ≤ hi
  pub aligned : start % align s ≡ 0

pub or_false : (a b : Bool) → (a || b) ≡ false → (a ≡ false) × (b ≡ false)
or_false true b e = absurd (cc e)
or_false false b e = (refl, e)

pub place_sound : (s : NodeLayout) (p : ℤ) (lo hi start : ℕ) → node_place s p lo hi ≡ Ok start → Placed s p lo hi start
place_sound s (negsuc n) lo hi start e = absurd (cc e)
place_sound s (pos p) lo hi start e =
    elim (chosen (nat_lt p lo || nat_lt hi (p + leaf_size s)) (Err (OutOfRange (pos p))) (if nat_eq (p % align s) 0 then Ok p else Err (Misaligned p)) (Ok start) e) [
      | inl h ↦ absurd (cc h.1)
      | inr h ↦ elim (chosen (nat_eq (p % align s) 0) (Ok p) (Err (Misaligned p)) (Ok start) h.1) [
        | inl k ↦
            let same : p ≡ start = cc k.1 in
            let tests = or_false (nat_lt p lo) (nat_lt hi (p + leaf_size s)) h.0 in
            record {
              leads = ap pos same;
              after = omega (arith, same, ltb-false p lo tests.0);
              room = omega (arith, same, ltb-false hi (p + leaf_size s) tests.1);
              aligned = ap (λ (x : ℕ). x % align s) (sym same) ∙ eqb-true (p % align s) 0 k.0;
            }
        | inr k ↦ absurd (cc k.1)
      ]
    ]

module _ (K V : Kind) (E : ℕ) (keys values : Leaves) (b : List ℕ) (ks : Decides K keys) (vs : Decides V values) where
  pub record FoundEntries (p n i lo lo2 : ℕ) : Type 0 where
    pub means : List (K.Value × V.Value)
    pub count : length means ≡ n
    pub entries : Entries K V E b p i lo lo2 means

  pub record FoundNode (levels : ℕ) (p : ℤ) (lo hi : ℕ) (c : Checked) : Type 0 where
    pub start : ℕ
    pub tree : Tree (K.Value × V.Value)
    pub leads : p ≡ pos start
    pub spelled : Spells K V E b lo hi start tree
    pub depth : height tree ≤ levels
    pub left : c.lo ≡ start + root_size (layout_of K V E) tree
    pub inside : c.lo ≤ hi
    pub total : c.entries ≡ length (list tree)

  pub record FoundChild (levels p i : ℕ) (so_far c : Checked) : Type 0 where
    pub child : Child (K.Value × V.Value)
    pub spelled : SpellsChild K V E b p i so_far.lo c.lo child
    pub depth : child_height child ≤ levels
    pub inside : so_far.lo ≤ p → c.lo ≤ p
    pub total : c.entries ≡ so_far.entries + length (child_list child)

  pub record FoundRow (levels p i : ℕ) (so_far c : Checked) (xs : List (K.Value × V.Value)) : Type 0 where
    pub row : Row (K.Value × V.Value)
    pub entries : row_entries row ≡ xs
    pub spelled : SpellsRow K V E b p i so_far.lo c.lo row
    pub depth : row_height row ≤ levels
    pub total : c.entries + length xs ≡ so_far.entries + length (row_list row)

  pub entries_sound : (p n i lo lo2 : ℕ) → lo ≤ p → check_entries (layout_of K V E) keys values b p n i lo ≡ Ok lo2 → FoundEntries p n i lo lo2
  unfolding check_entry
  entries_sound p zero i lo lo2 before e = record { means = []; count = refl; entries = cc e }
  entries_sound p (suc n) i lo lo2 before e =
      let s = layout_of K V E in
      let one = bind_ok (check_entry s keys values b p i lo) (λ next. check_entries s keys values b p n (i + 1) next) lo2 e in
      let parts = bind_ok (or_bad (p + key_at s i) (keys b lo p (p + key_at s i))) (λ mid. or_bad (p + value_at s i) (values b mid p (p + value_at s i))) one.0 one.1 in
      let k = ks.found b lo p (p + key_at s i) parts.0 before (omega arith) (or_bad_ok _ _ _ parts.1) in
      let after_key = ks.within b lo p (p + key_at s i) parts.0 k.0 k.1 in
      let v = vs.found b parts.0 p (p + value_at s i) one.0 after_key.1 (omega arith) (or_bad_ok _ _ _ parts.2) in
      let after_value = vs.within b parts.0 p (p + value_at s i) one.0 v.0 v.1 in
      let rest = entries_sound p n (i + 1) one.0 lo2 after_value.1 one.2 in
      record { means = (k.0, v.0) ∷ rest.means; count = ap suc rest.count; entries = (parts.0, one.0, k.1, v.1, rest.entries) }

  pub leaf_sound : (levels p lo hi : ℕ) (c : Checked) → Placed (layout_of K V E) (pos p) lo hi p → slice_index b p ≡ 0 → check_leaf (layout_of K V E) keys values b p lo ≡ Ok c → FoundNode (suc levels) (pos p) lo hi c
  unfolding check_leaf
  leaf_sound levels p lo hi c placed kind e =
      let s = layout_of K V E in
      let n = number_at b (p + len_at s) 4 in
      elim (chosen (nat_lt E n) _ _ (Ok c) e) [
        | inl h ↦ absurd (cc h.1)
        | inr h ↦
            let one = bind_ok (check_entries s keys values b p n 0 lo) (λ _. Ok (record { lo = p + leaf_size s; entries = n })) c h.1 in
            let m = entries_sound p n 0 lo one.0 placed.after one.1 in
            let same : record { lo = p + leaf_size s; entries = n } ≡ c = cc one.2 in
            record {
              start = p;
              tree = leaf m.means;
              leads = refl;
              spelled = (record { start = placed.after; room = placed.room; aligned = placed.aligned; kind_byte = kind }, sym m.count, omega (arith, m.count, ltb-false E n h.0), one.0, m.entries);
              depth = omega arith;
              left = sym (ap (λ (k : Checked). k.lo) same);
              inside = omega (arith, placed.room, ap (λ (k : Checked). k.lo) same);
              total = sym (ap (λ (k : Checked). k.entries) same) ∙ sym m.count;
            }
      ]

  -- where the check of a node on the next level finds trees, the check of an inner node does
  module _ (node : ℤ → ℕ → ℕ → Result Checked Refusal) (levels : ℕ) (sound : (p : ℤ) (lo hi : ℕ) (c : Checked) → node p lo hi ≡ Ok c → FoundNode levels p lo hi c) where
    target_sound : (p i : ℕ) (so_far c : Checked) (o : Option ℤ) → target_at b (p + pointer_at (layout_of K V E) i) ≡ o → check_target (layout_of K V E) keys values b node p so_far o ≡ Ok c → FoundChild levels p i so_far c
    target_sound p i so_far c None t e =
        let same : so_far ≡ c = cc e in
        record { child = absent; spelled = (t, sym (ap (λ (k : Checked). k.lo) same)); depth = omega arith; inside = λ h. omega (arith, ap (λ (k : Checked). k.lo) same); total = omega (arith, ap (λ (k : Checked). k.entries) same) }
    target_sound p i so_far c (Some q) t e =
        let one = bind_ok (node q so_far.lo p) (λ k. Ok (record { lo = k.lo; entries = so_far.entries + k.entries })) c e in
        let found = sound q so_far.lo p one.0 one.1 in
        let same : record { lo = one.0.lo; entries = so_far.entries + one.0.entries } ≡ c = cc one.2 in
        record {
          child = child found.tree;
          spelled = (found.start, t ∙ ap Some found.leads, found.spelled, sym (ap (λ (k : Checked). k.lo) same) ∙ found.left);
          depth = found.depth;
          inside = λ h. omega (arith, found.inside, ap (λ (k : Checked). k.lo) same);
          total = sym (ap (λ (k : Checked). k.entries) same) ∙ ap (λ (x : ℕ). so_far.entries + x) found.total;
        }

    pub pointer_sound : (p i : ℕ) (so_far c : Checked) → check_pointer (layout_of K V E) keys values b node p i so_far ≡ Ok c → FoundChild levels p i so_far c
    unfolding check_pointer
    pointer_sound p i so_far c e = target_sound p i so_far c (target_at b (p + pointer_at (layout_of K V E) i)) refl e

    pub pointers_sound : (p n i : ℕ) (so_far c : Checked) (xs : List (K.Value × V.Value)) → length xs ≡ n → check_pointers (layout_of K V E) keys values b node p (suc n) i so_far ≡ Ok c → FoundRow levels p i so_far c xs
    pointers_sound p zero i so_far c (x ∷ xs) count e = absurd (cc count)
    pointers_sound p zero i so_far c [] count e =
        let one = bind_ok (check_pointer (layout_of K V E) keys values b node p i so_far) (λ next. Ok next) c e in
        let same : one.0 ≡ c = cc one.2 in
        let found = pointer_sound p i so_far c (one.1 ∙ ap Ok same) in
        record { row = last found.child; entries = refl; spelled = found.spelled; depth = found.depth; total = omega (arith, found.total) }
    pointers_sound p (suc n) i so_far c [] count e = absurd (cc count)
    pointers_sound p (suc n) i so_far c (x ∷ xs) count e =
        let one = bind_ok (check_pointer (layout_of K V E) keys values b node p i so_far) (λ next. check_pointers (layout_of K V E) keys values b node p (suc n) (i + 1) next) c e in
        let found = pointer_sound p i so_far one.0 one.1 in
        let rest = pointers_sound p n (i + 1) one.0 c xs (cc count) one.2 in
        record {
          row = step found.child x rest.row;
          entries = ap (λ (m : List (K.Value × V.Value)). x ∷ m) rest.entries;
          spelled = (one.0.lo, found.spelled, rest.spelled);
          depth = omega (arith, found.depth, rest.depth);
          total = omega (arith, found.total, rest.total, length-append (child_list found.child) (x ∷ row_list rest.row));
        }

    pub pointers_inside : (p n i : ℕ) (so_far c : Checked) → so_far.lo ≤ p → check_pointers (layout_of K V E) keys values b node p n i so_far ≡ Ok c → c.lo ≤ p
    pointers_inside p zero i so_far c h e = let same : so_far ≡ c = cc e in omega (arith, ap (λ (k : Checked). k.lo) same)
    pointers_inside p (suc n) i so_far c h e =
        let one = bind_ok (check_pointer (layout_of K V E) keys values b node p i so_far) (λ next. check_pointers (layout_of K V E) keys values b node p n (i + 1) next) c e in
        let found = pointer_sound p i so_far one.0 one.1 in
        pointers_inside p n (i + 1) one.0 c (found.inside h) one.2

    pub inner_sound : (p lo hi : ℕ) (c : Checked) → Placed (layout_of K V E) (pos p) lo hi p → slice_index b p ≡ 1 → p + inner_size (layout_of K V E) ≤ hi → check_inner (layout_of K V E) keys values b node p lo ≡ Ok c → FoundNode (suc levels) (pos p) lo hi c
    unfolding check_inner
    inner_sound p lo hi c placed kind room e =
        let s = layout_of K V E in
        let one = bind_ok (check_pointers s keys values b node p (E + 1) 0 (record { lo = lo; entries = 0 })) (λ k. check_entries s keys values b p E 0 k.lo >>= λ _. Ok (record { lo = p + inner_size s; entries = k.entries + E })) c e in
        let two = bind_ok (check_entries s keys values b p E 0 one.0.lo) (λ _. Ok (record { lo = p + inner_size s; entries = one.0.entries + E })) c one.2 in
        let m = entries_sound p E 0 one.0.lo two.0 (pointers_inside p (E + 1) 0 (record { lo = lo; entries = 0 }) one.0 placed.after one.1) two.1 in
        let row = pointers_sound p E 0 (record { lo = lo; entries = 0 }) one.0 m.means m.count (subst (λ (k : ℕ). check_pointers s keys values b node p k 0 (record { lo = lo; entries = 0 }) ≡ Ok one.0) (add-one E) one.1) in
        let same : record { lo = p + inner_size s; entries = one.0.entries + E } ≡ c = cc two.2 in
        record {
          start = p;
          tree = inner row.row;
          leads = refl;
          spelled = (record { start = placed.after; room = room; aligned = placed.aligned; kind_byte = kind }, ap length row.entries ∙ m.count, one.0.lo, row.spelled, two.0, rw row.entries m.entries);
          depth = omega (arith, row.depth);
          left = sym (ap (λ (k : Checked). k.lo) same);
          inside = omega (arith, room, ap (λ (k : Checked). k.lo) same);
          total = omega (arith, row.total, m.count, ap (λ (k : Checked). k.entries) same);
        }

    pub placed_sound : (p lo hi : ℕ) (c : Checked) → Placed (layout_of K V E) (pos p) lo hi p → check_placed (layout_of K V E) keys values b node p lo hi ≡ Ok c → FoundNode (suc levels) (pos p) lo hi c
    unfolding check_placed
    placed_sound p lo hi c placed e =
        let s = layout_of K V E in
        elim (chosen (nat_eq (slice_index b p) 0) _ _ (Ok c) e) [
          | inl h ↦ leaf_sound levels p lo hi c placed (eqb-true (slice_index b p) 0 h.0) h.1
          | inr h ↦ elim (chosen (nat_eq (slice_index b p) 1) _ _ (Ok c) h.1) [
            | inl k ↦ elim (chosen (nat_lt hi (p + inner_size s)) _ _ (Ok c) k.1) [
              | inl o ↦ absurd (cc o.1)
              | inr o ↦ inner_sound p lo hi c placed (eqb-true (slice_index b p) 1 k.0) (ltb-false hi (p + inner_size s) o.0) o.1
            ]
            | inr k ↦ absurd (cc k.1)
          ]
        ]

  pub node_sound : (levels : ℕ) (p : ℤ) (lo hi : ℕ) (c : Checked) → check_node (layout_of K V E) keys values b levels p lo hi ≡ Ok c → FoundNode levels p lo hi c
  node_sound zero p lo hi c e = absurd (cc e)
  node_sound (suc levels) p lo hi c e =
      let s = layout_of K V E in
      let one = bind_ok (node_place s p lo hi) (λ start. check_placed s keys values b (check_node s keys values b levels) start lo hi) c e in
      let placed = place_sound s p lo hi one.0 one.1 in
      let found = placed_sound (check_node s keys values b levels) levels (node_sound levels) one.0 lo hi c (record { leads = refl; after = placed.after; room = placed.room; aligned = placed.aligned }) one.2 in
      record { start = found.start; tree = found.tree; leads = placed.leads ∙ found.leads; spelled = found.spelled; depth = found.depth; left = found.left; inside = found.inside; total = found.total }
