-- How many bytes the tree of entries takes, as it is written from an aligned position on.
use Rattle.std.proofs.Common.{◌≡◌, ℕ, zero, suc, ◌+◌, ◌-◌, ◌*◌, ◌≤◌, ◌<◌, ◌∙◌, List, [], ◌∷◌, ◌++◌, length, Option, sym, ap, subst, arith}
use Rattle.std.specs.Int.{div_ceil}
use Rattle.std.proofs.lemmas.List.{length-append}
use Rattle.rkyv_btree_format.specs.Layout.{NodeLayout, align, leaf_size, inner_size}
use Rattle.rkyv_btree_portable.specs.InPlace.{OwnBytes}
use Rattle.rkyv_btree_portable.specs.Rounding.{round_up}
use Rattle.rkyv_btree_portable.specs.Standing.{IsAligned}
use Rattle.rkyv_btree_portable.specs.laws.Rounding.{le-round_up, round_up-lt, round_up-aligned, aligned_add}
use Rattle.rkyv_btree_portable.proofs.Rounds.{round_up-multiple}
use Rattle.rkyv_btree_shape.specs.Plan.{plan, planned_alone}
use Rattle.rkyv_btree_shape.specs.Tree.{Tree, leaf, inner, Row, last, step, Child, absent, child, list, row_list, child_list, row_entries, nodes, row_nodes, child_nodes}
use Rattle.rkyv_btree_shape.specs.Weight.{inners, weight, row_weight, child_weight}
use Rattle.rkyv_btree_shape.proofs.Smallest.{needs_room, left_complete_is_smallest, plan_is_left_complete}
use Rattle.rkyv_btree_writer.specs.Archiving.{Archival}
use Rattle.rkyv_btree_writer.specs.Writing.{Writing, Write, Wrote, appended, position}
use Rattle.rkyv_btree_writing_laws.specs.Entries.{AreSerialised}
use Rattle.rkyv_btree_writing_laws.specs.Written.{NodeWritten, TreeWritten, RowWritten, ChildWritten}
use Rattle.rkyv_btree_writing_laws.proofs.TreeShort.{alone_list}

pub wrote_position : (s : Writing) (writes : List Write) (t : Writing) → Wrote s writes t → position t ≡ position s + length (appended writes)
wrote_position s writes t w = omega (arith, w.done.base, ap length w.done.contents, length-append s.contents (appended writes))

-- from an aligned state so many nodes were written, of so many bytes together, with so many bytes of texts: no more zeros came
-- between them than before the nodes that have texts
pub record Took (align : ℕ) (from : Writing) (count size texts : ℕ) (to : Writing) : Type 0 where
  pub zeros : ℕ
  pub with_texts : ℕ
  pub few : with_texts ≤ count
  pub some : with_texts ≤ texts
  pub short : zeros ≤ with_texts * (align - 1)
  pub is : position to ≡ position from + texts + size + zeros
  pub aligned : IsAligned align (position to)

module _ (a : ℕ) where
  pub took_none : (from to : Writing) → IsAligned a (position from) → to ≡ from → Took a from 0 0 0 to
  took_none from to aligned same = record {
    zeros = 0;
    with_texts = 0;
    few = omega arith;
    some = omega arith;
    short = omega arith;
    is = omega (arith, ap position same);
    aligned = subst (λ (w : Writing). IsAligned a (position w)) (sym same) aligned;
  }

  sum_short : (x y m n k : ℕ) → x ≤ m * k → y ≤ n * k → x + y ≤ (m + n) * k
  sum_short x y m n k h g = omega arith

  pub took_both : (from mid to : Writing) (c l b c2 l2 b2 : ℕ) → Took a from c l b mid → Took a mid c2 l2 b2 to → Took a from (c + c2) (l + l2) (b + b2) to
  took_both from mid to c l b c2 l2 b2 h g = record {
    zeros = h.zeros + g.zeros;
    with_texts = h.with_texts + g.with_texts;
    few = omega (arith, h.few, g.few);
    some = omega (arith, h.some, g.some);
    short = sum_short h.zeros g.zeros h.with_texts g.with_texts (a - 1) h.short g.short;
    is = omega (arith, h.is, g.is);
    aligned = g.aligned;
  }

div_ceil-zero : (n : ℕ) → 1 ≤ n → div_ceil 0 n ≡ 0
div_ceil-zero n h = omega arith

-- a node of a size, at the next aligned position after its texts
node_took : (a size texts : ℕ) (from mid to : Writing) (root : ℕ) → 0 < a → IsAligned a size → IsAligned a (position from) → position mid ≡ position from + texts → root ≡ round_up (position mid) a → position to ≡ root + size → Took a from 1 size texts to
node_took a size zero from mid to root some whole aligned there place end =
    let same : root ≡ position from = place ∙ (ap (λ n. round_up n a) (omega (arith, there)) ∙ round_up-multiple (position from) a some aligned) in
    record {
      zeros = 0;
      with_texts = 0;
      few = omega arith;
      some = omega arith;
      short = omega arith;
      is = omega (arith, end, same);
      aligned = subst (IsAligned a) (sym end) (aligned_add a root size (subst (IsAligned a) (sym same) aligned) whole);
    }
node_took a size (suc texts) from mid to root some whole aligned there place end =
    let up = le-round_up (position mid) a some in
    let below = round_up-lt (position mid) a some in
    record {
      zeros = root - position mid;
      with_texts = 1;
      few = omega arith;
      some = omega arith;
      short = omega (arith, place, up, below);
      is = omega (arith, end, place, up, there);
      aligned = subst (IsAligned a) (sym end) (aligned_add a root size (subst (IsAligned a) (sym place) (round_up-aligned (position mid) a)) whole);
    }

module _ {M N R S : Type 0} (KA : Archival M R) (VA : Archival N S) (key_texts : M → ℕ) (value_texts : N → ℕ)
    (key : (x : M) (from : ℕ) (writes : List Write) (r : R) → KA.Writes x from writes r → length (appended writes) ≡ key_texts x)
    (value : (x : N) (from : ℕ) (writes : List Write) (r : S) → VA.Writes x from writes r → length (appended writes) ≡ value_texts x) where
  -- how many bytes of texts entries have
  abbrev pub texts_of : List (M × N) → ℕ
  texts_of [] = 0
  texts_of (x ∷ xs) = key_texts x.0 + value_texts x.1 + texts_of xs

  texts_append : (xs ys : List (M × N)) → texts_of (xs ++ ys) ≡ texts_of xs + texts_of ys
  texts_append [] ys = omega arith
  texts_append (x ∷ xs) ys = omega (arith, texts_append xs ys)

  serialised : (from : Writing) (xs : List (M × N)) (rs : List R) (ss : List S) (to : Writing) → AreSerialised KA VA from xs rs ss to → position to ≡ position from + texts_of xs
  serialised from [] rs ss to h = omega (arith, ap position h.0)
  serialised from (x ∷ xs) rs ss to h =
      omega (
        arith,
        wrote_position from h.6.writes h.4 h.6.wrote,
        key x.0 (position from) h.6.writes h.0 h.6.allowed,
        wrote_position h.4 h.7.writes h.5 h.7.wrote,
        value x.1 (position h.4) h.7.writes h.1 h.7.allowed,
        serialised h.5 xs h.2 h.3 to h.8,
      )

  module _ (s : NodeLayout) (some : 0 < align s) (leaves : IsAligned (align s) (leaf_size s)) (inner_nodes : IsAligned (align s) (inner_size s)) where
    written_took : (image : ℕ → List OwnBytes → List Write) (size : ℕ) (from : Writing) (xs : List (M × N)) (root : ℕ) (to : Writing) → IsAligned (align s) size → IsAligned (align s) (position from) → NodeWritten s KA VA image size from xs root to → Took (align s) from 1 size (texts_of xs) to
    written_took image size from xs root to whole aligned h =
        node_took (align s) size (texts_of xs) from h.mid to root some whole aligned (serialised from xs h.entries.keys h.entries.values h.mid h.entries.serialised) h.entries.place h.end

    -- the texts of a row's children
    abbrev below : Row (M × N) → ℕ
    below (last c) = texts_of (child_list c)
    below (step c x row) = texts_of (child_list c) + below row

    row_texts : (row : Row (M × N)) → texts_of (row_list row) ≡ below row + texts_of (row_entries row)
    row_texts (last c) = omega arith
    row_texts (step c x row) = omega (arith, texts_append (child_list c) (x ∷ row_list row), row_texts row)

    mutual
      tree_took : (from : Writing) (t : Tree (M × N)) (root : ℕ) (to : Writing) → IsAligned (align s) (position from) → TreeWritten s KA VA from t root to → Took (align s) from (nodes t) (weight (leaf_size s) (inner_size s) t) (texts_of (list t)) to
      tree_took from (leaf xs) root to aligned h = written_took _ (leaf_size s) from xs root to leaves aligned h
      tree_took from (inner row) root to aligned h =
          let children = row_took from row h.0 h.1 aligned h.2 in
          let own = written_took _ (inner_size s) h.1 (row_entries row) root to inner_nodes children.aligned h.3 in
          let both = took_both (align s) from h.1 to (row_nodes row) (row_weight (leaf_size s) (inner_size s) row) (below row) 1 (inner_size s) (texts_of (row_entries row)) children own in
          record {
            zeros = both.zeros;
            with_texts = both.with_texts;
            few = omega (arith, both.few);
            some = omega (arith, both.some, row_texts row);
            short = both.short;
            is = omega (arith, both.is, row_texts row);
            aligned = both.aligned;
          }

      row_took : (from : Writing) (row : Row (M × N)) (roots : List (Option ℕ)) (to : Writing) → IsAligned (align s) (position from) → RowWritten s KA VA from row roots to → Took (align s) from (row_nodes row) (row_weight (leaf_size s) (inner_size s) row) (below row) to
      row_took from (last c) roots to aligned h = child_took from c h.0 to aligned h.1
      row_took from (step c x row) roots to aligned h =
          let first = child_took from c h.0 h.2 aligned h.3 in
          took_both (align s) from h.2 to (child_nodes c) (child_weight (leaf_size s) (inner_size s) c) (texts_of (child_list c)) (row_nodes row) (row_weight (leaf_size s) (inner_size s) row) (below row) first (row_took h.2 row h.1 to first.aligned h.4)

      child_took : (from : Writing) (c : Child (M × N)) (root : Option ℕ) (to : Writing) → IsAligned (align s) (position from) → ChildWritten s KA VA from c root to → Took (align s) from (child_nodes c) (child_weight (leaf_size s) (inner_size s) c) (texts_of (child_list c)) to
      child_took from absent root to aligned h = took_none (align s) from to aligned h.1
      child_took from (child t) root to aligned h = tree_took from t h.0 to aligned h.1

    -- the nodes of a planned tree, and its inner ones
    planned_nodes : (E : ℕ) → 1 ≤ E → (xs : List (M × N)) → child_nodes (planned_alone E xs) ≡ div_ceil (length xs) E
    planned_nodes E e [] = sym (div_ceil-zero E e)
    planned_nodes E e (x ∷ xs) =
        let p = plan_is_left_complete (M × N) E e (x ∷ xs) (omega arith) in
        (left_complete_is_smallest (M × N) E e (plan E (x ∷ xs)) p.0).nodes_are ∙ ap (λ (ys : List (M × N)). div_ceil (length ys) E) p.1

    abbrev inners_for : ℕ → ℕ → ℕ
    inners_for E n = div_ceil (div_ceil n E - 1) (E + 1)

    planned_weight : (E : ℕ) → 1 ≤ E → (l i : ℕ) (xs : List (M × N)) → child_weight l i (planned_alone E xs) ≡ inners_for E (length xs) * i + (div_ceil (length xs) E - inners_for E (length xs)) * l
    planned_weight E e l i [] = rw (div_ceil-zero E e) rw (div_ceil-zero (E + 1) (omega arith)) (omega arith)
    planned_weight E e l i (x ∷ xs) =
        let p = plan_is_left_complete (M × N) E e (x ∷ xs) (omega arith) in
        let t = plan E (x ∷ xs) in
        let small = left_complete_is_smallest (M × N) E e t p.0 in
        let n : nodes t ≡ div_ceil (length (x ∷ xs)) E = small.nodes_are ∙ ap (λ (ys : List (M × N)). div_ceil (length ys) E) p.1 in
        let m : inners t ≡ inners_for E (length (x ∷ xs)) = small.inners_are ∙ ap (λ k. div_ceil (k - 1) (E + 1)) n in
        (needs_room (M × N) E e t p.0.has_shape).weight_is l i ∙ (ap (λ k. k * i + (nodes t - k) * l) m ∙ ap (λ k. inners_for E (length (x ∷ xs)) * i + (k - inners_for E (length (x ∷ xs))) * l) n)

    -- what the tree of entries takes
    pub built_took : 1 ≤ s.E → (from : Writing) (xs : List (M × N)) (root : Option ℕ) (to : Writing) → IsAligned (align s) (position from) → ChildWritten s KA VA from (planned_alone s.E xs) root to
        → Took (align s) from (div_ceil (length xs) s.E) (inners_for s.E (length xs) * inner_size s + (div_ceil (length xs) s.E - inners_for s.E (length xs)) * leaf_size s) (texts_of xs) to
    built_took e from xs root to aligned h =
        let took = child_took from (planned_alone s.E xs) root to aligned h in
        let all = alone_list s.E e xs in
        record {
          zeros = took.zeros;
          with_texts = took.with_texts;
          few = omega (arith, took.few, planned_nodes s.E e xs);
          some = omega (arith, took.some, ap texts_of all);
          short = took.short;
          is = omega (arith, took.is, ap texts_of all, planned_weight s.E e (leaf_size s) (inner_size s) xs);
          aligned = took.aligned;
        }
