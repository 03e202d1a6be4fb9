-- Up to 150 million entries have an archive, whatever they are: it ends before position 2 ^ 31, so each pointer in it reaches.
use Rattle.std.proofs.Common.{◌≡◌, ℕ, ◌+◌, ◌-◌, ◌*◌, ◌<◌, ◌≤◌, ◌∙◌, ◌&&◌, ◌||◌, nat_eq, Bool, true, false, if◌then◌else◌, List, [], ◌∷◌, ◌++◌, length, map, Option, Some, None, unwrap_or, refl, sym, ap, subst, arith}
use Rattle.std.proofs.lemmas.Bool.Decides.{nat_tests}
use Rattle.std.proofs.lemmas.Grind.{div_ceil_times}
use Rattle.std.proofs.lemmas.List.{length-append, length-map}
use Rattle.rkyv_btree_writing_laws.specs.Image.{inner_write, inner_image, tree_image, row_image, child_image, tree_end, row_end, child_end, tree_root, child_root, row_roots, pointers_reach, root_bytes, root_reaches, leaf_bytes}
use Rattle.rkyv_btree_portable.specs.InPlace.{AreOwn, OwnBytes}
use Rattle.rkyv_btree_format.specs.Layout.{align, inner_size, leaf_size, len_at, node_size, values_at, keys_at, node_align}
use Rattle.rkyv_btree_shape.specs.Mapped.{mapped, mapped_row, mapped_child}
use Rattle.rkyv_btree_writer.specs.Padding.{padding, zeros_write}
use Rattle.rkyv_btree_shape.specs.Plan.{plan, planned_alone}
use Rattle.rkyv_btree_writer.specs.Pointers.{offset_fits}
use Rattle.rkyv_btree_portable.specs.Rounding.{round_up}
use Rattle.rkyv_btree_portable.specs.Scalars.{u32_kind}
use Rattle.rkyv_btree_shape.specs.Tree.{Tree, leaf, inner, Row, last, step, Child, absent, child, row_entries, HasShape, RowHasShape, ChildHasShape, list, nodes, row_nodes, child_nodes}
use Rattle.rkyv_btree_writer.specs.Writing.{Write, AllReach, appended}
use Rattle.rkyv_btree_portable.specs.laws.Rounding.{le-round_up, round_up-lt}
use Rattle.rkyv_btree_portable.specs.laws.Scalars.{u32_laws}
use Rattle.rkyv_btree_shape.proofs.Mapped.{alone_mapped, entries_mapped}
use Rattle.rkyv_btree_shape.proofs.Smallest.{left_complete_is_smallest, plan_is_left_complete}
use Rattle.rkyv_btree_writer.proofs.WriteRuns.{AllReach-both, appended-append}
use Rattle.rkyv_btree_writing_laws.proofs.Accepting.{root_length}
use Rattle.rkyv_btree_writing_laws.proofs.Leaves.{leaf_bytes_length, length-padding}
use Rattle.rkyv_btree_writing_laws.proofs.NodesHeld.{inner_length, length-roots}
use Rattle.btreearc_lines.specs.Headings.{prefix}
use Rattle.btreearc_lines.specs.declared.heading.Heading.{Heading}
use Rattle.btreearc_commands.specs.Archive.{own_bytes, five, start, root_node, tree_writes, root_writes, HasArchive}
use Rattle.btreearc_commands.specs.Opening.{numbers_name}
use Rattle.btreearc_commands.proofs.Starts.{start_small}
use Rattle.btreearc_commands.proofs.Built.{alone_shape, numbers_fit, own_is}

-- The sizes of nodes of five entries of numbers.

aligned : align five ≡ 4
unfolding align node_align
aligned = refl

leaf_is : leaf_size five ≡ 48
unfolding leaf_size len_at node_size values_at keys_at align node_align round_up
leaf_is = refl

inner_is : inner_size five ≡ 68
unfolding inner_size len_at node_size values_at keys_at align node_align round_up
inner_is = refl

len_is : len_at five ≡ 44
unfolding len_at node_size values_at keys_at node_align round_up
len_is = refl

abbrev start_of : ℕ → ℕ
start_of at = round_up at (align five)

-- a node begins at its position or at most 3 bytes after it
positive : 0 < align five
positive = omega (arith, aligned)

begins : (at : ℕ) → at ≤ start_of at
begins at = le-round_up at (align five) positive

begins_soon : (at : ℕ) → start_of at ≤ at + 3
begins_soon at = omega (arith, round_up-lt at (align five) positive, aligned)

-- Where trees end: after 71 bytes a node at most.

mutual
  tree_ends : (at : ℕ) (t : Tree OwnBytes) → tree_end five at t ≤ at + 71 * nodes t
  tree_ends at (leaf xs) = omega (arith, begins_soon at, leaf_is)
  tree_ends at (inner row) = omega (arith, begins_soon (row_end five at row), inner_is, row_ends at row)

  row_ends : (at : ℕ) (row : Row OwnBytes) → row_end five at row ≤ at + 71 * row_nodes row
  row_ends at (last c) = child_ends at c
  row_ends at (step c x row) = omega (arith, child_ends at c, row_ends (child_end five at c) row)

  child_ends : (at : ℕ) (c : Child OwnBytes) → child_end five at c ≤ at + 71 * child_nodes c
  child_ends at absent = omega arith
  child_ends at (child t) = tree_ends at t

-- and not before they begin
mutual
  tree_after : (at : ℕ) (t : Tree OwnBytes) → at ≤ tree_end five at t
  tree_after at (leaf xs) = omega (arith, begins at)
  tree_after at (inner row) = omega (arith, begins (row_end five at row), row_after at row)

  row_after : (at : ℕ) (row : Row OwnBytes) → at ≤ row_end five at row
  row_after at (last c) = child_after at c
  row_after at (step c x row) = omega (arith, child_after at c, row_after (child_end five at c) row)

  child_after : (at : ℕ) (c : Child OwnBytes) → at ≤ child_end five at c
  child_after at absent = omega arith
  child_after at (child t) = tree_after at t

-- Pointers reach where all positions are below 2 ^ 31.

-- each node that there is begins at this position at most
abbrev AllWithin : ℕ → List (Option ℕ) → Type 0
AllWithin limit [] = Unit {0}
AllWithin limit (None ∷ roots) = AllWithin limit roots
AllWithin limit (Some root ∷ roots) = (root ≤ limit) × AllWithin limit roots

root_within : (at : ℕ) (t : Tree OwnBytes) → tree_root five at t ≤ tree_end five at t
root_within at (leaf xs) = omega arith
root_within at (inner row) = omega arith

first_within : (limit at : ℕ) (c : Child OwnBytes) (roots : List (Option ℕ)) → child_end five at c ≤ limit → AllWithin limit roots → AllWithin limit (child_root five at c ∷ roots)
first_within limit at absent roots h rest = rest
first_within limit at (child t) roots h rest = (omega (arith, root_within at t, h), rest)

roots_within : (limit at : ℕ) (row : Row OwnBytes) → row_end five at row ≤ limit → AllWithin limit (row_roots five at row)
roots_within limit at (last c) h = first_within limit at c [] h tt
roots_within limit at (step c x row) h =
    first_within limit at c (row_roots five (child_end five at c) row) (omega (arith, h, row_after (child_end five at c) row)) (roots_within limit (child_end five at c) row h)

offset_near : (at root : ℕ) → at ≤ 2147483648 → root ≤ 2147483647 → offset_fits at root ≡ true
offset_near at root h r = grind (arith, nat_tests)

one_reaches : (at root : ℕ) (more : Bool) → at ≤ 2147483648 → root ≤ 2147483647 → more ≡ true → (offset_fits at root && more) ≡ true
one_reaches at root more h r m = rw (offset_near at root h r, m) refl

all_reach : (at : ℕ) (roots : List (Option ℕ)) → at + 4 * length roots ≤ 2147483648 → AllWithin 2147483647 roots → pointers_reach at roots ≡ true
all_reach at [] h w = refl
all_reach at (None ∷ roots) h w = all_reach (at + 4) roots (omega (arith, h)) w
all_reach at (Some root ∷ roots) h w = one_reaches at root (pointers_reach (at + 4) roots) (omega (arith, h)) w.0 (all_reach (at + 4) roots (omega (arith, h)) w.1)

padding_reaches : (a at : ℕ) → AllReach (padding a at)
padding_reaches a at = go (nat_eq (round_up at a) at)
  where
    go : (b : Bool) → AllReach (if b then [] else zeros_write (round_up at a - at) ∷ [])
    go true = tt
    go false = (refl, tt)

node_reaches : (a at : ℕ) (w : Write) → w.reaches ≡ true → AllReach (padding a at ++ w ∷ [])
node_reaches a at w h = AllReach-both (padding a at) (w ∷ []) (padding_reaches a at) (h, tt)

node_length : (a at : ℕ) (w : Write) → 0 < a → length (appended (padding a at ++ w ∷ [])) + at ≡ round_up at a + length w.bytes
node_length a at w h = omega (
  arith,
  ap length (appended-append (padding a at) (w ∷ [])),
  length-append (appended (padding a at)) (w.bytes ++ []),
  length-append w.bytes [],
  length-padding a at h,
)

inner_reaches : (at : ℕ) (row : Row OwnBytes) → length (row_entries row) ≡ 5 → tree_end five at (inner row) ≤ 2147483647 → pointers_reach (start_of (row_end five at row) + len_at five) (row_roots five at row) ≡ true
inner_reaches at row full h =
    all_reach (start_of (row_end five at row) + len_at five) (row_roots five at row)
    (omega (arith, length-roots five at row, full, h, len_is, inner_is))
    (roots_within 2147483647 at row (omega (arith, h, begins (row_end five at row))))

mutual
  tree_reaches : (at : ℕ) (t : Tree OwnBytes) → HasShape 5 t → tree_end five at t ≤ 2147483647 → AllReach (tree_image five at t)
  tree_reaches at (leaf xs) s h = node_reaches (align five) at (record { bytes = leaf_bytes five xs; reaches = true }) refl
  tree_reaches at (inner row) s h =
      AllReach-both (row_image five at row) (inner_image five (row_end five at row) (row_entries row) (row_roots five at row))
      (row_reaches at row s.1 (omega (arith, h, begins (row_end five at row))))
      (node_reaches (align five) (row_end five at row) (inner_write five (start_of (row_end five at row)) (row_entries row) (row_roots five at row)) (inner_reaches at row s.0 h))

  row_reaches : (at : ℕ) (row : Row OwnBytes) → RowHasShape 5 row → row_end five at row ≤ 2147483647 → AllReach (row_image five at row)
  row_reaches at (last c) s h = child_reaches at c s h
  row_reaches at (step c x row) s h =
      AllReach-both (child_image five at c) (row_image five (child_end five at c) row)
      (child_reaches at c s.0 (omega (arith, h, row_after (child_end five at c) row)))
      (row_reaches (child_end five at c) row s.1 h)

  child_reaches : (at : ℕ) (c : Child OwnBytes) → ChildHasShape 5 c → child_end five at c ≤ 2147483647 → AllReach (child_image five at c)
  child_reaches at absent s h = tt
  child_reaches at (child t) s h = tree_reaches at t s h

-- The bytes of a tree's writes end where the tree ends.

all_own : (xs : List (ℕ × ℕ)) → AreOwn u32_kind u32_kind (map own_bytes xs)
all_own [] = tt
all_own (x ∷ xs) = ((own_is x).0, (own_is x).1, all_own xs)

leaf_bytes_are : (xs : List (ℕ × ℕ)) → length xs ≤ 5 → length (leaf_bytes five (map own_bytes xs)) ≡ leaf_size five
leaf_bytes_are xs h = leaf_bytes_length u32_kind u32_kind 5 u32_laws u32_laws numbers_fit (map own_bytes xs) (all_own xs) (omega (arith, length-map xs own_bytes, h))

inner_bytes_are : (at : ℕ) (row : Row (ℕ × ℕ)) (start : ℕ) → length (row_entries row) ≡ 5 →
    length (inner_write five start (row_entries (mapped_row own_bytes row)) (row_roots five at (mapped_row own_bytes row))).bytes ≡ inner_size five
inner_bytes_are at row start full =
    let owns = row_entries (mapped_row own_bytes row) in
    let same : owns ≡ map own_bytes (row_entries row) = entries_mapped own_bytes row in
    let filled : length owns ≡ 5 = ap length same ∙ (length-map (row_entries row) own_bytes ∙ full) in
    inner_length u32_kind u32_kind 5 u32_laws u32_laws numbers_fit start owns (row_roots five at (mapped_row own_bytes row))
    (subst (AreOwn u32_kind u32_kind) (sym same) (all_own (row_entries row))) filled (omega (arith, length-roots five at (mapped_row own_bytes row), filled))

both_length : (xs ys : List Write) → length (appended (xs ++ ys)) ≡ length (appended xs) + length (appended ys)
both_length xs ys = ap length (appended-append xs ys) ∙ length-append (appended xs) (appended ys)

mutual
  tree_length : (at : ℕ) (t : Tree (ℕ × ℕ)) → HasShape 5 t → length (appended (tree_image five at (mapped own_bytes t))) + at ≡ tree_end five at (mapped own_bytes t)
  tree_length at (leaf xs) s =
      omega (arith, node_length (align five) at (record { bytes = leaf_bytes five (map own_bytes xs); reaches = true }) positive, leaf_bytes_are xs s)
  tree_length at (inner row) s =
      let owns = mapped_row own_bytes row in
      let e = row_end five at owns in
      omega (
        arith,
        both_length (row_image five at owns) (inner_image five e (row_entries owns) (row_roots five at owns)),
        row_length at row s.1,
        node_length (align five) e (inner_write five (start_of e) (row_entries owns) (row_roots five at owns)) positive,
        inner_bytes_are at row (start_of e) s.0,
      )

  row_length : (at : ℕ) (row : Row (ℕ × ℕ)) → RowHasShape 5 row → length (appended (row_image five at (mapped_row own_bytes row))) + at ≡ row_end five at (mapped_row own_bytes row)
  row_length at (last c) s = child_length at c s
  row_length at (step c x row) s =
      let mid = child_end five at (mapped_child own_bytes c) in
      omega (arith, both_length (child_image five at (mapped_child own_bytes c)) (row_image five mid (mapped_row own_bytes row)), child_length at c s.0, row_length mid row s.1)

  child_length : (at : ℕ) (c : Child (ℕ × ℕ)) → ChildHasShape 5 c → length (appended (child_image five at (mapped_child own_bytes c))) + at ≡ child_end five at (mapped_child own_bytes c)
  child_length at absent s = omega arith
  child_length at (child t) s = tree_length at t s

-- The planned tree has a node for each five entries.

planned_nodes : {X : Type 0} (xs : List X) → 5 * child_nodes (planned_alone 5 xs) ≤ length xs + 4
planned_nodes [] = omega arith
planned_nodes {X} (x ∷ xs) =
    let p = plan_is_left_complete X 5 (omega arith) (x ∷ xs) (omega arith) in
    let small = left_complete_is_smallest X 5 (omega arith) (plan 5 (x ∷ xs)) p.0 in
    omega (arith, small.nodes_are, ap length p.1, (div_ceil_times (length (list (plan 5 (x ∷ xs)))) 5 (omega arith)).1)

-- the tree that is planned for entries, with their own bytes
abbrev planned : List (ℕ × ℕ) → Child OwnBytes
planned entries = planned_alone 5 (map own_bytes entries)

planned_shape : (entries : List (ℕ × ℕ)) → ChildHasShape 5 (planned entries)
planned_shape entries = alone_shape (map own_bytes entries)

planned_length : (heading : Heading) (entries : List (ℕ × ℕ)) → start heading + length (appended (tree_writes heading entries)) ≡ child_end five (start heading) (planned entries)
planned_length heading entries =
    let from = start heading in
    subst (λ (c : Child OwnBytes). from + length (appended (child_image five from c)) ≡ child_end five from c) (sym (alone_mapped own_bytes 5 entries))
    (omega (arith, child_length from (planned_alone 5 entries) (alone_shape entries)))

planned_ends : (heading : Heading) (entries : List (ℕ × ℕ)) → length entries ≤ 150000000 → child_end five (start heading) (planned entries) ≤ 2130000100
planned_ends heading entries few =
    omega (arith, child_ends (start heading) (planned entries), planned_nodes (map own_bytes entries), length-map entries own_bytes, start_small heading)

child_root_within : (at : ℕ) (c : Child OwnBytes) → unwrap_or (child_root five at c) 0 ≤ child_end five at c
child_root_within at absent = omega arith
child_root_within at (child t) = root_within at t

map_reaches : (at root n : ℕ) → at ≤ 2147483648 → root ≤ 2147483647 → root_reaches at root n ≡ true
map_reaches at root n h r = go (nat_eq n 0)
  where
    go : (b : Bool) → (b || offset_fits at root) ≡ true
    go true = refl
    go false = offset_near at root h r

-- so few entries have an archive
pub few_have_archives : (heading : Heading) (entries : List (ℕ × ℕ)) → length entries ≤ 150000000 → HasArchive heading entries
few_have_archives heading entries few =
    let from = start heading in
    let tree = from + length (appended (tree_writes heading entries)) in
    let root = root_node heading entries in
    let at = round_up tree 4 in
    let ends = planned_ends heading entries few in
    let near : at ≤ tree + 3 = omega (arith, round_up-lt tree 4 (omega arith)) in
    let map_write : Write = record { bytes = root_bytes at root (length entries); reaches = root_reaches at root (length entries) } in
    record {
      count = omega (arith, few);
      end = omega (
        arith,
        length-append (prefix numbers_name heading) (appended (tree_writes heading entries ++ root_writes heading entries)),
        both_length (tree_writes heading entries) (root_writes heading entries),
        node_length 4 tree map_write (omega arith),
        root_length at root (length entries),
        planned_length heading entries,
        ends,
        near,
      );
      reach = AllReach-both (tree_writes heading entries) (root_writes heading entries) (child_reaches from (planned entries) (planned_shape entries) (omega (arith, ends)))
          (node_reaches 4 tree map_write (map_reaches at root (length entries) (omega (arith, planned_length heading entries, ends, near)) (omega (arith, child_root_within from (planned entries), ends))));
    }
