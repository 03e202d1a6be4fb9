-- What is counted of the bytes of a tree is what the tree has, and takes no more room than its window.
use Rattle.std.proofs.Common.{◌≡◌, ℕ, zero, suc, ◌+◌, ◌-◌, ◌≤◌, ◌⊎◌, inl, inr, max, List, [], ◌∷◌, length, drop, Some, None, true, false, slice_index, refl, sym, ap, subst, ◌∙◌, arith}
use Rattle.std.proofs.lemmas.Bool.{cases_lt, eq-eqb, ne_eqb}
use Rattle.std.proofs.lemmas.List.{length-take, length-drop}
use Rattle.rkyv_btree_portable.specs.Bytes.{target_at}
use Rattle.rkyv_btree_portable.specs.Text.{text_kind, text_len, MeansText}
use Rattle.rkyv_btree_portable.specs.laws.TextLaws.{text_laws}
use Rattle.rkyv_btree_shape.specs.Tree.{Tree, leaf, inner, Row, last, step, Child, absent, child, row_entries, height, row_height, child_height}
use Rattle.rkyv_btree_format.specs.Layout.{key_at, value_at, pointer_at}
use Rattle.rkyv_btree_format.specs.OwnBytes.{own_at}
use Rattle.rkyv_btree_format.specs.Spells.{Entries, Spells, SpellsRow, SpellsChild, root_size, Accepted}
use Rattle.rkyv_btree_walk.specs.Below.{root_place}
use Rattle.rkyv_btree_walk.specs.Nodes.{child_place, entry_count, is_leaf, natural}
use Rattle.rkyv_btree_walk.proofs.Nodes.{spelled_stands, tree_node}
use Rattle.btreekv_commands.specs.Figures.{nothing, of_leaf, of_inner, beside, above, tree_figures, row_figures, child_figures, key_bytes, value_bytes, size_of, archive_figures}
use Rattle.btreekv_commands.specs.Lines.{Entry}
use Rattle.btreekv_commands.specs.Nodes.{text_layout}
use Rattle.btreekv_commands.specs.Opening.{IsArchive, texts}
use Rattle.btreekv_commands.specs.declared.tree_figures.TreeFigures.{TreeFigures}
use Rattle.btreekv_commands.specs.mirror.Levels.{HasNode}
use Rattle.btreekv_commands.specs.mirror.Sums.{text_bytes, node_keys, node_values, child_sum, children_sum, tree_sum, IsSpelled}
use Rattle.btreekv_commands.proofs.Fits.{texts_fit}
use Rattle.btreekv_commands.proofs.NodeSizes.{sizes}
use Rattle.btreekv_commands.proofs.TopParts.{root_leads}

abbrev built : (l i v k w : ℕ) → TreeFigures
built l i v k w = record { levels = l; inner_nodes = i; leaves = v; key_bytes = k; value_bytes = w }

same : (a b : TreeFigures) → a.levels ≡ b.levels → a.inner_nodes ≡ b.inner_nodes → a.leaves ≡ b.leaves → a.key_bytes ≡ b.key_bytes → a.value_bytes ≡ b.value_bytes → a ≡ b
same a b l i v k w =
    ap (λ z. built z a.inner_nodes a.leaves a.key_bytes a.value_bytes) l
    ∙ (ap (λ z. built b.levels z a.leaves a.key_bytes a.value_bytes) i
    ∙ (ap (λ z. built b.levels b.inner_nodes z a.key_bytes a.value_bytes) v
    ∙ (ap (λ z. built b.levels b.inner_nodes b.leaves z a.value_bytes) k
    ∙ ap (λ z. built b.levels b.inner_nodes b.leaves b.key_bytes z) w)))

first_nothing : (a : TreeFigures) → beside nothing a ≡ a
first_nothing a = same (beside nothing a) a (omega arith) (omega arith) (omega arith) (omega arith) (omega arith)

regroup : (a b c : TreeFigures) → beside a (beside b c) ≡ beside (beside a b) c
regroup a b c = same (beside a (beside b c)) (beside (beside a b) c) (omega arith) (omega arith) (omega arith) (omega arith) (omega arith)

-- the levels that are counted are those of the tree
mutual
  tree_levels : (t : Tree Entry) → (tree_figures t).levels ≡ height t
  tree_levels (leaf m) = refl
  tree_levels (inner row) = ap (λ n. 1 + n) (row_levels row)

  row_levels : (row : Row Entry) → (row_figures row).levels ≡ row_height row
  row_levels (last c) = child_levels c
  row_levels (step c e row) = ap (λ n. max (child_figures c).levels n) (row_levels row) ∙ ap (λ n. max n (row_height row)) (child_levels c)

  child_levels : (c : Child Entry) → (child_figures c).levels ≡ child_height c
  child_levels absent = refl
  child_levels (child t) = tree_levels t

module _ (b : List ℕ) where
  text_long : (lo hi at left : ℕ) (v : List ℕ) → MeansText b lo hi at left v → length v ≡ text_len b at
  text_long lo hi at left v m =
      let ends = m.range.ends in
      let kept = m.lies.kept in
      let before = m.lies.before in
      let inside = m.lies.inside in
      omega (arith, ap length m.bytes, length-take (text_len b at) (drop m.start b), length-drop m.start b)

  text_room : (lo hi at left : ℕ) (v : List ℕ) → MeansText b lo hi at left v → length v + lo ≤ left
  text_room lo hi at left v m = let ends = m.range.ends in let from = m.from in omega (arith, text_long lo hi at left v m)

  entries_keys : (m : List Entry) (p i lo lo2 : ℕ) → Entries text_kind text_kind 5 b p i lo lo2 m
      → text_bytes b (λ j. p + key_at text_layout j) i + key_bytes m ≡ text_bytes b (λ j. p + key_at text_layout j) (i + length m)
  entries_keys [] p i lo lo2 h = omega (arith, ap (text_bytes b (λ j. p + key_at text_layout j)) (let e : i + 0 ≡ i = omega arith in e))
  entries_keys (e ∷ m) p i lo lo2 h =
      let at = λ (j : ℕ). p + key_at text_layout j in
      let long = text_long lo p (at i) h.0 e.0 h.2 in
      let next = ap (text_bytes b at) (let e : i + 1 ≡ suc i = omega arith in e) in
      let ends = ap (text_bytes b at) (let e : i + 1 + length m ≡ i + suc (length m) = omega arith in e) in
      omega (arith, long, next, ends, entries_keys m p (i + 1) h.1 lo2 h.4)

  entries_values : (m : List Entry) (p i lo lo2 : ℕ) → Entries text_kind text_kind 5 b p i lo lo2 m
      → text_bytes b (λ j. p + value_at text_layout j) i + value_bytes m ≡ text_bytes b (λ j. p + value_at text_layout j) (i + length m)
  entries_values [] p i lo lo2 h = omega (arith, ap (text_bytes b (λ j. p + value_at text_layout j)) (let e : i + 0 ≡ i = omega arith in e))
  entries_values (e ∷ m) p i lo lo2 h =
      let at = λ (j : ℕ). p + value_at text_layout j in
      let long = text_long h.0 p (at i) h.1 e.1 h.3 in
      let next = ap (text_bytes b at) (let e : i + 1 ≡ suc i = omega arith in e) in
      let ends = ap (text_bytes b at) (let e : i + 1 + length m ≡ i + suc (length m) = omega arith in e) in
      omega (arith, long, next, ends, entries_values m p (i + 1) h.1 lo2 h.4)

  keys_are : (m : List Entry) (p lo lo2 : ℕ) → Entries text_kind text_kind 5 b p 0 lo lo2 m → entry_count text_layout b p ≡ length m → node_keys b p ≡ key_bytes m
  keys_are m p lo lo2 h count =
      let all : entry_count text_layout b p ≡ 0 + length m = omega (arith, count) in
      omega (arith, entries_keys m p 0 lo lo2 h, ap (text_bytes b (λ j. p + key_at text_layout j)) all)

  values_are : (m : List Entry) (p lo lo2 : ℕ) → Entries text_kind text_kind 5 b p 0 lo lo2 m → entry_count text_layout b p ≡ length m → node_values b p ≡ value_bytes m
  values_are m p lo lo2 h count =
      let all : entry_count text_layout b p ≡ 0 + length m = omega (arith, count) in
      omega (arith, entries_values m p 0 lo lo2 h, ap (text_bytes b (λ j. p + value_at text_layout j)) all)

  entries_room : (m : List Entry) (p i lo lo2 : ℕ) → Entries text_kind text_kind 5 b p i lo lo2 m → lo ≤ p → (key_bytes m + value_bytes m + lo ≤ lo2) × (lo2 ≤ p)
  entries_room [] p i lo lo2 h before = (omega arith, omega arith)
  entries_room (e ∷ m) p i lo lo2 h before =
      let key = text_room lo p (p + key_at text_layout i) h.0 e.0 h.2 in
      let value = text_room h.0 p (p + value_at text_layout i) h.1 e.1 h.3 in
      let kept = h.3.lies.kept in
      let rest = entries_room m p (i + 1) h.1 lo2 h.4 (omega arith) in
      let room = rest.0 in
      (omega arith, rest.1)

  root_inside : (t : Tree Entry) (lo hi p : ℕ) → Spells text_kind text_kind 5 b lo hi p t → (p + root_size text_layout t ≤ hi) × (lo ≤ p)
  root_inside (leaf m) lo hi p h = (h.0.room, h.0.start)
  root_inside (inner row) lo hi p h = (h.0.room, h.0.start)

  -- a tree takes no more room than its window up to its end
  mutual
    tree_room : (t : Tree Entry) (lo hi p : ℕ) → Spells text_kind text_kind 5 b lo hi p t → size_of (tree_figures t) + lo ≤ p + root_size text_layout t
    tree_room (leaf m) lo hi p h =
        let start = h.0.start in
        let room = entries_room m p 0 lo h.3 h.4 start in
        let long = room.0 in
        let end = room.1 in
        omega (arith, sizes.leaf)
    tree_room (inner row) lo hi p h =
        let start = h.0.start in
        let below = row_room row lo h.2 p 0 h.3 start in
        let long = below.0 in
        let own = entries_room (row_entries row) p 0 h.2 h.4 h.5 below.1 in
        let room = own.0 in
        let end = own.1 in
        omega (arith, sizes.inner)

    row_room : (row : Row Entry) (lo mid p i : ℕ) → SpellsRow text_kind text_kind 5 b p i lo mid row → lo ≤ p → (size_of (row_figures row) + lo ≤ mid) × (mid ≤ p)
    row_room (last c) lo mid p i h before = child_room c lo mid p i h before
    row_room (step c e row) lo mid p i h before =
        let first = child_room c lo h.0 p i h.1 before in
        let one = first.0 in
        let rest = row_room row h.0 mid p (i + 1) h.2 first.1 in
        let two = rest.0 in
        (omega arith, rest.1)

    child_room : (c : Child Entry) (lo next p i : ℕ) → SpellsChild text_kind text_kind 5 b p i lo next c → lo ≤ p → (size_of (child_figures c) + lo ≤ next) × (next ≤ p)
    child_room absent lo next p i h before = let e = h.1 in (omega arith, omega arith)
    child_room (child t) lo next p i h before =
        let room = tree_room t lo p h.0 h.2 in
        let e = h.3 in
        let inside = (root_inside t lo p h.0 h.2).0 in
        (omega arith, omega arith)

  leaf_byte : (p : ℕ) → slice_index b p ≡ 0 → is_leaf text_layout b p ≡ true
  leaf_byte p e = eq-eqb (slice_index b p) 0 e

  inner_byte : (p : ℕ) → slice_index b p ≡ 1 → is_leaf text_layout b p ≡ false
  inner_byte p e = ne_eqb (slice_index b p) 0 (omega arith)

  pub leaf_sum : (levels n p : ℕ) → levels ≡ suc n → is_leaf text_layout b p ≡ true → tree_sum b levels p ≡ of_leaf (node_keys b p) (node_values b p)
  unfolding tree_sum
  leaf_sum levels n p more e = rw (more, e) refl

  pub inner_sum : (levels n p : ℕ) → levels ≡ suc n → is_leaf text_layout b p ≡ false → tree_sum b levels p ≡ above (of_inner (node_keys b p) (node_values b p)) (children_sum b (tree_sum b n) p 6)
  unfolding tree_sum
  inner_sum levels n p more e = rw (more, e) refl

  -- what is counted is what the tree has
  mutual
    pub sum_is : (t : Tree Entry) (levels lo hi p : ℕ) → Spells text_kind text_kind 5 b lo hi p t → height t ≤ levels → tree_sum b levels p ≡ tree_figures t
    sum_is (leaf m) zero lo hi p h few = absurd (omega arith)
    sum_is (inner row) zero lo hi p h few = absurd (omega arith)
    sum_is (leaf m) (suc levels) lo hi p h few =
        let is = leaf_byte p h.0.kind_byte in
        let count : entry_count text_layout b p ≡ length m = rw is h.1 in
        leaf_sum (suc levels) levels p refl is ∙ same (of_leaf (node_keys b p) (node_values b p)) (tree_figures (leaf m)) refl refl refl
        (keys_are m p lo h.3 h.4 count) (values_are m p lo h.3 h.4 count)
    sum_is (inner row) (suc levels) lo hi p h few =
        let is = inner_byte p h.0.kind_byte in
        let count : entry_count text_layout b p ≡ length (row_entries row) = rw is (sym h.1) in
        let own : of_inner (node_keys b p) (node_values b p) ≡ of_inner (key_bytes (row_entries row)) (value_bytes (row_entries row)) =
        same (of_inner (node_keys b p) (node_values b p)) (of_inner (key_bytes (row_entries row)) (value_bytes (row_entries row))) refl refl refl
        (keys_are (row_entries row) p h.2 h.4 h.5 count) (values_are (row_entries row) p h.2 h.4 h.5 count) in
        let below = row_sum row levels lo h.2 p 0 h.3 (omega arith) (omega (arith, h.1)) is in
        inner_sum (suc levels) levels p refl is ∙ (ap (λ z. above z (children_sum b (tree_sum b levels) p 6)) own
        ∙ ap (above (of_inner (key_bytes (row_entries row)) (value_bytes (row_entries row)))) (sym below ∙ first_nothing (row_figures row)))

    row_sum : (row : Row Entry) (levels lo mid p i : ℕ) → SpellsRow text_kind text_kind 5 b p i lo mid row → row_height row ≤ levels → i + length (row_entries row) ≡ 5 → is_leaf text_layout b p ≡ false
        → beside (children_sum b (tree_sum b levels) p i) (row_figures row) ≡ children_sum b (tree_sum b levels) p 6
    row_sum (last c) levels lo mid p i h few five is =
        let here = child_is c levels lo mid p i h few is in
        let end : i ≡ 5 = omega arith in
        ap (λ z. beside (children_sum b (tree_sum b levels) p i) z) (sym here) ∙ ap (λ j. children_sum b (tree_sum b levels) p (suc j)) end
    row_sum (step c e row) levels lo mid p i h few five is =
        let here = child_is c levels lo h.0 p i h.1 (omega arith) is in
        let before = children_sum b (tree_sum b levels) p i in
        let rest = row_sum row levels h.0 mid p (i + 1) h.2 (omega arith) (omega arith) is in
        let next : children_sum b (tree_sum b levels) p (i + 1) ≡ beside before (child_sum b (tree_sum b levels) (child_place text_layout b p i)) =
        ap (children_sum b (tree_sum b levels) p) (let e : i + 1 ≡ suc i = omega arith in e) in
        regroup before (child_figures c) (row_figures row)
        ∙ (ap (λ z. beside (beside before z) (row_figures row)) (sym here)
        ∙ (ap (λ z. beside z (row_figures row)) (sym next) ∙ rest))

    child_is : (c : Child Entry) (levels lo next p i : ℕ) → SpellsChild text_kind text_kind 5 b p i lo next c → child_height c ≤ levels → is_leaf text_layout b p ≡ false
        → child_sum b (tree_sum b levels) (child_place text_layout b p i) ≡ child_figures c
    child_is absent levels lo next p i h few is = rw (is, h.0) refl
    child_is (child t) levels lo next p i h few is = rw (is, h.1) (sum_is t levels lo p h.0 h.2 few)

  -- the trees of children are spelled too
  one_child : (c : Child Entry) (n lo next p i q : ℕ) → SpellsChild text_kind text_kind 5 b p i lo next c → child_height c ≤ n → p ≤ length b
      → natural (target_at b (p + pointer_at text_layout i)) ≡ Some q → IsSpelled b n q
  one_child absent n lo next p i q h few inside to = absurd (cc (rw h.0 at to))
  one_child (child t) n lo next p i q h few inside to =
      let there : h.0 ≡ q = cc (rw h.1 at to) in
      subst (IsSpelled b n) there (record { lo = lo; hi = p; tree = t; spelled = h.2; few = few; inside = inside })

  row_child : (row : Row Entry) (n lo mid p i j q : ℕ) → SpellsRow text_kind text_kind 5 b p i lo mid row → row_height row ≤ n → p ≤ length b → i ≤ j → j ≤ i + length (row_entries row)
      → natural (target_at b (p + pointer_at text_layout j)) ≡ Some q → IsSpelled b n q
  row_child (last c) n lo mid p i j q h few inside low high to = let e : j ≡ i = omega arith in one_child c n lo mid p i q h few inside (rw e at to)
  row_child (step c e row) n lo mid p i j q h few inside low high to =
      elim (cases_lt i j) [
        | inl after ↦ row_child row n h.0 mid p (i + 1) j q h.2 (omega arith) inside (omega arith) (omega arith) to
        | inr here ↦ let e : j ≡ i = omega arith in one_child c n lo h.0 p i q h.1 (omega arith) inside (rw e at to)
      ]

  pub child_spelled : (levels n p i q : ℕ) → IsSpelled b levels p → levels ≡ suc n → i ≤ 5 → child_place text_layout b p i ≡ Some q → IsSpelled b n q
  child_spelled levels n p i q s more low to = by_tree s.tree s.spelled s.few
    where
      by_tree : (t : Tree Entry) → Spells text_kind text_kind 5 b s.lo s.hi p t → height t ≤ levels → IsSpelled b n q
      by_tree (leaf m) h few = absurd (cc (rw (leaf_byte p h.0.kind_byte) at to))
      by_tree (inner row) h few =
          let inside = s.inside in
          let room = h.0.room in
          row_child row n s.lo h.2 p 0 i q h.3 (omega arith) (omega arith) (omega arith) (omega (arith, h.1)) (rw (inner_byte p h.0.kind_byte) at to)

  pub some_levels : (levels p : ℕ) → IsSpelled b levels p → 1 ≤ levels
  some_levels levels p s = by_tree s.tree s.few
    where
      by_tree : (t : Tree Entry) → height t ≤ levels → 1 ≤ levels
      by_tree (leaf m) few = omega arith
      by_tree (inner row) few = omega arith

  pub spelled_node : (levels p : ℕ) → IsSpelled b levels p → HasNode b p
  spelled_node levels p s =
      tree_node text_kind text_kind 5 b levels p (spelled_stands text_kind text_kind 5 b text_laws text_laws texts_fit s.tree levels s.lo s.hi p s.spelled s.few s.inside)

  pub whole_small : (levels p : ℕ) → IsSpelled b levels p → size_of (tree_sum b levels p) ≤ length b
  whole_small levels p s =
      let room = tree_room s.tree s.lo s.hi p s.spelled in
      let end = (root_inside s.tree s.lo s.hi p s.spelled).0 in
      let inside = s.inside in
      subst (λ f. size_of f ≤ length b) (sym (sum_is s.tree levels s.lo s.hi p s.spelled s.few)) (omega arith)

  pub whole_levels : (levels p : ℕ) → IsSpelled b levels p → (tree_sum b levels p).levels ≤ levels
  whole_levels levels p s =
      let few = s.few in
      let e = tree_levels s.tree in
      subst (λ f. f.levels ≤ levels) (sym (sum_is s.tree levels s.lo s.hi p s.spelled s.few)) (omega arith)

  first_fewer : (f : ℕ → TreeFigures) (p i k : ℕ) → size_of (children_sum b f p i) ≤ size_of (children_sum b f p (i + k))
  first_fewer f p i zero = let e : i + 0 ≡ i = omega arith in rw e (omega arith)
  first_fewer f p i (suc k) =
      let e : i + suc k ≡ suc (i + k) = omega arith in
      let fewer = first_fewer f p i k in
      rw e (omega arith)

  pub beside_small : (levels n p i q : ℕ) (below f : TreeFigures) → IsSpelled b levels p → levels ≡ suc n → is_leaf text_layout b p ≡ false → i ≤ 5 → child_place text_layout b p i ≡ Some q → length b ≤ 4294967295
      → below ≡ children_sum b (tree_sum b n) p i → f ≡ tree_sum b n q → size_of below + size_of f ≤ 4294967295
  beside_small levels n p i q below f s more is low to short before here =
      let whole = subst (λ z. size_of z ≤ length b) (inner_sum levels n p more is) (whole_small levels p s) in
      let all = first_fewer (tree_sum b n) p (suc i) (5 - i) in
      let six : suc i + (5 - i) ≡ 6 = omega arith in
      let some : size_of (children_sum b (tree_sum b n) p (suc i)) ≤ size_of (children_sum b (tree_sum b n) p 6) = subst (λ k. size_of (children_sum b (tree_sum b n) p (suc i)) ≤ size_of (children_sum b (tree_sum b n) p k)) six all in
      let one : size_of (child_sum b (tree_sum b n) (child_place text_layout b p i)) ≡ size_of f = ap (λ o. size_of (child_sum b (tree_sum b n) o)) to ∙ ap size_of (sym here) in
      let two : size_of below ≡ size_of (children_sum b (tree_sum b n) p i) = ap size_of before in
      omega arith

  pub above_small : (levels n p k : ℕ) (own below : TreeFigures) → IsSpelled b levels p → levels ≡ suc n → is_leaf text_layout b p ≡ false → k ≡ 6
      → own ≡ of_inner (node_keys b p) (node_values b p) → below ≡ children_sum b (tree_sum b n) p k → (size_of own + size_of below ≤ length b) × (own.levels + below.levels ≤ levels) × (above own below ≡ tree_sum b levels p)
  above_small levels n p k own below s more is six first counted =
      let rest = counted ∙ ap (children_sum b (tree_sum b n) p) six in
      let e = sym (inner_sum levels n p more is) in
      let all : above own below ≡ tree_sum b levels p = ap (λ z. above z below) first ∙ (ap (above (of_inner (node_keys b p) (node_values b p))) rest ∙ e) in
      let small : size_of (above own below) ≤ length b = subst (λ z. size_of z ≤ length b) (sym all) (whole_small levels p s) in
      let few : (above own below).levels ≤ levels = subst (λ z. z.levels ≤ levels) (sym all) (whole_levels levels p s) in
      (omega arith, omega arith, all)

  -- the tree of an archive is spelled, and what it has is what is counted
  pub archive_spelled : (m : List Entry) (root : ℕ) → IsArchive b m → root_place b (own_at texts b) ≡ Some root → IsSpelled b 32 root
  archive_spelled m root is to =
      let at = own_at texts b in
      let a : Accepted text_kind text_kind 5 b 0 at at is.left m = is.means in
      elim a.root [
        | inl none ↦ absurd (cc (rw none.0 at to))
        | inr some ↦
            let r = some.1 in
            let there = root_leads b r.start root some.0 r.leads to in
            let room = a.room in
            subst (IsSpelled b 32) there (record { lo = 0; hi = at; tree = r.tree; spelled = r.spelled; few = r.levels; inside = omega arith })
      ]

  by_root : {A R : Type 0} (f : R → TreeFigures) (r : A ⊎ R) (x : TreeFigures) → (A → x ≡ nothing) → ((s : R) → x ≡ f s) → x ≡ elim r [ inl none ↦ nothing | inr some ↦ f some ]
  by_root f (inl none) x empty full = empty none
  by_root f (inr some) x empty full = full some

  pub archive_sum : (m : List Entry) (is : IsArchive b m) (root : ℕ) → root_place b (own_at texts b) ≡ Some root → tree_sum b 32 root ≡ archive_figures b m is
  archive_sum m is root to =
      by_root (λ some. tree_figures some.1.tree) is.means.root (tree_sum b 32 root) (λ none. absurd (cc (rw none.0 at to))) (λ some.
      let r = some.1 in
      let there = root_leads b r.start root some.0 r.leads to in
      subst (λ p. tree_sum b 32 p ≡ tree_figures r.tree) there (sum_is r.tree 32 0 (own_at texts b) r.start r.spelled r.levels))

  pub archive_none : (m : List Entry) (is : IsArchive b m) → root_place b (own_at texts b) ≡ None → nothing ≡ archive_figures b m is
  archive_none m is to =
      by_root (λ some. tree_figures some.1.tree) is.means.root nothing (λ none. refl) (λ some.
      let r = some.1 in
      let is_some = ne_eqb _ 0 some.0 in
      absurd (cc (rw (is_some, r.leads) at to)))

  pub archive_small : (m : List Entry) (root : ℕ) → IsArchive b m → root_place b (own_at texts b) ≡ Some root → size_of (tree_sum b 32 root) + 8 ≤ length b
  archive_small m root is to =
      let at = own_at texts b in
      let a : Accepted text_kind text_kind 5 b 0 at at is.left m = is.means in
      elim a.root [
        | inl none ↦ absurd (cc (rw none.0 at to))
        | inr some ↦
            let r = some.1 in
            let there = root_leads b r.start root some.0 r.leads to in
            let room = tree_room r.tree 0 at r.start r.spelled in
            let end = (root_inside r.tree 0 at r.start r.spelled).0 in
            let all = is.room in
            subst (λ p. size_of (tree_sum b 32 p) + 8 ≤ length b) there
            (subst (λ f. size_of f + 8 ≤ length b) (sym (sum_is r.tree 32 0 at r.start r.spelled r.levels)) (omega arith))
      ]
