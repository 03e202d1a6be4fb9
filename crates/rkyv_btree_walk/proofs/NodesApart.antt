-- The entries of a map are in nodes that share no byte, or at different numbers of one node: so no two have one place.
use Rattle.std.proofs.Common.{◌≡◌, ℕ, zero, suc, ◌+◌, ◌≤◌, ◌<◌, ◌⊎◌, inl, inr, IsTrue, List, ◌∷◌, ◌++◌, length, refl, sym, ap, subst, ◌∙◌, arith, slice_index, nat_eq, false}
use Rattle.std.proofs.lemmas.Bool.{eq-eqb, ne_eqb, and_left, and_right, cases_Bool}
use Rattle.rkyv_btree_portable.specs.Bytes.{target_at, number_at}
use Rattle.rkyv_btree_portable.specs.Kind.{Kind, IsLawful}
use Rattle.rkyv_btree_format.specs.Layout.{layout_of, len_at, leaf_size, inner_size, pointer_at}
use Rattle.rkyv_btree_verify.specs.Map.{map_kind}
use Rattle.rkyv_btree_format.specs.Read.{run, child_of, row_at, tree_at, tree_of}
use Rattle.rkyv_btree_format.specs.Spells.{Accepted, Spells, SpellsRow, SpellsChild, root_size}
use Rattle.rkyv_btree_shape.specs.Tree.{Tree, leaf, inner, Row, last, step, Child, absent, child, list, row_list, child_list, row_entries, height, row_height, child_height}
use Rattle.rkyv_btree_portable.specs.Views.{stands}
use Rattle.rkyv_btree_portable.specs.laws.Views.{means_read, fitting_of}
use Rattle.rkyv_btree_format.proofs.Local.{child_from, row_from}
use Rattle.rkyv_btree_verify.proofs.MapLaws.{map_laws}
use Rattle.rkyv_btree_format.proofs.Sizes.{follow, sound_of}
use Rattle.rkyv_btree_walk.specs.EntryPlaces.{entry_places, size_at}
use Rattle.rkyv_btree_walk.specs.Remaining.{is_place}
use Rattle.rkyv_btree_walk.proofs.Pairs.{Each, Pairs, each_more, each_append, pairs_append, pairs_more}

module _ (K V : Kind) (E : ℕ) (b : List ℕ) where
  -- the node of an entry stands in a window
  pub record StandsIn (lo hi : ℕ) (e : ℕ × ℕ) : Type 0 where
    pub first : lo ≤ e.0
    pub past : e.0 + size_at (layout_of K V E) b e.0 ≤ hi
    pub few : e.1 < E

  -- an entry of the node at p, from number n on
  abbrev StandsAt : ℕ → ℕ → ℕ × ℕ → Type 0
  StandsAt p n e = (e.0 ≡ p) × (n ≤ e.1) × (e.1 < E)

  -- other numbers of one node, or nodes beside each other
  abbrev pub Others : ℕ × ℕ → ℕ × ℕ → Type 0
  Others e f = ((e.0 ≡ f.0) × (e.1 < f.1)) ⊎ ((e.0 + size_at (layout_of K V E) b e.0 ≤ f.0) ⊎ (f.0 + size_at (layout_of K V E) b f.0 ≤ e.0))

  pub record Stands (P : ℕ × ℕ → Type 0) (es : List (ℕ × ℕ)) : Type 0 where
    pub each : Each P es
    pub pairs : Pairs Others es

  run_each : (p count n : ℕ) → n + count ≤ E → Each (StandsAt p n) (run (layout_of K V E) b p count n)
  run_each p zero n few = tt
  run_each p (suc count) n few = ((refl, omega arith, omega arith), each_more (StandsAt p (n + 1)) (StandsAt p n) (run (layout_of K V E) b p count (n + 1)) (λ e h. (h.0, omega (arith, h.1), h.2)) (run_each p count (n + 1) (omega arith)))

  run_pairs : (p count n : ℕ) → n + count ≤ E → Pairs Others (run (layout_of K V E) b p count n)
  run_pairs p zero n few = tt
  run_pairs p (suc count) n few = (each_more (StandsAt p (n + 1)) (Others (p, n)) (run (layout_of K V E) b p count (n + 1)) (λ e h. inl (sym h.0, omega (arith, h.1))) (run_each p count (n + 1) (omega arith)), run_pairs p count (n + 1) (omega arith))

  -- an entry of the node itself stands in the window that this takes, and one below it too
  own_in : (p n lo end size : ℕ) → lo ≤ p → size_at (layout_of K V E) b p ≡ size → p + size ≤ end → (e : ℕ × ℕ) → StandsAt p n e → StandsIn lo end e
  own_in p n lo end size before is room e h =
      let same : e.0 + size_at (layout_of K V E) b e.0 ≡ p + size = ap (λ q. q + size_at (layout_of K V E) b q) h.0 ∙ ap (λ z. p + z) is in
      record { first = omega (arith, h.0); past = omega (arith, same); few = h.2 }

  below_in : (lo hi lo2 hi2 : ℕ) → lo2 ≤ lo → hi ≤ hi2 → (e : ℕ × ℕ) → StandsIn lo hi e → StandsIn lo2 hi2 e
  below_in lo hi lo2 hi2 before after e h = let first = h.first in let past = h.past in record { first = omega arith; past = omega arith; few = h.few }

  -- the entry number n of a node before what stands after it, and an entry below it before that
  own_others : (p n lo mid : ℕ) → mid ≤ p → (f : ℕ × ℕ) → StandsIn lo mid f ⊎ StandsAt p (n + 1) f → Others (p, n) f
  own_others p n lo mid before f (inl h) = let past = h.past in inr (inr (omega arith))
  own_others p n lo mid before f (inr h) = inl (sym h.0, omega (arith, h.1))

  below_others : (p n lo next mid : ℕ) → next ≤ p → (e f : ℕ × ℕ) → StandsIn lo next e → StandsIn next mid f ⊎ StandsAt p n f → Others e f
  below_others p n lo next mid before e f h (inl w) = let past = h.past in let first = w.first in inr (inl (omega arith))
  below_others p n lo next mid before e f h (inr w) = let past = h.past in inr (inl (omega (arith, w.0)))

  more_by : (p n lo lo2 mid mid2 : ℕ) → lo ≤ lo2 → mid2 ≤ mid → (e : ℕ × ℕ) → StandsIn lo2 mid2 e ⊎ StandsAt p (n + 1) e → StandsIn lo mid e ⊎ StandsAt p n e
  more_by p n lo lo2 mid mid2 before after e (inl h) = inl (below_in lo2 mid2 lo mid before after e h)
  more_by p n lo lo2 mid mid2 before after e (inr h) = inr (h.0, omega (arith, h.1), h.2)

  any_in : (p n lo mid end size : ℕ) → lo ≤ p → mid ≤ end → size_at (layout_of K V E) b p ≡ size → p + size ≤ end → (e : ℕ × ℕ) → StandsIn lo mid e ⊎ StandsAt p n e → StandsIn lo end e
  any_in p n lo mid end size before after is room e (inl h) = below_in lo mid lo end (omega arith) after e h
  any_in p n lo mid end size before after is room e (inr h) = own_in p n lo end size before is room e h

  -- what a leaf and an inner node read
  leaf_list : (levels p count : ℕ) → slice_index b p ≡ 0 → number_at b (p + len_at (layout_of K V E)) 4 ≡ count → list (tree_at (layout_of K V E) b (suc levels) p) ≡ run (layout_of K V E) b p count 0
  leaf_list levels p count kind len = rw (eq-eqb (slice_index b p) 0 kind, len) refl

  inner_list : (levels p count : ℕ) → slice_index b p ≡ 1 → count ≡ E → list (tree_at (layout_of K V E) b (suc levels) p) ≡ row_list (row_at (layout_of K V E) b (tree_at (layout_of K V E) b levels) p count 0)
  inner_list levels p count kind full = rw (ne_eqb (slice_index b p) 0 (omega (arith, kind)), full) refl

  -- the entries of a child, entry number n of the node, and what stands after it
  stands_joined : (p n lo next mid : ℕ) (below rest : List (ℕ × ℕ)) → lo ≤ next → next ≤ p → next ≤ mid → mid ≤ p → n < E → Stands (StandsIn lo next) below → Stands (λ e. StandsIn next mid e ⊎ StandsAt p (n + 1) e) rest → Stands (λ e. StandsIn lo mid e ⊎ StandsAt p n e) (below ++ (p, n) ∷ rest)
  stands_joined p n lo next mid below rest before inside after end index one others =
      record {
        each = each_append (λ e. StandsIn lo mid e ⊎ StandsAt p n e) below ((p, n) ∷ rest) (each_more (StandsIn lo next) (λ e. StandsIn lo mid e ⊎ StandsAt p n e) below (λ e h. inl (below_in lo next lo mid (omega arith) after e h)) one.each)
            (inr (refl, omega arith, index), each_more (λ e. StandsIn next mid e ⊎ StandsAt p (n + 1) e) (λ e. StandsIn lo mid e ⊎ StandsAt p n e) rest (more_by p n lo next mid mid before (omega arith)) others.each);
        pairs = pairs_append Others below ((p, n) ∷ rest) one.pairs (each_more (λ e. StandsIn next mid e ⊎ StandsAt p (n + 1) e) (Others (p, n)) rest (own_others p n next mid end) others.each, others.pairs)
            (each_more (StandsIn lo next) (λ e. Each (Others e) ((p, n) ∷ rest)) below (λ e h. (below_others p n lo next mid inside e (p, n) h (inr (refl, omega arith, index)), each_more (λ f. StandsIn next mid f ⊎ StandsAt p (n + 1) f) (Others e) rest (λ f w. below_others p (n + 1) lo next mid inside e f h w) others.each)) one.each);
      }

  mutual
    tree_stands : (t : Tree (K.Value × V.Value)) (levels lo hi p : ℕ) → height t ≤ levels → Spells K V E b lo hi p t → Stands (StandsIn lo (p + root_size (layout_of K V E) t)) (list (tree_at (layout_of K V E) b levels p))
    tree_stands (leaf m) zero lo hi p d h = absurd (omega arith)
    tree_stands (inner row) zero lo hi p d h = absurd (omega arith)
    tree_stands (leaf m) (suc levels) lo hi p d h =
        let s = layout_of K V E in
        let kind = eq-eqb (slice_index b p) 0 h.0.kind_byte in
        let size : size_at s b p ≡ leaf_size s = rw kind refl in
        let few : 0 + length m ≤ E = omega (arith, h.2) in
        let each = each_more (StandsAt p 0) (StandsIn lo (p + leaf_size s)) (run s b p (length m) 0) (own_in p 0 lo (p + leaf_size s) (leaf_size s) h.0.start size (omega arith)) (run_each p (length m) 0 few) in
        let own : Stands (StandsIn lo (p + leaf_size s)) (run s b p (length m) 0) = record { each = each; pairs = run_pairs p (length m) 0 few } in
        subst (λ (es : List (ℕ × ℕ)). Stands (StandsIn lo (p + leaf_size s)) es) (sym (leaf_list levels p (length m) h.0.kind_byte h.1)) own
    tree_stands (inner row) (suc levels) lo hi p d h =
        let s = layout_of K V E in
        let start = h.0.start in
        let kind = h.0.kind_byte in
        let size : size_at s b p ≡ inner_size s = rw (ne_eqb (slice_index b p) 0 (omega arith)) refl in
        let inside = row_from K V E b row p 0 lo h.2 start h.3 in
        let rows = row_stands row levels p 0 lo h.2 (omega arith) start (omega (arith, h.1)) h.3 in
        let each = each_more (λ e. StandsIn lo h.2 e ⊎ StandsAt p 0 e) (StandsIn lo (p + inner_size s)) (row_list (row_at s b (tree_at s b levels) p (length (row_entries row)) 0)) (any_in p 0 lo h.2 (p + inner_size s) (inner_size s) start (omega (arith, inside.1)) size (omega arith)) rows.each in
        let own : Stands (StandsIn lo (p + inner_size s)) (row_list (row_at s b (tree_at s b levels) p (length (row_entries row)) 0)) = record { each = each; pairs = rows.pairs } in
        subst (λ (es : List (ℕ × ℕ)). Stands (StandsIn lo (p + inner_size s)) es) (sym (inner_list levels p (length (row_entries row)) h.0.kind_byte h.1)) own

    row_stands : (row : Row (K.Value × V.Value)) (levels p n lo mid : ℕ) → row_height row ≤ levels → lo ≤ p → n + length (row_entries row) ≤ E → SpellsRow K V E b p n lo mid row
        → Stands (λ e. StandsIn lo mid e ⊎ StandsAt p n e) (row_list (row_at (layout_of K V E) b (tree_at (layout_of K V E) b levels) p (length (row_entries row)) n))
    row_stands (last x) levels p n lo mid d before few h =
        let s = layout_of K V E in
        let one = child_stands x levels p n lo mid d h in
        record { each = each_more (StandsIn lo mid) (λ e. StandsIn lo mid e ⊎ StandsAt p n e) (child_list (child_of s b (tree_at s b levels) (target_at b (p + pointer_at s n)))) (λ e w. inl w) one.each; pairs = one.pairs }
    row_stands (step x y row) levels p n lo mid d before few h =
        let s = layout_of K V E in
        let child_in = child_from K V E b x p n lo h.0 before h.1 in
        let row_in = row_from K V E b row p (n + 1) h.0 mid child_in.1 h.2 in
        let one = child_stands x levels p n lo h.0 (omega arith) h.1 in
        let rest = row_stands row levels p (n + 1) h.0 mid (omega arith) child_in.1 (omega arith) h.2 in
        stands_joined p n lo h.0 mid (child_list (child_of s b (tree_at s b levels) (target_at b (p + pointer_at s n)))) (row_list (row_at s b (tree_at s b levels) p (length (row_entries row)) (n + 1))) child_in.0 child_in.1 row_in.0 row_in.1 (omega arith) one rest

    child_stands : (x : Child (K.Value × V.Value)) (levels p n lo next : ℕ) → child_height x ≤ levels → SpellsChild K V E b p n lo next x → Stands (StandsIn lo next) (child_list (child_of (layout_of K V E) b (tree_at (layout_of K V E) b levels) (target_at b (p + pointer_at (layout_of K V E) n))))
    child_stands absent levels p n lo next d h = rw h.0 (record { each = tt; pairs = tt })
    child_stands (child t) levels p n lo next d h = rw (h.1, h.3) (tree_stands t levels lo p h.0 d h.2)

  -- so do those of a map
  pub map_stands : (lo hi at left : ℕ) (m : List (K.Value × V.Value)) → Accepted K V E b lo hi at left m → (top : ℕ) × Stands (StandsIn lo top) (entry_places K V E b at)
  unfolding tree_of
  map_stands lo hi at left m a =
      let n = number_at b (at + 4) 4 in
      elim a.root [
        | inl h ↦ (0, rw (eq-eqb n 0 h.0) (record { each = tt; pairs = tt }))
        | inr h ↦
            let r = h.1 in
            (r.start + root_size (layout_of K V E) r.tree, rw (ne_eqb n 0 h.0, r.leads) (tree_stands r.tree 32 lo hi r.start r.levels r.spelled))
      ]

-- two places differ
abbrev pub Differ : ℕ × ℕ → ℕ × ℕ → Type 0
Differ e f = is_place f e ≡ false

module _ (K V : Kind) (E : ℕ) (k : IsLawful K) (v : IsLawful V) (b : List ℕ) (at : ℕ) (h : IsTrue (stands (map_kind K V E) b at)) where
  some_size : (p : ℕ) → 0 < size_at (layout_of K V E) b p
  some_size p =
      let parts = follow (layout_of K V E) (sound_of K V E k v (fitting_of (map_kind K V E) b at h)) in
      elim (cases_Bool (nat_eq (slice_index b p) 0)) [
        | inl is ↦ rw is (omega (arith, parts.len))
        | inr is ↦ rw is (omega (arith, parts.len, parts.leaf))
      ]

  differ : (e f : ℕ × ℕ) → Others K V E b e f → Differ e f
  differ e f (inl w) = and_right (nat_eq f.0 e.0) (nat_eq f.1 e.1) (ne_eqb f.1 e.1 (omega (arith, w.1)))
  differ e f (inr (inl w)) = let size = some_size e.0 in and_left (nat_eq f.0 e.0) (nat_eq f.1 e.1) (ne_eqb f.0 e.0 (omega arith))
  differ e f (inr (inr w)) = let size = some_size f.0 in and_left (nat_eq f.0 e.0) (nat_eq f.1 e.1) (ne_eqb f.0 e.0 (omega arith))

  all_stand : (top : ℕ) × Stands K V E b (StandsIn K V E b 0 top) (entry_places K V E b at)
  all_stand = let read = means_read (map_laws K V E k v) b at h in map_stands K V E b 0 at at read.left _ read.means

  pub places_differ : Pairs Differ (entry_places K V E b at)
  places_differ = pairs_more (Others K V E b) Differ (entry_places K V E b at) differ all_stand.1.pairs

  pub places_few : Each (λ e. e.1 < E) (entry_places K V E b at)
  places_few = each_more (StandsIn K V E b 0 all_stand.0) (λ e. e.1 < E) (entry_places K V E b at) (λ e w. w.few) all_stand.1.each
