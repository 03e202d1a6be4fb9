-- Where a map stands, its root does.
use Rattle.std.proofs.Common.{◌≡◌, ℕ, ◌+◌, ◌*◌, ◌≤◌, ◌<◌, IsTrue, List, length, sym, refl, arith, Option, Some, None, inl, inr}
use Rattle.std.proofs.lemmas.Bool.{cases_lt, eq-eqb, ne_eqb}
use Rattle.std.specs.Prelude.{ℤ, pos, negsuc}
use Rattle.std.specs.declared.cmp.Ordering.{Ordering}
use Rattle.rkyv_btree_portable.specs.Bytes.{number_at, place_at}
use Rattle.rkyv_btree_portable.specs.Kind.{Kind, IsLawful}
use Rattle.rkyv_btree_format.specs.Layout.{NodeLayout, layout_of}
use Rattle.rkyv_btree_verify.specs.Map.{map_kind}
use Rattle.rkyv_btree_format.specs.Read.{tree_of, map_tree, read_map}
use Rattle.rkyv_btree_format.specs.Spells.{SpellsRoot}
use Rattle.rkyv_btree_shape.specs.Tree.{list, height}
use Rattle.rkyv_btree_portable.specs.Views.{stands}
use Rattle.rkyv_btree_portable.specs.laws.Views.{means_read, fitting_of}
use Rattle.rkyv_btree_verify.proofs.MapLaws.{map_laws, map_length, map_short}
use Rattle.rkyv_btree_walk.specs.Search.{compared_entries, probe}
use Rattle.rkyv_btree_walk.specs.mirror.Search.{searched, searched_map}
use Rattle.rkyv_btree_walk.specs.Nodes.{natural}
use Rattle.rkyv_btree_walk.specs.mirror.Node.{LeadsBefore, TreeStands, TreeCanBeRead}
use Rattle.rkyv_btree_walk.specs.mirror.Path.{tree_rest}
use Rattle.rkyv_btree_walk.proofs.Nodes.{starts_before, spelled_stands}
use Rattle.rkyv_btree_walk.proofs.Paths.{tree_from}
use Rattle.rkyv_btree_walk.proofs.Searches.{compared_bound}

list_over : (s : NodeLayout) (b : List ℕ) (t : ℤ) (q : ℕ) → natural (Some t) ≡ Some q → tree_rest s b 32 q 0 ≡ list (tree_of s b t)
unfolding tree_of
list_over s b (negsuc n) q h = absurd (cc h)
list_over s b (pos r) q h = let same : r ≡ q = cc h in rw same (sym (tree_from s b 31 q))

search_over : (s : NodeLayout) (b : List ℕ) (comparison : ℕ × ℕ → Ordering) (t : ℤ) (q : ℕ) → natural (Some t) ≡ Some q → searched s b comparison 32 q ≡ (probe comparison (tree_of s b t), length (compared_entries comparison (tree_of s b t)))
unfolding searched tree_of
search_over s b comparison (negsuc n) q h = absurd (cc h)
search_over s b comparison (pos r) q h = let same : r ≡ q = cc h in rw same refl

bound_over : (K V : Kind) (E : ℕ) (b : List ℕ) (comparison : ℕ × ℕ → Ordering) (t : ℤ) (p : ℕ) → LeadsBefore p (Some t) → ((q : ℕ) → natural (Some t) ≡ Some q → TreeStands K V E b 32 q) → length (compared_entries comparison (tree_of (layout_of K V E) b t)) ≤ E * height (tree_of (layout_of K V E) b t)
unfolding tree_of
bound_over K V E b comparison (negsuc n) p leads tree = absurd leads
bound_over K V E b comparison (pos q) p leads tree = compared_bound K V E b comparison 32 q (tree q refl)

module _ (K V : Kind) (E : ℕ) (k : IsLawful K) (v : IsLawful V) (b : List ℕ) (at : ℕ) (h : IsTrue (stands (map_kind K V E) b at)) where
  -- a map with entries has a root
  root_of : 0 < length (read_map K V E b at) → SpellsRoot K V E b 0 at at (means_read (map_laws K V E k v) b at h).left (read_map K V E b at)
  root_of some =
      let n = map_length K V E k v b at h in
      elim (means_read (map_laws K V E k v) b at h).means.root [
        | inl none ↦ absurd (let z = none.0 in omega arith)
        | inr r ↦ r.1
      ]

  pub root_leads : 0 < length (read_map K V E b at) → LeadsBefore at (Some (place_at b at))
  root_leads some =
      let r = root_of some in
      rw r.leads (starts_before K V E b k v (fitting_of (map_kind K V E) b at h) r.tree 0 at r.start r.spelled)

  pub root_stands : 0 < length (read_map K V E b at) → (q : ℕ) → natural (Some (place_at b at)) ≡ Some q → TreeStands K V E b 32 q
  root_stands some q to =
      let r = root_of some in
      let room = (means_read (map_laws K V E k v) b at h).means.room in
      let same : r.start ≡ q = cc (rw r.leads at to) in
      rw (← same) (spelled_stands K V E b k v (fitting_of (map_kind K V E) b at h) r.tree 32 0 at r.start r.spelled r.levels (omega arith))

  pub root_readable : 0 < length (read_map K V E b at) → (q : ℕ) → natural (Some (place_at b at)) ≡ Some q → TreeCanBeRead K V E b q
  root_readable some q to = record { fitting = fitting_of (map_kind K V E) b at h; short = map_short K V E k v b at h; tree = root_stands some q to }

  pub root_list : 0 < length (read_map K V E b at) → (q : ℕ) → natural (Some (place_at b at)) ≡ Some q → tree_rest (layout_of K V E) b 32 q 0 ≡ list (map_tree (layout_of K V E) b at)
  root_list some q to =
      let n = map_length K V E k v b at h in
      rw (ne_eqb (number_at b (at + 4) 4) 0 (omega arith)) (list_over (layout_of K V E) b (place_at b at) q to)

  -- a search of the map is one of its root
  pub root_searched : 0 < length (read_map K V E b at) → (q : ℕ) → natural (Some (place_at b at)) ≡ Some q → (comparison : ℕ × ℕ → Ordering) → searched (layout_of K V E) b comparison 32 q ≡ searched_map (layout_of K V E) b comparison at
  root_searched some q to comparison =
      let n = map_length K V E k v b at h in
      rw (ne_eqb (number_at b (at + 4) 4) 0 (omega arith)) (search_over (layout_of K V E) b comparison (place_at b at) q to)

  -- and one of an empty map asks nothing
  pub none_searched : length (read_map K V E b at) ≡ 0 → (comparison : ℕ × ℕ → Ordering) → ◌≡◌ {A = Option (ℕ × ℕ) × ℕ} (None, 0) (searched_map (layout_of K V E) b comparison at)
  none_searched none comparison =
      let n = map_length K V E k v b at h in
      rw (eq-eqb (number_at b (at + 4) 4) 0 (omega (arith, n, none))) refl

  -- a search of the map asks at most as many entries as there is room for on each level
  pub map_compared_bound : (comparison : ℕ × ℕ → Ordering) → length (compared_entries comparison (map_tree (layout_of K V E) b at)) ≤ E * height (map_tree (layout_of K V E) b at)
  map_compared_bound comparison =
      let n = map_length K V E k v b at h in
      elim (cases_lt 0 (number_at b (at + 4) 4)) [
        | inl some ↦
            rw (ne_eqb (number_at b (at + 4) 4) 0 (omega arith)) (bound_over K V E b comparison (place_at b at) _ (root_leads (omega (arith, n))) (λ q to. root_stands (omega (arith, n)) q to))
        | inr none ↦ rw (eq-eqb (number_at b (at + 4) 4) 0 (omega arith)) (omega arith)
      ]
