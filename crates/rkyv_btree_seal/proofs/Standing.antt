-- The entries of a map that stands do, whichever of them it is.
use Rattle.std.proofs.Common.{◌≡◌, ℕ, zero, suc, ◌+◌, ◌≤◌, IsTrue, List, ◌∷◌, refl, sym, ap, subst, arith, false, Option, Some, None, slice_get, nat_eq, inl, inr, unwrap_or}
use Rattle.std.proofs.lemmas.Bool.{cases_Bool, eqb-false}
use Rattle.std.specs.List.{All}
use Rattle.std.proofs.lemmas.List.Elements.{All-nil, All-append}
use Rattle.std.proofs.lemmas.Option.{slice_get_within, unwrap_or-slice_get}
use Rattle.std.specs.Prelude.{ℤ, pos, negsuc}
use Rattle.rkyv_btree_portable.specs.Bytes.{number_at, target_at, place_at}
use Rattle.rkyv_btree_portable.specs.Kind.{Kind, IsLawful}
use Rattle.rkyv_btree_format.specs.Layout.{layout_of, len_at, pointer_at}
use Rattle.rkyv_btree_verify.specs.Map.{map_kind}
use Rattle.rkyv_btree_format.specs.Read.{run, child_of, row_at, tree_at, tree_of}
use Rattle.rkyv_btree_shape.specs.Tree.{list, child_list, row_list}
use Rattle.rkyv_btree_portable.specs.Views.{stands}
use Rattle.rkyv_btree_walk.specs.Nodes.{natural, is_leaf}
use Rattle.rkyv_btree_walk.specs.mirror.Node.{NodeStands, RunStands, TreeStands}
use Rattle.rkyv_btree_verify.proofs.MapLaws.{map_length}
use Rattle.rkyv_btree_walk.proofs.Nodes.{tree_node, child_stands}
use Rattle.rkyv_btree_walk.proofs.Paths.{leaf_run, inner_run}
use Rattle.rkyv_btree_walk.proofs.Roots.{root_stands}
use Rattle.rkyv_btree_walk.specs.EntryPlaces.{entry_places}

all_put : {X : Type 0} (P : X → Type 0) (x : X) (xs : List X) → P x → All P xs → All P (x ∷ xs)
all_put P x xs first rest zero d within = first
all_put P x xs first rest (suc k) d within = rest k d (omega arith)

-- an element is one of which all holds
all_get : {X : Type 0} (P : X → Type 0) (xs : List X) (i : ℕ) (x : X) → All P xs → slice_get xs i ≡ Some x → P x
all_get P xs i x h e = subst P (ap (λ o. unwrap_or o x) e) (subst P (sym (unwrap_or-slice_get xs i x)) (h i x (slice_get_within xs i x e)))

module _ (K V : Kind) (E : ℕ) (b : List ℕ) where
  -- the entry stands
  abbrev Stands : ℕ × ℕ → Type 0
  Stands e = RunStands K V E b e.0 e.1 (e.1 + 1)

  all_run : (p n i end : ℕ) → i + n ≤ end → RunStands K V E b p i end → All Stands (run (layout_of K V E) b p n i)
  all_run p zero i end le h = All-nil Stands
  all_run p (suc n) i end le h = all_put Stands (p, i) _ (λ j low high. h j low (omega arith)) (all_run p n (i + 1) end (omega arith) (λ j low high. h j (omega arith) high))

  module _ (levels p : ℕ) (node : NodeStands K V E b p) (inner : is_leaf (layout_of K V E) b p ≡ false) (below : (i q : ℕ) → i ≤ E → natural (target_at b (p + pointer_at (layout_of K V E) i)) ≡ Some q → All Stands (list (tree_at (layout_of K V E) b levels q))) where
    all_child : (i : ℕ) → i ≤ E → (t : Option ℤ) → t ≡ target_at b (p + pointer_at (layout_of K V E) i) → All Stands (child_list (child_of (layout_of K V E) b (tree_at (layout_of K V E) b levels) t))
    all_child i le None e = All-nil Stands
    all_child i le (Some (negsuc n)) e = All-nil Stands
    all_child i le (Some (pos q)) e = below i q le (ap natural (sym e))

    all_row : (n i : ℕ) → i + n ≡ E → All Stands (row_list (row_at (layout_of K V E) b (tree_at (layout_of K V E) b levels) p n i))
    all_row zero i e = all_child i (omega arith) _ refl
    all_row (suc n) i e = All-append Stands _ _ (all_child i (omega arith) _ refl) (all_put Stands (p, i) _ (inner_run K V E b p node inner i (omega arith)) (all_row n (i + 1) (omega arith)))

  all_tree : (levels p : ℕ) → TreeStands K V E b levels p → All Stands (list (tree_at (layout_of K V E) b levels p))
  all_tree zero p h = All-nil Stands
  all_tree (suc levels) p h =
      let node = tree_node K V E b (suc levels) p h in
      elim (cases_Bool (is_leaf (layout_of K V E) b p)) [
        | inl e ↦ rw e (all_run p (number_at b (p + len_at (layout_of K V E)) 4) 0 _ (omega arith) (leaf_run K V E b p node e))
        | inr e ↦
            let below : (i q : ℕ) → i ≤ E → natural (target_at b (p + pointer_at (layout_of K V E) i)) ≡ Some q → All Stands (list (tree_at (layout_of K V E) b levels q)) = λ i q le to. all_tree levels q (child_stands K V E b levels p h i q le (rw e to)) in
            rw e (all_row levels p node e below E 0 (omega arith))
      ]

  all_under : (t : ℤ) → ((q : ℕ) → natural (Some t) ≡ Some q → TreeStands K V E b 32 q) → All Stands (list (tree_of (layout_of K V E) b t))
  unfolding tree_of
  all_under (pos q) h = all_tree 32 q (h q refl)
  all_under (negsuc n) h = All-nil Stands

  module _ (k : IsLawful K) (v : IsLawful V) (at : ℕ) (h : IsTrue (stands (map_kind K V E) b at)) where
    all_map : All Stands (entry_places K V E b at)
    all_map = elim (cases_Bool (nat_eq (number_at b (at + 4) 4) 0)) [
      | inl e ↦ rw e (All-nil Stands)
      | inr e ↦
          let n = map_length K V E k v b at h in
          rw e (all_under (place_at b at) (root_stands K V E k v b at h (omega (arith, eqb-false (number_at b (at + 4) 4) 0 e))))
    ]

    pub entry_stands : (i : ℕ) (e : ℕ × ℕ) → slice_get (entry_places K V E b at) i ≡ Some e → RunStands K V E b e.0 e.1 (e.1 + 1)
    entry_stands i e is = all_get Stands (entry_places K V E b at) i e all_map is
