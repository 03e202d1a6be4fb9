-- The last entry of a tree is that of the child after its node's entries, or else the node's own.
use Rattle.std.proofs.Common.{◌≡◌, ◌∙◌, ℕ, zero, suc, ◌+◌, ◌-◌, ◌*◌, ◌≤◌, ◌<◌, ◌++◌, List, [], refl, sym, ap, subst, arith, IfSome, IsTrue, Option, Some, None, Ok}
use Rattle.std.proofs.lemmas.List.{append-nil}
use Rattle.std.specs.List.{last_or}
use Rattle.std.specs.Option.{option_map}
use Rattle.std.specs.Prelude.{pos}
use Rattle.rkyv_btree_portable.specs.Kind.{Kind, IsLawful}
use Rattle.rkyv_btree_portable.specs.Refusing.{AreRefusals}
use Rattle.rkyv_btree_portable.specs.declared.refusal.Refusal.{Refusal}
use Rattle.rkyv_btree_portable.specs.declared.refusal.Refusal.TheVariants.{TooDeep}
use Rattle.rkyv_btree_format.specs.Layout.{NodeLayout, layout_of, are_fitting}
use Rattle.rkyv_btree_format.specs.Read.{entry_at, read_map}
use Rattle.rkyv_btree_source.proofs.Spent.{times_more}
use Rattle.rkyv_btree_source.proofs.Walks.{child_is, child_never, head_leads, node_count, node_never, entry_never}
use Rattle.rkyv_btree_source.specs.LastEntry.{EndRefuses, refused_node, refused_child, IsLastChild, last_root, last_below, last_place, LastFails, refused_end, refused_deep, refused_last}
use Rattle.rkyv_btree_unverified.proofs.Chains.{no_way}
use Rattle.rkyv_btree_unverified.proofs.OnWalks.{end_passes, map_is_read, rest_at, whole_rest}
use Rattle.rkyv_btree_unverified.proofs.Passes.{child_passes, none_left, root_entries, tree_node, with_level}
use Rattle.rkyv_btree_unverified.specs.Steps.{ChildGives, HeadGives, NodeGives}
use Rattle.rkyv_btree_unverified.specs.Walks.{EntryRefuses}
use Rattle.rkyv_btree_unverified.specs.mirror.Passes.{Passes}
use Rattle.rkyv_btree_view.proofs.Lasts.{last_mapped}
use Rattle.rkyv_btree_view.specs.Map.{IsMap}
use Rattle.rkyv_btree_walk.proofs.Lasts.{last_in_child}
use Rattle.rkyv_btree_walk.proofs.Paths.{rest_end, tree_from}
use Rattle.rkyv_btree_walk.specs.EntryPlaces.{entry_places}
use Rattle.rkyv_btree_walk.specs.Nodes.{entry_count, child_place}
use Rattle.rkyv_btree_walk.specs.Paths.{child_list}
use Rattle.rkyv_btree_walk.specs.mirror.Node.{EntryStands}
use Rattle.rkyv_btree_walk.specs.mirror.Path.{tree_rest}

module _ (s : NodeLayout) (b : List ℕ) (m p : ℕ) where
  -- a node without entries has no more than its one child
  none_here : entry_count s b p ≡ 0 → tree_rest s b (suc m) p 0 ≡ child_list s b m (child_place s b p 0)
  unfolding tree_rest
  none_here none = ap (λ xs. child_list s b m (child_place s b p 0) ++ xs) (rest_end s b m p 0 (omega (arith, none))) ∙ append-nil _

  -- the last entry of its tree is one of the child after its entries, or else the last of these, or else that before
  pub last_after : (count : ℕ) (before last : Option (ℕ × ℕ)) → count ≡ entry_count s b p → (count ≡ 0 → last ≡ before) → (0 < count → last ≡ Some (p, count - 1))
      → last_or before (child_list s b (suc m) (Some p)) ≡ last_or last (child_list s b m (child_place s b p count))
  last_after zero before last counted none some = ap (last_or before) (tree_from s b m p ∙ none_here (sym counted)) ∙ rw (none refl) refl
  last_after (suc n) before last counted none some =
      let own = some (omega arith) in
      ap (last_or before) (tree_from s b m p) ∙ last_in_child s b m p before (omega (arith, counted)) ∙ rw (own, counted) refl

-- what holds of the entry before holds of the last one, where it holds of the node's own
pub last_has : (P : ℕ × ℕ → Type 0) (p count : ℕ) (before last : Option (ℕ × ℕ)) → (count ≡ 0 → last ≡ before) → (0 < count → last ≡ Some (p, count - 1)) → IfSome before P → (0 < count → P (p, count - 1)) → IfSome last P
last_has P p zero before last none some old own = subst (λ o. IfSome o P) (sym (none refl)) old
last_has P p (suc n) before last none some old own = subst (λ o. IfSome o P) (sym (some (omega arith))) (own (omega arith))

module _ (K V : Kind) (E : ℕ) (b : List ℕ) (at : ℕ) where
  -- the last entry of all is that of the root's tree
  pub root_last : (root : ℕ) → HeadGives K V E b at (Ok (Some root)) → last_place K V E b at ≡ last_or None (child_list (layout_of K V E) b 32 (Some root))
  root_last root head =
      let s = layout_of K V E in
      let leads = sym (head_leads K V E b at (Some root) head).1 in
      ap (last_or None) (sym (whole_rest s b at) ∙ (rest_at s b at [] (omega arith) root leads ∙ (append-nil _ ∙ sym (tree_from s b 31 root))))

  -- a map without entries has none
  pub no_last : HeadGives K V E b at (Ok None) → last_place K V E b at ≡ None
  no_last head =
      let none = sym (head_leads K V E b at None head).1 in
      ap (last_or None) (sym (whole_rest (layout_of K V E) b at)) ∙ rw none refl

  -- in a map the root's tree passes
  pub root_passes : IsLawful K → IsLawful V → IsTrue (are_fitting K V E) → (root : ℕ) → HeadGives K V E b at (Ok (Some root)) → (m : List (K.Value × V.Value)) → IsMap K V E b at m → Passes K V E b 32 at root
  root_passes k v fits root head m map = end_passes K V E b k v fits at m map [] (no_way (layout_of K V E) b at) root (sym (head_leads K V E b at (Some root) head).1)

-- what a way down by last children has met: on which level a node is, the last entry so far, and what is left of the list
pub record IsGoingDown (K V : Kind) (E : ℕ) (b : List ℕ) (at levels hi p : ℕ) (last : Option (ℕ × ℕ)) : Type 0 where
  pub way : IsLastChild K V E b at (32 - levels) hi p
  pub rest : last_place K V E b at ≡ last_or last (child_list (layout_of K V E) b levels (Some p))
  pub passes : (m : List (K.Value × V.Value)) → IsMap K V E b at m → Passes K V E b levels hi p
  pub stands : (m : List (K.Value × V.Value)) → IsMap K V E b at m → IfSome last (EntryStands K V E b)

module _ (K V : Kind) (E : ℕ) (b : List ℕ) where
  end_never : (n hi p : ℕ) (r : Refusal) → EndRefuses K V E b hi p r → Passes K V E b (suc n) hi p → ⊥
  end_never n hi p r (refused_node bad) passes = node_never K V E b hi p r bad (tree_node K V E b n hi p passes.passes)
  end_never n hi p r (refused_child {count = count} node bad) passes =
      let few = (tree_node K V E b n hi p passes.passes).count in
      child_never K V E b hi p count r bad (omega (arith, few, node_count K V E b hi p count node)) n hi passes

  module _ (KR VR : List ℕ → ℕ → ℕ → ℕ → Refusal → Type 0) (at levels hi p : ℕ) (last : Option (ℕ × ℕ)) (h : IsGoingDown K V E b at levels hi p last) where
    -- no map has a node on a 33rd level
    pub deep_fails : levels ≡ 0 → LastFails K V E b at KR VR (TooDeep (pos p))
    deep_fails none = record {
      refuses = refused_deep (subst (λ n. IsLastChild K V E b at (32 - n) hi p) none h.way);
      no_map = λ m map. none_left K V E b levels hi p none (h.passes m map);
    }

    -- nor one whose end is refused
    pub end_fails : (r : Refusal) → EndRefuses K V E b hi p r → LastFails K V E b at KR VR r
    end_fails r bad = record {
      refuses = refused_end h.way bad;
      no_map = λ m map. end_never (levels - 1) hi p r bad (with_level K V E b levels hi p (h.passes m map));
    }

    module _ (some_level : ¬ (levels ≡ 0)) (count : ℕ) (below : Option ℕ) (node : NodeGives K V E b hi p (Ok count)) (child : ChildGives K V E b hi p count (Ok below)) (next : Option (ℕ × ℕ)) (none : count ≡ 0 → next ≡ last)
        (some : 0 < count → next ≡ Some (p, count - 1)) where
      left : last_place K V E b at ≡ last_or next (child_list (layout_of K V E) b (levels - 1) below)
      left =
          let s = layout_of K V E in
          let level : levels ≡ suc (levels - 1) = omega (arith, some_level) in
          subst (λ n. last_place K V E b at ≡ last_or last (child_list s b n (Some p))) level h.rest
          ∙ (last_after s b (levels - 1) p count last next (node_count K V E b hi p count node) none some ∙ ap (λ c. last_or next (child_list s b (levels - 1) c)) (sym (child_is K V E b hi p count below child)))

      -- in a map the entry met last is valid
      pub next_stands : (m : List (K.Value × V.Value)) → IsMap K V E b at m → IfSome next (EntryStands K V E b)
      next_stands m map =
          last_has (EntryStands K V E b) p count last next none some (h.stands m map)
          (λ low. root_entries K V E b (levels - 1) hi p count (with_level K V E b levels hi p (h.passes m map)) (node_count K V E b hi p count node) (count - 1) (omega (arith, low)))

      -- where there is no child, it is the last of all
      pub ends_there : below ≡ None → last_place K V E b at ≡ next
      ends_there no_child = left ∙ rw no_child refl

      -- where there is one, the way goes on there
      pub goes_there : levels ≤ 32 → count ≤ E → (q : ℕ) → below ≡ Some q → IsGoingDown K V E b at (levels - 1) p q next
      goes_there most few q to =
          let level : suc (32 - levels) ≡ 32 - (levels - 1) = omega (arith, most, some_level) in
          record {
            way = subst (λ n. IsLastChild K V E b at n p q) level (last_below h.way node (rw to at child));
            rest = left ∙ rw to refl;
            passes = λ m map. child_passes K V E b (levels - 1) hi p count q (with_level K V E b levels hi p (h.passes m map)) few (sym (child_is K V E b hi p count below child) ∙ to);
            stands = next_stands;
          }

  -- where the entry is refused, the bytes are no map
  pub entry_fails : IsLawful K → IsLawful V → (KR VR : List ℕ → ℕ → ℕ → ℕ → Refusal → Type 0) → AreRefusals K KR → AreRefusals V VR → (at : ℕ) (e : ℕ × ℕ) → last_place K V E b at ≡ Some e
      → ((m : List (K.Value × V.Value)) → IsMap K V E b at m → EntryStands K V E b e) → (r : Refusal) → EntryRefuses K V E b KR VR e r → LastFails K V E b at KR VR r
  entry_fails k v KR VR kr vr at e is stands r bad = record { refuses = refused_last is bad; no_map = λ m map. entry_never K V E b k v KR VR kr vr e r bad (stands m map) }

-- the way down begins at the root
pub starts_down : (K V : Kind) (E : ℕ) (b : List ℕ) → IsLawful K → IsLawful V → IsTrue (are_fitting K V E) → (at root : ℕ) → HeadGives K V E b at (Ok (Some root)) → IsGoingDown K V E b at 32 at root None
starts_down K V E b k v fits at root head = record {
  way = last_root head;
  rest = root_last K V E b at root head;
  passes = root_passes K V E b at k v fits root head;
  stands = λ m map. tt;
}

-- a level less takes a node of the budget
pub level_spent : (levels node old mid left all : ℕ) → old + levels * node ≤ mid + all → mid ≤ left + node → ¬ (levels ≡ 0) → old + (levels - 1) * node ≤ left + all
level_spent levels node old mid left all before here some =
    let same : levels - 1 + 1 ≡ levels = omega (arith, some) in
    let count : levels * node ≡ (levels - 1) * node + node = rw same at (times_more (levels - 1) node) in
    omega (arith, before, here, count)

-- the last entry of the list is that at the last place
pub last_entry : (K V : Kind) (E : ℕ) (b : List ℕ) (at : ℕ) (o : Option (ℕ × ℕ)) → last_place K V E b at ≡ o → option_map (entry_at K V E b) o ≡ last_or None (read_map K V E b at)
last_entry K V E b at o is = ap (option_map (entry_at K V E b)) (sym is) ∙ last_mapped (entry_at K V E b) (entry_places K V E b at)

-- so it is that of a map
pub last_of_map : (K V : Kind) (E : ℕ) (b : List ℕ) → IsLawful K → IsLawful V → (at : ℕ) (found : Option (K.Value × V.Value)) → found ≡ last_or None (read_map K V E b at)
    → (m : List (K.Value × V.Value)) → IsMap K V E b at m → found ≡ last_or None m
last_of_map K V E b k v at found last m h = last ∙ ap (last_or None) (map_is_read K V E b k v at m h)
