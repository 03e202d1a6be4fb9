-- Where a tree is spelled, its nodes pass all checks.
use Rattle.std.proofs.Common.{◌≡◌, ◌*◌, min, ◌%◌, ℕ, zero, suc, ◌+◌, ◌-◌, ◌≤◌, ◌<◌, IsTrue, List, length, refl, subst, ap, arith, true, false, Option, Some, None, Ok, slice_index, inl, inr}
use Rattle.std.proofs.lemmas.Bool.{eq-eqb, ne_eqb, cases_lt}
use Rattle.std.specs.Prelude.{ℤ, pos, negsuc}
use Rattle.rkyv_btree_portable.specs.Bytes.{target_at, place_at, number_at}
use Rattle.rkyv_btree_portable.specs.Kind.{Kind, IsLawful}
use Rattle.rkyv_btree_portable.specs.declared.refusal.Refusal.{Refusal}
use Rattle.rkyv_btree_format.specs.Layout.{NodeLayout, layout_of, are_fitting, pointer_at}
use Rattle.std.specs.declared.cmp.Ordering.{Ordering}
use Rattle.std.specs.declared.cmp.Ordering.TheVariants.{Less, Equal, Greater}
use Rattle.rkyv_btree_walk.specs.mirror.Search.{comparison_at, searched, searched_map}
use Rattle.rkyv_btree_verify.specs.Map.{map_kind}
use Rattle.rkyv_btree_format.specs.Spells.{Spells, SpellsRow, SpellsChild, Accepted}
use Rattle.rkyv_btree_shape.specs.Tree.{Tree, leaf, inner, Row, last, step, Child, absent, child, row_entries, height, row_height, child_height}
use Rattle.rkyv_btree_format.proofs.Sizes.{room_of}
use Rattle.rkyv_btree_walk.specs.Nodes.{natural, is_leaf, child_place, entry_count}
use Rattle.rkyv_btree_walk.specs.mirror.Node.{EntryStands}
use Rattle.rkyv_btree_walk.proofs.Nodes.{spelled_stands, child_stands, tree_node as tree_stands}
use Rattle.rkyv_btree_portable.specs.Refusing.{Misplaced, too_long, no_room, unaligned}
use Rattle.rkyv_btree_portable.specs.Views.{stands}
use Rattle.rkyv_btree_portable.specs.laws.Views.{stands_of}
use Rattle.rkyv_btree_verify.proofs.MapLaws.{map_laws, map_length}
use Rattle.rkyv_btree_walk.proofs.Roots.{root_searched}
use Rattle.rkyv_btree_unverified.specs.Steps.{key_place, HasRoom, Gives, KeysGive, equal_key, stops}
use Rattle.rkyv_btree_unverified.specs.mirror.Passes.{comparisons_by, NextCounts, NodePasses, TreePasses, Passes, HaltStands, NextStands, NextPasses, NextFinds, NextEqual}
use Rattle.rkyv_btree_unverified.specs.declared.search.Halt.{Halt}
use Rattle.rkyv_btree_unverified.specs.declared.search.Halt.TheVariants.{Found, Below}
use Rattle.rkyv_btree_unverified.specs.declared.search.Next.{Next}
use Rattle.rkyv_btree_unverified.specs.declared.search.Next.TheVariants.{Hit, Miss, Down}

module _ (K V : Kind) (E : ℕ) (b : List ℕ) where
  grown : (m hi p : ℕ) → NodePasses (layout_of K V E) b hi p → ((i q : ℕ) → i ≤ E → child_place (layout_of K V E) b p i ≡ Some q → TreePasses (layout_of K V E) b m p q) → TreePasses (layout_of K V E) b (suc m) hi p
  unfolding TreePasses
  grown m hi p node below = (node, below)

  pub tree_node : (m hi p : ℕ) → TreePasses (layout_of K V E) b (suc m) hi p → NodePasses (layout_of K V E) b hi p
  unfolding TreePasses
  tree_node m hi p h = h.0

  pub tree_below : (m hi p : ℕ) → TreePasses (layout_of K V E) b (suc m) hi p → (i q : ℕ) → i ≤ E → child_place (layout_of K V E) b p i ≡ Some q → TreePasses (layout_of K V E) b m p q
  unfolding TreePasses
  tree_below m hi p h = h.1

  pub no_level : (hi p : ℕ) → TreePasses (layout_of K V E) b 0 hi p → ⊥
  unfolding TreePasses
  no_level hi p h = h

  module _ (k : IsLawful K) (v : IsLawful V) (fits : IsTrue (are_fitting K V E)) where
    mutual
      -- where a tree is spelled, one of that many levels passes
      pub spelled_passes : (t : Tree (K.Value × V.Value)) (levels lo hi p : ℕ) → Spells K V E b lo hi p t → height t ≤ levels → TreePasses (layout_of K V E) b levels hi p
      spelled_passes (leaf m) zero lo hi p h d = absurd (omega arith)
      spelled_passes (inner row) zero lo hi p h d = absurd (omega arith)
      spelled_passes (leaf m) (suc levels) lo hi p h d =
          let few = h.2 in
          let e : is_leaf (layout_of K V E) b p ≡ true = eq-eqb (slice_index b p) 0 h.0.kind_byte in
          grown levels hi p record {
            leaf_room = h.0.room;
            aligned = h.0.aligned;
            kind = λ no. absurd (cc (e, no));
            inner_room = λ no. absurd (cc (e, no));
            count = rw (e, h.1) few;
          } (λ i q le to. absurd (cc (rw e at to)))
      spelled_passes (inner row) (suc levels) lo hi p h d =
          let room = h.0.room in
          let byte = h.0.kind_byte in
          let parts = (room_of K V E k v fits).parts.leaf in
          let e : is_leaf (layout_of K V E) b p ≡ false = ne_eqb (slice_index b p) 0 (omega arith) in
          let many = h.1 in
          let children = row_passes row levels p 0 lo h.2 h.3 (omega arith) (omega arith) in
          grown levels hi p record {
            leaf_room = omega arith;
            aligned = h.0.aligned;
            kind = λ no. byte;
            inner_room = λ no. room;
            count = rw e (omega arith);
          } (λ i q le to. children i (omega arith) le q (rw e at to))

      row_passes : (row : Row (K.Value × V.Value)) (levels p i lo mid : ℕ) → SpellsRow K V E b p i lo mid row → i + length (row_entries row) ≡ E → row_height row ≤ levels
          → (j : ℕ) → i ≤ j → j ≤ E → (q : ℕ) → natural (target_at b (p + pointer_at (layout_of K V E) j)) ≡ Some q → TreePasses (layout_of K V E) b levels p q
      row_passes (last c) levels p i lo mid h n d j low high =
          let same : j ≡ i = omega arith in
          rw same (pointer_passes c levels p i lo mid h d)
      row_passes (step c e row) levels p i lo mid h n d j low high =
          elim (cases_lt i j) [
            | inl after ↦ row_passes row levels p (i + 1) h.0 mid h.2 (omega arith) (omega arith) j (omega arith) high
            | inr here ↦ let same : j ≡ i = omega arith in rw same (pointer_passes c levels p i lo h.0 h.1 (omega arith))
          ]

      pointer_passes : (c : Child (K.Value × V.Value)) (levels p i lo next : ℕ) → SpellsChild K V E b p i lo next c → child_height c ≤ levels
          → (q : ℕ) → natural (target_at b (p + pointer_at (layout_of K V E) i)) ≡ Some q → TreePasses (layout_of K V E) b levels p q
      pointer_passes absent levels p i lo next h d q to = absurd (cc (rw h.0 at to))
      pointer_passes (child t) levels p i lo next h d q to =
          let below = spelled_passes t levels lo p h.0 h.2 d in
          let same : q ≡ h.0 = cc (rw h.1 at to) in
          rw same below

    -- the root of an accepted map passes
    pub accepted_passes : (at left q : ℕ) (m : List (K.Value × V.Value)) → Accepted K V E b 0 at at left m → ¬ (number_at b (at + 4) 4 ≡ 0) → place_at b at ≡ pos q → Passes K V E b 32 at q
    accepted_passes at left q m h some to =
        elim h.root [
          | inl none ↦ absurd (some none.0)
          | inr r ↦
              let room = h.room in
              let same : r.1.start ≡ q = cc (rw r.1.leads at to) in
              rw (← same) (record {
                stands = spelled_stands K V E b k v fits r.1.tree 32 0 at r.1.start r.1.spelled r.1.levels (omega arith);
                passes = spelled_passes r.1.tree 32 0 at r.1.start r.1.spelled r.1.levels;
              })
        ]

-- the entries of a tree's root stand
pub root_entries : (K V : Kind) (E : ℕ) (b : List ℕ) (m hi p n : ℕ) → Passes K V E b (suc m) hi p → n ≡ entry_count (layout_of K V E) b p → (i : ℕ) → i < n → EntryStands K V E b (p, i)
root_entries K V E b m hi p n h counted i low = (tree_stands K V E b (suc m) p h.stands).entries i (omega arith)

-- a child's tree passes, where the node's does
pub child_passes : (K V : Kind) (E : ℕ) (b : List ℕ) (m hi p i q : ℕ) → Passes K V E b (suc m) hi p → i ≤ E → child_place (layout_of K V E) b p i ≡ Some q → Passes K V E b m p q
child_passes K V E b m hi p i q h le to = record { stands = child_stands K V E b m p h.stands i q le to; passes = tree_below K V E b m hi p h.passes i q le to }

pass_node : (K V : Kind) (E : ℕ) (b : List ℕ) (m hi p : ℕ) → TreePasses (layout_of K V E) b m hi p → NodePasses (layout_of K V E) b hi p
pass_node K V E b zero hi p h = absurd (no_level K V E b hi p h)
pass_node K V E b (suc m) hi p h = tree_node K V E b m hi p h

-- a tree has a level
pub levels_left : (K V : Kind) (E : ℕ) (b : List ℕ) (levels hi p : ℕ) → Passes K V E b levels hi p → levels ≡ suc (levels - 1)
levels_left K V E b zero hi p h = absurd (no_level K V E b hi p h.passes)
levels_left K V E b (suc m) hi p h = omega arith

pub none_left : (K V : Kind) (E : ℕ) (b : List ℕ) (levels hi p : ℕ) → levels ≡ 0 → Passes K V E b levels hi p → ⊥
none_left K V E b zero hi p e h = no_level K V E b hi p h.passes
none_left K V E b (suc m) hi p e h = omega (arith, e)

pub with_level : (K V : Kind) (E : ℕ) (b : List ℕ) (levels hi p : ℕ) → Passes K V E b levels hi p → Passes K V E b (suc (levels - 1)) hi p
with_level K V E b levels hi p h = subst (λ n. Passes K V E b n hi p) (levels_left K V E b levels hi p h) h

-- the search of a map that was checked stops there too
module _ (K V : Kind) (E : ℕ) (b : List ℕ) (comparison : K.Value → Ordering) (KR VR : List ℕ → ℕ → ℕ → ℕ → Refusal → Type 0) (p n i : ℕ) where
  at_found : KeysGive K V E b comparison KR VR p n (Ok (Found i))
      → (i < n) × ((k : ℕ) → k < i → comparison_at K V E b comparison (p, k) ≡ Greater) × (comparison_at K V E b comparison (p, i) ≡ Equal)
  at_found (equal_key asks equal valid) = (asks.within, λ k l. (asks.before k l).gives, equal.gives)

  at_below : KeysGive K V E b comparison KR VR p n (Ok (Below i))
      → (i ≤ n) × ((k : ℕ) → k < i → comparison_at K V E b comparison (p, k) ≡ Greater) × (i < n → comparison_at K V E b comparison (p, i) ≡ Less)
  at_below (stops s) = (s.within, λ k l. (s.before k l).gives, λ l. (s.less l).gives)

  module _ (halt : Halt) (h : KeysGive K V E b comparison KR VR p n (Ok halt)) where
    pub found_stops : halt ≡ Found i → (i < n) × ((k : ℕ) → k < i → comparison_at K V E b comparison (p, k) ≡ Greater) × (comparison_at K V E b comparison (p, i) ≡ Equal)
    found_stops is = let keys : KeysGive K V E b comparison KR VR p n (Ok (Found i)) = rw is at h in at_found keys

    pub below_stops : halt ≡ Below i → (i ≤ n) × ((k : ℕ) → k < i → comparison_at K V E b comparison (p, k) ≡ Greater) × (i < n → comparison_at K V E b comparison (p, i) ≡ Less)
    below_stops is = let keys : KeysGive K V E b comparison KR VR p n (Ok (Below i)) = rw is at h in at_below keys

-- a key that is valid where the layout has it
pub gives_at : (K V : Kind) (E : ℕ) (b : List ℕ) (comparison : K.Value → Ordering) (o : Ordering) (e : ℕ × ℕ) (at : ℕ) → at ≡ key_place K V E e → IsTrue (stands K b at)
    → comparison (K.read b at) ≡ o → Gives K V E b comparison o e
gives_at K V E b comparison o e at same v g = record { valid = subst (λ x. IsTrue (stands K b x)) same v; gives = subst (λ x. comparison (K.read b x) ≡ o) same g }

pub below_within : (K V : Kind) (E : ℕ) (b : List ℕ) (p n i : ℕ) (halt : Halt) → halt ≡ Below i → HaltStands K V E b p n halt → i ≤ n
below_within K V E b p n i halt is h = rw is at h

module _ (K V : Kind) (E : ℕ) (b : List ℕ) (m p : ℕ) (next : Next) where
  pub down_stands : (q : ℕ) → next ≡ Down q → NextStands K V E b p next → HasRoom K V E p q
  down_stands q is h = rw is at h

  pub down_passes : (q : ℕ) → next ≡ Down q → NextPasses K V E b m p next → Passes K V E b m p q
  down_passes q is h = rw is at h

  module _ (comparison : ℕ × ℕ → Ordering) (found : Option (ℕ × ℕ)) (h : NextFinds (layout_of K V E) b comparison m p found next) where
    pub hit_finds : (i : ℕ) → next ≡ Hit i → found ≡ Some (p, i)
    hit_finds i is = rw is at h

    pub miss_finds : next ≡ Miss → found ≡ None
    miss_finds is = rw is at h

    pub down_finds : (q : ℕ) → next ≡ Down q → found ≡ (searched (layout_of K V E) b comparison m q).0
    down_finds q is = rw is at h

pub child_none : (s : NodeLayout) (b : List ℕ) (p i : ℕ) → is_leaf s b p ≡ false → target_at b (p + pointer_at s i) ≡ None → child_place s b p i ≡ None
child_none s b p i e t = rw (e, t) refl

pub child_some : (s : NodeLayout) (b : List ℕ) (p i q : ℕ) (z : ℤ) → is_leaf s b p ≡ false → target_at b (p + pointer_at s i) ≡ Some z → z ≡ pos q → child_place s b p i ≡ Some q
child_some s b p i q z e t z-is = rw (e, t, z-is) refl

-- a child of a tree that passes has a place in front of it
pub child_fits : (K V : Kind) (E : ℕ) (b : List ℕ) (m hi p i : ℕ) (z : ℤ) → Passes K V E b (suc m) hi p → is_leaf (layout_of K V E) b p ≡ false → i ≤ E → target_at b (p + pointer_at (layout_of K V E) i) ≡ Some z
    → (q : ℕ) × (z ≡ pos q) × HasRoom K V E p q
child_fits K V E b m hi p i (negsuc n) h e le t = absurd (rw t at ((tree_stands K V E b (suc m) p h.stands).leads e i le))
child_fits K V E b m hi p i (pos q) h e le t =
    let node = pass_node K V E b m p q (child_passes K V E b m hi p i q h le (child_some (layout_of K V E) b p i q (pos q) e t refl)).passes in
    (q, refl, record { room = node.leaf_room; aligned = node.aligned })

pub found_on : (s : NodeLayout) (b : List ℕ) (comparison : ℕ × ℕ → Ordering) (levels m p : ℕ) {r found : Option (ℕ × ℕ)} → r ≡ (searched s b comparison levels p).0 → levels ≡ suc m → (searched s b comparison (suc m) p).0 ≡ found → r ≡ found
found_on s b comparison levels m p is e f = rw (is, e, f) refl

pub target_none : (b : List ℕ) (at : ℕ) → number_at b at 4 ≡ 1 → target_at b at ≡ None
unfolding target_at
target_none b at e = rw (eq-eqb (number_at b at 4) 1 e) refl

pub target_some : (b : List ℕ) (at : ℕ) → ¬ (number_at b at 4 ≡ 1) → target_at b at ≡ Some (place_at b at)
unfolding target_at
target_some b at e = rw (ne_eqb (number_at b at 4) 1 e) refl

module _ (K V : Kind) (E : ℕ) (b : List ℕ) (k : IsLawful K) (v : IsLawful V) (fits : IsTrue (are_fitting K V E)) (at left : ℕ) (m : List (K.Value × V.Value)) (h : Accepted K V E b 0 at at left m) (some : ¬ (number_at b (at + 4) 4 ≡ 0)) where
  -- the root of an accepted map has a place in front of it
  pub root_fits : (q : ℕ) × (place_at b at ≡ pos q) × HasRoom K V E at q
  root_fits =
      elim h.root [
        | inl none ↦ absurd (some none.0)
        | inr r ↦ let node = pass_node K V E b 32 at r.1.start (accepted_passes K V E b k v fits at left r.1.start m h some r.1.leads).passes in (r.1.start, r.1.leads, record { room = node.leaf_room; aligned = node.aligned })
      ]

  -- and its search is that of the map
  pub root_finds : (q : ℕ) → place_at b at ≡ pos q → (comparison : ℕ × ℕ → Ordering) → (searched (layout_of K V E) b comparison 32 q).0 ≡ (searched_map (layout_of K V E) b comparison at).0
  root_finds q to comparison =
      let st : IsTrue (stands (map_kind K V E) b at) = stands_of (map_laws K V E k v) fits b 0 at at left m h in
      let n = map_length K V E k v b at st in
      let some2 : 0 < number_at b (at + 4) 4 = omega (arith, some) in
      ap (λ r. r.0) (root_searched K V E k v b at st (omega (arith, n, some2)) q (rw to refl) comparison)

  -- and asks as many entries
  pub root_asks : (q : ℕ) → place_at b at ≡ pos q → (comparison : ℕ × ℕ → Ordering) → (searched (layout_of K V E) b comparison 32 q).1 ≡ (searched_map (layout_of K V E) b comparison at).1
  root_asks q to comparison =
      let st : IsTrue (stands (map_kind K V E) b at) = stands_of (map_laws K V E k v) fits b 0 at at left m h in
      let n = map_length K V E k v b at st in
      let some2 : 0 < number_at b (at + 4) 4 = omega (arith, some) in
      ap (λ r. r.1) (root_searched K V E k v b at st (omega (arith, n, some2)) q (rw to refl) comparison)

pub hit_equal : (comparison : ℕ × ℕ → Ordering) (p i : ℕ) (next : Next) → next ≡ Hit i → NextEqual comparison p next → comparison (p, i) ≡ Equal
hit_equal comparison p i next is h = rw is at h

-- how many entries were asked, where the search of a node stops here
pub found_compared : (n i before after : ℕ) (halt : Halt) → halt ≡ Found i → after ≡ before + comparisons_by n halt → after ≡ before + (i + 1)
found_compared n i before after halt is h = rw is at h

pub below_compared : (n i before after : ℕ) (halt : Halt) → halt ≡ Below i → after ≡ before + comparisons_by n halt → after ≡ before + min (i + 1) n
below_compared n i before after halt is h = rw is at h

module _ (s : NodeLayout) (b : List ℕ) (comparison : ℕ × ℕ → Ordering) (m before after all : ℕ) (next : Next) (h : NextCounts s b comparison m before after all next) where
  pub hit_counts : (i : ℕ) → next ≡ Hit i → after ≡ before + all
  hit_counts i is = rw is at h

  pub miss_counts : next ≡ Miss → after ≡ before + all
  miss_counts is = rw is at h

  pub down_counts : (q : ℕ) → next ≡ Down q → after + (searched s b comparison m q).1 ≡ before + all
  down_counts q is = rw is at h

-- a level has room for E entries
pub level_more : (E levels m : ℕ) → levels ≡ suc m → E * levels ≡ E * m + E
level_more E levels m is = rw is (let d : E * (1 + m) ≡ E + E * m = grind arith in omega (arith, d))

pub compared_on : (s : NodeLayout) (b : List ℕ) (comparison : ℕ × ℕ → Ordering) (levels m p : ℕ) → levels ≡ suc m → (searched s b comparison levels p).1 ≡ (searched s b comparison (suc m) p).1
compared_on s b comparison levels m p is = rw is refl

-- own bytes that lie in the buffer, aligned, aren't misplaced
pub not_misplaced : (b : List ℕ) (at : ℕ) (e : Refusal) → length b ≤ 4294967295 → at + 8 ≤ length b → at % 4 ≡ 0 → Misplaced b 8 4 at e → ⊥
not_misplaced b at e short room aligned (too_long h) = absurd (omega (arith, h, short))
not_misplaced b at e short room aligned (no_room few h) = absurd (omega (arith, h, room))
not_misplaced b at e short room aligned (unaligned few r h) = absurd (h aligned)
