-- Nodes that pointers lead to, and cursors that are places in a map.
use Rattle.std.proofs.Common.{◌≡◌, ℕ, zero, suc, ◌+◌, ◌≤◌, ◌<◌, ◌∙◌, List, [], ◌∷◌, length, get_or, map, take, IfSome, IsTrue, refl, sym, ap, subst, arith, Option, Some, None}
use mathlib.Core.HLevel.{⊥_prop}
use mathlib.Core.Logic.{∥∥₁_map, ∥∥₁_elim}
use Rattle.std.proofs.Math.ListN.{get_or-map}
use Rattle.std.proofs.lemmas.List.{get_or-take}
use Rattle.rkyv_btree_portable.specs.Kind.{Kind, IsLawful}
use Rattle.rkyv_btree_format.specs.Layout.{NodeLayout, layout_of}
use Rattle.rkyv_btree_verify.specs.Map.{map_kind}
use Rattle.rkyv_btree_portable.specs.Views.{stands}
use Rattle.rkyv_btree_walk.proofs.Placed.{between_left}
use Rattle.rkyv_btree_walk.specs.Remaining.{places_between}
use Rattle.rkyv_btree_walk.specs.WalkBetween.{IsRangeWalk, IsWalkBetween, range_left}
use Rattle.rkyv_btree_walk.specs.Below.{root_place, IsBelow, PathBelow, RunBelow, WalkBelow}
use Rattle.rkyv_btree_walk.specs.Nodes.{child_place}
use Rattle.rkyv_btree_ffi.specs.declared.cursor.BtreeCursor.{BtreeCursor}
use Rattle.rkyv_btree_ffi.specs.declared.cursor.BtreeStep.{BtreeStep}
use Rattle.rkyv_btree_walk.specs.declared.range_walk.RangeWalk.{RangeWalk}
use Rattle.rkyv_btree_ffi.specs.Cursors.{IsKept, step_of}
use Rattle.rkyv_btree_ffi.specs.CursorEntries.{cursor_places}
use Rattle.rkyv_btree_ffi.specs.CursorPlaces.{Leads, IsStep, IsPlaceOf, IsGood}

module _ (s : NodeLayout) (b : List ℕ) where
  -- one pointer more
  leads_more : (d r p i q : ℕ) → Leads s b d r p → i ≤ s.E → child_place s b p i ≡ Some q → Leads s b (suc d) r q
  leads_more zero r p i q h low to = (i, q, low, subst (λ (x : ℕ). child_place s b x i ≡ Some q) (sym h) to, refl)
  leads_more (suc d) r p i q h low to = (h.0, h.1, h.2, h.3, leads_more d h.1 p i q h.4 low to)

  -- pointers lead to a node through one child or another
  pub leads_step : (n d p i c q : ℕ) → n ≡ suc d → i ≤ s.E → child_place s b p i ≡ Some c → Leads s b d c q → Leads s b n p q
  leads_step n d p i c q is low to h = rw is (i, c, low, to, h)

  pub leads_none : (n d p q : ℕ) → n ≡ suc d → ((i c : ℕ) → i ≤ s.E → child_place s b p i ≡ Some c → Leads s b d c q → ⊥) → Leads s b n p q → ⊥
  leads_none n d p q is none h = let g : Leads s b (suc d) p q = rw is at h in none g.0 g.1 g.2 g.3 g.4

  module _ (root : Option ℕ) where
    -- a node below the root is one that pointers lead to from it
    pub below_leads : (d q : ℕ) → IsBelow s b root d q → (r : ℕ) × (root ≡ Some r) × Leads s b d r q
    below_leads zero q h = (q, h, refl)
    below_leads (suc d) q h =
        let r = below_leads d h.0 h.2 in
        (r.0, r.1, leads_more d r.0 h.0 h.1 q r.2 h.3 h.4)

    pub leads_below : (d k r q n : ℕ) → n ≡ k + d → IsBelow s b root k r → Leads s b d r q → IsBelow s b root n q
    leads_below zero k r q n is below h = let e : n ≡ k = omega arith in rw e (subst (λ (x : ℕ). IsBelow s b root k x) h below)
    leads_below (suc d) k r q n is below h = leads_below d (suc k) h.1 q n (omega arith) (r, h.0, below, h.2, h.3) h.4

    -- by an equal number
    pub below_at : (d n q : ℕ) → n ≡ d → IsBelow s b root d q → IsBelow s b root n q
    below_at d n q is below = rw is below

    -- each node of a path is at its level
    pub path_step : (d k n : ℕ) (fs : List (ℕ × ℕ)) (x : ℕ × ℕ) → n ≡ d + k → PathBelow s b root d fs → k < length fs → IsStep s b root n (get_or fs k x)
    path_step d k n [] x is h low = absurd (omega (arith, low))
    path_step d zero n (f ∷ fs) x is h low = let e : n ≡ d = omega arith in rw e (h.0, h.1, h.2)
    path_step d (suc k) n (f ∷ fs) x is h low = path_step (suc d) k n fs x (omega arith) h.3 (omega (arith, low))

-- a cursor that keeps a walk is a place
pub good_of : (K V : Kind) (b : List ℕ) (at : ℕ) (w : RangeWalk) (c : BtreeCursor) → IsRangeWalk (layout_of K V 5) b at w → IsKept w c → c.depth ≤ 32 → IsGood K V b at c
good_of K V b at w c walks kept deep =
    let s = layout_of K V 5 in
    let root = root_place b at in
    ∥∥₁_map {A = WalkBelow s b root w.part.node w.part.next w.part.end w.path.items} {B = IsPlaceOf K V b at c} walks (λ below. record {
      path = record { deep = deep; path = subst (λ (fs : List (ℕ × ℕ)). PathBelow s b root 0 fs) kept.path below.1 };
      run = subst (λ (p : ℕ). RunBelow s b root p c.next c.end) kept.node (subst (λ (i : ℕ). RunBelow s b root w.part.node i c.end) kept.next (subst (λ (n : ℕ). RunBelow s b root w.part.node w.part.next n) kept.end below.0));
    })

-- what it has left is what the walk has left
pub kept_left : (K V : Kind) (b : List ℕ) (w : RangeWalk) (c : BtreeCursor) → IsKept w c → range_left (layout_of K V 5) b w ≡ cursor_places K V b c
kept_left K V b w c kept = rw (kept.node, kept.next, kept.end, kept.path, kept.stop) refl

-- and what remains of it, between bounds of a map
pub between_kept : (K V : Kind) → IsLawful K → IsLawful V → (b : List ℕ) (at : ℕ) → IsTrue (stands (map_kind K V 5) b at) → (w : RangeWalk) (c : BtreeCursor) → IsWalkBetween K V 5 b at w → IsKept w c → places_between K V 5 b at w ≡ cursor_places K V b c
between_kept K V k v b at h w c is kept = between_left K V 5 k v b at h w is ∙ kept_left K V b w c kept

-- none is, if it has no such numbers
pub no_place : (K V : Kind) (b : List ℕ) (at : ℕ) (c : BtreeCursor) → (IsPlaceOf K V b at c → ⊥) → IsGood K V b at c → ⊥
no_place K V b at c none good = ∥∥₁_elim good ⊥_prop none

-- what holds of the value that an equal option has
pub if_some_as : {A : Type 0} {P : A → Type 0} (o other : Option A) → o ≡ other → ((a : A) → other ≡ Some a → P a) → IfSome o P
if_some_as None other is f = tt
if_some_as (Some a) other is f = f a (sym is)

-- a step of the path of a cursor
pub get_step : (path : List BtreeStep) (depth k : ℕ) (d : BtreeStep) → k < depth → get_or (map step_of (take depth path)) k (step_of d) ≡ step_of (get_or path k d)
get_step path depth k d less = get_or-map step_of (take depth path) k d ∙ ap step_of (get_or-take depth path k d less)
