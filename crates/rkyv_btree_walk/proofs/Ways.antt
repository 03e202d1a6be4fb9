-- Steps of searches side by side.
use Rattle.std.proofs.Common.{sym, ◌∙◌, slice_set, slice_index_or, length, Bool, true, false, ◌||◌, inl, inr, ◌≡◌, ℕ, suc, ◌+◌, ◌≤◌, ◌<◌, List, Some, None, refl, ap, arith}
use Rattle.std.specs.Prelude.{IfSome}
use Rattle.std.proofs.lemmas.Bool.{cases_lt}
use Rattle.std.proofs.lemmas.List.{get_or-set_same, get_or-set_other}
use Rattle.std.specs.declared.cmp.Ordering.{Ordering}
use Rattle.rkyv_btree_portable.specs.Kind.{Kind}
use Rattle.rkyv_btree_format.specs.Layout.{layout_of}
use Rattle.rkyv_btree_walk.specs.Ends.{end_of}
use Rattle.rkyv_btree_walk.specs.Nodes.{entry_count, child_place}
use Rattle.rkyv_btree_walk.specs.declared.many.Way.{Way}
use Rattle.rkyv_btree_walk.specs.declared.many.Way.TheVariants.{On, Found, Absent}
use Rattle.rkyv_btree_walk.specs.declared.search.Stop.TheVariants.{At, Before}
use Rattle.rkyv_btree_walk.specs.mirror.Many.{HasEnded, IsUnderWay, SoFar, Steps, WayStands}
use Rattle.rkyv_btree_walk.specs.mirror.Node.{NodeStands, RunStands, TreeStands}
use Rattle.rkyv_btree_walk.specs.mirror.Search.{StopsAt, comparison_at, searched_map}
use Rattle.rkyv_btree_walk.proofs.Nodes.{child_stands}
use Rattle.rkyv_btree_walk.proofs.Searches.{node_run, search_finds, search_ends, search_down}

module _ (K V : Kind) (E : ℕ) (b : List ℕ) {Q : Type 0} (Compares : (Q → K.Value → Ordering) → Type 0) (key : Q) (p count : ℕ) (counted : count ≡ entry_count (layout_of K V E) b p) (i : ℕ) where
  -- an entry of the node is found
  pub step_finds : NodeStands K V E b p → i < count → ((c : Q → K.Value → Ordering) → Compares c → StopsAt (λ k. comparison_at K V E b (c key) (p, k)) count (At i))
      → Steps K V E b Compares key (On p) (Found p i)
  step_finds node less stops = record {
    stands = λ levels tree j low high. (let within : j < count = omega arith in node_run K V E b p node j (omega arith) (rw counted at within));
    finds = λ levels tree c is. ap (λ r. r.0) (search_finds K V E b (suc levels) p count tree counted (c key) i (stops c is));
  }

  module _ (stops : (c : Q → K.Value → Ordering) → Compares c → StopsAt (λ k. comparison_at K V E b (c key) (p, k)) count (Before i)) where
    -- there is no child to go on in
    pub step_ends : child_place (layout_of K V E) b p i ≡ None → Steps K V E b Compares key (On p) Absent
    step_ends none = record {
      stands = λ levels tree. tt;
      finds = λ levels tree c is. ap (λ r. r.0) (search_ends K V E b (suc levels) p count tree counted (c key) i none (stops c is));
    }

    -- it goes on in a child
    pub step_goes : (q : ℕ) → i ≤ E → child_place (layout_of K V E) b p i ≡ Some q → Steps K V E b Compares key (On p) (On q)
    step_goes q within to = record {
      stands = λ levels tree. child_stands K V E b levels p tree i q within to;
      finds = λ levels tree c is. ap (λ r. r.0) (search_down K V E b (suc levels) p count tree counted (c key) i levels q refl to (stops c is));
    }

-- a way that has ended stays
pub step_stays : (K V : Kind) (E : ℕ) (b : List ℕ) {Q : Type 0} (Compares : (Q → K.Value → Ordering) → Type 0) (key : Q) (way : Way) → HasEnded way → Steps K V E b Compares key way way
step_stays K V E b Compares key (On p) ended = absurd (ended p refl)
step_stays K V E b Compares key (Found p i) ended = record { stands = λ levels h. h; finds = λ levels h c is. refl }
step_stays K V E b Compares key Absent ended = record { stands = λ levels h. h; finds = λ levels h c is. refl }

-- when a way has taken its step, one more has
pub so_far_more : {W : Type 0} (none : W) (Ended : W → Type 0) (Step : W → W → Type 0) (k n : ℕ) (going goes : Bool) (first old : List W) (new : W) → n < length old
    → SoFar Ended Step k n going (slice_index_or first k none) (slice_index_or old k none) → (k ≡ n → Step (slice_index_or old k none) new) → (goes ≡ false → Ended new)
    → SoFar Ended Step k (n + 1) (going || goes) (slice_index_or first k none) (slice_index_or (slice_set old n new) k none)
so_far_more none Ended Step k n going goes first old new inside so step ended =
    elim (cases_lt k n) [
      | inl before ↦
          let same : slice_index_or (slice_set old n new) k none ≡ slice_index_or old k none = get_or-set_other old n k new none (λ e. absurd (omega arith)) in
          rw same (record { taken = λ h. so.taken before; left = λ h. absurd (omega arith); ended = λ off h. so.ended (first_off going goes off) before })
      | inr on ↦ elim (cases_lt n k) [
        | inl after ↦
            let same : slice_index_or (slice_set old n new) k none ≡ slice_index_or old k none = get_or-set_other old n k new none (λ e. absurd (omega arith)) in
            rw same (record { taken = λ h. absurd (omega arith); left = λ h. so.left (omega arith); ended = λ off h. absurd (omega arith) })
        | inr up ↦
            let here : k ≡ n = omega arith in
            let set : slice_index_or (slice_set old n new) k none ≡ new = rw here (get_or-set_same old n new none inside) in
            let was : slice_index_or old k none ≡ slice_index_or first k none = so.left (omega arith) in
            rw set (record { taken = λ h. rw was at (step here); left = λ h. absurd (omega arith); ended = λ off h. ended (second_off going goes off) })
      ]
    ]
  where
    first_off : (a b : Bool) → (a || b) ≡ false → a ≡ false
    first_off true b e = e
    first_off false b e = refl

    second_off : (a b : Bool) → (a || b) ≡ false → b ≡ false
    second_off true b e = absurd (cc e)
    second_off false b e = e

module _ (K V : Kind) (E : ℕ) (b : List ℕ) {Q : Type 0} (Compares : (Q → K.Value → Ordering) → Type 0) (at : ℕ) (key : Q) where
  -- a step leads on
  pub under_way_more : (levels m : ℕ) (old new : Way) → levels ≡ suc m → IsUnderWay K V E b Compares at key levels old → Steps K V E b Compares key old new → IsUnderWay K V E b Compares at key m new
  under_way_more levels m old new is so step =
      let was = rw is at so in
      record { stands = step.stands m was.stands; finds = λ c p. was.finds c p ∙ step.finds m was.stands c p }

  -- and a way that has ended is at what its search finds
  pub way_ends : (levels : ℕ) (way : Way) → HasEnded way → IsUnderWay K V E b Compares at key levels way → (c : Q → K.Value → Ordering) → Compares c
      → end_of way ≡ (searched_map (layout_of K V E) b (comparison_at K V E b (c key)) at).0
  way_ends levels (On p) ended so c is = absurd (ended p refl)
  way_ends levels (Found p i) ended so c is = sym (so.finds c is)
  way_ends levels Absent ended so c is = sym (so.finds c is)

  pub end_stands : (levels : ℕ) (way : Way) → IsUnderWay K V E b Compares at key levels way → IfSome (end_of way) (λ e. RunStands K V E b e.0 e.1 (e.1 + 1))
  end_stands levels (On p) so = tt
  end_stands levels (Found p i) so = so.stands
  end_stands levels Absent so = tt

-- no level is left of a way that has ended
no_tree : (K V : Kind) (E : ℕ) (b : List ℕ) (p : ℕ) → TreeStands K V E b 0 p → ⊥
unfolding TreeStands
no_tree K V E b p tree = tree

pub ends_at_last : (K V : Kind) (E : ℕ) (b : List ℕ) (levels : ℕ) (way : Way) → levels ≡ 0 → WayStands K V E b levels way → HasEnded way
ends_at_last K V E b levels way none h p is = no_tree K V E b p (rw (none, is) at h)
