-- Steps of a walk that is read from a source: what it has left where it goes down, or waits.
use Rattle.std.proofs.Common.{◌≡◌, ◌∙◌, ℕ, ◌-◌, ◌*◌, ◌/◌, ◌≤◌, Bool, List, length, Option, Some, None, Result, Ok, Err, refl, sym, subst, arith}
use Rattle.std.specs.Borrow.{Bor}
use Rattle.std.specs.Prelude.{◌≢◌}
use Rattle.std.specs.Range.Bound.{bound_map}
use Rattle.std.specs.declared.cmp.Ordering.{Ordering}
use Rattle.std.specs.declared.ops.Bound.{Bound}
use Rattle.rkyv_btree_portable.specs.Kind.{Kind}
use Rattle.rkyv_btree_portable.specs.declared.refusal.Refusal.{Refusal}
use Rattle.rkyv_btree_format.specs.Layout.{layout_of, leaf_size}
use Rattle.rkyv_btree_source.proofs.Walks.{unread_on}
use Rattle.rkyv_btree_source.specs.Reading.{GivesBy}
use Rattle.rkyv_btree_source.specs.declared.fault.SourceFault.{SourceFault}
use Rattle.rkyv_btree_source.specs.declared.walk.Brought.{Brought}
use Rattle.rkyv_btree_source.specs.mirror.Walking.{StepGives, Waits, WaitsDown, WaitsUp}
use Rattle.rkyv_btree_unverified.proofs.Taken.{has_begun, steps_on}
use Rattle.rkyv_btree_unverified.specs.EntriesFrom.{from_place}
use Rattle.rkyv_btree_unverified.specs.Left.{most_entries, most_of, once_over}
use Rattle.rkyv_btree_unverified.specs.declared.walk.Phase.{Phase}
use Rattle.rkyv_btree_unverified.specs.declared.walk.Phase.TheVariants.{Descend, Advance, Over}
use Rattle.rkyv_btree_unverified.specs.declared.walk.UnverifiedWalk.{UnverifiedWalk}
use Rattle.rkyv_btree_unverified.specs.mirror.Faultless.{FaultlessAt, FaultlessPhase}
use Rattle.rkyv_btree_unverified.specs.mirror.Sought.{BeginGives, Begins}
use Rattle.rkyv_btree_unverified.specs.mirror.Walked.{GoesDown, HasAt, HasPath, HasPhase, IsCounted, IsUnverifiedWalk, LeafFound, walk_most}
use Rattle.rkyv_btree_walk.proofs.Paths.{walk_end}
use Rattle.rkyv_btree_walk.specs.declared.path.Leaf.{Leaf}

module _ (K V : Kind) (E : ℕ) (b : List ℕ) (at : ℕ) where
  has_phase : (w : UnverifiedWalk) (phase : Phase) → w.phase ≡ phase → HasPhase K V E b phase at w → IsUnverifiedWalk K V E b at w
  has_phase w phase is has = subst (λ ph. HasPhase K V E b ph at w) (sym is) has

  -- a walk that goes down has a path that leads on
  pub down_path : (w : UnverifiedWalk) → w.phase ≡ Descend → IsUnverifiedWalk K V E b at w → HasPath K V E b at w
  down_path w is walks = subst (λ ph. HasPhase K V E b ph at w) is walks

  module _ (old mid : UnverifiedWalk) (leaf : Leaf) (found : LeafFound K V E b at old.path.items old.nodes mid.path.items mid.nodes leaf)
      (node : mid.node ≡ leaf.node) (next : mid.next ≡ 0) (end : mid.end ≡ leaf.count) (taken : mid.taken ≡ old.taken) (phase : mid.phase ≡ Advance) where
    -- a walk has come to the leaf that was found
    pub goes_down : GoesDown K V E b at old mid
    goes_down =
        let most = found.most in
        record {
          has = record { way = found.way; run = λ less. rw (node, end) (found.run (rw (next, end) at less)); few = found.few };
          phase = phase;
          most = rw (phase, next, end) (omega (arith, most));
          taken = taken;
          rest = rw (phase, node, next, end) found.rest;
          faultless = λ left.
              let there : FaultlessAt K V E b at mid.node mid.next mid.end mid.path.items = subst (λ ph. FaultlessPhase K V E b ph at mid) phase left in
              found.faultless (rw (node, next, end) at there);
        }

    -- and counts as it did
    pub down_counted : old.phase ≡ Descend → IsCounted K V E b at old → HasAt K V E b at mid × IsCounted K V E b at mid
    down_counted before counted =
        let down = goes_down in
        let most = down.most in
        let all = rw before at counted.most in
        ((down.has, phase), record { walks = has_phase mid Advance phase down.has; most = rw (phase, taken) (omega (arith, most, all)) })

    module _ (before : old.phase ≡ Descend) (KR VR : List ℕ → ℕ → ℕ → ℕ → Refusal → Type 0) (new : UnverifiedWalk) (room : List ℕ) where
      waits_on : Waits K V E b at mid new → Waits K V E b at old new
      waits_on w =
          let down = goes_down in
          let more = w.most in
          let most = down.most in
          record {
            walks = w.walks;
            most = rw before (omega (arith, more, most));
            taken = w.taken ∙ taken;
            begun = w.begun;
            rest = w.rest ∙ (down.rest ∙ rw before refl);
          }

      -- so it gives what it gives there
      pub step_on : {X : Type 0} (r : Result (Option Brought) (SourceFault X)) → StepGives K V E b KR VR at mid new room r → StepGives K V E b KR VR at old new room r
      step_on (Ok None) s = steps_on K V E b at KR VR old mid new before goes_down (Ok None) s
      step_on (Ok (Some e)) s = (s.0, steps_on K V E b at KR VR old mid new before goes_down (Ok (Some s.0)) s.1, s.2)
      step_on (Err fault) s = (s.0, unread_on (Waits K V E b at mid new) (Waits K V E b at old new) waits_on fault s.1)

  -- a walk that reads no further on its way down waits there
  pub waits_down : (old new : UnverifiedWalk) → WaitsDown K V E b at old.path.items old.nodes new.path.items new.nodes → old.phase ≡ Descend → new.phase ≡ old.phase → new.taken ≡ old.taken → Waits K V E b at old new
  waits_down old new w before phase taken =
      let most = w.most in
      let same = phase ∙ before in
      record {
        walks = has_phase new Descend same (record { way = w.way; few = w.few });
        most = rw (same, before) (omega (arith, most));
        taken = taken;
        begun = λ over. let never : Descend ≡ Over = sym same ∙ over in cc never;
        rest = rw (same, before) w.rest;
      }

  module _ (w : UnverifiedWalk) (has : HasAt K V E b at w) where
    -- one that has brought no entry of its leaf waits where it is
    pub waits_here : Waits K V E b at w w
    waits_here = record { walks = has_phase w Advance has.1 has.0; most = omega arith; taken = refl; begun = has_begun K V E b at w has; rest = refl }

    -- and so does one that has brought none of its path
    pub waits_up : (new : UnverifiedWalk) → w.end ≤ w.next → WaitsUp K V E b at w.path.items new.path.items → new.node ≡ w.node → new.next ≡ w.next → new.end ≡ w.end → new.nodes ≡ w.nodes → new.taken ≡ w.taken
        → new.phase ≡ w.phase → Waits K V E b at w new
    waits_up new none up node next end nodes taken phase =
        let same = phase ∙ has.1 in
        let most = up.most in
        record {
          walks = has_phase new Advance same (record {
            way = up.way;
            run = λ less. absurd (omega (arith, less, none, next, end));
            few = λ m map. let few = up.few m map in let before = has.0.few m map in omega (arith, few, before, nodes);
          });
          most = rw (same, has.1, nodes, next, end) (omega (arith, most));
          taken = taken;
          begun = λ over. let never : Advance ≡ Over = sym same ∙ over in cc never;
          rest = rw (same, has.1, node, next, end) (walk_end (layout_of K V E) b w.node w.next w.end new.path.items none ∙ (up.rest ∙ sym (walk_end (layout_of K V E) b w.node w.next w.end w.path.items none)));
        }

-- a walk that begins at a bound begins at one that is the same
pub begins_by : {T X : Type 0} (K V : Kind) (E : ℕ) (compared : T → List ℕ → ℕ → Ordering) (b : List ℕ) (KR VR : List ℕ → ℕ → ℕ → ℕ → Refusal → Type 0) (at : ℕ) (low bound : Bound (Bor T)) (nodes : ℕ)
    (w : UnverifiedWalk) (r : Result (Unit {0}) (SourceFault X)) → low ≡ bound
    → GivesBy (λ x. x) (BeginGives K V E b KR VR at (from_place K V E compared b (bound_map (λ q. q.now) bound)) nodes w) r
    → GivesBy (λ x. x) (BeginGives K V E b KR VR at (from_place K V E compared b (bound_map (λ q. q.now) low)) nodes w) r
begins_by K V E compared b KR VR at low bound nodes w r is h =
    subst (λ x. GivesBy (λ u. u) (BeginGives K V E b KR VR at (from_place K V E compared b (bound_map (λ q. q.now) x)) nodes w) r) (sym is) h

-- where it is no longer over, the rest counts
pub not_over : {X : Type 0} (p : Phase) (x y : X) → p ≢ Over → once_over p x y ≡ y
not_over Descend x y begun = refl
not_over Advance x y begun = refl
not_over Over x y begun = absurd (begun refl)

-- a walk that begins counts no more entries than there can be in the source
pub begins_counted : (K V : Kind) (E : ℕ) (b : List ℕ) (at : ℕ) (test : ℕ × ℕ → Bool) (nodes : ℕ) (w : UnverifiedWalk) → nodes ≡ length b / leaf_size (layout_of K V E) → Begins K V E b at test nodes w
    → IsCounted K V E b at w
begins_counted K V E b at test nodes w is h =
    let all : most_of K V E b w ≡ most_entries K V E b - w.taken = not_over w.phase 0 (most_entries K V E b - w.taken) h.begun in
    let most : walk_most E w ≤ E * (length b / leaf_size (layout_of K V E)) = rw is at h.most in
    let none = h.taken in
    record { walks = h.walks; most = omega (arith, all, none, most) }
