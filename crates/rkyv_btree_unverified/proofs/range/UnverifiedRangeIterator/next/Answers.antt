-- An item is what a step of the walk gives, up to the first key past the end of the range.
use Rattle.std.proofs.Common.{◌∷◌, ◌∙◌, map, refl, sym, ap}
use Rattle.rkyv_btree_format.specs.Read.{entry_at}
use Rattle.rkyv_btree_unverified.proofs.Lent.{most_less, some_begun}
use Rattle.rkyv_btree_unverified.proofs.OnWays.{way_takes, way_finishes}
use Rattle.rkyv_btree_unverified.proofs.Until.{until_stops, until_goes}
use Rattle.rkyv_btree_unverified.specs.EntriesFrom.{past_place, until}
use Rattle.rkyv_btree_unverified.specs.Ways.{places_left}
use Rattle.rkyv_btree_unverified.proofs.range.UnverifiedRangeIterator.next.Goals as goal

pub returns-in-Err-clause-steps : goal.returns-in-Err-clause-steps
returns-in-Err-clause-steps g c = record {
  buffer = refl;
  position = refl;
  range = refl;
  gives = record {
    refuses = c.in-Err.ensures.steps.fails.refuses;
    no_map = c.in-Err.ensures.steps.fails.no_map;
    over = c.in-Err.ensures.steps.over;
  };
  stays_over = λ over. absurd (c.in-Err.ensures.steps.begun over);
}

pub returns-in-Ok-None-clause-steps : goal.returns-in-Ok-None-clause-steps
returns-in-Ok-None-clause-steps g c =
    let K = g.K.Portable.kind in let V = g.V.Portable.kind in let E = g.M.ArchivedMap.E in
    let self = c.args.self.now in
    let s = rw c.in-Ok-None.field-0-is at c.in-Ok-None.ensures.steps in
    let past = past_place K V E g.K.CompareWith.compared_at self.buf.now (g.R.RangeBounds.end_bound self.range) in
    record {
      buffer = refl;
      position = refl;
      range = refl;
      gives = record { entries = λ known. ap (λ xs. map (entry_at K V E self.buf.now) (until past xs)) (way_finishes K V E self.buf.now self.pos self.walk c.step.new.walk self.walks.walks s); over = s.over };
      stays_over = λ over. (refl, s.over);
    }

pub returns-then-is_past-clause-steps : goal.returns-then-is_past-clause-steps
returns-then-is_past-clause-steps g c =
    let K = g.K.Portable.kind in let V = g.V.Portable.kind in let E = g.M.ArchivedMap.E in
    let self = c.args.self.now in
    let s = rw c.in-Ok-Some.field-0-is at c.in-Ok-Some.ensures.steps in
    let past = past_place K V E g.K.CompareWith.compared_at self.buf.now (g.R.RangeBounds.end_bound self.range) in
    record {
      buffer = refl;
      position = refl;
      range = refl;
      gives = record {
        entries = λ known.
            let t = rw (c.entry.ensures.buffer.0, ap (λ x. x.0) c.entry.ensures.places) at (sym (c.is_past.ensures known) ∙ c.if-is_past.true) in
            ap (map (entry_at K V E self.buf.now)) (until_stops past (c.in-Ok-Some.node, c.in-Ok-Some.index) _ _ (way_takes K V E self.buf.now self.pos self.walk c.step.new.walk _ self.walks.walks c.in-Ok-Some.ensures.walks.walks s) t);
        over = refl;
      };
      stays_over = λ over. absurd (some_begun K V E self.buf.now self.pos self.walk c.step.new.walk _ s over);
    }

pub returns-else-is_past-clause-steps : goal.returns-else-is_past-clause-steps
returns-else-is_past-clause-steps g c =
    let K = g.K.Portable.kind in let V = g.V.Portable.kind in let E = g.M.ArchivedMap.E in
    let self = c.args.self.now in
    let s = rw c.in-Ok-Some.field-0-is at c.in-Ok-Some.ensures.steps in
    let past = past_place K V E g.K.CompareWith.compared_at self.buf.now (g.R.RangeBounds.end_bound self.range) in
    let means = map (entry_at K V E self.buf.now) in
    let after = means (until past (places_left K V E self.buf.now self.pos c.step.new.walk)) in
    record {
      buffer = refl;
      position = refl;
      range = refl;
      gives = record {
        buffer = c.entry.ensures.buffer;
        entries = λ known.
            let t = rw (c.entry.ensures.buffer.0, ap (λ x. x.0) c.entry.ensures.places) at (sym (c.is_past.ensures known) ∙ c.if-is_past.false) in
            ap means (until_goes past (c.in-Ok-Some.node, c.in-Ok-Some.index) _ _ (way_takes K V E self.buf.now self.pos self.walk c.step.new.walk _ self.walks.walks c.in-Ok-Some.ensures.walks.walks s) t) ∙ ap (λ e. e ∷ after) (sym c.entry.ensures.value);
        place = (c.in-Ok-Some.node, c.in-Ok-Some.index);
        reached = s.taken.reached;
        places = c.entry.ensures.places;
        within = λ known. sym (c.is_past.ensures known) ∙ c.if-is_past.false;
        less = most_less K V E self.buf.now self.pos self.walk c.step.new.walk self.walks _ s;
      };
      stays_over = λ over. absurd (some_begun K V E self.buf.now self.pos self.walk c.step.new.walk _ s over);
    }
