-- An item is what a step of the walk gives.
use Rattle.std.proofs.Common.{◌∙◌, map, refl, sym, ap}
use Rattle.rkyv_btree_format.specs.Read.{entry_at}
use Rattle.rkyv_btree_unverified.proofs.Lent.{left_means, left_splits, lent_means, most_less, some_begun, stepped_left, stepped_faultless}
use Rattle.rkyv_btree_unverified.specs.mirror.Walked.{places_of}
use Rattle.rkyv_btree_unverified.proofs.iter.UnverifiedIterIterator.next.Goals as goal

pub invariant_of-self-clause-left : goal.invariant_of-self-clause-left
invariant_of-self-clause-left g c =
    let self = c.args.self.now in
    stepped_left g.K.Portable.kind g.V.Portable.kind g.M.ArchivedMap.E self.buf.now g.K.CheckBytes.Refuses g.V.CheckBytes.Refuses self.pos _ self.walk c.step.new.walk c.step.result self.walks c.step.ensures.steps self.left

pub invariant_of-self-clause-faultless : goal.invariant_of-self-clause-faultless
invariant_of-self-clause-faultless g c left =
    let self = c.args.self.now in
    self.faultless (stepped_faultless g.K.Portable.kind g.V.Portable.kind g.M.ArchivedMap.E self.buf.now g.K.CheckBytes.Refuses g.V.CheckBytes.Refuses self.pos self.walk c.step.new.walk c.step.result c.step.ensures.steps left)

pub returns-in-Err-clause-steps : goal.returns-in-Err-clause-steps
returns-in-Err-clause-steps g c = record {
  buffer = refl;
  position = refl;
  gives = record {
    refuses = c.in-Err.ensures.steps.fails.refuses;
    no_map = c.in-Err.ensures.steps.fails.no_map;
    over = c.in-Err.ensures.steps.over;
  };
  stays_over = λ over. absurd (c.in-Err.ensures.steps.begun over);
}

pub returns-in-Ok-None-clause-steps : goal.returns-in-Ok-None-clause-steps
returns-in-Ok-None-clause-steps g c =
    let K = g.K.Portable.kind in let V = g.V.Portable.kind in let E = g.M.ArchivedMap.E in
    let self = c.args.self.now in
    let s = rw c.in-Ok-None.field-0-is at c.in-Ok-None.ensures.steps in
    let all = places_of K V E self.buf.now self.pos in
    let means = entry_at K V E self.buf.now in
    record {
      buffer = refl;
      position = refl;
      gives = record { entries = left_means means self.walk all ∙ ap (map means) (sym self.left ∙ s.none); faultless = λ begun. self.faultless (s.faultless begun); over = s.over };
      stays_over = λ over. (refl, s.over);
    }

pub returns-in-Ok-Some-clause-steps : goal.returns-in-Ok-Some-clause-steps
returns-in-Ok-Some-clause-steps g c =
    let K = g.K.Portable.kind in let V = g.V.Portable.kind in let E = g.M.ArchivedMap.E in
    let self = c.args.self.now in
    let s = rw c.in-Ok-Some.field-0-is at c.in-Ok-Some.ensures.steps in
    let all = places_of K V E self.buf.now self.pos in
    let means = entry_at K V E self.buf.now in
    let after = c.step.new.walk in
    record {
      buffer = refl;
      position = refl;
      gives = record {
        buffer = c.entry.ensures.buffer;
        entries = lent_means means self.walk after all (c.in-Ok-Some.node, c.in-Ok-Some.index) (left_splits K V E self.buf.now self.pos self.walk after self.walks _ s all self.left) _ c.entry.ensures.value;
        place = (c.in-Ok-Some.node, c.in-Ok-Some.index);
        reached = s.taken.reached;
        places = c.entry.ensures.places;
        less = most_less K V E self.buf.now self.pos self.walk after self.walks _ s;
        goes_on = s.goes_on;
      };
      stays_over = λ over. absurd (some_begun K V E self.buf.now self.pos self.walk after _ s over);
    }
