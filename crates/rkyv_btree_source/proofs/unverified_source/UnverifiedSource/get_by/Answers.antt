-- What a lookup in a source finds is what one in its bytes does.
use Rattle.std.proofs.Common.{◌∙◌, ap, arith, refl, rules, Some, None}
use Rattle.std.proofs.lemmas.List.{length-take-le}
use Rattle.rkyv_btree_format.proofs.Sizes.{room_of}
use Rattle.rkyv_btree_source.proofs.Fitting.{beside}
use Rattle.rkyv_btree_source.proofs.Lacking.{short_beside}
use Rattle.rkyv_btree_source.proofs.Sourced.{reads_fault, reads_found, reads_refusal}
use Rattle.rkyv_btree_source.specs.Reads.{OwnBytes, Reads, reads_own}
use Rattle.rkyv_btree_source.proofs.unverified_source.UnverifiedSource.get_by.Goals as goal

pub returns-then-lent-page_len-clause-same_as : goal.returns-then-lent-page_len-clause-same_as
returns-then-lent-page_len-clause-same_as g c b e = reads_fault g.K.Portable.kind g.M.ArchivedMap.E g.K.CheckBytes.Refuses g.V.CheckBytes.Refuses b c.args.self.now.pos g.K.CompareWith.compared_at c.args.key _ (λ P. tt)

pub returns-then-lent-page_len-clause-reads : goal.returns-then-lent-page_len-clause-reads
returns-then-lent-page_len-clause-reads g c b e = record {
  takes = λ f p. tt;
  lacks = λ f p. record { before = 0; part = OwnBytes; reads = reads_own; needs = omega (arith, c.from.ensures, c.inner_size-page_len.ensures); more = omega (arith, c.if-lent-page_len.true, c.from.ensures) };
  fits = λ f p. tt;
}

pub returns-in-Err-Refused-clause-same_as : goal.returns-in-Err-Refused-clause-same_as
returns-in-Err-Refused-clause-same_as g c b e =
    let K = g.K.Portable.kind in let V = g.V.Portable.kind in let E = g.M.ArchivedMap.E in
    let k = g.met.K.Portable.laws in let v = g.met.V.Portable.laws in let fits = c.args.self.now.fitting in
    let room = room_of K V E k v fits in
    reads_refusal K E g.K.CheckBytes.Refuses g.V.CheckBytes.Refuses b c.args.self.now.pos g.K.CompareWith.compared_at c.args.key g.met.K.CompareWith.compares k v (g.met.K.CheckBytes.refusals room.key) (g.met.V.CheckBytes.refusals room.value) fits _ (λ f p. rw c.in-Err-Refused.refusal-is (rw c.in-Err-Refused.field-0-is at (c.in-Err-Refused.ensures.gives b e f p)))

pub returns-in-Err-Refused-clause-reads : goal.returns-in-Err-Refused-clause-reads
returns-in-Err-Refused-clause-reads g c b e = record { takes = λ f p. tt; lacks = λ f p. tt; fits = λ f p. tt }

pub returns-in-Err-Read-clause-same_as : goal.returns-in-Err-Read-clause-same_as
returns-in-Err-Read-clause-same_as g c b e = reads_fault g.K.Portable.kind g.M.ArchivedMap.E g.K.CheckBytes.Refuses g.V.CheckBytes.Refuses b c.args.self.now.pos g.K.CompareWith.compared_at c.args.key _ (λ P. tt)

pub returns-in-Err-Read-clause-reads : goal.returns-in-Err-Read-clause-reads
returns-in-Err-Read-clause-reads g c b e = record { takes = λ f p. tt; lacks = λ f p. tt; fits = λ f p. tt }

pub returns-in-Err-NoRoom-clause-same_as : goal.returns-in-Err-NoRoom-clause-same_as
returns-in-Err-NoRoom-clause-same_as g c b e = reads_fault g.K.Portable.kind g.M.ArchivedMap.E g.K.CheckBytes.Refuses g.V.CheckBytes.Refuses b c.args.self.now.pos g.K.CompareWith.compared_at c.args.key _ (λ P. tt)

pub returns-in-Err-NoRoom-clause-reads : goal.returns-in-Err-NoRoom-clause-reads
returns-in-Err-NoRoom-clause-reads g c b e = record {
  takes = λ f p. tt;
  lacks = λ f p.
      let short = rw c.in-Err-NoRoom.field-0-is at (c.in-Err-NoRoom.ensures.lacks b e f p) in
      let bound = rw c.in-Err-NoRoom.field-0-is at c.in-Err-NoRoom.ensures.reach in
      let here = length-take-le c.min-reach.result c.split_at_mut-page.result.1.now (omega (arith, c.min-reach.ensures)) in
      short_beside g.K.Portable.kind g.V.Portable.kind g.M.ArchivedMap.E b g.K.Fetch.lengths g.V.Fetch.lengths (Reads g.K.Portable.kind g.V.Portable.kind g.M.ArchivedMap.E b g.K.Fetch.lengths g.V.Fetch.lengths (f c.args.key) c.args.self.now.pos) _ _ _ _ _ short
      (omega (arith, here, bound.0, bound.2, c.min-reach.ensures, c.saturating_add.ensures, c.from-in-Err-NoRoom.ensures, c.in-Err-NoRoom.needed-is, c.split_at_mut-page.ensures.front_len, c.split_at_mut-page.ensures.back_len, c.inner_size-page_len.ensures))
      (omega (arith, bound.2, c.saturating_add.ensures, c.from-in-Err-NoRoom.ensures, c.inner_size-page_len.ensures, c.in-Err-NoRoom.needed-is));
  fits = λ f p. tt;
}

pub returns-in-Err-OverBudget-clause-same_as : goal.returns-in-Err-OverBudget-clause-same_as
returns-in-Err-OverBudget-clause-same_as g c b e = reads_fault g.K.Portable.kind g.M.ArchivedMap.E g.K.CheckBytes.Refuses g.V.CheckBytes.Refuses b c.args.self.now.pos g.K.CompareWith.compared_at c.args.key _ (λ P. tt)

pub returns-in-Err-OverBudget-clause-reads : goal.returns-in-Err-OverBudget-clause-reads
returns-in-Err-OverBudget-clause-reads g c b e = record { takes = λ f p. tt; lacks = λ f p. rw c.in-Err-OverBudget.field-0-is at (c.in-Err-OverBudget.ensures.lacks b e f p); fits = λ f p. tt }

pub returns-in-Ok-None-clause-same_as : goal.returns-in-Ok-None-clause-same_as
returns-in-Ok-None-clause-same_as g c b e =
    let K = g.K.Portable.kind in let V = g.V.Portable.kind in let E = g.M.ArchivedMap.E in
    let k = g.met.K.Portable.laws in let v = g.met.V.Portable.laws in let fits = c.args.self.now.fitting in
    let room = room_of K V E k v fits in
    reads_found K E g.K.CheckBytes.Refuses g.V.CheckBytes.Refuses b c.args.self.now.pos g.K.CompareWith.compared_at c.args.key g.met.K.CompareWith.compares k v (g.met.K.CheckBytes.refusals room.key) (g.met.V.CheckBytes.refusals room.value) fits None (λ f p. (None, rw c.in-Ok-None.field-0-is at (c.in-Ok-None.ensures.gives b e f p), refl))

pub returns-in-Ok-None-clause-reads : goal.returns-in-Ok-None-clause-reads
returns-in-Ok-None-clause-reads g c b e =
    let K = g.K.Portable.kind in let V = g.V.Portable.kind in let E = g.M.ArchivedMap.E in
    let here = length-take-le c.min-reach.result c.split_at_mut-page.result.1.now (omega (arith, c.min-reach.ensures)) in
    record {
      takes = λ f p. search rules;
      lacks = λ f p. tt;
      fits = λ f p. beside K V E b g.K.Fetch.lengths g.V.Fetch.lengths (f c.args.key) (Reads K V E b g.K.Fetch.lengths g.V.Fetch.lengths (f c.args.key) c.args.self.now.pos) _ _ _
          (omega (arith, here, c.min-reach.ensures, c.split_at_mut-page.ensures.front_len, c.split_at_mut-page.ensures.back_len, c.inner_size-page_len.ensures)) (c.in-Ok-None.ensures.fits b e f p);
    }

pub returns-clause-same_as : goal.returns-clause-same_as
returns-clause-same_as g c b e =
    let K = g.K.Portable.kind in let V = g.V.Portable.kind in let E = g.M.ArchivedMap.E in
    let k = g.met.K.Portable.laws in let v = g.met.V.Portable.laws in let fits = c.args.self.now.fitting in
    let room = room_of K V E k v fits in
    let read = rw c.in-Ok-Some.field-0-is at (c.in-Ok-Some.ensures.value b e) in
    let same = ap (λ x. V.read x c.at.result.pos) c.at.ensures.buffer ∙ (ap (λ x. V.read c.search.new.room x) c.at.ensures.position ∙ read) in
    reads_found K E g.K.CheckBytes.Refuses g.V.CheckBytes.Refuses b c.args.self.now.pos g.K.CompareWith.compared_at c.args.key g.met.K.CompareWith.compares k v (g.met.K.CheckBytes.refusals room.key) (g.met.V.CheckBytes.refusals room.value) fits (Some c.at.result)
    (λ f p. (Some (c.in-Ok-Some.hit.node, c.in-Ok-Some.hit.index), rw c.in-Ok-Some.field-0-is at (c.in-Ok-Some.ensures.gives b e f p), ap Some same))

pub returns-clause-reads : goal.returns-clause-reads
returns-clause-reads g c b e =
    let K = g.K.Portable.kind in let V = g.V.Portable.kind in let E = g.M.ArchivedMap.E in
    let here = length-take-le c.min-reach.result c.split_at_mut-page.result.1.now (omega (arith, c.min-reach.ensures)) in
    record {
      takes = λ f p. search rules;
      lacks = λ f p. tt;
      fits = λ f p. beside K V E b g.K.Fetch.lengths g.V.Fetch.lengths (f c.args.key) (Reads K V E b g.K.Fetch.lengths g.V.Fetch.lengths (f c.args.key) c.args.self.now.pos) _ _ _
          (omega (arith, here, c.min-reach.ensures, c.split_at_mut-page.ensures.front_len, c.split_at_mut-page.ensures.back_len, c.inner_size-page_len.ensures)) (c.in-Ok-Some.ensures.fits b e f p);
    }

pub returns-then-lent-page_len-clause-bounded : goal.returns-then-lent-page_len-clause-bounded
returns-then-lent-page_len-clause-bounded g c = record { budget = search rules; spent = search rules; caused = search rules; known = λ b e. search rules }

pub returns-then-lent-page_len-clause-source : goal.returns-then-lent-page_len-clause-source
returns-then-lent-page_len-clause-source g c = record { same = search rules; fails = search rules; position = search rules }

pub returns-in-Err-Refused-clause-bounded : goal.returns-in-Err-Refused-clause-bounded
returns-in-Err-Refused-clause-bounded g c = record { budget = search rules; spent = search rules; caused = search rules; known = λ b e. search rules }

pub returns-in-Err-Refused-clause-source : goal.returns-in-Err-Refused-clause-source
returns-in-Err-Refused-clause-source g c = record { same = search rules; fails = search rules; position = search rules }

pub returns-in-Err-Read-clause-bounded : goal.returns-in-Err-Read-clause-bounded
returns-in-Err-Read-clause-bounded g c = record { budget = search rules; spent = search rules; caused = search rules; known = λ b e. search rules }

pub returns-in-Err-Read-clause-source : goal.returns-in-Err-Read-clause-source
returns-in-Err-Read-clause-source g c = record { same = search rules; fails = search rules; position = search rules }

pub returns-in-Err-NoRoom-clause-bounded : goal.returns-in-Err-NoRoom-clause-bounded
returns-in-Err-NoRoom-clause-bounded g c = record { budget = search rules; spent = search rules; caused = search rules; known = λ b e. search rules }

pub returns-in-Err-NoRoom-clause-source : goal.returns-in-Err-NoRoom-clause-source
returns-in-Err-NoRoom-clause-source g c = record { same = search rules; fails = search rules; position = search rules }

pub returns-in-Err-OverBudget-clause-bounded : goal.returns-in-Err-OverBudget-clause-bounded
returns-in-Err-OverBudget-clause-bounded g c = record { budget = search rules; spent = search rules; caused = search rules; known = λ b e. search rules }

pub returns-in-Err-OverBudget-clause-source : goal.returns-in-Err-OverBudget-clause-source
returns-in-Err-OverBudget-clause-source g c = record { same = search rules; fails = search rules; position = search rules }

pub returns-in-Ok-None-clause-bounded : goal.returns-in-Ok-None-clause-bounded
returns-in-Ok-None-clause-bounded g c = record { budget = search rules; spent = search rules; caused = search rules; known = λ b e. search rules }

pub returns-in-Ok-None-clause-source : goal.returns-in-Ok-None-clause-source
returns-in-Ok-None-clause-source g c = record { same = search rules; fails = search rules; position = search rules }

pub returns-clause-bounded : goal.returns-clause-bounded
returns-clause-bounded g c = record { budget = search rules; spent = search rules; caused = search rules; known = λ b e. search rules }

pub returns-clause-source : goal.returns-clause-source
returns-clause-source g c = record { same = search rules; fails = search rules; position = search rules }
