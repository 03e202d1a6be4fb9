-- Each node that is met is a last child, and its last entry is the last so far.
use Rattle.std.proofs.Common.{◌∙◌, ◌+◌, ◌≤◌, arith, refl}
use Rattle.std.specs.Prelude.{pos}
use Rattle.rkyv_btree_format.specs.Layout.{inner_size, layout_of, leaf_size}
use Rattle.rkyv_btree_source.proofs.Faults.{passes_on}
use Rattle.rkyv_btree_source.proofs.Knowing.{of_same}
use Rattle.rkyv_btree_source.proofs.Lasts.{deep_fails, end_fails, ends_there, goes_there, last_has, level_spent, next_stands, starts_down}
use Rattle.rkyv_btree_source.proofs.Walks.{too_small_within}
use Rattle.rkyv_btree_unverified.proofs.Places.{kept}
use Rattle.rkyv_btree_source.proofs.last_entry.find_last.Goals as goal

pub down-init : goal.down-init
down-init g c = record {
  levels = omega arith;
  room = c.requires.room;
  before = omega arith;
  within = tt;
  down = λ b e. starts_down g.K.Portable.kind g.V.Portable.kind g.M.ArchivedMap.E b g.met.K.Portable.laws g.met.V.Portable.laws c.requires.fitting c.args.pos c.args.root (c.requires.leads b e);
  same = refl;
  left = omega arith;
  spent = omega arith;
  page = refl;
}

pub returns-then-levels-eq0-clause-gives : goal.returns-then-levels-eq0-clause-gives
returns-then-levels-eq0-clause-gives g c b e =
    rw (kept c.from.result (pos c.down.node) c.from.ensures c.from.type_inv)
    (deep_fails g.K.Portable.kind g.V.Portable.kind g.M.ArchivedMap.E b g.K.CheckBytes.Refuses g.V.CheckBytes.Refuses c.args.pos c.down.levels c.down.end c.down.node c.down.last (c.down.invariant.down b e) c.if-levels-eq0.true)

pub returns-in-Err-clause-gives : goal.returns-in-Err-clause-gives
returns-in-Err-clause-gives g c b e =
    passes_on _ _ (λ r bad. end_fails g.K.Portable.kind g.V.Portable.kind g.M.ArchivedMap.E b g.K.CheckBytes.Refuses g.V.CheckBytes.Refuses c.args.pos c.down.levels c.down.end c.down.node c.down.last (c.down.invariant.down b e) r bad)
    c.in-Err.fault (c.in-Err.ensures.gives b (of_same b c.down.invariant.same e))

pub returns-in-Err-clause-caused : goal.returns-in-Err-clause-caused
returns-in-Err-clause-caused g c n = too_small_within c.down.end c.args.pos 0 n _ c.in-Err.fault c.down.invariant.before (c.in-Err.ensures.caused n)

pub returns-in-None-clause-gives : goal.returns-in-None-clause-gives
returns-in-None-clause-gives g c b e =
    let gives = c.in-Ok.ensures.gives b (of_same b c.down.invariant.same e) in
    ends_there g.K.Portable.kind g.V.Portable.kind g.M.ArchivedMap.E b g.K.CheckBytes.Refuses g.V.CheckBytes.Refuses c.args.pos c.down.levels c.down.end c.down.node c.down.last (c.down.invariant.down b e) c.if-levels-eq0.false
    c.in-Ok.count c.in-Ok.below gives.0 gives.1 c.last_or-last.result c.last_or-last.ensures.none c.last_or-last.ensures.some c.in-None.is

pub returns-in-None-clause-stands : goal.returns-in-None-clause-stands
returns-in-None-clause-stands g c b e m map =
    let gives = c.in-Ok.ensures.gives b (of_same b c.down.invariant.same e) in
    next_stands g.K.Portable.kind g.V.Portable.kind g.M.ArchivedMap.E b g.K.CheckBytes.Refuses g.V.CheckBytes.Refuses c.args.pos c.down.levels c.down.end c.down.node c.down.last (c.down.invariant.down b e) c.if-levels-eq0.false
    c.in-Ok.count c.in-Ok.below gives.0 gives.1 c.last_or-last.result c.last_or-last.ensures.none c.last_or-last.ensures.some m map

pub down-preserved : goal.down-preserved
down-preserved g c =
    let K = g.K.Portable.kind in let V = g.V.Portable.kind in let E = g.M.ArchivedMap.E in
    let space = c.down.invariant.room.room in
    let inside : c.down.node + leaf_size (layout_of K V E) ≤ c.args.pos = omega (arith, space, c.down.invariant.before) in
    record {
      levels = omega (arith, c.down.invariant.levels);
      room = rw c.in-Some.is at c.in-Ok.ensures.room;
      before = omega (arith, inside);
      within = last_has _ c.down.node c.in-Ok.count c.down.last c.last_or-last.result c.last_or-last.ensures.none c.last_or-last.ensures.some c.down.invariant.within (λ low. (omega (arith, low, c.in-Ok.ensures.few), inside));
      down = λ b e.
          let gives = c.in-Ok.ensures.gives b (of_same b c.down.invariant.same e) in
          goes_there K V E b g.K.CheckBytes.Refuses g.V.CheckBytes.Refuses c.args.pos c.down.levels c.down.end c.down.node c.down.last (c.down.invariant.down b e) c.if-levels-eq0.false
          c.in-Ok.count c.in-Ok.below gives.0 gives.1 c.last_or-last.result c.last_or-last.ensures.none c.last_or-last.ensures.some c.down.invariant.levels c.in-Ok.ensures.few c.in-Some.child c.in-Some.is;
      same = c.in-Ok.ensures.same ∙ c.down.invariant.same;
      left = omega (arith, c.in-Ok.ensures.left, c.down.invariant.left);
      spent = level_spent c.down.levels (inner_size (layout_of K V E)) _ _ _ _ c.down.invariant.spent c.in-Ok.ensures.spent c.if-levels-eq0.false;
      page = c.read_end.auto.page ∙ c.down.invariant.page;
    }
