use Rattle.std.proofs.Common.{◌≡◌, ℕ, ◌+◌, List, [], length, Option, Some, None, ap, subst, arith}
use Rattle.std.proofs.iter.Next.{Yields-more}
use Rattle.std.proofs.lemmas.List.{length_push, nil_from_length}
use Rattle.std.specs.Iterator.{Yields, YieldsThen}
use Rattle.rkyv_btree_archive.specs.mirror.Source.{Gives, key_of}
use Rattle.rkyv_btree_archive.proofs.items.none_left.Goals as goal

pub loop-item-preserved : goal.loop-item-preserved
loop-item-preserved g c =
    let steps = (Gives g.I.Iterator.next_gives g.L.Look.passes g.L.Look.stops) in
    let before = c.loop-item.invariant in
    let taken = before.given.0 in
    let on = c.in-Some.ensures.goes.on before.ends in
    record {
      given = (
        _,
        Yields-more steps (c.args.source.now, key_of c.args.last) taken (c.loop-item.source, key_of c.loop-item.last) c.in-Some.item (c.next.new.self, Some c.in-Some.item.0) before.given.1
            (subst (λ (key : Option g.row.B.Denot). steps (c.loop-item.source, key) (Some c.in-Some.item) (c.next.new.self, Some c.in-Some.item.0)) c.key_in.ensures c.in-Some.ensures.steps),
        omega (arith, before.given.2, length_push taken c.in-Some.item),
      );
      can = on.0;
      ends = on.1;
      left = omega (arith, before.left, on.2);
    }

-- the iterator gave what was counted, and then came to its end
ended : {S A : Type 0} (steps : S → Option A → S → Type 0) (s mid end : S) (taken : List A) (more : ℕ) → Yields steps s taken mid → more ≡ length taken → more ≡ 0 → steps mid None end → YieldsThen steps s [] None end
ended steps s mid end taken more y counted none last = (mid, subst (λ zs. Yields steps s zs mid) (nil_from_length taken (omega (arith, counted, none))) y, last)

pub returns-clause-ok : goal.returns-clause-ok
returns-clause-ok g c =
    let given = c.loop-item.invariant.given in
    ended (Gives g.I.Iterator.next_gives g.L.Look.passes g.L.Look.stops) (c.args.source.now, key_of c.args.last) (c.loop-item.source, key_of c.loop-item.last) (c.next.new.self, None) given.0 c.loop-item.more given.1 given.2 c.if-more-ne0.false
    (subst (λ (key : Option g.row.B.Denot). Gives g.I.Iterator.next_gives g.L.Look.passes g.L.Look.stops (c.loop-item.source, key) None (c.next.new.self, None)) c.key_in.ensures c.in_default.ensures.steps)

pub returns-then-more-ne0-clause-actual : goal.returns-then-more-ne0-clause-actual
returns-then-more-ne0-clause-actual g c =
    let given = c.loop-item.invariant.given in (
      given.0,
      (
        (c.loop-item.source, key_of c.loop-item.last),
        given.1,
        subst (λ (key : Option g.row.B.Denot). Gives g.I.Iterator.next_gives g.L.Look.passes g.L.Look.stops (c.loop-item.source, key) None (c.next.new.self, None)) c.key_in.ensures c.in_default.ensures.steps,
      ),
      ap (λ n. c.args.len + n) given.2,
    )
