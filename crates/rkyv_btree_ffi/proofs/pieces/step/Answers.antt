-- What the search in the pieces returns, and why it returns nothing.
use Rattle.std.proofs.Common.{◌≡◌, arith, ℕ, refl, Err, Ok, Some, None}
use Rattle.rkyv_btree_format.specs.OwnBytes.{own_at}
use Rattle.rkyv_btree_verify.specs.Map.{map_kind}
use Rattle.rkyv_btree_ffi.proofs.Stepped.{long_refused, moved, within_budget}
use Rattle.rkyv_btree_ffi.proofs.pieces.step.Goals as goal

pub returns-in_default-clause-gives : goal.returns-in_default-clause-gives
returns-in_default-clause-gives g c = λ b e compared same.
    let K = g.K.Portable.kind in let V = g.V.Portable.kind in
    long_refused K V b (compared c.args.key) g.K.CheckBytes.Refuses g.V.CheckBytes.Refuses (own_at (map_kind K V 5) b) (omega (arith, e.0, c.in_default.ensures))

pub returns-in-Err-Refused-clause-gives : goal.returns-in-Err-Refused-clause-gives
returns-in-Err-Refused-clause-gives g c = λ b e compared same.
    let K = g.K.Portable.kind in let V = g.V.Portable.kind in
    let here : c.saturating_sub.result ≡ own_at (map_kind K V 5) b = omega (arith, e.0, c.saturating_sub.ensures, c.in-Ok.ensures) in
    rw c.in-Err-Refused.field-0-is (moved K V b (compared c.args.key) g.K.CheckBytes.Refuses g.V.CheckBytes.Refuses c.saturating_sub.result (own_at (map_kind K V 5) b) here (Err c.in-Err-Refused.refusal)
    (rw c.in-Err-Refused.field-0-is at (c.in-Err-Refused.ensures.gives b e compared same)))

pub returns-in-Err-Read-clause-lacks : goal.returns-in-Err-Read-clause-lacks
returns-in-Err-Read-clause-lacks g c = rw c.in-Err-Read.field-0-is (rw c.in-Err-Read.field-0-is at c.in-Err-Read.ensures.fails)

pub returns-in-Err-OverBudget-clause-lacks : goal.returns-in-Err-OverBudget-clause-lacks
returns-in-Err-OverBudget-clause-lacks g c =
    within_budget c.saturating_sub.result 18446744073709551615 c.search.new.reader.left refl (omega (arith, c.saturating_sub.ensures, c.in-Ok.ensures)) c.search.ensures.spent (rw c.in-Err-OverBudget.field-0-is at c.in-Err-OverBudget.ensures.caused)

pub returns-in-Ok-None-clause-gives : goal.returns-in-Ok-None-clause-gives
returns-in-Ok-None-clause-gives g c = λ b e compared same.
    let K = g.K.Portable.kind in let V = g.V.Portable.kind in
    let here : c.saturating_sub.result ≡ own_at (map_kind K V 5) b = omega (arith, e.0, c.saturating_sub.ensures, c.in-Ok.ensures) in
    moved K V b (compared c.args.key) g.K.CheckBytes.Refuses g.V.CheckBytes.Refuses c.saturating_sub.result (own_at (map_kind K V 5) b) here (Ok None)
    (rw c.in-Ok-None.field-0-is at (c.in-Ok-None.ensures.gives b e compared same))

pub returns-clause-gives : goal.returns-clause-gives
returns-clause-gives g c = λ b e compared same.
    let K = g.K.Portable.kind in let V = g.V.Portable.kind in
    let here : c.saturating_sub.result ≡ own_at (map_kind K V 5) b = omega (arith, e.0, c.saturating_sub.ensures, c.in-Ok.ensures) in
    let entry : ℕ × ℕ = (c.in-Ok-Some.hit.node, c.in-Ok-Some.hit.index) in
    record {
      place = entry;
      returned = moved K V b (compared c.args.key) g.K.CheckBytes.Refuses g.V.CheckBytes.Refuses c.saturating_sub.result (own_at (map_kind K V 5) b) here (Ok (Some entry)) (rw c.in-Ok-Some.field-0-is at (c.in-Ok-Some.ensures.gives b e compared same));
      first = c.search.new.room;
      rest = c.search.new.page;
      parts = refl;
      at = c.in-Ok-Some.hit.value;
      shown = c.item_at.ensures;
      same = rw c.in-Ok-Some.field-0-is at (c.in-Ok-Some.ensures.value b e);
    }
