use Rattle.std.proofs.Common.{◌∙◌, sym, ap, true, arith}
use Rattle.std.proofs.lemmas.Result.{err_from_is_err_and}
use Rattle.rkyv_btree_portable.specs.Rounding.{round_up}
use Rattle.rkyv_btree_portable.proofs.Rounds.{round_up-multiple, round_up-past}
use Rattle.rkyv_btree_writer.proofs.WriteRuns.{padding-wrote, padding-stopped, unpadded}
use Rattle.rkyv_btree_writer.proofs.bounded_writes.pad.Goals as goal

pub returns-then-past-eq0-clause-pos : goal.returns-then-past-eq0-clause-pos
returns-then-past-eq0-clause-pos g c =
    sym (round_up-multiple c.pos-pos.result c.args.align c.requires.positive (omega arith)) ∙ ap (λ w. round_up w c.args.align) c.pos-pos.ensures

pub returns-then-past-eq0-clause-ok : goal.returns-then-past-eq0-clause-ok
returns-then-past-eq0-clause-ok g c = unpadded _ c.args.align c.pos-pos.result c.pos-pos.ensures c.requires.positive (omega arith)

pub returns-clause-pos : goal.returns-clause-pos
returns-clause-pos g c =
    sym (round_up-past c.pos-pos.result c.args.align c.requires.positive (omega arith)) ∙ ap (λ w. round_up w c.args.align) c.pos-pos.ensures

pub returns-clause-ok : goal.returns-clause-ok
returns-clause-ok g c = padding-wrote _ c.args.align c.pos-pos.result c.pos-pos.ensures c.requires.positive c.requires.small (omega arith) _ c.in_ok-put.ensures.ok

pub returns-in_err-put-clause-err : goal.returns-in_err-put-clause-err
returns-in_err-put-clause-err g c =
    let p = err_from_is_err_and c.from_residual.result c.from_residual.ensures.1 in
    rw (p.1, p.2) (padding-stopped _ c.args.align c.pos-pos.result c.pos-pos.ensures c.requires.positive c.requires.small (omega arith) _ c.in_err-put.field-0.0 (c.in_err-put.ensures.err true))
