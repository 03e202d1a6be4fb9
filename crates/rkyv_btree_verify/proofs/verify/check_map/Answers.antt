-- A map that has no place is refused, and no node of it is checked.
use Rattle.std.proofs.Common.{sym, arith}
use Rattle.std.proofs.lemmas.Result.{err_from_is_err_and}
use Rattle.rkyv_btree_format.specs.Layout.{layout_of}
use Rattle.rkyv_btree_verify.proofs.Loops.{misplaced_steps}
use Rattle.rkyv_btree_verify.proofs.Faulty.{misplaced_faulty}
use Rattle.rkyv_btree_verify.proofs.verify.check_map.Goals as goal

pub returns-in_err-check_own_bytes-clause-gives : goal.returns-in_err-check_own_bytes-clause-gives
returns-in_err-check_own_bytes-clause-gives g c =
    let p = err_from_is_err_and c.from_residual.result c.from_residual.ensures.1 in
    rw (p.1, p.2) (sym (misplaced_faulty _ _ _ _ _ _ _ c.in_err-check_own_bytes.ensures.err))

pub returns-in_err-check_own_bytes-clause-counts : goal.returns-in_err-check_own_bytes-clause-counts
returns-in_err-check_own_bytes-clause-counts g c =
    rw (misplaced_steps (layout_of g.K.Portable.kind g.V.Portable.kind g.row.E) g.K.Portable.kind.leaves g.V.Portable.kind.leaves c.args.buf.now c.args.pos c.args.window.lo c.args.window.hi c.in_err-check_own_bytes.ensures.err) (omega arith)
