use Rattle.std.proofs.Common.{to_z, of_z, w64, ◌≡◌, subst, arith, pos, ℤ}
use Rattle.std.proofs.lemmas.Int.{ints}
use Rattle.rkyv_btree_portable.specs.declared.refusal.Refusal.TheVariants.{OutOfRange}
use Rattle.rkyv_btree_portable.specs.Refusing.{Misplaced, too_long, no_room, unaligned}
use Rattle.rkyv_btree_portable.proofs.check.check_own_bytes.Goals as goal

pub returns-then-buf-gt4294967295-clause-err : goal.returns-then-buf-gt4294967295-clause-err
returns-then-buf-gt4294967295-clause-err c = too_long (omega arith)

pub returns-then-buf-pos-clause-err : goal.returns-then-buf-pos-clause-err
returns-then-buf-pos-clause-err c =
    let at : pos c.args.pos ≡ to_z w64 (of_z w64 c.from.result) = omega (arith, ints) in
    subst (λ (p : ℤ). Misplaced c.args.buf.now c.args.size c.args.align c.args.pos (OutOfRange p)) at (no_room (omega arith) (omega arith))

pub returns-then-pos-align-ne0-clause-err : goal.returns-then-pos-align-ne0-clause-err
returns-then-pos-align-ne0-clause-err c = unaligned (omega arith) (omega arith) c.if-pos-align-ne0.true
