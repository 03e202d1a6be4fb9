-- Bytes make their one write, or that is refused.
use Rattle.std.proofs.Common.{◌≡◌, ◌<◌, true, [], length, refl, ap, inr, arith}
use Rattle.std.proofs.lemmas.Bool.Decides.{nat_tests}
use Rattle.std.proofs.lemmas.Result.{err_from_is_err_and}
use Rattle.rkyv_btree_writer.specs.declared.fault.Fault.TheVariants.{PositionOverflow}
use Rattle.rkyv_btree_writer.specs.TextArchival.{text_writes}
use Rattle.rkyv_btree_writer.specs.Writing.{position, last_end}
use Rattle.rkyv_btree_writing_laws.proofs.Kept.{refused_begins}
use Rattle.rkyv_btree_archive.proofs.TextsWritten.{text_wrote, bytes_refused}
use Rattle.rkyv_btree_archive.proofs.byte_string.write_bytes.Goals as goal

pub returns-then-start-gt-LAST_END-clause-err : goal.returns-then-start-gt-LAST_END-clause-err
returns-then-start-gt-LAST_END-clause-err g c =
    let s = g.W.Writer.state c.args.writer.now in
    let past : last_end < position s = omega (arith, c.pos-start.ensures) in
    bytes_refused {E = g.row.W-Error.Denot} (λ bytes. bytes) c.args.bytes.now s s PositionOverflow (λ none. past) (refl, omega (arith, past))

pub returns-clause-ok : goal.returns-clause-ok
returns-clause-ok g c =
    let s = g.W.Writer.state c.args.writer.now in
    let t = g.W.Writer.state c.put.new.writer in
    let bytes = c.args.bytes.now in
    (text_writes bytes, (c.pos-start.ensures, refl), text_wrote bytes s t c.in_ok-put.ensures.ok, tt, inr c.in_ok-put.ensures.end)

pub returns-in_err-put-clause-err : goal.returns-in_err-put-clause-err
returns-in_err-put-clause-err g c =
    let s = g.W.Writer.state c.args.writer.now in
    let t = g.W.Writer.state c.put.new.writer in
    let bytes = c.args.bytes.now in
    let some : ¬ (bytes ≡ []) = λ none. absurd (grind (arith, nat_tests, c.if-is_empty.ensures, ap length none)) in
    let p = err_from_is_err_and c.from_residual.result c.from_residual.ensures.1 in
    rw (p.1, p.2) (bytes_refused (λ bytes. bytes) bytes s t c.in_err-put.field-0.0 (λ none. absurd (some none)) (c.in_err-put.ensures.err true))

pub returns-in_err-put-clause-kept : goal.returns-in_err-put-clause-kept
returns-in_err-put-clause-kept g c =
    let p = err_from_is_err_and c.from_residual.result c.from_residual.ensures.1 in
    rw p.1 (refused_begins c.in_err-put.field-0.0 (g.W.Writer.state c.args.writer.now) _ (g.W.Writer.state c.put.new.writer) (c.in_err-put.ensures.err true))
