-- A text that isn't empty makes its one write, or that is refused.
use Rattle.std.proofs.Common.{◌≡◌, ◌<◌, true, [], length, refl, ap, subst, inr, arith}
use Rattle.std.proofs.lemmas.Bool.Decides.{nat_tests}
use Rattle.std.proofs.lemmas.Result.{err_from_is_err_and}
use Rattle.rkyv_btree_writer.specs.declared.fault.Fault.TheVariants.{PositionOverflow}
use Rattle.rkyv_btree_writer.specs.TextArchival.{text_writes}
use Rattle.rkyv_btree_writer.specs.Writing.{Appended, Refused, position, last_end}
use Rattle.rkyv_btree_writing_laws.proofs.Kept.{refused_begins}
use Rattle.rkyv_btree_archive.proofs.TextsWritten.{text_wrote, text_refused}
use Rattle.rkyv_btree_archive.proofs.string.write_text.Goals as goal

pub returns-then-start-gt-LAST_END-clause-err : goal.returns-then-start-gt-LAST_END-clause-err
returns-then-start-gt-LAST_END-clause-err g c =
    let s = g.W.Writer.state c.args.writer.now in
    let past : last_end < position s = omega (arith, c.pos-start.ensures) in
    text_refused {E = g.row.W-Error.Denot} (λ bytes. bytes) c.args.text.now s s PositionOverflow (λ none. past) (refl, omega (arith, past))

pub returns-clause-ok : goal.returns-clause-ok
returns-clause-ok g c =
    let s = g.W.Writer.state c.args.writer.now in
    let t = g.W.Writer.state c.put.new.writer in
    let text = c.args.text.now in
    let appended : Appended s text t = subst (λ bytes. Appended s bytes t) c.as_bytes.ensures.value c.in_ok-put.ensures.ok in
    (text_writes text, (c.pos-start.ensures, refl), text_wrote text s t appended, c.utf8.text, inr c.in_ok-put.ensures.end)

pub returns-in_err-put-clause-err : goal.returns-in_err-put-clause-err
returns-in_err-put-clause-err g c =
    let s = g.W.Writer.state c.args.writer.now in
    let t = g.W.Writer.state c.put.new.writer in
    let text = c.args.text.now in
    let some : ¬ (text ≡ []) = λ none. absurd (grind (arith, nat_tests, c.as_bytes.ensures.len, c.as_bytes.ensures.value, c.if-is_empty.ensures, ap length none)) in
    let p = err_from_is_err_and c.from_residual.result c.from_residual.ensures.1 in
    rw (p.1, p.2) (text_refused (λ bytes. bytes) c.args.text.now s t c.in_err-put.field-0.0 (λ none. absurd (some none)) (subst (λ bytes. Refused c.in_err-put.field-0.0 s (record { bytes = bytes; reaches = true }) t) c.as_bytes.ensures.value (c.in_err-put.ensures.err true)))

pub returns-in_err-put-clause-kept : goal.returns-in_err-put-clause-kept
returns-in_err-put-clause-kept g c =
    let p = err_from_is_err_and c.from_residual.result c.from_residual.ensures.1 in
    rw p.1 (refused_begins c.in_err-put.field-0.0 (g.W.Writer.state c.args.writer.now) _ (g.W.Writer.state c.put.new.writer) (c.in_err-put.ensures.err true))
