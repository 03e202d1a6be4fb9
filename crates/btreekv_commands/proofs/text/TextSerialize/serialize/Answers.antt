-- A text that isn't empty makes its one write, or that is refused.
use Rattle.std.proofs.Common.{◌≡◌, ◌<◌, List, ℕ, true, [], length, refl, ap, subst, arith, ◌∙◌}
use Rattle.std.proofs.lemmas.Bool.Decides.{nat_tests}
use Rattle.std.proofs.lemmas.Result.{err_from_is_err_and}
use Rattle.rkyv_btree_writer.specs.declared.fault.Fault.TheVariants.{PositionOverflow}
use Rattle.rkyv_btree_writer.specs.Writing.{Refused, position, last_end}
use Rattle.rkyv_btree_writing_laws.proofs.Kept.{refused_begins}
use Rattle.btreekv_commands.proofs.TextsWritten.{text_refused}
use Rattle.btreekv_commands.proofs.text.TextSerialize.serialize.Goals as goal

pub returns-then-start-gt-LAST_END-clause-err : goal.returns-then-start-gt-LAST_END-clause-err
returns-then-start-gt-LAST_END-clause-err g c =
    let s = g.W.Writer.state c.args.writer.now in
    let past : last_end < position s = omega (arith, c.pos-start.ensures) in
    text_refused {E = g.row.W-Error.Denot} c.args.self.now s s PositionOverflow (λ none. past) (refl, omega (arith, past))

pub returns-in_err-put-clause-err : goal.returns-in_err-put-clause-err
returns-in_err-put-clause-err g c =
    let s = g.W.Writer.state c.args.writer.now in
    let t = g.W.Writer.state c.put.new.writer in
    let text : List ℕ = c.args.self.now in
    let some : ¬ (text ≡ []) = λ none. absurd (grind (arith, nat_tests, c.is_empty.ensures, c.if-is_empty.false, c.if-is_empty.ensures, ap length c.self.view_is, ap length none)) in
    let p = err_from_is_err_and c.from_residual.result c.from_residual.ensures.1 in
    rw (p.1, p.2) (text_refused text s t c.in_err-put.field-0.0 (λ none. absurd (some none)) (subst (λ (bytes : List ℕ). Refused c.in_err-put.field-0.0 s (record { bytes = bytes; reaches = true }) t) (c.as_slice.ensures ∙ c.self.view_is) (c.in_err-put.ensures.err true)))

pub returns-in_err-put-clause-kept : goal.returns-in_err-put-clause-kept
returns-in_err-put-clause-kept g c =
    let p = err_from_is_err_and c.from_residual.result c.from_residual.ensures.1 in
    rw p.1 (refused_begins c.in_err-put.field-0.0 (g.W.Writer.state c.args.writer.now) _ (g.W.Writer.state c.put.new.writer) (c.in_err-put.ensures.err true))
