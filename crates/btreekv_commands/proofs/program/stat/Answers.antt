-- The figures are those of the archive that was opened.
use Rattle.std.proofs.Common.{ℕ, length, refl, ap, ◌∙◌}
use Rattle.std.proofs.lemmas.Result.{IfOk-weaker}
use Rattle.rkyv_btree_portable.specs.Text.{text_kind}
use Rattle.rkyv_btree_view.specs.View.{entries_of}
use Rattle.btreekv_commands.specs.Figures.{archive_figures, figures}
use Rattle.btreekv_commands.proofs.program.stat.Goals as goal

pub returns-clause-ok : goal.returns-clause-ok
returns-clause-ok c =
    let b = c.args.archive.now in
    let m = entries_of text_kind text_kind 5 c.in_ok-map.map in
    let is = c.in_ok-map.ensures.accepted in
    IfOk-weaker c.figures_of.result _ _ (λ text written. (refl, (m, (c.in_ok-map.ensures.headed, is), written ∙ ap (λ (n : ℕ). figures n (archive_figures b m is) (length b)) c.len.ensures.entries))) (c.figures_of.ensures.ok m is)
