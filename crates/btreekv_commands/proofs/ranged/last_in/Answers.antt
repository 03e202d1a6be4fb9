-- What is written of the last entry is what the command writes that reads all of the file.
use Rattle.std.proofs.Common.{◌∙◌, subst, sym}
use Rattle.std.proofs.lemmas.Result.{IfOk-weaker}
use Rattle.std.specs.Option.{option_map}
use Rattle.rkyv_btree_source.specs.Known.{AreOf}
use Rattle.rkyv_btree_view.specs.View.{view_entry}
use Rattle.btreekv_commands.proofs.Ranging.{writes_last}
use Rattle.btreekv_commands.proofs.ranged.last_in.Goals as goal

pub returns-in-Ok-clause-ok : goal.returns-in-Ok-clause-ok
returns-in-Ok-clause-ok g c b known place =
    let there = subst (λ k. AreOf k b) (sym c.longer.invariant.0) known in
    let at = c.longer.invariant.1 ∙ place in
    let reads = c.in-Ok.ensures.reads b there in
    IfOk-weaker c.written_entry.result _ _ (λ r h. writes_last b c.longer.map.pos at c.args.form r.0.items r.1 (option_map view_entry c.in-Ok.entry) reads.last reads.on_map h) c.written_entry.ensures.ok
