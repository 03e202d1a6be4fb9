-- One change more is made.
use Rattle.std.proofs.Common.{◌∙◌, ap, sym}
use Rattle.std.proofs.lemmas.List.Sums.{fold_push}
use Rattle.rkyv_btree_update.specs.Updated.{changed}
use Rattle.btreekv_types.proofs.updating.make_changes.Goals as goal

pub loop-key-preserved : goal.loop-key-preserved
loop-key-preserved g c =
    c.in-Ok.ensures.ok ∙ (ap (λ m. changed g.T.Ord.cmp m (c.in-Some.key, c.in-Some.change)) c.loop-key.invariant
    ∙ sym (fold_push (changed g.T.Ord.cmp) c.args.map.now.entries c.loop-key.yielded (c.in-Some.key, c.in-Some.change)))
