-- A call passes over changes that delete, and then gives what comes first.
use Rattle.std.proofs.Common.{refl, ◌∙◌}
use Rattle.std.specs.Option.{option_map}
use Rattle.rkyv_btree_update.proofs.Merged.{gives, if_shown}
use Rattle.rkyv_btree_update.specs.Natives.{both}
use Rattle.rkyv_btree_update.specs.mirror.Merged.{AreOrdered, merged, new_left, old_left}
use Rattle.rkyv_btree_update.proofs.updates.Updates.next_compared.Goals as goal

pub loop-item-init : goal.loop-item-init
loop-item-init g c = record { same = refl; ordered = c.requires }

pub step-requires : goal.step-requires
step-requires g c κs = ((refl, tt), c.loop-item.invariant.ordered)

pub returns-in-Some-clause-gives : goal.returns-in-Some-clause-gives
returns-in-Some-clause-gives g c =
    let key_shown = g.KU.CompareArchived.shown in
    let value_shown = g.VU.CompareArchived.shown in
    let old = old_left {g = g.M.ArchivedMap} {m = g.M.Portable} {k = g.K.Portable} {v = g.V.Portable} g.KU.CompareArchived.lent g.VU.CompareArchived.lent key_shown value_shown in
    let new = new_left {g = g.M.ArchivedMap} {m = g.M.Portable} {k = g.K.Portable} {v = g.V.Portable} g.KU.CompareArchived.lent g.VU.CompareArchived.lent key_shown value_shown in
    gives (merged g.KU.CompareArchived.order old new) (AreOrdered g.KU.CompareArchived.order old new) c.args.self.now c.loop-item.self c.step.new.self c.loop-item.invariant.same (option_map (both key_shown value_shown) c.in-Some.item) c.in-Some.ensures.0

pub returns-in-Some-clause-ordered : goal.returns-in-Some-clause-ordered
returns-in-Some-clause-ordered g c = if_shown _ (both g.KU.CompareArchived.shown g.VU.CompareArchived.shown) c.in-Some.item c.in-Some.ensures.1

pub loop-item-smaller : goal.loop-item-smaller
loop-item-smaller g c = c.in_default.ensures.2

pub loop-item-preserved : goal.loop-item-preserved
loop-item-preserved g c = record { same = c.loop-item.invariant.same ∙ c.in_default.ensures.0; ordered = c.in_default.ensures.1 }
