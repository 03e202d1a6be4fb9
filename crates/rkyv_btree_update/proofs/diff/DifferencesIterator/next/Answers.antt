-- A call passes over entries that both maps have, and then gives what comes first.
use Rattle.std.proofs.Common.{Option, Some, None, refl, ◌∙◌}
use Rattle.std.specs.Option.{option_map}
use Rattle.std.specs.Prelude.{IfSome}
use Rattle.rkyv_btree_update.proofs.Merged.{gives, goes}
use Rattle.rkyv_btree_update.specs.Updated.{key_change}
use Rattle.rkyv_btree_update.specs.mirror.Merged.{diff_left}
use Rattle.rkyv_btree_update.proofs.diff.DifferencesIterator.next.Goals as goal

any : {X : Type 0} (r : Option X) → IfSome r (λ _. Unit {0})
any None = tt
any (Some x) = tt

pub loop-item-init : goal.loop-item-init
loop-item-init g c = record { same = refl }

pub returns-in-Some-clause-steps : goal.returns-in-Some-clause-steps
returns-in-Some-clause-steps g c =
    let left = diff_left {g = g.M.ArchivedMap} {m = g.M.Portable} {k = g.K.Portable} {v = g.V.Portable} g.KU.CompareArchived.order g.VU.CompareArchived.order g.KU.CompareArchived.lent g.VU.CompareArchived.lent g.KU.CompareArchived.shown g.VU.CompareArchived.shown in
    gives left (λ s. Unit {0}) c.args.self.now c.loop-item.self c.step.new.self c.loop-item.invariant.same (option_map (key_change g.KU.CompareArchived.shown g.VU.CompareArchived.shown) c.in-Some.item) c.in-Some.ensures

pub returns-in-Some-clause-goes : goal.returns-in-Some-clause-goes
returns-in-Some-clause-goes g c =
    let left = diff_left {g = g.M.ArchivedMap} {m = g.M.Portable} {k = g.K.Portable} {v = g.V.Portable} g.KU.CompareArchived.order g.VU.CompareArchived.order g.KU.CompareArchived.lent g.VU.CompareArchived.lent g.KU.CompareArchived.shown g.VU.CompareArchived.shown in
    goes left _ c.args.self.now c.loop-item.self c.step.new.self c.loop-item.invariant.same (key_change g.KU.CompareArchived.shown g.VU.CompareArchived.shown) c.in-Some.item c.in-Some.ensures (any _)

pub loop-item-smaller : goal.loop-item-smaller
loop-item-smaller g c = c.in_default.ensures.1

pub loop-item-preserved : goal.loop-item-preserved
loop-item-preserved g c = record { same = c.loop-item.invariant.same ∙ c.in_default.ensures.0 }
