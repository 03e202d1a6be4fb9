-- The native values of the first entry that remains.
use Rattle.std.proofs.Common.{refl, sym, subst, ◌∙◌}
use Rattle.std.specs.Iterator.{YieldsFirst}
use Rattle.std.specs.Option.{option_map}
use Rattle.rkyv_btree_update.proofs.Lent.{ended, taken}
use Rattle.rkyv_btree_update.specs.Natives.{both}
use Rattle.rkyv_btree_update.specs.mirror.Merged.{shown_left}
use Rattle.rkyv_btree_update.proofs.entries.next_native.Goals as goal

pub returns-in_err-key : goal.returns-in_err-key
returns-in_err-key g c =
    let key = c.is_lent.ensures in
    let value = c.is_lent-2.ensures in
    let none = ended {g = g.M.ArchivedMap} {m = g.M.Portable} g.KU.CompareArchived.lent g.VU.CompareArchived.lent key.of_value value.of_value key.reads value.reads in
    subst (λ o. YieldsFirst (shown_left {g = g.M.ArchivedMap} {m = g.M.Portable} g.KU.CompareArchived.lent g.VU.CompareArchived.lent) c.args.entries.now (option_map (both g.KU.CompareArchived.shown g.VU.CompareArchived.shown) o) c.next.new.self) (sym c.from_residual.ensures)
    (none c.args.entries.now c.in_err-key.ensures.steps.0, none c.next.new.self c.in_err-key.ensures.steps.1)

pub returns : goal.returns
returns g c =
    let key = c.is_lent.ensures in
    let value = c.is_lent-2.ensures in
    taken {g = g.M.ArchivedMap} g.KU.CompareArchived.lent g.VU.CompareArchived.lent key.of_value value.of_value key.reads value.reads c.args.entries.now c.next.new.self (c.in_ok-key.key, c.in_ok-key.value) c.in_ok-key.ensures.steps
    ∙ rw (← c.from_archived.ensures, ← c.from_archived-2.ensures) refl
