-- Each step takes what comes first.
use Rattle.std.proofs.Common.{◌≡◌, ◌∷◌, [], Some, sym, ap, subst, ◌∙◌}
use Rattle.std.specs.Option.{option_map}
use Rattle.rkyv_btree_update.proofs.Merged.{no_changes, no_entries, entry_before, entry_changed, change_before, put_shown}
use Rattle.rkyv_btree_update.specs.Natives.{both}
use Rattle.rkyv_btree_update.specs.Updated.{change_meant, key_change}
use Rattle.rkyv_btree_update.specs.mirror.Merged.{Steps, ahead, changing_left, new_left, old_left, put_back, shown_left}
use Rattle.rkyv_btree_update.proofs.updates.Updates.step.Goals as goal

pub returns-in_default : goal.returns-in_default
returns-in_default g c =
    let key_shown = g.KU.CompareArchived.shown in
    let value_shown = g.VU.CompareArchived.shown in
    let old = old_left {g = g.M.ArchivedMap} {m = g.M.Portable} {k = g.K.Portable} {v = g.V.Portable} g.KU.CompareArchived.lent g.VU.CompareArchived.lent key_shown value_shown in
    let new = new_left {g = g.M.ArchivedMap} {m = g.M.Portable} {k = g.K.Portable} {v = g.V.Portable} g.KU.CompareArchived.lent g.VU.CompareArchived.lent key_shown value_shown in
    let rest = changing_left {g = g.M.ArchivedMap} {m = g.M.Portable} {k = g.K.Portable} {v = g.V.Portable} g.KU.CompareArchived.lent g.VU.CompareArchived.lent key_shown value_shown in
    let s = c.args.self.now in
    let own = c.take_own.new.self in
    let same : new own ≡ new s = ap (λ o. ahead (option_map (key_change key_shown value_shown) o) (rest own.changes)) c.take_own.ensures.change ∙ ap (λ r. ahead (option_map (key_change key_shown value_shown) s.change) (rest r)) c.take_own.ensures.changes in
    let change = sym same ∙ ap (λ o. ahead (option_map (key_change key_shown value_shown) o) (rest own.changes)) c.in-Some-change.is ∙ ap (λ zs. key_change key_shown value_shown (c.in-Some-change.key, c.in-Some-change.change) ∷ zs) (sym c.pass_change.ensures.rest) in
    subst (λ o. Steps g.KU.CompareArchived.order old new s o c.pass_change.new.self)
    (sym (ap (option_map (option_map (both key_shown value_shown))) c.put_entry.ensures ∙ put_shown key_shown value_shown c.in-Some-change.key c.in-Some-change.change))
    (no_entries c.is_lent.ensures.total old new s c.pass_change.new.self c.requires (key_shown c.in-Some-change.key) (change_meant value_shown c.in-Some-change.change)
    c.in_default.ensures.taken.0 (c.pass_change.ensures.old ∙ c.in_default.ensures.taken.1) change)

pub returns-in_default-change-2 : goal.returns-in_default-change-2
returns-in_default-change-2 g c =
    let key_shown = g.KU.CompareArchived.shown in
    let value_shown = g.VU.CompareArchived.shown in
    let old = old_left {g = g.M.ArchivedMap} {m = g.M.Portable} {k = g.K.Portable} {v = g.V.Portable} g.KU.CompareArchived.lent g.VU.CompareArchived.lent key_shown value_shown in
    let new = new_left {g = g.M.ArchivedMap} {m = g.M.Portable} {k = g.K.Portable} {v = g.V.Portable} g.KU.CompareArchived.lent g.VU.CompareArchived.lent key_shown value_shown in
    let rest = changing_left {g = g.M.ArchivedMap} {m = g.M.Portable} {k = g.K.Portable} {v = g.V.Portable} g.KU.CompareArchived.lent g.VU.CompareArchived.lent key_shown value_shown in
    let s = c.args.self.now in
    let own = c.take_own.new.self in
    let same : new own ≡ new s = ap (λ o. ahead (option_map (key_change key_shown value_shown) o) (rest own.changes)) c.take_own.ensures.change ∙ ap (λ r. ahead (option_map (key_change key_shown value_shown) s.change) (rest r)) c.take_own.ensures.changes in
    let e = both key_shown value_shown c.in-Some.entry in
    let taken = c.in-Some.ensures.taken in
    let none : new own ≡ [] = ap (λ o. ahead (option_map (key_change key_shown value_shown) o) (rest own.changes)) c.in_default-change-2.is in
    no_changes c.is_lent.ensures.total old new s own c.requires (Some e) (sym same ∙ none) none taken

pub returns-in-Less : goal.returns-in-Less
returns-in-Less g c =
    let key_shown = g.KU.CompareArchived.shown in
    let value_shown = g.VU.CompareArchived.shown in
    let old = old_left {g = g.M.ArchivedMap} {m = g.M.Portable} {k = g.K.Portable} {v = g.V.Portable} g.KU.CompareArchived.lent g.VU.CompareArchived.lent key_shown value_shown in
    let new = new_left {g = g.M.ArchivedMap} {m = g.M.Portable} {k = g.K.Portable} {v = g.V.Portable} g.KU.CompareArchived.lent g.VU.CompareArchived.lent key_shown value_shown in
    let rest = changing_left {g = g.M.ArchivedMap} {m = g.M.Portable} {k = g.K.Portable} {v = g.V.Portable} g.KU.CompareArchived.lent g.VU.CompareArchived.lent key_shown value_shown in
    let s = c.args.self.now in
    let own = c.take_own.new.self in
    let same : new own ≡ new s = ap (λ o. ahead (option_map (key_change key_shown value_shown) o) (rest own.changes)) c.take_own.ensures.change ∙ ap (λ r. ahead (option_map (key_change key_shown value_shown) s.change) (rest r)) c.take_own.ensures.changes in
    let e = both key_shown value_shown c.in-Some.entry in
    let taken = c.in-Some.ensures.taken in
    let change = sym same ∙ ap (λ o. ahead (option_map (key_change key_shown value_shown) o) (rest own.changes)) c.in-Some-change-2.is in
    entry_before c.is_lent.ensures.total old new s own c.requires e (old own) taken (key_shown c.in-Some-change-2.key) (change_meant value_shown c.in-Some-change-2.change) (rest own.changes) (Some e) change same taken
    (sym (c.cmp.ensures ∙ c.is_lent.ensures.compared c.in-Some.entry.0 c.in-Some-change-2.key) ∙ c.in-Less.is)

pub returns-in-Equal : goal.returns-in-Equal
returns-in-Equal g c =
    let key_shown = g.KU.CompareArchived.shown in
    let value_shown = g.VU.CompareArchived.shown in
    let old = old_left {g = g.M.ArchivedMap} {m = g.M.Portable} {k = g.K.Portable} {v = g.V.Portable} g.KU.CompareArchived.lent g.VU.CompareArchived.lent key_shown value_shown in
    let new = new_left {g = g.M.ArchivedMap} {m = g.M.Portable} {k = g.K.Portable} {v = g.V.Portable} g.KU.CompareArchived.lent g.VU.CompareArchived.lent key_shown value_shown in
    let rest = changing_left {g = g.M.ArchivedMap} {m = g.M.Portable} {k = g.K.Portable} {v = g.V.Portable} g.KU.CompareArchived.lent g.VU.CompareArchived.lent key_shown value_shown in
    let s = c.args.self.now in
    let own = c.take_own.new.self in
    let same : new own ≡ new s = ap (λ o. ahead (option_map (key_change key_shown value_shown) o) (rest own.changes)) c.take_own.ensures.change ∙ ap (λ r. ahead (option_map (key_change key_shown value_shown) s.change) (rest r)) c.take_own.ensures.changes in
    let e = both key_shown value_shown c.in-Some.entry in
    let taken = c.in-Some.ensures.taken in
    let change = sym same ∙ ap (λ o. ahead (option_map (key_change key_shown value_shown) o) (rest own.changes)) c.in-Some-change-2.is ∙ ap (λ zs. key_change key_shown value_shown (c.in-Some-change-2.key, c.in-Some-change-2.change) ∷ zs) (sym c.pass_change-in-Equal.ensures.rest) in
    subst (λ o. Steps g.KU.CompareArchived.order old new s o c.pass_change-in-Equal.new.self)
    (sym (ap (option_map (option_map (both key_shown value_shown))) c.put_entry-in-Equal.ensures ∙ put_shown key_shown value_shown c.in-Some.entry.0 c.in-Some-change-2.change))
    (entry_changed c.is_lent.ensures.total old new s c.pass_change-in-Equal.new.self c.requires e (old own) taken (key_shown c.in-Some-change-2.key) (change_meant value_shown c.in-Some-change-2.change) (Some e) change
    (taken ∙ ap (λ zs. e ∷ zs) (sym c.pass_change-in-Equal.ensures.old)) (sym (c.cmp.ensures ∙ c.is_lent.ensures.compared c.in-Some.entry.0 c.in-Some-change-2.key) ∙ c.in-Equal.is))

pub returns-in-Greater : goal.returns-in-Greater
returns-in-Greater g c =
    let key_shown = g.KU.CompareArchived.shown in
    let value_shown = g.VU.CompareArchived.shown in
    let old = old_left {g = g.M.ArchivedMap} {m = g.M.Portable} {k = g.K.Portable} {v = g.V.Portable} g.KU.CompareArchived.lent g.VU.CompareArchived.lent key_shown value_shown in
    let new = new_left {g = g.M.ArchivedMap} {m = g.M.Portable} {k = g.K.Portable} {v = g.V.Portable} g.KU.CompareArchived.lent g.VU.CompareArchived.lent key_shown value_shown in
    let rest = changing_left {g = g.M.ArchivedMap} {m = g.M.Portable} {k = g.K.Portable} {v = g.V.Portable} g.KU.CompareArchived.lent g.VU.CompareArchived.lent key_shown value_shown in
    let s = c.args.self.now in
    let own = c.take_own.new.self in
    let same : new own ≡ new s = ap (λ o. ahead (option_map (key_change key_shown value_shown) o) (rest own.changes)) c.take_own.ensures.change ∙ ap (λ r. ahead (option_map (key_change key_shown value_shown) s.change) (rest r)) c.take_own.ensures.changes in
    let e = both key_shown value_shown c.in-Some.entry in
    let taken = c.in-Some.ensures.taken in
    let change = sym same ∙ ap (λ o. ahead (option_map (key_change key_shown value_shown) o) (rest own.changes)) c.in-Some-change-2.is ∙ ap (λ zs. key_change key_shown value_shown (c.in-Some-change-2.key, c.in-Some-change-2.change) ∷ zs) (sym c.pass_change-in-Greater.ensures.rest) in
    let bare : old own ≡ shown_left {g = g.M.ArchivedMap} {m = g.M.Portable} {k = g.K.Portable} {v = g.V.Portable} g.KU.CompareArchived.lent g.VU.CompareArchived.lent own.entries = ap (λ o. put_back (option_map (both key_shown value_shown) o) (shown_left {g = g.M.ArchivedMap} {m = g.M.Portable} {k = g.K.Portable} {v = g.V.Portable} g.KU.CompareArchived.lent g.VU.CompareArchived.lent own.entries)) c.in-Some.ensures.none in
    subst (λ o. Steps g.KU.CompareArchived.order old new s o c.pass_change-in-Greater.new.self)
    (sym (ap (option_map (option_map (both key_shown value_shown))) c.put_entry-in-Greater.ensures ∙ put_shown key_shown value_shown c.in-Some-change-2.key c.in-Some-change-2.change))
    (change_before c.is_lent.ensures.total old new s c.pass_change-in-Greater.new.self c.requires e (old own) taken (key_shown c.in-Some-change-2.key) (change_meant value_shown c.in-Some-change-2.change) change
    (c.pass_change-in-Greater.ensures.old ∙ ap (λ zs. e ∷ zs) (sym bare) ∙ sym taken) (sym (c.cmp.ensures ∙ c.is_lent.ensures.compared c.in-Some.entry.0 c.in-Some-change-2.key) ∙ c.in-Greater.is))
