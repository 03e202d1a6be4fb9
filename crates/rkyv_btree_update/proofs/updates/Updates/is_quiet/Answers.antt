-- No change is left, or the last entry at hand comes before the next one.
use Rattle.std.proofs.Common.{◌≡◌, true, refl, ap, sym, subst, ◌∙◌}
use Rattle.std.specs.Option.{option_map}
use Rattle.std.specs.Ordering.{is_lt}
use Rattle.std.specs.declared.cmp.Ordering.{Ordering}
use Rattle.std.specs.declared.cmp.Ordering.TheVariants.{Less, Equal, Greater}
use Rattle.rkyv_btree_format.specs.Increasing.{Increasing}
use Rattle.rkyv_btree_update.proofs.Lent.{last}
use Rattle.rkyv_btree_update.proofs.Quiet.{bare, earlier_before, last_before, no_later, none_of}
use Rattle.rkyv_btree_update.specs.Updated.{change_meant, key_change}
use Rattle.rkyv_btree_update.specs.mirror.Merged.{FirstBefore, IsBeforeAll, ahead, changing_left, shown_left}
use Rattle.rkyv_btree_view.specs.Iter.{at_hand}
use Rattle.rkyv_btree_update.proofs.updates.Updates.is_quiet.Goals as goal

less : (o : Ordering) → is_lt o ≡ true → o ≡ Less
less Less holds = refl
less Equal holds = cc holds
less Greater holds = cc holds

pub returns-in-None-clause-quiet : goal.returns-in-None-clause-quiet
returns-in-None-clause-quiet g c is =
    let s = c.args.self.now in
    let order = g.KU.CompareArchived.order in
    let key_shown = g.KU.CompareArchived.shown in
    let value_shown = g.VU.CompareArchived.shown in
    let left = shown_left {g = g.M.ArchivedMap} {m = g.M.Portable} {k = g.K.Portable} {v = g.V.Portable} g.KU.CompareArchived.lent g.VU.CompareArchived.lent in
    let rest = changing_left {g = g.M.ArchivedMap} {m = g.M.Portable} {k = g.K.Portable} {v = g.V.Portable} g.KU.CompareArchived.lent g.VU.CompareArchived.lent key_shown value_shown in
    let none = none_of s.ahead (sym c.is_some.ensures ∙ c.if-is_some.false) in
    let change = ap (λ o. ahead (option_map (key_change key_shown value_shown) o) (rest s.changes)) c.in-None.is in
    (none, subst (FirstBefore order (at_hand s.entries) (left s.entries)) (sym change) (no_later _ order (at_hand s.entries) (left s.entries)))

pub returns-in-Some-change-clause-quiet : goal.returns-in-Some-change-clause-quiet
returns-in-Some-change-clause-quiet g c is =
    let s = c.args.self.now in
    let keys = c.is_lent.ensures in
    let order = g.KU.CompareArchived.order in
    let key_shown = g.KU.CompareArchived.shown in
    let value_shown = g.VU.CompareArchived.shown in
    let left = shown_left {g = g.M.ArchivedMap} {m = g.M.Portable} {k = g.K.Portable} {v = g.V.Portable} g.KU.CompareArchived.lent g.VU.CompareArchived.lent in
    let rest = changing_left {g = g.M.ArchivedMap} {m = g.M.Portable} {k = g.K.Portable} {v = g.V.Portable} g.KU.CompareArchived.lent g.VU.CompareArchived.lent key_shown value_shown in
    let none = none_of s.ahead (sym c.is_some.ensures ∙ c.if-is_some.false) in
    let change = ap (λ o. ahead (option_map (key_change key_shown value_shown) o) (rest s.changes)) c.in-Some-change.is in
    let before = ap (λ x. order x (key_shown c.in-Some-change.next.0)) (sym c.from_archived.ensures) ∙ sym (c.cmp.ensures ∙ keys.compared _ _) ∙ less c.cmp.result (sym c.is_lt.ensures ∙ is) in
    let same = bare keys.total g.KU.CompareArchived.lent g.VU.CompareArchived.lent key_shown value_shown s none in (
      none,
      subst (FirstBefore order (at_hand s.entries) (left s.entries)) (sym change) (last_before keys.total (at_hand s.entries) (left s.entries) _ (key_shown c.in-Some-change.next.0) _ (rest s.changes)
          (last {g = g.M.ArchivedMap} g.KU.CompareArchived.lent g.VU.CompareArchived.lent keys.of_value c.is_lent-2.ensures.of_value keys.reads c.is_lent-2.ensures.reads s.entries (at_hand s.entries) c.in-Some.last c.in-Some.ensures.last)
          (subst (Increasing order) same c.requires.old_increase) (subst (Increasing order) change c.requires.new_increase) before),
    )

pub returns-in-None-clause-earlier : goal.returns-in-None-clause-earlier
returns-in-None-clause-earlier g c is e increase =
    let s = c.args.self.now in
    let key_shown = g.KU.CompareArchived.shown in
    let value_shown = g.VU.CompareArchived.shown in
    let rest = changing_left {g = g.M.ArchivedMap} {m = g.M.Portable} {k = g.K.Portable} {v = g.V.Portable} g.KU.CompareArchived.lent g.VU.CompareArchived.lent key_shown value_shown in
    let change = ap (λ o. ahead (option_map (key_change key_shown value_shown) o) (rest s.changes)) c.in-None.is in
    subst (IsBeforeAll g.KU.CompareArchived.order e) (sym change) tt

pub returns-in-Some-change-clause-earlier : goal.returns-in-Some-change-clause-earlier
returns-in-Some-change-clause-earlier g c is e increase =
    let s = c.args.self.now in
    let keys = c.is_lent.ensures in
    let order = g.KU.CompareArchived.order in
    let key_shown = g.KU.CompareArchived.shown in
    let value_shown = g.VU.CompareArchived.shown in
    let left = shown_left {g = g.M.ArchivedMap} {m = g.M.Portable} {k = g.K.Portable} {v = g.V.Portable} g.KU.CompareArchived.lent g.VU.CompareArchived.lent in
    let rest = changing_left {g = g.M.ArchivedMap} {m = g.M.Portable} {k = g.K.Portable} {v = g.V.Portable} g.KU.CompareArchived.lent g.VU.CompareArchived.lent key_shown value_shown in
    let change = ap (λ o. ahead (option_map (key_change key_shown value_shown) o) (rest s.changes)) c.in-Some-change.is in
    let before = ap (λ x. order x (key_shown c.in-Some-change.next.0)) (sym c.from_archived.ensures) ∙ sym (c.cmp.ensures ∙ keys.compared _ _) ∙ less c.cmp.result (sym c.is_lt.ensures ∙ is) in
    subst (IsBeforeAll order e) (sym change) (earlier_before keys.total (at_hand s.entries) (left s.entries) e _ (key_shown c.in-Some-change.next.0) (change_meant value_shown c.in-Some-change.next.1) (rest s.changes)
    (last {g = g.M.ArchivedMap} g.KU.CompareArchived.lent g.VU.CompareArchived.lent keys.of_value c.is_lent-2.ensures.of_value keys.reads c.is_lent-2.ensures.reads s.entries (at_hand s.entries) c.in-Some.last c.in-Some.ensures.last)
    increase (subst (Increasing order) change c.requires.new_increase) before)
