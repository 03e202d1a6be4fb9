-- The entry before a leaf comes before the changes if the leaf's last one does; else it is put back.
use Rattle.std.proofs.Common.{refl, ap, sym, subst, ◌∙◌}
use Rattle.std.specs.Option.{option_map}
use Rattle.rkyv_btree_format.specs.Increasing.{Increasing}
use Rattle.rkyv_btree_update.proofs.Quiet.{all_entries, crossed, crossing_gives, returned}
use Rattle.rkyv_btree_update.specs.Natives.{both}
use Rattle.rkyv_btree_update.specs.Updated.{updated}
use Rattle.rkyv_btree_update.specs.mirror.Merged.{new_left, put_back}
use Rattle.rkyv_btree_update.proofs.updates.Updates.next_crossing.Goals as goal

pub is_quiet-requires : goal.is_quiet-requires
is_quiet-requires g c κs =
    let order = g.KU.CompareArchived.order in
    let key_shown = g.KU.CompareArchived.shown in
    let value_shown = g.VU.CompareArchived.shown in
    let s = c.args.self.now in
    let none = c.requires.bare c.if-not-self.false in
    ((refl, tt), crossed c.is_lent.ensures.total g.KU.CompareArchived.lent g.VU.CompareArchived.lent key_shown value_shown s c.requires c.if-not-self.false (both key_shown value_shown c.in_ok-entry.entry) _ c.in_ok-entry.ensures _ refl none refl)

pub returns-in_err-entry-clause-takes : goal.returns-in_err-entry-clause-takes
returns-in_err-entry-clause-takes g c =
    let order = g.KU.CompareArchived.order in
    let key_shown = g.KU.CompareArchived.shown in
    let value_shown = g.VU.CompareArchived.shown in
    let s = c.args.self.now in
    let changes = new_left {g = g.M.ArchivedMap} {m = g.M.Portable} {k = g.K.Portable} {v = g.V.Portable} g.KU.CompareArchived.lent g.VU.CompareArchived.lent key_shown value_shown s in
    rw c.from_residual.ensures (record {
      gives = tt;
      can = tt;
      kept = ap (λ left. updated order (put_back (option_map (both key_shown value_shown) s.ahead) left) changes) (c.in_err-entry.ensures.1 ∙ sym c.in_err-entry.ensures.0);
    })

pub returns-in_err-entry-clause-ordered : goal.returns-in_err-entry-clause-ordered
returns-in_err-entry-clause-ordered g c =
    let order = g.KU.CompareArchived.order in
    let key_shown = g.KU.CompareArchived.shown in
    let value_shown = g.VU.CompareArchived.shown in
    let s = c.args.self.now in
    rw c.from_residual.ensures
    (record {
      old_increase = subst (λ left. Increasing order (put_back (option_map (both key_shown value_shown) s.ahead) left)) (c.in_err-entry.ensures.0 ∙ sym c.in_err-entry.ensures.1) c.requires.ordered.old_increase;
      new_increase = c.requires.ordered.new_increase;
    })

pub returns-then-is_quiet-clause-takes : goal.returns-then-is_quiet-clause-takes
returns-then-is_quiet-clause-takes g c =
    let key_shown = g.KU.CompareArchived.shown in
    let value_shown = g.VU.CompareArchived.shown in
    let s = c.args.self.now in
    let e = both key_shown value_shown c.in_ok-entry.entry in
    record {
      gives = crossing_gives c.is_lent.ensures.total g.KU.CompareArchived.lent g.VU.CompareArchived.lent key_shown value_shown s c.requires c.if-not-self.false e _ c.in_ok-entry.ensures
          (c.is_quiet.ensures.earlier c.if-is_quiet.true e (all_entries c.is_lent.ensures.total g.KU.CompareArchived.lent g.VU.CompareArchived.lent key_shown value_shown s c.requires c.if-not-self.false e _ c.in_ok-entry.ensures));
      can = record {
        ordered = crossed c.is_lent.ensures.total g.KU.CompareArchived.lent g.VU.CompareArchived.lent key_shown value_shown s c.requires c.if-not-self.false e _ c.in_ok-entry.ensures _ refl (c.requires.bare c.if-not-self.false) refl;
        quiet = λ _. c.is_quiet.ensures.quiet c.if-is_quiet.true;
      };
      kept = tt;
    }

pub returns-clause-takes : goal.returns-clause-takes
returns-clause-takes g c =
    let order = g.KU.CompareArchived.order in
    let key_shown = g.KU.CompareArchived.shown in
    let value_shown = g.VU.CompareArchived.shown in
    let s = c.args.self.now in
    let e = both key_shown value_shown c.in_ok-entry.entry in
    let changes = new_left {g = g.M.ArchivedMap} {m = g.M.Portable} {k = g.K.Portable} {v = g.V.Portable} g.KU.CompareArchived.lent g.VU.CompareArchived.lent key_shown value_shown s in
    record { gives = tt; can = tt; kept = ap (λ xs. updated order xs changes) (sym (returned c.is_lent.ensures.total g.KU.CompareArchived.lent g.VU.CompareArchived.lent key_shown value_shown s c.requires c.if-not-self.false e _ c.in_ok-entry.ensures)) }

pub returns-clause-ordered : goal.returns-clause-ordered
returns-clause-ordered g c =
    let order = g.KU.CompareArchived.order in
    let key_shown = g.KU.CompareArchived.shown in
    let value_shown = g.VU.CompareArchived.shown in
    let s = c.args.self.now in
    let e = both key_shown value_shown c.in_ok-entry.entry in
    record { old_increase = subst (Increasing order) (returned c.is_lent.ensures.total g.KU.CompareArchived.lent g.VU.CompareArchived.lent key_shown value_shown s c.requires c.if-not-self.false e _ c.in_ok-entry.ensures) c.requires.ordered.old_increase; new_increase = c.requires.ordered.new_increase }
