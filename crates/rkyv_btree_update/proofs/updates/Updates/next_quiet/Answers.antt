-- All entries at hand come before the changes.
use Rattle.std.proofs.Common.{refl, ap}
use Rattle.std.proofs.lemmas.Option.{IfSome_then}
use Rattle.rkyv_btree_update.proofs.Quiet.{if_none, quiet_gives, quiet_goes, quiet_stays}
use Rattle.std.specs.Option.{option_map}
use Rattle.rkyv_btree_update.specs.Natives.{both}
use Rattle.rkyv_btree_update.specs.Updated.{updated}
use Rattle.rkyv_btree_update.specs.mirror.Merged.{new_left, put_back}
use Rattle.rkyv_btree_update.proofs.updates.Updates.next_quiet.Goals as goal

pub returns-clause-takes : goal.returns-clause-takes
returns-clause-takes g c =
    let key_shown = g.KU.CompareArchived.shown in
    let value_shown = g.VU.CompareArchived.shown in
    let s = c.args.self.now in
    let changes = new_left {g = g.M.ArchivedMap} {m = g.M.Portable} {k = g.K.Portable} {v = g.V.Portable} g.KU.CompareArchived.lent g.VU.CompareArchived.lent key_shown value_shown s in
    record {
      gives = IfSome_then c.native_at_hand.result c.native_at_hand.ensures.takes (λ e step.
          quiet_gives c.is_lent.ensures.total g.KU.CompareArchived.lent g.VU.CompareArchived.lent key_shown value_shown s c.requires c.if-not-self.false (both key_shown value_shown e) _ _ step.0 step.1);
      can = IfSome_then c.native_at_hand.result c.native_at_hand.ensures.takes (λ e step.
          quiet_goes c.is_lent.ensures.total g.KU.CompareArchived.lent g.VU.CompareArchived.lent key_shown value_shown s c.requires c.if-not-self.false (both key_shown value_shown e) _ refl refl step.0 step.1);
      kept = if_none c.native_at_hand.result c.native_at_hand.ensures.kept (λ same.
          ap (λ left. updated g.KU.CompareArchived.order (put_back (option_map (both key_shown value_shown) s.ahead) left) changes) same);
    }

pub returns-clause-ordered : goal.returns-clause-ordered
returns-clause-ordered g c =
    if_none c.native_at_hand.result c.native_at_hand.ensures.kept (λ same. record {
      ordered = quiet_stays c.is_lent.ensures.total g.KU.CompareArchived.lent g.VU.CompareArchived.lent g.KU.CompareArchived.shown g.VU.CompareArchived.shown c.args.self.now _ c.requires refl refl same;
      bare = λ is. (c.requires.quiet is).0;
    })
