-- The native values of the first entry at hand.
use Rattle.std.proofs.Common.{◌∙◌, refl}
use Rattle.rkyv_btree_update.proofs.Lent.{same, taken}
use Rattle.rkyv_btree_update.proofs.entries.native_at_hand.Goals as goal

pub returns-clause-takes : goal.returns-clause-takes
returns-clause-takes g c =
    let key = c.is_lent.ensures in
    let value = c.is_lent-2.ensures in (
      taken {g = g.M.ArchivedMap} g.KU.CompareArchived.lent g.VU.CompareArchived.lent key.of_value value.of_value key.reads value.reads c.args.entries.now c.next_at_hand.new.self (c.in_ok-key.key, c.in_ok-key.value) c.in_ok-key.ensures.takes
          ∙ rw (← c.from_archived.ensures, ← c.from_archived-2.ensures) refl,
      c.in_ok-key.ensures.fewer,
    )

pub returns-in_err-key-clause-kept : goal.returns-in_err-key-clause-kept
returns-in_err-key-clause-kept g c =
    let key = c.is_lent.ensures in
    let value = c.is_lent-2.ensures in
    rw c.from_residual.ensures
    (same {g = g.M.ArchivedMap} g.KU.CompareArchived.lent g.VU.CompareArchived.lent key.of_value value.of_value key.reads value.reads c.next_at_hand.new.self c.args.entries.now c.in_err-key.ensures.kept)
