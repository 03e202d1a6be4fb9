-- A value whose own bytes are all of it.
use Rattle.std.proofs.Common.{◌∙◌, sym, ap, length}
use Rattle.rkyv_btree_source.proofs.Brought.{held_front, refuses_odd, refuses_value}
use Rattle.rkyv_btree_source.proofs.fetch.fetch_own.Goals as goal

pub returns-then-pos-align-ne0-clause-brings : goal.returns-then-pos-align-ne0-clause-brings
returns-then-pos-align-ne0-clause-brings g c b part =
    refuses_odd g.T.Scalar.form.plain g.T.Scalar.faithful.lawful b c.args.own_bytes.now c.args.pos part c.requires.size (λ e. c.if-pos-align-ne0.true (rw c.size_and_align-size.ensures.align e))

pub returns-else-is_value-clause-brings : goal.returns-else-is_value-clause-brings
returns-else-is_value-clause-brings g c b part =
    let plain = g.T.Scalar.form.plain in
    let same = c.copy_from_slice.ensures.after in
    let held = held_front c.copy_from_slice.new.self _ plain.size (ap length same ∙ c.requires.size) in
    refuses_value plain g.T.Scalar.faithful.lawful b c.args.own_bytes.now c.args.pos part c.requires.size (rw (← c.size_and_align-size.ensures.align) c.if-pos-align-ne0.false)
    (ap plain.is_value (sym (held ∙ same)) ∙ (sym c.is_value.ensures ∙ c.if-is_value.false))
