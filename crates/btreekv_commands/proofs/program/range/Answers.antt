-- The entries of the range are the output.
use Rattle.std.proofs.Common.{refl, ap, ◌∙◌}
use Rattle.std.specs.Cmp.Lexicographic.{slice_cmp}
use Rattle.std.specs.Ordering.{nat_cmp}
use Rattle.rkyv_btree_portable.specs.Text.{text_kind}
use Rattle.rkyv_btree_view.specs.Range.{range_left}
use Rattle.rkyv_btree_view.specs.View.{entries_of}
use Rattle.btreekv_commands.specs.Forms.{text_in}
use Rattle.btreekv_commands.proofs.Listed.{from_nothing}
use Rattle.btreekv_commands.proofs.program.range.Goals as goal

pub returns-in-Ok-clause-ok : goal.returns-in-Ok-clause-ok
returns-in-Ok-clause-ok c =
    let map = c.in_ok-map.map in
    let r = c.range_by-entries in
    let given = c.in-Ok.ensures in
    let within = (r.ensures.between (λ n k. slice_cmp nat_cmp n.now k) (λ n b at. refl)).within in (
      refl,
      (
        entries_of text_kind text_kind 5 map,
        range_left r.result,
        (c.in_ok-map.ensures.headed, c.in_ok-map.ensures.accepted),
        record { run = r.ensures.range.run; all = rw (c.as_str.ensures.value, c.as_str-2.ensures.value) at within },
        from_nothing _ _ _ c.new-text.ensures.items given.2 ∙ ap (text_in c.args.form) (r.ensures.range.yields given.0 given.1),
      ),
    )
