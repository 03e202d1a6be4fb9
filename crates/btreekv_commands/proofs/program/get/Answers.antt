-- The value that was found is the output, if there is one.
use Rattle.std.proofs.Common.{◌≡◌, rules, refl}
use Rattle.std.specs.Cmp.Lexicographic.{slice_cmp}
use Rattle.std.specs.Ordering.{nat_cmp}
use Rattle.rkyv_btree_portable.specs.Text.{text_kind}
use Rattle.rkyv_btree_view.specs.View.{entries_of}
use Rattle.btreekv_commands.specs.Forms.{value_line}
use Rattle.btreekv_commands.proofs.Found.{found_none, found_some}
use Rattle.btreekv_commands.proofs.program.get.Goals as goal

pub returns-in-None-clause-ok : goal.returns-in-None-clause-ok
returns-in-None-clause-ok c =
    let map = c.in_ok-map.map in
    let found = (c.in-None.ensures (λ n k. slice_cmp nat_cmp n.now k) (λ n b at. refl)).found in (
      (entries_of text_kind text_kind 5 map, (c.in_ok-map.ensures.headed, c.in_ok-map.ensures.accepted)),
      found_none (value_line c.args.form) _ _ (rw (c.in_ok-map.ensures.buffer, c.in_ok-map.ensures.position, c.as_str.ensures.value) at found) (search rules),
    )

pub returns-in-Ok-clause-ok : goal.returns-in-Ok-clause-ok
returns-in-Ok-clause-ok c =
    let map = c.in_ok-map.map in
    let found = (c.in-Some.ensures (λ n k. slice_cmp nat_cmp n.now k) (λ n b at. refl)).found in
    let line : c.push_value.new.out.items ≡ value_line c.args.form (text_kind.read c.in-Some.value.buf.now c.in-Some.value.pos) = search rules in (
      (entries_of text_kind text_kind 5 map, (c.in_ok-map.ensures.headed, c.in_ok-map.ensures.accepted)),
      found_some (value_line c.args.form) _ _ _ (rw (c.in_ok-map.ensures.buffer, c.in_ok-map.ensures.position, c.as_str.ensures.value) at found) line,
    )
