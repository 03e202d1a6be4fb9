-- What is written are the lines of the entries that the range gives.
use Rattle.std.proofs.Common.{refl, ap, subst, ◌∙◌}
use Rattle.std.specs.Ordering.{nat_cmp}
use Rattle.rkyv_btree_view.specs.Range.{range_left}
use Rattle.btreearc_lines.specs.Grammar.{text_of}
use Rattle.btreearc_commands.specs.Opening.{IsInput, entries_read}
use Rattle.btreearc_commands.proofs.Between.{between, output_between}
use Rattle.btreearc_commands.proofs.Listed.{from_nothing}
use Rattle.btreearc_commands.proofs.program.range.Goals as goal

pub returns-clause-done : goal.returns-clause-done
returns-clause-done g c =
    let map = c.in_ok-map.map in
    let archive = c.in_ok-archive.archive.items in
    let entries = entries_read map.buf.now map.pos in
    let range = c.range_by-entries.ensures in
    let found = range_left c.range_by-entries.result in
    let given = c.in-Ok.ensures in (
      refl,
      output_between (g.R.Read.remaining c.args.input.now) (g.W.Write.contents c.args.output.now) (g.W.Write.contents c.write_all.new.output) archive c.as_bytes.result.now c.args.low c.args.high entries found
          c.in_ok-archive.ensures.all
          (subst (λ b. IsInput b entries) c.deref.ensures.value (c.in_ok-map.ensures.headed, c.in_ok-map.ensures.accepted))
          (between c.args.low c.args.high entries found range.range.run (range.between nat_cmp (λ n b at. refl)).within)
          (c.as_bytes.ensures.value ∙ (c.as_str.ensures.value ∙ from_nothing _ _ _ c.new-text.ensures.bytes given.2 ∙ ap text_of (range.range.yields given.0 given.1)))
          c.in_ok-write_all.ensures.all,
    )
