use Rattle.std.proofs.Common.{refl, ap, subst, ◌∙◌}
use Rattle.btreearc_lines.specs.Grammar.{text_of}
use Rattle.btreearc_commands.specs.Opening.{IsInput, entries_read}
use Rattle.btreearc_commands.proofs.Listed.{from_nothing, output_listed}
use Rattle.btreearc_commands.proofs.program.list.Goals as goal

pub returns-clause-done : goal.returns-clause-done
returns-clause-done g c =
    let map = c.in_ok-map.map in
    let archive = c.in_ok-archive.archive.items in
    let entries = entries_read map.buf.now map.pos in
    let given = c.in-Ok.ensures in (
      refl,
      output_listed (g.R.Read.remaining c.args.input.now) (g.W.Write.contents c.args.output.now) (g.W.Write.contents c.write_all.new.output) archive c.as_bytes.result.now entries c.in_ok-archive.ensures.all
          (subst (λ b. IsInput b entries) c.deref.ensures.value (c.in_ok-map.ensures.headed, c.in_ok-map.ensures.accepted))
          (c.as_bytes.ensures.value ∙ (c.as_str.ensures.value ∙ from_nothing _ _ _ c.new-text.ensures.bytes given.2 ∙ ap text_of (c.iter.ensures.yields given.0 given.1)))
          c.in_ok-write_all.ensures.all,
    )
