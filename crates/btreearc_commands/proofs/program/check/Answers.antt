-- What is written is how many entries were opened.
use Rattle.std.proofs.Common.{◌≡◌, length, refl, rules, subst}
use Rattle.btreearc_commands.specs.Commands.{total}
use Rattle.btreearc_commands.specs.Opening.{IsInput, entries_read}
use Rattle.btreearc_commands.proofs.Listed.{output_counted}
use Rattle.btreearc_commands.proofs.program.check.Goals as goal

pub returns-clause-done : goal.returns-clause-done
returns-clause-done g c =
    let map = c.in_ok-open.field-0 in
    let archive = c.in_ok-archive.archive.items in
    let entries = entries_read map.buf.now map.pos in
    let text : c.as_bytes.result.now ≡ total (length entries) = search rules in (
      refl,
      output_counted (g.R.Read.remaining c.args.input.now) (g.W.Write.contents c.args.output.now) (g.W.Write.contents c.write_all.new.output) archive c.as_bytes.result.now entries c.in_ok-archive.ensures.all
          (subst (λ b. IsInput b entries) c.deref.ensures.value (c.in_ok-open.ensures.headed, c.in_ok-open.ensures.accepted)) text c.in_ok-write_all.ensures.all,
    )
