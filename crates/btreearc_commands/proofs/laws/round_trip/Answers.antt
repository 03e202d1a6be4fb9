use Rattle.std.proofs.Common.{refl}
use Rattle.btreearc_lines.specs.declared.heading.Heading.TheVariants.{Typed}
use Rattle.std.proofs.lemmas.Result.{IfOk-weaker}
use Rattle.btreearc_commands.proofs.Again.{listed_again}
use Rattle.btreearc_commands.proofs.laws.round_trip.Goals as goal

pub returns : goal.returns
returns c =
    let built = c.in_ok-archive.ensures.build refl in
    IfOk-weaker c.output_of-2.result _ _ (λ listed lists. listed_again Typed (c.lines_are_listed_again.ensures.listed Typed) c.args.text.now c.in_ok-archive.archive.items c.deref.result.now listed.items built c.deref.ensures.value lists) (c.output_of-2.ensures.list refl)
