-- Of lines that were counted, an error of building is one of the command.
use Rattle.std.proofs.Common.{◌≡◌, ℕ, List, length, Option, IfSome, subst}
use Rattle.btreekv_commands.specs.Building.{IsReadOrBuildFault, IsUnbuilt}
use Rattle.btreekv_commands.specs.Lines.{AreLines, Entry}
use Rattle.btreekv_commands.proofs.Causes.{Because, fails_so}
use Rattle.btreekv_commands.proofs.streaming.test_lines.Goals as goal

pub returns-clause-err : goal.returns-clause-err
returns-clause-err g c =
    let given = g.R.Reopen.bytes c.args.input.now in
    let count = c.in-Ok-count_lines.count in
    let counted = subst (λ (o : Option (List ℕ)). IfSome o (λ bytes. (entries : List Entry) × AreLines bytes entries × (count ≡ length entries))) c.in-Ok.ensures.bytes c.in-Ok-count_lines.ensures.ok in
    let because = subst (λ (o : Option (List ℕ)). IsReadOrBuildFault (λ f. Because o count (λ es. IsUnbuilt c.args.heading es f)) c.in-Err-test_build.fault) c.in-Ok-reopen-2.ensures.bytes c.in-Err-test_build.ensures.err in
    fails_so c.args.is_strict c.args.heading given count counted c.in-Err-test_build.fault because
