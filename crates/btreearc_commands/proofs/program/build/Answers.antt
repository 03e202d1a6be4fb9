-- What was read was built and written, or the cause is that of the first call that failed.
use Rattle.std.proofs.Common.{◌≡◌, ℕ, List, IfSome, sym, subst}
use Rattle.std.specs.Io.KnownBytes.{Appends}
use Rattle.btreearc_commands.proofs.Causes.{fails_so, output_built, read_fails, text_fails, write_fails}
use Rattle.btreearc_commands.proofs.program.build.Goals as goal

pub returns-in-Err-clause-done : goal.returns-in-Err-clause-done
returns-in-Err-clause-done g c =
    let known = g.R.Read.remaining c.args.input.now in
    fails_so c.args.is_strict c.args.heading known (g.W.Write.contents c.args.output.now) c.in-Err.fault (read_fails c.args.is_strict c.args.heading known c.in-Err.fault c.in-Err.ensures.err)

pub returns-in-Err-archive-clause-done : goal.returns-in-Err-archive-clause-done
returns-in-Err-archive-clause-done g c =
    let known = g.R.Read.remaining c.args.input.now in
    let is = subst (λ (t : List ℕ). IfSome known (λ bytes. t ≡ bytes)) (sym c.deref.ensures.value) c.in-Ok.ensures.all in
    fails_so c.args.is_strict c.args.heading known (g.W.Write.contents c.args.output.now) c.in-Err-archive.fault (text_fails c.args.is_strict c.args.heading known c.deref.result.now is c.in-Err-archive.fault c.in-Err-archive.ensures.err)

pub returns-in-Ok-write_all-clause-done : goal.returns-in-Ok-write_all-clause-done
returns-in-Ok-write_all-clause-done g c =
    let known = g.R.Read.remaining c.args.input.now in
    let old = g.W.Write.contents c.args.output.now in
    let new = g.W.Write.contents c.write_all.new.output in
    let is = subst (λ (t : List ℕ). IfSome known (λ bytes. t ≡ bytes)) (sym c.deref.ensures.value) c.in-Ok.ensures.all in
    output_built c.args.is_strict c.args.heading known old new c.deref.result.now c.in-Ok-archive.archive.items is c.in-Ok-archive.ensures.ok (subst (λ (bytes : List ℕ). Appends old new bytes) c.deref-2.ensures.value c.in-Ok-write_all.ensures.all)

pub returns-clause-done : goal.returns-clause-done
returns-clause-done g c =
    let known = g.R.Read.remaining c.args.input.now in
    let is = subst (λ (t : List ℕ). IfSome known (λ bytes. t ≡ bytes)) (sym c.deref.ensures.value) c.in-Ok.ensures.all in
    write_fails c.args.is_strict c.args.heading known (g.W.Write.contents c.args.output.now) (g.W.Write.contents c.write_all.new.output) c.deref.result.now c.in-Ok-archive.archive.items is c.in-Ok-archive.ensures.ok c.in-Err-write_all.fault c.in-Err-write_all.ensures.err
