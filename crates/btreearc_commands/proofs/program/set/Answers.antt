-- The archive with the value is written, or nothing is.
use Rattle.std.proofs.Common.{◌≡◌, List, ℕ, length, sym, subst, ◌∙◌, arith}
use Rattle.std.specs.Io.KnownBytes.{Appends}
use Rattle.btreearc_commands.specs.Opening.{IsInput, IsArchive, entries_read}
use Rattle.btreearc_commands.specs.Setting.{SetsValue}
use Rattle.btreearc_commands.proofs.SetOut.{set_out, not_set_out, output_set, written_back}
use Rattle.btreearc_commands.proofs.program.set.Goals as goal

pub returns-then-set_value-clause-done : goal.returns-then-set_value-clause-done
returns-then-set_value-clause-done g c =
    let map = c.in_ok-root.field-0 in
    let archive = c.in_ok-archive.archive.items in
    let made = c.set_value.new.archive in
    let entries = entries_read map.buf.now map.pos in
    let opened = subst (λ b. IsInput b entries) c.deref.ensures.value (c.in_ok-root.ensures.headed, c.in_ok-root.ensures.accepted) in
    let same = c.deref_mut.ensures.value in
    let sets = subst (λ (b : List ℕ). SetsValue c.args.key c.args.value entries b made c.set_value.result) same
    (c.set_value.ensures entries (subst (λ (b : List ℕ). IsArchive b entries) (sym same) opened.1)) in
    let long : length made ≡ c.in_ok-archive.archive.len = omega arith in
    let all : length archive ≡ c.in_ok-archive.archive.len = omega arith in
    let back : c.deref-then-set_value.result.now ≡ made = c.deref-then-set_value.ensures.value ∙ written_back c.in_ok-archive.archive.len made archive long all in
    let written = subst (λ (bytes : List ℕ). Appends (g.W.Write.contents c.args.output.now) (g.W.Write.contents c.write_all.new.output) bytes) back c.in_ok-write_all.ensures.all in
    output_set (g.R.Read.remaining c.args.input.now) (g.W.Write.contents c.args.output.now) _ archive entries c.args.key c.args.value 0 c.in_ok-archive.ensures.all opened
    (set_out c.args.key c.args.value entries archive made _ _ c.set_value.result c.if-set_value.true written sets)

pub returns-clause-done : goal.returns-clause-done
returns-clause-done g c =
    let map = c.in_ok-root.field-0 in
    let archive = c.in_ok-archive.archive.items in
    let made = c.set_value.new.archive in
    let entries = entries_read map.buf.now map.pos in
    let opened = subst (λ b. IsInput b entries) c.deref.ensures.value (c.in_ok-root.ensures.headed, c.in_ok-root.ensures.accepted) in
    let same = c.deref_mut.ensures.value in
    let sets = subst (λ (b : List ℕ). SetsValue c.args.key c.args.value entries b made c.set_value.result) same
    (c.set_value.ensures entries (subst (λ (b : List ℕ). IsArchive b entries) (sym same) opened.1)) in
    output_set (g.R.Read.remaining c.args.input.now) (g.W.Write.contents c.args.output.now) _ archive entries c.args.key c.args.value 1 c.in_ok-archive.ensures.all opened
    (not_set_out c.args.key c.args.value entries archive made _ c.set_value.result c.if-set_value.false sets)
