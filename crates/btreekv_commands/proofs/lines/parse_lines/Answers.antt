-- Nothing is left at the end, or the first line that is left is no entry.
use Rattle.std.proofs.Common.{◌≡◌, ℕ, ◌+◌, ◌≤◌, List, [], ◌∷◌, ◌++◌, length, map, refl, arith, rules}
use Rattle.std.proofs.lemmas.List.{length-map}
use Rattle.btreekv_commands.specs.Texts.{texts_of}
use Rattle.btreekv_commands.proofs.Splitting.{all_read, bad_read, native_read, one_read}
use Rattle.btreekv_commands.proofs.lines.parse_lines.Goals as goal

none_left : (xs : List ℕ) → length xs ≤ 0 → xs ≡ []
none_left [] few = refl
none_left (x ∷ xs) few = absurd (omega arith)

pub returns-clause-ok : goal.returns-clause-ok
returns-clause-ok c =
    all_read _ _ _ c.loop-rest.invariant (none_left c.loop-rest.rest.now (omega arith))

pub returns-in_default-clause-err : goal.returns-in_default-clause-err
returns-in_default-clause-err c =
    bad_read c.args.bytes.now c.loop-rest.rest.now c.first_line.result.0.now c.first_line.result.1.now (map texts_of c.loop-rest.entries.items) (c.len.result + 1) c.loop-rest.invariant c.first_line.ensures.lines c.in_default.ensures.none
    (omega (arith, c.len.ensures, c.loop-rest.entries.ok.0, length-map c.loop-rest.entries.items texts_of))

pub loop-rest-preserved : goal.loop-rest-preserved
loop-rest-preserved c =
    let pushed : c.push.new.self.items ≡ c.loop-rest.entries.items ++ (c.in-Ok.key, c.in-Ok-from_str.value) ∷ [] = search rules in
    let read = one_read c.args.bytes.now c.loop-rest.rest.now c.first_line.result.0.now c.first_line.result.1.now (map texts_of c.loop-rest.entries.items) (c.in-Some.key.now, c.in-Some.value.now) c.loop-rest.invariant c.first_line.ensures.lines c.in-Some.ensures.found in
    native_read c.args.bytes.now c.first_line.result.1.now c.loop-rest.entries.items c.push.new.self.items (c.in-Ok.key, c.in-Ok-from_str.value) c.in-Some.key.now c.in-Some.value.now read pushed c.in-Ok.ensures.ok c.in-Ok-from_str.ensures.ok
