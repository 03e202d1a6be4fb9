-- Each text is that of its part.
use Rattle.std.proofs.Common.{◌≡◌, ℕ, List, IsUtf8}
use Rattle.btreekv_commands.specs.Escapes.{escape}
use Rattle.btreekv_commands.proofs.Recorded.{escaped_parts, not_escaped}
use Rattle.btreekv_commands.proofs.records.escaped_entry.Goals as goal

pub returns-in_default-clause-none : goal.returns-in_default-clause-none
returns-in_default-clause-none c = not_escaped c.args.part.now c.in_default.ensures.none

pub returns-in-Ok-None-clause-none : goal.returns-in-Ok-None-clause-none
returns-in-Ok-None-clause-none c x entry =
    let none : (text : List ℕ) → IsUtf8 text → ¬ (escape text ≡ c.in-Some.key.now) = rw c.in-Ok-None.field-0-is at c.in-Ok-None.ensures.none in
    none x.0 entry.key (escaped_parts c.args.part.now c.in-Some.key.now c.in-Some.value.now c.in-Some.ensures.found c.in-Some.ensures.first x entry).0

pub returns-in-Ok-None-text_of-clause-none : goal.returns-in-Ok-None-text_of-clause-none
returns-in-Ok-None-text_of-clause-none c x entry =
    let none : (text : List ℕ) → IsUtf8 text → ¬ (escape text ≡ c.in-Some.value.now) = rw c.in-Ok-None-text_of.field-0-is at c.in-Ok-None-text_of.ensures.none in
    none x.1 entry.value (escaped_parts c.args.part.now c.in-Some.key.now c.in-Some.value.now c.in-Some.ensures.found c.in-Some.ensures.first x entry).1
