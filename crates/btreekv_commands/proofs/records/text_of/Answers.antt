-- The text has the escape, and no other has.
use Rattle.std.proofs.Common.{◌≡◌, false, true, sym, subst, ◌∙◌, IsUtf8, string_bytes}
use Rattle.std.proofs.lemmas.Str.{IsUtf8-string_bytes}
use Rattle.btreekv_commands.specs.Escapes.{escape}
use Rattle.btreekv_commands.proofs.Escaped.{escape_same}
use Rattle.btreekv_commands.proofs.records.text_of.Goals as goal

pub returns-in-Ok-clause-utf8 : goal.returns-in-Ok-clause-utf8
returns-in-Ok-clause-utf8 c = IsUtf8-string_bytes c.in-Ok.text

pub returns-in-Ok-Some-clause-none : goal.returns-in-Ok-Some-clause-none
returns-in-Ok-Some-clause-none c text utf8 same =
    let unescaped : escape c.in-Ok-Some.text.items ≡ c.args.bytes.now = rw c.in-Ok-Some.field-0-is at c.in-Ok-Some.ensures.some in
    let is = escape_same text c.in-Ok-Some.text.items (same ∙ sym unescaped) in
    let no : false ≡ true = c.in-Err-from_utf8.ensures.succeeds (subst IsUtf8 is utf8) in
    cc no
