-- ASCII is UTF-8.
use Rattle.std.proofs.lemmas.Str.{IsUtf8-from_ascii}
use Rattle.rkyv_btree_portable.proofs.text.is_utf8.Goals as goal

pub returns-then-is_ascii : goal.returns-then-is_ascii
returns-then-is_ascii c = rw c.if-is_ascii.true (IsUtf8-from_ascii c.args.bytes.now (rw c.if-is_ascii.true at c.is_ascii.ensures.cases))
