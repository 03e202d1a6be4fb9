-- ASCII is UTF-8.
use Rattle.std.proofs.lemmas.Str.{IsUtf8-from_ascii}
use Rattle.rkyv_btree_portable.specs.Bytes.{bytes_at}
use Rattle.rkyv_btree_portable.proofs.text.is_text.Goals as goal

pub returns-then-is_ascii_in_block : goal.returns-then-is_ascii_in_block
returns-then-is_ascii_in_block c =
    rw c.if-is_ascii_in_block.true (IsUtf8-from_ascii (bytes_at c.args.buf.now c.args.lo c.args.len) (c.is_ascii_in_block.ensures c.if-is_ascii_in_block.true))
