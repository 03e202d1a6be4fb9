-- What was taken so far is a beginning of the bytes, and the writer has it.
use Rattle.std.proofs.Common.{◌≤◌, length, take}
use Rattle.std.specs.Io.KnownBytes.{Appends}
use Rattle.rkyv_btree_writer.proofs.io_writer.hand_on.Given as goal

abbrev pub invariant-loop : goal.invariant-loop
invariant-loop g l = (l.count ≤ length l.bytes) × Appends (g.W.Write.contents l.initial.writer) (g.W.Write.contents l.writer) (take l.count l.bytes)
