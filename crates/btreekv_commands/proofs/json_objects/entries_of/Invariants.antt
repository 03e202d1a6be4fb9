-- The members so far are the entries, as texts.
use Rattle.std.proofs.Common.{◌≡◌, ◌++◌, map}
use Rattle.btreekv_commands.proofs.ObjectsRead.{text_member}
use Rattle.btreekv_commands.proofs.json_objects.entries_of.Given as goal

abbrev pub invariant-loop-key : goal.invariant-loop-key
invariant-loop-key l = l.fn.members.entries ≡ map text_member l.entries.items ++ l.key-iterator
