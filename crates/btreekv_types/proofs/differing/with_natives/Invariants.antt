use Rattle.std.proofs.Common.{◌≡◌, ◌++◌, map, string_bytes}
use Rattle.btreekv_commands.specs.Texts.{texts_of}
use Rattle.btreekv_types.specs.Typed.{AreTyped, items}
use Rattle.btreekv_types.specs.mirror.Differing.{keyed}
use Rattle.btreekv_types.proofs.differing.with_natives.Given as goal

-- the entries so far have their native keys
abbrev pub invariant-loop-key : goal.invariant-loop-key
invariant-loop-key g l =
    (l.fn.entries.items ≡ l.yielded ++ l.key-iterator.rest.items)
    × AreTyped (keyed g.K.Item.IsValue (g.K.Item.spelling l.fn.style) g.K.Item.native_value) (items (λ text. Unit {0}) string_bytes) (map texts_of l.yielded) l.found.items
