use Rattle.std.proofs.Common.{map, take}
use Rattle.btreekv_commands.specs.Texts.{texts_of}
use Rattle.btreekv_types.specs.Typed.{AreTyped, items_by}
use Rattle.btreekv_types.proofs.natives.natives.Given as goal

-- the entries so far have these native values
abbrev pub invariant-entries : goal.invariant-entries
invariant-entries g l =
    AreTyped (items_by g.K.Item.IsValue (g.K.Item.spelling l.style) g.K.Item.native_value) (items_by g.V.Item.IsValue (g.V.Item.spelling l.style) g.V.Item.native_value)
    (map texts_of (take l.index l.entries)) l.natives.items
