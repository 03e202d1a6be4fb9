use Rattle.std.proofs.Common.{◌≡◌, ◌++◌, List, map, string_bytes}
use Rattle.std.specs.Prelude.{String}
use Rattle.std.specs.declared.alloc.Global.{Global}
use Rattle.rkyv_btree_convert.specs.Maps.{last_wins}
use Rattle.btreekv_commands.specs.Texts.{texts_of}
use Rattle.btreekv_types.specs.Typed.{AreTyped, items, items_by}
use Rattle.btreekv_types.proofs.updating.text_map.Given as goal

-- the entries so far are in the map
abbrev pub invariant-loop-key : goal.invariant-loop-key
invariant-loop-key g l =
    (l.fn.entries.items ≡ l.yielded ++ l.key-iterator.rest.items)
    × ((pairs : List (_ × String Global)) × AreTyped (items_by g.K.Item.IsValue (g.K.Item.spelling l.fn.style) g.K.Item.native_value) (items (λ text. Unit {0}) string_bytes) (map texts_of l.yielded) pairs
    × (l.map.entries ≡ last_wins g.K.Native.Ord.cmp pairs))
