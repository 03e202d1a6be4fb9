use Rattle.std.proofs.Common.{◌≡◌, ◌++◌, map, string_bytes}
use Rattle.std.specs.List.{AllByRecursion}
use Rattle.btreekv_types.specs.Typed.{AreTyped, items_by}
use Rattle.btreekv_types.proofs.updating.native_entries.Given as goal

-- the entries so far are native
abbrev pub invariant-loop-key : goal.invariant-loop-key
invariant-loop-key g l =
    (l.fn.entries.entries ≡ l.yielded ++ l.key-iterator)
    × (AllByRecursion (λ e. g.K.Item.IsValue (g.K.Item.native_value e.0)) l.yielded
    → AreTyped (items_by g.K.Item.IsValue (g.K.Item.spelling l.fn.style) g.K.Item.native_value) (items_by g.V.Item.IsValue (g.V.Item.spelling l.fn.style) g.V.Item.native_value)
    (map (λ e. (g.K.Item.spelling l.fn.style (g.K.Item.native_value e.0), string_bytes e.1)) l.yielded) l.natives.items)
