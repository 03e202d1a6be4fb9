use Rattle.std.proofs.Common.{map, take}
use Rattle.rkyv_btree_typed.specs.TypeNames.{name_of}
use Rattle.rkyv_btree_typed.specs.TypeNames as term
use Rattle.btreekv_commands.specs.Texts.{texts_of}
use Rattle.btreekv_types.specs.Commands.{AppendsEach}
use Rattle.btreekv_types.specs.Typed.{ByValues, items_by}
use Rattle.btreekv_types.proofs.changing.push_others.Given as goal

-- the texts of the files so far are appended
abbrev pub invariant-others : goal.invariant-others
invariant-others g l =
    ByValues g.K.Native.Archive.archival g.K.Portable.kind g.K.Item.order g.K.Item.value_at g.K.Item.native_value g.V.Native.Archive.archival g.V.Portable.kind g.V.Item.order g.V.Item.value_at g.V.Item.native_value (λ key_to value_to.
    AppendsEach g.K.Portable.kind g.V.Portable.kind (name_of (term.map g.K.TypeName.term g.V.TypeName.term 5)) (items_by g.K.Item.IsValue (g.K.Item.spelling l.style) key_to) (items_by g.V.Item.IsValue (g.V.Item.spelling l.style) value_to)
    (take l.index (map (λ file. file.items) l.others)) (map texts_of l.fn.texts.items) (map texts_of l.texts.items))
