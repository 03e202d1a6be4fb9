-- What is made is written, or the cause is passed on.
use Rattle.rkyv_btree_typed.specs.TypeNames.{name_of}
use Rattle.rkyv_btree_typed.specs.TypeNames as term
use Rattle.btreekv_types.specs.Typed.{items_by}
use Rattle.btreekv_types.proofs.Streams.{unmade, unwritten}
use Rattle.btreekv_types.proofs.output.write_output.Goals as goal

pub returns-in-Err : goal.returns-in-Err
returns-in-Err g c = λ key_to value_to keys values maps.
    unmade g.K.Portable.kind g.V.Portable.kind (name_of (term.map g.K.TypeName.term g.V.TypeName.term 5)) (items_by g.K.Item.IsValue (g.K.Item.spelling c.args.style) key_to) (items_by g.V.Item.IsValue (g.V.Item.spelling c.args.style) value_to) g.K.Native.Archive.archival g.V.Native.Archive.archival c.args.input.now c.args.command.now _
    c.in-Err.fault (c.in-Err.ensures.err key_to value_to keys values maps)

pub returns-in-Ok-write_all : goal.returns-in-Ok-write_all
returns-in-Ok-write_all g c = λ key_to value_to keys values maps.
    (c.in-Ok.made.0.items, c.in-Ok.ensures.ok key_to value_to keys values maps, rw c.deref.ensures.value at c.in-Ok-write_all.ensures.all)

pub returns : goal.returns
returns g c = λ key_to value_to keys values maps.
    unwritten g.K.Portable.kind g.V.Portable.kind (name_of (term.map g.K.TypeName.term g.V.TypeName.term 5)) (items_by g.K.Item.IsValue (g.K.Item.spelling c.args.style) key_to) (items_by g.V.Item.IsValue (g.V.Item.spelling c.args.style) value_to) g.K.Native.Archive.archival g.V.Native.Archive.archival c.args.input.now c.args.command.now _ _
    c.in-Ok.made.0.items c.in-Ok.made.1 (c.in-Ok.ensures.ok key_to value_to keys values maps) c.in-Err-write_all.fault c.in-Err-write_all.ensures.err
