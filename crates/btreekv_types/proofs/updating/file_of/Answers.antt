-- Why there is no file, and the file of the entries.
use Rattle.rkyv_btree_typed.specs.TypeNames.{name_of}
use Rattle.rkyv_btree_typed.specs.TypeNames as term
use Rattle.btreekv_types.specs.declared.command.Order.TheVariants.{Any}
use Rattle.btreekv_types.proofs.Built.{built, unbuilt}
use Rattle.btreekv_types.proofs.updating.file_of.Goals as goal

pub returns-in-Ok-map_file-clause-ok : goal.returns-in-Ok-map_file-clause-ok
returns-in-Ok-map_file-clause-ok g c = λ key_to value_to keys values maps texts are.
    built key_to value_to keys values maps g.K.Native.Ord.cmp g.met.K.Item.same_values.natively g.met.K.ViewOrd.total g.K.Item.IsValue (g.K.Item.spelling c.args.style) g.V.Item.IsValue (g.V.Item.spelling c.args.style) (name_of (term.map g.K.TypeName.term g.V.TypeName.term 5)) c.args.heading
    texts c.args.natives.items c.in-Ok.map.entries are c.in-Ok.ensures.ok Any (λ is. absurd (cc is)) c.in-Ok-map_file.bytes.items (c.in-Ok-map_file.ensures.ok maps.whole)

pub returns-clause-err : goal.returns-clause-err
returns-clause-err g c = λ key_to value_to keys values maps texts are.
    unbuilt key_to value_to keys values maps g.K.Native.Ord.cmp g.met.K.Item.same_values.natively g.met.K.ViewOrd.total g.K.Item.IsValue (g.K.Item.spelling c.args.style) g.V.Item.IsValue (g.V.Item.spelling c.args.style) (name_of (term.map g.K.TypeName.term g.V.TypeName.term 5)) c.args.heading
    texts c.args.natives.items c.in-Ok.map.entries are c.in-Ok.ensures.ok Any (λ is. absurd (cc is)) c.in-Err-map_file.fault c.in-Err-map_file.ensures.err
