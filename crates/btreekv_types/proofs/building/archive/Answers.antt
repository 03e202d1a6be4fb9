-- Why there is no file, and the file of the entries that are read.
use Rattle.std.proofs.Common.{List, map, refl, subst}
use Rattle.rkyv_btree_convert.specs.Maps.{last_wins}
use Rattle.rkyv_btree_format.specs.Increasing.{Increasing, IsOutOfOrder}
use Rattle.rkyv_btree_typed.specs.TypeNames.{name_of}
use Rattle.rkyv_btree_typed.specs.TypeNames as term
use Rattle.btreekv_commands.specs.Texts.{texts_of}
use Rattle.btreekv_types.proofs.Built.{built, out_of_order, unbuilt, unread}
use Rattle.btreekv_types.proofs.building.archive.Goals as goal

pub returns-in-Err-clause-err : goal.returns-in-Err-clause-err
returns-in-Err-clause-err g c = λ key_to value_to keys values maps.
    unread key_to value_to keys values g.K.Item.IsValue (g.K.Item.spelling c.args.style) g.V.Item.IsValue (g.V.Item.spelling c.args.style) (name_of (term.map g.K.TypeName.term g.V.TypeName.term 5)) c.args.order c.args.heading (map texts_of c.args.entries.now) c.in-Err.fault c.in-Err.ensures.err

pub returns-in-Some-clause-err : goal.returns-in-Some-clause-err
returns-in-Some-clause-err g c = λ key_to value_to keys values maps.
    out_of_order key_to value_to keys values maps g.K.Native.Ord.cmp g.met.K.Item.same_values.natively g.met.K.ViewOrd.total g.K.Item.IsValue (g.K.Item.spelling c.args.style) g.V.Item.IsValue (g.V.Item.spelling c.args.style) (name_of (term.map g.K.TypeName.term g.V.TypeName.term 5)) c.args.heading
    (map texts_of c.args.entries.now) c.in-Ok.natives.items (last_wins g.K.Native.Ord.cmp c.in-Ok.natives.items) c.in-Ok.ensures.ok refl c.args.order c.in-Some.ensures.ordered c.in-Some.index
    (subst (λ (xs : List _). IsOutOfOrder g.K.Native.Ord.cmp xs c.in-Some.index) c.as_slice.ensures.value c.in-Some.ensures.some)

pub returns-in-Ok-map_file-clause-ok : goal.returns-in-Ok-map_file-clause-ok
returns-in-Ok-map_file-clause-ok g c = λ key_to value_to keys values maps.
    built key_to value_to keys values maps g.K.Native.Ord.cmp g.met.K.Item.same_values.natively g.met.K.ViewOrd.total g.K.Item.IsValue (g.K.Item.spelling c.args.style) g.V.Item.IsValue (g.V.Item.spelling c.args.style) (name_of (term.map g.K.TypeName.term g.V.TypeName.term 5)) c.args.heading
    (map texts_of c.args.entries.now) c.in-Ok.natives.items c.in-Ok-sorted.map.entries c.in-Ok.ensures.ok c.in-Ok-sorted.ensures.ok c.args.order
    (λ is. subst (λ (xs : List _). Increasing g.K.Native.Ord.cmp xs) c.as_slice.ensures.value (c.in-None.ensures.none is)) c.in-Ok-map_file.bytes.items (c.in-Ok-map_file.ensures.ok maps.whole)

pub returns-clause-err : goal.returns-clause-err
returns-clause-err g c = λ key_to value_to keys values maps.
    unbuilt key_to value_to keys values maps g.K.Native.Ord.cmp g.met.K.Item.same_values.natively g.met.K.ViewOrd.total g.K.Item.IsValue (g.K.Item.spelling c.args.style) g.V.Item.IsValue (g.V.Item.spelling c.args.style) (name_of (term.map g.K.TypeName.term g.V.TypeName.term 5)) c.args.heading
    (map texts_of c.args.entries.now) c.in-Ok.natives.items c.in-Ok-sorted.map.entries c.in-Ok.ensures.ok c.in-Ok-sorted.ensures.ok c.args.order
    (λ is. subst (λ (xs : List _). Increasing g.K.Native.Ord.cmp xs) c.as_slice.ensures.value (c.in-None.ensures.none is)) c.in-Err-map_file.fault c.in-Err-map_file.ensures.err
