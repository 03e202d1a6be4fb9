-- Those of the entries of the map are written.
use Rattle.std.proofs.Common.{◌∙◌, ap, map, refl, string_bytes, subst}
use Rattle.std.specs.Io.KnownBytes.{Appends}
use Rattle.rkyv_btree_typed.specs.TypeNames.{name_of}
use Rattle.rkyv_btree_typed.specs.TypeNames as term
use Rattle.rkyv_btree_view.specs.View.{entries_of}
use Rattle.btreekv_types.specs.Listing.{prefixed_text}
use Rattle.btreekv_types.specs.Typed.{items_by, spelled_entry, texts_shown}
use Rattle.btreekv_types.specs.declared.command.TypedCommand.TheVariants.{Prefix}
use Rattle.btreekv_types.proofs.Shown.{all_shown}
use Rattle.btreekv_types.proofs.Streams.{streamed}
use Rattle.btreekv_types.proofs.prefixed.prefix.Goals as goal

pub returns : goal.returns
returns g c = λ key_to value_to keys values maps.
    let K = g.K.Portable.kind in
    let V = g.V.Portable.kind in
    let key_items = items_by g.K.Item.IsValue (g.K.Item.spelling c.args.style) key_to in
    let value_items = items_by g.V.Item.IsValue (g.V.Item.spelling c.args.style) value_to in
    let entries = entries_of K V 5 c.in-Ok.map in
    let texts = map (spelled_entry key_items value_items) entries in
    streamed K V (name_of (term.map g.K.TypeName.term g.V.TypeName.term 5)) key_items value_items g.K.Native.Archive.archival g.V.Native.Archive.archival c.args.archive.now (Prefix c.args.prefix.now c.args.form) _ _
    (prefixed_text (string_bytes c.args.prefix.now) c.args.form texts) (refl, (texts, (entries, c.in-Ok.ensures.input, refl), refl))
    (λ shows. subst (Appends _ _) (ap (λ p. prefixed_text p c.args.form (map (texts_shown (g.K.Item.spelling c.args.style) g.K.Item.value_at (g.V.Item.spelling c.args.style) g.V.Item.value_at) shows.0)) c.as_str.ensures.value ∙ ap (prefixed_text (string_bytes c.args.prefix.now) c.args.form) (all_shown (g.K.Item.spelling c.args.style) g.K.Item.value_at key_to (g.V.Item.spelling c.args.style) g.V.Item.value_at value_to keys.read values.read g.K.Item.IsValue g.V.Item.IsValue shows.0 ∙ ap (map (spelled_entry key_items value_items)) (c.iter.ensures.yields shows.0 shows.1))) shows.2)
    c.write_prefixed.result c.write_prefixed.ensures.ok c.write_prefixed.ensures.err
