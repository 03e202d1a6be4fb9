-- The entries of the map are appended as texts, or the cause is passed on.
use Rattle.std.proofs.Common.{◌++◌, ◌∙◌, List, ap, map, refl}
use Rattle.rkyv_btree_view.specs.View.{entries_of}
use Rattle.btreekv_commands.specs.Lines.{Entry}
use Rattle.btreekv_commands.specs.Texts.{texts_of}
use Rattle.btreekv_types.specs.Typed.{items_by, spelled, spelled_entry}
use Rattle.btreekv_types.proofs.Shown.{all_shown}
use Rattle.btreekv_types.proofs.changing.push_entries.Goals as goal

pub returns-in-Err-open_strict-clause-err : goal.returns-in-Err-open_strict-clause-err
returns-in-Err-open_strict-clause-err g c = λ key_to value_to keys values maps. record {
  first = (c.in-Err-open_strict.ensures.exact.refuses _).0 refl;
  none = λ entries is increase. absurd (cc (c.in-Err-open_strict.ensures.exact.accepts.1 (entries, (is, increase))));
}

pub returns-in-Ok-push_all-clause-ok : goal.returns-in-Ok-push_all-clause-ok
returns-in-Ok-push_all-clause-ok g c = λ key_to value_to keys values maps.
    let entries = entries_of g.K.Portable.kind g.V.Portable.kind 5 c.in-Ok-open_strict.map.view in
    let key_items = items_by g.K.Item.IsValue (g.K.Item.spelling c.args.style) key_to in
    let value_items = items_by g.V.Item.IsValue (g.V.Item.spelling c.args.style) value_to in
    let shows = c.in-Ok-push_all.ensures.ok in (
      spelled key_items value_items entries,
      (
        entries,
        ((c.in-Ok.heading, c.in-Ok.ensures.ok), c.in-Ok-open_strict.ensures.entries.0),
        c.in-Ok-open_strict.ensures.entries.1,
        refl,
      ),
      shows.2 ∙ ap (λ (es : List Entry). map texts_of c.args.texts.now.items ++ es)
          (all_shown (g.K.Item.spelling c.args.style) g.K.Item.value_at key_to (g.V.Item.spelling c.args.style) g.V.Item.value_at value_to keys.read values.read g.K.Item.IsValue g.V.Item.IsValue shows.0
          ∙ ap (map (spelled_entry key_items value_items)) (c.iter.ensures.yields shows.0 shows.1)),
    )
