-- The list has all entries, or the next one is refused.
use Rattle.std.proofs.Common.{[], ap, rules, sym, ◌∙◌}
use Rattle.rkyv_btree_convert.specs.Maps.{decoded_entries, model_both}
use Rattle.rkyv_btree_convert.proofs.Made.{all_made, next_refused, next_taken}
use Rattle.rkyv_btree_convert.proofs.Puts.{push, all_pushed}
use Rattle.rkyv_btree_convert.proofs.native_map.native_entries.Goals as goal

pub loop-key-preserved : goal.loop-key-preserved
loop-key-preserved g c =
    let model = model_both g.K.Deserialize.model g.V.Deserialize.model in
    let pushed = c.in_ok-push_entry.ensures.ok in
    next_taken g.K.Portable.kind g.V.Portable.kind g.row.E g.met.K.Deserialize.by_meaning g.met.V.Deserialize.by_meaning push []
    c.args.view.now.buf.now c.args.view.now.pos (model c.loop-key.made.items) _ (record {
      start = model c.in-Ok.made.items;
      entries = _;
      empty = ap model c.in-Ok.ensures.items;
      all = c.iter-entries.ensures.entries;
      comes = c.loop-key.invariant;
    }) c.in-Some.key.buf.now c.in-Some.value.buf.now c.in-Some.key.pos c.in-Some.value.pos _ c.in-Some.ensures.steps pushed.0 pushed.1 (model c.push_entry.new.entries.items) pushed.2

pub returns-in_err-push_entry-clause-refused : goal.returns-in_err-push_entry-clause-refused
returns-in_err-push_entry-clause-refused g c =
    let model = model_both g.K.Deserialize.model g.V.Deserialize.model in
    let refused = next_refused g.K.Portable.kind g.V.Portable.kind g.row.E g.met.K.Deserialize.by_meaning g.met.V.Deserialize.by_meaning push []
    c.args.view.now.buf.now c.args.view.now.pos (model c.loop-key.made.items) _ (record {
      start = model c.in-Ok.made.items;
      entries = _;
      empty = ap model c.in-Ok.ensures.items;
      all = c.iter-entries.ensures.entries;
      comes = c.loop-key.invariant;
    }) c.in-Some.key.buf.now c.in-Some.value.buf.now c.in-Some.key.pos c.in-Some.value.pos _ c.in-Some.ensures.steps c.in_err-push_entry.field-0.0 c.in_err-push_entry.ensures.refused in
    let kept = rw all_pushed at refused in
    search rules

pub returns-clause-ok : goal.returns-clause-ok
returns-clause-ok g c =
    let model = model_both g.K.Deserialize.model g.V.Deserialize.model in
    let given = decoded_entries g.K.Portable.kind g.V.Portable.kind g.row.E g.K.Deserialize.decoded g.V.Deserialize.decoded c.args.view.now.buf.now c.args.view.now.pos in
    sym (all_pushed given) ∙ all_made g.K.Portable.kind g.V.Portable.kind g.row.E g.met.K.Deserialize.by_meaning g.met.V.Deserialize.by_meaning push []
    c.args.view.now.buf.now c.args.view.now.pos (model c.loop-key.made.items) _ (record {
      start = model c.in-Ok.made.items;
      entries = _;
      empty = ap model c.in-Ok.ensures.items;
      all = c.iter-entries.ensures.entries;
      comes = c.loop-key.invariant;
    }) c.in_default-next.ensures.steps.0
