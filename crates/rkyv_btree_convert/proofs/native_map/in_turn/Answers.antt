-- The map is made of all entries, or the next one is refused.
use Rattle.std.proofs.Common.{[], ap, rules}
use Rattle.rkyv_btree_convert.specs.Maps.{model_both}
use Rattle.rkyv_btree_convert.proofs.Made.{all_made, next_refused}
use Rattle.rkyv_btree_convert.proofs.Puts.{put}
use Rattle.rkyv_btree_convert.proofs.native_map.in_turn.Goals as goal

pub returns-in_err-put_entry-clause-refused : goal.returns-in_err-put_entry-clause-refused
returns-in_err-put_entry-clause-refused g c =
    let model = model_both g.K.Deserialize.model g.V.Deserialize.model in
    let refused = next_refused g.K.Portable.kind g.V.Portable.kind g.row.E g.met.K.Deserialize.by_meaning g.met.V.Deserialize.by_meaning (put g.K.Deserialize.model_order) []
    c.args.view.now.buf.now c.args.view.now.pos (model c.loop-key.map.entries) _ (record {
      start = model c.new-map.result.entries;
      entries = _;
      empty = ap model c.new-map.ensures.empty;
      all = c.iter-entries.ensures.entries;
      comes = c.loop-key.invariant;
    }) c.in-Some.key.buf.now c.in-Some.value.buf.now c.in-Some.key.pos c.in-Some.value.pos _ c.in-Some.ensures.steps c.in_err-put_entry.field-0.0 c.in_err-put_entry.ensures.refused in
    search rules

pub returns-clause-ok : goal.returns-clause-ok
returns-clause-ok g c =
    let model = model_both g.K.Deserialize.model g.V.Deserialize.model in
    all_made g.K.Portable.kind g.V.Portable.kind g.row.E g.met.K.Deserialize.by_meaning g.met.V.Deserialize.by_meaning (put g.K.Deserialize.model_order) []
    c.args.view.now.buf.now c.args.view.now.pos (model c.loop-key.map.entries) _ (record {
      start = model c.new-map.result.entries;
      entries = _;
      empty = ap model c.new-map.ensures.empty;
      all = c.iter-entries.ensures.entries;
      comes = c.loop-key.invariant;
    }) c.in_default.ensures.steps.0
