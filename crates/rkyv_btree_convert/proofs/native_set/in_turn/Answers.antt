-- The set is made of all keys, or the next one is refused.
use Rattle.std.proofs.Common.{[], ap, rules, ◌∙◌}
use Rattle.std.specs.Map.{keys_of}
use Rattle.std.specs.Prelude.{Ok}
use Rattle.std.specs.Result.{result_map_both}
use Rattle.rkyv_btree_portable.specs.Scalars.{unit_kind}
use Rattle.rkyv_btree_convert.specs.laws.Sets.{unit_by_meaning}
use Rattle.rkyv_btree_convert.proofs.Made.{all_made, next_refused}
use Rattle.rkyv_btree_convert.proofs.Puts.{put}
use Rattle.rkyv_btree_convert.proofs.Units.{model_keys, units_model, same_map, still_refused}
use Rattle.rkyv_btree_convert.proofs.native_set.in_turn.Goals as goal

pub returns-in_err-put_key-clause-refused : goal.returns-in_err-put_key-clause-refused
returns-in_err-put_key-clause-refused g c =
    let model = model_keys g.K.Deserialize.model in
    let refused = next_refused g.K.Portable.kind unit_kind g.row.E g.met.K.Deserialize.by_meaning unit_by_meaning (put g.K.Deserialize.model_order) []
    c.args.view.now.buf.now c.args.view.now.pos (model c.loop-key.set.keys) _ (record {
      start = model c.new-set.result.keys;
      entries = _;
      empty = ap model c.new-set.ensures.empty;
      all = same_map g.K.Portable.kind g.row.E _ _ _ _ _ c.as_map.ensures.buffer c.as_map.ensures.position c.iter-entries.ensures.entries;
      comes = c.loop-key.invariant;
    }) c.in-Some.key.buf.now c.in-Some._value.buf.now c.in-Some.key.pos c.in-Some._value.pos _ c.in-Some.ensures.steps c.in_err-put_key.field-0.0 c.in_err-put_key.ensures.refused in
    let kept = still_refused keys_of _ _ refused in
    search rules

pub returns-clause-ok : goal.returns-clause-ok
returns-clause-ok g c =
    let model = model_keys g.K.Deserialize.model in
    let made = all_made g.K.Portable.kind unit_kind g.row.E g.met.K.Deserialize.by_meaning unit_by_meaning (put g.K.Deserialize.model_order) []
    c.args.view.now.buf.now c.args.view.now.pos (model c.loop-key.set.keys) _ (record {
      start = model c.new-set.result.keys;
      entries = _;
      empty = ap model c.new-set.ensures.empty;
      all = same_map g.K.Portable.kind g.row.E _ _ _ _ _ c.as_map.ensures.buffer c.as_map.ensures.position c.iter-entries.ensures.entries;
      comes = c.loop-key.invariant;
    }) c.in_default.ensures.steps.0 in
    ap (result_map_both keys_of (λ fault. fault)) made ∙ ap Ok (units_model g.K.Deserialize.model c.loop-key.set.keys)
