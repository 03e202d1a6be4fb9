-- Each entry that is made comes after those before it.
use Rattle.std.proofs.Common.{◌≡◌, ◌∙◌, ap, rules, sym, true}
use Rattle.std.specs.Prelude.{is_ok}
use Rattle.rkyv_btree.specs.Maps.{model_both}
use Rattle.examples.specs.Whole.{entries_given}
use Rattle.examples.proofs.Owned.{all_made, one_made}
use Rattle.examples.proofs.whole.owned_entries.Goals as goal

pub loop-key-preserved : goal.loop-key-preserved
loop-key-preserved g c key value =
    let pushed : is_ok c.push.result ≡ true = search rules in
    rw (c.push.ensures.items, pushed) (
    one_made key value g.K.Deserialize.model g.V.Deserialize.model c.loop-key.owned.items _ _ c.in-Some.key.buf.now c.in-Some.value.buf.now c.in-Some.key.pos c.in-Some.value.pos c.in_ok-entry.entry c.in-Some.ensures.steps c.in_ok-entry.ensures.ok
    ∙ c.loop-key.invariant key value
    )

pub returns-clause-ok : goal.returns-clause-ok
returns-clause-ok g c key value =
    let model = model_both g.K.Deserialize.model g.V.Deserialize.model in
    ap (entries_given key value) (sym c.iter-entries.ensures.entries)
    ∙ all_made key value (model c.new-owned.result.items) (model c.loop-key.owned.items) _ _ (ap model c.new-owned.ensures.items) c.in_default.ensures.steps.0 (c.loop-key.invariant key value)

pub returns-then-is_err-clause-ok : goal.returns-then-is_err-clause-ok
returns-then-is_err-clause-ok g c key value = tt

pub returns-then-is_err-clause-refused : goal.returns-then-is_err-clause-refused
returns-then-is_err-clause-refused g c key value = tt

pub returns-clause-refused : goal.returns-clause-refused
returns-clause-refused g c key value = tt
