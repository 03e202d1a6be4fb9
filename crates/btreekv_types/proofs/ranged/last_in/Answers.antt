-- What is written of the last entry is what the command writes that reads all of the file.
use Rattle.std.proofs.Common.{◌∙◌, refl, subst, sym}
use Rattle.std.specs.Option.{option_map}
use Rattle.rkyv_btree_format.specs.Read.{read_map}
use Rattle.rkyv_btree_source.specs.Known.{AreOf}
use Rattle.btreekv_types.specs.Typed.{texts_shown}
use Rattle.btreekv_types.proofs.Shown.{last_shown}
use Rattle.btreekv_types.proofs.SoughtParts.{writes_last}
use Rattle.btreekv_types.proofs.ranged.last_in.Goals as goal

pub returns-in-Ok-None-clause-ok : goal.returns-in-Ok-None-clause-ok
returns-in-Ok-None-clause-ok g c b known place = λ key_to value_to keys values maps.
    let there = subst (λ k. AreOf k b) (sym c.longer.invariant.0) known in
    let reads = c.in-Ok-None.ensures.reads b there in
    let shown = last_shown (g.K.Item.spelling c.args.style) g.K.Item.value_at key_to (g.V.Item.spelling c.args.style) g.V.Item.value_at value_to keys.read values.read g.K.Item.IsValue g.V.Item.IsValue c.in-Ok-None.field-0 in
    writes_last _ _ _ _ _ _ _ b _ (c.longer.invariant.1 ∙ place) c.args.form _ 1 (option_map (texts_shown (g.K.Item.spelling c.args.style) g.K.Item.value_at (g.V.Item.spelling c.args.style) g.V.Item.value_at) c.in-Ok-None.field-0) (λ es is. shown es (reads.on_map es is)) (shown (read_map g.K.Portable.kind g.V.Portable.kind 5 b c.longer.map.pos) reads.last) (rw c.in-Ok-None.field-0-is (c.new.ensures.items, refl))

pub returns-in-Ok-clause-ok : goal.returns-in-Ok-clause-ok
returns-in-Ok-clause-ok g c b known place = λ key_to value_to keys values maps.
    let there = subst (λ k. AreOf k b) (sym c.longer.invariant.0) known in
    let reads = c.in-Ok-Some.ensures.reads b there in
    let shown = last_shown (g.K.Item.spelling c.args.style) g.K.Item.value_at key_to (g.V.Item.spelling c.args.style) g.V.Item.value_at value_to keys.read values.read g.K.Item.IsValue g.V.Item.IsValue c.in-Ok-Some.field-0 in
    writes_last _ _ _ _ _ _ _ b _ (c.longer.invariant.1 ∙ place) c.args.form _ 0 (option_map (texts_shown (g.K.Item.spelling c.args.style) g.K.Item.value_at (g.V.Item.spelling c.args.style) g.V.Item.value_at) c.in-Ok-Some.field-0) (λ es is. shown es (reads.on_map es is)) (shown (read_map g.K.Portable.kind g.V.Portable.kind 5 b c.longer.map.pos) reads.last) (rw c.in-Ok-Some.field-0-is (c.in-Ok.ensures.ok ∙ rw c.new-text.ensures.items refl, refl))
