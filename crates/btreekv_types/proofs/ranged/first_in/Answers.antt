-- On an archive that the command accepts it is what the command writes that reads all of it.
use Rattle.std.proofs.Common.{refl}
use Rattle.rkyv_btree_source.specs.Known.{AreOf}
use Rattle.rkyv_btree_source.specs.SourceRange.{source_of}
use Rattle.btreekv_types.proofs.SoughtParts.{writes_first, wrote_first, wrote_none}
use Rattle.btreekv_types.proofs.ranged.first_in.Goals as goal

pub returns-in-Ok-true-clause-ok : goal.returns-in-Ok-true-clause-ok
returns-in-Ok-true-clause-ok g c b known place = λ key_to value_to keys values maps.
    let there : AreOf (g.S.ReadAt.known (source_of c.range_of-entries.result).reader.source) b = rw c.range_of-entries.ensures.source known in
    let left = c.range_of-entries.ensures.left b known tt in
    let wrote = wrote_first c.args.form _ _ _ _ _ c.new-text.ensures.items c.in-Ok-true.field-0-test (c.in-Ok-true.ensures.pushes b there key_to value_to keys values maps) in
    writes_first _ _ _ _ _ _ _ b c.args.map.pos place c.args.form _ 0 _ (left.whole refl refl) left.reads wrote

pub returns-in-Ok-false-clause-ok : goal.returns-in-Ok-false-clause-ok
returns-in-Ok-false-clause-ok g c b known place = λ key_to value_to keys values maps.
    let there : AreOf (g.S.ReadAt.known (source_of c.range_of-entries.result).reader.source) b = rw c.range_of-entries.ensures.source known in
    let left = c.range_of-entries.ensures.left b known tt in
    let wrote = wrote_none c.args.form _ _ _ _ _ c.new-text.ensures.items c.in-Ok-false.field-0-test (c.in-Ok-false.ensures.pushes b there key_to value_to keys values maps) in
    writes_first _ _ _ _ _ _ _ b c.args.map.pos place c.args.form _ 1 _ (left.whole refl refl) left.reads wrote
