-- The map is that of the source.
use Rattle.std.proofs.Common.{◌∙◌}
use Rattle.rkyv_btree_source.specs.Known.{AreOf}
use Rattle.btreekv_types.proofs.sourced.find.Goals as goal

pub returns-in-Ok-clause-ok : goal.returns-in-Ok-clause-ok
returns-in-Ok-clause-ok g c b known place =
    let there : AreOf (g.S.ReadAt.known c.new-map.result.reader.source) b = rw c.new-map.ensures.source known in
    c.in-Ok.ensures.ok b there (c.new-map.ensures.position ∙ place)

pub returns-in-Err-clause-err : goal.returns-in-Err-clause-err
returns-in-Err-clause-err g c b known place =
    let there : AreOf (g.S.ReadAt.known c.new-map.result.reader.source) b = rw c.new-map.ensures.source known in
    c.in-Err.ensures.err b there (c.new-map.ensures.position ∙ place)
