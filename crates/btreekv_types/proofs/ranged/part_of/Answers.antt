-- Each part is that of the map that is all of the source.
use Rattle.std.proofs.Common.{◌∙◌}
use Rattle.rkyv_btree_source.specs.Known.{AreOf}
use Rattle.btreekv_types.proofs.ranged.part_of.Goals as goal

pub returns-in-Ok-clause-ok : goal.returns-in-Ok-clause-ok
returns-in-Ok-clause-ok g c b known place =
    let there : AreOf (g.S.ReadAt.known c.new-map.result.reader.source) b = rw c.new-map.ensures.source known in
    rw c.in-First.is (c.in-Ok.ensures.ok b there (c.new-map.ensures.position ∙ place))

pub returns-in-Ok-last_in-clause-ok : goal.returns-in-Ok-last_in-clause-ok
returns-in-Ok-last_in-clause-ok g c b known place =
    let there : AreOf (g.S.ReadAt.known c.new-map.result.reader.source) b = rw c.new-map.ensures.source known in
    rw c.in-Last.is (c.in-Ok-last_in.ensures.ok b there (c.new-map.ensures.position ∙ place))

pub returns-in-Ok-between_in-clause-ok : goal.returns-in-Ok-between_in-clause-ok
returns-in-Ok-between_in-clause-ok g c b known place =
    let there : AreOf (g.S.ReadAt.known c.new-map.result.reader.source) b = rw c.new-map.ensures.source known in
    rw c.in-Between.is (c.in-Ok-between_in.ensures.ok b there (c.new-map.ensures.position ∙ place))

pub returns-clause-err : goal.returns-clause-err
returns-clause-err g c b known place =
    let there : AreOf (g.S.ReadAt.known c.new-map.result.reader.source) b = rw c.new-map.ensures.source known in
    rw c.in-Between.is (c.in-Err-between_in.ensures.err b there (c.new-map.ensures.position ∙ place))
