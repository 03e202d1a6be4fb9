-- What is past a bound reaches its query, or is after it.
use Rattle.std.proofs.Common.{sym, ap}
use Rattle.rkyv_btree_format.specs.Layout.{layout_of}
use Rattle.rkyv_btree_walk.specs.Paths.{walk_rest}
use Rattle.rkyv_btree_walk.specs.mirror.Range.{first_of}
use Rattle.rkyv_btree_walk.proofs.Ranges.{kept_none}
use Rattle.rkyv_btree_walk.proofs.range_ends.first_past.Goals as goal

pub returns-in-Unbounded-clause-first : goal.returns-in-Unbounded-clause-first
returns-in-Unbounded-clause-first g c f p =
    let s = layout_of g.K.Portable.kind g.V.Portable.kind g.M.ArchivedMap.E in
    let part = c.args.part in
    rw c.in-Unbounded.is (λ rises. sym (ap first_of (kept_none (walk_rest s c.args.buf.now part.node part.next part.end c.args.path.now.items))))

pub returns-in-Included-clause-first : goal.returns-in-Included-clause-first
returns-in-Included-clause-first g c f p = rw c.in-Included.is (c.first_reaching.ensures f p)

pub returns-in-Excluded-clause-first : goal.returns-in-Excluded-clause-first
returns-in-Excluded-clause-first g c f p = rw c.in-Excluded.is (c.first_reaching-in-Excluded.ensures f p)
