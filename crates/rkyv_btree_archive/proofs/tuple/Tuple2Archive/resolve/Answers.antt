use Rattle.rkyv_btree_archive.proofs.tuple.Tuple2Archive.resolve.Goals as goal

pub returns-clause-ok : goal.returns-clause-ok
returns-clause-ok g c = rw (c.new.ensures.key, c.new.ensures.value) at c.resolve_into.ensures.ok

pub returns-clause-err : goal.returns-clause-err
returns-clause-err g c = rw (c.new.ensures.key, c.new.ensures.value) at c.resolve_into.ensures.err
