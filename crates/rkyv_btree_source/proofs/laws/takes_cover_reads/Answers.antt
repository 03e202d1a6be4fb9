-- What a lookup takes of a budget covers each part that it reads.
use Rattle.rkyv_btree_source.proofs.Covered.{covered, enough, one_total}
use Rattle.rkyv_btree_source.proofs.laws.takes_cover_reads.Goals as goal

pub returns-clause-covers : goal.returns-clause-covers
returns-clause-covers g c b comparison at before all part reads takes = covered g.K.Portable.kind g.V.Portable.kind g.row.E b comparison g.K.Fetch.lengths g.V.Fetch.lengths at before all part reads takes

pub returns-clause-enough : goal.returns-clause-enough
returns-clause-enough g c b comparison at all budget takes le over = enough g.K.Portable.kind g.V.Portable.kind g.row.E b comparison g.K.Fetch.lengths g.V.Fetch.lengths at all budget takes le over

pub returns-clause-one : goal.returns-clause-one
returns-clause-one g c b comparison at all other h m = one_total g.K.Portable.kind g.V.Portable.kind g.row.E b comparison g.K.Fetch.lengths g.V.Fetch.lengths at all other h m
