-- What `access` accepts is what the check of a set does, which is the map's.
use Rattle.std.proofs.Common.{rules}
use Rattle.rkyv_btree_view.proofs.set_view.access.Goals as goal

pub returns-clause-position : goal.returns-clause-position
returns-clause-position g c = search rules

pub returns-clause-accepts : goal.returns-clause-accepts
returns-clause-accepts g c = (
  λ ok. let is = c.check.ensures.accepts.0 ok in (is.0, (is.1.left, is.1.means)),
  λ is. c.check.ensures.accepts.1 (is.0, record { left = is.1.0; means = is.1.1 }),
)

pub returns-clause-entries : goal.returns-clause-entries
returns-clause-entries g c = search rules

pub returns-clause-refuses : goal.returns-clause-refuses
returns-clause-refuses g c = search rules
