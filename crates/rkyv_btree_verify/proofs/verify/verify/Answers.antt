-- What the counted check gives.
use Rattle.std.proofs.Common.{rules}
use Rattle.rkyv_btree_verify.proofs.verify.verify.Goals as goal

pub returns-clause-accepts : goal.returns-clause-accepts
returns-clause-accepts g c = search rules

pub returns-clause-refuses : goal.returns-clause-refuses
returns-clause-refuses g c = search rules
