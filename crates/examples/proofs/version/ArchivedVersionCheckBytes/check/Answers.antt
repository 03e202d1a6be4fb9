-- Three zeros are no version.
use Rattle.std.proofs.Common.{rules}
use Rattle.rkyv_btree_base.specs.Refusing.{bad_entry}
use Rattle.examples.proofs.version.ArchivedVersionCheckBytes.check.Goals as goal

pub returns-then-is_zero-clause-err : goal.returns-then-is_zero-clause-err
returns-then-is_zero-clause-err c = bad_entry c.in_ok-check_place.ensures.ok (λ left v m. search rules)
