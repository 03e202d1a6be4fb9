-- A visit returns the first value that its calls give.
use Rattle.std.proofs.Common.{Some, None, nat_eq, if◌then◌else◌, rules}
use Rattle.rkyv_btree.specs.laws.Visits.{visits_first}
use Rattle.tests.proofs.walks.key_of.Goals as goal

pub returns : goal.returns
returns c =
    visits_first _ _ _ _ _ _ c.visit.ensures.1 (λ e. if nat_eq e.1 c.args.value then Some e.0 else None) (λ f w x r g e. search rules) (λ w x r g e. search rules)
