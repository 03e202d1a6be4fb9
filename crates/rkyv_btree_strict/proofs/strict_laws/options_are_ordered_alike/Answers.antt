-- Options are ordered alike where their values are.
use Rattle.rkyv_btree_convert.specs.laws.Options.{options_alike}
use Rattle.rkyv_btree_strict.proofs.strict_laws.options_are_ordered_alike.Goals as goal

pub returns : goal.returns
returns g c value alike = options_alike value g.T.Portable.kind.order alike
