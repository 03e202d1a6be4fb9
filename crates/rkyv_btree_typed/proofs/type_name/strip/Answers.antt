use Rattle.std.proofs.Common.{List, ℕ, subst}
use Rattle.std.proofs.lemmas.Bool.Decides.{Decides-eqb}
use Rattle.std.proofs.lemmas.Slice.Eq.{strip_prefix_is}
use Rattle.rkyv_btree_typed.specs.Stripping.{Strips}
use Rattle.rkyv_btree_typed.proofs.type_name.strip.Goals as goal

pub returns : goal.returns
returns c = subst (λ (text : List ℕ). Strips text c.args.bytes.now c.strip_prefix.result) c.as_bytes.ensures.value (strip_prefix_is Decides-eqb c.args.bytes.now c.as_bytes.result.now c.strip_prefix.result c.strip_prefix.ensures.cases)
