use Rattle.std.proofs.Common.{List, ℕ, subst}
use Rattle.std.proofs.lemmas.Bool.Decides.{Decides-eqb}
use Rattle.std.proofs.lemmas.Slice.Eq.{strip_prefix_is}
use Rattle.std.proofs.lemmas.List.{take-replicate}
use Rattle.rkyv_btree_typed.specs.Stripping.{Strips}
use Rattle.rkyv_btree_typed.proofs.header.strip_zeros.Goals as goal

pub returns : goal.returns
returns c = subst (λ (text : List ℕ). Strips text c.args.bytes.now c.strip_prefix.result) (take-replicate c.args.count 15 0 c.requires) (strip_prefix_is Decides-eqb c.args.bytes.now _ c.strip_prefix.result c.strip_prefix.ensures.cases)
