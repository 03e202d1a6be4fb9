use Rattle.rkyv_btree_typed.proofs.Headers.{one_name}
use Rattle.rkyv_btree_typed.specs.TypeNames.{name_of}
use Rattle.rkyv_btree_typed.proofs.type_check.check_type.Goals as goal

pub returns-else-is_name_of-clause-accepts : goal.returns-else-is_name_of-clause-accepts
returns-else-is_name_of-clause-accepts g c =
    (λ no. cc no, λ h. absurd (c.if-is_name_of.ensures (one_name c.in-Ok.found.now (name_of g.M.TypeName.term) c.args.bytes.now c.in-Ok.ensures.name h)))
