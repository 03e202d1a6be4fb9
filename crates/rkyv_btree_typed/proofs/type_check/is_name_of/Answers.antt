use Rattle.std.proofs.Common.{◌∙◌, [], sym}
use Rattle.std.proofs.lemmas.List.{append-nil}
use Rattle.rkyv_btree_typed.specs.TypeNames.{name_of}
use Rattle.rkyv_btree_typed.proofs.type_check.is_name_of.Goals as goal

pub returns-in-None : goal.returns-in-None
returns-in-None g c = λ e. c.in-None.ensures [] (c.as_bytes.ensures.value ∙ (e ∙ sym (append-nil (name_of g.M.TypeName.term))))
