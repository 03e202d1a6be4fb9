use Rattle.std.proofs.Common.{◌∙◌, ap, take}
use Rattle.rkyv_btree_typed.proofs.Shown.{shown}
use Rattle.rkyv_btree_typed.proofs.found_name.FoundName.new.Goals as goal

pub returns : goal.returns
returns c = shown c.args.name.now c.copy_from_slice.new.self _ c.min-len.result c.min-len.ensures (c.copy_from_slice.ensures.after ∙ ap (λ z. take c.min-len.result z) c.as_bytes.ensures.value)
