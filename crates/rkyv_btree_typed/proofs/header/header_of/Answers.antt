use Rattle.std.proofs.Common.{rules, ◌∙◌, ◌++◌, ap}
use Rattle.rkyv_btree_typed.proofs.Headers.{header_made}
use Rattle.std.proofs.lemmas.List.{take-replicate}
use Rattle.rkyv_btree_typed.proofs.header.header_of.Goals as goal

pub returns : goal.returns
returns c = header_made c.args.name.now c.extend_from_slice.new.self.items c.extend_from_slice-2.new.self.items c.extend_from_slice-3.new.self.items c.extend_from_slice-4.new.self.items c.extend_from_slice-5.new.self.items c.zeros_after.result
    (search rules)
    (search rules)
    (search rules)
    (c.in_ok-extend_from_slice-4.ensures.items ∙ ap (λ z. c.extend_from_slice-3.new.self.items ++ z) c.as_bytes-2.ensures.value)
    (c.in_ok-extend_from_slice-5.ensures.items ∙ ap (λ z. c.extend_from_slice-4.new.self.items ++ z) (take-replicate c.zeros_after.result 15 0 c.zeros_after.ensures.small))
    c.zeros_after.ensures.value
