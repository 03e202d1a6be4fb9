-- Where the tag is 1, the value stands after it.
use Rattle.std.proofs.Common.{arith}
use Rattle.std.proofs.lemmas.Bool.Decides.{nat_tests}
use Rattle.rkyv_btree_compound.specs.laws.OptionLaws.{some_stands}
use Rattle.rkyv_btree_compound.proofs.option_view.ViewArchivedOptionViewOption.as_option.Goals as goal

pub invariant_of-result : goal.invariant_of-result
invariant_of-result g c =
    rw c.align.ensures.value (record { valid = some_stands g.T.Portable.kind g.met.T.Portable.laws c.args.self.buf.now c.args.self.pos c.args.self.valid (grind (arith, nat_tests, c.if-self-ne-SOME.false)) })
