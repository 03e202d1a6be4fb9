-- A key is compared with the last, if none was out of order before.
use Rattle.std.proofs.Common.{◌≡◌, ℕ, Option, IfSome, sym, subst, refl}
use Rattle.std.specs.Ordering.{nat_cmp}
use Rattle.std.specs.declared.cmp.Ordering.TheVariants.{Less}
use Rattle.btreearc_commands.specs.Streaming.{KnowsOrder}
use Rattle.btreearc_commands.proofs.Counting.{greater}
use Rattle.btreearc_commands.proofs.entries.first_after.Goals as goal

pub returns-then-is_less : goal.returns-then-is_less
returns-then-is_less c entries value knows number =
    greater c.args.last entries (c.args.key, value) (subst (λ (o : Option ℕ). KnowsOrder c.args.last o entries) c.in-None.is knows)
    (subst (λ (o : Option ℕ). IfSome o (λ key. nat_cmp key c.args.key ≡ Less)) (sym c.in-Some-last.is) (c.if-is_less.ensures.less refl))

pub returns-in-None-last : goal.returns-in-None-last
returns-in-None-last c entries value knows number =
    greater c.args.last entries (c.args.key, value) (subst (λ (o : Option ℕ). KnowsOrder c.args.last o entries) c.in-None.is knows)
    (subst (λ (o : Option ℕ). IfSome o (λ key. nat_cmp key c.args.key ≡ Less)) (sym c.in-None-last.is) tt)
