-- The status is that of what the lookup finds.
use Rattle.std.proofs.Common.{◌≡◌, ◌∙◌, Bool, true, false, Option, Some, None, is_some, refl, sym}
use Rattle.std.specs.Cmp.Lexicographic.{slice_cmp}
use Rattle.std.specs.Ordering.{nat_cmp}
use Rattle.btreekv_commands.specs.Explaining.{found_status}
use Rattle.btreekv_commands.specs.Lines.{Entry}
use Rattle.btreekv_commands.proofs.way.status_of.Goals as goal

there : (found : Option Entry) → is_some found ≡ true → 0 ≡ found_status found
there None e = cc e
there (Some x) e = refl

absent : (found : Option Entry) → is_some found ≡ false → 1 ≡ found_status found
absent None e = refl
absent (Some x) e = cc e

pub returns-then-contains_by : goal.returns-then-contains_by
returns-then-contains_by c = there _ (sym (c.contains_by.ensures (λ n k. slice_cmp nat_cmp n.now k) (λ n b at. refl)).found ∙ c.if-contains_by.true)

pub returns-else-contains_by : goal.returns-else-contains_by
returns-else-contains_by c = absent _ (sym (c.contains_by.ensures (λ n k. slice_cmp nat_cmp n.now k) (λ n b at. refl)).found ∙ c.if-contains_by.false)
