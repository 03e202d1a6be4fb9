-- The entries of a range, by numbers.
use Rattle.std.proofs.Common.{◌≡◌, ℕ, List, Option, Some, None, IfSome, subst, arith, ◌∙◌}
use Rattle.std.specs.Io.KnownBytes.{Appends}
use Rattle.std.specs.Prelude.{nat_le}
use Rattle.std.specs.Ordering.{nat_cmp, is_le, is_ge}
use Rattle.std.specs.declared.ops.Bound.TheVariants.{Included}
use Rattle.std.proofs.lemmas.Bool.Decides.{nat_tests}
use Rattle.std.proofs.lemmas.List.Elements.{filter_agree}
use Rattle.rkyv_btree_walk.specs.Bounds.{IsRun, IsWithin}
use Rattle.btreearc_commands.specs.Commands.{IsBetween}
use Rattle.btreearc_lines.specs.Grammar.{text_of}
use Rattle.btreearc_commands.specs.Opening.{IsInput}

is_le-nat_cmp : (n m : ℕ) → is_le (nat_cmp n m) ≡ nat_le n m
is_le-nat_cmp n m = grind (arith, nat_tests)

is_ge-nat_cmp : (n m : ℕ) → is_ge (nat_cmp n m) ≡ nat_le m n
is_ge-nat_cmp n m = grind (arith, nat_tests)

pub between : (low high : ℕ) (entries found : List (ℕ × ℕ)) → IsRun found entries → IsWithin (Included (nat_cmp low)) (Included (nat_cmp high)) entries found → IsBetween low high entries found
between low high entries found run within = record {
  run = run;
  all = λ low_ordered high_ordered. within low_ordered high_ordered ∙ filter_agree _ _ (λ e. rw (is_le-nat_cmp low e.0, is_ge-nat_cmp high e.0)) entries;
}

-- what was written of an input that is known
pub output_between : (input old new : Option (List ℕ)) (archive text : List ℕ) (low high : ℕ) (entries found : List (ℕ × ℕ)) → IfSome input (λ bytes. archive ≡ bytes) → IsInput archive entries → IsBetween low high entries found → text ≡ text_of found → Appends old new text
    → IfSome input (λ bytes. (xs ys : List (ℕ × ℕ)) × IsInput bytes xs × IsBetween low high xs ys × Appends old new (text_of ys))
output_between None old new archive text low high entries found is opened between listed written = tt
output_between (Some bytes) old new archive text low high entries found is opened between listed written =
    (entries, found, subst (λ (b : List ℕ). IsInput b entries) is opened, between, subst (λ (z : List ℕ). Appends old new z) listed written)
