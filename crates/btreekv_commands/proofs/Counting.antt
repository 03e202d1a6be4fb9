-- Lines that are read one after another from a reader, and counted.
use Rattle.std.proofs.Common.{◌≡◌, ℕ, ◌+◌, List, [], ◌∷◌, ◌++◌, length, true, false, Option, Some, None, IfSome, refl, arith}
use Rattle.std.proofs.lemmas.List.{length-append}
use Rattle.btreearc_lines.specs.Reading.{ReadsLine}
use Rattle.btreekv_commands.specs.Lines.{Entry, IsEntry, AreLines, IsBadLine}
use Rattle.btreekv_commands.proofs.Splitting.{ReadLines, all_read, bad_read, one_read}

-- of known bytes so many lines were read, each an entry
abbrev pub Counted : Option (List ℕ) → Option (List ℕ) → ℕ → Type 0
Counted None now n = Unit {0}
Counted (Some bytes) None n = ⊥
Counted (Some bytes) (Some rest) n = (entries : List Entry) × ReadLines bytes rest entries × (n ≡ length entries)

pub none_counted : (known : Option (List ℕ)) → Counted known known 0
none_counted None = tt
none_counted (Some bytes) = ([], record { before = []; split = refl; good = tt }, refl)

-- a line that is an entry
pub one_counted : (known now new : Option (List ℕ)) (line : List ℕ) (n : ℕ) (x : Entry) → Counted known now n → ReadsLine now true line new → IsEntry line x → Counted known new (n + 1)
one_counted None now new line n x c r is = tt
one_counted (Some bytes) None new line n x c r is = absurd c
one_counted (Some bytes) (Some rest) None line n x c r is = absurd r
one_counted (Some bytes) (Some rest) (Some after) line n x c r is =
    (c.0 ++ x ∷ [], one_read bytes rest line after c.0 x c.1 r is, omega (arith, c.2, length-append c.0 (x ∷ [])))

-- no line is left
pub all_counted : (known now new : Option (List ℕ)) (line : List ℕ) (n : ℕ) → Counted known now n → ReadsLine now false line new → IfSome known (λ bytes. (entries : List Entry) × AreLines bytes entries × (n ≡ length entries))
all_counted None now new line n c r = tt
all_counted (Some bytes) None new line n c r = absurd c
all_counted (Some bytes) (Some rest) new line n c r = (c.0, all_read bytes rest c.0 c.1 r, c.2)

-- a line that is no entry
pub bad_counted : (known now new : Option (List ℕ)) (line : List ℕ) (n : ℕ) → Counted known now n → ReadsLine now true line new → ((x : Entry) → ¬ IsEntry line x) → IfSome known (λ bytes. IsBadLine bytes (n + 1))
bad_counted None now new line n c r none = tt
bad_counted (Some bytes) None new line n c r none = absurd c
bad_counted (Some bytes) (Some rest) None line n c r none = absurd r
bad_counted (Some bytes) (Some rest) (Some after) line n c r none = bad_read bytes rest line after c.0 (n + 1) c.1 r none (omega (arith, c.2))
