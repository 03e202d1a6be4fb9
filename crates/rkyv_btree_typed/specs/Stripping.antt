-- Texts at the start of bytes.
use Rattle.std.specs.Prelude.{◌≡◌, ◌≢◌, ℕ, List, ◌++◌, Option, MatchOption}
use Rattle.std.specs.Borrow.{Bor}

-- the result is the rest of the bytes after a text, or none if they don't begin with it
abbrev pub Strips : List ℕ → List ℕ → Option (Bor (List ℕ)) → Type 0
Strips text bytes result = MatchOption result ((rest : List ℕ) → bytes ≢ text ++ rest) (λ rest. bytes ≡ text ++ rest.now)
