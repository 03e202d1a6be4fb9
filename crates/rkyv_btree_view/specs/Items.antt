-- What the items of an iterator show.
use Rattle.std.specs.Prelude.{◌≡◌, List, Option, map}
use Rattle.std.specs.Iterator.{Drains}

-- all items of an iterator show this list
abbrev pub ShowsAll : {S A Y : Type 0} → (S → Option A → S → Type 0) → (A → Y) → S → List Y → Type 0
ShowsAll steps shows start entries = (items : _) → Drains steps start items → map shows items ≡ entries
