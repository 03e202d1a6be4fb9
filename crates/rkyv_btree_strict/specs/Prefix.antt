-- Text keys that begin with a text.
use Rattle.std.specs.Prelude.{ℕ, Bool, List, length, nat_eq, take}
use Rattle.std.specs.Cmp.Lexicographic.{slice_cmp}
use Rattle.std.specs.List.{starts_with}
use Rattle.std.specs.Ordering.{nat_cmp}
use Rattle.std.specs.declared.cmp.Ordering.{Ordering}

-- whether the key of an entry begins with a prefix
abbrev pub begins_with : {B : Type 0} → List ℕ → List ℕ × B → Bool
begins_with prefix entry = starts_with nat_eq entry.0 prefix

-- a prefix against as many first bytes of a key: they are equal if the key begins with the prefix
abbrev pub prefix_cmp : List ℕ → List ℕ → Ordering
prefix_cmp prefix key = slice_cmp nat_cmp prefix (take (length prefix) key)
