-- The entries of a set: a set is the map of its keys in which each value is ().
use Rattle.std.specs.Prelude.{List, map}

-- the entries of keys: each with a ()
abbrev pub with_units : {M : Type 0} → List M → List (M × Unit {0})
with_units keys = map (λ k. (k, tt)) keys
