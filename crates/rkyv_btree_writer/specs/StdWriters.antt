-- Writers over writers of std.
use Rattle.std.specs.Prelude.{◌≡◌, ℕ, ◌-◌, List, [], length, Option, None, Some, IsSome}
use Rattle.rkyv_btree_writer.specs.Writing.{Writing}

-- the bytes that a writer of std holds, if it is known which; else none
abbrev pub known_bytes : Option (List ℕ) → List ℕ
known_bytes None = []
known_bytes (Some bytes) = bytes

-- of each writer of a type it is known which bytes it holds
abbrev pub AreKnown : {W : Type 0} → (W → Option (List ℕ)) → Type 0
AreKnown {W} contents = (w : W) → IsSome (contents w)

-- if that is known of its type, a writer holds these bytes and no others
abbrev pub HoldsAll : {W : Type 0} → (W → Option (List ℕ)) → W → List ℕ → Type 0
HoldsAll contents w bytes = AreKnown contents → contents w ≡ Some bytes

-- a writer over one that holds these bytes, if it is known which, and whose next byte has position base
abbrev pub begun : ℕ → Option (List ℕ) → Writing
begun base held = record { base = base - length (known_bytes held); contents = known_bytes held; failures = 0 }
