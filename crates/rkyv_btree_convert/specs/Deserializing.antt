-- Native values that are made of archived ones.
use Rattle.std.specs.Prelude.{◌≡◌, ℕ, List, [], ◌∷◌, Result, Ok, Err, codes}
use Rattle.std.specs.Result.{result_map_both}
use Rattle.rkyv_btree_writer.specs.declared.fault.EntryFault.{EntryFault}
use Rattle.rkyv_btree_portable.specs.Kind.{Kind}
use Rattle.rkyv_btree_convert.specs.declared.deserialize.DeserializeFault.{DeserializeFault}
use Rattle.rkyv_btree_convert.specs.declared.deserialize.DeserializeFault.TheVariants.{Memory, Entry}

-- why no native value is made: the entry refuses itself, or a growth was refused, of which nothing says when
abbrev pub IsRefused : {H : Type 0} → Result H EntryFault → DeserializeFault → Type 0
IsRefused comparison (Entry fault) = comparison ≡ Err fault
IsRefused comparison (Memory error) = Unit {0}

-- what it says
abbrev pub deserialize_text : DeserializeFault → List ℕ
deserialize_text (Entry fault) = codes "entry refused"
deserialize_text (Memory error) = codes "out of memory"

-- what the bytes at a position of a buffer give is what the value that is read there gives
pub record IsByMeaning {G : Type 0} (kind : Kind) (native : List ℕ → ℕ → G) : Type 0 where
  pub of_value : kind.Value → G
  pub by_value : (b : List ℕ) (at : ℕ) → native b at ≡ of_value (kind.read b at)

-- what both parts of a pair give, or a fault: the first's before the second's
abbrev pub both : {A B F : Type 0} → Result A F → Result B F → Result (A × B) F
both (Ok x) (Ok y) = Ok (x, y)
both (Ok x) (Err fault) = Err fault
both (Err fault) y = Err fault

-- what all elements of a list give, or the first fault
abbrev pub all : {A F : Type 0} → List (Result A F) → Result (List A) F
all [] = Ok []
all (x ∷ xs) = result_map_both (λ p. p.0 ∷ p.1) (λ fault. fault) (both x (all xs))
