-- Native vectors that are made of archived ones.
use Rattle.std.specs.Prelude.{ℕ, zero, suc, ◌+◌, List, [], ◌∷◌, Result}
use Rattle.std.specs.Int.RustNames.{unsigned_abs}
use Rattle.rkyv_btree_writer.specs.declared.fault.EntryFault.{EntryFault}
use Rattle.rkyv_btree_portable.specs.Bytes.{place_at}
use Rattle.rkyv_btree_portable.specs.Kind.{Kind}
use Rattle.rkyv_btree_portable.specs.Text.{text_len}
use Rattle.rkyv_btree_convert.specs.Deserializing.{all}

module _ (T : Kind) {A : Type 0} (decoded : List ℕ → ℕ → Result A EntryFault) where
  -- what each of so many elements from a position on gives
  abbrev pub elements_given : List ℕ → ℕ → ℕ → List (Result A EntryFault)
  elements_given b zero at = []
  elements_given b (suc n) at = decoded b at ∷ elements_given b n (at + T.size)

  -- the decoded elements of the vector at a position, in order, or the first error
  abbrev pub vector_decoded : List ℕ → ℕ → Result (List A) EntryFault
  vector_decoded b at = all (elements_given b (text_len b at) (unsigned_abs (place_at b at)))

  -- the same of the array of N at a position
  abbrev pub array_decoded : ℕ → List ℕ → ℕ → Result (List A) EntryFault
  array_decoded N b at = all (elements_given b N at)
