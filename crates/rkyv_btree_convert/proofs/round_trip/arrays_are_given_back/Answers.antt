-- Each element gives itself.
use Rattle.std.proofs.Common.{◌≡◌, ℕ, zero, suc, ◌+◌, List, [], ◌∷◌, Result, Ok, map, refl}
use Rattle.std.specs.List.{All}
use Rattle.std.proofs.lemmas.List.Elements.{All-head, All-tail}
use Rattle.rkyv_btree_compound.specs.Elements.{elements_read}
use Rattle.rkyv_btree_convert.specs.Deserializing.{all}
use Rattle.rkyv_btree_convert.specs.RoundTrip.{IsGivenBack}
use Rattle.rkyv_btree_convert.specs.Vectors.{elements_given}
use Rattle.rkyv_btree_portable.specs.Kind.{Kind}
use Rattle.rkyv_btree_writer.specs.declared.fault.EntryFault.{EntryFault}
use Rattle.rkyv_btree_convert.proofs.round_trip.arrays_are_given_back.Goals as goal

module _ {M H : Type 0} (T : Kind) (value : M → T.Value) (decoded : List ℕ → ℕ → Result H EntryFault) (model : M → H) (b : List ℕ) where
  given : (n at : ℕ) (xs : List M) → All (IsGivenBack T value decoded model) xs → elements_read T b n at ≡ map value xs → all (elements_given T decoded b n at) ≡ Ok (map model xs)
  given zero at [] back same = refl
  given zero at (x ∷ xs) back same = absurd (cc same)
  given (suc n) at [] back same = absurd (cc same)
  given (suc n) at (x ∷ xs) back same =
      let first = All-head (IsGivenBack T value decoded model) x xs back b at (cc same) in
      let rest = given n (at + T.size) xs (All-tail (IsGivenBack T value decoded model) x xs back) (cc same) in
      rw (first, rest) refl

pub returns : goal.returns
returns g c value array back b at same = given g.T.Portable.kind value g.T.Deserialize.decoded g.T.Deserialize.model b g.row.N at array back same
