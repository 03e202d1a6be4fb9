-- The value gives itself, if there is one.
use Rattle.std.proofs.Common.{◌≡◌, ℕ, ◌+◌, Bool, true, false, List, IfSome, Option, Some, None, Result, Ok, option_map, if◌then◌else◌, nat_eq, slice_index, refl, ap}
use Rattle.std.specs.Option.{option_transpose}
use Rattle.rkyv_btree_convert.specs.RoundTrip.{IsGivenBack}
use Rattle.rkyv_btree_portable.specs.Kind.{Kind}
use Rattle.rkyv_btree_writer.specs.declared.fault.EntryFault.{EntryFault}
use Rattle.rkyv_btree_convert.proofs.round_trip.options_are_given_back.Goals as goal

module _ {N H : Type 0} (T : Kind) (value : N → T.Value) (decoded : List ℕ → ℕ → Result H EntryFault) (model : N → H) (b : List ℕ) (at : ℕ) where
  given : (is_some : Bool) (option : Option N) → IfSome option (IsGivenBack T value decoded model) → (if is_some then Some (T.read b at) else None) ≡ option_map value option
      → option_transpose (if is_some then Some (decoded b at) else None) ≡ Ok (option_map model option)
  given false None back same = refl
  given false (Some x) back same = cc same
  given true None back same = cc same
  given true (Some x) back same = rw (back b at (cc same)) refl

pub returns : goal.returns
returns g c value option back b at same = given g.T.Portable.kind value g.T.Deserialize.decoded g.T.Deserialize.model b (at + g.T.Portable.kind.align) (nat_eq (slice_index b at) 1) option back same
