-- What is read of a byte string are its bytes.
use Rattle.std.proofs.Common.{ap}
use Rattle.std.specs.Prelude.{Ok}
use Rattle.rkyv_btree_convert.proofs.round_trip.byte_strings_are_given_back.Goals as goal

pub returns : goal.returns
returns c bytes b at same = ap Ok same
