-- What is read of a text are its bytes.
use Rattle.std.proofs.Common.{ap}
use Rattle.std.specs.Prelude.{Ok}
use Rattle.rkyv_btree_convert.proofs.round_trip.texts_are_given_back.Goals as goal

pub returns : goal.returns
returns c text b at same = ap Ok same
