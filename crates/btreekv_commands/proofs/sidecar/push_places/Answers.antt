-- Each piece is in order, and nothing is left at the end.
use Rattle.std.proofs.Common.{refl, arith}
use Rattle.std.proofs.lemmas.List.Elements.{Contains-get_or}
use Rattle.btreekv_commands.specs.Sidecar.{places}
use Rattle.btreekv_commands.proofs.SidecarBytes.{nothing_later}
use Rattle.btreekv_commands.proofs.sidecar.push_places.Goals as goal

pub returns : goal.returns
returns c = nothing_later places c.args.out.now.items c.pieces.out.items c.args.pieces.now c.pieces.piece-index refl (omega arith) c.pieces.invariant

pub overflow_sub-piece : goal.overflow_sub-piece
overflow_sub-piece c = c.requires _ (Contains-get_or c.args.pieces.now c.pieces.piece-index _ c.pieces-test.true)
