-- Each piece is in order, and nothing is left at the end.
use Rattle.std.proofs.Common.{refl, arith}
use Rattle.std.proofs.lemmas.List.Elements.{Contains-get_or}
use Rattle.btreekv_commands.specs.Sidecar.{contents}
use Rattle.btreekv_commands.proofs.SidecarBytes.{nothing_later}
use Rattle.btreekv_commands.proofs.sidecar.push_contents.Goals as goal

pub returns : goal.returns
returns c = nothing_later (contents c.args.archive.now) c.args.out.now.items c.pieces.out.items c.args.pieces.now c.pieces.piece-index refl (omega arith) c.pieces.invariant

pub bytes_of-requires-clause-order : goal.bytes_of-requires-clause-order
bytes_of-requires-clause-order c = (c.requires _ (Contains-get_or c.args.pieces.now c.pieces.piece-index _ c.pieces-test.true)).0

pub bytes_of-requires-clause-inside : goal.bytes_of-requires-clause-inside
bytes_of-requires-clause-inside c = (c.requires _ (Contains-get_or c.args.pieces.now c.pieces.piece-index _ c.pieces-test.true)).1
