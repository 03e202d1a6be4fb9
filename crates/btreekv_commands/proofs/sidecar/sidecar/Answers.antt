-- The pieces lie in the archive, and there are few of them.
use Rattle.btreekv_commands.proofs.TopPieces.{few_pieces}
use Rattle.btreekv_commands.proofs.sidecar.sidecar.Goals as goal

pub push_sidecar-requires-clause-inside : goal.push_sidecar-requires-clause-inside
push_sidecar-requires-clause-inside c = rw c.deref.ensures.value c.in_ok-pieces.ensures.ok.inside

pub push_sidecar-requires-clause-few : goal.push_sidecar-requires-clause-few
push_sidecar-requires-clause-few c =
    rw c.deref.ensures.value (few_pieces c.args.archive.now c.args.levels c.in_ok-pieces.pieces.items c.in_ok-pieces.ensures.ok c.in_ok-map.ensures.accepted.means.short)
