use Rattle.std.proofs.Common.{◌≡◌, ◌+◌, ◌-◌, length, drop, arith}
use Rattle.std.proofs.lemmas.List.{length-take, length-drop}
use Rattle.std.proofs.lemmas.Result.{on_ok_weaker}
use Rattle.rkyv_btree_archive.proofs.Pieces.{put_part}
use Rattle.rkyv_btree_archive.proofs.node_bytes.place_value.Goals as goal

pub returns-clause-ok : goal.returns-clause-ok
returns-clause-ok g c =
    let old = c.args.node.now in
    let start = c.args.start in
    let own = c.resolve_into.new.bytes in
    let size : length own ≡ g.T.Archived.Portable.kind.size = omega (arith, c.resolve_into.auto.bytes, c.size.ensures, c.requires.room, length-take (start + c.size.result - start) (drop start old), length-drop start old) in
    let count : start + c.size.result - start ≡ length own = omega (arith, size, c.size.ensures) in
    on_ok_weaker c.resolve_into.result (λ d. (own, d, size, put_part old own start (start + c.size.result - start) count)) c.resolve_into.ensures.ok
