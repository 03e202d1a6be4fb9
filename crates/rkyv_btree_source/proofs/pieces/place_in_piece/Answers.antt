-- The bytes are within the piece.
use Rattle.std.proofs.Common.{◌+◌, ap, arith}
use Rattle.rkyv_btree_source.proofs.Held.{in_piece}
use Rattle.rkyv_btree_source.proofs.pieces.place_in_piece.Goals as goal

pub returns-clause-same : goal.returns-clause-same
returns-clause-same c b held size h =
    in_piece b held c.args.piece (c.from-7.result + c.from-8.result) c.args.pos c.from-8.result c.args.len
    (h (omega (arith, size, c.if-from-bytes_len.false, c.from-5.ensures, c.from-6.ensures)))
    (omega (arith, c.if-from.false, c.if-len-from.false, c.from.ensures, c.from-2.ensures, c.from-3.ensures, c.from-4.ensures, c.from-8.ensures))
    (ap (λ n. n + c.from-8.result) c.from-7.ensures) (omega (arith, c.from-8.ensures, c.if-pos-piece.false))
