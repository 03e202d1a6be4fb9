-- What the bytes that are read give, the source gives.
use Rattle.std.proofs.Common.{arith, length, take}
use Rattle.std.proofs.lemmas.List.{length-take-le}
use Rattle.rkyv_btree_source.proofs.Walks.{part_read}
use Rattle.rkyv_btree_source.proofs.last_entry.read_end.Goals as goal

pub returns-in-Err-end_in-clause-gives : goal.returns-in-Err-end_in-clause-gives
returns-in-Err-end_in-clause-gives g c b e =
    let inside = c.requires.inside b e in
    let count = length-take-le c.node_len.result c.args.page.now (omega (arith, c.node_len.ensures.most, c.requires.page)) in
    let part = part_read b c.read.new.part c.args.node (length (take c.node_len.result c.args.page.now)) inside.0 (omega (arith, inside.1, count, c.node_len.ensures.inside)) (c.in-Ok.ensures.gives b e) c.read.auto.part in
    c.in-Err-end_in.ensures.gives b part
