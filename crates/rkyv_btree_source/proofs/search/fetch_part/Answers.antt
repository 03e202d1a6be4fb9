-- A part of a node's bytes is a part of the source's.
use Rattle.std.proofs.Common.{arith}
use Rattle.rkyv_btree_source.proofs.Parts.{part_of}
use Rattle.rkyv_btree_source.proofs.search.fetch_part.Goals as goal

pub fetch-requires-clause-part : goal.fetch-requires-clause-part
fetch-requires-clause-part g c b e = part_of b c.args.bytes.now c.args.node (c.requires.part b e) c.args.at _ (omega (arith, c.size.ensures, c.requires.inside))
