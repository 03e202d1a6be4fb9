-- A native value compares as at the positions of keys.
use Rattle.std.proofs.Common.{rules}
use Rattle.rkyv_btree_unverified.proofs.unverified.Unverified.ways_of.Goals as goal

pub returns : goal.returns
returns g c i key less is = record {
  stands = c.search_many.ensures.stands i key less is;
  gives = λ f p. c.search_many.ensures.gives i key less is f (λ q w r e. let same = p q.now w.buf.now w.pos in search rules);
}
