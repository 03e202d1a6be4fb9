-- What is written, and what is to come of the entries that are sought, are all of them.
use Rattle.std.proofs.Common.{◌≡◌, ◌++◌, ℕ, List}
use Rattle.rkyv_btree_source.specs.Known.{AreOf}
use Rattle.rkyv_btree_source.specs.SourceRange.{source_left, source_of, turns_left}
use Rattle.btreekv_commands.specs.Forms.{text_in}
use Rattle.btreekv_commands.specs.Ranged.{sought, sought_in, text_compared_at}
use Rattle.btreekv_commands.proofs.ranged.push_sought.Given as goal

abbrev pub invariant-more : goal.invariant-more
invariant-more g l =
    record {
      same : g.S.ReadAt.known (source_of l.entries).reader.source ≡ g.S.ReadAt.known l.fn.map.reader.source;
      position : (source_of l.entries).pos ≡ l.fn.map.pos;
      writes : (b : List ℕ) → AreOf (g.S.ReadAt.known l.fn.map.reader.source) b
          → l.out.items ++ text_in l.form (sought l.sought.prefix.now (source_left b text_compared_at (λ s. s.0) (λ s. s.1) l.entries))
          ≡ l.fn.out.items ++ text_in l.form (sought_in b l.fn.map.pos l.sought.low l.sought.high l.sought.prefix.now);
    }

abbrev pub decreases-more : goal.decreases-more
decreases-more g l = turns_left l.entries
