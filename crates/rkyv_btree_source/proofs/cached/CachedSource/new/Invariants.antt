-- Each block is one of every source, since it has no bytes.
use Rattle.std.specs.Prelude.{◌-◌, ◌≤◌, List, ℕ, All, length}
use Rattle.rkyv_btree_source.specs.Cached.{IsBlock}
use Rattle.rkyv_btree_source.proofs.cached.CachedSource.new.Given as goal

abbrev pub invariant-loop-blocks : goal.invariant-loop-blocks
invariant-loop-blocks g l = ((b : List ℕ) → All (IsBlock b) l.blocks.items) × (length l.blocks.items ≤ l.count)

abbrev pub decreases-loop-blocks : goal.decreases-loop-blocks
decreases-loop-blocks g l = l.count - length l.blocks.items
