-- The keys before the next one gave Greater.
use Rattle.std.proofs.Common.{◌≡◌, ℕ, ◌+◌, ◌<◌}
use Rattle.std.specs.declared.cmp.Ordering.{Ordering}
use Rattle.std.specs.declared.cmp.Ordering.TheVariants.{Greater}
use Rattle.rkyv_btree_walk.specs.Search.{shown_value}
use Rattle.rkyv_btree_walk.specs.mirror.Search.{IsComparedBy}
use Rattle.rkyv_btree_unverified.specs.Steps.{Gives}
use Rattle.rkyv_btree_unverified.proofs.search.search_keys.Given as goal

abbrev pub invariant-loop-i : goal.invariant-loop-i
invariant-loop-i g l =
    record {
      before : (c : g.row.Q.Denot → g.K.Portable.kind.Value → Ordering)
          → IsComparedBy (goal.C-post g l.cmp) (shown_value g.K.Portable.kind g.W.Shows) c
          → (k : ℕ) → k < l.i → Gives g.K.Portable.kind g.V.Portable.kind g.M.ArchivedMap.E l.buf (c l.key) Greater (l.node, k);
      counted : l.steps ≡ l.initial.steps + l.i;
    }
