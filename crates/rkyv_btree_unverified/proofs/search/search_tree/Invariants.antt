-- The way down: where the tree passes all checks, so does the one that is left, and the search finds there what it finds.
use Rattle.std.proofs.Common.{length, ℕ, ◌*◌, ◌+◌, ◌≡◌, ◌≤◌}
use Rattle.std.specs.Prelude.{Option, Result}
use Rattle.rkyv_btree_portable.specs.declared.refusal.Refusal.{Refusal}
use Rattle.std.specs.declared.cmp.Ordering.{Ordering}
use Rattle.rkyv_btree_format.specs.Layout.{layout_of}
use Rattle.rkyv_btree_walk.specs.Search.{shown_value}
use Rattle.rkyv_btree_walk.specs.mirror.Search.{IsComparedBy, comparison_at, searched}
use Rattle.rkyv_btree_unverified.specs.Lookups.{TreeGives}
use Rattle.rkyv_btree_unverified.specs.Steps.{HasRoom}
use Rattle.rkyv_btree_unverified.specs.mirror.Passes.{Passes}
use Rattle.rkyv_btree_unverified.proofs.search.search_tree.Given as goal

abbrev pub invariant-down : goal.invariant-down
invariant-down g l =
    let K = g.K.Portable.kind in let V = g.V.Portable.kind in let E = g.M.ArchivedMap.E in
    (l.levels ≤ 32) × (l.end ≤ length l.buf) × HasRoom K V E l.end l.node
    × (Passes K V E l.buf 32 l.hi l.root → Passes K V E l.buf l.levels l.end l.node)
    × (Passes K V E l.buf 32 l.hi l.root → (c : g.row.Q.Denot → K.Value → Ordering)
    → IsComparedBy (goal.C-post g l.cmp) (shown_value K g.W.Shows) c
    → let comparison : ℕ × ℕ → Ordering = comparison_at K V E l.buf (c l.key) in
    (searched (layout_of K V E) l.buf comparison 32 l.root).0 ≡ (searched (layout_of K V E) l.buf comparison l.levels l.node).0)
    × ((c : g.row.Q.Denot → K.Value → Ordering) → IsComparedBy (goal.C-post g l.cmp) (shown_value K g.W.Shows) c
    → (r : Result (Option (ℕ × ℕ)) Refusal) → TreeGives K V E l.buf (c l.key) g.K.CheckBytes.Refuses g.V.CheckBytes.Refuses l.levels l.end l.node r
    → TreeGives K V E l.buf (c l.key) g.K.CheckBytes.Refuses g.V.CheckBytes.Refuses 32 l.hi l.root r)
    × (l.steps + E * l.levels ≤ l.initial.steps + E * 32) × (l.initial.steps ≤ l.steps)
    × (Passes K V E l.buf 32 l.hi l.root → (c : g.row.Q.Denot → K.Value → Ordering)
    → IsComparedBy (goal.C-post g l.cmp) (shown_value K g.W.Shows) c
    → let comparison : ℕ × ℕ → Ordering = comparison_at K V E l.buf (c l.key) in
    l.initial.steps + (searched (layout_of K V E) l.buf comparison 32 l.root).1 ≡ l.steps + (searched (layout_of K V E) l.buf comparison l.levels l.node).1)
    × (l.nodes + l.levels ≡ l.initial.nodes + 32)
    × ((c : g.row.Q.Denot → K.Value → Ordering) → IsComparedBy (goal.C-post g l.cmp) (shown_value K g.W.Shows) c
    → (n m : ℕ) → l.nodes ≡ l.initial.nodes + n → (r : Result (Option (ℕ × ℕ)) Refusal)
    → TreeGives K V E l.buf (c l.key) g.K.CheckBytes.Refuses g.V.CheckBytes.Refuses m l.end l.node r
    → TreeGives K V E l.buf (c l.key) g.K.CheckBytes.Refuses g.V.CheckBytes.Refuses (n + m) l.hi l.root r)

abbrev pub decreases-down : goal.decreases-down
decreases-down g l = l.levels
