-- Along the path: the first entry of what is left of it so far is `stop`.
use Rattle.std.proofs.Common.{◌≡◌, ℕ, Bool, take, None}
use Rattle.std.specs.declared.cmp.Ordering.{Ordering}
use Rattle.rkyv_btree_format.specs.Layout.{layout_of}
use Rattle.rkyv_btree_walk.specs.Search.{ComparesBy, shown_value}
use Rattle.rkyv_btree_walk.specs.Paths.{path_rest}
use Rattle.rkyv_btree_walk.specs.mirror.Range.{reached_at}
use Rattle.rkyv_btree_walk.proofs.Stops.{first_or}
use Rattle.rkyv_btree_walk.proofs.seek.first_reaching.Given as goal

abbrev pub invariant-loop-frame : goal.invariant-loop-frame
invariant-loop-frame g l =
    let K = g.K.Portable.kind in let V = g.V.Portable.kind in let E = g.M.ArchivedMap.E in
    (c : g.row.Q.Denot → K.Value → Ordering) → ComparesBy (goal.C-post g l.cmp) (shown_value K g.W.Shows) c
    → let test : ℕ × ℕ → Bool = reached_at K V E l.buf l.past (c l.key) in
    first_or test (path_rest (layout_of K V E) l.buf 32 (take l.frame-index l.nodes)) None ≡ l.stop
