-- What the places of a range mean is a range of what all mean.
use Rattle.std.proofs.Common.{[], ◌∙◌, refl, ap, map, arith, None}
use Rattle.std.specs.Range.Bound.{bound_map}
use Rattle.rkyv_btree_format.specs.Layout.{layout_of}
use Rattle.rkyv_btree_format.specs.Read.{entry_at, map_tree, read_map}
use Rattle.rkyv_btree_shape.specs.Tree.{list}
use Rattle.rkyv_btree_walk.proofs.Below.{root_placed}
use Rattle.rkyv_btree_walk.proofs.Ranges.{from_rises, past_rises, within_means, run_means}
use Rattle.rkyv_btree_walk.proofs.Roots.{root_list}
use Rattle.rkyv_btree_walk.proofs.Placed.{placed_none}
use Rattle.rkyv_btree_walk.proofs.range_ends.between.Goals as goal

pub returns-then-map_len-gt0-clause-run : goal.returns-then-map_len-gt0-clause-run
returns-then-map_len-gt0-clause-run g c =
    let K = g.K.Portable.kind in let V = g.V.Portable.kind in let E = g.M.ArchivedMap.E in
    let b = c.args.buf.now in
    let all = root_list K V E g.met.K.Portable.laws g.met.V.Portable.laws b _ c.opened.ensures (rw c.map_len.ensures at c.if-map_len-gt0.true) c.tree_root-start.result c.tree_root-start.ensures.root in
    run_means (entry_at K V E b) _ (list (map_tree (layout_of K V E) b c.args.pos)) (rw all at c.between_in.ensures.run)

pub returns-then-map_len-gt0-clause-places : goal.returns-then-map_len-gt0-clause-places
returns-then-map_len-gt0-clause-places g c =
    let all = root_list g.K.Portable.kind g.V.Portable.kind g.M.ArchivedMap.E g.met.K.Portable.laws g.met.V.Portable.laws c.args.buf.now _ c.opened.ensures (rw c.map_len.ensures at c.if-map_len-gt0.true) c.tree_root-start.result c.tree_root-start.ensures.root in
    rw all at c.between_in.ensures.run

pub returns-then-map_len-gt0-clause-whole : goal.returns-then-map_len-gt0-clause-whole
returns-then-map_len-gt0-clause-whole g c low high =
    let K = g.K.Portable.kind in let V = g.V.Portable.kind in let E = g.M.ArchivedMap.E in
    let b = c.args.buf.now in
    let all = root_list K V E g.met.K.Portable.laws g.met.V.Portable.laws b _ c.opened.ensures (rw c.map_len.ensures at c.if-map_len-gt0.true) c.tree_root-start.result c.tree_root-start.ensures.root in
    ap (map (entry_at K V E b)) (c.between_in.ensures.whole low high ∙ all)

pub returns-then-map_len-gt0-clause-within : goal.returns-then-map_len-gt0-clause-within
returns-then-map_len-gt0-clause-within g c f p low high =
    let K = g.K.Portable.kind in let V = g.V.Portable.kind in let E = g.M.ArchivedMap.E in
    let b = c.args.buf.now in
    let all = root_list K V E g.met.K.Portable.laws g.met.V.Portable.laws b _ c.opened.ensures (rw c.map_len.ensures at c.if-map_len-gt0.true) c.tree_root-start.result c.tree_root-start.ensures.root in
    let means = entry_at K V E b in
    let places = list (map_tree (layout_of K V E) b c.args.pos) in
    let from = bound_map (λ q. f q.now) c.args.low in
    let to = bound_map (λ q. f q.now) c.args.high in
    ap (map means) (rw all at (c.between_in.ensures.within f p) (from_rises means places from low) (past_rises means places to high))
    ∙ within_means means from to places

pub returns-then-map_len-gt0-clause-below : goal.returns-then-map_len-gt0-clause-below
returns-then-map_len-gt0-clause-below g c =
    rw (root_placed _ _ _ g.met.K.Portable.laws g.met.V.Portable.laws _ _ c.opened.ensures (rw c.map_len.ensures at c.if-map_len-gt0.true) c.tree_root-start.result c.tree_root-start.ensures.root) c.between_in.ensures.below

pub returns-clause-run : goal.returns-clause-run
returns-clause-run g c =
    let K = g.K.Portable.kind in let V = g.V.Portable.kind in let E = g.M.ArchivedMap.E in
    ([], read_map K V E c.args.buf.now c.args.pos, rw (c.nothing.ensures.1, c.nothing.ensures.2, c.requires.empty) refl)

pub returns-clause-places : goal.returns-clause-places
returns-clause-places g c =
    let s = layout_of g.K.Portable.kind g.V.Portable.kind g.M.ArchivedMap.E in
    ([], list (map_tree s c.args.buf.now c.args.pos), rw (c.nothing.ensures.1, c.nothing.ensures.2, c.requires.empty) refl)

pub returns-then-map_len-gt0-clause-placed : goal.returns-then-map_len-gt0-clause-placed
returns-then-map_len-gt0-clause-placed g c =
    let all = root_list g.K.Portable.kind g.V.Portable.kind g.M.ArchivedMap.E g.met.K.Portable.laws g.met.V.Portable.laws c.args.buf.now _ c.opened.ensures (rw c.map_len.ensures at c.if-map_len-gt0.true) c.tree_root-start.result c.tree_root-start.ensures.root in
    rw all at c.between_in.ensures.placed

pub returns-clause-placed : goal.returns-clause-placed
returns-clause-placed g c =
    let K = g.K.Portable.kind in let V = g.V.Portable.kind in let E = g.M.ArchivedMap.E in
    rw (c.nothing.ensures.1, c.nothing.ensures.2, c.requires.empty)
    (placed_none (layout_of K V E) c.args.buf.now (list (map_tree (layout_of K V E) c.args.buf.now c.args.pos)) None c.nothing.result.node 0 0 [] (omega arith) refl)
