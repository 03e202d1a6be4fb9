-- The keys of the map's range are those of the set's.
use Rattle.std.proofs.Common.{◌≡◌}
use Rattle.std.proofs.lemmas.List.Elements.{All-map}
use Rattle.std.specs.Range.Bound.{bound_map}
use Rattle.rkyv_btree_portable.specs.Scalars.{unit_kind}
use Rattle.rkyv_btree_view.specs.Keys.{range_keys_left}
use Rattle.rkyv_btree_view.specs.Range.{range_left}
use Rattle.rkyv_btree_view.specs.View.{view_value, entries_of}
use Rattle.rkyv_btree_view.proofs.Drained.{drained}
use Rattle.rkyv_btree_view.proofs.LookedUp.{natives_agree}
use Rattle.rkyv_btree_view.proofs.Ordered.{keys_between, natives_alike}
use Rattle.rkyv_btree_view.proofs.Sets.{keys_run, keys_within}
use Rattle.rkyv_btree_view.specs.Set.{keys_of}
use Rattle.rkyv_btree_view.proofs.set_view.View+ArchivedBTreeSet+K+E.range_of.Goals as goal

pub returns-clause-range : goal.returns-clause-range
returns-clause-range g c =
    let all = entries_of g.K.Portable.kind unit_kind g.row.E c.args.self in
    record {
      yields = λ items all. drained view_value range_keys_left _ items all;
      ends = tt;
      run = rw c.of.ensures (keys_run (range_left c.range_of.result) all (rw (c.as_map.ensures.buffer, c.as_map.ensures.position) at c.range_of.ensures.range.run));
    }

pub returns-clause-between : goal.returns-clause-between
returns-clause-between g c known f p =
    let K = g.K.Portable.kind in
    let view = c.args.self in
    let all = entries_of K unit_kind g.row.E view in
    let law = g.met.K.CompareWith.compares in
    keys_between K.order (keys_of K g.row.E view) _ f law.compared law.cuts
    (λ q. All-map (λ k. f q k ≡ law.compared q k) (λ e. e.0) all (natives_alike K unit_kind g.row.E view.buf.now view.pos (f q) (law.compared q) (natives_agree law f p q view.buf.now)))
    (g.R.RangeBounds.start_bound c.args.range) (g.R.RangeBounds.end_bound c.args.range)
    (λ low high. rw c.of.ensures (keys_within (bound_map f (g.R.RangeBounds.start_bound c.args.range)) (bound_map f (g.R.RangeBounds.end_bound c.args.range)) all (range_left c.range_of.result) (rw (c.as_map.ensures.buffer, c.as_map.ensures.position) at (c.range_of.ensures.between known f p).within) low high))
