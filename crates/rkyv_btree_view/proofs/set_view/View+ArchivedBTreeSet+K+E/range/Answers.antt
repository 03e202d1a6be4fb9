-- The keys of the map's range are those of the set's.
use Rattle.std.proofs.Common.{refl}
use Rattle.std.specs.Range.Bound.{bound_map}
use Rattle.rkyv_btree_portable.specs.Scalars.{unit_kind}
use Rattle.rkyv_btree_view.specs.Keys.{range_keys_left}
use Rattle.rkyv_btree_view.specs.Range.{range_left}
use Rattle.rkyv_btree_view.specs.View.{view_value, entries_of}
use Rattle.rkyv_btree_view.proofs.Drained.{drained}
use Rattle.rkyv_btree_view.proofs.Ordered.{keys_between}
use Rattle.rkyv_btree_view.proofs.Sets.{keys_run, keys_within}
use Rattle.rkyv_btree_view.specs.Set.{keys_of}
use Rattle.rkyv_btree_view.specs.laws.Cuts.{order_cuts}
use Rattle.rkyv_btree_view.proofs.set_view.View+ArchivedBTreeSet+K+E.range.Goals as goal

pub returns-clause-range : goal.returns-clause-range
returns-clause-range g c =
    let all = entries_of g.K.Portable.kind unit_kind g.row.E c.args.self in
    record {
      yields = λ items all. drained view_value range_keys_left _ items all;
      ends = tt;
      run = rw c.of.ensures (keys_run (range_left c.range.result) all (rw (c.as_map.ensures.buffer, c.as_map.ensures.position) at c.range.ensures.range.run));
    }

pub returns-clause-between : goal.returns-clause-between
returns-clause-between g c =
    let K = g.K.Portable.kind in
    let all = entries_of K unit_kind g.row.E c.args.self in
    keys_between K.order (keys_of K g.row.E c.args.self) _ (λ q. K.order (view_value q)) (λ q. K.order (view_value q))
    (λ q. order_cuts g.met.K.ViewOrd.total (view_value q)) (λ q i d less. refl) c.args.low c.args.high
    (λ low high. rw c.of.ensures (keys_within (bound_map (λ q. K.order (view_value q)) c.args.low) (bound_map (λ q. K.order (view_value q)) c.args.high) all (range_left c.range.result) (rw (c.as_map.ensures.buffer, c.as_map.ensures.position) at c.range.ensures.between.within) low high))
