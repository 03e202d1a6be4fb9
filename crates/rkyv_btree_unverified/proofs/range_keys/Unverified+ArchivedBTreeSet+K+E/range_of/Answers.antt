-- The keys of the entries of a range of the map that the set is.
use Rattle.std.proofs.Common.{ap, map}
use Rattle.std.specs.Map.{keys_of}
use Rattle.rkyv_btree_portable.specs.Scalars.{unit_kind}
use Rattle.rkyv_btree_unverified.proofs.Along.{along_range_keys}
use Rattle.rkyv_btree_unverified.proofs.Iterated.{iterates_between}
use Rattle.rkyv_btree_unverified.specs.UnverifiedRangeKeys.{unverified_range_keys_left}
use Rattle.rkyv_btree_view.specs.View.{view_value}
use Rattle.rkyv_btree_walk.proofs.Ranges.{run_means}
use Rattle.rkyv_btree_unverified.proofs.range_keys.Unverified+ArchivedBTreeSet+K+E.range_of.Goals as goal

pub returns-in-Err-clause-begins : goal.returns-in-Err-clause-begins
returns-in-Err-clause-begins g c =
    let e = rw (c.as_map.ensures.buffer, c.as_map.ensures.position) at c.in-Err.ensures.begins in
    record { refused = e.refused; accepts = e.accepts; reads = e.reads }

pub returns-in-Ok-clause-begins : goal.returns-in-Ok-clause-begins
returns-in-Ok-clause-begins g c =
    let e = rw (c.as_map.ensures.buffer, c.as_map.ensures.position) at c.in-Ok.ensures.begins in
    record { refused = e.refused; accepts = e.accepts; reads = e.reads }

pub returns-in-Ok-clause-at : goal.returns-in-Ok-clause-at
returns-in-Ok-clause-at g c = rw (c.as_map.ensures.buffer, c.as_map.ensures.position) at c.in-Ok.ensures.at

pub returns-in-Ok-clause-items : goal.returns-in-Ok-clause-items
returns-in-Ok-clause-items g c =
    let b = c.args.self.buf.now in let at = c.args.self.pos in
    let compared_at = g.K.CompareWith.compared_at in
    let place = rw (c.as_map.ensures.buffer, c.as_map.ensures.position) at c.in-Ok.ensures.at in
    let e = rw (c.as_map.ensures.buffer, c.as_map.ensures.position) at c.in-Ok.ensures.items in
    iterates_between g.K.Portable.kind unit_kind g.row.E _ _ b at _ view_value keys_of (unverified_range_keys_left compared_at g.R.RangeBounds.end_bound) _ _
    (along_range_keys compared_at g.R.RangeBounds.end_bound g.R.RangeBounds.has_bounds _ _ b at) _ tt (λ known. (place.buffer, place.position, rw c.in-Ok.ensures.range known))
    (λ known. ap (map (λ x. x.0)) (e.left known)) (run_means (λ x. x.0) _ _ e.run)
    (λ known no_low no_high. ap (map (λ x. x.0)) (e.whole known no_low no_high))
    (λ known f p rises. ap (map (λ x. x.0)) (e.sorted known f p rises))
    (λ known f p low high. ap (map (λ x. x.0)) (e.within known f p low high))
