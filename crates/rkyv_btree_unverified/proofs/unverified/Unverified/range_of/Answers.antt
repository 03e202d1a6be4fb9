-- What is sought at the low bound, up to the first key past the high one.
use Rattle.std.proofs.Common.{◌≡◌, ◌∙◌, ap, map, refl, rules, sym, arith}
use Rattle.std.specs.Range.Bound.{bound_map}
use Rattle.rkyv_btree_format.proofs.Sizes.{room_of}
use Rattle.rkyv_btree_format.specs.Read.{entry_at, read_map}
use Rattle.rkyv_btree_unverified.proofs.Along.{along_range}
use Rattle.rkyv_btree_unverified.proofs.Counted.{map_nodes}
use Rattle.rkyv_btree_unverified.proofs.Iterated.{iterates_between}
use Rattle.rkyv_btree_unverified.proofs.OnWalks.{map_is_read}
use Rattle.rkyv_btree_unverified.proofs.OnWays.{places_are}
use Rattle.rkyv_btree_unverified.proofs.Until.{until_run, until_within, until_whole}
use Rattle.rkyv_btree_unverified.specs.EntriesFrom.{entries_between, past_place, until}
use Rattle.rkyv_btree_unverified.specs.UnverifiedRange.{unverified_range_left}
use Rattle.rkyv_btree_unverified.specs.Ways.{places_left}
use Rattle.rkyv_btree_view.proofs.LookedUp.{natives_agree}
use Rattle.rkyv_btree_view.proofs.Ordered.{entries_ordered, natives_alike}
use Rattle.rkyv_btree_view.specs.View.{view_entry}
use Rattle.rkyv_btree_unverified.proofs.unverified.Unverified.range_of.Goals as goal

pub nonzero_div-walk : goal.nonzero_div-walk
nonzero_div-walk g c =
    let room = room_of _ _ _ g.met.K.Portable.laws g.met.V.Portable.laws c.args.self.fitting in
    omega (arith, room.eight, c.leaf_size.ensures)

pub begin-requires-clause-few : goal.begin-requires-clause-few
begin-requires-clause-few g c m h = rw c.leaf_size.ensures (map_nodes g.K.Portable.kind g.V.Portable.kind g.M.ArchivedMap.E c.args.self.buf.now g.met.K.Portable.laws g.met.V.Portable.laws c.args.self.fitting c.args.self.pos m h)

pub returns-in-Err-clause-begins : goal.returns-in-Err-clause-begins
returns-in-Err-clause-begins g c = record {
  refused = c.in-Err.ensures.gives.refuses;
  accepts = λ m h. absurd (c.in-Err.ensures.gives.no_map m h);
  reads = λ m h. map_is_read g.K.Portable.kind g.V.Portable.kind g.M.ArchivedMap.E c.args.self.buf.now g.met.K.Portable.laws g.met.V.Portable.laws c.args.self.pos m h;
}

pub returns-clause-begins : goal.returns-clause-begins
returns-clause-begins g c = record {
  refused = tt;
  accepts = λ m h. refl;
  reads = λ m h. map_is_read g.K.Portable.kind g.V.Portable.kind g.M.ArchivedMap.E c.args.self.buf.now g.met.K.Portable.laws g.met.V.Portable.laws c.args.self.pos m h;
}

pub returns-clause-at : goal.returns-clause-at
returns-clause-at g c = record { buffer = refl; position = refl; most = search rules }

pub returns-clause-items : goal.returns-clause-items
returns-clause-items g c =
    let K = g.K.Portable.kind in let V = g.V.Portable.kind in let E = g.M.ArchivedMap.E in
    let b = c.args.self.buf.now in let at = c.args.self.pos in
    let KR = g.K.CheckBytes.Refuses in let VR = g.V.CheckBytes.Refuses in
    let compared_at = g.K.CompareWith.compared_at in
    let law = g.met.K.CompareWith.compares in
    let low = g.R.RangeBounds.start_bound c.args.range in let high = g.R.RangeBounds.end_bound c.args.range in
    let past = past_place K V E compared_at b high in
    let places = places_left K V E b at c.begin.new.walk in
    let sought = sym (places_are K V E b at c.begin.new.walk c.in-Ok.ensures.gives.walks) ∙ c.in-Ok.ensures.gives.sought in
    let left : g.R.RangeBounds.has_bounds c.args.range → map (entry_at K V E b) (until past places) ≡ entries_between K V E compared_at b low high at =
    λ known. ap (λ xs. map (entry_at K V E b) (until past xs)) (rw (c.start_bound.ensures known) at sought) in
    iterates_between K V E KR VR b at _ view_entry (λ m. m) (unverified_range_left compared_at g.R.RangeBounds.end_bound) _ _
    (along_range compared_at g.R.RangeBounds.end_bound g.R.RangeBounds.has_bounds KR VR b at) _ tt (λ known. (refl, refl, known))
    left
    (rw sought (until_run K V E compared_at b at (bound_map (λ x. x.now) c.start_bound.result) high))
    (λ known no_low no_high. left known ∙ until_whole K V E compared_at b at low high no_low no_high)
    (λ known f p rises.
    let ordered = entries_ordered K.order (read_map K V E b at) rises f law.compared law.cuts (λ q. natives_alike K V E b at (f q) (law.compared q) (natives_agree law f p q b)) in
    left known ∙ until_within K V E compared_at b at low high f p (ordered low) (ordered high))
    (λ known f p lo hi. left known ∙ until_within K V E compared_at b at low high f p lo hi)
