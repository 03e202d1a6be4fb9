-- Before a range has begun it has all entries between its bounds left.
use Rattle.std.proofs.Common.{refl}
use Rattle.rkyv_btree_format.specs.Read.{read_map}
use Rattle.rkyv_btree_unverified.proofs.OnWalks.{map_is_read}
use Rattle.rkyv_btree_unverified.proofs.Until.{until_run, until_within, until_whole}
use Rattle.rkyv_btree_view.proofs.LookedUp.{natives_agree}
use Rattle.rkyv_btree_view.proofs.Ordered.{entries_ordered, natives_alike}
use Rattle.rkyv_btree_source.proofs.unverified_source.UnverifiedSource.range_of.Goals as goal

pub returns-clause-left : goal.returns-clause-left
returns-clause-left g c b e known =
    let K = g.K.Portable.kind in let V = g.V.Portable.kind in let E = g.M.ArchivedMap.E in
    let at = c.args.self.pos in
    let compared_at = g.K.CompareWith.compared_at in
    let law = g.met.K.CompareWith.compares in
    let low = g.R.RangeBounds.start_bound c.args.range in let high = g.R.RangeBounds.end_bound c.args.range in
    record {
      between = refl;
      run = until_run K V E compared_at b at low high;
      reads = λ m h. map_is_read K V E b g.met.K.Portable.laws g.met.V.Portable.laws at m h;
      whole = until_whole K V E compared_at b at low high;
      sorted = λ f p rises.
          let ordered = entries_ordered K.order (read_map K V E b at) rises f law.compared law.cuts (λ q. natives_alike K V E b at (f q) (law.compared q) (natives_agree law f p q b)) in
          until_within K V E compared_at b at low high f p (ordered low) (ordered high);
      within = λ f p lo hi. until_within K V E compared_at b at low high f p lo hi;
    }
