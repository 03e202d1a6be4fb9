-- All items of the iterator are all that is left of its walk; and a native value compares as at the positions of keys.
use Rattle.std.proofs.Common.{rules}
use Rattle.rkyv_btree_view.specs.Range.{range_left}
use Rattle.rkyv_btree_view.specs.View.{view_entry, entries_of}
use Rattle.rkyv_btree_view.proofs.Bounds.{within_referred}
use Rattle.rkyv_btree_view.proofs.Drained.{drained}
use Rattle.rkyv_btree_view.proofs.LookedUp.{natives_agree}
use Rattle.rkyv_btree_view.proofs.Ordered.{between, natives_alike}
use Rattle.rkyv_btree_format.specs.Read.{entry_at}
use Rattle.rkyv_btree_walk.proofs.Ranges.{run_means}
use Rattle.rkyv_btree_walk.specs.EntryPlaces.{entry_places}
use Rattle.rkyv_btree_view.proofs.view.View.range_by.Goals as goal

pub returns-clause-range : goal.returns-clause-range
returns-clause-range g c =
    let K = g.K.Portable.kind in let V = g.V.Portable.kind in let E = g.M.ArchivedMap.E in
    let view = c.args.self in
    record {
      yields = λ items all. drained view_entry range_left _ items all;
      ends = tt;
      run = run_means (entry_at K V E view.buf.now) _ (entry_places K V E view.buf.now view.pos) c.start_between.ensures.run;
    }

pub returns-clause-between : goal.returns-clause-between
returns-clause-between g c f p =
    let K = g.K.Portable.kind in let V = g.V.Portable.kind in let E = g.M.ArchivedMap.E in
    let view = c.args.self in
    let law = g.met.K.CompareWith.compares in
    let within = c.start_between.ensures.within f (λ q w r e. let same = p q.now w.buf.now w.pos in search rules) in
    between K.order (entries_of K V E view) _ f law.compared law.cuts (λ q. natives_alike K V E view.buf.now view.pos (f q) (law.compared q) (natives_agree law f p q view.buf.now))
    c.args.low c.args.high (within_referred f c.as_ref-low.result c.as_ref-high.result c.args.low c.args.high _ _ c.as_ref-low.ensures c.as_ref-high.ensures within)
