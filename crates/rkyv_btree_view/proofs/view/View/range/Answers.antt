-- All items of the iterator are all that is left of its walk; and keys compare as what their views read.
use Rattle.std.proofs.Common.{refl, rules}
use Rattle.rkyv_btree_view.specs.Range.{range_left}
use Rattle.rkyv_btree_view.specs.View.{view_value, view_entry, entries_of}
use Rattle.rkyv_btree_view.proofs.Bounds.{within_referred}
use Rattle.rkyv_btree_view.proofs.Drained.{drained}
use Rattle.rkyv_btree_view.proofs.Ordered.{between}
use Rattle.rkyv_btree_view.specs.laws.Cuts.{order_cuts}
use Rattle.rkyv_btree_format.specs.Read.{entry_at}
use Rattle.rkyv_btree_walk.proofs.Ranges.{run_means}
use Rattle.rkyv_btree_walk.specs.EntryPlaces.{entry_places}
use Rattle.rkyv_btree_view.proofs.view.View.range.Goals as goal

pub returns-clause-range : goal.returns-clause-range
returns-clause-range g c =
    let K = g.K.Portable.kind in let V = g.V.Portable.kind in let E = g.M.ArchivedMap.E in
    let view = c.args.self in
    record {
      yields = λ items all. drained view_entry range_left _ items all;
      ends = tt;
      run = run_means (entry_at K V E view.buf.now) _ (entry_places K V E view.buf.now view.pos) c.start_between.ensures.run;
    }

pub returns-clause-between : goal.returns-clause-between
returns-clause-between g c =
    let K = g.K.Portable.kind in
    let within = c.start_between.ensures.within (λ q x. K.order (view_value q) x) (λ q w r e. search rules) in
    between K.order (entries_of K g.V.Portable.kind g.M.ArchivedMap.E c.args.self) _ (λ q. K.order (view_value q)) (λ q. K.order (view_value q))
    (λ q. order_cuts g.met.K.ViewOrd.total (view_value q)) (λ q i d less. refl) c.args.low c.args.high
    (within_referred (λ q. K.order (view_value q)) c.as_ref-low.result c.as_ref-high.result c.args.low c.args.high _ _ c.as_ref-low.ensures c.as_ref-high.ensures within)
