-- All items of the iterator are all that is left of its walk.
use Rattle.rkyv_btree_view.specs.Range.{range_left}
use Rattle.rkyv_btree_view.specs.View.{view_entry}
use Rattle.rkyv_btree_view.proofs.Drained.{drained}
use Rattle.rkyv_btree_format.specs.Read.{entry_at}
use Rattle.rkyv_btree_walk.proofs.Ranges.{run_means}
use Rattle.rkyv_btree_walk.specs.EntryPlaces.{entry_places}
use Rattle.rkyv_btree_view.proofs.view.View.range_with.Goals as goal

pub returns-clause-range : goal.returns-clause-range
returns-clause-range g c =
    let K = g.K.Portable.kind in let V = g.V.Portable.kind in let E = g.M.ArchivedMap.E in
    let view = c.args.self in
    record {
      yields = λ items all. drained view_entry range_left _ items all;
      ends = tt;
      run = run_means (entry_at K V E view.buf.now) _ (entry_places K V E view.buf.now view.pos) c.start_between.ensures.run;
    }

pub returns-clause-within : goal.returns-clause-within
returns-clause-within g c f p low high = (c.start_between.ensures.within f p low high)
