-- A cursor keeps the walk.
use Rattle.std.proofs.Common.{map, sym, ap, ◌∙◌, rules}
use Rattle.rkyv_btree_format.specs.Read.{entry_at}
use Rattle.rkyv_btree_walk.proofs.Ranges.{run_means}
use Rattle.rkyv_btree_walk.specs.EntryPlaces.{entry_places}
use Rattle.rkyv_btree_ffi.proofs.Places.{good_of, between_kept}
use Rattle.rkyv_btree_ffi.proofs.reading.sought.Goals as goal

pub returns-clause-place : goal.returns-clause-place
returns-clause-place g c = good_of g.K.Portable.kind g.V.Portable.kind c.args.buf.now c.args.pos c.start_between-walk.result c.kept.result c.start_between-walk.ensures.walks.nodes c.kept.ensures.kept c.kept.ensures.deep

pub returns-clause-run : goal.returns-clause-run
returns-clause-run g c =
    let K = g.K.Portable.kind in
    let V = g.V.Portable.kind in
    let b = c.args.buf.now in
    let same = between_kept K V g.met.K.Portable.laws g.met.V.Portable.laws b c.args.pos c.requires c.start_between-walk.result c.kept.result c.start_between-walk.ensures.walks c.kept.ensures.kept in
    rw (← same) (run_means (entry_at K V 5 b) _ (entry_places K V 5 b c.args.pos) c.start_between-walk.ensures.run)

pub returns-clause-within : goal.returns-clause-within
returns-clause-within g c f p low high =
    let K = g.K.Portable.kind in
    let V = g.V.Portable.kind in
    let b = c.args.buf.now in
    let same = between_kept K V g.met.K.Portable.laws g.met.V.Portable.laws b c.args.pos c.requires c.start_between-walk.result c.kept.result c.start_between-walk.ensures.walks c.kept.ensures.kept in
    ap (map (entry_at K V 5 b)) (sym same) ∙ c.start_between-walk.ensures.within f (λ q w r e. let at = p q.now w.buf.now w.pos in search rules) low high
