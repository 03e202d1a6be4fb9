-- A cursor keeps the walk.
use Rattle.std.proofs.Common.{map, refl, sym, ap, ◌∙◌}
use Rattle.rkyv_btree_format.specs.Read.{entry_at}
use Rattle.rkyv_btree_ffi.proofs.Places.{good_of, between_kept}
use Rattle.rkyv_btree_ffi.proofs.reading.first.Goals as goal

pub returns-clause-place : goal.returns-clause-place
returns-clause-place g c = good_of g.K.Portable.kind g.V.Portable.kind c.args.buf.now c.args.pos c.start_between-walk.result c.kept.result c.start_between-walk.ensures.walks.nodes c.kept.ensures.kept c.kept.ensures.deep

pub returns-clause-all : goal.returns-clause-all
returns-clause-all g c =
    let K = g.K.Portable.kind in
    let V = g.V.Portable.kind in
    let same = between_kept K V g.met.K.Portable.laws g.met.V.Portable.laws c.args.buf.now c.args.pos c.requires c.start_between-walk.result c.kept.result c.start_between-walk.ensures.walks c.kept.ensures.kept in
    ap (map (entry_at K V 5 c.args.buf.now)) (sym same) ∙ c.start_between-walk.ensures.whole refl refl
