use Rattle.std.proofs.lemmas.Result.{err_from_is_err_and}
use Rattle.examples.proofs.Concluded.{list_found, none_accepted}
use Rattle.rkyv_btree.specs.View.{view_value}
use Rattle.examples.proofs.headline.looked_up.Goals as goal

pub returns-in_err-map-clause-refused : goal.returns-in_err-map-clause-refused
returns-in_err-map-clause-refused g c =
    let p = err_from_is_err_and c.from_residual.result c.from_residual.ensures.1 in
    rw p.1 (none_accepted c.access.result _ c.in_err-map.was (λ m is. c.access.ensures.accepts.1 (m, is)))

pub returns-clause-found : goal.returns-clause-found
returns-clause-found g c m is =
    let member = rw (c.in_ok-map.ensures.buffer, c.in_ok-map.ensures.position) at c.get_key_value.ensures.member in
    let complete = rw (c.in_ok-map.ensures.buffer, c.in_ok-map.ensures.position) at c.get_key_value.ensures.complete in
    list_found g.K.Portable.kind g.V.Portable.kind g.row.E g.met.K.Portable.laws g.met.V.Portable.laws c.args.buf.now c.args.pos m is
    (g.K.Portable.kind.order (view_value c.args.key)) _ member complete
