use Rattle.std.proofs.lemmas.Result.{err_from_is_err_and}
use Rattle.examples.proofs.Concluded.{list_read, none_accepted}
use Rattle.examples.proofs.headline.within.Goals as goal

pub returns-in_err-map-clause-refused : goal.returns-in_err-map-clause-refused
returns-in_err-map-clause-refused g c =
    let p = err_from_is_err_and c.from_residual.result c.from_residual.ensures.1 in
    rw p.1 (none_accepted c.access.result _ c.in_err-map.was (λ m is. c.access.ensures.accepts.1 (m, is)))

pub returns-clause-within : goal.returns-clause-within
returns-clause-within g c m is =
    let list = list_read g.K.Portable.kind g.V.Portable.kind g.row.E g.met.K.Portable.laws g.met.V.Portable.laws c.args.buf.now c.args.pos m is in
    let run = rw list at (rw (c.in_ok-map.ensures.buffer, c.in_ok-map.ensures.position) at c.range.ensures.range.run) in
    let within = rw list at (rw (c.in_ok-map.ensures.buffer, c.in_ok-map.ensures.position) at c.range.ensures.between.within) in
    (_, run, c.range.ensures.range.yields, within)

pub returns-clause-ends : goal.returns-clause-ends
returns-clause-ends g c = c.range.ensures.range.ends
