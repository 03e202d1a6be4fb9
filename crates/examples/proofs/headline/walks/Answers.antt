use Rattle.std.proofs.Common.{◌≡◌, ◌∙◌, ap, map}
use Rattle.std.proofs.lemmas.Result.{err_from_is_err_and}
use Rattle.rkyv_btree_base.specs.Read.{read_map}
use Rattle.examples.proofs.Concluded.{list_read, none_accepted}
use Rattle.examples.proofs.headline.walks.Goals as goal

pub returns-in_err-map-clause-refused : goal.returns-in_err-map-clause-refused
returns-in_err-map-clause-refused g c =
    let p = err_from_is_err_and c.from_residual.result c.from_residual.ensures.1 in
    rw p.1 (none_accepted c.access.result _ c.in_err-map.was (λ m is. c.access.ensures.accepts.1 (m, is)))

pub returns-clause-len : goal.returns-clause-len
returns-clause-len g c m is =
    let list : read_map g.K.Portable.kind g.V.Portable.kind g.row.E c.args.buf.now c.args.pos ≡ m = list_read g.K.Portable.kind g.V.Portable.kind g.row.E g.met.K.Portable.laws g.met.V.Portable.laws c.args.buf.now c.args.pos m is in
    rw list at (rw (c.in_ok-map.ensures.buffer, c.in_ok-map.ensures.position) at c.len.ensures.entries)

pub returns-clause-entries : goal.returns-clause-entries
returns-clause-entries g c m is items drains =
    let list = list_read g.K.Portable.kind g.V.Portable.kind g.row.E g.met.K.Portable.laws g.met.V.Portable.laws c.args.buf.now c.args.pos m is in
    rw (c.in_ok-map.ensures.buffer, c.in_ok-map.ensures.position) at (c.iter.ensures.yields items drains) ∙ list

pub returns-clause-keys : goal.returns-clause-keys
returns-clause-keys g c m is items drains =
    let list = list_read g.K.Portable.kind g.V.Portable.kind g.row.E g.met.K.Portable.laws g.met.V.Portable.laws c.args.buf.now c.args.pos m is in
    rw (c.in_ok-map.ensures.buffer, c.in_ok-map.ensures.position) at (c.keys.ensures.yields items drains) ∙ ap (map (λ e. e.0)) list

pub returns-clause-values : goal.returns-clause-values
returns-clause-values g c m is items drains =
    let list = list_read g.K.Portable.kind g.V.Portable.kind g.row.E g.met.K.Portable.laws g.met.V.Portable.laws c.args.buf.now c.args.pos m is in
    rw (c.in_ok-map.ensures.buffer, c.in_ok-map.ensures.position) at (c.values.ensures.yields items drains) ∙ ap (map (λ e. e.1)) list

pub returns-clause-ends : goal.returns-clause-ends
returns-clause-ends g c = (c.iter.ensures.ends, c.keys.ensures.ends, c.values.ensures.ends)
