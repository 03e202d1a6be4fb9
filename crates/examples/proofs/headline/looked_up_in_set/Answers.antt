use Rattle.std.proofs.lemmas.Result.{err_from_is_err_and}
use Rattle.rkyv_btree_base.specs.Scalars.{unit_kind}
use Rattle.rkyv_btree_base.specs.laws.Scalars.{unit_laws}
use Rattle.examples.proofs.Concluded.{list_read, none_accepted}
use Rattle.examples.proofs.headline.looked_up_in_set.Goals as goal

pub returns-in_err-set-clause-refused : goal.returns-in_err-set-clause-refused
returns-in_err-set-clause-refused g c =
    let p = err_from_is_err_and c.from_residual.result c.from_residual.ensures.1 in
    rw p.1 (none_accepted c.access.result _ c.in_err-set.was (λ m is. c.access.ensures.accepts.1 (m, is)))

pub returns-clause-found : goal.returns-clause-found
returns-clause-found g c m is =
    let list = list_read g.K.Portable.kind unit_kind g.row.E g.met.K.Portable.laws unit_laws c.args.buf.now c.args.pos m is in
    record {
      hit = rw list at (rw (c.in_ok-set.ensures.buffer, c.in_ok-set.ensures.position) at c.get.ensures.member);
      complete = rw list at (rw (c.in_ok-set.ensures.buffer, c.in_ok-set.ensures.position) at c.get.ensures.complete);
    }
