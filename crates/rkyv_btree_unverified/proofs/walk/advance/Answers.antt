-- The next entry of the leaf is taken, or that of the path.
use Rattle.std.proofs.Common.{refl, arith}
use Rattle.rkyv_btree_unverified.proofs.Lent.{taken_fits}
use Rattle.rkyv_btree_unverified.proofs.Taken.{has_begun, leaf_short, leaf_inside, leaf_some, leaf_fails, leaf_takes, path_some, path_finishes, path_walks, path_takes}
use Rattle.rkyv_btree_unverified.proofs.walk.advance.Goals as goal

pub check_entry-requires-clause-inside : goal.check_entry-requires-clause-inside
check_entry-requires-clause-inside g c =
    leaf_inside g.K.Portable.kind g.V.Portable.kind g.M.ArchivedMap.E c.args.buf.now g.met.K.Portable.laws g.met.V.Portable.laws c.requires.fitting c.args.pos c.args.walk.now c.requires.has c.if-next-walk.true

pub returns-in-Err-clause-steps : goal.returns-in-Err-clause-steps
returns-in-Err-clause-steps g c = record {
  fails = leaf_fails g.K.Portable.kind g.V.Portable.kind g.M.ArchivedMap.E c.args.buf.now g.met.K.Portable.laws g.met.V.Portable.laws c.requires.fitting c.args.pos c.args.walk.now c.requires.has c.if-next-walk.true _ _ _
      c.in-Err.ensures.refused (λ h. cc (c.in-Err.ensures.accepts h));
  begun = has_begun g.K.Portable.kind g.V.Portable.kind g.M.ArchivedMap.E c.args.buf.now c.args.pos c.args.walk.now c.requires.has;
  over = refl;
}

pub overflow_add-walk-in-Ok : goal.overflow_add-walk-in-Ok
overflow_add-walk-in-Ok g c =
    let K = g.K.Portable.kind in let V = g.V.Portable.kind in let E = g.M.ArchivedMap.E in
    let short = leaf_short K V E c.args.buf.now g.met.K.Portable.laws g.met.V.Portable.laws c.requires.fitting c.args.pos c.args.walk.now c.requires.has c.if-next-walk.true in
    let some = leaf_some K V E c.args.buf.now g.met.K.Portable.laws g.met.V.Portable.laws c.requires.fitting c.args.pos c.args.walk.now c.requires.has c.if-next-walk.true in
    omega (arith, taken_fits K V E c.args.buf.now g.met.K.Portable.laws g.met.V.Portable.laws c.requires.fitting c.args.walk.now short some c.requires.most)

pub overflow_add-walk-in-Ok-Some : goal.overflow_add-walk-in-Ok-Some
overflow_add-walk-in-Ok-Some g c =
    let K = g.K.Portable.kind in let V = g.V.Portable.kind in let E = g.M.ArchivedMap.E in
    let climb = rw c.in-Ok-Some.field-0-is at c.in-Ok-Some.ensures.takes in
    let some = path_some K V E c.args.buf.now g.met.K.Portable.laws g.met.V.Portable.laws c.requires.fitting c.args.pos c.args.walk.now c.requires.has c.if-next-walk.false _ _ climb in
    omega (arith, taken_fits K V E c.args.buf.now g.met.K.Portable.laws g.met.V.Portable.laws c.requires.fitting c.args.walk.now climb.taken.short some c.requires.most)

pub returns-in-Ok-clause-steps : goal.returns-in-Ok-clause-steps
returns-in-Ok-clause-steps g c =
    leaf_takes g.K.Portable.kind g.V.Portable.kind g.M.ArchivedMap.E c.args.buf.now g.met.K.Portable.laws g.met.V.Portable.laws c.requires.fitting c.args.pos c.args.walk.now c.requires.has c.if-next-walk.true _ refl refl refl refl refl refl c.requires.has.1
    c.in-Ok.ensures.stands

pub returns-in-Ok-None-clause-steps : goal.returns-in-Ok-None-clause-steps
returns-in-Ok-None-clause-steps g c =
    path_finishes g.K.Portable.kind g.V.Portable.kind g.M.ArchivedMap.E c.args.buf.now g.met.K.Portable.laws g.met.V.Portable.laws c.requires.fitting c.args.pos c.args.walk.now c.requires.has c.if-next-walk.false _ refl
    (rw c.in-Ok-None.field-0-is at c.in-Ok-None.ensures.takes)

pub returns-in-Ok-Some-clause-walks : goal.returns-in-Ok-Some-clause-walks
returns-in-Ok-Some-clause-walks g c =
    path_walks g.K.Portable.kind g.V.Portable.kind g.M.ArchivedMap.E c.args.buf.now g.met.K.Portable.laws g.met.V.Portable.laws c.requires.fitting c.args.pos c.args.walk.now c.requires.has c.if-next-walk.false _ refl refl refl _
    (rw c.in-Ok-Some.field-0-is at c.in-Ok-Some.ensures.takes)

pub returns-in-Ok-Some-clause-steps : goal.returns-in-Ok-Some-clause-steps
returns-in-Ok-Some-clause-steps g c =
    path_takes g.K.Portable.kind g.V.Portable.kind g.M.ArchivedMap.E c.args.buf.now g.met.K.Portable.laws g.met.V.Portable.laws c.requires.fitting c.args.pos c.args.walk.now c.requires.has c.if-next-walk.false _ refl refl refl _
    (rw c.in-Ok-Some.field-0-is at c.in-Ok-Some.ensures.takes)
