-- The next entry of the leaf is brought, or that of the path.
use Rattle.std.proofs.Common.{◌≡◌, ◌+◌, arith, refl}
use Rattle.rkyv_btree_format.proofs.Sizes.{room_of}
use Rattle.rkyv_btree_source.proofs.Faults.{passes_on}
use Rattle.rkyv_btree_source.proofs.Stepping.{waits_here, waits_up}
use Rattle.rkyv_btree_source.proofs.Walks.{entry_never, unread_of, unread_on}
use Rattle.rkyv_btree_unverified.proofs.Lent.{taken_fits}
use Rattle.rkyv_btree_unverified.proofs.Taken.{leaf_short, leaf_some, leaf_fails, leaf_takes, path_some, path_takes}
use Rattle.rkyv_btree_source.proofs.walk.advance.Goals as goal

pub bring_entry-requires-clause-page : goal.bring_entry-requires-clause-page
bring_entry-requires-clause-page g c =
    let room = room_of _ _ _ g.met.K.Portable.laws g.met.V.Portable.laws c.requires.fitting in
    omega (arith, room.parts.leaf, c.leaf_size-len.ensures, c.requires.page)

pub returns-in-Err-clause-gives : goal.returns-in-Err-clause-gives
returns-in-Err-clause-gives g c b e =
    let K = g.K.Portable.kind in let V = g.V.Portable.kind in let E = g.M.ArchivedMap.E in
    let k = g.met.K.Portable.laws in let v = g.met.V.Portable.laws in let fits = c.requires.fitting in
    let room = room_of K V E k v fits in
    let has = (c.requires.has b e).0 in
    let KR = g.K.CheckBytes.Refuses in let VR = g.V.CheckBytes.Refuses in (
      passes_on _ _
          (λ r bad. leaf_fails K V E b k v fits c.args.pos c.args.walk.now has c.if-next-walk.true KR VR r bad
          (entry_never K V E b k v KR VR (g.met.K.CheckBytes.refusals room.key) (g.met.V.CheckBytes.refusals room.value) _ r bad))
          c.in-Err.fault (c.in-Err.ensures.brings b e),
      unread_of _ c.in-Err.fault (waits_here K V E b c.args.pos c.args.walk.now has),
    )

pub returns-in-Ok-clause-gives : goal.returns-in-Ok-clause-gives
returns-in-Ok-clause-gives g c b e =
    let K = g.K.Portable.kind in let V = g.V.Portable.kind in let E = g.M.ArchivedMap.E in
    let k = g.met.K.Portable.laws in let v = g.met.V.Portable.laws in let fits = c.requires.fitting in
    let has = c.requires.has b e in
    let brings = c.in-Ok.ensures.brings b e in
    let short = leaf_short K V E b k v fits c.args.pos c.args.walk.now has.0 c.if-next-walk.true in
    let some = leaf_some K V E b k v fits c.args.pos c.args.walk.now has.0 c.if-next-walk.true in
    let more = taken_fits K V E b k v fits c.args.walk.now short some has.1.most in
    let taken : c.saturating_add-walk.result ≡ c.args.walk.now.taken + 1 = omega (arith, more, c.saturating_add-walk.ensures) in
    ((c.args.walk.now.node, c.args.walk.now.next), leaf_takes K V E b k v fits c.args.pos c.args.walk.now has.0 c.if-next-walk.true _ refl refl refl refl refl taken has.0.1 brings.stands, brings)

pub returns-in-Err-climb-clause-gives : goal.returns-in-Err-climb-clause-gives
returns-in-Err-climb-clause-gives g c b e =
    let K = g.K.Portable.kind in let V = g.V.Portable.kind in let E = g.M.ArchivedMap.E in
    let has = (c.requires.has b e).0 in
    let climb = c.in-Err-climb.ensures.gives b e in
    (climb.0, unread_on _ _ (λ up. waits_up K V E b c.args.pos c.args.walk.now has _ c.if-next-walk.false up refl refl refl refl refl refl) c.in-Err-climb.fault climb.1)

pub returns-in-Ok-Some-clause-walks : goal.returns-in-Ok-Some-clause-walks
returns-in-Ok-Some-clause-walks g c b e =
    let K = g.K.Portable.kind in let V = g.V.Portable.kind in let E = g.M.ArchivedMap.E in
    let has = c.requires.has b e in
    let gives = c.in-Ok-Some.ensures.gives b e in
    let climb = rw c.in-Ok-Some.field-0-is at gives in
    record {
      way = climb.1.way;
      few = λ m map. let few = has.0.0.few m map in let less = climb.1.few m map in omega (arith, few, less);
    }

pub returns-in-Ok-Some-clause-gives : goal.returns-in-Ok-Some-clause-gives
returns-in-Ok-Some-clause-gives g c b e =
    let K = g.K.Portable.kind in let V = g.V.Portable.kind in let E = g.M.ArchivedMap.E in
    let k = g.met.K.Portable.laws in let v = g.met.V.Portable.laws in let fits = c.requires.fitting in
    let has = c.requires.has b e in
    let gives = c.in-Ok-Some.ensures.gives b e in
    let climb = rw c.in-Ok-Some.field-0-is at gives in
    let some = path_some K V E b k v fits c.args.pos c.args.walk.now has.0 c.if-next-walk.false _ climb.0 climb.1 in
    let more = taken_fits K V E b k v fits c.args.walk.now climb.1.taken.short some has.1.most in
    let taken : c.saturating_add-walk-in-Ok-Some.result ≡ c.args.walk.now.taken + 1 = omega (arith, more, c.saturating_add-walk-in-Ok-Some.ensures) in
    (climb.0, path_takes K V E b k v fits c.args.pos c.args.walk.now has.0 c.if-next-walk.false _ refl taken refl climb.0 climb.1, climb.2)
