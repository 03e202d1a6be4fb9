-- The entry that is brought is the last one, which a map has.
use Rattle.std.proofs.Common.{◌≡◌, ◌+◌, arith, length, Some}
use Rattle.rkyv_btree_format.proofs.Sizes.{room_of}
use Rattle.rkyv_btree_source.proofs.Faults.{passes_on}
use Rattle.rkyv_btree_source.proofs.Knowing.{of_same}
use Rattle.rkyv_btree_source.proofs.Lasts.{entry_fails, no_last}
use Rattle.rkyv_btree_source.proofs.Spent.{spent_last, spent_start, spent_way}
use Rattle.rkyv_btree_source.proofs.Walks.{head_never, too_small_within}
use Rattle.rkyv_btree_source.specs.LastEntry.{last_place, refused_own}
use Rattle.rkyv_btree_source.proofs.last_entry.bring_last.Goals as goal

pub returns-in-Err-clause-brings : goal.returns-in-Err-clause-brings
returns-in-Err-clause-brings g c b e =
    let K = g.K.Portable.kind in let V = g.V.Portable.kind in let E = g.M.ArchivedMap.E in
    passes_on _ _ (λ r bad. record { refuses = refused_own bad; no_map = λ m h. head_never K V E b g.met.K.Portable.laws g.met.V.Portable.laws c.requires.fitting c.args.pos m h r bad }) c.in-Err.fault
    (c.in-Err.ensures.gives b e)

pub returns-in-Err-clause-spent : goal.returns-in-Err-clause-spent
returns-in-Err-clause-spent g c = spent_start _ _ _ _ c.in-Err.ensures.spent

pub returns-in-Ok-None-clause-brings : goal.returns-in-Ok-None-clause-brings
returns-in-Ok-None-clause-brings g c b e = no_last g.K.Portable.kind g.V.Portable.kind g.M.ArchivedMap.E b c.args.pos (rw c.in-Ok-None.field-0-is at (c.in-Ok-None.ensures.gives b e))

pub returns-in-Ok-None-clause-spent : goal.returns-in-Ok-None-clause-spent
returns-in-Ok-None-clause-spent g c = spent_start _ _ _ _ c.in-Ok-None.ensures.spent

pub bring_entry-requires-clause-page : goal.bring_entry-requires-clause-page
bring_entry-requires-clause-page g c =
    let space = room_of g.K.Portable.kind g.V.Portable.kind g.M.ArchivedMap.E g.met.K.Portable.laws g.met.V.Portable.laws c.requires.fitting in
    omega (arith, space.parts.leaf, c.leaf_size-len.ensures, c.requires.page, c.find_last.auto.page)

pub returns-in-Err-find_last-clause-caused : goal.returns-in-Err-find_last-clause-caused
returns-in-Err-find_last-clause-caused g c = too_small_within c.args.pos (c.args.pos + 8) 0 (length c.args.room.now) _ c.in-Err-find_last.fault (omega arith) (c.in-Err-find_last.ensures.caused (length c.args.room.now))

pub returns-in-Err-find_last-clause-spent : goal.returns-in-Err-find_last-clause-spent
returns-in-Err-find_last-clause-spent g c = spent_way _ _ _ _ _ c.in-Ok-Some.ensures.spent c.in-Err-find_last.ensures.spent

pub returns-in-Ok-None-find_last-clause-spent : goal.returns-in-Ok-None-find_last-clause-spent
returns-in-Ok-None-find_last-clause-spent g c = spent_way _ _ _ _ _ c.in-Ok-Some.ensures.spent c.in-Ok-None-find_last.ensures.spent

pub returns-in-Err-bring_entry-clause-brings : goal.returns-in-Err-bring_entry-clause-brings
returns-in-Err-bring_entry-clause-brings g c b e =
    let K = g.K.Portable.kind in let V = g.V.Portable.kind in let E = g.M.ArchivedMap.E in
    let k = g.met.K.Portable.laws in let v = g.met.V.Portable.laws in
    let space = room_of K V E k v c.requires.fitting in
    let there = of_same b c.in-Ok-Some.ensures.same e in
    let found = c.in-Ok-Some-find_last.ensures.gives b there in
    let is : last_place K V E b c.args.pos ≡ Some (c.in-Ok-Some-find_last.node, c.in-Ok-Some-find_last.index) = rw c.in-Ok-Some-find_last.field-0-is at found in
    passes_on _ _
    (λ r bad. entry_fails K V E b k v g.K.CheckBytes.Refuses g.V.CheckBytes.Refuses (g.met.K.CheckBytes.refusals space.key) (g.met.V.CheckBytes.refusals space.value) c.args.pos _ is
    (λ m h. let stands = c.in-Ok-Some-find_last.ensures.stands b there m h in rw c.in-Ok-Some-find_last.field-0-is at stands) r bad)
    c.in-Err-bring_entry.fault (c.in-Err-bring_entry.ensures.brings b (of_same b c.in-Ok-Some-find_last.ensures.same there))

pub returns-in-Err-bring_entry-clause-spent : goal.returns-in-Err-bring_entry-clause-spent
returns-in-Err-bring_entry-clause-spent g c =
    let space = room_of g.K.Portable.kind g.V.Portable.kind g.M.ArchivedMap.E g.met.K.Portable.laws g.met.V.Portable.laws c.requires.fitting in
    let within = rw c.in-Ok-Some-find_last.field-0-is at c.in-Ok-Some-find_last.ensures.within in
    let inside = within.1 in
    spent_last _ _ _ _ _ _ c.in-Ok-Some-find_last.node c.leaf_size-len.result c.in-Ok-Some.ensures.spent c.in-Ok-Some-find_last.ensures.spent c.in-Err-bring_entry.ensures.spent
    (omega (arith, space.parts.leaf, c.leaf_size-len.ensures)) (omega (arith, inside, c.leaf_size-len.ensures))

pub returns-in-Ok-clause-spent : goal.returns-in-Ok-clause-spent
returns-in-Ok-clause-spent g c =
    let space = room_of g.K.Portable.kind g.V.Portable.kind g.M.ArchivedMap.E g.met.K.Portable.laws g.met.V.Portable.laws c.requires.fitting in
    let within = rw c.in-Ok-Some-find_last.field-0-is at c.in-Ok-Some-find_last.ensures.within in
    let inside = within.1 in
    spent_last _ _ _ _ _ _ c.in-Ok-Some-find_last.node c.leaf_size-len.result c.in-Ok-Some.ensures.spent c.in-Ok-Some-find_last.ensures.spent c.in-Ok.ensures.spent
    (omega (arith, space.parts.leaf, c.leaf_size-len.ensures)) (omega (arith, inside, c.leaf_size-len.ensures))
