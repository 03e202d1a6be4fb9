-- The own bytes of the map refuse, or the root is sought from.
use Rattle.std.proofs.Common.{refl, sym, Some, None}
use Rattle.rkyv_btree_source.proofs.Faults.{passes_on}
use Rattle.rkyv_btree_source.proofs.Knowing.{of_same}
use Rattle.rkyv_btree_source.proofs.Walks.{head_leads, head_never}
use Rattle.rkyv_btree_unverified.proofs.Sought.{begins_empty, begins_part}
use Rattle.rkyv_btree_unverified.specs.Walks.{own_bytes}
use Rattle.rkyv_btree_source.proofs.seek.begin_at.Goals as goal

pub returns-in-Err-clause-gives : goal.returns-in-Err-clause-gives
returns-in-Err-clause-gives g c b e =
    let K = g.K.Portable.kind in let V = g.V.Portable.kind in let E = g.M.ArchivedMap.E in
    passes_on _ _ (λ r bad. record { refuses = own_bytes bad; no_map = λ m h. head_never K V E b g.met.K.Portable.laws g.met.V.Portable.laws c.requires.fitting c.args.pos m h r bad }) c.in-Err.fault
    (c.in-Err.ensures.gives b e)

pub returns-in-Ok-None-clause-gives : goal.returns-in-Ok-None-clause-gives
returns-in-Ok-None-clause-gives g c b e =
    let K = g.K.Portable.kind in let V = g.V.Portable.kind in let E = g.M.ArchivedMap.E in
    let gives = c.in-Ok-None.ensures.gives b e in
    let head = rw c.in-Ok-None.field-0-is at gives in
    begins_empty K V E b c.args.pos _ c.args.walk.now c.requires.empty c.requires.phase c.requires.taken (c.requires.few b e) (head_leads K V E b c.args.pos None head).1

pub seek-requires-clause-leads : goal.seek-requires-clause-leads
seek-requires-clause-leads g c b e =
    let K = g.K.Portable.kind in let V = g.V.Portable.kind in let E = g.M.ArchivedMap.E in
    let before = of_same b (sym c.in-Ok-Some.ensures.same) e in
    let gives = c.in-Ok-Some.ensures.gives b before in
    let head = rw c.in-Ok-Some.field-0-is at gives in
    let leads = head_leads K V E b c.args.pos (Some c.in-Ok-Some.root) head in
    let room = rw c.in-Ok-Some.field-0-is at c.in-Ok-Some.ensures.room in
    (record { placed = leads.0; leads = sym leads.1; before = refl; room = room }, c.requires.few b before)

pub returns-in-Ok-clause-gives : goal.returns-in-Ok-clause-gives
returns-in-Ok-clause-gives g c b e =
    begins_part g.K.Portable.kind g.V.Portable.kind g.M.ArchivedMap.E b c.args.pos _ c.args.walk.now.nodes _ c.in-Ok.part (c.in-Ok.ensures.gives b (of_same b c.in-Ok-Some.ensures.same e)) refl refl refl refl c.requires.taken
