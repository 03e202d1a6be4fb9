-- Where a path leads: to the root, or to a child of its last node.
use Rattle.std.proofs.Common.{arith, Some, None}
use Rattle.rkyv_btree_format.specs.Layout.{layout_of}
use Rattle.rkyv_btree_source.proofs.Faults.{passes_on}
use Rattle.rkyv_btree_source.proofs.Walks.{child_leads, child_never, head_leads, head_never, low_parts, too_small_within}
use Rattle.rkyv_btree_unverified.proofs.Pending.{root_none, root_leads, last_inner, last_inside, last_none, last_leads, last_fails}
use Rattle.rkyv_btree_unverified.proofs.Chains.{way_placed}
use Rattle.rkyv_btree_unverified.proofs.Taken.{none_of}
use Rattle.rkyv_btree_unverified.specs.Walks.{own_bytes}
use Rattle.rkyv_btree_source.proofs.walk.pending.Goals as goal

pub push-requires : goal.push-requires
push-requires g c =
    let parts = low_parts g.K.Portable.kind g.V.Portable.kind g.M.ArchivedMap.E c.args.pos c.pop.new.self.items _ _ c.in-Some.index c.in-Some.ensures.items c.requires.low in
    (omega arith, omega (arith, parts.3))

pub child_at-requires-clause-few : goal.child_at-requires-clause-few
child_at-requires-clause-few g c =
    (low_parts g.K.Portable.kind g.V.Portable.kind g.M.ArchivedMap.E c.args.pos c.pop.new.self.items _ _ c.in-Some.index c.in-Some.ensures.items c.requires.low).2

pub child_at-requires-clause-small : goal.child_at-requires-clause-small
child_at-requires-clause-small g c =
    let parts = low_parts g.K.Portable.kind g.V.Portable.kind g.M.ArchivedMap.E c.args.pos c.pop.new.self.items _ _ c.in-Some.index c.in-Some.ensures.items c.requires.low in
    omega (arith, parts.1, c.ranges.pos.fits)

pub child_at-requires-clause-inside : goal.child_at-requires-clause-inside
child_at-requires-clause-inside g c b e =
    let way = c.requires.way b e in
    let placed = way_placed (layout_of g.K.Portable.kind g.V.Portable.kind g.M.ArchivedMap.E) b c.args.pos c.pop.new.self.items _ _ _ c.in-Some.ensures.items way in
    let inside = (last_inside g.K.Portable.kind g.V.Portable.kind g.M.ArchivedMap.E b c.args.pos c.pop.new.self.items _ _ c.in-Some.index c.in-Some.ensures.items way).room in
    (placed.short, inside)

pub returns-in-Err-clause-gives : goal.returns-in-Err-clause-gives
returns-in-Err-clause-gives g c b e =
    let K = g.K.Portable.kind in let V = g.V.Portable.kind in let E = g.M.ArchivedMap.E in
    passes_on _ _ (λ r bad. record { refuses = own_bytes bad; no_map = λ m h. head_never K V E b g.met.K.Portable.laws g.met.V.Portable.laws c.requires.fitting c.args.pos m h r bad }) c.in-Err.fault
    (c.in-Err.ensures.gives b e)

pub returns-in-Ok-None-clause-gives : goal.returns-in-Ok-None-clause-gives
returns-in-Ok-None-clause-gives g c b e =
    let K = g.K.Portable.kind in let V = g.V.Portable.kind in let E = g.M.ArchivedMap.E in
    let none = none_of c.args.path.now.items (λ some. cc (c.in-None.ensures.variant.1 some)) in
    let gives = c.in-Ok-None.ensures.gives b e in
    let head = rw c.in-Ok-None.field-0-is at gives in
    root_none K V E b c.args.pos c.args.path.now.items none (head_leads K V E b c.args.pos None head).1 head

pub returns-in-Ok-Some-clause-gives : goal.returns-in-Ok-Some-clause-gives
returns-in-Ok-Some-clause-gives g c b e =
    let K = g.K.Portable.kind in let V = g.V.Portable.kind in let E = g.M.ArchivedMap.E in
    let none = none_of c.args.path.now.items (λ some. cc (c.in-None.ensures.variant.1 some)) in
    let gives = c.in-Ok-Some.ensures.gives b e in
    let head = rw c.in-Ok-Some.field-0-is at gives in
    let room = rw c.in-Ok-Some.field-0-is at c.in-Ok-Some.ensures.room in
    let leads = head_leads K V E b c.args.pos (Some c.in-Ok-Some.root) head in
    root_leads K V E b c.args.pos c.args.path.now.items none c.in-Ok-Some.root leads.0 leads.1 room head

pub returns-in-Err-child_at-clause-gives : goal.returns-in-Err-child_at-clause-gives
returns-in-Err-child_at-clause-gives g c b e =
    let K = g.K.Portable.kind in let V = g.V.Portable.kind in let E = g.M.ArchivedMap.E in
    let way = c.requires.way b e in
    let inner = last_inner K V E b c.args.pos c.pop.new.self.items _ _ c.in-Some.index c.in-Some.ensures.items way in
    let low = (low_parts K V E c.args.pos c.pop.new.self.items _ _ c.in-Some.index c.in-Some.ensures.items c.requires.low).2 in
    passes_on _ _ (λ r bad. last_fails K V E b c.args.pos c.pop.new.self.items _ _ c.in-Some.index c.in-Some.ensures.items way g.met.K.Portable.laws g.met.V.Portable.laws c.requires.fitting _ _ r bad
    (child_never K V E b _ c.in-Some.node c.in-Some.index r bad low)) c.in-Err-child_at.fault (c.in-Err-child_at.ensures.gives b e _ inner)

pub returns-in-Ok-None-child_at-clause-gives : goal.returns-in-Ok-None-child_at-clause-gives
returns-in-Ok-None-child_at-clause-gives g c b e =
    let K = g.K.Portable.kind in let V = g.V.Portable.kind in let E = g.M.ArchivedMap.E in
    let way = c.requires.way b e in
    let inner = last_inner K V E b c.args.pos c.pop.new.self.items _ _ c.in-Some.index c.in-Some.ensures.items way in
    let gives = c.in-Ok-None-child_at.ensures.gives b e _ inner in
    let child = rw c.in-Ok-None-child_at.field-0-is at gives in
    last_none K V E b c.args.pos c.pop.new.self.items _ _ c.in-Some.index c.in-Some.ensures.items way (child_leads K V E b _ c.in-Some.node c.in-Some.index None inner child) child

pub returns-in-Ok-Some-child_at-clause-gives : goal.returns-in-Ok-Some-child_at-clause-gives
returns-in-Ok-Some-child_at-clause-gives g c b e =
    let K = g.K.Portable.kind in let V = g.V.Portable.kind in let E = g.M.ArchivedMap.E in
    let way = c.requires.way b e in
    let inner = last_inner K V E b c.args.pos c.pop.new.self.items _ _ c.in-Some.index c.in-Some.ensures.items way in
    let gives = c.in-Ok-Some-child_at.ensures.gives b e _ inner in
    let child = rw c.in-Ok-Some-child_at.field-0-is at gives in
    let room = rw c.in-Ok-Some-child_at.field-0-is at c.in-Ok-Some-child_at.ensures.room in
    last_leads K V E b c.args.pos c.pop.new.self.items _ _ c.in-Some.index c.in-Some.ensures.items way _ (child_leads K V E b _ c.in-Some.node c.in-Some.index (Some _) inner child) room child

pub returns-in-Ok-Some-child_at-clause-room : goal.returns-in-Ok-Some-child_at-clause-room
returns-in-Ok-Some-child_at-clause-room g c =
    let K = g.K.Portable.kind in let V = g.V.Portable.kind in let E = g.M.ArchivedMap.E in
    let room = rw c.in-Ok-Some-child_at.field-0-is at c.in-Ok-Some-child_at.ensures.room in
    let low = (low_parts K V E c.args.pos c.pop.new.self.items _ _ c.in-Some.index c.in-Some.ensures.items c.requires.low).1 in
    (room, omega (arith, low))

pub returns-in-Err-child_at-clause-caused : goal.returns-in-Err-child_at-clause-caused
returns-in-Err-child_at-clause-caused g c n =
    let low = (low_parts g.K.Portable.kind g.V.Portable.kind g.M.ArchivedMap.E c.args.pos c.pop.new.self.items _ _ c.in-Some.index c.in-Some.ensures.items c.requires.low).1 in
    too_small_within _ _ 0 n _ c.in-Err-child_at.fault (omega (arith, low)) (c.in-Err-child_at.ensures.caused n)
