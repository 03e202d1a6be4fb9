-- Where a path leads: to the root, or to a child of its last node.
use Rattle.std.proofs.Common.{arith}
use Rattle.rkyv_btree_format.specs.Layout.{layout_of}
use Rattle.rkyv_btree_unverified.proofs.Chains.{way_short}
use Rattle.rkyv_btree_unverified.proofs.Pending.{root_none, root_leads, last_inner, last_inside, last_within, last_none, last_leads, last_fails}
use Rattle.rkyv_btree_unverified.proofs.Taken.{none_of}
use Rattle.rkyv_btree_unverified.specs.Walks.{own_bytes}
use Rattle.rkyv_btree_unverified.proofs.walk.pending.Goals as goal

pub push-requires : goal.push-requires
push-requires g c =
    let short = way_short (layout_of g.K.Portable.kind g.V.Portable.kind g.M.ArchivedMap.E) c.args.buf.now c.args.pos c.pop.new.self.items _ _ _ c.in-Some.ensures.items c.requires.way in
    (omega arith, omega (arith, short))

pub child_before-requires-clause-inner : goal.child_before-requires-clause-inner
child_before-requires-clause-inner g c = last_inside g.K.Portable.kind g.V.Portable.kind g.M.ArchivedMap.E c.args.buf.now c.args.pos c.pop.new.self.items _ _ c.in-Some.index c.in-Some.ensures.items c.requires.way

pub child_before-requires-clause-within : goal.child_before-requires-clause-within
child_before-requires-clause-within g c = last_within g.K.Portable.kind g.V.Portable.kind g.M.ArchivedMap.E c.args.buf.now c.args.pos c.pop.new.self.items _ _ c.in-Some.index c.in-Some.ensures.items c.requires.way

pub returns-in-Err-clause-gives : goal.returns-in-Err-clause-gives
returns-in-Err-clause-gives g c = record { refuses = own_bytes c.in-Err.ensures.gives; no_map = λ m h. cc (c.in-Err.ensures.accepts m h) }

pub returns-in-Err-child_before-clause-gives : goal.returns-in-Err-child_before-clause-gives
returns-in-Err-child_before-clause-gives g c =
    let inner = last_inner g.K.Portable.kind g.V.Portable.kind g.M.ArchivedMap.E c.args.buf.now c.args.pos c.pop.new.self.items _ _ c.in-Some.index c.in-Some.ensures.items c.requires.way in
    last_fails g.K.Portable.kind g.V.Portable.kind g.M.ArchivedMap.E c.args.buf.now c.args.pos c.pop.new.self.items _ _ c.in-Some.index c.in-Some.ensures.items c.requires.way g.met.K.Portable.laws g.met.V.Portable.laws c.requires.fitting _ _ _
    (c.in-Err-child_before.ensures.gives _ inner) (λ m hi h. cc (c.in-Err-child_before.ensures.accepts m hi h))

pub returns-in-Ok-None-clause-gives : goal.returns-in-Ok-None-clause-gives
returns-in-Ok-None-clause-gives g c =
    let none = none_of c.args.path.now.items (λ some. cc (c.in-None.ensures.variant.1 some)) in
    let head = rw c.in-Ok-None.field-0-is at c.in-Ok-None.ensures in
    root_none g.K.Portable.kind g.V.Portable.kind g.M.ArchivedMap.E c.args.buf.now c.args.pos c.args.path.now.items none head.leads head.gives

pub returns-in-Ok-Some-clause-gives : goal.returns-in-Ok-Some-clause-gives
returns-in-Ok-Some-clause-gives g c =
    let none = none_of c.args.path.now.items (λ some. cc (c.in-None.ensures.variant.1 some)) in
    let head = rw c.in-Ok-Some.field-0-is at c.in-Ok-Some.ensures in
    root_leads g.K.Portable.kind g.V.Portable.kind g.M.ArchivedMap.E c.args.buf.now c.args.pos c.args.path.now.items none _ head.placed head.leads head.room head.gives

pub returns-in-Ok-None-child_before-clause-gives : goal.returns-in-Ok-None-child_before-clause-gives
returns-in-Ok-None-child_before-clause-gives g c =
    let inner = last_inner g.K.Portable.kind g.V.Portable.kind g.M.ArchivedMap.E c.args.buf.now c.args.pos c.pop.new.self.items _ _ c.in-Some.index c.in-Some.ensures.items c.requires.way in
    let child = rw c.in-Ok-None-child_before.field-0-is at c.in-Ok-None-child_before.ensures in
    last_none g.K.Portable.kind g.V.Portable.kind g.M.ArchivedMap.E c.args.buf.now c.args.pos c.pop.new.self.items _ _ c.in-Some.index c.in-Some.ensures.items c.requires.way child.leads (child.gives _ inner)

pub returns-in-Ok-Some-child_before-clause-gives : goal.returns-in-Ok-Some-child_before-clause-gives
returns-in-Ok-Some-child_before-clause-gives g c =
    let inner = last_inner g.K.Portable.kind g.V.Portable.kind g.M.ArchivedMap.E c.args.buf.now c.args.pos c.pop.new.self.items _ _ c.in-Some.index c.in-Some.ensures.items c.requires.way in
    let child = rw c.in-Ok-Some-child_before.field-0-is at c.in-Ok-Some-child_before.ensures in
    last_leads g.K.Portable.kind g.V.Portable.kind g.M.ArchivedMap.E c.args.buf.now c.args.pos c.pop.new.self.items _ _ c.in-Some.index c.in-Some.ensures.items c.requires.way _ child.leads child.room (child.gives _ inner)
