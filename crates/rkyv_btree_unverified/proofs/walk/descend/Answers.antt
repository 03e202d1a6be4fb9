-- Each node that is met is reached, and is put on the path unless it is a leaf.
use Rattle.std.proofs.Common.{◌<◌, length, arith}
use Rattle.std.specs.Prelude.{pos}
use Rattle.rkyv_btree_format.proofs.Sizes.{room_of}
use Rattle.rkyv_btree_format.specs.Layout.{layout_of, inner_size}
use Rattle.rkyv_btree_unverified.proofs.Chains.{node_inside}
use Rattle.rkyv_btree_unverified.proofs.Entered.{leads_inside, is_deep, is_past, node_fails, child_fails, leaf_found, none_found, goes_on}
use Rattle.rkyv_btree_unverified.proofs.Goes.{inner_of}
use Rattle.rkyv_btree_unverified.proofs.Places.{kept}
use Rattle.rkyv_btree_unverified.proofs.walk.descend.Goals as goal

pub returns-then-len-eq32 : goal.returns-then-len-eq32
returns-then-len-eq32 g c = record {
  gives = rw (kept c.from.result (pos c.down.at) c.from.ensures c.from.type_inv)
      (is_deep _ _ _ _ g.met.K.Portable.laws g.met.V.Portable.laws c.requires.fitting _ _ _ _ _ _ _ _ _ c.down.invariant.down (omega (arith, c.len.ensures.value, c.if-len-eq32.true)));
}

pub returns-then-nodes-eq0 : goal.returns-then-nodes-eq0
returns-then-nodes-eq0 g c = record {
  gives = rw (kept c.from-then-nodes-eq0.result (pos c.down.at) c.from-then-nodes-eq0.ensures c.from-then-nodes-eq0.type_inv)
      (is_past _ _ _ _ g.met.K.Portable.laws g.met.V.Portable.laws c.requires.fitting _ _ _ _ _ _ _ _ _ c.down.invariant.down c.if-nodes-eq0.true);
}

pub entries_in-requires-clause-inside : goal.entries_in-requires-clause-inside
entries_in-requires-clause-inside g c = leads_inside _ _ _ _ _ _ _ _ c.down.invariant.down.way c.down.invariant.down.leads

pub returns-in-Err : goal.returns-in-Err
returns-in-Err g c = record {
  gives = node_fails _ _ _ _ g.met.K.Portable.laws g.met.V.Portable.laws c.requires.fitting _ _ _ _ _ _ _ _ _ c.down.invariant.down _ c.in-Err.ensures.gives (λ h. cc (c.in-Err.ensures.accepts h));
}

pub bounds-buf-at : goal.bounds-buf-at
bounds-buf-at g c =
    let room = room_of _ _ _ g.met.K.Portable.laws g.met.V.Portable.laws c.requires.fitting in
    let inside = leads_inside _ _ _ _ _ _ _ _ c.down.invariant.down.way c.down.invariant.down.leads in
    let node = c.down.invariant.down.leads.room.room in
    omega (arith, room.eight, inside, node)

pub returns-then-buf-at-eq0 : goal.returns-then-buf-at-eq0
returns-then-buf-at-eq0 g c =
    let levels = c.down.invariant.down.way.levels in
    let less : length c.down.path.items < 32 = omega (arith, levels, c.len.ensures.value, c.if-len-eq32.false) in
    record {
      gives = leaf_found _ _ _ _ g.met.K.Portable.laws g.met.V.Portable.laws c.requires.fitting g.K.CheckBytes.Refuses g.V.CheckBytes.Refuses _ _ _ _ _ _ _ c.down.invariant c.if-nodes-eq0.false less _ c.if-buf-at-eq0.true c.in-Ok.ensures.gives c.in-Ok.ensures.counted c.in-Ok.ensures.few;
    }

pub child_before-requires-clause-inner : goal.child_before-requires-clause-inner
child_before-requires-clause-inner g c =
    let s = layout_of g.K.Portable.kind g.V.Portable.kind g.M.ArchivedMap.E in
    node_inside s _ _ _ 1 (inner_size s) (leads_inside _ _ _ _ _ _ _ _ c.down.invariant.down.way c.down.invariant.down.leads) (inner_of _ _ _ _ c.down.end c.down.at c.in-Ok.count c.in-Ok.ensures.gives c.if-buf-at-eq0.false)

pub returns-in-Err-child_before : goal.returns-in-Err-child_before
returns-in-Err-child_before g c = record {
  gives = child_fails _ _ _ _ g.met.K.Portable.laws g.met.V.Portable.laws c.requires.fitting _ _ _ _ _ _ _ _ _ c.down.invariant.down 0 _ (omega arith)
      (c.in-Err-child_before.ensures.gives _ (inner_of _ _ _ _ c.down.end c.down.at c.in-Ok.count c.in-Ok.ensures.gives c.if-buf-at-eq0.false)) (λ m hi h. cc (c.in-Err-child_before.ensures.accepts m hi h));
}

pub returns-in-Ok-None : goal.returns-in-Ok-None
returns-in-Ok-None g c =
    let levels = c.down.invariant.down.way.levels in
    let less : length c.down.path.items < 32 = omega (arith, levels, c.len.ensures.value, c.if-len-eq32.false) in
    record {
      gives = let child = rw c.in-Ok-None.field-0-is at c.in-Ok-None.ensures in none_found _ _ _ _ g.met.K.Portable.laws g.met.V.Portable.laws c.requires.fitting g.K.CheckBytes.Refuses g.V.CheckBytes.Refuses _ _ _ _ _ _ _ c.down.invariant c.if-nodes-eq0.false less _ c.push.ensures.items
          (inner_of _ _ _ _ c.down.end c.down.at c.in-Ok.count c.in-Ok.ensures.gives c.if-buf-at-eq0.false) child.leads (child.gives _ (inner_of _ _ _ _ c.down.end c.down.at c.in-Ok.count c.in-Ok.ensures.gives c.if-buf-at-eq0.false));
    }

pub down-smaller : goal.down-smaller
down-smaller g c =
    let room = room_of _ _ _ g.met.K.Portable.laws g.met.V.Portable.laws c.requires.fitting in
    let node = rw c.in-Ok-Some.field-0-is at c.in-Ok-Some.ensures.room in
    omega (arith, room.eight, node.room)

pub down-preserved : goal.down-preserved
down-preserved g c =
    let levels = c.down.invariant.down.way.levels in
    let less : length c.down.path.items < 32 = omega (arith, levels, c.len.ensures.value, c.if-len-eq32.false) in
    let child = rw c.in-Ok-Some.field-0-is at c.in-Ok-Some.ensures in
    goes_on _ _ _ _ g.met.K.Portable.laws g.met.V.Portable.laws c.requires.fitting g.K.CheckBytes.Refuses g.V.CheckBytes.Refuses _ _ _ _ _ _ _ c.down.invariant c.if-nodes-eq0.false less _ c.push.ensures.items
    (inner_of _ _ _ _ c.down.end c.down.at c.in-Ok.count c.in-Ok.ensures.gives c.if-buf-at-eq0.false) _ child.leads child.room (child.gives _ (inner_of _ _ _ _ c.down.end c.down.at c.in-Ok.count c.in-Ok.ensures.gives c.if-buf-at-eq0.false))
