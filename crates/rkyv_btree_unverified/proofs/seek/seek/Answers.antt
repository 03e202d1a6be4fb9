-- Each node that is met is reached, and the way goes on beside its first key that reaches the query.
use Rattle.std.proofs.Common.{◌<◌, length, arith}
use Rattle.std.specs.Prelude.{pos}
use Rattle.rkyv_btree_format.proofs.Sizes.{room_of}
use Rattle.rkyv_btree_format.specs.Layout.{layout_of, inner_size}
use Rattle.rkyv_btree_unverified.proofs.Chains.{node_inside}
use Rattle.rkyv_btree_unverified.proofs.Entered.{leads_inside, is_deep, is_past, node_fails, child_fails}
use Rattle.rkyv_btree_unverified.proofs.Goes.{inner_of}
use Rattle.rkyv_btree_unverified.proofs.Places.{kept}
use Rattle.rkyv_btree_unverified.proofs.Sought.{seek_starts, key_fails, part_found, part_absent, seeks_on}
use Rattle.rkyv_btree_unverified.proofs.seek.seek.Goals as goal

pub down-init : goal.down-init
down-init g c = rw c.requires.empty (seek_starts g.K.Portable.kind g.V.Portable.kind g.M.ArchivedMap.E c.args.buf.now c.args.pos _ c.args.nodes.now c.args.root c.requires.leads c.requires.few)

pub returns-then-len-eq32 : goal.returns-then-len-eq32
returns-then-len-eq32 g c = record {
  gives = rw (kept c.from.result (pos c.down.at) c.from.ensures c.from.type_inv)
      (is_deep _ _ _ _ g.met.K.Portable.laws g.met.V.Portable.laws c.requires.fitting _ _ _ _ _ _ _ _ _ c.down.invariant.down (omega (arith, c.len.ensures.value, c.if-len-eq32.true)));
}

pub returns-then-nodes-eq0 : goal.returns-then-nodes-eq0
returns-then-nodes-eq0 g c = record {
  gives = rw (kept c.from-then-nodes-eq0.result (pos c.down.at) c.from-then-nodes-eq0.ensures c.from-then-nodes-eq0.type_inv)
      (is_past _ _ _ _ g.met.K.Portable.laws g.met.V.Portable.laws c.requires.fitting _ _ _ _ _ _ _ _ _ c.down.invariant.down c.if-nodes-eq0.true);
}

pub entries_in-requires-clause-inside : goal.entries_in-requires-clause-inside
entries_in-requires-clause-inside g c = leads_inside _ _ _ _ _ _ _ _ c.down.invariant.down.way c.down.invariant.down.leads

pub returns-in-Err : goal.returns-in-Err
returns-in-Err g c = record {
  gives = node_fails _ _ _ _ g.met.K.Portable.laws g.met.V.Portable.laws c.requires.fitting _ _ _ _ _ _ _ _ _ c.down.invariant.down _ c.in-Err.ensures.gives (λ h. cc (c.in-Err.ensures.accepts h));
}

pub seek_keys-requires-clause-inside : goal.seek_keys-requires-clause-inside
seek_keys-requires-clause-inside g c =
    let inside = leads_inside _ _ _ _ _ _ _ _ c.down.invariant.down.way c.down.invariant.down.leads in
    let node = c.down.invariant.down.leads.room.room in
    omega (arith, inside, node)

pub returns-in-Err-seek_keys : goal.returns-in-Err-seek_keys
returns-in-Err-seek_keys g c = record {
  gives = key_fails _ _ _ _ _ _ g.met.K.Portable.laws g.met.V.Portable.laws c.requires.fitting g.K.CheckBytes.Refuses g.V.CheckBytes.Refuses _ _ _ _ _ c.down.invariant _ c.in-Ok.ensures.counted c.in-Ok.ensures.gives _ c.in-Err-seek_keys.ensures.refused
      (λ h. cc (c.in-Err-seek_keys.ensures.accepts h));
}

pub bounds-buf-at : goal.bounds-buf-at
bounds-buf-at g c =
    let room = room_of _ _ _ g.met.K.Portable.laws g.met.V.Portable.laws c.requires.fitting in
    let inside = leads_inside _ _ _ _ _ _ _ _ c.down.invariant.down.way c.down.invariant.down.leads in
    let node = c.down.invariant.down.leads.room.room in
    omega (arith, room.eight, inside, node)

pub returns-then-buf-at-eq0 : goal.returns-then-buf-at-eq0
returns-then-buf-at-eq0 g c =
    let levels = c.down.invariant.down.way.levels in
    let less : length c.down.path.items < 32 = omega (arith, levels, c.len.ensures.value, c.if-len-eq32.false) in
    record {
      gives = part_found _ _ _ _ _ _ g.met.K.Portable.laws g.met.V.Portable.laws c.requires.fitting g.K.CheckBytes.Refuses g.V.CheckBytes.Refuses _ _ _ _ _ c.down.invariant _ c.in-Ok.ensures.counted c.if-nodes-eq0.false _
          c.in-Ok-seek_keys.ensures.within c.in-Ok-seek_keys.ensures.first less c.if-buf-at-eq0.true c.in-Ok.ensures.few;
    }

pub child_before-requires-clause-inner : goal.child_before-requires-clause-inner
child_before-requires-clause-inner g c =
    let s = layout_of g.K.Portable.kind g.V.Portable.kind g.M.ArchivedMap.E in
    node_inside s _ _ _ 1 (inner_size s) (leads_inside _ _ _ _ _ _ _ _ c.down.invariant.down.way c.down.invariant.down.leads) (inner_of _ _ _ _ c.down.end c.down.at c.in-Ok.count c.in-Ok.ensures.gives c.if-buf-at-eq0.false)

pub returns-in-Err-child_before : goal.returns-in-Err-child_before
returns-in-Err-child_before g c = record {
  gives = child_fails _ _ _ _ g.met.K.Portable.laws g.met.V.Portable.laws c.requires.fitting _ _ _ _ _ _ _ _ _ c.down.invariant.down c.in-Ok-seek_keys.next _ (omega (arith, c.in-Ok-seek_keys.ensures.within, c.in-Ok.ensures.few))
      (c.in-Err-child_before.ensures.gives _ (inner_of _ _ _ _ c.down.end c.down.at c.in-Ok.count c.in-Ok.ensures.gives c.if-buf-at-eq0.false)) (λ m hi h. cc (c.in-Err-child_before.ensures.accepts m hi h));
}

pub returns-in-Ok-None : goal.returns-in-Ok-None
returns-in-Ok-None g c =
    let levels = c.down.invariant.down.way.levels in
    let less : length c.down.path.items < 32 = omega (arith, levels, c.len.ensures.value, c.if-len-eq32.false) in
    record {
      gives = part_absent _ _ _ _ _ _ g.met.K.Portable.laws g.met.V.Portable.laws c.requires.fitting g.K.CheckBytes.Refuses g.V.CheckBytes.Refuses _ _ _ _ _ c.down.invariant _ c.in-Ok.ensures.counted c.if-nodes-eq0.false _
          c.in-Ok-seek_keys.ensures.within c.in-Ok-seek_keys.ensures.first less (omega (arith, c.in-Ok-seek_keys.ensures.within, c.in-Ok.ensures.few)) _ c.push.ensures.items
          (inner_of _ _ _ _ c.down.end c.down.at c.in-Ok.count c.in-Ok.ensures.gives c.if-buf-at-eq0.false) (rw c.in-Ok-None.field-0-is at c.in-Ok-None.ensures.leads);
    }

pub down-smaller : goal.down-smaller
down-smaller g c =
    let room = room_of _ _ _ g.met.K.Portable.laws g.met.V.Portable.laws c.requires.fitting in
    let node = rw c.in-Ok-Some.field-0-is at c.in-Ok-Some.ensures.room in
    omega (arith, room.eight, node.room)

pub down-preserved : goal.down-preserved
down-preserved g c =
    let levels = c.down.invariant.down.way.levels in
    let less : length c.down.path.items < 32 = omega (arith, levels, c.len.ensures.value, c.if-len-eq32.false) in
    seeks_on _ _ _ _ _ _ g.met.K.Portable.laws g.met.V.Portable.laws c.requires.fitting g.K.CheckBytes.Refuses g.V.CheckBytes.Refuses _ _ _ _ _ c.down.invariant _ c.in-Ok.ensures.counted c.if-nodes-eq0.false _
    c.in-Ok-seek_keys.ensures.within c.in-Ok-seek_keys.ensures.first less (omega (arith, c.in-Ok-seek_keys.ensures.within, c.in-Ok.ensures.few)) _ c.push.ensures.items
    (inner_of _ _ _ _ c.down.end c.down.at c.in-Ok.count c.in-Ok.ensures.gives c.if-buf-at-eq0.false) _ (rw c.in-Ok-Some.field-0-is at c.in-Ok-Some.ensures.leads) (rw c.in-Ok-Some.field-0-is at c.in-Ok-Some.ensures.room)
