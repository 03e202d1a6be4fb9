-- Each node that is met is reached, and the way goes on beside its first key that reaches the query.
use Rattle.std.proofs.Common.{◌∙◌, ◌<◌, ◌≤◌, arith, drop, length, refl, sym, Some, None}
use Rattle.std.proofs.lemmas.List.{length-append, length-drop, length-take-le}
use Rattle.std.specs.Prelude.{pos}
use Rattle.rkyv_btree_format.proofs.Sizes.{room_of}
use Rattle.rkyv_btree_source.proofs.Faults.{passes_on}
use Rattle.rkyv_btree_source.proofs.Knowing.{of_same}
use Rattle.rkyv_btree_source.proofs.Parts.{first_byte}
use Rattle.rkyv_btree_source.proofs.Walks.{child_leads, child_never, entries_with, entry_never, low_put, node_count, node_never, node_part}
use Rattle.rkyv_btree_unverified.proofs.Entered.{one_less, is_deep, is_past, node_fails, child_fails}
use Rattle.rkyv_btree_unverified.proofs.Goes.{inner_of}
use Rattle.rkyv_btree_unverified.proofs.Places.{kept}
use Rattle.rkyv_btree_unverified.proofs.Sought.{seek_starts, key_fails, part_found, part_absent, seeks_on}
use Rattle.rkyv_btree_unverified.specs.Walks.{refused_key}
use Rattle.rkyv_btree_source.proofs.seek.seek.Goals as goal

pub down-init : goal.down-init
down-init g c =
    rw c.requires.empty (record {
      low = record { levels = omega arith; nodes = tt };
      place = c.requires.room;
      before = omega arith;
      down = λ b e.
          let leads = c.requires.leads b e in
          seek_starts g.K.Portable.kind g.V.Portable.kind g.M.ArchivedMap.E b c.args.pos _ c.args.nodes.now c.args.root leads.0 leads.1;
      most = omega arith;
      same = refl;
      left = omega arith;
      page = refl;
      room = refl;
    })

pub returns-then-len-eq32-clause-gives : goal.returns-then-len-eq32-clause-gives
returns-then-len-eq32-clause-gives g c b e =
    rw (kept c.from.result (pos c.down.at) c.from.ensures c.from.type_inv)
    (is_deep _ _ _ _ g.met.K.Portable.laws g.met.V.Portable.laws c.requires.fitting _ _ _ _ _ _ _ _ _ (c.down.invariant.down b e).down (omega (arith, c.len.ensures.value, c.if-len-eq32.true)))

pub returns-then-nodes-eq0-clause-gives : goal.returns-then-nodes-eq0-clause-gives
returns-then-nodes-eq0-clause-gives g c b e =
    rw (kept c.from-then-nodes-eq0.result (pos c.down.at) c.from-then-nodes-eq0.ensures c.from-then-nodes-eq0.type_inv)
    (is_past _ _ _ _ g.met.K.Portable.laws g.met.V.Portable.laws c.requires.fitting _ _ _ _ _ _ _ _ _ (c.down.invariant.down b e).down c.if-nodes-eq0.true)

pub returns-in-Err-count_in-clause-gives : goal.returns-in-Err-count_in-clause-gives
returns-in-Err-count_in-clause-gives g c b e =
    let K = g.K.Portable.kind in let V = g.V.Portable.kind in let E = g.M.ArchivedMap.E in
    let inv = c.down.invariant.down b e in
    let part = node_part K V E b c.args.pos c.down.path.items c.down.at c.down.end inv.down.way inv.down.leads c.down.page c.read.new.part c.node_len.result
    (omega (arith, c.node_len.ensures.most, c.requires.page, c.down.invariant.page)) c.node_len.ensures.inside (c.in-Ok.ensures.gives b (of_same b c.down.invariant.same e)) c.read.auto.part in
    let bad = c.in-Err-count_in.ensures.gives b part in
    node_fails _ _ _ _ g.met.K.Portable.laws g.met.V.Portable.laws c.requires.fitting _ _ _ _ _ _ _ _ _ inv.down _ bad (node_never K V E b c.down.end c.down.at _ bad)

pub returns-in-Err-seek_keys-clause-gives : goal.returns-in-Err-seek_keys-clause-gives
returns-in-Err-seek_keys-clause-gives g c b e =
    let K = g.K.Portable.kind in let V = g.V.Portable.kind in let E = g.M.ArchivedMap.E in
    let inv = c.down.invariant.down b e in
    let part = node_part K V E b c.args.pos c.down.path.items c.down.at c.down.end inv.down.way inv.down.leads c.down.page c.read.new.part c.node_len.result
    (omega (arith, c.node_len.ensures.most, c.requires.page, c.down.invariant.page)) c.node_len.ensures.inside (c.in-Ok.ensures.gives b (of_same b c.down.invariant.same e)) c.read.auto.part in
    let k = g.met.K.Portable.laws in let v = g.met.V.Portable.laws in
    let space = room_of K V E k v c.requires.fitting in
    let KR = g.K.CheckBytes.Refuses in let VR = g.V.CheckBytes.Refuses in
    let node = c.in-Ok-count_in.ensures.gives b part in
    passes_on _ _
    (λ r bad. key_fails K V E b c.args.pos _ g.met.K.Portable.laws g.met.V.Portable.laws c.requires.fitting g.K.CheckBytes.Refuses g.V.CheckBytes.Refuses _ _ _ _ _ inv _ (node_count K V E b _ _ _ node) node r bad (λ all. entry_never K V E b k v KR VR (g.met.K.CheckBytes.refusals space.key) (g.met.V.CheckBytes.refusals space.value) _ r (refused_key bad.2) (all bad.0 bad.1)))
    c.in-Err-seek_keys.fault (c.in-Err-seek_keys.ensures.gives b (of_same b c.in-Ok.ensures.same (of_same b c.down.invariant.same e)))

pub bounds-bytes-0 : goal.bounds-bytes-0
bounds-bytes-0 g c =
    let room = room_of _ _ _ g.met.K.Portable.laws g.met.V.Portable.laws c.requires.fitting in
    let some = length-take-le c.node_len.result c.down.page (omega (arith, c.node_len.ensures.most, c.requires.page, c.down.invariant.page)) in
    omega (arith, room.eight, c.node_len.ensures.leaf, c.read.auto.part, some)

pub returns-then-bytes-eq0-clause-gives : goal.returns-then-bytes-eq0-clause-gives
returns-then-bytes-eq0-clause-gives g c b e =
    let K = g.K.Portable.kind in let V = g.V.Portable.kind in let E = g.M.ArchivedMap.E in
    let inv = c.down.invariant.down b e in
    let part = node_part K V E b c.args.pos c.down.path.items c.down.at c.down.end inv.down.way inv.down.leads c.down.page c.read.new.part c.node_len.result
    (omega (arith, c.node_len.ensures.most, c.requires.page, c.down.invariant.page)) c.node_len.ensures.inside (c.in-Ok.ensures.gives b (of_same b c.down.invariant.same e)) c.read.auto.part in
    let some = length-take-le c.node_len.result c.down.page (omega (arith, c.node_len.ensures.most, c.requires.page, c.down.invariant.page)) in
    let room = room_of K V E g.met.K.Portable.laws g.met.V.Portable.laws c.requires.fitting in
    let byte = first_byte b c.read.new.part c.down.at part (omega (arith, room.eight, c.node_len.ensures.leaf, c.read.auto.part, some)) in
    let levels = c.down.invariant.low.levels in
    let less : length c.down.path.items < 32 = omega (arith, levels, c.len.ensures.value, c.if-len-eq32.false) in
    let node = c.in-Ok-count_in.ensures.gives b part in
    part_found K V E b c.args.pos _ g.met.K.Portable.laws g.met.V.Portable.laws c.requires.fitting g.K.CheckBytes.Refuses g.V.CheckBytes.Refuses _ _ _ _ _ inv _ (node_count K V E b _ _ _ node) c.if-nodes-eq0.false _
    c.in-Ok-seek_keys.ensures.within (c.in-Ok-seek_keys.ensures.gives b (of_same b c.in-Ok.ensures.same (of_same b c.down.invariant.same e))) less (byte ∙ c.if-bytes-eq0.true) c.in-Ok-count_in.ensures.few

pub returns-in-Err-child_in-clause-low : goal.returns-in-Err-child_in-clause-low
returns-in-Err-child_in-clause-low g c =
    let K = g.K.Portable.kind in let V = g.V.Portable.kind in let E = g.M.ArchivedMap.E in
    let levels = c.down.invariant.low.levels in
    let less : length c.down.path.items < 32 = omega (arith, levels, c.len.ensures.value, c.if-len-eq32.false) in
    low_put K V E c.args.pos c.down.path.items _ c.down.at c.in-Ok-seek_keys.next c.push.ensures.items less c.down.invariant.low (omega (arith, c.in-Ok-count_in.ensures.inner c.if-bytes-eq0.false, c.down.invariant.before))
    (omega (arith, c.in-Ok-seek_keys.ensures.within, c.in-Ok-count_in.ensures.few))

pub returns-in-Err-child_in-clause-gives : goal.returns-in-Err-child_in-clause-gives
returns-in-Err-child_in-clause-gives g c b e =
    let K = g.K.Portable.kind in let V = g.V.Portable.kind in let E = g.M.ArchivedMap.E in
    let inv = c.down.invariant.down b e in
    let part = node_part K V E b c.args.pos c.down.path.items c.down.at c.down.end inv.down.way inv.down.leads c.down.page c.read.new.part c.node_len.result
    (omega (arith, c.node_len.ensures.most, c.requires.page, c.down.invariant.page)) c.node_len.ensures.inside (c.in-Ok.ensures.gives b (of_same b c.down.invariant.same e)) c.read.auto.part in
    let some = length-take-le c.node_len.result c.down.page (omega (arith, c.node_len.ensures.most, c.requires.page, c.down.invariant.page)) in
    let room = room_of K V E g.met.K.Portable.laws g.met.V.Portable.laws c.requires.fitting in
    let byte = first_byte b c.read.new.part c.down.at part (omega (arith, room.eight, c.node_len.ensures.leaf, c.read.auto.part, some)) in
    let node = c.in-Ok-count_in.ensures.gives b part in
    let inner = inner_of K V E b c.down.end c.down.at c.in-Ok-count_in.count node (λ z. c.if-bytes-eq0.false (sym byte ∙ z)) in
    let low : c.in-Ok-seek_keys.next ≤ E = omega (arith, c.in-Ok-seek_keys.ensures.within, c.in-Ok-count_in.ensures.few) in
    let bad = c.in-Err-child_in.ensures.gives b c.down.end c.in-Ok-count_in.count part c.down.invariant.place node in
    child_fails _ _ _ _ g.met.K.Portable.laws g.met.V.Portable.laws c.requires.fitting _ _ _ _ _ _ _ _ _ inv.down c.in-Ok-seek_keys.next _ low bad (child_never K V E b c.down.end c.down.at c.in-Ok-seek_keys.next _ bad low)

pub returns-in-Ok-None-clause-low : goal.returns-in-Ok-None-clause-low
returns-in-Ok-None-clause-low g c =
    let K = g.K.Portable.kind in let V = g.V.Portable.kind in let E = g.M.ArchivedMap.E in
    let levels = c.down.invariant.low.levels in
    let less : length c.down.path.items < 32 = omega (arith, levels, c.len.ensures.value, c.if-len-eq32.false) in
    low_put K V E c.args.pos c.down.path.items _ c.down.at c.in-Ok-seek_keys.next c.push.ensures.items less c.down.invariant.low (omega (arith, c.in-Ok-count_in.ensures.inner c.if-bytes-eq0.false, c.down.invariant.before))
    (omega (arith, c.in-Ok-seek_keys.ensures.within, c.in-Ok-count_in.ensures.few))

pub returns-in-Ok-None-clause-gives : goal.returns-in-Ok-None-clause-gives
returns-in-Ok-None-clause-gives g c b e =
    let K = g.K.Portable.kind in let V = g.V.Portable.kind in let E = g.M.ArchivedMap.E in
    let inv = c.down.invariant.down b e in
    let part = node_part K V E b c.args.pos c.down.path.items c.down.at c.down.end inv.down.way inv.down.leads c.down.page c.read.new.part c.node_len.result
    (omega (arith, c.node_len.ensures.most, c.requires.page, c.down.invariant.page)) c.node_len.ensures.inside (c.in-Ok.ensures.gives b (of_same b c.down.invariant.same e)) c.read.auto.part in
    let some = length-take-le c.node_len.result c.down.page (omega (arith, c.node_len.ensures.most, c.requires.page, c.down.invariant.page)) in
    let room = room_of K V E g.met.K.Portable.laws g.met.V.Portable.laws c.requires.fitting in
    let byte = first_byte b c.read.new.part c.down.at part (omega (arith, room.eight, c.node_len.ensures.leaf, c.read.auto.part, some)) in
    let levels = c.down.invariant.low.levels in
    let less : length c.down.path.items < 32 = omega (arith, levels, c.len.ensures.value, c.if-len-eq32.false) in
    let node = c.in-Ok-count_in.ensures.gives b part in
    let inner = inner_of K V E b c.down.end c.down.at c.in-Ok-count_in.count node (λ z. c.if-bytes-eq0.false (sym byte ∙ z)) in
    let gives = c.in-Ok-None.ensures.gives b c.down.end c.in-Ok-count_in.count part c.down.invariant.place node in
    let child = rw c.in-Ok-None.field-0-is at gives in
    part_absent K V E b c.args.pos _ g.met.K.Portable.laws g.met.V.Portable.laws c.requires.fitting g.K.CheckBytes.Refuses g.V.CheckBytes.Refuses _ _ _ _ _ inv _ (node_count K V E b _ _ _ node) c.if-nodes-eq0.false _
    c.in-Ok-seek_keys.ensures.within (c.in-Ok-seek_keys.ensures.gives b (of_same b c.in-Ok.ensures.same (of_same b c.down.invariant.same e))) less (omega (arith, c.in-Ok-seek_keys.ensures.within, c.in-Ok-count_in.ensures.few)) _ c.push.ensures.items inner
    (child_leads K V E b c.down.end c.down.at c.in-Ok-seek_keys.next None inner child)

pub down-smaller : goal.down-smaller
down-smaller g c =
    let room = room_of _ _ _ g.met.K.Portable.laws g.met.V.Portable.laws c.requires.fitting in
    let below = rw c.in-Ok-Some.field-0-is at c.in-Ok-Some.ensures.room in
    omega (arith, room.eight, below.room)

pub down-preserved : goal.down-preserved
down-preserved g c =
    let K = g.K.Portable.kind in let V = g.V.Portable.kind in let E = g.M.ArchivedMap.E in
    let some = length-take-le c.node_len.result c.down.page (omega (arith, c.node_len.ensures.most, c.requires.page, c.down.invariant.page)) in
    let below = rw c.in-Ok-Some.field-0-is at c.in-Ok-Some.ensures.room in
    let levels = c.down.invariant.low.levels in
    let less : length c.down.path.items < 32 = omega (arith, levels, c.len.ensures.value, c.if-len-eq32.false) in
    record {
      low = low_put K V E c.args.pos c.down.path.items _ c.down.at c.in-Ok-seek_keys.next c.push.ensures.items less c.down.invariant.low (omega (arith, c.in-Ok-count_in.ensures.inner c.if-bytes-eq0.false, c.down.invariant.before))
          (omega (arith, c.in-Ok-seek_keys.ensures.within, c.in-Ok-count_in.ensures.few));
      place = below;
      before = omega (arith, c.in-Ok-count_in.ensures.inner c.if-bytes-eq0.false, c.down.invariant.before);
      down = λ b e.
          let K = g.K.Portable.kind in let V = g.V.Portable.kind in let E = g.M.ArchivedMap.E in
          let inv = c.down.invariant.down b e in
          let part = node_part K V E b c.args.pos c.down.path.items c.down.at c.down.end inv.down.way inv.down.leads c.down.page c.read.new.part c.node_len.result
          (omega (arith, c.node_len.ensures.most, c.requires.page, c.down.invariant.page)) c.node_len.ensures.inside (c.in-Ok.ensures.gives b (of_same b c.down.invariant.same e)) c.read.auto.part in
          let some = length-take-le c.node_len.result c.down.page (omega (arith, c.node_len.ensures.most, c.requires.page, c.down.invariant.page)) in
          let room = room_of K V E g.met.K.Portable.laws g.met.V.Portable.laws c.requires.fitting in
          let byte = first_byte b c.read.new.part c.down.at part (omega (arith, room.eight, c.node_len.ensures.leaf, c.read.auto.part, some)) in
          let node = c.in-Ok-count_in.ensures.gives b part in
          let inner = inner_of K V E b c.down.end c.down.at c.in-Ok-count_in.count node (λ z. c.if-bytes-eq0.false (sym byte ∙ z)) in
          let gives = c.in-Ok-Some.ensures.gives b c.down.end c.in-Ok-count_in.count part c.down.invariant.place node in
          let child = rw c.in-Ok-Some.field-0-is at gives in
          seeks_on K V E b c.args.pos _ g.met.K.Portable.laws g.met.V.Portable.laws c.requires.fitting g.K.CheckBytes.Refuses g.V.CheckBytes.Refuses _ _ _ _ _ inv _ (node_count K V E b _ _ _ node) c.if-nodes-eq0.false _
          c.in-Ok-seek_keys.ensures.within (c.in-Ok-seek_keys.ensures.gives b (of_same b c.in-Ok.ensures.same (of_same b c.down.invariant.same e))) less (omega (arith, c.in-Ok-seek_keys.ensures.within, c.in-Ok-count_in.ensures.few)) _ c.push.ensures.items inner _
          (child_leads K V E b c.down.end c.down.at c.in-Ok-seek_keys.next (Some _) inner child) below;
      most = omega (arith, one_less E c.down.nodes c.if-nodes-eq0.false, entries_with E c.down.path.items _ c.down.at c.in-Ok-seek_keys.next c.push.ensures.items, c.down.invariant.most);
      same = c.in-Ok-seek_keys.ensures.same ∙ (c.in-Ok.ensures.same ∙ c.down.invariant.same);
      left = omega (arith, c.in-Ok-seek_keys.ensures.left, c.in-Ok.ensures.left, c.down.invariant.left);
      page = omega (arith, length-append c.read.new.part (drop c.node_len.result c.down.page), length-drop c.node_len.result c.down.page, some, c.node_len.ensures.most, c.requires.page, c.read.auto.part, c.down.invariant.page);
      room = c.seek_keys.auto.room ∙ c.down.invariant.room;
    }

pub returns-then-bytes-eq0-clause-most : goal.returns-then-bytes-eq0-clause-most
returns-then-bytes-eq0-clause-most g c = omega (arith, one_less g.M.ArchivedMap.E c.down.nodes c.if-nodes-eq0.false, c.down.invariant.most, c.in-Ok-count_in.ensures.few)

pub returns-in-Ok-None-clause-most : goal.returns-in-Ok-None-clause-most
returns-in-Ok-None-clause-most g c =
    let E = g.M.ArchivedMap.E in
    omega (arith, one_less E c.down.nodes c.if-nodes-eq0.false, entries_with E c.down.path.items _ c.down.at c.in-Ok-seek_keys.next c.push.ensures.items, c.down.invariant.most)
