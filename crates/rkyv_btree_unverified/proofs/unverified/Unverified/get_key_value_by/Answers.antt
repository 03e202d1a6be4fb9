-- A native value compares as at the positions of keys.
use Rattle.std.proofs.Common.{rules}
use Rattle.rkyv_btree_format.proofs.Sizes.{room_of}
use Rattle.rkyv_btree_unverified.proofs.Promised.{by_native, entry_failed, entry_found}
use Rattle.rkyv_btree_view.proofs.LookedUp.{natives_agree}
use Rattle.rkyv_btree_unverified.proofs.unverified.Unverified.get_key_value_by.Goals as goal

pub returns-in-Err : goal.returns-in-Err
returns-in-Err g c =
    let E = g.M.ArchivedMap.E in let fits = c.args.self.fitting in
    let k = g.met.K.Portable.laws in let v = g.met.V.Portable.laws in
    let room = room_of g.K.Portable.kind g.V.Portable.kind E k v fits in
    entry_failed E c.args.self.buf.now g.K.CheckBytes.Refuses g.V.CheckBytes.Refuses k v (g.met.K.CheckBytes.refusals room.key) (g.met.V.CheckBytes.refusals room.value) fits c.args.self.pos (by_native g.K.Portable.kind g.K.CompareWith.compared_at c.args.key) c.in-Err.refusal
    (λ f p. c.in-Err.ensures.gives f (λ q w r e. let same = p q.now w.buf.now w.pos in search rules)) c.in-Err.ensures.accepts

pub returns : goal.returns
returns g c =
    let E = g.M.ArchivedMap.E in let fits = c.args.self.fitting in
    let k = g.met.K.Portable.laws in let v = g.met.V.Portable.laws in
    let room = room_of g.K.Portable.kind g.V.Portable.kind E k v fits in
    let key = c.args.key in
    let law = g.met.K.CompareWith.compares in
    entry_found E c.args.self.buf.now g.K.CheckBytes.Refuses g.V.CheckBytes.Refuses k v (g.met.K.CheckBytes.refusals room.key) (g.met.V.CheckBytes.refusals room.value) fits c.args.self.pos (by_native g.K.Portable.kind g.K.CompareWith.compared_at c.args.key) c.in-Ok.found c.entry_found.result
    (λ f p. c.in-Ok.ensures.gives f (λ q w r e. let same = p q.now w.buf.now w.pos in search rules))
    c.entry_found.ensures.value c.entry_found.ensures.buffer c.entry_found.ensures.places
    (λ f p. (law.compared key, law.cuts key, natives_agree law f p key c.args.self.buf.now))
