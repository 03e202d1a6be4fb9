-- Keys compare as what their views read.
use Rattle.std.proofs.Common.{refl, rules}
use Rattle.rkyv_btree_format.proofs.Sizes.{room_of}
use Rattle.rkyv_btree_unverified.proofs.Promised.{by_key, entry_failed, entry_found}
use Rattle.rkyv_btree_view.specs.View.{view_value}
use Rattle.rkyv_btree_view.specs.laws.Cuts.{order_cuts}
use Rattle.rkyv_btree_unverified.proofs.unverified.Unverified.get_key_value.Goals as goal

pub returns-in-Err : goal.returns-in-Err
returns-in-Err g c =
    let E = g.M.ArchivedMap.E in let fits = c.args.self.fitting in
    let k = g.met.K.Portable.laws in let v = g.met.V.Portable.laws in
    let room = room_of g.K.Portable.kind g.V.Portable.kind E k v fits in
    entry_failed E c.args.self.buf.now g.K.CheckBytes.Refuses g.V.CheckBytes.Refuses k v (g.met.K.CheckBytes.refusals room.key) (g.met.V.CheckBytes.refusals room.value) fits c.args.self.pos (by_key g.K.Portable.kind (view_value c.args.key)) c.in-Err.refusal
    (c.in-Err.ensures.gives (λ q x. g.K.Portable.kind.order (view_value q) x) (λ q w r e. search rules)) c.in-Err.ensures.accepts

pub returns-in-Ok : goal.returns-in-Ok
returns-in-Ok g c =
    let E = g.M.ArchivedMap.E in let fits = c.args.self.fitting in
    let k = g.met.K.Portable.laws in let v = g.met.V.Portable.laws in
    let room = room_of g.K.Portable.kind g.V.Portable.kind E k v fits in
    let comparison = g.K.Portable.kind.order (view_value c.args.key) in
    entry_found E c.args.self.buf.now g.K.CheckBytes.Refuses g.V.CheckBytes.Refuses k v (g.met.K.CheckBytes.refusals room.key) (g.met.V.CheckBytes.refusals room.value) fits c.args.self.pos (by_key g.K.Portable.kind (view_value c.args.key)) c.in-Ok.found c.entry_found.result
    (c.in-Ok.ensures.gives (λ q x. g.K.Portable.kind.order (view_value q) x) (λ q w r e. search rules))
    c.entry_found.ensures.value c.entry_found.ensures.buffer c.entry_found.ensures.places
    (comparison, order_cuts g.met.K.ViewOrd.total (view_value c.args.key), λ p. refl)
