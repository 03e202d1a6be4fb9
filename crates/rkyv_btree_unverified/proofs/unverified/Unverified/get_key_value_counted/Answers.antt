-- What is found at a place is what the views there read.
use Rattle.std.proofs.Common.{rules}
use Rattle.rkyv_btree_format.proofs.Sizes.{room_of}
use Rattle.rkyv_btree_unverified.proofs.Promised.{by_comparison, entry_with_failed, entry_with_found}
use Rattle.rkyv_btree_walk.specs.Search.{shown_value}
use Rattle.rkyv_btree_unverified.proofs.unverified.Unverified.get_key_value_counted.Goals as goal

pub returns-in-Err-clause-gives : goal.returns-in-Err-clause-gives
returns-in-Err-clause-gives g c =
    let E = g.M.ArchivedMap.E in let fits = c.args.self.fitting in
    let k = g.met.K.Portable.laws in let v = g.met.V.Portable.laws in
    let room = room_of g.K.Portable.kind g.V.Portable.kind E k v fits in
    entry_with_failed E c.args.self.buf.now g.K.CheckBytes.Refuses g.V.CheckBytes.Refuses k v (g.met.K.CheckBytes.refusals room.key) (g.met.V.CheckBytes.refusals room.value) fits c.args.self.pos (by_comparison (λ q w o. g.C.Fn.post c.args.cmp (q, (w, tt)) o) (shown_value g.K.Portable.kind g.W.Shows) c.args.key.now) c.in-Err.refusal
    (λ f p. c.in-Err.ensures.gives f (λ q w r e. let by = p q w in search rules)) c.in-Err.ensures.accepts

pub returns-clause-gives : goal.returns-clause-gives
returns-clause-gives g c =
    let E = g.M.ArchivedMap.E in let fits = c.args.self.fitting in
    let k = g.met.K.Portable.laws in let v = g.met.V.Portable.laws in
    let room = room_of g.K.Portable.kind g.V.Portable.kind E k v fits in
    entry_with_found E c.args.self.buf.now g.K.CheckBytes.Refuses g.V.CheckBytes.Refuses k v (g.met.K.CheckBytes.refusals room.key) (g.met.V.CheckBytes.refusals room.value) fits c.args.self.pos (by_comparison (λ q w o. g.C.Fn.post c.args.cmp (q, (w, tt)) o) (shown_value g.K.Portable.kind g.W.Shows) c.args.key.now) c.in-Ok.found c.entry_found.result
    (λ f p. c.in-Ok.ensures.gives f (λ q w r e. let by = p q w in search rules))
    c.entry_found.ensures.value c.entry_found.ensures.buffer c.entry_found.ensures.places

pub returns-clause-counts : goal.returns-clause-counts
returns-clause-counts g c m h f p = c.in-Ok.ensures.counts m h f (λ q w r e. let by = p q w in search rules)

pub returns-clause-levels : goal.returns-clause-levels
returns-clause-levels g c f p = (c.in-Ok.found, c.in-Ok.ensures.deep f (λ q w r e. let by = p q w in search rules), c.entry_found.ensures.places)
