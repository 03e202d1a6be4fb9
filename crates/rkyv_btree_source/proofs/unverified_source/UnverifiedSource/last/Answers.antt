-- The views show the entry that was brought, which is the last of the list.
use Rattle.std.proofs.Common.{◌∙◌, ap, drop, take, None, Some}
use Rattle.rkyv_btree_source.proofs.Lasts.{last_entry, last_of_map}
use Rattle.rkyv_btree_source.proofs.Ranging.{both_same}
use Rattle.rkyv_btree_source.proofs.unverified_source.UnverifiedSource.last.Goals as goal

pub returns-in-Ok-None-clause-reads : goal.returns-in-Ok-None-clause-reads
returns-in-Ok-None-clause-reads g c b e =
    let K = g.K.Portable.kind in let V = g.V.Portable.kind in let E = g.M.ArchivedMap.E in
    let at = c.args.self.now.pos in
    let last = last_entry K V E b at None (rw c.in-Ok-None.field-0-is at (c.in-Ok-None.ensures.brings b e)) in
    record { last = last; on_map = last_of_map K V E b g.met.K.Portable.laws g.met.V.Portable.laws at None last; refused = tt }

pub returns-in-Ok-Some-clause-reads : goal.returns-in-Ok-Some-clause-reads
returns-in-Ok-Some-clause-reads g c b e =
    let K = g.K.Portable.kind in let V = g.V.Portable.kind in let E = g.M.ArchivedMap.E in
    let at = c.args.self.now.pos in
    let cut = c.in-Ok-Some.entry.cut in
    let room = c.bring_last.new.room in
    let brings = rw c.in-Ok-Some.field-0-is at (c.in-Ok-Some.ensures.brings b e) in
    let reads = brings.2 in
    let key = ap (λ l. K.read l c.at-key.result.pos) (c.at-key.ensures.buffer ∙ c.split_at.ensures.front) ∙ (ap (λ p. K.read (take cut room) p) c.at-key.ensures.position ∙ reads.key) in
    let value = ap (λ l. V.read l c.at-value.result.pos) (c.at-value.ensures.buffer ∙ c.split_at.ensures.back) ∙ (ap (λ p. V.read (drop cut room) p) c.at-value.ensures.position ∙ reads.value) in
    let last = ap Some (both_same key value) ∙ last_entry K V E b at (Some brings.0) brings.1 in
    record { last = last; on_map = last_of_map K V E b g.met.K.Portable.laws g.met.V.Portable.laws at _ last; refused = tt }
