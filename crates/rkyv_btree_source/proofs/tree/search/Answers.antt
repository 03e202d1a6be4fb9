-- The search of the root is that of the map.
use Rattle.std.proofs.Common.{arith, length}
use Rattle.std.proofs.lemmas.Result.{IfErr-weaker, IfOk-weaker}
use Rattle.rkyv_btree_source.proofs.Faults.{caused_within, head_within, of_root}
use Rattle.rkyv_btree_source.proofs.Fitting.{empty_fits, lookup_fits}
use Rattle.rkyv_btree_source.proofs.Lacking.{lacks_by, read_lacks}
use Rattle.rkyv_btree_source.proofs.Spent.{spent_head, spent_lookup}
use Rattle.rkyv_btree_source.specs.Reads.{OwnBytes, Reads, reads_own, reads_root, takes_own}
use Rattle.rkyv_btree_source.proofs.Knowing.{of_same}
use Rattle.rkyv_btree_source.proofs.tree.search.Goals as goal

pub returns-in-Err-clause-caused : goal.returns-in-Err-clause-caused
returns-in-Err-clause-caused g c = c.in-Err.ensures.caused (length c.args.room.now)

pub returns-in-Err-clause-reach : goal.returns-in-Err-clause-reach
returns-in-Err-clause-reach g c = head_within _ _ _ c.in-Err.fault c.in-Err.ensures.left c.in-Err.ensures.lacks

pub returns-in-Ok-Some-clause-reach : goal.returns-in-Ok-Some-clause-reach
returns-in-Ok-Some-clause-reach g c = IfErr-weaker c.search_tree.result _ _ (λ fault h. caused_within c.args.pos 4294967295 0 (length c.args.room.now) c.search_tree.new.reader.left fault (omega (arith, c.ranges.pos.fits)) h) c.search_tree.ensures.caused

pub returns-in-Err-clause-known : goal.returns-in-Err-clause-known
returns-in-Err-clause-known g c b e = c.in-Err.ensures.known b e (length c.args.room.now)

pub returns-in-Ok-Some-clause-gives : goal.returns-in-Ok-Some-clause-gives
returns-in-Ok-Some-clause-gives g c b e f p =
    let head = rw c.in-Ok-Some.field-0-is at (c.in-Ok-Some.ensures.gives b e) in
    of_root g.K.Portable.kind g.V.Portable.kind g.M.ArchivedMap.E b (f c.args.key.now) g.K.CheckBytes.Refuses g.V.CheckBytes.Refuses c.args.pos c.in-Ok-Some.root head c.search_tree.result (c.search_tree.ensures.gives b (of_same b c.in-Ok-Some.ensures.same e) f p)

pub returns-in-Err-clause-spent : goal.returns-in-Err-clause-spent
returns-in-Err-clause-spent g c = spent_head g.M.ArchivedMap.E _ _ c.args.pos c.in-Err.ensures.spent

pub returns-in-Ok-None-clause-spent : goal.returns-in-Ok-None-clause-spent
returns-in-Ok-None-clause-spent g c = spent_head g.M.ArchivedMap.E _ _ c.args.pos c.in-Ok-None.ensures.spent

pub returns-in-Ok-Some-clause-spent : goal.returns-in-Ok-Some-clause-spent
returns-in-Ok-Some-clause-spent g c = spent_lookup g.M.ArchivedMap.E _ _ _ c.args.pos c.in-Ok-Some.ensures.spent c.search_tree.ensures.spent

pub returns-in-Err-clause-lacks : goal.returns-in-Err-clause-lacks
returns-in-Err-clause-lacks g c b e f p =
    let K = g.K.Portable.kind in let V = g.V.Portable.kind in let E = g.M.ArchivedMap.E in
    read_lacks K V E b g.K.Fetch.lengths g.V.Fetch.lengths (Reads K V E b g.K.Fetch.lengths g.V.Fetch.lengths (f c.args.key.now) c.args.pos) 0 OwnBytes reads_own _ _ _ (omega arith) c.in-Err.fault c.in-Err.ensures.lacks

pub returns-in-Ok-None-clause-takes : goal.returns-in-Ok-None-clause-takes
returns-in-Ok-None-clause-takes g c b e f p =
    let head = rw c.in-Ok-None.field-0-is at (c.in-Ok-None.ensures.gives b e) in
    (8, takes_own head, c.in-Ok-None.ensures.takes)

pub returns-in-Ok-Some-clause-takes : goal.returns-in-Ok-Some-clause-takes
returns-in-Ok-Some-clause-takes g c b e f p =
    let head = rw c.in-Ok-Some.field-0-is at (c.in-Ok-Some.ensures.gives b e) in
    let tree = c.search_tree.ensures.takes b (of_same b c.in-Ok-Some.ensures.same e) f p c.args.pos 8 (reads_root head) in
    IfOk-weaker c.search_tree.result _ _ (λ found h. let last = h.2 in (h.0, h.1, omega (arith, c.in-Ok-Some.ensures.takes, last))) tree

pub returns-in-Ok-Some-clause-lacks : goal.returns-in-Ok-Some-clause-lacks
returns-in-Ok-Some-clause-lacks g c b e f p =
    let head = rw c.in-Ok-Some.field-0-is at (c.in-Ok-Some.ensures.gives b e) in
    let tree = c.search_tree.ensures.lacks b (of_same b c.in-Ok-Some.ensures.same e) f p c.args.pos 8 (reads_root head) in
    IfErr-weaker c.search_tree.result _ _
    (λ fault h. lacks_by g.K.Portable.kind g.V.Portable.kind g.M.ArchivedMap.E b g.K.Fetch.lengths g.V.Fetch.lengths fault (Reads g.K.Portable.kind g.V.Portable.kind g.M.ArchivedMap.E b g.K.Fetch.lengths g.V.Fetch.lengths (f c.args.key.now) c.args.pos) 0 _ _ _ (omega (arith, c.in-Ok-Some.ensures.takes)) h) tree

pub returns-in-Ok-None-clause-fits : goal.returns-in-Ok-None-clause-fits
returns-in-Ok-None-clause-fits g c b e f p =
    let head = rw c.in-Ok-None.field-0-is at (c.in-Ok-None.ensures.gives b e) in
    empty_fits g.K.Portable.kind g.V.Portable.kind g.M.ArchivedMap.E b g.K.Fetch.lengths g.V.Fetch.lengths (f c.args.key.now) c.args.pos (length c.args.room.now) head

pub returns-in-Ok-Some-clause-fits : goal.returns-in-Ok-Some-clause-fits
returns-in-Ok-Some-clause-fits g c b e f p =
    let head = rw c.in-Ok-Some.field-0-is at (c.in-Ok-Some.ensures.gives b e) in
    IfOk-weaker c.search_tree.result _ _ (λ found h. lookup_fits g.K.Portable.kind g.V.Portable.kind g.M.ArchivedMap.E b g.K.Fetch.lengths g.V.Fetch.lengths (f c.args.key.now) c.args.pos c.in-Ok-Some.root (length c.args.room.now) head h)
    (c.search_tree.ensures.fits b (of_same b c.in-Ok-Some.ensures.same e) f p)
