-- The search of a node goes on as one in the source's bytes.
use Rattle.std.proofs.Common.{ap, refl, Ok, Err, Some, None}
use Rattle.rkyv_btree_source.proofs.Faults.{keys_fault}
use Rattle.rkyv_btree_source.proofs.Fitting.{stop_fits}
use Rattle.rkyv_btree_source.proofs.Taking.{down_takes, hit_takes, miss_takes}
use Rattle.rkyv_btree_source.specs.mirror.Found.{halt_of}
use Rattle.rkyv_btree_unverified.proofs.Goes.{goes_below, hits, node_refuses}
use Rattle.rkyv_btree_source.proofs.search.search_bytes.Goals as goal

pub returns-in-Err-clause-gives : goal.returns-in-Err-clause-gives
returns-in-Err-clause-gives g c b e f p m =
    node_refuses g.K.Portable.kind g.V.Portable.kind g.M.ArchivedMap.E b (f c.args.key.now) g.K.CheckBytes.Refuses g.V.CheckBytes.Refuses m c.args.hi c.args.node _ (c.in-Err.ensures.gives b (c.requires.part b e))

pub returns-in-Err-search_keys-clause-gives : goal.returns-in-Err-search_keys-clause-gives
returns-in-Err-search_keys-clause-gives g c b e f p m =
    keys_fault g.K.Portable.kind g.V.Portable.kind g.M.ArchivedMap.E b (f c.args.key.now) g.K.CheckBytes.Refuses g.V.CheckBytes.Refuses m c.args.hi c.args.node c.in-Ok.count (c.in-Ok.ensures.gives b (c.requires.part b e)) c.in-Err-search_keys.fault (c.in-Err-search_keys.ensures.gives b e f p)

pub returns-in-Ok-At-clause-gives : goal.returns-in-Ok-At-clause-gives
returns-in-Ok-At-clause-gives g c b e f p m =
    hits g.K.Portable.kind g.V.Portable.kind g.M.ArchivedMap.E b (f c.args.key.now) g.K.CheckBytes.Refuses g.V.CheckBytes.Refuses m c.args.hi c.args.node c.in-Ok.count (c.in-Ok.ensures.gives b (c.requires.part b e)) c.in-Ok-At.index (halt_of c.in-Ok-At.field-0) (ap halt_of c.in-Ok-At.field-0-is) (c.in-Ok-At.ensures.gives b e f p)

pub returns-in-Ok-None-clause-gives : goal.returns-in-Ok-None-clause-gives
returns-in-Ok-None-clause-gives g c b e f p m =
    let node = c.in-Ok.ensures.gives b (c.requires.part b e) in
    let child = rw c.in-Ok-None.field-0-is at (c.in-Ok-None.ensures.gives b c.args.hi c.in-Ok.count (c.requires.part b e) c.requires.room node) in
    goes_below g.K.Portable.kind g.V.Portable.kind g.M.ArchivedMap.E b (f c.args.key.now) g.K.CheckBytes.Refuses g.V.CheckBytes.Refuses m c.args.hi c.args.node c.in-Ok.count node c.in-Ok-Before.i (halt_of c.in-Ok-Before.field-0) (ap halt_of c.in-Ok-Before.field-0-is) (c.in-Ok-Before.ensures.gives b e f p) (Ok None) (Ok None) child refl

pub returns-in-Ok-Some-clause-gives : goal.returns-in-Ok-Some-clause-gives
returns-in-Ok-Some-clause-gives g c b e f p m r rest =
    let node = c.in-Ok.ensures.gives b (c.requires.part b e) in
    let child = rw c.in-Ok-Some.field-0-is at (c.in-Ok-Some.ensures.gives b c.args.hi c.in-Ok.count (c.requires.part b e) c.requires.room node) in
    goes_below g.K.Portable.kind g.V.Portable.kind g.M.ArchivedMap.E b (f c.args.key.now) g.K.CheckBytes.Refuses g.V.CheckBytes.Refuses m c.args.hi c.args.node c.in-Ok.count node c.in-Ok-Before.i (halt_of c.in-Ok-Before.field-0) (ap halt_of c.in-Ok-Before.field-0-is) (c.in-Ok-Before.ensures.gives b e f p) (Ok (Some c.in-Ok-Some.below)) r child rest

pub returns-in-Err-child_in-clause-gives : goal.returns-in-Err-child_in-clause-gives
returns-in-Err-child_in-clause-gives g c b e f p m =
    let node = c.in-Ok.ensures.gives b (c.requires.part b e) in
    goes_below g.K.Portable.kind g.V.Portable.kind g.M.ArchivedMap.E b (f c.args.key.now) g.K.CheckBytes.Refuses g.V.CheckBytes.Refuses m c.args.hi c.args.node c.in-Ok.count node c.in-Ok-Before.i (halt_of c.in-Ok-Before.field-0) (ap halt_of c.in-Ok-Before.field-0-is) (c.in-Ok-Before.ensures.gives b e f p) (Err c.in-Err-child_in.refusal) (Err c.in-Err-child_in.refusal) (c.in-Err-child_in.ensures.gives b c.args.hi c.in-Ok.count (c.requires.part b e) c.requires.room node) refl

pub returns-in-Err-search_keys-clause-lacks : goal.returns-in-Err-search_keys-clause-lacks
returns-in-Err-search_keys-clause-lacks g c b e f p = c.in-Err-search_keys.ensures.lacks b e f p c.args.hi (c.in-Ok.ensures.gives b (c.requires.part b e))

pub returns-in-Ok-At-clause-takes : goal.returns-in-Ok-At-clause-takes
returns-in-Ok-At-clause-takes g c b e f p =
    hit_takes g.K.Portable.kind g.V.Portable.kind g.M.ArchivedMap.E b g.K.Fetch.lengths g.V.Fetch.lengths (f c.args.key.now) c.args.hi c.args.node c.in-Ok.count _ _ (c.in-Ok.ensures.gives b (c.requires.part b e))
    c.in-Ok-At.field-0 (c.in-Ok-At.ensures.takes b e f p) c.in-Ok-At.index c.in-Ok-At.value c.in-Ok-At.field-0-is (record { node = c.args.node; index = c.in-Ok-At.index; value = c.in-Ok-At.value }) refl

pub returns-in-Ok-None-clause-takes : goal.returns-in-Ok-None-clause-takes
returns-in-Ok-None-clause-takes g c b e f p =
    let node = c.in-Ok.ensures.gives b (c.requires.part b e) in
    miss_takes g.K.Portable.kind g.V.Portable.kind g.M.ArchivedMap.E b g.K.Fetch.lengths g.V.Fetch.lengths (f c.args.key.now) c.args.hi c.args.node c.in-Ok.count _ _ node
    c.in-Ok-Before.field-0 (c.in-Ok-Before.ensures.takes b e f p) c.in-Ok-Before.i c.in-Ok-Before.field-0-is c.in-Ok-None.field-0 c.in-Ok-None.field-0-is (c.in-Ok-None.ensures.gives b c.args.hi c.in-Ok.count (c.requires.part b e) c.requires.room node)

pub returns-in-Ok-Some-clause-takes : goal.returns-in-Ok-Some-clause-takes
returns-in-Ok-Some-clause-takes g c b e f p =
    let node = c.in-Ok.ensures.gives b (c.requires.part b e) in
    down_takes g.K.Portable.kind g.V.Portable.kind g.M.ArchivedMap.E b g.K.Fetch.lengths g.V.Fetch.lengths (f c.args.key.now) c.args.hi c.args.node c.in-Ok.count _ _ node
    c.in-Ok-Before.field-0 (c.in-Ok-Before.ensures.takes b e f p) c.in-Ok-Before.i c.in-Ok-Before.field-0-is c.in-Ok-Some.field-0 c.in-Ok-Some.below c.in-Ok-Some.field-0-is (c.in-Ok-Some.ensures.gives b c.args.hi c.in-Ok.count (c.requires.part b e) c.requires.room node)

pub returns-in-Ok-At-clause-fits : goal.returns-in-Ok-At-clause-fits
returns-in-Ok-At-clause-fits g c b e f p =
    stop_fits g.K.Portable.kind g.V.Portable.kind g.M.ArchivedMap.E b g.K.Fetch.lengths g.V.Fetch.lengths (f c.args.key.now) c.args.hi c.args.node c.in-Ok.count _ _ _ (c.in-Ok.ensures.gives b (c.requires.part b e))
    c.in-Ok-At.field-0 _ c.in-Ok-At.field-0-is (c.in-Ok-At.ensures.takes b e f p) (c.in-Ok-At.ensures.fits b e (f c.args.key.now))

pub returns-in-Ok-None-clause-fits : goal.returns-in-Ok-None-clause-fits
returns-in-Ok-None-clause-fits g c b e f p =
    stop_fits g.K.Portable.kind g.V.Portable.kind g.M.ArchivedMap.E b g.K.Fetch.lengths g.V.Fetch.lengths (f c.args.key.now) c.args.hi c.args.node c.in-Ok.count _ _ _ (c.in-Ok.ensures.gives b (c.requires.part b e))
    c.in-Ok-Before.field-0 _ c.in-Ok-Before.field-0-is (c.in-Ok-Before.ensures.takes b e f p) (c.in-Ok-Before.ensures.fits b e (f c.args.key.now))

pub returns-in-Ok-Some-clause-fits : goal.returns-in-Ok-Some-clause-fits
returns-in-Ok-Some-clause-fits g c b e f p =
    stop_fits g.K.Portable.kind g.V.Portable.kind g.M.ArchivedMap.E b g.K.Fetch.lengths g.V.Fetch.lengths (f c.args.key.now) c.args.hi c.args.node c.in-Ok.count _ _ _ (c.in-Ok.ensures.gives b (c.requires.part b e))
    c.in-Ok-Before.field-0 _ c.in-Ok-Before.field-0-is (c.in-Ok-Before.ensures.takes b e f p) (c.in-Ok-Before.ensures.fits b e (f c.args.key.now))
