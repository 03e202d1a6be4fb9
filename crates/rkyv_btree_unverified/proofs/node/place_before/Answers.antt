-- A place is before the buffer's start, or too far, or odd, or a good one.
use Rattle.std.proofs.Common.{w64}
use Rattle.std.proofs.lemmas.Int.{to_z-of_z}
use Rattle.std.specs.Prelude.{pos}
use Rattle.rkyv_btree_unverified.proofs.Places.{kept, before_start, behind_end, no_room, at_odd, at_good}
use Rattle.rkyv_btree_unverified.proofs.node.place_before.Goals as goal

pub returns-then-place-lt0-clause-gives : goal.returns-then-place-lt0-clause-gives
returns-then-place-lt0-clause-gives g c =
    before_start g.K.Portable.kind g.V.Portable.kind g.M.ArchivedMap.E c.args.hi _ _ (to_z-of_z w64 c.args.place c.ranges.place) c.if-place-lt0.true

pub returns-then-place-from-clause-gives : goal.returns-then-place-from-clause-gives
returns-then-place-from-clause-gives g c =
    behind_end g.K.Portable.kind g.V.Portable.kind g.M.ArchivedMap.E c.args.hi _ _ (to_z-of_z w64 c.args.place c.ranges.place) _ (kept c.from.result (pos c.args.hi) c.from.ensures c.from.type_inv) c.if-place-from.true

pub returns-then-hi-start-clause-gives : goal.returns-then-hi-start-clause-gives
returns-then-hi-start-clause-gives g c =
    no_room g.K.Portable.kind g.V.Portable.kind g.M.ArchivedMap.E c.args.hi _ _ (to_z-of_z w64 c.args.place c.ranges.place) c.if-place-lt0.false c.leaf_size.result c.leaf_size.ensures c.if-hi-start.true

pub returns-then-start-align-eq0-clause-gives : goal.returns-then-start-align-eq0-clause-gives
returns-then-start-align-eq0-clause-gives g c =
    at_good g.K.Portable.kind g.V.Portable.kind g.M.ArchivedMap.E c.args.hi _ _ (to_z-of_z w64 c.args.place c.ranges.place) c.if-place-lt0.false c.leaf_size.result c.leaf_size.ensures _ (kept c.from.result (pos c.args.hi) c.from.ensures c.from.type_inv) c.if-place-from.false c.if-hi-start.false c.align.result c.align.ensures.value c.if-start-align-eq0.true

pub returns-else-start-align-eq0-clause-gives : goal.returns-else-start-align-eq0-clause-gives
returns-else-start-align-eq0-clause-gives g c =
    at_odd g.K.Portable.kind g.V.Portable.kind g.M.ArchivedMap.E c.args.hi _ _ (to_z-of_z w64 c.args.place c.ranges.place) c.if-place-lt0.false c.leaf_size.result c.leaf_size.ensures _ (kept c.from.result (pos c.args.hi) c.from.ensures c.from.type_inv) c.if-place-from.false c.if-hi-start.false c.align.result c.align.ensures.value c.if-start-align-eq0.false
