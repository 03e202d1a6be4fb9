-- The next keys are searched, and the others are left.
use Rattle.std.proofs.Common.{◌≡◌, ◌+◌, ◌<◌, ◌≤◌, ◌∙◌, ◌++◌, ap, arith, drop, length, map, sym, take}
use Rattle.std.proofs.lemmas.List.{length-drop}
use Rattle.std.specs.Option.{option_map}
use Rattle.std.specs.Prelude.{Option}
use Rattle.rkyv_btree_format.specs.Read.{entry_at}
use Rattle.rkyv_btree_walk.specs.Ends.{end_of}
use Rattle.rkyv_btree_walk.specs.declared.many.Way.{Way}
use Rattle.rkyv_btree_walk.specs.declared.many.Way.TheVariants.{On}
use Rattle.rkyv_btree_view.proofs.Held.{filled}
use Rattle.rkyv_btree_view.proofs.ManyFound.{searched_stand}
use Rattle.rkyv_btree_view.specs.ManyLookups.{entry_looked_up}
use Rattle.rkyv_btree_view.proofs.get_many.EntryLookups.refill.Goals as goal

pub invariant_of-self : goal.invariant_of-self
invariant_of-self g c =
    let self = c.args.self.now in
    let back = ap length c.split_at.ensures.back ∙ length-drop c.min-count.result self.keys.now in
    let within : 0 + c.min-count.result ≤ 16 = omega (arith, c.min-count.ensures) in
    let short : c.min-count.result + length c.split_at.result.1.now < 18446744073709551616 = omega (arith, back, c.min-count.ensures, self.short) in
    record {
      within = within;
      short = short;
      stand = λ i low high. searched_stand _ _ _ _ _ _ _ self.keys.now c.ways_of-self.ensures i (omega (arith, high, c.min-count.ensures)) (omega (arith, high, c.min-count.ensures));
    }

pub returns-clause-same : goal.returns-clause-same
returns-clause-same g c =
    let K = g.K.Portable.kind in
    let V = g.V.Portable.kind in
    let E = g.M.ArchivedMap.E in
    let self = c.args.self.now in
    let b = self.map.buf.now in
    let find = entry_looked_up K V E g.K.CompareWith.compared_at b self.map.pos in
    let held : Way → Option (K.Value × V.Value) = λ way. option_map (entry_at K V E b) (end_of way) in
    let none : self.left ≡ 0 = omega (arith, c.if-self-gt0.false) in
    ap (λ rest. map held (take c.min-count.result c.ways_of-self.result) ++ map find rest) c.split_at.ensures.back
    ∙ filled held (On 0) find self.keys.now c.ways_of-self.result c.min-count.result (omega (arith, c.min-count.ensures)) (omega (arith, c.min-count.ensures))
    (λ j key low is. ap (option_map (entry_at K V E b)) (c.ways_of-self.ensures j key (omega (arith, low, c.min-count.ensures)) is).found)
    ∙ sym (ap (λ left. map held (take left (drop self.next self.ways)) ++ map find self.keys.now) none)
