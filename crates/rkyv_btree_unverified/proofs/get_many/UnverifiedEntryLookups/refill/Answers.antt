-- The next keys are searched, and the others are left.
use Rattle.std.proofs.Common.{◌≡◌, ◌+◌, ◌<◌, ◌≤◌, ◌∙◌, ◌++◌, List, Result, ap, arith, drop, length, map, subst, take}
use Rattle.std.proofs.lemmas.List.{length-drop}
use Rattle.std.specs.List.{AllZip}
use Rattle.rkyv_btree_unverified.specs.Ends.{result_of}
use Rattle.rkyv_btree_unverified.specs.Lookups.{LookupGives}
use Rattle.rkyv_btree_unverified.specs.declared.many.UnverifiedWay.TheVariants.{On}
use Rattle.rkyv_btree_unverified.proofs.ManyGiven.{searched_stand}
use Rattle.rkyv_btree_view.proofs.Held.{all_filled}
use Rattle.rkyv_btree_view.specs.Lookup.{ByNative}
use Rattle.rkyv_btree_unverified.proofs.get_many.UnverifiedEntryLookups.refill.Goals as goal

pub invariant_of-self : goal.invariant_of-self
invariant_of-self g c =
    let self = c.args.self.now in
    let back = ap length c.split_at.ensures.back ∙ length-drop c.min-count.result self.keys.now in
    let within : 0 + c.min-count.result ≤ 16 = omega (arith, c.min-count.ensures) in
    let short : c.min-count.result + length c.split_at.result.1.now < 18446744073709551616 = omega (arith, back, c.min-count.ensures, self.short) in
    record {
      within = within;
      short = short;
      stand = λ i low high. searched_stand _ _ _ _ _ _ _ _ _ self.keys.now c.ways_of-self.ensures i (omega (arith, high, c.min-count.ensures)) (omega (arith, high, c.min-count.ensures));
    }

pub returns-clause-count : goal.returns-clause-count
returns-clause-count g c =
    let self = c.args.self.now in
    let back = ap length c.split_at.ensures.back ∙ length-drop c.min-count.result self.keys.now in
    omega (arith, back, c.min-count.ensures, c.if-self-gt0.false)

pub returns-clause-found : goal.returns-clause-found
returns-clause-found g c found are =
    let K = g.K.Portable.kind in
    let V = g.V.Portable.kind in
    let self = c.args.self.now in
    let none : self.left ≡ 0 = omega (arith, c.if-self-gt0.false) in
    let Given : g.row.T.Denot → Result _ _ → Type 0 =
    λ key end. ByNative K g.K.CompareWith.compared_at key (λ comparison. LookupGives K V g.M.ArchivedMap.E self.map.buf.now comparison g.K.CheckBytes.Refuses g.V.CheckBytes.Refuses self.map.pos end) in
    let rest : AllZip Given (drop c.min-count.result self.keys.now) are.0 = subst (λ (keys : List g.row.T.Denot). AllZip Given keys are.0) c.split_at.ensures.back are.2 in
    let held = map result_of (take c.min-count.result c.ways_of-self.result) in
    rw none (
      held ++ are.0,
      are.1,
      all_filled result_of (On 0 0) Given self.keys.now c.ways_of-self.result are.0 c.min-count.result (omega (arith, c.min-count.ensures)) (omega (arith, c.min-count.ensures))
          (λ j key low is. (c.ways_of-self.ensures j key (omega (arith, low, c.min-count.ensures)) is).gives) rest,
    )
