-- One entry more, or the first that has no native values.
use Rattle.std.proofs.Common.{◌≡◌, List, [], ◌∷◌, ◌++◌, take, ◌+◌, sym, refl, subst, arith}
use Rattle.std.proofs.lemmas.Grind.{common_steps}
use Rattle.rkyv_btree_ffi.specs.mirror.Natives.{AreGiven, IsOfBoth}
use Rattle.rkyv_btree_ffi.proofs.Built.{first_bad, given_more}
use Rattle.rkyv_btree_ffi.proofs.building.natives.Goals as goal

pub entries-preserved : goal.entries-preserved
entries-preserved g c =
    let more : c.push.new.self.items ≡ c.entries.natives.items ++ c.in-Some.pair ∷ [] = grind (arith, common_steps) in
    subst (λ (xs : List _). AreGiven (IsOfBoth g.K.Given.IsItem g.V.Given.IsItem c.args.texts.now) (λ e. g.K.Given.Gives c.args.texts.now e.key) (λ e. g.V.Given.Gives c.args.texts.now e.value) (take (c.entries.index + 1) c.args.entries.now) xs) (sym more)
    (given_more (IsOfBoth g.K.Given.IsItem g.V.Given.IsItem c.args.texts.now) (λ e. g.K.Given.Gives c.args.texts.now e.key) (λ e. g.V.Given.Gives c.args.texts.now e.value) c.args.entries.now c.entries.index _ c.entries.natives.items c.in-Some.pair c.entries-test.true c.entries.invariant
    c.in-Some.ensures.entry c.in-Some.ensures.key c.in-Some.ensures.value)

pub returns-in-None-clause-bad : goal.returns-in-None-clause-bad
returns-in-None-clause-bad g c =
    first_bad (IsOfBoth g.K.Given.IsItem g.V.Given.IsItem c.args.texts.now) c.args.entries.now c.entries.index _ c.entries-test.true c.entries.invariant.good (c.in-None.ensures.none refl)

pub returns-clause-given : goal.returns-clause-given
returns-clause-given g c = grind (arith, common_steps, c.entries.invariant)
