-- One row more, or the first that has no native values.
use Rattle.std.proofs.Common.{◌≡◌, List, [], ◌∷◌, ◌++◌, take, ◌+◌, sym, refl, subst, arith}
use Rattle.std.proofs.lemmas.Grind.{common_steps}
use Rattle.std.proofs.lemmas.List.FromFn.{length-range_with_len}
use Rattle.std.specs.List.{range_with_len}
use Rattle.rkyv_btree_ffi.specs.mirror.Natives.{AreGiven, IsRow}
use Rattle.rkyv_btree_ffi.proofs.Built.{bad_row, row_more}
use Rattle.rkyv_btree_ffi.proofs.building.native_rows.Goals as goal

pub rows-preserved : goal.rows-preserved
rows-preserved g c =
    let more : c.push.new.self.items ≡ c.rows.natives.items ++ c.in-Some.pair ∷ [] = grind (arith, common_steps) in
    subst (λ (xs : List _). AreGiven (IsRow g.K.Given.IsCell g.V.Given.IsCell c.args.keys.now c.args.values.now) (g.K.Given.CellGives c.args.keys.now) (g.V.Given.CellGives c.args.values.now) (take (c.rows.index + 1) (range_with_len 0 c.args.len)) xs) (sym more)
    (row_more (IsRow g.K.Given.IsCell g.V.Given.IsCell c.args.keys.now c.args.values.now) (g.K.Given.CellGives c.args.keys.now) (g.V.Given.CellGives c.args.values.now) c.args.len c.rows.index c.rows.natives.items c.in-Some.pair c.rows-test.true c.rows.invariant
    c.in-Some.ensures.entry c.in-Some.ensures.key c.in-Some.ensures.value)

pub returns-in-None-clause-bad : goal.returns-in-None-clause-bad
returns-in-None-clause-bad g c =
    bad_row (IsRow g.K.Given.IsCell g.V.Given.IsCell c.args.keys.now c.args.values.now) c.args.len c.rows.index c.rows-test.true c.rows.invariant.good (c.in-None.ensures.none refl)

pub returns-clause-given : goal.returns-clause-given
returns-clause-given g c = grind (arith, common_steps, length-range_with_len 0 c.args.len, c.rows.invariant)
