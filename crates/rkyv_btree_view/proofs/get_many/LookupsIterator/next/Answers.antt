-- The values that are left are those of the entries that are.
use Rattle.std.proofs.Common.{◌∷◌, ◌∙◌, ap, map, sym}
use Rattle.std.specs.Option.{option_map}
use Rattle.rkyv_btree_view.proofs.Remaining.{shorter}
use Rattle.rkyv_btree_view.specs.ManyLeft.{entry_lookups_left}
use Rattle.rkyv_btree_view.proofs.get_many.LookupsIterator.next.Goals as goal

pub returns-in-Some-clause-steps : goal.returns-in-Some-clause-steps
returns-in-Some-clause-steps g c =
    ap (map (option_map (λ e. e.1))) c.in-Some.ensures
    ∙ ap (λ value. value ∷ map (option_map (λ e. e.1)) (entry_lookups_left g.K.CompareWith.compared_at c.next_found.new.self)) (sym c.value_of.ensures)

pub returns-in-Some-clause-goes : goal.returns-in-Some-clause-goes
returns-in-Some-clause-goes g c = record { on = λ _. (tt, tt, shorter _ _ _ (returns-in-Some-clause-steps g c)); keeps = tt; rests = λ _. tt }
