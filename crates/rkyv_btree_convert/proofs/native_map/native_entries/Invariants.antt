-- With what is left the list comes to what the whole list gives.
use Rattle.std.proofs.Common.{◌≡◌, length, map}
use Rattle.rkyv_btree_convert.specs.Deserializing.{both}
use Rattle.rkyv_btree_convert.specs.Maps.{model_both}
use Rattle.rkyv_btree_convert.proofs.Puts.{take_all, push}
use Rattle.rkyv_btree_view.specs.Iter.{entries_left}
use Rattle.rkyv_btree_convert.proofs.native_map.native_entries.Given as goal

abbrev pub invariant-loop-key : goal.invariant-loop-key
invariant-loop-key g l =
    let given = map (λ e. both (g.met.K.Deserialize.by_meaning.of_value e.0) (g.met.V.Deserialize.by_meaning.of_value e.1)) in
    let model = model_both g.K.Deserialize.model g.V.Deserialize.model in
    take_all push (model l.made.items) (given (entries_left l.entries)) ≡ take_all push (model l.initial.made.items) (given (entries_left l.initial.entries))

abbrev pub decreases-loop-key : goal.decreases-loop-key
decreases-loop-key g l = length (entries_left l.entries)
