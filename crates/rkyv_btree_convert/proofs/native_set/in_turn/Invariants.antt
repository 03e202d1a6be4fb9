-- With what is left the set comes to where the whole list takes it.
use Rattle.std.proofs.Common.{◌≡◌, length, map}
use Rattle.rkyv_btree_convert.specs.Deserializing.{both}
use Rattle.rkyv_btree_convert.specs.Sets.{unit_given}
use Rattle.rkyv_btree_convert.proofs.Puts.{put_all}
use Rattle.rkyv_btree_convert.proofs.Units.{model_keys}
use Rattle.rkyv_btree_view.specs.Iter.{entries_left}
use Rattle.rkyv_btree_convert.proofs.native_set.in_turn.Given as goal

abbrev pub invariant-loop-key : goal.invariant-loop-key
invariant-loop-key g l =
    let given = map (λ e. both (g.met.K.Deserialize.by_meaning.of_value e.0) unit_given) in
    let model = model_keys g.K.Deserialize.model in
    put_all g.K.Deserialize.model_order (model l.set.keys) (given (entries_left l.entries)) ≡ put_all g.K.Deserialize.model_order (model l.initial.set.keys) (given (entries_left l.initial.entries))

abbrev pub decreases-loop-key : goal.decreases-loop-key
decreases-loop-key g l = length (entries_left l.entries)
