-- With what is left the map comes to where the whole list takes it.
use Rattle.std.proofs.Common.{◌≡◌, length, map}
use Rattle.rkyv_btree_convert.specs.Deserializing.{both}
use Rattle.rkyv_btree_convert.specs.Maps.{model_both}
use Rattle.rkyv_btree_convert.proofs.Puts.{put_all}
use Rattle.rkyv_btree_view.specs.Iter.{entries_left}
use Rattle.rkyv_btree_convert.proofs.native_map.in_turn.Given as goal

abbrev pub invariant-loop-key : goal.invariant-loop-key
invariant-loop-key g l =
    let given = map (λ e. both (g.met.K.Deserialize.by_meaning.of_value e.0) (g.met.V.Deserialize.by_meaning.of_value e.1)) in
    let model = model_both g.K.Deserialize.model g.V.Deserialize.model in
    put_all g.K.Deserialize.model_order (model l.map.entries) (given (entries_left l.entries)) ≡ put_all g.K.Deserialize.model_order (model l.initial.map.entries) (given (entries_left l.initial.entries))

abbrev pub decreases-loop-key : goal.decreases-loop-key
decreases-loop-key g l = length (entries_left l.entries)
