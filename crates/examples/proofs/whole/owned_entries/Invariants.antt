-- What is made so far, with what the entries that are left give, is what all of them give.
use Rattle.std.proofs.Common.{◌≡◌, length}
use Rattle.rkyv_btree.specs.Deserializing.{IsByMeaning}
use Rattle.rkyv_btree.specs.Iter.{entries_left}
use Rattle.rkyv_btree.specs.Maps.{model_both}
use Rattle.examples.specs.Whole.{entries_given}
use Rattle.examples.proofs.Owned.{behind}
use Rattle.examples.proofs.whole.owned_entries.Given as goal

abbrev pub invariant-loop-key : goal.invariant-loop-key
invariant-loop-key g l =
    let model = model_both g.K.Deserialize.model g.V.Deserialize.model in
    (key : IsByMeaning g.K.Portable.kind g.K.Deserialize.decoded) (value : IsByMeaning g.V.Portable.kind g.V.Deserialize.decoded)
    → behind (model l.owned.items) (entries_given key value (entries_left l.entries)) ≡ behind (model l.initial.owned.items) (entries_given key value (entries_left l.initial.entries))

abbrev pub decreases-loop-key : goal.decreases-loop-key
decreases-loop-key g l = length (entries_left l.entries)
