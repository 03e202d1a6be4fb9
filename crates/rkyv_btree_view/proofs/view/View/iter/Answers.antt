-- All items of the iterator are all that is left of its walk.
use Rattle.std.proofs.Common.{◌∙◌}
use Rattle.rkyv_btree_view.specs.Iter.{entries_left}
use Rattle.rkyv_btree_view.specs.View.{view_entry}
use Rattle.rkyv_btree_view.proofs.Drained.{drained}
use Rattle.rkyv_btree_view.proofs.view.View.iter.Goals as goal

pub returns-clause-yields : goal.returns-clause-yields
returns-clause-yields g c = λ items all.
    drained view_entry entries_left _ items all ∙ c.walk.ensures
