-- All items of the iterator are what is left of its walk.
use Rattle.std.proofs.Common.{◌∙◌, ap, map}
use Rattle.rkyv_btree_view.specs.Keys.{keys_left}
use Rattle.rkyv_btree_view.specs.View.{view_value}
use Rattle.rkyv_btree_view.proofs.Drained.{drained}
use Rattle.rkyv_btree_view.proofs.view.View.keys.Goals as goal

pub returns-clause-yields : goal.returns-clause-yields
returns-clause-yields g c = λ items all. drained view_value keys_left _ items all ∙ ap (map (λ e. e.0)) c.walk.ensures
