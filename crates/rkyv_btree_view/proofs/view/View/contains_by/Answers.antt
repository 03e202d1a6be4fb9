-- Whether there is an entry found.
use Rattle.std.proofs.Common.{◌∙◌, sym}
use Rattle.rkyv_btree_view.proofs.Lookups.{some_mapped}
use Rattle.rkyv_btree_view.proofs.Promised.{whether_found}
use Rattle.rkyv_btree_view.specs.View.{view_entry}
use Rattle.rkyv_btree_view.proofs.view.View.contains_by.Goals as goal

pub returns : goal.returns
returns g c f p = rw (c.is_some.ensures ∙ sym (some_mapped view_entry c.get_key_value_by.result)) (whether_found (c.get_key_value_by.ensures f p))
