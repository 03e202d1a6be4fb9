-- The value of the entry found.
use Rattle.rkyv_btree_view.proofs.Promised.{value_lookup}
use Rattle.rkyv_btree_view.proofs.view.View.get.Goals as goal

pub returns-in-None : goal.returns-in-None
returns-in-None g c = rw c.in-None.is at (value_lookup c.get_key_value.ensures)

pub returns-in-Some : goal.returns-in-Some
returns-in-Some g c = rw c.in-Some.is at (value_lookup c.get_key_value.ensures)
