-- What is left at the beginning of a walk is the whole list.
use Rattle.rkyv_btree_view.proofs.view.View.visit_all.Goals as goal

pub returns : goal.returns
returns g c = (c.visit_rest.ensures.0, rw c.begin-first.ensures.rest at c.visit_rest.ensures.1)
