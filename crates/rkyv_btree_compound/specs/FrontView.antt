-- What views of the first fields of tuples read.
use Rattle.rkyv_btree_compound.specs.declared.front.TupleFront
use Rattle.rkyv_btree_compound.specs.declared.front_view.FrontView.{FrontView}

-- the values that stand at a view's position
abbrev pub front_value : {P : Type 0} {p : TupleFront.Ghosts P} → FrontView P p → p.kind.Value
front_value {p} view = p.kind.read view.buf.now view.pos
