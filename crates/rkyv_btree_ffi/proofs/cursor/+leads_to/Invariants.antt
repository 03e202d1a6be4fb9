use Rattle.std.proofs.Common.{◌≡◌, ℕ, ◌-◌, ◌<◌, Some}
use Rattle.rkyv_btree_format.specs.Layout.{layout_of}
use Rattle.rkyv_btree_walk.specs.Nodes.{child_place}
use Rattle.rkyv_btree_ffi.specs.CursorPlaces.{Leads}
use Rattle.rkyv_btree_ffi.proofs.cursor.+leads_to.Given as goal

-- no child before this one leads to the node
abbrev pub invariant-children : goal.invariant-children
invariant-children g l =
    let s = layout_of g.K.Portable.kind g.V.Portable.kind 5 in
    (i c : ℕ) → i < l.index → child_place s l.buf l.from i ≡ Some c → Leads s l.buf (l.pointers - 1) c l.node → ⊥

abbrev pub decreases-leads_to : goal.decreases-leads_to
decreases-leads_to g l = l.pointers
