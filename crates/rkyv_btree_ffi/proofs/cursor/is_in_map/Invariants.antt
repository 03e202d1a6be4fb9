use Rattle.std.proofs.Common.{ℕ, ◌<◌}
use Rattle.rkyv_btree_format.specs.Layout.{layout_of}
use Rattle.rkyv_btree_walk.specs.Below.{root_place, IsBelow}
use Rattle.rkyv_btree_ffi.proofs.cursor.is_in_map.Given as goal

-- the node is on no level before this one
abbrev pub invariant-levels : goal.invariant-levels
invariant-levels g l = (d : ℕ) → d < l.level → IsBelow (layout_of g.K.Portable.kind g.V.Portable.kind 5) l.buf (root_place l.buf l.pos) d l.node → ⊥
