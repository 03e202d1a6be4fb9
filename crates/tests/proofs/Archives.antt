-- What tests know of maps from numbers to numbers, with nodes of one entry.
use Rattle.std.proofs.Common.{ℕ, IsTrue, List, refl}
use Rattle.rkyv_btree_base.specs.Layout.{are_fitting, keys_at, values_at, node_align, node_size, align, len_at, inner_size}
use Rattle.rkyv_btree_base.specs.Map.{map_kind}
use Rattle.rkyv_btree_base.specs.Scalars.{u32_kind}
use Rattle.rkyv_btree_base.specs.laws.Scalars.{u32_laws}
use Rattle.rkyv_btree_base.specs.Rounding.{round_up}
use Rattle.rkyv_btree_base.specs.Views.{stands}
use Rattle.rkyv_btree_base.specs.laws.Views.{means_read}
use Rattle.rkyv_btree_base.proofs.MapLaws.{map_laws}
use Rattle.rkyv_btree.specs.Map.{IsMap}

pub numbers_fit : IsTrue (are_fitting u32_kind u32_kind 1)
unfolding are_fitting keys_at values_at node_align node_size align len_at inner_size round_up
numbers_fit = refl

-- a map that is decided to stand is accepted
pub accepted : (b : List ℕ) (at : ℕ) → IsTrue (stands (map_kind u32_kind u32_kind 1) b at) → (m : List (ℕ × ℕ)) × IsMap u32_kind u32_kind 1 b at m
accepted b at h =
    let m = means_read (map_laws u32_kind u32_kind 1 u32_laws u32_laws) b at h in
    (_, (m.left, m.means))
