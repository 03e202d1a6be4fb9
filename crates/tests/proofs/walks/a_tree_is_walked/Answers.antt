-- The archive stands, by the decision, which computes.
use Rattle.std.proofs.Common.{ℕ, IsTrue, List, [], ◌∷◌, refl, arith}
use Rattle.rkyv_btree_base.specs.Bytes.{number_at, target_at, place_at}
use Rattle.rkyv_btree_base.specs.Layout.{are_fitting, keys_at, values_at, node_align, node_size, align, len_at, leaf_size, inner_size}
use Rattle.rkyv_btree_base.specs.Map.{map_kind, map_leaves}
use Rattle.rkyv_btree_base.specs.Scalars.{u32_kind}
use Rattle.rkyv_btree_base.specs.Rounding.{round_up}
use Rattle.rkyv_btree_base.specs.Views.{stands}
use Rattle.rkyv_btree_base.specs.mirror.Check.{check_map, check_root, check_tree, check_placed, check_inner, check_pointer, check_leaf, check_entry}
use Rattle.tests.proofs.Archives.{numbers_fit, accepted}
use Rattle.tests.proofs.walks.a_tree_is_walked.Goals as goal

bytes : List ℕ
bytes =
    0 ∷ 0 ∷ 0 ∷ 0 ∷ 1 ∷ 0 ∷ 0 ∷ 0 ∷ 10 ∷ 0 ∷ 0 ∷ 0 ∷ 1 ∷ 0 ∷ 0 ∷ 0
    ∷ 0 ∷ 0 ∷ 0 ∷ 0 ∷ 0 ∷ 0 ∷ 0 ∷ 0 ∷ 0 ∷ 0 ∷ 0 ∷ 0 ∷ 0 ∷ 0 ∷ 0 ∷ 0
    ∷ 1 ∷ 0 ∷ 0 ∷ 0 ∷ 2 ∷ 0 ∷ 0 ∷ 0 ∷ 20 ∷ 0 ∷ 0 ∷ 0 ∷ 212 ∷ 255 ∷ 255 ∷ 255 ∷ 224 ∷ 255 ∷ 255 ∷ 255
    ∷ 1 ∷ 0 ∷ 0 ∷ 0 ∷ 0 ∷ 0 ∷ 0 ∷ 0 ∷ 5 ∷ 0 ∷ 0 ∷ 0 ∷ 1 ∷ 0 ∷ 0 ∷ 0 ∷ 220 ∷ 255 ∷ 255 ∷ 255
    ∷ 236 ∷ 255 ∷ 255 ∷ 255 ∷ 3 ∷ 0 ∷ 0 ∷ 0 ∷ []

standing : IsTrue (stands (map_kind u32_kind u32_kind 1) bytes 72)
unfolding are_fitting keys_at values_at node_align node_size align len_at leaf_size inner_size round_up map_leaves check_map check_root check_tree check_placed check_inner check_pointer check_leaf check_entry number_at target_at place_at bytes
standing = refl

pub access_valid-map-requires : goal.access_valid-map-requires
unfolding bytes
access_valid-map-requires g c = (omega arith, (numbers_fit, accepted bytes 72 standing))
