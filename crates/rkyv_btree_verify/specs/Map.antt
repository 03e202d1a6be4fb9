-- Maps as an archived type.
use Rattle.std.specs.Prelude.{ℕ, ◌&&◌, ◌++◌, List, Option, Some, None, Result, Ok, Err}
use Rattle.std.specs.Cmp.Lexicographic.{pointwise, slice_cmp}
use Rattle.std.specs.List.{flat_map}
use Rattle.std.specs.Ordering.{ordering_then}
use Rattle.rkyv_btree_portable.specs.declared.refusal.Refusal.{Refusal}
use Rattle.rkyv_btree_verify.specs.mirror.Check.{check_map}
use Rattle.rkyv_btree_portable.specs.Kind.{Kind, Leaves}
use Rattle.rkyv_btree_format.specs.Layout.{NodeLayout, layout_of, are_fitting}
use Rattle.rkyv_btree_format.specs.Read.{read_map}
use Rattle.rkyv_btree_format.specs.Spells.{Accepted}

abbrev pub left_of : Result ℕ Refusal → Option ℕ
left_of (Ok lo) = Some lo
left_of (Err e) = None

unfoldable pub map_leaves : NodeLayout → Leaves → Leaves → Leaves
map_leaves s keys values b lo hi at = left_of (check_map s keys values b at lo hi)

-- maps are an archived type; a hasher takes each entry's key and then its value, and no length
abbrev pub map_kind : Kind → Kind → ℕ → Kind
map_kind K V E = record {
  Value = List (K.Value × V.Value);
  size = 8;
  align = 4;
  is_fitting = are_fitting K V E;
  Means = Accepted K V E;
  leaves = map_leaves (layout_of K V E) K.leaves V.leaves;
  read = read_map K V E;
  same = pointwise (λ a c. K.same a.0 c.0 && V.same a.1 c.1);
  order = slice_cmp (λ a c. ordering_then (K.order a.0 c.0) (V.order a.1 c.1));
  hash_input = flat_map (λ a. K.hash_input a.0 ++ V.hash_input a.1);
}
