-- How many checks of nodes the check of a map begins, as functions that mirror the code: the contracts of the code's
-- private functions cite them, and the proofs say of them what `verify_counted` promises.
use Rattle.std.specs.Prelude.{ℕ, zero, suc, ◌+◌, ◌*◌, ◌^◌, ◌%◌, ◌≤◌, List, length, Option, Some, None, Result, Ok, Err, ℤ}
use Rattle.std.specs.Prelude.{slice_index, nat_eq, nat_lt, if◌then◌else◌}
use Rattle.rkyv_btree_portable.specs.declared.refusal.Refusal.{Refusal}
use Rattle.rkyv_btree_verify.specs.declared.verify.Checked.{Checked}
use Rattle.rkyv_btree_portable.specs.Bytes.{number_at, target_at, place_at}
use Rattle.rkyv_btree_portable.specs.Kind.{Leaves}
use Rattle.rkyv_btree_format.specs.Layout.{NodeLayout, inner_size, pointer_at}
use Rattle.rkyv_btree_verify.specs.mirror.Check.{node_place, check_pointer, check_node}

abbrev pub steps_after : {A : Type 0} → Result A Refusal → (A → ℕ) → ℕ
steps_after (Ok x) f = f x
steps_after (Err e) f = 0

-- the window's new start lies in the window, which has a byte at least for each 2 ^ 30 entries
abbrev pub Within : ℕ → ℕ → Checked → Type 0
Within lo hi c = (lo ≤ c.lo) × (c.lo ≤ hi) × (c.entries + 2 ^ 30 * lo ≤ 2 ^ 30 * c.lo)

module _ (s : NodeLayout) (keys values : Leaves) (b : List ℕ) where
  -- where the check of a node on the next level, and its steps, are given
  module _ (node : ℤ → ℕ → ℕ → Result Checked Refusal) (steps : ℤ → ℕ → ℕ → ℕ) where
    abbrev pub target_steps : ℕ → Checked → Option ℤ → ℕ
    target_steps p so_far None = 0
    target_steps p so_far (Some q) = steps q so_far.lo p

    unfoldable pub pointer_steps : ℕ → ℕ → Checked → ℕ
    pointer_steps p i so_far = target_steps p so_far (target_at b (p + pointer_at s i))

    abbrev pub pointers_steps : ℕ → ℕ → ℕ → Checked → ℕ
    pointers_steps p zero i so_far = 0
    pointers_steps p (suc n) i so_far =
        pointer_steps p i so_far + steps_after (check_pointer s keys values b node p i so_far) (λ next. pointers_steps p n (i + 1) next)

    unfoldable pub placed_steps : ℕ → ℕ → ℕ → ℕ
    placed_steps p lo hi =
        if nat_eq (slice_index b p) 0 then 0 else
        if nat_eq (slice_index b p) 1 then (if nat_lt hi (p + inner_size s) then 0 else pointers_steps p (s.E + 1) 0 (record { lo = lo; entries = 0 })) else 0

  -- a node below which so many levels less one may stand
  abbrev pub node_steps : ℕ → ℤ → ℕ → ℕ → ℕ
  node_steps zero p lo hi = 1
  node_steps (suc levels) p lo hi =
      1 + steps_after (node_place s p lo hi) (λ start. placed_steps (check_node s keys values b levels) (node_steps levels) start lo hi)

  -- a tree of at most 32 levels
  unfoldable pub tree_steps : ℤ → ℕ → ℕ → ℕ
  tree_steps p lo hi = node_steps 32 p lo hi

  unfoldable pub root_steps : ℕ → ℕ → ℕ → ℕ
  root_steps at lo hi = if nat_eq (number_at b (at + 4) 4) 0 then 0 else tree_steps (place_at b at) lo hi

  unfoldable pub map_steps : ℕ → ℕ → ℕ → ℕ
  map_steps at lo hi =
      if nat_lt 4294967295 (length b) then 0 else
      if nat_lt (length b) (at + 8) then 0 else
      if nat_eq (at % 4) 0 then root_steps at lo hi else 0
