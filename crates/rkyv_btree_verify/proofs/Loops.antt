-- What a loop of the check has done, and what is left of it.
use Rattle.std.proofs.Common.{◌≡◌, ℕ, suc, ◌+◌, ◌-◌, ◌%◌, ◌<◌, List, length, Result, Ok, Err, ℤ, refl, arith}
use Rattle.rkyv_btree_portable.specs.declared.refusal.Refusal.{Refusal}
use Rattle.rkyv_btree_verify.specs.declared.verify.Checked.{Checked}
use Rattle.rkyv_btree_verify.specs.mirror.Check.{check_entry, check_entries, check_pointer, check_pointers}
use Rattle.rkyv_btree_verify.specs.mirror.Counted.{pointer_steps, pointers_steps, map_steps}
use Rattle.std.proofs.lemmas.Bool.{ne_eqb, le-ltb, lt-ltb}
use Rattle.rkyv_btree_portable.specs.Kind.{Leaves}
use Rattle.rkyv_btree_format.specs.Layout.{NodeLayout}
use Rattle.rkyv_btree_portable.specs.Refusing.{Misplaced, too_long, no_room, unaligned}

module _ (s : NodeLayout) (keys values : Leaves) (b : List ℕ) where
  -- one entry, and what the rest gives
  pub entries_step : (p n i lo next : ℕ) → i < n → Ok next ≡ check_entry s keys values b p i lo → check_entries s keys values b p (n - (i + 1)) (i + 1) next ≡ check_entries s keys values b p (n - i) i lo
  entries_step p n i lo next h e =
      let one : n - i ≡ suc (n - (i + 1)) = omega arith in
      rw one (rw (← e) refl)

  pub pointers_step : (node : ℤ → ℕ → ℕ → Result Checked Refusal) (p n i : ℕ) (so_far next : Checked) → i < n → Ok next ≡ check_pointer s keys values b node p i so_far → check_pointers s keys values b node p (n - (i + 1)) (i + 1) next ≡ check_pointers s keys values b node p (n - i) i so_far
  pointers_step node p n i so_far next h e =
      let one : n - i ≡ suc (n - (i + 1)) = omega arith in
      rw one (rw (← e) refl)

  pub pointers_stop : (node : ℤ → ℕ → ℕ → Result Checked Refusal) (p n i : ℕ) (so_far : Checked) (e : Refusal) → i < n → Err e ≡ check_pointer s keys values b node p i so_far → Err e ≡ check_pointers s keys values b node p (n - i) i so_far
  pointers_stop node p n i so_far e h stops =
      let one : n - i ≡ suc (n - (i + 1)) = omega arith in
      rw one (rw (← stops) refl)

  module _ (node : ℤ → ℕ → ℕ → Result Checked Refusal) (steps : ℤ → ℕ → ℕ → ℕ) where
    pub counts_step : (p n i count more : ℕ) (so_far next : Checked) → i < n → Ok next ≡ check_pointer s keys values b node p i so_far → more ≡ count + pointer_steps s keys values b node steps p i so_far → more + pointers_steps s keys values b node steps p (n - (i + 1)) (i + 1) next ≡ count + pointers_steps s keys values b node steps p (n - i) i so_far
    counts_step p n i count more so_far next h e m =
        let one : n - i ≡ suc (n - (i + 1)) = omega arith in
        rw one (rw (← e) (omega arith))

    pub counts_stop : (p n i count more : ℕ) (so_far : Checked) (e : Refusal) → i < n → Err e ≡ check_pointer s keys values b node p i so_far → more ≡ count + pointer_steps s keys values b node steps p i so_far → more ≡ count + pointers_steps s keys values b node steps p (n - i) i so_far
    counts_stop p n i count more so_far e h stops m =
        let one : n - i ≡ suc (n - (i + 1)) = omega arith in
        rw one (rw (← stops) (omega arith))

  -- no check of a node is begun where the map has no place
  pub misplaced_steps : (at lo hi : ℕ) {e : Refusal} → Misplaced b 8 4 at e → map_steps s keys values b at lo hi ≡ 0
  unfolding map_steps
  misplaced_steps at lo hi (too_long h) = rw (lt-ltb 4294967295 (length b) h) refl
  misplaced_steps at lo hi (no_room short h) = rw (le-ltb 4294967295 (length b) short, lt-ltb (length b) (at + 8) h) refl
  misplaced_steps at lo hi (unaligned short room h) = rw (le-ltb 4294967295 (length b) short, le-ltb (length b) (at + 8) room, ne_eqb (at % 4) 0 h) refl
