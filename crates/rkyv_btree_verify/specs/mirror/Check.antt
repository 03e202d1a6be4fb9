-- What the check of a map returns, as a function of its bytes that mirrors the code: the contracts of the code's private
-- functions cite it, and the laws of maps need that it decides the relations of `Spells`.
use Rattle.std.specs.Prelude.{ℕ, zero, suc, ◌+◌, ◌%◌, ◌||◌, List, length, Option, Some, None, Result, Ok, Err, ℤ, pos, negsuc}
use Rattle.std.specs.Prelude.{slice_index, nat_eq, nat_lt, if◌then◌else◌}
use Rattle.rkyv_btree_portable.specs.declared.refusal.Refusal.{Refusal}
use Rattle.rkyv_btree_portable.specs.declared.refusal.Refusal.TheVariants.{OutOfRange, Misaligned, BadKind, InvalidLength}
use Rattle.rkyv_btree_portable.specs.declared.refusal.Refusal.TheVariants.{TooDeep, EntriesLengthMismatch, TooLong}
use Rattle.rkyv_btree_verify.specs.declared.verify.Checked.{Checked}
use Rattle.rkyv_btree_portable.specs.Bytes.{number_at, target_at, place_at}
use Rattle.rkyv_btree_portable.specs.Kind.{Leaves}
use Rattle.rkyv_btree_portable.specs.Refusing.{or_bad}
use Rattle.rkyv_btree_format.specs.Layout.{NodeLayout, key_at, value_at, len_at, leaf_size, inner_size, pointer_at, align}

infixl 10 ◌>>=◌
abbrev pub ◌>>=◌ : {A B : Type 0} → Result A Refusal → (A → Result B Refusal) → Result B Refusal
(Ok x) >>= f = f x
(Err e) >>= f = Err e

-- where the node stands, if there is room for a leaf and it is aligned
abbrev pub node_place : NodeLayout → ℤ → ℕ → ℕ → Result ℕ Refusal
node_place s (negsuc n) lo hi = Err (OutOfRange (negsuc n))
node_place s (pos p) lo hi =
    if nat_lt p lo || nat_lt hi (p + leaf_size s) then Err (OutOfRange (pos p)) else
    if nat_eq (p % align s) 0 then Ok p else Err (Misaligned p)

module _ (s : NodeLayout) (keys values : Leaves) (b : List ℕ) where
  unfoldable pub check_entry : ℕ → ℕ → ℕ → Result ℕ Refusal
  check_entry p i lo = or_bad (p + key_at s i) (keys b lo p (p + key_at s i)) >>= λ mid. or_bad (p + value_at s i) (values b mid p (p + value_at s i))

  -- so many entries of the node at p, from number i on
  abbrev pub check_entries : ℕ → ℕ → ℕ → ℕ → Result ℕ Refusal
  check_entries p zero i lo = Ok lo
  check_entries p (suc n) i lo = check_entry p i lo >>= λ next. check_entries p n (i + 1) next

  unfoldable pub check_leaf : ℕ → ℕ → Result Checked Refusal
  check_leaf p lo =
      if nat_lt s.E (number_at b (p + len_at s) 4) then Err (InvalidLength (record { len = number_at b (p + len_at s) 4; maximum = s.E })) else
      check_entries p (number_at b (p + len_at s) 4) 0 lo >>= λ _. Ok (record { lo = p + leaf_size s; entries = number_at b (p + len_at s) 4 })

  -- the same, where the check of a node on the next level is given
  module _ (node : ℤ → ℕ → ℕ → Result Checked Refusal) where
    abbrev pub check_target : ℕ → Checked → Option ℤ → Result Checked Refusal
    check_target p so_far None = Ok so_far
    check_target p so_far (Some q) = node q so_far.lo p >>= λ c. Ok (record { lo = c.lo; entries = so_far.entries + c.entries })

    unfoldable pub check_pointer : ℕ → ℕ → Checked → Result Checked Refusal
    check_pointer p i so_far = check_target p so_far (target_at b (p + pointer_at s i))

    -- so many pointers of the node at p, from number i on
    abbrev pub check_pointers : ℕ → ℕ → ℕ → Checked → Result Checked Refusal
    check_pointers p zero i so_far = Ok so_far
    check_pointers p (suc n) i so_far = check_pointer p i so_far >>= λ next. check_pointers p n (i + 1) next

    unfoldable pub check_inner : ℕ → ℕ → Result Checked Refusal
    check_inner p lo =
        check_pointers p (s.E + 1) 0 (record { lo = lo; entries = 0 }) >>= λ c.
        check_entries p s.E 0 c.lo >>= λ _. Ok (record { lo = p + inner_size s; entries = c.entries + s.E })

    unfoldable pub check_placed : ℕ → ℕ → ℕ → Result Checked Refusal
    check_placed p lo hi =
        if nat_eq (slice_index b p) 0 then check_leaf p lo else
        if nat_eq (slice_index b p) 1 then (if nat_lt hi (p + inner_size s) then Err (OutOfRange (pos p)) else check_inner p lo) else
        Err (BadKind p (slice_index b p))

  -- a node below which so many levels less one may stand
  abbrev pub check_node : ℕ → ℤ → ℕ → ℕ → Result Checked Refusal
  check_node zero p lo hi = Err (TooDeep p)
  check_node (suc levels) p lo hi = node_place s p lo hi >>= λ start. check_placed (check_node levels) start lo hi

  -- a tree of at most 32 levels
  unfoldable pub check_tree : ℤ → ℕ → ℕ → Result Checked Refusal
  check_tree p lo hi = check_node 32 p lo hi

  unfoldable pub check_root : ℕ → ℕ → ℕ → Result ℕ Refusal
  check_root at lo hi =
      if nat_eq (number_at b (at + 4) 4) 0 then Ok lo else
      check_tree (place_at b at) lo hi >>= λ c.
      if nat_eq c.entries (number_at b (at + 4) 4) then Ok c.lo else Err (EntriesLengthMismatch (record { entries = c.entries; len = number_at b (at + 4) 4 }))

  unfoldable pub check_map : ℕ → ℕ → ℕ → Result ℕ Refusal
  check_map at lo hi =
      if nat_lt 4294967295 (length b) then Err TooLong else
      if nat_lt (length b) (at + 8) then Err (OutOfRange (pos at)) else
      if nat_eq (at % 4) 0 then check_root at lo hi else Err (Misaligned at)
