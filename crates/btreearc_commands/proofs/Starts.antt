-- What archives begin with.
use Rattle.std.proofs.Common.{◌≡◌, ◌∙◌, ◌⊎◌, ℕ, zero, suc, ◌+◌, ◌-◌, ◌≤◌, Bool, true, false, nat_eq, if◌then◌else◌, List, [], ◌∷◌, ◌++◌, length, map, inl, inr, refl, sym, ap, subst, arith}
use Rattle.std.proofs.lemmas.Fmt.{length-decimal-le}
use Rattle.std.proofs.lemmas.List.{length-append, length-replicate}
use Rattle.std.specs.Prelude.{codes, decimal}
use Rattle.rkyv_btree_portable.specs.laws.Rounding.{round_up-lt}
use Rattle.rkyv_btree_format.specs.Layout.{align}
use Rattle.rkyv_btree_portable.specs.Bytes.{zeros}
use Rattle.rkyv_btree_portable.specs.InPlace.{OwnBytes}
use Rattle.rkyv_btree_portable.specs.Rounding.{round_up}
use Rattle.rkyv_btree_shape.specs.Plan.{plan}
use Rattle.rkyv_btree_shape.specs.Tree.{Tree, leaf, inner, Row, last, step, Child, absent, child, row_entries}
use Rattle.rkyv_btree_typed.specs.TypeHeader.{HasAnyHeader, HasOtherVersion, header}
use Rattle.rkyv_btree_writer.proofs.WriteRuns.{appended-append}
use Rattle.rkyv_btree_writer.specs.Padding.{padding, zeros_write}
use Rattle.rkyv_btree_writer.specs.Writing.{Write, appended}
use Rattle.rkyv_btree_writing_laws.specs.Image.{child_image, inner_image, inner_write, leaf_bytes, row_end, row_image, row_roots, child_end, root_bytes, root_reaches, tree_image}
use Rattle.btreearc_lines.specs.Headings.{IsHeaded, IsNamed}
use Rattle.btreearc_lines.specs.declared.heading.Heading.{Heading}
use Rattle.btreearc_lines.specs.declared.heading.Heading.TheVariants.{Typed, Untyped}
use Rattle.btreearc_commands.specs.Archive.{archive_of, five, own_bytes, root_writes, start, tree_writes}
use Rattle.btreearc_commands.specs.Opening.{numbers_name}

-- a header is small
pub name_length : length numbers_name ≤ 16
name_length = omega (arith, length-append (decimal 5) (codes "]"), length-decimal-le 1 5 (omega arith))

header_length : (name : List ℕ) → length (header name) ≤ 28 + length name
unfolding header
header_length name =
    let count = round_up (12 + length name) 16 - (12 + length name) in
    omega (arith, length-append name (zeros count), length-replicate {A = ℕ} count 0, round_up-lt (12 + length name) 16 (omega arith))

pub typed_start : length (header numbers_name) ≤ 44
typed_start = omega (arith, header_length numbers_name, name_length)

pub start_small : (heading : Heading) → start heading ≤ 44
start_small Typed = omega (arith, typed_start)
start_small Untyped = omega arith

-- the first byte is 0 or 1
abbrev Small : List ℕ → Type 0
Small bytes = (b : ℕ) × (rest : List ℕ) × (bytes ≡ b ∷ rest) × (b ≤ 1)

small_more : (xs ys : List ℕ) → Small xs → Small (xs ++ ys)
small_more xs ys s = (s.0, s.1 ++ ys, ap (λ z. z ++ ys) s.2, s.3)

small_after : (xs ys : List ℕ) → (xs ≡ []) ⊎ Small xs → Small ys → Small (xs ++ ys)
small_after xs ys (inl none) s = subst (λ (z : List ℕ). Small (z ++ ys)) (sym none) s
small_after xs ys (inr first) s = small_more xs ys first

zeros_small : (count : ℕ) (ys : List ℕ) → Small ys → Small (zeros count ++ ys)
zeros_small zero ys s = s
zeros_small (suc n) ys s = (0, zeros n ++ ys, refl, omega arith)

node_small : (a at : ℕ) (w : Write) → Small w.bytes → Small (appended (padding a at ++ w ∷ []))
node_small a at w s = go (nat_eq (round_up at a) at)
  where
    go : (b : Bool) → Small (appended ((if b then [] else zeros_write (round_up at a - at) ∷ []) ++ w ∷ []))
    go true = small_more w.bytes [] s
    go false = zeros_small (round_up at a - at) (w.bytes ++ []) (small_more w.bytes [] s)

either : (xs ys zs : List ℕ) → zs ≡ xs ++ ys → (xs ≡ []) ⊎ Small xs → (ys ≡ []) ⊎ Small ys → (zs ≡ []) ⊎ Small zs
either xs ys zs e (inl none) (inl no_more) = inl (e ∙ (ap (λ z. z ++ ys) none ∙ no_more))
either xs ys zs e (inl none) (inr more) = inr (subst Small (sym (e ∙ ap (λ z. z ++ ys) none)) more)
either xs ys zs e (inr first) rest = inr (subst Small (sym e) (small_more xs ys first))

-- so it is of a tree
mutual
  tree_small : (at : ℕ) (t : Tree OwnBytes) → Small (appended (tree_image five at t))
  tree_small at (leaf xs) = node_small (align five) at (record { bytes = leaf_bytes five xs; reaches = true }) (0, _, refl, omega arith)
  tree_small at (inner row) =
      let e = row_end five at row in
      subst Small (sym (appended-append (row_image five at row) (inner_image five e (row_entries row) (row_roots five at row))))
      (small_after (appended (row_image five at row)) (appended (inner_image five e (row_entries row) (row_roots five at row))) (row_small at row)
      (node_small (align five) e (inner_write five (round_up e (align five)) (row_entries row) (row_roots five at row)) (1, _, refl, omega arith)))

  row_small : (at : ℕ) (row : Row OwnBytes) → (appended (row_image five at row) ≡ []) ⊎ Small (appended (row_image five at row))
  row_small at (last c) = child_small at c
  row_small at (step c x row) =
      either (appended (child_image five at c)) (appended (row_image five (child_end five at c) row)) _ (appended-append (child_image five at c) (row_image five (child_end five at c) row)) (child_small at c) (row_small (child_end five at c) row)

  child_small : (at : ℕ) (c : Child OwnBytes) → (appended (child_image five at c) ≡ []) ⊎ Small (appended (child_image five at c))
  child_small at absent = inl refl
  child_small at (child t) = inr (tree_small at t)

archive_small : (entries : List (ℕ × ℕ)) → Small (archive_of Untyped entries)
archive_small [] = node_small 4 0 (record { bytes = root_bytes (round_up 0 4) 0 0; reaches = root_reaches (round_up 0 4) 0 0 }) (1, _, refl, omega arith)
archive_small (x ∷ xs) =
    subst Small (sym (appended-append (tree_writes Untyped (x ∷ xs)) (root_writes Untyped (x ∷ xs))))
    (small_more (appended (tree_writes Untyped (x ∷ xs))) (appended (root_writes Untyped (x ∷ xs))) (tree_small 0 (plan 5 (map own_bytes (x ∷ xs)))))

-- and so there is no header
other_first : (b c : ℕ) (xs ys bytes : List ℕ) → bytes ≡ b ∷ xs → bytes ≡ c ∷ ys → b ≡ c
other_first b c xs ys bytes e f = cc

not_headed : (bytes : List ℕ) → Small bytes → ¬ HasAnyHeader bytes
unfolding header
not_headed bytes s = λ h. let same : s.0 ≡ 114 = other_first s.0 114 s.1 _ bytes s.2 h.1.parts in absurd (omega (arith, same, s.3))

no_version : (bytes : List ℕ) → Small bytes → (version : ℕ) → ¬ HasOtherVersion bytes version
no_version bytes s version = λ h. let same : s.0 ≡ 114 = other_first s.0 114 s.1 _ bytes s.2 h.2.1 in absurd (omega (arith, same, s.3))

-- an archive begins as it must
pub headed_archive : (heading : Heading) (entries : List (ℕ × ℕ)) (bytes : List ℕ) → IsNamed numbers_name heading → bytes ≡ archive_of heading entries → IsHeaded numbers_name bytes heading
headed_archive Typed entries bytes named e = record { text = named.0; fits = named.1; rest = _; parts = e }
headed_archive Untyped entries bytes named e =
    let small = subst Small (sym e) (archive_small entries) in
    (not_headed bytes small, no_version bytes small)

-- bytes begin in one way alone
pub one_heading : (bytes : List ℕ) (a b : Heading) → IsHeaded numbers_name bytes a → IsHeaded numbers_name bytes b → a ≡ b
one_heading bytes Typed Typed h k = refl
one_heading bytes Typed Untyped h k = absurd (k.0 (numbers_name, h))
one_heading bytes Untyped Typed h k = absurd (h.0 (numbers_name, k))
one_heading bytes Untyped Untyped h k = refl
