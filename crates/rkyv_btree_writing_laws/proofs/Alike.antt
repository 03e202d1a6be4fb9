-- Trees of the same shape are written alike: their writes have the same lengths, and the same of them reach.
use Rattle.std.proofs.Common.{◌≡◌, ℕ, ◌+◌, ◌∙◌, IsTrue, List, [], ◌∷◌, ◌++◌, length, map, Option, Some, refl, sym, ap, subst, arith}
use Rattle.std.proofs.lemmas.List.{length-map, length-append}
use Rattle.rkyv_btree_portable.specs.InPlace.{IsOwn, OwnBytes, AreOwn}
use Rattle.rkyv_btree_portable.specs.Kind.{Kind, IsLawful}
use Rattle.rkyv_btree_portable.specs.Rounding.{round_up}
use Rattle.rkyv_btree_format.specs.Layout.{layout_of, are_fitting, align, inner_size}
use Rattle.rkyv_btree_shape.specs.Tree.{Tree, leaf, inner, Row, last, step, Child, absent, child, row_entries, HasShape, RowHasShape, ChildHasShape}
use Rattle.rkyv_btree_shape.proofs.Mapped.{entries_mapped}
use Rattle.rkyv_btree_shape.specs.Mapped.{mapped, mapped_row, mapped_child}
use Rattle.rkyv_btree_writer.specs.Padding.{padding}
use Rattle.rkyv_btree_writer.specs.Writing.{Write, appended, AllReach}
use Rattle.rkyv_btree_writing_laws.specs.Image.{inner_image, tree_image, row_image, child_image, tree_end, row_end, child_end, tree_root, child_root, row_roots}
use Rattle.rkyv_btree_writing_laws.proofs.Leaves.{leaf_bytes_length}
use Rattle.rkyv_btree_writing_laws.proofs.NodesHeld.{inner_length, length-roots}

-- as many writes, each as long as the other, which reaches where the other does
abbrev pub AreAlike : List Write → List Write → Type 0
AreAlike [] [] = Unit {0}
AreAlike [] (y ∷ ys) = ⊥
AreAlike (x ∷ xs) [] = ⊥
AreAlike (x ∷ xs) (y ∷ ys) = (length x.bytes ≡ length y.bytes) × (x.reaches ≡ y.reaches) × AreAlike xs ys

pub alike_same : (xs : List Write) → AreAlike xs xs
alike_same [] = tt
alike_same (x ∷ xs) = (refl, refl, alike_same xs)

pub alike_both : (xs ys vs ws : List Write) → AreAlike xs ys → AreAlike vs ws → AreAlike (xs ++ vs) (ys ++ ws)
alike_both [] [] vs ws h more = more
alike_both [] (y ∷ ys) vs ws h more = absurd h
alike_both (x ∷ xs) [] vs ws h more = absurd h
alike_both (x ∷ xs) (y ∷ ys) vs ws h more = (h.0, h.1, alike_both xs ys vs ws h.2 more)

pub alike_length : (xs ys : List Write) → AreAlike xs ys → length (appended xs) ≡ length (appended ys)
alike_length [] [] h = refl
alike_length [] (y ∷ ys) h = absurd h
alike_length (x ∷ xs) [] h = absurd h
alike_length (x ∷ xs) (y ∷ ys) h = omega (arith, h.0, alike_length xs ys h.2, length-append x.bytes (appended xs), length-append y.bytes (appended ys))

pub alike_reach : (xs ys : List Write) → AreAlike xs ys → AllReach xs → AllReach ys
alike_reach [] [] h all = tt
alike_reach [] (y ∷ ys) h all = absurd h
alike_reach (x ∷ xs) [] h all = absurd h
alike_reach (x ∷ xs) (y ∷ ys) h all = (sym h.1 ∙ all.0, alike_reach xs ys h.2 all.1)

module _ {A : Type 0} (K V : Kind) (E : ℕ) (k : IsLawful K) (v : IsLawful V) (fits : IsTrue (are_fitting K V E)) (f g : A → OwnBytes) (own_f : (x : A) → IsOwn K (f x).0 × IsOwn V (f x).1) (own_g : (x : A) → IsOwn K (g x).0 × IsOwn V (g x).1) where
  all_own : (h : A → OwnBytes) → ((x : A) → IsOwn K (h x).0 × IsOwn V (h x).1) → (xs : List A) → AreOwn K V (map h xs)
  all_own h own [] = tt
  all_own h own (x ∷ xs) = ((own x).0, (own x).1, all_own h own xs)

  mutual
    same_tree_end : (at : ℕ) (t : Tree A) → tree_end (layout_of K V E) at (mapped f t) ≡ tree_end (layout_of K V E) at (mapped g t)
    same_tree_end at (leaf xs) = refl
    same_tree_end at (inner row) = ap (λ e. round_up e (align (layout_of K V E)) + inner_size (layout_of K V E)) (same_row_end at row)

    same_row_end : (at : ℕ) (row : Row A) → row_end (layout_of K V E) at (mapped_row f row) ≡ row_end (layout_of K V E) at (mapped_row g row)
    same_row_end at (last c) = same_child_end at c
    same_row_end at (step c x row) = ap (λ e. row_end (layout_of K V E) e (mapped_row f row)) (same_child_end at c) ∙ same_row_end (child_end (layout_of K V E) at (mapped_child g c)) row

    same_child_end : (at : ℕ) (c : Child A) → child_end (layout_of K V E) at (mapped_child f c) ≡ child_end (layout_of K V E) at (mapped_child g c)
    same_child_end at absent = refl
    same_child_end at (child t) = same_tree_end at t

  same_tree_root : (at : ℕ) (t : Tree A) → tree_root (layout_of K V E) at (mapped f t) ≡ tree_root (layout_of K V E) at (mapped g t)
  same_tree_root at (leaf xs) = refl
  same_tree_root at (inner row) = ap (λ e. round_up e (align (layout_of K V E))) (same_row_end at row)

  pub same_child_root : (at : ℕ) (c : Child A) → child_root (layout_of K V E) at (mapped_child f c) ≡ child_root (layout_of K V E) at (mapped_child g c)
  same_child_root at absent = refl
  same_child_root at (child t) = ap Some (same_tree_root at t)

  same_roots : (at : ℕ) (row : Row A) → row_roots (layout_of K V E) at (mapped_row f row) ≡ row_roots (layout_of K V E) at (mapped_row g row)
  same_roots at (last c) = ap (λ r. r ∷ []) (same_child_root at c)
  same_roots at (step c x row) =
      ap (λ r. r ∷ row_roots (layout_of K V E) (child_end (layout_of K V E) at (mapped_child f c)) (mapped_row f row)) (same_child_root at c)
      ∙ (ap (λ e. child_root (layout_of K V E) at (mapped_child g c) ∷ row_roots (layout_of K V E) e (mapped_row f row)) (same_child_end at c)
      ∙ ap (λ rs. child_root (layout_of K V E) at (mapped_child g c) ∷ rs) (same_roots (child_end (layout_of K V E) at (mapped_child g c)) row))

  -- an inner node at the same place with the same children
  inner_alike : (at : ℕ) (xs ys : List OwnBytes) (roots : List (Option ℕ)) → AreOwn K V xs → AreOwn K V ys → length xs ≡ E → length ys ≡ E → length roots ≡ E + 1 →
      AreAlike (inner_image (layout_of K V E) at xs roots) (inner_image (layout_of K V E) at ys roots)
  inner_alike at xs ys roots own other full filled whole =
      let start = round_up at (align (layout_of K V E)) in
      alike_both (padding (align (layout_of K V E)) at) (padding (align (layout_of K V E)) at) _ _ (alike_same (padding (align (layout_of K V E)) at))
      (inner_length K V E k v fits start xs roots own full whole ∙ sym (inner_length K V E k v fits start ys roots other filled whole), refl, tt)

  mutual
    tree_alike : (at : ℕ) (t : Tree A) → HasShape E t → AreAlike (tree_image (layout_of K V E) at (mapped f t)) (tree_image (layout_of K V E) at (mapped g t))
    tree_alike at (leaf xs) h =
        alike_both (padding (align (layout_of K V E)) at) (padding (align (layout_of K V E)) at) _ _ (alike_same (padding (align (layout_of K V E)) at))
        (leaf_bytes_length K V E k v fits (map f xs) (all_own f own_f xs) (omega (arith, length-map xs f, h)) ∙ sym (leaf_bytes_length K V E k v fits (map g xs) (all_own g own_g xs) (omega (arith, length-map xs g, h))), refl, tt)
    tree_alike at (inner row) h =
        let n = layout_of K V E in
        let front = row_entries (mapped_row f row) in
        let back = row_entries (mapped_row g row) in
        let front_is : front ≡ map f (row_entries row) = entries_mapped f row in
        let back_is : back ≡ map g (row_entries row) = entries_mapped g row in
        let full : length front ≡ E = ap length front_is ∙ (length-map (row_entries row) f ∙ h.0) in
        let filled : length back ≡ E = ap length back_is ∙ (length-map (row_entries row) g ∙ h.0) in
        let own : AreOwn K V front = subst (AreOwn K V) (sym front_is) (all_own f own_f (row_entries row)) in
        let other : AreOwn K V back = subst (AreOwn K V) (sym back_is) (all_own g own_g (row_entries row)) in
        let roots = row_roots n at (mapped_row f row) in
        let whole : length roots ≡ E + 1 = omega (arith, length-roots n at (mapped_row f row), full) in
        let node = inner_alike (row_end n at (mapped_row f row)) front back roots own other full filled whole in
        alike_both _ _ _ _ (row_alike at row h.1)
        (subst (λ (e : ℕ). AreAlike (inner_image n (row_end n at (mapped_row f row)) front roots) (inner_image n e back (row_roots n at (mapped_row g row)))) (same_row_end at row)
        (subst (λ (rs : List (Option ℕ)). AreAlike (inner_image n (row_end n at (mapped_row f row)) front roots) (inner_image n (row_end n at (mapped_row f row)) back rs)) (same_roots at row) node))

    row_alike : (at : ℕ) (row : Row A) → RowHasShape E row → AreAlike (row_image (layout_of K V E) at (mapped_row f row)) (row_image (layout_of K V E) at (mapped_row g row))
    row_alike at (last c) h = child_alike at c h
    row_alike at (step c x row) h =
        let n = layout_of K V E in
        alike_both _ _ _ _ (child_alike at c h.0)
        (subst (λ (e : ℕ). AreAlike (row_image n (child_end n at (mapped_child f c)) (mapped_row f row)) (row_image n e (mapped_row g row))) (same_child_end at c) (row_alike (child_end n at (mapped_child f c)) row h.1))

    pub child_alike : (at : ℕ) (c : Child A) → ChildHasShape E c → AreAlike (child_image (layout_of K V E) at (mapped_child f c)) (child_image (layout_of K V E) at (mapped_child g c))
    child_alike at absent h = tt
    child_alike at (child t) h = tree_alike at t h
