-- What a source gives in which each key passes is what its iterator gives, and the keys of the last items.
use Rattle.std.proofs.Common.{◌≡◌, ℕ, zero, suc, ◌+◌, ◌-◌, ◌<◌, List, [], ◌∷◌, ◌++◌, length, Option, None, Some, inl, inr, ap, refl, sym, subst, ◌∙◌, arith}
use Rattle.std.specs.Prelude.{⊤, IsSome}
use Rattle.std.specs.Iterator.{Yields, YieldsThen}
use Rattle.std.specs.List.{slice_get}
use Rattle.std.specs.Option.{option_to_list}
use Rattle.rkyv_btree_archive.specs.declared.items.Source.{Source}
use Rattle.rkyv_btree_archive.specs.mirror.Source.{Gives, key_of, key_before, last_taken}

module _ {A B P L : Type 0} (steps : P → Option (A × B) → P → Type 0) where
  pub any_within : (s : Source P L × Option A) (item : Option (A × B)) (t : Source P L × Option A) → Gives steps (λ (s : L) (last : Option A) (key : A) (t : L). ⊤) (λ (s : L) (last : Option A) (key : A) (t : L). ⊥) s item t → steps s.0.items item t.0.items
  any_within s None t (inl h) = h.0
  any_within s None t (inr h) = absurd h.2
  any_within s (Some x) t h = h.0

module _ {A B : Type 0} where
  pub key_snoc : (before : Option A) (xs : List (A × B)) (x : A × B) → key_before before (xs ++ x ∷ []) ≡ Some x.0
  key_snoc before [] x = refl
  key_snoc before (y ∷ xs) x = key_snoc (Some y.0) xs x

  -- of a leaf that has items nothing that waits counts
  pub key_of_leaf : (waiting waiting2 leaf : List (A × B)) → 0 < length leaf → last_taken waiting leaf ≡ last_taken waiting2 leaf
  key_of_leaf waiting waiting2 [] some = absurd (omega (arith, some))
  key_of_leaf waiting waiting2 (x ∷ leaf) some = refl

  key_at : (before : Option A) (xs : List (A × B)) (x : A × B) (k : ℕ) → k + 1 ≡ length xs → Some x ≡ slice_get xs k → Some x.0 ≡ key_before before xs
  key_at before [] x k n e = absurd (omega (arith, n))
  key_at before (y ∷ []) x zero n e = ap (λ (r : Option (A × B)). key_of r) e
  key_at before (y ∷ []) x (suc k) n e = absurd (omega (arith, n))
  key_at before (y ∷ z ∷ xs) x zero n e = absurd (omega (arith, n))
  key_at before (y ∷ z ∷ xs) x (suc k) n e = key_at (Some y.0) (z ∷ xs) x k (omega (arith, n)) e

  pub key_at_last : (before : Option A) (xs : List (A × B)) (x : A × B) → Some x ≡ slice_get xs (length xs - 1) → Some x.0 ≡ key_before before xs
  key_at_last before [] x e = absurd (cc e)
  key_at_last before (y ∷ xs) x e = key_at before (y ∷ xs) x (length (y ∷ xs) - 1) (omega arith) e

  -- the last item that waits was moved to the leaf's list
  pub moved : (waiting waiting2 rest leaf leaf2 : List (A × B)) (item : A × B) → leaf ≡ [] → waiting ≡ rest ++ item ∷ [] → leaf2 ≡ leaf ++ item ∷ [] → last_taken waiting2 leaf2 ≡ last_taken waiting leaf
  moved waiting waiting2 rest leaf leaf2 item none is pushed =
      let own : leaf2 ≡ item ∷ [] = pushed ∙ ap (λ (xs : List (A × B)). xs ++ item ∷ []) none in
      ap (λ (xs : List (A × B)). last_taken waiting2 xs) own
      ∙ (sym (key_snoc None rest item)
      ∙ (ap (λ (xs : List (A × B)). key_before None xs) (sym is) ∙ ap (λ (xs : List (A × B)). last_taken waiting xs) (sym none)))

  pub same_lists : (waiting waiting2 leaf leaf2 : List (A × B)) → waiting ≡ waiting2 → leaf ≡ leaf2 → last_taken waiting leaf ≡ last_taken waiting2 leaf2
  same_lists waiting waiting2 leaf leaf2 a b = ap (λ (xs : List (A × B)). last_taken xs leaf) a ∙ ap (λ (xs : List (A × B)). last_taken waiting2 xs) b

  -- the leaf's last item is taken out, where none waits
  pub popped : (waiting leaf rest : List (A × B)) (last : Option (A × B)) (n : ℕ) → waiting ≡ [] → leaf ≡ rest ++ option_to_list last → (0 < n → IsSome last) → n ≡ length leaf → last_taken waiting leaf ≡ key_of last
  popped waiting [] rest None n none e some count = ap (λ (xs : List (A × B)). last_taken xs []) none
  popped waiting (x ∷ leaf) rest None n none e some count = absurd (cc (some (omega (arith, count))))
  popped waiting leaf rest (Some x) n none e some count = ap (λ (xs : List (A × B)). last_taken waiting xs) e ∙ key_snoc (key_before None waiting) rest x

-- steps of a source after the last item that was taken
module _ {A B P L : Type 0} (steps : P → Option (A × B) → P → Type 0) (passes stops : L → Option A → A → L → Type 0) where
  pub entry_given : (s t : Source P L) (last key : Option A) (x : A × B) (waiting waiting2 : List (A × B)) → last ≡ key → waiting2 ≡ waiting ++ x ∷ [] → Gives steps passes stops (s, last) (Some x) (t, Some x.0)
      → Gives steps passes stops (s, key) (Some x) (t, key_before None waiting2)
  entry_given s t last key x waiting waiting2 same is h = (
    h.0,
    subst (λ (k : Option A). passes s.look k x.0 t.look) same h.1,
    ap (λ (xs : List (A × B)). key_before None xs) is ∙ key_snoc None waiting x,
  )

  pub none_given : (s t : Source P L) (last key : Option A) → last ≡ key → Gives steps passes stops (s, last) None (t, None) → Gives steps passes stops (s, key) None (t, None)
  none_given s t last key same h = subst (λ (k : Option A). Gives steps passes stops (s, k) None (t, None)) same h

  pub leaf_given : (s t : Source P L) (last key : Option A) (items waiting : List (A × B)) → last ≡ key → key ≡ key_before None waiting → Yields (Gives steps passes stops) (s, last) items (t, key_before last items)
      → Yields (Gives steps passes stops) (s, key) items (t, last_taken waiting items)
  leaf_given s t last key items waiting same is y =
      subst (λ (k : Option A). Yields (Gives steps passes stops) (s, key) items (t, key_before k items)) is
      (subst (λ (k : Option A). Yields (Gives steps passes stops) (s, k) items (t, key_before k items)) same y)

  pub leaf_short : (s t : Source P L) (last key : Option A) (items : List (A × B)) → last ≡ key → YieldsThen (Gives steps passes stops) (s, last) items None (t, None) → YieldsThen (Gives steps passes stops) (s, key) items None (t, None)
  leaf_short s t last key items same y = subst (λ (k : Option A). YieldsThen (Gives steps passes stops) (s, k) items None (t, None)) same y
