-- One entry more is shown.
use Rattle.std.proofs.Common.{◌≡◌, ℕ, List, [], ◌∷◌, ◌++◌, ◌∙◌, refl, subst, Option, Some, None}
use Rattle.rkyv_btree_portable.specs.Kind.{Kind}
use Rattle.rkyv_btree_ffi.specs.Batches.{IsShown, AreShown, IsEither}
use Rattle.rkyv_btree_ffi.specs.declared.item.BtreeItem.{BtreeItem}
use Rattle.rkyv_btree_ffi.specs.declared.item.BtreeEntry.{BtreeEntry}

module _ (K V : Kind) (SK SV : List ℕ → ℕ → BtreeItem → Type 0) (b : List ℕ) where
  pub shown_more : (places : List (ℕ × ℕ)) (es : List BtreeEntry) (later : List (ℕ × ℕ)) (e : BtreeEntry) (place : ℕ × ℕ) (rest : List (ℕ × ℕ))
      → AreShown K V SK SV b places es later → later ≡ place ∷ rest → IsShown K V SK SV b place e → AreShown K V SK SV b places (es ++ e ∷ []) rest
  shown_more places [] later e place rest h is shown = rw (h ∙ is) (shown, refl)
  shown_more [] (x ∷ es) later e place rest h is shown = absurd h
  shown_more (p ∷ ps) (x ∷ es) later e place rest h is shown = (h.0, shown_more ps es later e place rest h.1 is shown)

  -- the entry at the place that was found
  pub found_some : (o : Option (ℕ × ℕ)) (p : ℕ × ℕ) (e : BtreeEntry) → o ≡ Some p → IsShown K V SK SV b p e → IsEither K V SK SV b o (Some e)
  found_some None p e is shown = absurd (cc is)
  found_some (Some q) p e is shown = let same : p ≡ q = cc is in subst (λ (r : ℕ × ℕ). IsShown K V SK SV b r e) same shown

  pub found_none : (o : Option (ℕ × ℕ)) → o ≡ None → IsEither K V SK SV b o None
  found_none None is = tt
  found_none (Some q) is = absurd (cc is)
