-- Triples as text.
use Rattle.std.specs.Prelude.{ℕ, List, ◌∷◌, ◌++◌}
use Rattle.btreekv_items.specs.Pairs.{IsPairOf, pair_at}
use Rattle.btreekv_items.specs.declared.item.BytesStyle.{BytesStyle}

module _ {A B C : Type 0} where
  abbrev pub IsTripleOf : (A → Type 0) → (B → Type 0) → (C → Type 0) → (A × B) × C → Type 0
  IsTripleOf IsFirst IsSecond IsThird = IsPairOf (IsPairOf IsFirst IsSecond) IsThird

  -- the three texts with commas between
  abbrev pub triple_text : (BytesStyle → A → List ℕ) → (BytesStyle → B → List ℕ) → (BytesStyle → C → List ℕ) → BytesStyle → (A × B) × C → List ℕ
  triple_text first second third style triple = first style triple.0.0 ++ 44 ∷ (second style triple.0.1 ++ 44 ∷ third style triple.1)

  -- the triple at a position: the first, and the second and the third so many bytes after it
  abbrev pub triple_at : ℕ → ℕ → (List ℕ → ℕ → A) → (List ℕ → ℕ → B) → (List ℕ → ℕ → C) → List ℕ → ℕ → (A × B) × C
  triple_at offset offset2 first second third = pair_at offset2 (pair_at offset first second) third
