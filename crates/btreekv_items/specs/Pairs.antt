-- Pairs as text.
use Rattle.std.specs.List.{All}
use Rattle.std.specs.Prelude.{◌≢◌, ℕ, ◌+◌, List, ◌∷◌, ◌++◌}
use Rattle.btreekv_items.specs.declared.item.BytesStyle.{BytesStyle}

-- a text has no comma
abbrev pub HasNoComma : List ℕ → Type 0
HasNoComma text = All (λ byte. byte ≢ 44) text

-- the text of no value has one
abbrev pub IsWithoutComma : {Value : Type 0} → (Value → Type 0) → (BytesStyle → Value → List ℕ) → Type 0
IsWithoutComma {Value} IsValue spelling = (style : BytesStyle) (x : Value) → IsValue x → HasNoComma (spelling style x)

module _ {A B : Type 0} where
  abbrev pub IsPairOf : (A → Type 0) → (B → Type 0) → A × B → Type 0
  IsPairOf IsFirst IsSecond pair = IsFirst pair.0 × IsSecond pair.1

  -- both texts with a comma between
  abbrev pub pair_text : (BytesStyle → A → List ℕ) → (BytesStyle → B → List ℕ) → BytesStyle → A × B → List ℕ
  pair_text first second style pair = first style pair.0 ++ 44 ∷ second style pair.1

  -- the pair at a position: the first, and the second so many bytes after it
  abbrev pub pair_at : ℕ → (List ℕ → ℕ → A) → (List ℕ → ℕ → B) → List ℕ → ℕ → A × B
  pair_at offset first second b at = (first b at, second b (at + offset))
