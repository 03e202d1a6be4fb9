-- Options as text.
use Rattle.std.specs.Prelude.{◌≢◌, ℕ, ◌+◌, List, [], Option, Some, None, nat_eq, slice_index, if◌then◌else◌}
use Rattle.btreekv_items.specs.declared.item.BytesStyle.{BytesStyle}

module _ {Value : Type 0} (IsValue : Value → Type 0) where
  -- no value has the empty text
  abbrev pub IsNeverEmpty : (BytesStyle → Value → List ℕ) → Type 0
  IsNeverEmpty spelling = (style : BytesStyle) (x : Value) → IsValue x → spelling style x ≢ []

  abbrev pub IsOptional : Option Value → Type 0
  IsOptional None = Unit {0}
  IsOptional (Some x) = IsValue x

-- the text of the value, and the empty one for none
abbrev pub optional_text : {Value : Type 0} → (BytesStyle → Value → List ℕ) → BytesStyle → Option Value → List ℕ
optional_text spelling style None = []
optional_text spelling style (Some x) = spelling style x

-- the option at a position: a tag of 1, and the value at its alignment after it, or none
abbrev pub optional_at : {Value : Type 0} → ℕ → (List ℕ → ℕ → Value) → List ℕ → ℕ → Option Value
optional_at align value_at b at = if nat_eq (slice_index b at) 1 then Some (value_at b (at + align)) else None
