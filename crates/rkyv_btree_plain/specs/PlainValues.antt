-- How the values of a native type lie in a fixed number of bytes.
use Rattle.std.specs.Prelude.{◌≡◌, ℕ, ◌<◌, ◌^◌, Bool, IsTrue, List, length}
use Rattle.std.specs.declared.cmp.Ordering.{Ordering}
use Rattle.rkyv_btree_portable.specs.InPlace.{NativeForm}
use Rattle.rkyv_btree_portable.specs.Plain.{Plain}
use Rattle.rkyv_btree_portable.specs.Rounding.{IsAlignment}
use Rattle.rkyv_btree_portable.specs.Standing.{IsAligned}

-- the number of bytes and their alignment, which bytes are a value and which value they are, and the bytes of a value; and
-- what is known of a value in a program: that its fields are in the ranges of their types
pub record PlainLayout (X : Type 0) : Type 1 where
  pub size : ℕ
  pub align : ℕ
  pub is_value : List ℕ → Bool
  pub value : List ℕ → X
  pub bytes : X → List ℕ
  pub IsIn : X → Type 0

-- what a layout owes: the bytes of a value are so many, are a value, and are this one
pub record IsPlainLayout {X : Type 0} (layout : PlainLayout X) : Type 0 where
  pub alignment : IsAlignment layout.align
  pub whole : IsAligned layout.align layout.size
  pub small : layout.size < 2 ^ 32
  pub many : (x : X) → length (layout.bytes x) ≡ layout.size
  pub valid : (x : X) → IsTrue (layout.is_value (layout.bytes x))
  pub back : (x : X) → layout.IsIn x → layout.value (layout.bytes x) ≡ x

-- an archived type of such a layout, whose values are compared, ordered and hashed as the native ones
abbrev pub plain_of : {X : Type 0} → (X → X → Bool) → (X → X → Ordering) → (X → List (List ℕ)) → PlainLayout X → Plain
plain_of {X} same order hash_input layout = record {
  Value = X;
  size = layout.size;
  align = layout.align;
  is_value = layout.is_value;
  value = layout.value;
  same = same;
  order = order;
  hash_input = hash_input;
}

abbrev pub plain_form : {X : Type 0} → (X → X → Bool) → (X → X → Ordering) → (X → List (List ℕ)) → PlainLayout X → NativeForm X
plain_form same order hash_input layout =
    record { plain = plain_of same order hash_input layout; own_bytes = layout.bytes; IsIn = layout.IsIn; meaning = λ x. x }
