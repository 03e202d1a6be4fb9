-- Values that are written as text.
use Rattle.std.specs.Prelude.{◌≡◌, ℕ, List}
use Rattle.std.specs.declared.cmp.Ordering.{Ordering}
use Rattle.btreekv_items.specs.Bytes.{AreBytes}
use Rattle.btreekv_items.specs.declared.item.BytesStyle.{BytesStyle}
use Rattle.rkyv_btree_portable.specs.Kind.{Kind}
use Rattle.rkyv_btree_writer.specs.Archiving.{Archival, Matches}

-- values of a type that have the same text are the same
abbrev pub IsSpelledApart : {Value : Type 0} → (Value → Type 0) → (BytesStyle → Value → List ℕ) → Type 0
IsSpelledApart {Value} IsValue spelling =
    (style : BytesStyle) (x y : Value) → IsValue x → IsValue y → spelling style x ≡ spelling style y → x ≡ y

-- values are those of a kind, one for one: what is read, what bytes mean, what native values mean as they are archived, and how
-- all these are ordered
pub record SameValues {X R Value : Type 0} (T : Archival X R) (kind : Kind) (IsValue : Value → Type 0) (order : Value → Value → Ordering)
    (value_at : List ℕ → ℕ → Value) (native_value : X → Value) (native_order : X → X → Ordering) : Type 0 where
  pub same : Matches T.kind kind
  pub to : kind.Value → Value
  pub from : Value → kind.Value
  pub from_to : (v : kind.Value) → from (to v) ≡ v
  pub to_from : (x : Value) → to (from x) ≡ x
  pub read : (b : List ℕ) (at : ℕ) → value_at b at ≡ to (kind.read b at)
  pub meant : (b : List ℕ) (lo hi at left : ℕ) (v : kind.Value) → AreBytes b → kind.Means b lo hi at left v → IsValue (to v)
  pub native : (x : X) → native_value x ≡ to (same.to (T.meaning x))
  pub ordered : (v w : kind.Value) → kind.order v w ≡ order (to v) (to w)
  pub natively : (x y : X) → native_order x y ≡ order (native_value x) (native_value y)
