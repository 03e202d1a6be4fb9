-- Types whose values lie in their own bytes alone.
use Rattle.std.specs.Prelude.{◌≡◌, ℕ, Bool, true, IsTrue, List, Some, None, if◌then◌else◌}
use Rattle.std.specs.declared.cmp.Ordering.{Ordering}
use Rattle.rkyv_btree_portable.specs.Bytes.{bytes_at}
use Rattle.rkyv_btree_portable.specs.Kind.{Kind, Leaves}
use Rattle.rkyv_btree_portable.specs.Standing.{Lies, if_placed}

-- a type whose values lie in their own bytes: what these bytes mean, and which of them are a value
pub record Plain : Type 1 where
  pub Value : Type 0
  pub size : ℕ
  pub align : ℕ
  pub is_value : List ℕ → Bool
  pub value : List ℕ → Value
  pub same : Value → Value → Bool
  pub order : Value → Value → Ordering
  pub hash_input : Value → List (List ℕ)

-- the own bytes are a value, this one, and the window is left as it was
pub record MeansPlainly (plain : Plain) (buf : List ℕ) (lo hi at left : ℕ) (v : plain.Value) : Type 0 where
  pub lies : Lies buf plain.size plain.align lo hi at left
  pub unmoved : left ≡ lo
  pub is_value : IsTrue (plain.is_value (bytes_at buf at plain.size))
  pub value : v ≡ plain.value (bytes_at buf at plain.size)

abbrev pub plain_leaves : Plain → Leaves
plain_leaves plain buf lo hi at = if_placed buf plain.size plain.align at (if plain.is_value (bytes_at buf at plain.size) then Some lo else None)

abbrev pub plain_kind : Plain → Kind
plain_kind plain = record {
  Value = plain.Value;
  size = plain.size;
  align = plain.align;
  is_fitting = true;
  Means = MeansPlainly plain;
  leaves = plain_leaves plain;
  read = λ buf at. plain.value (bytes_at buf at plain.size);
  same = plain.same;
  order = plain.order;
  hash_input = plain.hash_input;
}
