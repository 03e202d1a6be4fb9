-- An array of N values as an archived type: its elements in a row, which are all of its own bytes.
use Rattle.std.specs.Prelude.{◌≡◌, ℕ, ◌*◌, ◌^◌, ◌&&◌, List, length, Option, nat_lt}
use Rattle.std.specs.Cmp.Lexicographic.{pointwise, slice_cmp}
use Rattle.std.specs.Hash as fed
use Rattle.rkyv_btree_compound.specs.Elements.{Elements, FirstBad, elements_leaves, elements_read}
use Rattle.rkyv_btree_portable.specs.declared.refusal.Refusal.{Refusal}
use Rattle.rkyv_btree_portable.specs.declared.refusal.Refusal.TheVariants.{BadEntry}
use Rattle.rkyv_btree_portable.specs.Kind.{Kind}
use Rattle.rkyv_btree_portable.specs.Refusing.{HasPlace, Misplaced}
use Rattle.rkyv_btree_portable.specs.Standing.{Lies, if_placed}

module _ (T : Kind) (N : ℕ) where
  abbrev pub array_size : ℕ
  array_size = N * T.size

  -- the own bytes of N elements, each in the window that the one before it left
  pub record MeansArray (buf : List ℕ) (lo hi at left : ℕ) (vs : List T.Value) : Type 0 where
    pub lies : Lies buf array_size T.align lo hi at left
    pub count : length vs ≡ N
    pub elements : Elements T buf lo hi at left vs

  abbrev pub array_leaves : List ℕ → ℕ → ℕ → ℕ → Option ℕ
  array_leaves buf lo hi at = if_placed buf array_size T.align at (elements_leaves T buf N lo hi at)

  -- the refusal of an array that is asked by itself: a case counts only where none before it does
  pub data RefusesArray (buf : List ℕ) (lo hi at : ℕ) : Refusal → Type 0 where
    misplaced_array : {e : Refusal} → Misplaced buf array_size T.align at e → RefusesArray buf lo hi at e
    bad_element : {place : ℕ} → HasPlace buf array_size T.align at → FirstBad T buf N lo hi at place → RefusesArray buf lo hi at (BadEntry place)

  -- an array has fewer than 2 ^ 32 elements, also of such as have no bytes. Arrays are compared and hashed as slices of their elements
  abbrev pub array_kind : Kind
  array_kind = record {
    Value = List T.Value;
    size = array_size;
    align = T.align;
    is_fitting = T.is_fitting && nat_lt N (2 ^ 32) && nat_lt array_size (2 ^ 32);
    Means = MeansArray;
    leaves = array_leaves;
    read = λ buf at. elements_read T buf N at;
    same = pointwise T.same;
    order = slice_cmp T.order;
    hash_input = fed.slice T.hash_input;
  }
