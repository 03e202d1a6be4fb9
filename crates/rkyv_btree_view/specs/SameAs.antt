-- Tests of archived values with native ones.
use Rattle.std.specs.Prelude.{◌≡◌, ◌+◌, ◌&&◌, ℕ, Bool, true, List}
use Rattle.std.specs.Cmp.Lexicographic.{pointwise}
use Rattle.rkyv_btree_portable.specs.Kind.{Kind}
use Rattle.rkyv_btree_format.specs.Layout.{layout_of, key_at, value_at}
use Rattle.rkyv_btree_format.specs.Read.{map_tree}
use Rattle.rkyv_btree_portable.specs.Scalars.{unit_kind}
use Rattle.rkyv_btree_format.specs.Units.{with_units}
use Rattle.rkyv_btree_shape.specs.Tree.{list}

-- testing what stands at a position of a buffer with a native value is testing the value there; and where one value is
-- the same as a native one, another is so exactly where both values are the same
pub record TestsSame {N : Type 0} (kind : Kind) (same_at : N → List ℕ → ℕ → Bool) : Type 0 where
  pub same : kind.Value → N → Bool
  pub by_value : (native : N) (b : List ℕ) (at : ℕ) → same_at native b at ≡ same (kind.read b at) native
  pub alike : (native : N) (x y : kind.Value) → same x native ≡ true → same y native ≡ kind.same x y

module _ (K V : Kind) {T U : Type 0} (same_key_at : T → List ℕ → ℕ → Bool) (same_value_at : U → List ℕ → ℕ → Bool) where
  -- what holds of the test of an entry with a native one, whatever functions of values say what tests at positions give
  abbrev pub ByTests : ((K.Value × V.Value → T × U → Bool) → Type 0) → Type 0
  ByTests Holds =
      (same_key : K.Value → T → Bool) (same_value : V.Value → U → Bool)
      → ((n : T) (b : List ℕ) (at : ℕ) → same_key_at n b at ≡ same_key (K.read b at) n)
      → ((n : U) (b : List ℕ) (at : ℕ) → same_value_at n b at ≡ same_value (V.read b at) n)
      → Holds (λ e n. same_key e.0 n.0 && same_value e.1 n.1)

-- what holds of the test of a key with a native one, whatever function of keys says what the test at positions gives
abbrev pub ByKeyTests : (K : Kind) {T : Type 0} → (T → List ℕ → ℕ → Bool) → ((K.Value → T → Bool) → Type 0) → Type 0
ByKeyTests K {T} same_key_at Holds =
    (same_key : K.Value → T → Bool) → ((n : T) (b : List ℕ) (at : ℕ) → same_key_at n b at ≡ same_key (K.read b at) n)
    → Holds same_key

-- whether the entries of the map at a position are as many as native ones, and the same one by one
abbrev pub map_same_at : {T U : Type 0} (K V : Kind) → ℕ → (T → List ℕ → ℕ → Bool) → (U → List ℕ → ℕ → Bool) → List (T × U) → List ℕ → ℕ → Bool
map_same_at K V E same_key_at same_value_at natives b at =
    let s = layout_of K V E in
    pointwise (λ e n. same_key_at n.0 b (e.0 + key_at s e.1) && same_value_at n.1 b (e.0 + value_at s e.1)) (list (map_tree s b at)) natives

-- the same of a set's keys: the map's test, in which a () is always the same
abbrev pub set_same_at : {T : Type 0} (K : Kind) → ℕ → (T → List ℕ → ℕ → Bool) → List T → List ℕ → ℕ → Bool
set_same_at K E same_key_at natives b at = map_same_at K unit_kind E same_key_at (λ (unit : Unit {0}) b at. true) (with_units natives) b at
