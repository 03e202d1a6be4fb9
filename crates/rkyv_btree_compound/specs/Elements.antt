-- Values of one type in a row: so many own bytes one after another from a position on, each value in the window that the one
-- before it left. The elements of a vector are such a row before the vector's own bytes. An array's own bytes are one: for an
-- array of N at `at`, `Elements T buf lo hi at left v` with N values `v`, and `elements_leaves T buf N lo hi at` decides it.
use Rattle.std.specs.Prelude.{◌≡◌, ℕ, zero, suc, ◌+◌, ◌*◌, ◌<◌, List, [], ◌∷◌, length, Option, Some, None}
use Rattle.rkyv_btree_portable.specs.Kind.{Kind}
use Rattle.rkyv_btree_portable.specs.Refusing.{MeansNothing}

-- what is decided of the rest, where something is left
abbrev pub if_left : Option ℕ → (ℕ → Option ℕ) → Option ℕ
if_left None rest = None
if_left (Some next) rest = rest next

module _ (T : Kind) (buf : List ℕ) where
  -- in the window from lo to hi the own bytes from a position on mean these values, and leave the window from left on
  abbrev pub Elements : ℕ → ℕ → ℕ → ℕ → List T.Value → Type 0
  Elements lo hi at left [] = left ≡ lo
  Elements lo hi at left (v ∷ vs) = (next : ℕ) × T.Means buf lo hi at next v × Elements next hi (at + T.size) left vs

  -- the decision of so many
  abbrev pub elements_leaves : ℕ → ℕ → ℕ → ℕ → Option ℕ
  elements_leaves zero lo hi at = Some lo
  elements_leaves (suc n) lo hi at = if_left (T.leaves buf lo hi at) (λ next. elements_leaves n next hi (at + T.size))

  -- the values of so many
  abbrev pub elements_read : ℕ → ℕ → List T.Value
  elements_read zero at = []
  elements_read (suc n) at = T.read buf at ∷ elements_read n (at + T.size)

  -- the first of so many that means nothing is at this place, and those before it mean values
  pub record FirstBad (n lo hi at place : ℕ) : Type 0 where
    pub before : List T.Value
    pub next : ℕ
    pub fewer : length before < n
    pub means : Elements lo hi at next before
    pub here : place ≡ at + length before * T.size
    pub bad : MeansNothing T buf next hi place
