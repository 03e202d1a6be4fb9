-- What the outcome of a test, of a conjunction or of an option tells.
use Rattle.std.specs.Prelude.{◌≡◌, ℕ, ◌&&◌, Bool, true, false, IsTrue, Option, Some, None, is_some, if◌then◌else◌}
use Rattle.std.proofs.Common.{refl, ◌⊎◌, inl, inr}

-- which way a test went
pub chosen : {X : Type 0} (b : Bool) (x y z : X) → (if b then x else y) ≡ z → ((b ≡ true) × (x ≡ z)) ⊎ ((b ≡ false) × (y ≡ z))
chosen true x y z e = inl (refl, e)
chosen false x y z e = inr (refl, e)

-- what a test let through
pub past : (b : Bool) (o : Option ℕ) (left : ℕ) → (if b then None else o) ≡ Some left → (b ≡ false) × (o ≡ Some left)
past true o left e = absurd (cc e)
past false o left e = (refl, e)

pub through : (b : Bool) (o : Option ℕ) (left : ℕ) → (if b then o else None) ≡ Some left → (b ≡ true) × (o ≡ Some left)
through true o left e = (refl, e)
through false o left e = absurd (cc e)

-- a value that a test takes, or another one that it takes
pub taken : (P : ℕ → Type 0) (b : Bool) (n other : ℕ) → (IsTrue b → P n) → P other → P (if b then n else other)
taken P true n other h o = h refl
taken P false n other h o = o

-- the parts of a conjunction
pub both : (a b : Bool) → IsTrue (a && b) → IsTrue a × IsTrue b
both true true h = (h, h)
both true false h = absurd (cc h)
both false b h = absurd (cc h)

pub three : (a b c : Bool) → IsTrue (a && b && c) → IsTrue a × IsTrue b × IsTrue c
three true true c h = (refl, refl, h)
three true false c h = absurd (cc h)
three false b c h = absurd (cc h)

-- what an option holds
pub some_of : {A : Type 0} (o : Option A) → IsTrue (is_some o) → (x : A) × (o ≡ Some x)
some_of None h = absurd (cc h)
some_of (Some x) h = (x, refl)

pub some_or : (o : Option ℕ) → (o ≡ None) ⊎ ((x : ℕ) × (o ≡ Some x))
some_or None = inl refl
some_or (Some x) = inr (x, refl)
