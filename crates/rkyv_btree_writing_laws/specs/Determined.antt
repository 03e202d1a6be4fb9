-- Where what values mean determines, with positions, how they are archived.
use Rattle.std.specs.Prelude.{◌≡◌, ℕ, List}
use Rattle.rkyv_btree_writer.specs.Archiving.{Archival}
use Rattle.rkyv_btree_writer.specs.Writing.{Write}

-- what a value means and a position determine its writes and what serialising tells; that, its meaning and a place
-- determine its own bytes. How the value lies in memory is no matter
pub record IsDetermined {X R : Type 0} (T : Archival X R) : Type 0 where
  pub serialised : (x y : X) (from : ℕ) (writes others : List Write) (r q : R) → T.meaning x ≡ T.meaning y
      → T.Writes x from writes r → T.Writes y from others q → (writes ≡ others) × (r ≡ q)
  pub resolved : (x y : X) (r : R) (at : ℕ) (own other : List ℕ) → T.meaning x ≡ T.meaning y → T.Resolves x r at own → T.Resolves y r at other → own ≡ other
