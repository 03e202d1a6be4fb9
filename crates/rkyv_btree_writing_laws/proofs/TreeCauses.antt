-- The causes that archiving a list of entries as a map names are true ones.
use Rattle.std.proofs.Common.{◌≡◌, ℕ, ◌+◌, ◌<◌, ◌≤◌, ◌||◌, Bool, true, false, List, [], ◌∷◌, ◌++◌, length, refl, sym, subst, arith, inl, inr, if◌then◌else◌, None}
use Rattle.std.proofs.lemmas.Bool.Decides.{nat_tests}
use Rattle.std.specs.Int.{w32, to_le_bytes}
use Rattle.rkyv_btree_writing_laws.specs.Imaged.{ChildImage, ChildBegins}
use Rattle.rkyv_btree_writing_laws.specs.TreeArchival.{nodes, tree_archival, IsRoot}
use Rattle.rkyv_btree_portable.specs.Bytes.{Holds}
use Rattle.rkyv_btree_portable.specs.laws.Holding.{Holds-front, Holds-back}
use Rattle.rkyv_btree_shape.specs.Plan.{planned_alone}
use Rattle.rkyv_btree_writing_laws.specs.Image.{root_bytes, root_reaches}
use Rattle.std.specs.Prelude.{Result, Ok, Err, IsOk, OnOk, ◌↔◌}
use Rattle.rkyv_btree_writer.specs.Archiving.{Archival}
use Rattle.rkyv_btree_writer.specs.Causes.{GoesOn}
use Rattle.rkyv_btree_writer.specs.Fields.{AllFit, AllInside, AllHeld, HasLong, lengths_of, a_pointer}
use Rattle.rkyv_btree_writer.specs.Pointers.{FitsOffset, offset_fits, pointer, no_pointer}
use Rattle.rkyv_btree_writer.specs.Writing.{Write, last_end}
use Rattle.rkyv_btree_writing_laws.proofs.Accepting.{reached}

-- a pointer that is in reach passes the test
in_reach : (at root : ℕ) → FitsOffset at root → offset_fits at root ≡ true
in_reach at root h = let low = h.0 in let high = h.1 in grind (arith, nat_tests)

-- the pointer of a map's own bytes, where z says that there is none
module _ (at root : ℕ) where
  pub pointer_fits : (z : Bool) → (z || offset_fits at root) ≡ true → AllFit (if z then [] else a_pointer at root ∷ [])
  pointer_fits true h = tt
  pointer_fits false h = (reached at root h, tt)

  pub fits_pointer : (z : Bool) → AllFit (if z then [] else a_pointer at root ∷ []) → (z || offset_fits at root) ≡ true
  fits_pointer true h = refl
  fits_pointer false h = in_reach at root h.0

  pub pointer_inside : (z : Bool) → AllInside at 8 (if z then [] else a_pointer at root ∷ [])
  pointer_inside true = tt
  pointer_inside false = (omega arith, omega arith, tt)

  pub pointer_held : (b : List ℕ) (len : ℕ) (z : Bool) → Holds b at ((if z then no_pointer else pointer at root) ++ to_le_bytes w32 len) → Holds b (at + 4) (to_le_bytes w32 len) × AllHeld b (if z then [] else a_pointer at root ∷ [])
  pointer_held b len true h = (Holds-back b at no_pointer (to_le_bytes w32 len) h, tt)
  pointer_held b len false h = (Holds-back b at (pointer at root) (to_le_bytes w32 len) h, (Holds-front b at (pointer at root) (to_le_bytes w32 len) h, tt))

  -- the only length is that of the map
  pub one_length : (len : ℕ) (others : List ℕ) (z : Bool) → HasLong (len ∷ lengths_of (if z then [] else a_pointer at root ∷ [])) → HasLong (len ∷ others)
  one_length len others z (inl h) = inl h
  one_length len others true (inr h) = absurd h
  one_length len others false (inr h) = absurd h

-- the own bytes of a map that was resolved are a map's
pub root_is : {T F : Type 0} (at root len : ℕ) (own : List ℕ) (result : Result T F) → OnOk result (own ≡ root_bytes at root len) → (IsOk result ↔ ((len ≤ last_end) × (root_reaches at root len ≡ true))) → OnOk result (IsRoot at root len own)
root_is at root len own (Ok value) bytes fits = let h = fits.0 refl in record { few = h.0; reaches = h.1; bytes = bytes }
root_is at root len own (Err fault) bytes fits = tt

-- a map of entries asks for memory, and one of none writes nothing
module _ {X M N R S : Type 0} (E : ℕ) (K : Archival M R) (V : Archival N S) (entries : X → List (M × N)) where
  pub tree_goes : (x : X) (from : ℕ) (xs : List (M × N)) → entries x ≡ xs → GoesOn (tree_archival E K V entries) x from []
  tree_goes x from [] none = inl ([], 0, (None, subst (λ (ys : List (M × N)). ChildImage (nodes E K V) K V from (planned_alone E ys) [] None) (sym none) (refl, refl), refl))
  tree_goes x from (e ∷ es) some = inr (inr (inr (subst (λ (ys : List (M × N)). 0 < length ys) (sym some) (omega arith))))

  pub tree_begun : (x : X) (from : ℕ) (writes : List Write) (xs : List (M × N)) → entries x ≡ xs → ChildBegins (nodes E K V) K V from (planned_alone E xs) writes → GoesOn (tree_archival E K V entries) x from writes
  tree_begun x from writes [] none h = absurd h
  tree_begun x from writes (e ∷ es) some h = inr (inr (inr (subst (λ (ys : List (M × N)). 0 < length ys) (sym some) (omega arith))))
