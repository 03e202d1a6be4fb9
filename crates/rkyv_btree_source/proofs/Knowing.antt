-- What is the same is known of a source that has the same pieces.
use Rattle.std.proofs.Common.{◌≡◌, ℕ, List, Result, Ok, Err, IfErr, subst, sym}
use Rattle.rkyv_btree_source.specs.Known.{Known, AreOf}
use Rattle.rkyv_btree_source.specs.Reading.{IfRead}
use Rattle.rkyv_btree_source.specs.declared.fault.SourceFault.{SourceFault}
use Rattle.rkyv_btree_source.specs.declared.fault.SourceFault.TheVariants.{Refused, Read, NoRoom, OverBudget}

pub of_same : {now then : Known} (b : List ℕ) → now ≡ then → AreOf then b → AreOf now b
of_same b same e = subst (λ k. AreOf k b) (sym same) e

never_read : {E : Type 0} (P : E → Type 0) (fault : SourceFault E) → IfRead (λ e. ⊥) fault → IfRead P fault
never_read P (Refused e) h = tt
never_read P (Read e) h = absurd h
never_read P (NoRoom n) h = tt
never_read P OverBudget h = tt

-- what never reads has no error of a read
pub no_read : {A E : Type 0} (P : E → Type 0) (r : Result A (SourceFault E)) → IfErr r (IfRead (λ e. ⊥)) → IfErr r (IfRead P)
no_read P (Ok a) h = tt
no_read P (Err fault) h = never_read P fault h
