-- What `set` writes of an archive.
use Rattle.std.proofs.Common.{◌≡◌, ℕ, Bool, true, false, List, Option, Some, None, IfSome, MatchOption, ◌++◌, length, take, drop, refl, subst, ◌∙◌, arith}
use Rattle.std.proofs.lemmas.List.{take_all, take-append-le}
use Rattle.std.specs.Io.KnownBytes.{Appends}
use Rattle.btreearc_commands.specs.Commands.{IsSetOut}
use Rattle.btreearc_commands.specs.Opening.{IsInput, place_in_archive}
use Rattle.btreearc_commands.specs.Setting.{IsSet, SetsValue}

-- a buffer whose whole slice was written is what was written
pub written_back : (len : ℕ) (made before : List ℕ) → length made ≡ len → length before ≡ len → take len (made ++ drop (length made) before) ≡ made
written_back len made before long all = take-append-le len made (drop (length made) before) (omega arith) ∙ take_all len made (omega arith)

module _ (key value : ℕ) (entries : List (ℕ × ℕ)) (archive made : List ℕ) where
  -- if an entry was set, the archive made is written
  written : (old new : Option (List ℕ)) (ended : Bool) (place : Option (ℕ × ℕ)) → ended ≡ true → Appends old new made → MatchOption place ((ended ≡ false) × (made ≡ archive)) (λ p. (ended ≡ true) × IsSet key value entries archive p made)
      → MatchOption place ((◌≡◌ {A = ℕ} 0 1) × (new ≡ old)) (λ p. (◌≡◌ {A = ℕ} 0 0) × ((c : List ℕ) × IsSet key value entries archive p c × Appends old new c))
  written old new ended None is appends set = absurd (cc (is, set.0))
  written old new ended (Some p) is appends set = (refl, (made, set.1, appends))

  -- and where it is ended that none was, nothing is
  unwritten : (old : Option (List ℕ)) (ended : Bool) (place : Option (ℕ × ℕ)) → ended ≡ false → MatchOption place ((ended ≡ false) × (made ≡ archive)) (λ p. (ended ≡ true) × IsSet key value entries archive p made)
      → MatchOption place ((◌≡◌ {A = ℕ} 1 1) × (old ≡ old)) (λ p. (◌≡◌ {A = ℕ} 1 0) × ((c : List ℕ) × IsSet key value entries archive p c × Appends old old c))
  unwritten old ended None is set = (refl, refl)
  unwritten old ended (Some p) is set = absurd (cc (is, set.0))

  pub set_out : (old new : Option (List ℕ)) (ended : Bool) → ended ≡ true → Appends old new made → SetsValue key value entries archive made ended → IsSetOut key value entries archive old new 0
  set_out old new ended is appends sets = record {
    written = written old new ended (place_in_archive archive key) is appends sets.set;
    complete = λ ordered. (λ _. (sets.complete ordered).0 is, λ _. refl);
  }

  pub not_set_out : (old : Option (List ℕ)) (ended : Bool) → ended ≡ false → SetsValue key value entries archive made ended → IsSetOut key value entries archive old old 1
  not_set_out old ended is sets = record {
    written = unwritten old ended (place_in_archive archive key) is sets.set;
    complete = λ ordered. (λ one. absurd (cc one), λ there. absurd (cc (is, (sets.complete ordered).1 there)));
  }

-- what was written of an input that is known
pub output_set : (input old new : Option (List ℕ)) (archive : List ℕ) (entries : List (ℕ × ℕ)) (key value status : ℕ) → IfSome input (λ bytes. archive ≡ bytes) → IsInput archive entries → IsSetOut key value entries archive old new status
    → IfSome input (λ bytes. (xs : List (ℕ × ℕ)) × IsInput bytes xs × IsSetOut key value xs bytes old new status)
output_set None old new archive entries key value status is opened set = tt
output_set (Some bytes) old new archive entries key value status is opened set =
    (entries, subst (λ (b : List ℕ). IsInput b entries) is opened, subst (λ (b : List ℕ). IsSetOut key value entries b old new status) is set)
