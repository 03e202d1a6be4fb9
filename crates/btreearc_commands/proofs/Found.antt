-- What `get` prints of what a search finds.
use Rattle.std.proofs.Common.{◌≡◌, ℕ, List, [], ◌∷◌, ◌++◌, Option, Some, None, IfSome, refl, subst, decimal}
use Rattle.std.specs.Io.KnownBytes.{Appends}
use Rattle.std.specs.Option.{option_map}
use Rattle.btreearc_commands.specs.Commands.{PrintsValue}
use Rattle.btreearc_commands.specs.Opening.{IsInput, root_of, found_at, found_in_archive}

pub prints_none : (found : Option (ℕ × ℕ)) (old : Option (List ℕ)) → ◌≡◌ {A = Option ℕ} None (option_map (λ e. e.1) found) → PrintsValue found old old 1
prints_none None old is = (refl, refl)
prints_none (Some e) old is = absurd (cc is)

pub prints_some : (found : Option (ℕ × ℕ)) (old new : Option (List ℕ)) (value : ℕ) (text : List ℕ) → Some value ≡ option_map (λ e. e.1) found → text ≡ decimal value ++ 10 ∷ [] → Appends old new text → PrintsValue found old new 0
prints_some None old new value text is line written = absurd (cc is)
prints_some (Some e) old new value text is line written =
    let same : value ≡ e.1 = cc in
    (refl, subst (λ (v : ℕ). Appends old new (decimal v ++ 10 ∷ [])) same (subst (λ (z : List ℕ). Appends old new z) line written))

-- what is printed of an input that is known
pub output_ended : (input old new : Option (List ℕ)) (archive : List ℕ) (entries : List (ℕ × ℕ)) (key status : ℕ) → IfSome input (λ bytes. archive ≡ bytes) → IsInput archive entries → PrintsValue (found_in_archive archive key) old new status
    → IfSome input (λ bytes. (xs : List (ℕ × ℕ)) × IsInput bytes xs × PrintsValue (found_in_archive bytes key) old new status)
output_ended None old new archive entries key status is opened ended = tt
output_ended (Some bytes) old new archive entries key status is opened ended =
    (entries, subst (λ (b : List ℕ). IsInput b entries) is opened, subst (λ (b : List ℕ). PrintsValue (found_in_archive b key) old new status) is ended)

-- what is found at the position of an archive's root is found in the archive
pub found_there : (b archive : List ℕ) (at key : ℕ) → b ≡ archive → at ≡ root_of archive → found_at b at key ≡ found_in_archive archive key
found_there b archive at key same root = rw (same, root) refl
