-- The text of entries that an iterator gives, one more at a time.
use Rattle.std.proofs.Common.{◌≡◌, ℕ, List, [], ◌∷◌, ◌++◌, map, Option, Some, None, Ok, Err, length, IfSome, refl, sym, ap, subst, ◌∙◌, append_assoc}
use Rattle.std.proofs.lemmas.List.{map_push, append-nil}
use Rattle.std.specs.Io.KnownBytes.{Appends}
use Rattle.std.specs.declared.alloc.AllocError.{AllocError}
use Rattle.rkyv_btree_writer.specs.declared.fault.Fault.{Fault}
use Rattle.btreearc_lines.specs.Grammar.{line, text_of}
use Rattle.btreearc_lines.specs.Headings.{IsHeaded}
use Rattle.btreearc_lines.specs.declared.fault.ProgramFault.{ProgramFault}
use Rattle.btreearc_lines.specs.declared.fault.ProgramFault.TheVariants.{Usage, Line, Refused, Misheaded, NotBuilt, InputFailed, OutputFailed, Memory}
use Rattle.btreearc_lines.specs.declared.heading.Heading.{Heading}
use Rattle.btreearc_commands.specs.Archive.{IsArchived, IsBuildFault, IsUnbuilt}
use Rattle.btreearc_commands.specs.Commands.{Migrates, last_values, total}
use Rattle.btreearc_commands.specs.Opening.{IsArchive, IsInput, numbers_name}

text-append : (xs ys : List (ℕ × ℕ)) → text_of (xs ++ ys) ≡ text_of xs ++ text_of ys
text-append [] ys = refl
text-append (x ∷ xs) ys = ap (λ z. line x ++ z) (text-append xs ys) ∙ sym (append_assoc (line x) (text_of xs) (text_of ys))

pub text_more : {X : Type 0} (means : X → ℕ × ℕ) (items : List X) (x : X) (old text new : List ℕ) (key value : ℕ) → text ≡ old ++ text_of (map means items) → new ≡ text ++ line (key, value) → key ≡ (means x).0 → value ≡ (means x).1 → new ≡ old ++ text_of (map means (items ++ x ∷ []))
text_more means items x old text new key value before is key_is value_is =
    let entry : line (key, value) ≡ text_of (means x ∷ []) = ap (λ k. line (k, value)) key_is ∙ (ap (λ v. line ((means x).0, v)) value_is ∙ sym (append-nil (line (means x)))) in
    is ∙ (ap (λ z. z ++ line (key, value)) before
    ∙ (append_assoc old (text_of (map means items)) (line (key, value))
    ∙ ap (λ z. old ++ z) (ap (λ z. text_of (map means items) ++ z) entry ∙ (sym (text-append (map means items) (means x ∷ [])) ∙ ap text_of (sym (map_push means items x))))))

pub from_nothing : (old text more : List ℕ) → old ≡ [] → text ≡ old ++ more → text ≡ more
from_nothing old text more none is = is ∙ ap (λ z. z ++ more) none

-- what was written of an input that is known
pub output_listed : (input old new : Option (List ℕ)) (archive text : List ℕ) (entries : List (ℕ × ℕ)) → IfSome input (λ bytes. archive ≡ bytes) → IsInput archive entries → text ≡ text_of entries → Appends old new text → IfSome input (λ bytes. (xs : List (ℕ × ℕ)) × IsInput bytes xs × Appends old new (text_of xs))
output_listed None old new archive text entries is opened listed written = tt
output_listed (Some bytes) old new archive text entries is opened listed written =
    (entries, subst (λ (b : List ℕ). IsInput b entries) is opened, subst (λ (z : List ℕ). Appends old new z) listed written)

pub output_counted : (input old new : Option (List ℕ)) (archive text : List ℕ) (entries : List (ℕ × ℕ)) → IfSome input (λ bytes. archive ≡ bytes) → IsInput archive entries → text ≡ total (length entries) → Appends old new text → IfSome input (λ bytes. (xs : List (ℕ × ℕ)) × IsInput bytes xs × Appends old new (total (length xs)))
output_counted None old new archive text entries is opened counted written = tt
output_counted (Some bytes) old new archive text entries is opened counted written =
    (entries, subst (λ (b : List ℕ). IsInput b entries) is opened, subst (λ (z : List ℕ). Appends old new z) counted written)

module _ (heading : Heading) (archive : List ℕ) (entries : List (ℕ × ℕ)) (headed : IsHeaded numbers_name archive heading) (opened : IsArchive archive entries) where
  pub output_migrated : (input old new : Option (List ℕ)) (made : List ℕ) → IfSome input (λ bytes. archive ≡ bytes) → IsArchived heading made (last_values entries) → Appends old new made → Migrates input old new (Ok 0)
  output_migrated None old new made is a written = (refl, tt)
  output_migrated (Some bytes) old new made is a written = (
    refl,
    (
      entries,
      heading,
      subst (λ (b : List ℕ). IsHeaded numbers_name b heading) is headed,
      subst (λ (b : List ℕ). IsArchive b entries) is opened,
      subst (λ (z : List ℕ). IsArchived heading z (last_values entries)) a.exact a,
      subst (λ (z : List ℕ). Appends old new z) a.exact written,
    ),
  )

  unbuilt_of : (input : Option (List ℕ)) (fault : Fault AllocError) → IfSome input (λ bytes. archive ≡ bytes) → IsUnbuilt heading (last_values entries) fault
      → IfSome input (λ bytes. (entries : List (ℕ × ℕ)) × (heading : Heading) × IsHeaded numbers_name bytes heading × IsArchive bytes entries × IsUnbuilt heading (last_values entries) fault)
  unbuilt_of None fault is h = tt
  unbuilt_of (Some bytes) fault is h = (entries, heading, subst (λ (b : List ℕ). IsHeaded numbers_name b heading) is headed, subst (λ (b : List ℕ). IsArchive b entries) is opened, h)

  pub migrate_fails : (input old : Option (List ℕ)) (fault : ProgramFault) → IfSome input (λ bytes. archive ≡ bytes) → IsBuildFault heading (last_values entries) fault → Migrates input old old (Err fault)
  migrate_fails input old (NotBuilt fault) is h = (unbuilt_of input fault is h, refl)
  migrate_fails input old (Refused r) is h = absurd h
  migrate_fails input old (Misheaded f) is h = absurd h
  migrate_fails input old Usage is h = absurd h
  migrate_fails input old (Line n) is h = absurd h
  migrate_fails input old InputFailed is h = absurd h
  migrate_fails input old OutputFailed is h = absurd h
  migrate_fails input old Memory is h = absurd h
