-- It follows the code: two lists are walked together, and what differs is written as lines.
use Rattle.std.specs.Prelude.{◌≡◌, ℕ, Bool, bytes_eq, cond, List, [], String, string_bytes}
use Rattle.std.specs.declared.alloc.Global.{Global}
use Rattle.std.specs.declared.cmp.Ordering.{Ordering}
use Rattle.rkyv_btree_update.specs.Updated.{all_put, changes_meant}
use Rattle.rkyv_btree_update.specs.mirror.Compared.{compared}
use Rattle.rkyv_btree_update.specs.declared.change.Change.TheVariants.{Put}
use Rattle.btreekv_commands.specs.Changing.{change_line, changes_text}
use Rattle.btreekv_types.specs.Typed.{Items}

-- an entry of texts, with a native key beside the text of the key
abbrev pub Keyed : Type 0 → Type 0
Keyed T = (T × String Global) × String Global

-- native keys are those of a type, and have the texts beside them
abbrev pub keyed : {T A : Type 0} → (A → Type 0) → (A → List ℕ) → (T → A) → Items (T × String Global)
keyed IsValue spelling value = record { IsValue = λ k. IsValue (value k.0) × (spelling (value k.0) ≡ string_bytes k.1); text = λ k. string_bytes k.1 }

abbrev pub by_native : {T : Type 0} → (T → T → Ordering) → T × String Global → T × String Global → Ordering
by_native cmp x y = cmp x.0 y.0

abbrev pub same_text : String Global → String Global → Bool
same_text x y = bytes_eq (string_bytes x) (string_bytes y)

-- the line by which a key has a new text, if that isn't the old one
abbrev pub other_line : (key old new : List ℕ) → List ℕ
other_line key old new = cond (bytes_eq old new) [] (change_line (key, Put new))

-- the lines that put entries
abbrev pub put_lines : {T : Type 0} → List (Keyed T) → List ℕ
put_lines n = changes_text (changes_meant (λ k. string_bytes k.1) string_bytes (all_put n))

-- the lines of the changes between two lists of such entries
abbrev pub lines_between : {T : Type 0} → (T → T → Ordering) → List (Keyed T) → List (Keyed T) → List ℕ
lines_between cmp m n = changes_text (changes_meant (λ k. string_bytes k.1) string_bytes (compared (by_native cmp) same_text m n))

-- and between two lists of keys with values as texts
abbrev pub lines_of_texts : {A : Type 0} → (A → A → Ordering) → (A → List ℕ) → List (A × List ℕ) → List (A × List ℕ) → List ℕ
lines_of_texts order spelling m n = changes_text (changes_meant spelling (λ t. t) (compared order bytes_eq m n))
