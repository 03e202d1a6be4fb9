-- The entries that an iterator over lines gives are those of the lines.
use Rattle.std.proofs.Common.{◌≡◌, ℕ, ◌+◌, List, [], ◌∷◌, ◌++◌, length, map, Option, Some, None, IfSome, refl, sym, ap, subst, ◌∙◌, arith}
use Rattle.std.specs.Iterator.{Yields, Drains}
use Rattle.btreearc_lines.specs.Grammar.{lines}
use Rattle.rkyv_btree_archive.specs.TryBuilding.{OkSteps}
use Rattle.rkyv_btree_writing_laws.specs.Entries.{both_borrowed}
use Rattle.btreekv_commands.specs.Lines.{Entry, IsEntry, AreEntries, AreLines}
use Rattle.btreekv_commands.specs.Reading.{GivesEntry, TakesEntry}
use Rattle.btreekv_commands.proofs.Splitting.{entry_parts}

same_entry : (line : List ℕ) (x y : Entry) → IsEntry line x → IsEntry line y → x ≡ y
same_entry line x y is other =
    let parts = entry_parts line x.0 x.1 is.spelled is.tab y other in
    ap (λ (k : List ℕ). (k, x.1)) parts.0 ∙ ap (λ (v : List ℕ). (y.0, v)) parts.1

-- the first line is the first entry
first_taken : (line : List ℕ) (ls : List (List ℕ)) (x : Entry) (entries : List Entry) → AreEntries (line ∷ ls) entries → IsEntry line x → (later : List Entry) × (entries ≡ x ∷ later) × AreEntries ls later
first_taken line ls x [] are is = absurd are
first_taken line ls x (y ∷ ys) are is = (ys, ap (λ (z : Entry). z ∷ ys) (same_entry line y x are.0 is), are.1)

-- entries whose texts are taken as they are
pub map_same : (xs : List Entry) → map (λ x. (x.0, x.1)) xs ≡ xs
map_same [] = refl
map_same (x ∷ xs) = ap (λ (es : List Entry). x ∷ es) (map_same xs)

module _ {S : Type 0} (left : S → ℕ) (known : S → Option (List ℕ)) where
  abbrev pub Steps : S → Option Entry → S → Type 0
  Steps = OkSteps (GivesEntry left known)

  -- the lines of the known bytes that are left are these entries
  pub record Left (s : S) (entries : List Entry) : Type 0 where
    pub bytes : List ℕ
    pub is : known s ≡ Some bytes
    pub are : AreLines bytes entries
    pub count : left s ≡ length entries

  left_after : (s t : S) (x : Entry) (entries : List Entry) (bytes : List ℕ) (new : Option (List ℕ)) → known t ≡ new → AreLines bytes entries → left s ≡ length entries → left s ≡ left t + 1 → TakesEntry (Some bytes) new x → (later : List Entry) × (entries ≡ x ∷ later) × Left t later
  left_after s t x entries bytes None there are count more h = absurd h
  left_after s t x entries bytes (Some rest) there are count more h =
      let first = first_taken h.0 (lines rest) x entries (subst (λ (ls : List (List ℕ)). AreEntries ls entries) h.1 are) h.2 in
      (first.0, first.1, record { bytes = rest; is = there; are = first.2; count = omega (arith, count, more, ap length first.1) })

  pub one_taken : (s t : S) (x : Entry) (entries : List Entry) → Left s entries → Steps s (Some x) t → (later : List Entry) × (entries ≡ x ∷ later) × Left t later
  one_taken s t x entries l h =
      left_after s t x entries l.bytes (known t) refl l.are l.count h.0 (subst (λ (o : Option (List ℕ)). TakesEntry o (known t) x) l.is h.1)

  -- what an item lends
  abbrev pub lent : Entry → Entry
  lent x = both_borrowed (λ (k : List ℕ). k) (λ (v : List ℕ). v) x

  -- items that came are the first of the entries
  pub all_taken : (s : S) (items : List Entry) (t : S) (entries : List Entry) → Left s entries → Yields Steps s items t → (later : List Entry) × (entries ≡ map lent items ++ later) × Left t later
  all_taken s [] t entries l y = (entries, refl, subst (λ z. Left z entries) y l)
  all_taken s (x ∷ items) t entries l y =
      let one = one_taken s y.0 x entries l y.1 in
      let more = all_taken y.0 items t one.0 one.2 y.2 in
      (more.0, one.1 ∙ ap (λ (es : List Entry). x ∷ es) more.1, more.2)

  none_later : (later : List Entry) → length later ≡ 0 → later ≡ []
  none_later [] none = refl
  none_later (x ∷ xs) none = absurd (omega (arith, none))

  append_none : (xs ys : List Entry) → ys ≡ [] → xs ++ ys ≡ xs
  append_none [] ys none = none
  append_none (x ∷ xs) ys none = ap (λ (es : List Entry). x ∷ es) (append_none xs ys none)

  -- all items are the entries
  pub drained : (s : S) (items : List Entry) (entries : List Entry) → Left s entries → Drains Steps s items → map lent items ≡ entries
  drained s items entries l d =
      let taken = all_taken s items d.1.0 entries l d.1.1 in
      let none : length taken.0 ≡ 0 = omega (arith, taken.2.count, d.1.2) in
      sym (taken.1 ∙ append_none (map lent items) taken.0 (none_later taken.0 none))

  -- whatever holds of the entries of the lines that are left
  pub by_entries : {Q : List Entry → Type 0} (given : Option (List ℕ)) (s : S) (count : ℕ) → known s ≡ given → left s ≡ count → ((entries : List Entry) → Left s entries → count ≡ length entries → Q entries) → IfSome given (λ bytes. (entries : List Entry) → AreLines bytes entries → count ≡ length entries → Q entries)
  by_entries None s count is of prove = tt
  by_entries (Some bytes) s count is of prove = λ entries are number. prove entries (record { bytes = bytes; is = is; are = are; count = of ∙ number }) number
