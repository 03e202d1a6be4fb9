-- The items that an iterator over lines gives are those of the lines.
use Rattle.std.proofs.Common.{◌≡◌, ℕ, ◌+◌, List, [], ◌∷◌, ◌++◌, length, Option, Some, None, IfSome, refl, sym, ap, subst, ◌∙◌, arith}
use Rattle.std.specs.Iterator.{Yields, Drains}
use Rattle.btreearc_lines.specs.Grammar.{AreEach, lines}
use Rattle.btreearc_lines.specs.Reading.{GivesItem, TakesLine}
use Rattle.rkyv_btree_archive.specs.TryBuilding.{OkSteps}

-- lines are these items in one way, since each is one item alone
module _ {X : Type 0} (Is : List ℕ → X → Type 0) (once : (line : List ℕ) (x y : X) → Is line x → Is line y → x ≡ y) where
  -- the first line is the first item
  first_taken : (line : List ℕ) (ls : List (List ℕ)) (x : X) (items : List X) → AreEach Is (line ∷ ls) items → Is line x → (later : List X) × (items ≡ x ∷ later) × AreEach Is ls later
  first_taken line ls x [] are is = absurd are
  first_taken line ls x (y ∷ ys) are is = (ys, ap (λ (z : X). z ∷ ys) (once line y x are.0 is), are.1)

  module _ {S : Type 0} (left : S → ℕ) (known : S → Option (List ℕ)) where
    abbrev pub Steps : S → Option X → S → Type 0
    Steps = OkSteps (GivesItem Is left known)

    -- the lines of the known bytes that are left are these items
    pub record Left (s : S) (items : List X) : Type 0 where
      pub bytes : List ℕ
      pub is : known s ≡ Some bytes
      pub are : AreEach Is (lines bytes) items
      pub count : left s ≡ length items

    left_after : (s t : S) (x : X) (items : List X) (bytes : List ℕ) (new : Option (List ℕ)) → known t ≡ new → AreEach Is (lines bytes) items → left s ≡ length items → left s ≡ left t + 1 → TakesLine (λ line. Is line x) (Some bytes) new → (later : List X) × (items ≡ x ∷ later) × Left t later
    left_after s t x items bytes None there are count more h = absurd h
    left_after s t x items bytes (Some rest) there are count more h =
        let first = first_taken h.0 (lines rest) x items (subst (λ (ls : List (List ℕ)). AreEach Is ls items) h.1 are) h.2 in
        (first.0, first.1, record { bytes = rest; is = there; are = first.2; count = omega (arith, count, more, ap length first.1) })

    pub one_taken : (s t : S) (x : X) (items : List X) → Left s items → Steps s (Some x) t → (later : List X) × (items ≡ x ∷ later) × Left t later
    one_taken s t x items l h =
        left_after s t x items l.bytes (known t) refl l.are l.count h.0 (subst (λ (o : Option (List ℕ)). TakesLine (λ line. Is line x) o (known t)) l.is h.1)

    -- items that came are the first of those of the lines
    pub all_taken : (s : S) (came : List X) (t : S) (items : List X) → Left s items → Yields Steps s came t → (later : List X) × (items ≡ came ++ later) × Left t later
    all_taken s [] t items l y = (items, refl, subst (λ z. Left z items) y l)
    all_taken s (x ∷ came) t items l y =
        let one = one_taken s y.0 x items l y.1 in
        let more = all_taken y.0 came t one.0 one.2 y.2 in
        (more.0, one.1 ∙ ap (λ (es : List X). x ∷ es) more.1, more.2)

    none_later : (later : List X) → length later ≡ 0 → later ≡ []
    none_later [] none = refl
    none_later (x ∷ xs) none = absurd (omega (arith, none))

    append_none : (xs ys : List X) → ys ≡ [] → xs ++ ys ≡ xs
    append_none [] ys none = none
    append_none (x ∷ xs) ys none = ap (λ (es : List X). x ∷ es) (append_none xs ys none)

    -- all that came are the items of the lines
    pub drained : (s : S) (came : List X) (items : List X) → Left s items → Drains Steps s came → came ≡ items
    drained s came items l d =
        let taken = all_taken s came d.1.0 items l d.1.1 in
        let none : length taken.0 ≡ 0 = omega (arith, taken.2.count, d.1.2) in
        sym (taken.1 ∙ append_none came taken.0 (none_later taken.0 none))

    -- whatever holds of the items of the lines that are left
    pub by_items : {Q : List X → Type 0} (given : Option (List ℕ)) (s : S) (count : ℕ) → known s ≡ given → left s ≡ count → ((items : List X) → Left s items → count ≡ length items → Q items) → IfSome given (λ bytes. (items : List X) → AreEach Is (lines bytes) items → count ≡ length items → Q items)
    by_items None s count is of prove = tt
    by_items (Some bytes) s count is of prove = λ items are number. prove items (record { bytes = bytes; is = is; are = are; count = of ∙ number }) number
