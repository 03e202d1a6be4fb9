-- Entries of lines whose keys are compared one after another.
use Rattle.std.proofs.Common.{◌≡◌, ℕ, ◌+◌, ◌≤◌, List, [], ◌∷◌, ◌++◌, length, Option, Some, None, IfSome, MatchOption, refl, sym, ap, subst, arith, ◌∙◌, append_assoc, append-nil}
use Rattle.std.proofs.lemmas.List.{length-append}
use Rattle.std.specs.Cmp.Lexicographic.{slice_cmp, nat_list_cmp_total}
use Rattle.std.specs.Ordering.{nat_cmp}
use Rattle.std.specs.declared.cmp.Ordering.TheVariants.{Less}
use Rattle.rkyv_btree_format.specs.Increasing.{IsOutOfOrder}
use Rattle.rkyv_btree_format.proofs.Increasing.{nothing, alone, increasing_snoc}
use Rattle.btreekv_commands.specs.Lines.{Entry, AreLines}
use Rattle.btreekv_commands.specs.Opening.{KeysIncrease}
use Rattle.btreekv_commands.proofs.Taken.{Left, Steps, one_taken}

-- the last key is that of the last of these entries
abbrev IsLast : Option (List ℕ) → List Entry → Type 0
IsLast last entries = MatchOption last (entries ≡ []) (λ key. (front : List Entry) × (e : Entry) × (entries ≡ front ++ e ∷ []) × (key ≡ e.0))

grown : (last : Option (List ℕ)) (done : List Entry) (x : Entry) → KeysIncrease done → IsLast last done → IfSome last (λ key. slice_cmp nat_cmp key x.0 ≡ Less) → KeysIncrease (done ++ x ∷ [])
grown None done x increase empty less = subst (λ (zs : List Entry). KeysIncrease (zs ++ x ∷ [])) (sym empty) (alone (slice_cmp nat_cmp) x)
grown (Some key) done x increase (front, e, is, same) less =
    subst (λ (zs : List Entry). KeysIncrease (zs ++ x ∷ [])) (sym is)
    (increasing_snoc nat_list_cmp_total front e x (subst (λ (zs : List Entry). KeysIncrease zs) is increase) (subst (λ (z : List ℕ). slice_cmp nat_cmp z x.0 ≡ Less) same less))

module _ {S : Type 0} (left : S → ℕ) (known : S → Option (List ℕ)) where
  -- so many of the entries have passed, in order
  pub record Passed (s : S) (index : ℕ) (last : Option (List ℕ)) (entries : List Entry) : Type 0 where
    pub done : List Entry
    pub later : List Entry
    pub parts : entries ≡ done ++ later
    pub number : index ≡ length done
    pub left_of : Left left known s later
    pub increase : KeysIncrease done
    pub last_of : IsLast last done

  abbrev pub PassedAll : Option (List ℕ) → ℕ → S → ℕ → Option (List ℕ) → Type 0
  PassedAll given count s index last = IfSome given (λ bytes. (entries : List Entry) → AreLines bytes entries → count ≡ length entries → Passed s index last entries)

  pub none_passed : (given : Option (List ℕ)) (count : ℕ) (s : S) → known s ≡ given → left s ≡ count → PassedAll given count s 0 None
  none_passed None count s is of = tt
  none_passed (Some bytes) count s is of = λ entries are number. record {
    done = [];
    later = entries;
    parts = refl;
    number = refl;
    left_of = record { bytes = bytes; is = is; are = are; count = of ∙ number };
    increase = nothing (List ℕ) (slice_cmp nat_cmp);
    last_of = refl;
  }

  passed_more : (s t : S) (index : ℕ) (last : Option (List ℕ)) (entries : List Entry) (x : Entry) → Passed s index last entries → Steps left known s (Some x) t → IfSome last (λ key. slice_cmp nat_cmp key x.0 ≡ Less) → Passed t (index + 1) (Some x.0) entries
  passed_more s t index last entries x p step less =
      let one = one_taken left known s t x p.later p.left_of step in
      record {
        done = p.done ++ x ∷ [];
        later = one.0;
        parts = p.parts ∙ (ap (λ (es : List Entry). p.done ++ es) one.1 ∙ sym (append_assoc p.done (x ∷ []) one.0));
        number = omega (arith, p.number, length-append p.done (x ∷ []));
        left_of = one.2;
        increase = grown last p.done x p.increase p.last_of less;
        last_of = (p.done, x, refl, refl);
      }

  -- the next key is greater
  pub one_passed : (given : Option (List ℕ)) (count : ℕ) (s t : S) (index : ℕ) (last : Option (List ℕ)) (x : Entry) → PassedAll given count s index last → Steps left known s (Some x) t → IfSome last (λ key. slice_cmp nat_cmp key x.0 ≡ Less) → PassedAll given count t (index + 1) (Some x.0)
  one_passed None count s t index last x p step less = tt
  one_passed (Some bytes) count s t index last x p step less = λ entries are number. passed_more s t index last entries x (p entries are number) step less

  stopped : (s t : S) (index : ℕ) (last : Option (List ℕ)) (entries : List Entry) (x : Entry) → Passed s index last entries → Steps left known s (Some x) t → MatchOption last ⊥ (λ key. ¬ (slice_cmp nat_cmp key x.0 ≡ Less)) → IsOutOfOrder (slice_cmp nat_cmp) entries index
  stopped s t index None entries x p step greater = absurd greater
  stopped s t index (Some key) entries x p step greater =
      let one = one_taken left known s t x p.later p.left_of step in
      let front = p.last_of.0 in
      let before = p.last_of.1 in
      let is : p.done ≡ front ++ before ∷ [] = p.last_of.2 in
      record {
        front = front;
        before = before;
        entry = x;
        back = one.0;
        parts = p.parts ∙ (ap (λ (es : List Entry). p.done ++ es) one.1 ∙ (ap (λ (es : List Entry). es ++ x ∷ one.0) is ∙ append_assoc front (before ∷ []) (x ∷ one.0)));
        number = omega (arith, p.number, ap length is, length-append front (before ∷ []));
        first = subst (λ (es : List Entry). KeysIncrease es) is p.increase;
        not_greater = subst (λ (k : List ℕ). ¬ (slice_cmp nat_cmp k x.0 ≡ Less)) p.last_of.3 greater;
      }

  -- the next key isn't greater
  pub one_stopped : (given : Option (List ℕ)) (count : ℕ) (s t : S) (index : ℕ) (last : Option (List ℕ)) (x : Entry) → PassedAll given count s index last → Steps left known s (Some x) t → MatchOption last ⊥ (λ key. ¬ (slice_cmp nat_cmp key x.0 ≡ Less)) → IfSome given (λ bytes. (entries : List Entry) → AreLines bytes entries → count ≡ length entries → IsOutOfOrder (slice_cmp nat_cmp) entries index)
  one_stopped None count s t index last x p step greater = tt
  one_stopped (Some bytes) count s t index last x p step greater = λ entries are number. stopped s t index last entries x (p entries are number) step greater

  no_more : (xs : List Entry) → length xs ≡ 0 → xs ≡ []
  no_more [] none = refl
  no_more (x ∷ xs) none = absurd (omega (arith, none))

  whole : (s : S) (index : ℕ) (last : Option (List ℕ)) (entries : List Entry) → (p : Passed s index last entries) → length p.later ≡ 0 → KeysIncrease entries
  whole s index last entries p none = subst (λ (es : List Entry). KeysIncrease es) (sym (p.parts ∙ (ap (λ (es : List Entry). p.done ++ es) (no_more p.later none) ∙ append-nil p.done))) p.increase

  -- there is no next entry
  pub all_passed : (given : Option (List ℕ)) (count : ℕ) (s : S) (index : ℕ) (last : Option (List ℕ)) → PassedAll given count s index last → left s ≡ 0 → IfSome given (λ bytes. (entries : List Entry) → AreLines bytes entries → count ≡ length entries → KeysIncrease entries)
  all_passed None count s index last p none = tt
  all_passed (Some bytes) count s index last p none = λ entries are number.
      let here = p entries are number in
      whole s index last entries here (omega (arith, here.left_of.count, none))

  -- all were compared
  pub count_passed : (given : Option (List ℕ)) (count : ℕ) (s : S) (index : ℕ) (last : Option (List ℕ)) → PassedAll given count s index last → count ≤ index → IfSome given (λ bytes. (entries : List Entry) → AreLines bytes entries → count ≡ length entries → KeysIncrease entries)
  count_passed None count s index last p end = tt
  count_passed (Some bytes) count s index last p end = λ entries are number.
      let here = p entries are number in
      whole s index last entries here (omega (arith, here.number, end, number, ap length here.parts, length-append here.done here.later))
