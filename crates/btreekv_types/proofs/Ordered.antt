-- Entries whose keys are compared one after another.
use Rattle.std.proofs.Common.{◌≡◌, ℕ, ◌+◌, ◌-◌, ◌<◌, ◌≤◌, List, [], ◌∷◌, ◌++◌, length, take, drop, get_or, sym, ap, subst, ◌∙◌, arith, append_assoc, length-take}
use Rattle.std.proofs.lemmas.List.{take_more, take-append-drop}
use Rattle.std.specs.Cmp.{IsTotalOrder}
use Rattle.std.specs.declared.cmp.Ordering.{Ordering}
use Rattle.std.specs.declared.cmp.Ordering.TheVariants.{Less}
use Rattle.rkyv_btree_format.specs.Increasing.{Increasing, IsOutOfOrder}
use Rattle.rkyv_btree_format.proofs.Increasing.{alone, increasing_snoc, nothing}

-- a comparison of entries that stand at two places
pub compared : {A B : Type 0} (order : A → A → Ordering) (x y a b : A × B) → x ≡ a → y ≡ b → (o : Ordering) → o ≡ order a.0 b.0 → o ≡ order x.0 y.0
compared {A} {B} order x y a b p q o is = is ∙ (ap (λ (e : A × B). order e.0 b.0) (sym p) ∙ ap (λ (e : A × B). order x.0 e.0) (sym q))

-- the first entry alone
pub first_ordered : {A B : Type 0} (order : A → A → Ordering) (entries : List (A × B)) → Increasing order (take 1 entries)
first_ordered {A} {B} order [] = nothing B order
first_ordered order (e ∷ es) = alone order e

module _ {A B : Type 0} (order : A → A → Ordering) (total : IsTotalOrder order) (entries : List (A × B)) (i : ℕ) (before entry : A × B) (before_is : before ≡ get_or entries (i - 1) before) (entry_is : entry ≡ get_or entries i entry)
    (some : 1 ≤ i) (inside : i < length entries) (up : Increasing order (take i entries)) where
  last_of : take i entries ≡ take (i - 1) entries ++ before ∷ []
  last_of =
      let back : i ≡ i - 1 + 1 = omega (arith, some) in
      ap (λ (n : ℕ). take n entries) back ∙ (take_more entries (i - 1) before (omega (arith, inside)) ∙ ap (λ (e : A × B). take (i - 1) entries ++ e ∷ []) (sym before_is))

  one_more : take (i + 1) entries ≡ (take (i - 1) entries ++ before ∷ []) ++ entry ∷ []
  one_more = take_more entries i entry inside ∙ (ap (λ (e : A × B). take i entries ++ e ∷ []) (sym entry_is) ∙ ap (λ (zs : List (A × B)). zs ++ entry ∷ []) last_of)

  up_to : Increasing order (take (i - 1) entries ++ before ∷ [])
  up_to = subst (λ (zs : List (A × B)). Increasing order zs) last_of up

  -- one more, with a greater key
  pub ordered_more : order before.0 entry.0 ≡ Less → Increasing order (take (i + 1) entries)
  ordered_more less = subst (λ (zs : List (A × B)). Increasing order zs) (sym one_more) (increasing_snoc total (take (i - 1) entries) before entry up_to less)

  -- or the first whose key isn't greater
  pub out_of_order : (order before.0 entry.0 ≡ Less → ⊥) → IsOutOfOrder order entries i
  out_of_order not_less = record {
    front = take (i - 1) entries;
    before = before;
    entry = entry;
    back = drop (i + 1) entries;
    parts =
        sym (take-append-drop (i + 1) entries)
        ∙ (ap (λ (zs : List (A × B)). zs ++ drop (i + 1) entries) one_more
        ∙ (append_assoc (take (i - 1) entries ++ before ∷ []) (entry ∷ []) (drop (i + 1) entries)
        ∙ append_assoc (take (i - 1) entries) (before ∷ []) (entry ∷ drop (i + 1) entries)));
    number = omega (arith, some, length-take (i - 1) entries, inside);
    first = up_to;
    not_greater = not_less;
  }
