-- Bytes that are written in turn.
use Rattle.std.proofs.Common.{◌≡◌, ℕ, ◌≤◌, List, [], ◌++◌, take, length, ap, sym, ◌∙◌, append_assoc}
use Rattle.std.proofs.lemmas.List.{append-nil, take_all}

pub and_then : (old one two first rest : List ℕ) → one ≡ old ++ first → two ≡ one ++ rest → two ≡ old ++ (first ++ rest)
and_then old one two first rest is more = more ∙ (ap (λ z. z ++ rest) is ∙ append_assoc old first rest)

-- all items are taken, and nothing is written later
pub nothing_later : {X : Type 0} (written : List X → List ℕ) (old new : List ℕ) (items : List X) (n : ℕ) → written [] ≡ [] → length items ≤ n → ((later : List X) → new ++ written later ≡ old ++ written (take n items ++ later)) → new ≡ old ++ written items
nothing_later written old new items n none all each =
    sym (append-nil new) ∙ (ap (λ z. new ++ z) (sym none) ∙ (each [] ∙ ap (λ z. old ++ written z) (append-nil (take n items) ∙ take_all n items all)))
