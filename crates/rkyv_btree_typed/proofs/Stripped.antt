-- Texts at the start of bytes, one after another.
use Rattle.std.proofs.Common.{◌≡◌, ◌∙◌, ℕ, List, ◌++◌, Option, Some, None, sym, ap, subst, Bor}
use Rattle.std.proofs.lemmas.List.{append_assoc, append_cancel_left}
use Rattle.rkyv_btree_typed.specs.Stripping.{Strips}

-- after one text the next is stripped
pub then_strips : (p q bytes : List ℕ) (rest : Bor (List ℕ)) (result : Option (Bor (List ℕ))) → bytes ≡ p ++ rest.now → Strips q rest.now result → Strips (p ++ q) bytes result
then_strips p q bytes rest None h never = λ more e. never more (append_cancel_left p rest.now (q ++ more) (sym h ∙ (e ∙ append_assoc p q more)))
then_strips p q bytes rest (Some end) h e = h ∙ (ap (λ z. p ++ z) e ∙ sym (append_assoc p q end.now))

-- what doesn't begin with a text doesn't begin with more than it
pub never_strips : (p q bytes : List ℕ) → Strips p bytes None → Strips (p ++ q) bytes None
never_strips p q bytes never = λ rest e. never (q ++ rest) (e ∙ append_assoc p q rest)

-- a result that is none
pub as_none : (text bytes : List ℕ) (result : Option (Bor (List ℕ))) → result ≡ None → Strips text bytes None → Strips text bytes result
as_none text bytes result e = subst (Strips text bytes) (sym e)
