-- All items of an iterator that gives what is first of a list.
use Rattle.std.proofs.Common.{◌≡◌, List, [], ◌∷◌, drop, length, map, sym, ap, ◌∙◌}
use Rattle.std.specs.Iterator.{Drains, Yields, YieldsFirstBy}

pub drained : {S X Y : Type 0} (means : X → Y) (rest : S → List Y) (s : S) (xs : List X) → Drains (YieldsFirstBy means rest) s xs → map means xs ≡ rest s
drained means rest s [] d = sym (ap rest d.1.1 ∙ d.1.2.0)
drained means rest s (x ∷ xs) d =
    ap (λ ys. means x ∷ ys) (drained means rest d.1.1.0 xs (d.0, (d.1.0, d.1.1.2, d.1.2))) ∙ sym d.1.1.1

-- after any items, what is left is without as many
pub left_after : {S X Y : Type 0} (means : X → Y) (rest : S → List Y) (s : S) (xs : List X) (t : S) → Yields (YieldsFirstBy means rest) s xs t → rest t ≡ drop (length xs) (rest s)
left_after means rest s [] t y = ap rest (sym y)
left_after means rest s (x ∷ xs) t y = rw y.1 (left_after means rest y.0 xs t y.2)
