-- What the tests of equal lists know of maps from texts to numbers, and of iterators over entries.
use Rattle.std.proofs.Common.{◌≡◌, IsTrue, List, [], ◌∷◌, Bor, map, refl, sym, ap, ◌∙◌}
use Rattle.std.specs.Iterator.{Drains, YieldsFirstBy}
use Rattle.rkyv_btree_base.specs.Entries.{now_of}
use Rattle.rkyv_btree_base.specs.Layout.{are_fitting, keys_at, values_at, node_align, node_size, align, len_at, inner_size}
use Rattle.rkyv_btree_base.specs.Rounding.{round_up}
use Rattle.rkyv_btree_base.specs.Scalars.{u32_kind}
use Rattle.rkyv_btree_base.specs.Text.{text_kind}

pub texts_fit : IsTrue (are_fitting text_kind u32_kind 2)
unfolding are_fitting keys_at values_at node_align node_size align len_at inner_size round_up
texts_fit = refl

-- all items of an iterator are what its state shows
pub drained : {M N S : Type 0} (rest : S → List (M × N)) (s : S) (xs : List (Bor M × Bor N)) → Drains (YieldsFirstBy now_of rest) s xs → map now_of xs ≡ rest s
drained rest s [] d = sym (ap rest d.1.1 ∙ d.1.2.0)
drained rest s (x ∷ xs) d = ap (λ ys. now_of x ∷ ys) (drained rest d.1.1.0 xs (d.0, (d.1.0, d.1.1.2, d.1.2))) ∙ sym d.1.1.1

-- two columns of lists that are the same are so together
pub columns : {X A B : Type 0} (f : X → A) (g : X → B) (xs ys : List X) → map f xs ≡ map f ys → map g xs ≡ map g ys → map {B = A × B} (λ x. (f x, g x)) xs ≡ map {B = A × B} (λ x. (f x, g x)) ys
columns f g [] [] first second = refl
columns f g [] (y ∷ ys) first second = absurd (cc first)
columns f g (x ∷ xs) [] first second = absurd (cc first)
columns f g (x ∷ xs) (y ∷ ys) first second =
    let a : f x ≡ f y = cc first in
    let b : g x ≡ g y = cc second in
    let rest = columns f g xs ys (cc first) (cc second) in
    cc (a, b, rest)
