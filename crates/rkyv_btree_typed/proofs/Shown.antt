-- The first bytes of a name.
use Rattle.std.proofs.Common.{◌≡◌, ◌∙◌, ◌<◌, ◌≤◌, ℕ, List, ◌++◌, length, take, min, sym, ap, subst, ⊎_elim, arith}
use Rattle.std.proofs.Math.Nat.{min-eq_left, min-eq_right, min-le_left}
use Rattle.std.proofs.Math.Seq.{take-append_seam, take-length}
use Rattle.std.proofs.lemmas.Bool.{cases_lt}
use Rattle.std.proofs.lemmas.List.{length-take-le, take_all}

-- the lesser of two numbers takes as much
taken_alike : (name : List ℕ) (most : ℕ) → take (min (length name) most) name ≡ take most name
taken_alike name most =
    ⊎_elim
    (λ (less : length name < most). (ap (λ n. take n name) (min-eq_left (omega (arith, less))) ∙ take-length name) ∙ sym (take_all most name (omega (arith, less))))
    (λ (more : most ≤ length name). ap (λ n. take n name) (min-eq_right more))
    (cases_lt (length name) most)

-- bytes that were copied to the front are the first ones
pub shown : (name copied after : List ℕ) (len : ℕ) → len ≡ min (length name) 128 → copied ≡ take len name → take len (copied ++ after) ≡ take 128 name
shown name copied after len least e =
    let room : len ≤ length name = subst (λ n. n ≤ length name) (sym least) (min-le_left (length name) 128) in
    let long : length copied ≡ len = ap length e ∙ length-take-le len name room in
    let front : take len (copied ++ after) ≡ copied = subst (λ n. take n (copied ++ after) ≡ copied) long (take-append_seam copied after) in
    front ∙ (e ∙ (ap (λ n. take n name) least ∙ taken_alike name 128))
