-- JSON texts that are written part by part.
use Rattle.std.proofs.Common.{◌≡◌, ℕ, List, [], ◌∷◌, ◌++◌, map, refl, sym, ap, ◌∙◌, append_assoc, append-nil}
use Rattle.std.proofs.lemmas.List.{map_push}
use Rattle.std.specs.List.{flat_map}
use Rattle.btreekv_commands.specs.Json.{escaped, json_line, member, members}
use Rattle.btreekv_commands.specs.Lines.{Entry}

flat_push : {X : Type 0} (f : X → List ℕ) (xs : List X) (x : X) → flat_map f (xs ++ x ∷ []) ≡ flat_map f xs ++ f x
flat_push f [] x = append-nil (f x)
flat_push f (y ∷ ys) x = ap (λ (z : List ℕ). f y ++ z) (flat_push f ys x) ∙ sym (append_assoc (f y) (flat_map f ys) (f x))

-- one more byte of a string
pub byte_more : (old bytes out new : List ℕ) (x : ℕ) → out ≡ old ++ 34 ∷ flat_map escaped bytes → new ≡ out ++ escaped x → new ≡ old ++ 34 ∷ flat_map escaped (bytes ++ x ∷ [])
byte_more old bytes out new x before is =
    is ∙ (ap (λ (z : List ℕ). z ++ escaped x) before
    ∙ (append_assoc old (34 ∷ flat_map escaped bytes) (escaped x) ∙ ap (λ (z : List ℕ). old ++ 34 ∷ z) (sym (flat_push escaped bytes x))))

-- what stands before the next member
abbrev pub separator : List Entry → List ℕ
separator [] = []
separator (e ∷ es) = 44 ∷ []

members_more : (es : List Entry) (x : Entry) → members (es ++ x ∷ []) ≡ members es ++ (separator es ++ member x)
members_more [] x = append-nil (member x)
members_more (e ∷ es) x =
    ap (λ (z : List ℕ). member e ++ z) (flat_push (λ e. 44 ∷ member e) es x) ∙ sym (append_assoc (member e) (flat_map (λ e. 44 ∷ member e) es) (44 ∷ member x))

module _ {X : Type 0} (means : X → Entry) (items : List X) (x : X) where
  -- the members so far, and one more
  pub member_more : (before line key value : List ℕ) → before ≡ separator (map means items) → line ≡ before ++ member (key, value) → key ≡ (means x).0 → value ≡ (means x).1
      → members (map means items) ++ line ≡ members (map means (items ++ x ∷ []))
  member_more before line key value sep is key_is value_is =
      let entry : member (key, value) ≡ member (means x) = ap (λ (k : List ℕ). member (k, value)) key_is ∙ ap (λ (v : List ℕ). member ((means x).0, v)) value_is in
      ap (λ (z : List ℕ). members (map means items) ++ z) (is ∙ (ap (λ (z : List ℕ). z ++ member (key, value)) sep ∙ ap (λ (z : List ℕ). separator (map means items) ++ z) entry))
      ∙ (sym (members_more (map means items) (means x)) ∙ ap members (sym (map_push means items x)))

  pub separated : (ys : List X) → separator (map means (ys ++ x ∷ [])) ≡ 44 ∷ []
  separated [] = refl
  separated (y ∷ ys) = refl

-- the brackets around members, and the end of the line
pub object_line : (es : List Entry) → ((123 ∷ []) ++ members es) ++ (125 ∷ 10 ∷ []) ≡ json_line es
object_line es = ap (λ (z : List ℕ). 123 ∷ z) (sym (append_assoc (members es) (125 ∷ []) (10 ∷ [])))
