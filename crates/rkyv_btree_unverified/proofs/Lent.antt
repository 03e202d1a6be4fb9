-- How many entries a walk has lent, and which are left.
use Rattle.std.proofs.Common.{◌≡◌, ℕ, zero, suc, ◌+◌, ◌-◌, ◌/◌, ◌≤◌, ◌<◌, List, [], ◌∷◌, length, map, refl, sym, ap, ◌∙◌, subst, arith, IsTrue, Result, Option, Some, None, Ok, Err, add-one}
use Rattle.std.proofs.Math.Nat.{div-le_self, mul-le-mul}
use Rattle.std.specs.Prelude.{◌≢◌, drop}
use Rattle.std.specs.List.{drop-map}
use Rattle.rkyv_btree_format.proofs.Sizes.{room_of}
use Rattle.rkyv_btree_portable.specs.Kind.{Kind, IsLawful}
use Rattle.rkyv_btree_format.specs.Layout.{NodeLayout, layout_of, are_fitting, leaf_size}
use Rattle.rkyv_btree_portable.specs.declared.refusal.Refusal.{Refusal}
use Rattle.rkyv_btree_unverified.specs.Left.{once_over, left_of, most_entries, most_of}
use Rattle.rkyv_btree_unverified.specs.mirror.Walked.{places_at, most_at, walk_most, HasLeft, IsCounted, Stepped, TakesEntry}
use Rattle.rkyv_btree_unverified.specs.declared.walk.Phase.{Phase}
use Rattle.rkyv_btree_unverified.specs.declared.walk.Phase.TheVariants.{Descend, Advance, Over}
use Rattle.rkyv_btree_unverified.specs.declared.walk.UnverifiedWalk.{UnverifiedWalk}
use Rattle.rkyv_btree_unverified.specs.mirror.Faultless.{FaultlessPhase, FaultlessLeft}

-- with an entry left, fewer have been lent than there can be
some_left : (E most : ℕ) (p : Phase) (w : UnverifiedWalk) → 0 < most_at E p w → most_at E p w ≤ once_over p 0 (most - w.taken) → w.taken < most
some_left E most Descend w some le = omega (arith, some, le)
some_left E most Advance w some le = omega (arith, some, le)
some_left E most Over w some le = absurd (omega (arith, some))

-- once it is lent, fewer are left
fewer_left : (E most : ℕ) (p q : Phase) (w t : UnverifiedWalk) → most_at E p w ≤ once_over p 0 (most - w.taken) → most_at E q t < most_at E p w → t.taken ≡ w.taken + 1 → once_over q 0 (most - t.taken) < once_over p 0 (most - w.taken)
fewer_left E most Over q w t le less more = absurd (omega (arith, less))
fewer_left E most Descend Descend w t le less more = omega (arith, le, less, more)
fewer_left E most Descend Advance w t le less more = omega (arith, le, less, more)
fewer_left E most Descend Over w t le less more = omega (arith, le, less)
fewer_left E most Advance Descend w t le less more = omega (arith, le, less, more)
fewer_left E most Advance Advance w t le less more = omega (arith, le, less, more)
fewer_left E most Advance Over w t le less more = omega (arith, le, less)

drop_next : {X : Type 0} (n : ℕ) (xs ys : List X) (y : X) → drop n xs ≡ y ∷ ys → drop (suc n) xs ≡ ys
drop_next zero xs ys y e = rw e refl
drop_next (suc n) [] ys y e = absurd (cc e)
drop_next (suc n) (x ∷ xs) ys y e = drop_next n xs ys y e

-- the entries after it are left
left_next : (s : NodeLayout) (b : List ℕ) (at : ℕ) (all : List (ℕ × ℕ)) (e : ℕ × ℕ) (p q : Phase) (w t : UnverifiedWalk) → places_at s b p at w ≡ once_over p [] (drop w.taken all) → places_at s b p at w ≡ e ∷ places_at s b q at t → t.taken ≡ w.taken + 1
    → places_at s b q at t ≡ once_over q [] (drop t.taken all)
left_next s b at all e Over q w t left rest more = absurd (cc rest)
left_next s b at all e p Over w t left rest more = refl
left_next s b at all e Descend Descend w t left rest more = rw (more, add-one) (sym (drop_next w.taken all _ e (sym left ∙ rest)))
left_next s b at all e Descend Advance w t left rest more = rw (more, add-one) (sym (drop_next w.taken all _ e (sym left ∙ rest)))
left_next s b at all e Advance Descend w t left rest more = rw (more, add-one) (sym (drop_next w.taken all _ e (sym left ∙ rest)))
left_next s b at all e Advance Advance w t left rest more = rw (more, add-one) (sym (drop_next w.taken all _ e (sym left ∙ rest)))

mapped_left : {X Y : Type 0} (f : X → Y) (p : Phase) (n : ℕ) (xs : List X) → once_over p [] (drop n (map f xs)) ≡ map f (once_over p [] (drop n xs))
mapped_left f Descend n xs = drop-map f n xs
mapped_left f Advance n xs = drop-map f n xs
mapped_left f Over n xs = refl

-- what is left means what is left of what they mean
pub left_means : {X Y : Type 0} (f : X → Y) (w : UnverifiedWalk) (xs : List X) → left_of w (map f xs) ≡ map f (left_of w xs)
left_means f w xs = mapped_left f w.phase w.taken xs

-- and the first of them is what is lent
pub lent_means : {X Y : Type 0} (f : X → Y) (w t : UnverifiedWalk) (xs : List X) (x : X) → left_of w xs ≡ x ∷ left_of t xs → (y : Y) → y ≡ f x → left_of w (map f xs) ≡ y ∷ left_of t (map f xs)
lent_means f w t xs x splits y is = left_means f w xs ∙ ap (map f) splits ∙ rw is (ap (λ ys. f x ∷ ys) (sym (left_means f t xs)))

module _ (K V : Kind) (E : ℕ) (b : List ℕ) where
  pub some_more : (w : UnverifiedWalk) → 0 < walk_most E w → walk_most E w ≤ most_of K V E b w → w.taken < most_entries K V E b
  some_more w some most = some_left E (most_entries K V E b) w.phase w some most

  -- their number has 64 bits
  pub taken_fits : IsLawful K → IsLawful V → IsTrue (are_fitting K V E) → (w : UnverifiedWalk) → length b ≤ 4294967295 → 0 < walk_most E w → walk_most E w ≤ most_of K V E b w → w.taken + 1 < 18446744073709551616
  taken_fits k v fits w short some most =
      let room = room_of K V E k v fits in
      let nodes : length b / leaf_size (layout_of K V E) ≤ 4294967295 = omega (arith, short, div-le_self (length b) (leaf_size (layout_of K V E))) in
      let capacity : E ≤ 1073741824 = omega (arith, room.entries) in
      let all = mul-le-mul capacity nodes in
      let less = some_more w some most in
      omega (arith, all, less)

  module _ (at : ℕ) (w t : UnverifiedWalk) (counted : IsCounted K V E b at w) (e : ℕ × ℕ) (takes : TakesEntry K V E b at w t e) where
    pub most_less : most_of K V E b t < most_of K V E b w
    most_less = fewer_left E (most_entries K V E b) w.phase t.phase w t counted.most takes.less takes.more

    module _ (all : List (ℕ × ℕ)) (left : HasLeft K V E b at w all) where
      pub taken_left : HasLeft K V E b at t all
      taken_left = left_next (layout_of K V E) b at all e w.phase t.phase w t left takes.rest takes.more

      pub left_splits : left_of w all ≡ e ∷ left_of t all
      left_splits = sym left ∙ takes.rest ∙ ap (λ xs. e ∷ xs) taken_left

  pub over_left : (at : ℕ) (all : List (ℕ × ℕ)) (w : UnverifiedWalk) → w.phase ≡ Over → HasLeft K V E b at w all
  over_left at all w over = rw over refl

  over_faulty : (at : ℕ) (w : UnverifiedWalk) → w.phase ≡ Over → FaultlessLeft K V E b at w → ⊥
  over_faulty at w over left = subst (λ p. FaultlessPhase K V E b p at w) over left

  -- so it is of each step
  pub stepped_left : (KR VR : List ℕ → ℕ → ℕ → ℕ → Refusal → Type 0) (at : ℕ) (all : List (ℕ × ℕ)) (w t : UnverifiedWalk) (r : Result (Option (ℕ × ℕ)) Refusal) → IsCounted K V E b at w → Stepped K V E b KR VR at w t r → HasLeft K V E b at w all → HasLeft K V E b at t all
  stepped_left KR VR at all w t (Err d) counted s left = over_left at all t s.over
  stepped_left KR VR at all w t (Ok None) counted s left = over_left at all t s.over
  stepped_left KR VR at all w t (Ok (Some e)) counted s left = taken_left at w t counted e s all left

  -- and where what is left after it is good, so was what was left before it
  pub stepped_faultless : (KR VR : List ℕ → ℕ → ℕ → ℕ → Refusal → Type 0) (at : ℕ) (w t : UnverifiedWalk) (r : Result (Option (ℕ × ℕ)) Refusal) → Stepped K V E b KR VR at w t r → FaultlessLeft K V E b at t → FaultlessLeft K V E b at w
  stepped_faultless KR VR at w t (Err d) s left = absurd (over_faulty at t s.over left)
  stepped_faultless KR VR at w t (Ok None) s left = absurd (over_faulty at t s.over left)
  stepped_faultless KR VR at w t (Ok (Some e)) s left = s.faultless left

  -- one that takes an entry isn't over
  pub some_begun : (at : ℕ) (w t : UnverifiedWalk) (e : ℕ × ℕ) → TakesEntry K V E b at w t e → w.phase ≢ Over
  some_begun at w t e takes over = let less = takes.less in let never : walk_most E t < 0 = rw over at less in omega (arith, never)
