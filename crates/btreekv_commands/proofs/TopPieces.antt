-- Parts in order, as pieces: each part is in one, and they are apart.
use Rattle.std.proofs.Common.{◌≡◌, Some, subst, ℕ, suc, ◌+◌, ◌*◌, ◌≤◌, ◌<◌, ◌⊎◌, inl, inr, List, [], ◌∷◌, Contains, length, max, nat_lt, true, false, refl, arith}
use Rattle.std.proofs.lemmas.Bool.{cases_Bool}
use Rattle.std.proofs.lemmas.Bool.Decides.{nat_tests}
use Rattle.std.specs.List.Sorted.{IsNonDecreasingBy, IsPermutation}
use Rattle.std.proofs.lemmas.List.Sorted.{Contains-permutation, IsPermutation-sym, IsNonDecreasingBy-drop}
use Rattle.rkyv_btree_portable.specs.declared.check.Window.{Window}
use Rattle.rkyv_btree_format.specs.Layout.{key_at}
use Rattle.rkyv_btree_format.specs.OwnBytes.{own_at}
use Rattle.rkyv_btree_walk.specs.Below.{root_place}
use Rattle.btreekv_commands.specs.Lines.{Entry}
use Rattle.btreekv_commands.specs.Nodes.{node_part, part, text_part}
use Rattle.btreekv_commands.specs.Opening.{IsArchive, texts}
use Rattle.btreekv_commands.specs.Top.{IsWithin, Cover, AreApart, ArePieces}
use Rattle.btreekv_commands.specs.mirror.Levels.{joined, joined_to, top_parts, tree_parts}
use Rattle.btreekv_commands.proofs.TopParts.{contains_head, contains_tail, contains_cases, contains_none, IsPart, node_among, key_of, top_inside}

near : (m n : ℕ) → nat_lt m n ≡ true → m < n
near m n h = grind (arith, nat_tests)

far : (m n : ℕ) → nat_lt m n ≡ false → n ≤ m
far m n h = grind (arith, nat_tests)

abbrev Sorted : List Window → Type 0
Sorted ps = IsNonDecreasingBy (λ (p : Window). p.lo) ps

rest_sorted : (p : Window) (ps : List Window) → Sorted (p ∷ ps) → Sorted ps
rest_sorted p ps up = IsNonDecreasingBy-drop (λ (q : Window). q.lo) 1 (p ∷ ps) up

first_least : (p : Window) (ps : List Window) (q : Window) → Sorted (p ∷ ps) → Contains ps q → p.lo ≤ q.lo
first_least p ps q up h = let at = up 0 (suc h.0) q (omega arith) (let few = h.1 in omega arith) in rw h.2 at at

-- each part is in a piece
covers : (ps : List Window) (piece x : Window) → Sorted ps → ((q : Window) → Contains ps q → piece.lo ≤ q.lo) → IsWithin x piece ⊎ Contains ps x → Cover (joined_to piece ps) x
covers [] piece x up least (inl in_) = (piece, contains_head piece [], in_)
covers [] piece x up least (inr none) = absurd (contains_none x none)
covers (p ∷ ps) piece x up least at =
    let first = least p (contains_head p ps) in
    let after = rest_sorted p ps up in
    let grown = part piece.lo (max piece.hi p.hi) in
    elim (cases_Bool (nat_lt p.lo (piece.hi + 64))) [
      | inl is_near ↦ rw is_near (covers ps grown x after (λ q h. least q (contains_tail p ps q h)) (joins at))
      | inr is_far ↦ rw is_far (elim at [
        | inl in_ ↦ (piece, contains_head piece (joined_to p ps), in_)
        | inr h ↦
            let c = covers ps p x after (λ q m. first_least p ps q up m) (splits h) in
            (c.0, contains_tail piece (joined_to p ps) c.0 c.1, c.2)
      ])
    ]
  where
    splits : Contains (p ∷ ps) x → IsWithin x p ⊎ Contains ps x
    splits h = elim (contains_cases p ps x h) [
      | inl same ↦ inl (rw (← same) (omega arith, omega arith))
      | inr later ↦ inr later
    ]

    joins : IsWithin x piece ⊎ Contains (p ∷ ps) x → IsWithin x (part piece.lo (max piece.hi p.hi)) ⊎ Contains ps x
    joins (inl in_) = let low = in_.0 in let high = in_.1 in inl (omega arith, omega arith)
    joins (inr h) = elim (contains_cases p ps x h) [
      | inl same ↦ let first = least p (contains_head p ps) in inl (rw (← same) (omega arith, omega arith))
      | inr later ↦ inr later
    ]

-- pieces begin where the first one does
abbrev BeginAt : ℕ → List Window → Type 0
BeginAt lo [] = ⊥
BeginAt lo (q ∷ qs) = q.lo ≡ lo

begins : (ps : List Window) (piece : Window) → BeginAt piece.lo (joined_to piece ps)
begins [] piece = refl
begins (p ∷ ps) piece =
    elim (cases_Bool (nat_lt p.lo (piece.hi + 64))) [
      | inl is_near ↦ rw is_near (begins ps (part piece.lo (max piece.hi p.hi)))
      | inr is_far ↦ rw is_far refl
    ]

apart_more : (piece : Window) (lo : ℕ) (qs : List Window) → BeginAt lo qs → piece.hi + 64 ≤ lo → AreApart qs → AreApart (piece ∷ qs)
apart_more piece lo [] first gap apart = tt
apart_more piece lo (q ∷ qs) first gap apart = (omega arith, apart)

are_apart : (ps : List Window) (piece : Window) → AreApart (joined_to piece ps)
are_apart [] piece = tt
are_apart (p ∷ ps) piece =
    elim (cases_Bool (nat_lt p.lo (piece.hi + 64))) [
      | inl is_near ↦ rw is_near (are_apart ps (part piece.lo (max piece.hi p.hi)))
      | inr is_far ↦ rw is_far (apart_more piece p.lo (joined_to p ps) (begins ps p) (far _ _ is_far) (are_apart ps p))
    ]

-- and lie in the archive, as the parts do
all_inside : (b : List ℕ) (ps : List Window) (piece x : Window) → IsPart b piece → ((q : Window) → Contains ps q → IsPart b q) → Contains (joined_to piece ps) x → IsPart b x
all_inside b [] piece x first others h = elim (contains_cases piece [] x h) [
  | inl same ↦ rw same at first
  | inr none ↦ absurd (contains_none x none)
]
all_inside b (p ∷ ps) piece x first others h =
    let second = others p (contains_head p ps) in
    elim (cases_Bool (nat_lt p.lo (piece.hi + 64))) [
      | inl is_near ↦
          let grown = part piece.lo (max piece.hi p.hi) in
          let order = first.order in
          let one = first.inside in
          let two = second.inside in
          all_inside b ps grown x (record { order = omega arith; inside = omega arith }) (λ q m. others q (contains_tail p ps q m)) (rw is_near at h)
      | inr is_far ↦ elim (contains_cases piece (joined_to p ps) x (rw is_far at h)) [
        | inl same ↦ rw same at first
        | inr later ↦ all_inside b ps p x second (λ q m. others q (contains_tail p ps q m)) later
      ]
    ]

-- there are few of them, since 64 bytes are between two
few_from : (b : List ℕ) (q : Window) (qs : List Window) → AreApart (q ∷ qs) → ((x : Window) → Contains (q ∷ qs) x → IsPart b x) → q.lo + 64 * length qs ≤ length b
few_from b q [] apart each = let p = each q (contains_head q []) in let order = p.order in let inside = p.inside in omega arith
few_from b q (r ∷ rs) apart each =
    let p = each q (contains_head q (r ∷ rs)) in
    let order = p.order in
    let gap = apart.0 in
    let later = few_from b r rs apart.1 (λ x h. each x (contains_tail q (r ∷ rs) x h)) in
    omega arith

pub few_pieces : (b : List ℕ) (levels : ℕ) (qs : List Window) → ArePieces b levels qs → length b ≤ 4294967295 → length qs ≤ 4294967295
few_pieces b levels [] are short = omega arith
few_pieces b levels (q ∷ qs) are short =
    let some = few_from b q qs are.apart (λ x h. let at = are.inside x h in record { order = at.0; inside = at.1 }) in
    omega arith

-- the parts of the first levels, in order, as pieces have these levels
pub are_pieces : (b : List ℕ) (m : List Entry) (levels : ℕ) (ps pieces : List Window) → IsArchive b m → IsPermutation (top_parts b levels) ps → Sorted ps → pieces ≡ joined ps → ArePieces b levels pieces
are_pieces b m levels [] pieces is same up made =
    absurd (contains_none _ (Contains-permutation (top_parts b levels) [] _ same (contains_head _ _)))
are_pieces b m levels (p ∷ ps) pieces is same up made = rw made (record {
  inside = λ piece h. let at = all_inside b ps p piece (each p (contains_head p ps)) (λ q c. each q (contains_tail p ps q c)) h in (at.order, at.inside);
  apart = are_apart ps p;
  own = subst (λ z. Cover (joined_to p ps) (part (own_at texts b) z)) (let room = is.room in omega arith) (covered (part (own_at texts b) (own_at texts b + 8)) (contains_head _ _));
  nodes = λ root q to on. covered (node_part b q) (tree_has root _ to (node_among b levels root q _ on (contains_head _ _)));
  keys = λ root q i to on few. covered (text_part b (q + key_at _ i)) (tree_has root _ to (node_among b levels root q _ on (key_of b q i few)));
})
  where
    each : (x : Window) → Contains (p ∷ ps) x → IsPart b x
    each x h = top_inside b m levels x is (Contains-permutation (p ∷ ps) (top_parts b levels) x (IsPermutation-sym (top_parts b levels) (p ∷ ps) same) h)

    covered : (x : Window) → Contains (top_parts b levels) x → Cover (joined_to p ps) x
    covered x h = elim (contains_cases p ps x (Contains-permutation (top_parts b levels) (p ∷ ps) x same h)) [
      | inl here ↦ covers ps p x (rest_sorted p ps up) (λ q c. first_least p ps q up c) (inl (rw (← here) (omega arith, omega arith)))
      | inr later ↦ covers ps p x (rest_sorted p ps up) (λ q c. first_least p ps q up c) (inr later)
    ]

    tree_has : (root : ℕ) (x : Window) → root_place b (own_at texts b) ≡ Some root → Contains (tree_parts b levels root) x → Contains (top_parts b levels) x
    tree_has root x to h = contains_tail _ _ x (rw to h)
