-- A row of children of which the first are done: each with its entry after it.
use Rattle.std.proofs.Common.{◌≡◌, ℕ, zero, suc, ◌+◌, ◌*◌, ◌-◌, ◌^◌, ◌≤◌, min, List, [], ◌∷◌, ◌++◌, length, map, arith, refl, sym, ap, ◌∙◌, subst}
use Rattle.std.proofs.lemmas.List.{length-append, append_assoc, append-nil}
use Rattle.std.proofs.Math.Nat.{pow-zero, mul-le-mul_left, mul-le-mul_right}
use Rattle.rkyv_btree_shape.specs.Tree.{leaf, inner, Row, last, step, Child, absent, child, row_list, child_list, row_entries}
use Rattle.rkyv_btree_shape.proofs.Bounds.{pow_up, pow_positive}
use Rattle.rkyv_btree_shape.specs.mirror.Filled.{FilledRow, Filled}
use Rattle.rkyv_btree_shape.specs.mirror.Pairs.{row_from, pairs_list, FilledPairs, Leads}
use Rattle.rkyv_btree_shape.proofs.Filled.{full_up, split_append}

pub pairs_push : {X : Type 0} (F : ℕ → Child X → Type 0) (full rest : ℕ) (ps : List (Child X × X)) (c : Child X) (x : X) → FilledPairs F full rest ps → F (min (rest - length ps * full) full) c → FilledPairs F full rest (ps ++ (c, x) ∷ [])
pairs_push F full rest [] c x f h = let z : min (rest - 0 * full) full ≡ min rest full = omega arith in (rw z at h, tt)
pairs_push F full rest (p ∷ ps) c x f h = let z : rest - suc (length ps) * full ≡ rest - full - length ps * full = omega arith in (f.0, pairs_push F full (rest - full) ps c x f.1 (rw z at h))

pub pairs_close : {X : Type 0} (F : ℕ → Child X → Type 0) (full rest : ℕ) (ps : List (Child X × X)) (c : Child X) → FilledPairs F full rest ps → rest ≤ (length ps + 1) * full → F (min (rest - length ps * full) full) c → FilledRow F full rest (row_from ps (last c))
pairs_close F full rest [] c f m h = let z : min (rest - 0 * full) full ≡ rest = omega arith in (omega arith, rw z at h)
pairs_close F full rest (p ∷ ps) c f m h = let z : rest - suc (length ps) * full ≡ rest - full - length ps * full = omega arith in (f.0, pairs_close F full (rest - full) ps c f.1 (omega arith) (rw z at h))

pub row_from_entries : {X : Type 0} (ps : List (Child X × X)) (row : Row X) → row_entries (row_from ps row) ≡ map (λ p. p.1) ps ++ row_entries row
row_from_entries [] row = refl
row_from_entries (p ∷ ps) row = ap (λ ys. p.1 ∷ ys) (row_from_entries ps row)

pub row_from_list : {X : Type 0} (ps : List (Child X × X)) (row : Row X) → row_list (row_from ps row) ≡ pairs_list ps ++ row_list row
row_from_list [] row = refl
row_from_list (p ∷ ps) row = ap (λ ys. child_list p.0 ++ p.1 ∷ ys) (row_from_list ps row) ∙ sym (append_assoc (child_list p.0) (p.1 ∷ pairs_list ps) (row_list row))

pub pairs_list_push : {X : Type 0} (ps : List (Child X × X)) (c : Child X) (x : X) → pairs_list (ps ++ (c, x) ∷ []) ≡ pairs_list ps ++ (child_list c ++ x ∷ [])
pairs_list_push [] c x = refl
pairs_list_push (p ∷ ps) c x = ap (λ ys. child_list p.0 ++ p.1 ∷ ys) (pairs_list_push ps c x) ∙ sym (append_assoc (child_list p.0) (p.1 ∷ pairs_list ps) (child_list c ++ x ∷ []))

pub pairs_count : {X : Type 0} (F : ℕ → Child X → Type 0) (p full : ℕ) → ((l : ℕ) (c : Child X) → F l c → length (child_list c) + 1 ≡ p + l) → (rest : ℕ) (ps : List (Child X × X)) → FilledPairs F full rest ps → length (pairs_list ps) ≡ length ps * p + min rest (length ps * full)
pairs_count F p full each rest [] f = omega arith
pairs_count F p full each rest (q ∷ ps) f = simp length-append (omega (arith, each (min rest full) q.0 f.0, pairs_count F p full each (rest - full) ps f.1))

-- the shorter of two beginnings begins the other
pub shorter_begins : {X : Type 0} (a b p q : List X) → length a ≤ length b → a ++ p ≡ b ++ q → (more : List X) × (a ++ more ≡ b)
shorter_begins [] b p q l e = (b, refl)
shorter_begins (x ∷ a) [] p q l e = absurd (omega arith)
shorter_begins (x ∷ a) (y ∷ b) p q l e = let t = shorter_begins a b p q (omega arith) (cc) in (t.0, cc (t.1))

-- a row whose entries begin with those of children that are done begins with these children
pub row_splits : {X : Type 0} (F : ℕ → Child X → Type 0) (p full : ℕ) → ((l : ℕ) (c : Child X) → F l c → length (child_list c) + 1 ≡ p + l) → ((l : ℕ) (c d : Child X) → F l c → F l d → child_list c ≡ child_list d → c ≡ d) →
    (rest : ℕ) (ps : List (Child X × X)) (row : Row X) → FilledPairs F full rest ps → FilledRow F full rest row → length ps ≤ length (row_entries row) → (ys : List X) → pairs_list ps ++ ys ≡ row_list row →
    (others : Row X) × (row ≡ row_from ps others) × FilledRow F full (rest - length ps * full) others × (length (row_entries row) ≡ length ps + length (row_entries others)) × (row_list others ≡ ys)
row_splits F p full count same rest [] row f r n ys e = let z : rest - 0 * full ≡ rest = omega arith in (row, refl, subst (λ k. FilledRow F full k row) (sym z) r, omega arith, sym e)
row_splits F p full count same rest (q ∷ ps) (last c) f r n ys e = absurd (omega arith)
row_splits F p full count same rest (q ∷ ps) (step d x row) f r n ys e =
    let e2 : child_list q.0 ++ (q.1 ∷ (pairs_list ps ++ ys)) ≡ child_list d ++ x ∷ row_list row = sym (append_assoc (child_list q.0) (q.1 ∷ pairs_list ps) ys) ∙ e in
    let t = split_append (child_list q.0) (child_list d) (q.1 ∷ (pairs_list ps ++ ys)) (x ∷ row_list row) (omega (arith, count (min rest full) q.0 f.0, count (min rest full) d r.0)) e2 in
    let a : q.0 ≡ d = same (min rest full) q.0 d f.0 r.0 t.0 in
    let b : q.1 ≡ x = cc (t.1) in
    let c : pairs_list ps ++ ys ≡ row_list row = cc (t.1) in
    let s = row_splits F p full count same (rest - full) ps row f.1 r.1 (omega arith) ys c in
    let z : rest - full - length ps * full ≡ rest - suc (length ps) * full = omega arith in
    (s.0, cc (a, b, s.1), subst (λ k. FilledRow F full k s.0) z s.2, omega (arith, s.3), s.4)

-- a row begins with its first child
pub row_leads : {X : Type 0} (F : ℕ → Child X → Type 0) (full rest : ℕ) (row : Row X) → FilledRow F full rest row → (c : Child X) × Leads c row × F (min rest full) c × (more : List X) × (child_list c ++ more ≡ row_list row)
row_leads F full rest (last c) r = let z : min rest full ≡ rest = omega (arith, r.0) in (c, refl, subst (λ k. F k c) (sym z) r.1, [], append-nil (child_list c))
row_leads F full rest (step c x row) r = (c, refl, r.0, x ∷ row_list row, refl)

-- the row of a child with more than a leaf's levels
abbrev pub IsInner : {X : Type 0} → ℕ → ℕ → ℕ → Child X → Type 0
IsInner {X} E g ll c = (row : Row X) × (c ≡ child (inner row)) × (length (row_entries row) ≡ E) × FilledRow (Filled E g) (E * (E + 1) ^ g) ll row

pub is_inner : {X : Type 0} (E g ll : ℕ) (c : Child X) → 1 ≤ ll + g → Filled E (suc g) ll c → IsInner E g ll c
is_inner E g ll absent h f = absurd f
is_inner E g ll (child (leaf xs)) h f = absurd (omega (arith, f.0, f.1))
is_inner E g ll (child (inner row)) h f = (row, refl, f.1, f.2)

-- what a child takes of the last level, by what is left for it and by what is left for its parent
pub capped : (E g left i : ℕ) → i ≤ E → min (left - i * (E * (E + 1) ^ g)) (E * (E + 1) ^ g) ≡ min (min left (E * (E + 1) ^ suc g) - i * (E * (E + 1) ^ g)) (E * (E + 1) ^ g)
capped E g left i h = let u = full_up E g in go (E * (E + 1) ^ g) (E * (E + 1) ^ suc g) u
  where
    go : (full up : ℕ) → up ≡ (E + 1) * full → min (left - i * full) full ≡ min (min left up - i * full) full
    go full up u = let m : (i + 1) * full ≤ (E + 1) * full = mul-le-mul_right full (omega arith) in omega (arith, m)

-- there is something on the last level, or a level above it
pub not_bare : (E g left : ℕ) → 1 ≤ E → 1 ≤ left + g → 1 ≤ min left (E * (E + 1) ^ suc g) + g
not_bare E g left e h = let m : E * 1 ≤ E * (E + 1) ^ suc g = mul-le-mul_left E (pow_positive E (suc g)) in omega (arith, m)

-- ---- how many entries

frame_room : (E p full k d n rest taken : ℕ) → E ≡ k + d → taken ≡ rest - k * full → n ≡ k * p + min rest (k * full) → p + min taken full + n + d * p ≤ (E + 1) * p + min rest ((E + 1) * full)
frame_room E p full k d n rest taken h a b = let m : (k + 1) * full ≤ (k + d + 1) * full = mul-le-mul_right full (omega arith) in rw h (omega arith)

-- what a row has and its next child takes, its parent has room for, and for d entries more with a child each
pub row_fits : (E g first left k d n : ℕ) → E ≡ k + d → left ≡ first - k * (E * (E + 1) ^ g) → n ≡ k * (E + 1) ^ g + min (min first (E * (E + 1) ^ suc g)) (k * (E * (E + 1) ^ g)) → n + ((E + 1) ^ g + min left (E * (E + 1) ^ g)) + d * (E + 1) ^ g ≤ (E + 1) ^ suc g + min first (E * (E + 1) ^ suc g)
row_fits E g first left k d n h a b = go (E * (E + 1) ^ g) (E * (E + 1) ^ suc g) ((E + 1) ^ g) ((E + 1) ^ suc g) (full_up E g) (pow_up E g) a b
  where
    go : (full up p q : ℕ) → up ≡ (E + 1) * full → q ≡ (E + 1) * p → left ≡ first - k * full → n ≡ k * p + min (min first up) (k * full) → n + (p + min left full) + d * p ≤ q + min first up
    go full up p q u v x y =
        let m : k * full ≤ (E + 1) * full = mul-le-mul_right full (omega arith) in
        let z : n ≡ k * p + min first (k * full) = omega (arith, m, y, u) in
        let r = frame_room E p full k d n first left h x z in
        rw (u, v) (omega (arith, r))

-- a child that isn't absent takes an entry
pub next_some : (E g left : ℕ) → 1 ≤ E → 1 ≤ left + g → 2 ≤ (E + 1) ^ g + min left (E * (E + 1) ^ g)
next_some E zero left e h = rw pow-zero (omega arith)
next_some E (suc g) left e h = let m : (E + 1) * 1 ≤ (E + 1) * (E + 1) ^ g = mul-le-mul_left (E + 1) (pow_positive E g) in omega (arith, pow_up E g, m)

pub some_pairs : (E g k n rest : ℕ) → 1 ≤ k → n ≡ k * (E + 1) ^ g + min rest (k * (E * (E + 1) ^ g)) → 1 ≤ n
some_pairs E g k n rest h e = let m : 1 * (E + 1) ^ g ≤ k * (E + 1) ^ g = mul-le-mul_right ((E + 1) ^ g) h in omega (arith, m, pow_positive E g)
