-- What values in a row owe, by what their type owes.
use Rattle.std.specs.Prelude.{◌≡◌, ℕ, zero, suc, ◌+◌, ◌*◌, ◌≤◌, ◌<◌, IsTrue, List, [], ◌∷◌, ◌++◌, length, Option, Some, None}
use Rattle.std.proofs.Common.{arith, refl, sym, ap, subst, ◌∙◌}
use Rattle.std.proofs.Math.Nat.{suc-mul}
use Rattle.rkyv_btree_compound.specs.Elements.{Elements, FirstBad, elements_leaves, elements_read, if_left}
use Rattle.rkyv_btree_portable.specs.Kind.{Kind, IsLawful}
use Rattle.rkyv_btree_portable.specs.Refusing.{MeansNothing}
use Rattle.rkyv_btree_portable.specs.Standing.{SameBytes}
use Rattle.rkyv_btree_portable.specs.laws.Standing.{same_within}

-- what was left, where something is decided of the rest
pub left_through : (o : Option ℕ) (rest : ℕ → Option ℕ) (left : ℕ) → if_left o rest ≡ Some left → (next : ℕ) × (o ≡ Some next) × (rest next ≡ Some left)
left_through None rest left e = absurd (cc e)
left_through (Some next) rest left e = (next, refl, e)

-- the places after the first
pub after_one : (at n size : ℕ) → at + suc n * size ≡ at + size + n * size
after_one at n size = omega (arith, suc-mul n size)

module _ (T : Kind) (t : IsLawful T) where
  -- they leave what is of their window
  pub elements_within : (b : List ℕ) (lo hi at left : ℕ) (vs : List T.Value) → lo ≤ hi → Elements T b lo hi at left vs → (lo ≤ left) × (left ≤ hi)
  elements_within b lo hi at left [] window m = (omega arith, omega arith)
  elements_within b lo hi at left (v ∷ vs) window m =
      let l = t.lies b lo hi at m.0 v m.1 in
      let rest = elements_within b m.0 hi (at + T.size) left vs l.kept m.2 in
      (omega (arith, l.forward, rest.0), rest.1)

  -- no other bytes matter than those taken from the window and their own
  pub elements_local : IsTrue T.is_fitting → (b c : List ℕ) (lo hi at left : ℕ) (vs : List T.Value) → lo ≤ hi → length c ≤ 4294967295 → SameBytes b c lo left → SameBytes b c at (at + length vs * T.size) → Elements T b lo hi at left vs → Elements T c lo hi at left vs
  elements_local fits b c lo hi at left [] window short out own m = m
  elements_local fits b c lo hi at left (v ∷ vs) window short out own m =
      let l = t.lies b lo hi at m.0 v m.1 in
      let within = elements_within b m.0 hi (at + T.size) left vs l.kept m.2 in
      let first = same_within b c lo left lo m.0 (omega arith) within.0 out in
      let others = same_within b c lo left m.0 left l.forward (omega arith) out in
      let end = at + T.size + length vs * T.size in
      let all = subst (SameBytes b c at) (after_one at (length vs) T.size) own in
      let value = same_within b c at end at (at + T.size) (omega arith) (omega arith) all in
      let behind = same_within b c at end (at + T.size) end (omega arith) (omega arith) all in
      (m.0, t.local fits b c lo hi at m.0 v short first value m.1, elements_local fits b c m.0 hi (at + T.size) left vs l.kept short others behind m.2)

  -- in a wider window they mean the same, and leave no less
  pub elements_widen : (b : List ℕ) (lo hi at left lo2 hi2 : ℕ) (vs : List T.Value) → lo2 ≤ lo → hi ≤ hi2 → hi2 ≤ at → Elements T b lo hi at left vs → (left2 : ℕ) × (left2 ≤ left) × Elements T b lo2 hi2 at left2 vs
  elements_widen b lo hi at left lo2 hi2 [] p q r m = (lo2, omega (arith, m), refl)
  elements_widen b lo hi at left lo2 hi2 (v ∷ vs) p q r m =
      let w = t.widens b lo hi at m.0 lo2 hi2 v p q r m.1 in
      let rest = elements_widen b m.0 hi (at + T.size) left w.0 hi2 vs w.1 q (omega arith) m.2 in
      (rest.0, rest.1, (w.0, w.2, rest.2))

  -- what they mean is what is read of them
  pub elements_are_read : (b : List ℕ) (lo hi at left : ℕ) (vs : List T.Value) → Elements T b lo hi at left vs → vs ≡ elements_read T b (length vs) at
  elements_are_read b lo hi at left [] m = refl
  elements_are_read b lo hi at left (v ∷ vs) m =
      let first = t.is_read b lo hi at m.0 v m.1 in
      let rest = elements_are_read b m.0 hi (at + T.size) left vs m.2 in
      ap (λ w. w ∷ vs) first ∙ ap (λ ws. T.read b at ∷ ws) rest

  -- so many mean one list, and leave one window
  pub elements_left_once : (b : List ℕ) (lo hi at left left2 : ℕ) (vs ws : List T.Value) → length vs ≡ length ws → Elements T b lo hi at left vs → Elements T b lo hi at left2 ws → left ≡ left2
  elements_left_once b lo hi at left left2 [] [] same m n = m ∙ sym n
  elements_left_once b lo hi at left left2 [] (w ∷ ws) same m n = absurd (omega (arith, same))
  elements_left_once b lo hi at left left2 (v ∷ vs) [] same m n = absurd (omega (arith, same))
  elements_left_once b lo hi at left left2 (v ∷ vs) (w ∷ ws) same m n =
      let one = (t.one_meaning b lo hi at m.0 n.0 v w m.1 n.1).0 in
      let others = subst (λ next. Elements T b next hi (at + T.size) left2 ws) (sym one) n.2 in
      elements_left_once b m.0 hi (at + T.size) left left2 vs ws (omega (arith, same)) m.2 others

  -- the decision finds a list of so many values
  pub elements_found : IsTrue T.is_fitting → (b : List ℕ) (n lo hi at left : ℕ) → lo ≤ hi → hi ≤ at → elements_leaves T b n lo hi at ≡ Some left → (vs : List T.Value) × (length vs ≡ n) × Elements T b lo hi at left vs
  elements_found fits b zero lo hi at left window before e = ([], refl, cc e)
  elements_found fits b (suc n) lo hi at left window before e =
      let there = left_through (T.leaves b lo hi at) _ left e in
      let m = (t.decides fits).found b lo hi at there.0 window before there.1 in
      let l = t.lies b lo hi at there.0 m.0 m.1 in
      let rest = elements_found fits b n there.0 hi (at + T.size) left l.kept (omega arith) there.2 in
      (m.0 ∷ rest.0, ap suc rest.1, (there.0, m.1, rest.2))

  pub elements_only : IsTrue T.is_fitting → (b : List ℕ) (lo hi at left : ℕ) (vs : List T.Value) → Elements T b lo hi at left vs → elements_leaves T b (length vs) lo hi at ≡ Some left
  elements_only fits b lo hi at left [] m = ap Some (sym m)
  elements_only fits b lo hi at left (v ∷ vs) m = rw ((t.decides fits).only b lo hi at m.0 v m.1) (elements_only fits b m.0 hi (at + T.size) left vs m.2)

  -- one more value after them
  pub elements_more : (b : List ℕ) (lo hi at next left : ℕ) (vs : List T.Value) (v : T.Value) → Elements T b lo hi at next vs → T.Means b next hi (at + length vs * T.size) left v → Elements T b lo hi at left (vs ++ v ∷ [])
  elements_more b lo hi at next left [] v m one = (left, subst (λ n. T.Means b n hi at left v) m (subst (λ n. T.Means b next hi n left v) (omega arith) one), refl)
  elements_more b lo hi at next left (w ∷ vs) v m one =
      let place = after_one at (length vs) T.size in
      (m.0, m.1, elements_more b m.0 hi (at + T.size) next left vs v m.2 (subst (λ n. T.Means b next hi n left v) place one))

  -- the first that means nothing is at one place
  stop_once : (b : List ℕ) (lo hi at next next2 : ℕ) (vs ws : List T.Value) → Elements T b lo hi at next vs → Elements T b lo hi at next2 ws → MeansNothing T b next hi (at + length vs * T.size) → MeansNothing T b next2 hi (at + length ws * T.size) → length vs ≡ length ws
  stop_once b lo hi at next next2 [] [] m n bad bad2 = refl
  stop_once b lo hi at next next2 [] (w ∷ ws) m n bad bad2 = absurd (subst (λ k. MeansNothing T b k hi at) m (subst (λ k. MeansNothing T b next hi k) (omega arith) bad) n.0 w n.1)
  stop_once b lo hi at next next2 (v ∷ vs) [] m n bad bad2 = absurd (subst (λ k. MeansNothing T b k hi at) n (subst (λ k. MeansNothing T b next2 hi k) (omega arith) bad2) m.0 v m.1)
  stop_once b lo hi at next next2 (v ∷ vs) (w ∷ ws) m n bad bad2 =
      let one = (t.one_meaning b lo hi at m.0 n.0 v w m.1 n.1).0 in
      let others = subst (λ k. Elements T b k hi (at + T.size) next2 ws) (sym one) n.2 in
      let place = after_one at (length vs) T.size in
      let place2 = after_one at (length ws) T.size in
      ap suc (stop_once b m.0 hi (at + T.size) next next2 vs ws m.2 others (subst (λ k. MeansNothing T b next hi k) place bad) (subst (λ k. MeansNothing T b next2 hi k) place2 bad2))

  pub first_bad_once : (b : List ℕ) (n lo hi at place place2 : ℕ) → FirstBad T b n lo hi at place → FirstBad T b n lo hi at place2 → place ≡ place2
  first_bad_once b n lo hi at place place2 p q =
      let same = stop_once b lo hi at p.next q.next p.before q.before p.means q.means (subst (λ k. MeansNothing T b p.next hi k) p.here p.bad) (subst (λ k. MeansNothing T b q.next hi k) q.here q.bad) in
      p.here ∙ (ap (λ k. at + k * T.size) same ∙ sym q.here)

  -- where one means nothing, no list of so many is meant
  stops_all : (b : List ℕ) (lo hi at next left : ℕ) (before vs : List T.Value) → length before < length vs → Elements T b lo hi at next before → MeansNothing T b next hi (at + length before * T.size) → Elements T b lo hi at left vs → ⊥
  stops_all b lo hi at next left before [] fewer m bad n = omega (arith, fewer)
  stops_all b lo hi at next left [] (v ∷ vs) fewer m bad n = subst (λ k. MeansNothing T b k hi at) m (subst (λ k. MeansNothing T b next hi k) (omega arith) bad) n.0 v n.1
  stops_all b lo hi at next left (w ∷ before) (v ∷ vs) fewer m bad n =
      let one = (t.one_meaning b lo hi at m.0 n.0 w v m.1 n.1).0 in
      let others = subst (λ k. Elements T b k hi (at + T.size) left vs) (sym one) n.2 in
      let place = after_one at (length before) T.size in
      stops_all b m.0 hi (at + T.size) next left before vs (omega (arith, fewer)) m.2 (subst (λ k. MeansNothing T b next hi k) place bad) others

  pub no_elements : (b : List ℕ) (n lo hi at place left : ℕ) (vs : List T.Value) → length vs ≡ n → FirstBad T b n lo hi at place → ¬ Elements T b lo hi at left vs
  no_elements b n lo hi at place left vs count p m =
      let fewer = p.fewer in
      stops_all b lo hi at p.next left p.before vs (omega arith) p.means (subst (λ k. MeansNothing T b p.next hi k) p.here p.bad) m
