-- What is left of a list between the first entry that passes one test and the first that passes another.
use Rattle.std.proofs.Common.{◌≡◌, ℕ, zero, suc, ◌+◌, ◌-◌, ◌≤◌, ◌<◌, List, [], ◌∷◌, ◌++◌, refl, sym, ap, ◌∙◌, arith, map, Bool, true, false, not, ◌&&◌, inl, inr, Option, Some, None}
use Rattle.std.specs.Prelude.{filter, nat_eq, if◌then◌else◌}
use Rattle.std.proofs.lemmas.Bool.{cases_Bool, eqb-true, eq-eqb, ne_eqb, and_parts, and_from}
use Rattle.std.proofs.lemmas.List.{map-append}
use Rattle.std.specs.Ordering.{is_le, is_lt, is_ge, is_gt}
use Rattle.std.specs.declared.cmp.Ordering.{Ordering}
use Rattle.std.specs.declared.cmp.Ordering.TheVariants.{Less, Equal, Greater}
use Rattle.std.specs.declared.ops.Bound.{Bound}
use Rattle.std.specs.declared.ops.Bound.TheVariants.{Included, Excluded, Unbounded}
use Rattle.rkyv_btree_format.specs.Layout.{NodeLayout}
use Rattle.rkyv_btree_format.specs.Read.{run}
use Rattle.rkyv_btree_walk.specs.Bounds.{IsRun, is_from, is_to, OrderedFor}
use Rattle.rkyv_btree_walk.specs.mirror.Range.{is_reached, AllPass, Rises, is_past, first_of, first_passes}
use Rattle.rkyv_btree_walk.specs.Paths.{range_rest}
use Rattle.rkyv_btree_walk.specs.Remaining.{is_stop, take_before}
use Rattle.rkyv_btree_walk.proofs.Hits.{rank, NoneAbove, Falls, ordered_falls, falls_map}
use Rattle.rkyv_btree_walk.proofs.Seeks.{rises_right}

pub stop_same : (stop e : ℕ × ℕ) → is_stop (Some stop) e ≡ true → stop ≡ e
stop_same stop e h =
    let both = and_parts _ _ h in
    let node : stop.0 ≡ e.0 = eqb-true stop.0 e.0 both.0 in
    let index : stop.1 ≡ e.1 = eqb-true stop.1 e.1 both.1 in
    ap (λ x. let f : ℕ × ℕ = (x, stop.1) in f) node ∙ ap (λ y. let f : ℕ × ℕ = (e.0, y) in f) index

pub stop_at : (e : ℕ × ℕ) → is_stop (Some e) e ≡ true
stop_at e = and_from _ _ (eq-eqb e.0 e.0 refl) (eq-eqb e.1 e.1 refl)

pub taken_whole : (xs : List (ℕ × ℕ)) → take_before None xs ≡ xs
taken_whole [] = refl
taken_whole (x ∷ xs) = ap (λ ys. x ∷ ys) (taken_whole xs)

-- what is taken is a beginning of the list
pub taken_front : (stop : Option (ℕ × ℕ)) (xs : List (ℕ × ℕ)) → (later : List (ℕ × ℕ)) × (xs ≡ take_before stop xs ++ later)
taken_front stop [] = ([], refl)
taken_front stop (x ∷ xs) =
    elim (is_stop stop x) as (λ v. (later : List (ℕ × ℕ)) × (x ∷ xs ≡ (if v then [] else x ∷ take_before stop xs) ++ later)) [
      | true ↦ (x ∷ xs, refl)
      | false ↦ let r = taken_front stop xs in (r.0, ap (λ ys. x ∷ ys) r.1)
    ]

-- where the stop stands in a run, the run is cut there
module _ (s : NodeLayout) (b : List ℕ) (p : ℕ) (xs : List (ℕ × ℕ)) where
  pub taken_to : (j d n i : ℕ) → i + d ≡ j → d < n → take_before (Some (p, j)) (run s b p n i ++ xs) ≡ run s b p d i
  taken_to j d zero i is less = absurd (omega arith)
  taken_to j zero (suc n) i is less = let here : j ≡ i = omega arith in rw (here, stop_at (p, i)) refl
  taken_to j (suc d) (suc n) i is less =
      let off : nat_eq j i ≡ false = ne_eqb j i (omega arith) in
      rw (eq-eqb p p refl, off) (ap (λ ys. (p, i) ∷ ys) (taken_to j d n (i + 1) (omega arith) (omega arith)))

  -- else all of it is taken
  pub taken_past : (stop : Option (ℕ × ℕ)) (n i : ℕ) → ((k : ℕ) → i ≤ k → k < i + n → is_stop stop (p, k) ≡ false) → take_before stop (run s b p n i ++ xs) ≡ run s b p n i ++ take_before stop xs
  taken_past stop zero i off = refl
  taken_past stop (suc n) i off =
      rw (off i (omega arith) (omega arith)) (ap (λ ys. (p, i) ∷ ys) (taken_past stop n (i + 1) (λ k low high. off k (omega arith) (omega arith))))

pub stop_off : (q j p k : ℕ) → (q ≡ p → j ≡ k → ⊥) → is_stop (Some (q, j)) (p, k) ≡ false
stop_off q j p k off =
    elim (cases_Bool (is_stop (Some (q, j)) (p, k))) [
      | inl e ↦ let same = stop_same (q, j) (p, k) e in absurd (off (ap (λ f. f.0) same) (ap (λ f. f.1) same))
      | inr e ↦ e
    ]

module _ (past : ℕ × ℕ → Bool) where
  found_passes : (xs : List (ℕ × ℕ)) (e : ℕ × ℕ) → first_of (filter past xs) ≡ Some e → past e ≡ true
  found_passes [] e h = cc
  found_passes (x ∷ xs) e h =
      elim (cases_Bool (past x)) [
        | inl t ↦ let s : Some x ≡ Some e = rw t at h in let same : x ≡ e = cc in rw same at t
        | inr f ↦ found_passes xs e (rw f at h)
      ]

  none_kept : (xs : List (ℕ × ℕ)) → AllPass past xs → filter (λ e. not (past e)) xs ≡ []
  none_kept [] h = refl
  none_kept (x ∷ xs) h = rw h.0 (none_kept xs h.1)

  -- before the first entry that passes are those that don't
  kept_before : (xs : List (ℕ × ℕ)) (stop : Option (ℕ × ℕ)) → Rises past xs → stop ≡ first_of (filter past xs) → take_before stop xs ≡ filter (λ e. not (past e)) xs
  kept_before [] stop rises is = refl
  kept_before (x ∷ xs) stop rises is =
      elim (cases_Bool (past x)) [
        | inl t ↦ let here : stop ≡ Some x = rw t at is in rw (here, stop_at x, t) (sym (none_kept xs (rises.0 t)))
        | inr f ↦
            let later : stop ≡ first_of (filter past xs) = rw f at is in
            rw (off stop later f, f) (ap (λ ys. x ∷ ys) (kept_before xs stop rises.1 later))
      ] where
        off : (stop : Option (ℕ × ℕ)) → stop ≡ first_of (filter past xs) → past x ≡ false → is_stop stop x ≡ false
        off None later f = refl
        off (Some e) later f =
            elim (cases_Bool (is_stop (Some e) x)) [
              | inl t ↦ let same : e ≡ x = stop_same e x t in let p = rw same at (found_passes xs e (sym later)) in cc
              | inr n ↦ n
            ]

  kept_both : (from : ℕ × ℕ → Bool) (xs : List (ℕ × ℕ)) → filter (λ e. not (past e)) (filter from xs) ≡ filter (λ e. from e && not (past e)) xs
  kept_both from [] = refl
  kept_both from (x ∷ xs) =
      elim (cases_Bool (from x)) [
        | inl t ↦ elim (cases_Bool (past x)) [ inl p ↦ rw (t, p) (kept_both from xs) | inr p ↦ rw (t, p) (ap (λ ys. x ∷ ys) (kept_both from xs)) ]
        | inr t ↦ rw t (kept_both from xs)
      ]

  -- of a list of which the rest is what isn't before a low bound: where the rest starts past a high one, nothing is within
  -- both, and what stands there before the first entry past it always is
  module _ (from : ℕ × ℕ → Bool) (all front rest : List (ℕ × ℕ)) (is : all ≡ front ++ rest) (left : rest ≡ filter from all) (rises : Rises past all) where
    within_both : filter (λ e. not (past e)) rest ≡ filter (λ e. from e && not (past e)) all
    within_both = ap (filter (λ e. not (past e))) left ∙ kept_both from all

    pub within_none : first_passes past rest ≡ true → [] ≡ filter (λ e. from e && not (past e)) all
    within_none starts = sym (none rest starts (rises_right past front rest (rw is at rises))) ∙ within_both where
      none : (xs : List (ℕ × ℕ)) → first_passes past xs ≡ true → Rises past xs → filter (λ e. not (past e)) xs ≡ []
      none [] h r = refl
      none (x ∷ xs) h r = none_kept (x ∷ xs) (h, r.0 h)

    pub within_before : (stop : Option (ℕ × ℕ)) → stop ≡ first_of (filter past rest) → take_before stop rest ≡ filter (λ e. from e && not (past e)) all
    within_before stop ends = kept_before rest stop (rises_right past front rest (rw is at rises)) ends ∙ within_both

-- a comparison that ranks below one that reaches the query reaches it too
reached_below : (past : Bool) (o p : Ordering) → rank p ≤ rank o → is_reached past o ≡ true → is_reached past p ≡ true
reached_below true o Less low h = refl
reached_below false o Less low h = refl
reached_below past Less Equal low h = absurd (omega arith)
reached_below past Equal Equal low h = h
reached_below true Greater Equal low h = cc
reached_below false Greater Equal low h = cc
reached_below past Less Greater low h = absurd (omega arith)
reached_below past Equal Greater low h = absurd (omega arith)
reached_below past Greater Greater low h = h

module _ {X : Type 0} where
  pub kept_whole : (xs : List X) → filter (λ _. true) xs ≡ xs
  kept_whole [] = refl
  kept_whole (x ∷ xs) = ap (λ ys. x ∷ ys) (kept_whole xs)

  pub kept_none : (xs : List X) → filter (λ _. false) xs ≡ []
  kept_none [] = refl
  kept_none (x ∷ xs) = kept_none xs

  kept_same : (f g : X → Bool) → ((x : X) → f x ≡ g x) → (xs : List X) → filter f xs ≡ filter g xs
  kept_same f g same [] = refl
  kept_same f g same (x ∷ xs) =
      elim (cases_Bool (g x)) [
        | inl t ↦ rw (same x, t) (ap (λ ys. x ∷ ys) (kept_same f g same xs))
        | inr t ↦ rw (same x, t) (kept_same f g same xs)
      ]

  mapped_kept : {Y : Type 0} (f : X → Y) (test : Y → Bool) (xs : List X) → map f (filter (λ x. test (f x)) xs) ≡ filter test (map f xs)
  mapped_kept f test [] = refl
  mapped_kept f test (x ∷ xs) =
      elim (cases_Bool (test (f x))) [
        | inl t ↦ rw t (ap (λ ys. f x ∷ ys) (mapped_kept f test xs))
        | inr t ↦ rw t (mapped_kept f test xs)
      ]

  falls_rises : (past : Bool) (c : X → Ordering) (xs : List X) → Falls c xs → Rises (λ e. is_reached past (c e)) xs
  falls_rises past c [] falls = tt
  falls_rises past c (x ∷ xs) falls = (λ h. all (c x) xs falls.0 h, falls_rises past c xs falls.1) where
    all : (o : Ordering) (ys : List X) → NoneAbove c (rank o) ys → is_reached past o ≡ true → AllPass (λ e. is_reached past (c e)) ys
    all o [] none h = tt
    all o (y ∷ ys) none h = (reached_below past o (c y) none.0 h, all o ys none.1 h)

  all_same : (xs : List X) → AllPass (λ _. true) xs
  all_same [] = tt
  all_same (x ∷ xs) = (refl, all_same xs)

  rises_same : (v : Bool) (xs : List X) → Rises (λ _. v) xs
  rises_same v [] = tt
  rises_same true (x ∷ xs) = (λ _. all_same xs, rises_same true xs)
  rises_same false (x ∷ xs) = (λ h. cc, rises_same false xs)

-- of places, by what they mean
module _ {A B X : Type 0} (means : X → A × B) (xs : List X) where
  ordered_rises : (past : Bool) (comparison : A → Ordering) → OrderedFor (Included comparison) (map means xs) → Rises (λ x. is_reached past (comparison (means x).0)) xs
  ordered_rises past comparison o = falls_rises past (λ x. comparison (means x).0) xs (falls_map means (λ e. comparison e.0) xs (ordered_falls (λ e. comparison e.0) (map means xs) o))

  -- where a list is ordered for a bound, what isn't before it stands last, and what is past it
  pub from_rises : (low : Bound (A → Ordering)) → OrderedFor low (map means xs) → Rises (λ x. is_from low (means x).0) xs
  from_rises Unbounded o = rises_same true xs
  from_rises (Included comparison) o = ordered_rises false comparison o
  from_rises (Excluded comparison) o = ordered_rises true comparison o

  pub past_rises : (high : Bound (A → Ordering)) → OrderedFor high (map means xs) → Rises (λ x. is_past high (means x).0) xs
  past_rises Unbounded o = rises_same false xs
  past_rises (Included comparison) o = ordered_rises true comparison o
  past_rises (Excluded comparison) o = ordered_rises false comparison o

to_is : {A : Type 0} (high : Bound (A → Ordering)) (key : A) → not (is_past high key) ≡ is_to high key
to_is Unbounded key = refl
to_is (Included comparison) key = elim (comparison key) as (λ o. not (is_lt o) ≡ is_ge o) [ Less ↦ refl | Equal ↦ refl | Greater ↦ refl ]
to_is (Excluded comparison) key = elim (comparison key) as (λ o. not (is_le o) ≡ is_gt o) [ Less ↦ refl | Equal ↦ refl | Greater ↦ refl ]

-- and the places within both bounds mean the entries within both
pub within_means : {A B X : Type 0} (means : X → A × B) (low high : Bound (A → Ordering)) (xs : List X)
    → map means (filter (λ x. is_from low (means x).0 && not (is_past high (means x).0)) xs) ≡ filter (λ e. is_from low e.0 && is_to high e.0) (map means xs)
within_means means low high xs =
    mapped_kept means (λ e. is_from low e.0 && not (is_past high e.0)) xs ∙ kept_same _ _ (λ e. ap (λ v. is_from low e.0 && v) (to_is high e.0)) (map means xs)

-- the first entry passes, where it is this one
pub first_test : {X : Type 0} (test : X → Bool) (x : X) (xs : List X) → Some x ≡ first_of xs → test x ≡ first_passes test xs
first_test test x [] h = absurd (cc h)
first_test test x (y ∷ xs) h = let same : x ≡ y = cc h in rw same refl

-- what places that stand one after the other mean, does so too
pub run_means : {X Y : Type 0} (means : X → Y) (range all : List X) → IsRun range all → IsRun (map means range) (map means all)
run_means means range all run = (
  map means run.0,
  map means run.1,
  ap (map means) run.2 ∙ map-append means run.0 (range ++ run.1) ∙ ap (λ xs. map means run.0 ++ xs) (map-append means range run.1),
)

-- a range through a leaf
pub range_more : (s : NodeLayout) (b : List ℕ) (stop : Option (ℕ × ℕ)) (p i n : ℕ) (fs : List (ℕ × ℕ)) → i < n → range_rest s b stop p i n fs ≡ (p, i) ∷ range_rest s b stop p (i + 1) n fs
range_more s b stop p i n fs less = let z : n - i ≡ suc (n - (i + 1)) = omega arith in rw z refl

-- a step to an entry that isn't the stop takes the first entry of the range
pub step_before : {old rest left : List (ℕ × ℕ)} (stop : Option (ℕ × ℕ)) (e : ℕ × ℕ) → old ≡ e ∷ rest → is_stop stop e ≡ false → left ≡ take_before stop rest → take_before stop old ≡ e ∷ left
step_before stop e is off same = rw (is, off, same) refl
