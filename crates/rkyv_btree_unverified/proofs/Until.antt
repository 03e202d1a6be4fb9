-- What is left of a list up to the first element past a bound, and between two bounds.
use Rattle.std.proofs.Common.{◌≡◌, ℕ, List, [], ◌∷◌, ◌++◌, map, refl, sym, ap, ◌∙◌, Bool, true, false, not, ◌&&◌, inl, inr}
use Rattle.std.proofs.lemmas.Bool.{cases_Bool}
use Rattle.std.specs.Prelude.{filter}
use Rattle.std.specs.Ordering.{is_le, is_lt}
use Rattle.std.specs.Range.Bound.{bound_map}
use Rattle.std.specs.declared.cmp.Ordering.{Ordering}
use Rattle.std.specs.declared.ops.Bound.{Bound}
use Rattle.std.specs.declared.ops.Bound.TheVariants.{Included, Excluded, Unbounded}
use Rattle.rkyv_btree_portable.specs.Kind.{Kind}
use Rattle.rkyv_btree_format.specs.Layout.{layout_of}
use Rattle.rkyv_btree_format.specs.Read.{entry_at, map_tree, read_map}
use Rattle.rkyv_btree_shape.specs.Tree.{Tree, list}
use Rattle.rkyv_btree_unverified.proofs.Froms.{from_end, from_kept, from_whole}
use Rattle.rkyv_btree_unverified.specs.EntriesFrom.{entries_from, from_place, past_place, places_from, until}
use Rattle.rkyv_btree_walk.proofs.Ranges.{from_rises, past_rises, within_means, run_means}
use Rattle.rkyv_btree_walk.proofs.Seeks.{rises_right}
use Rattle.rkyv_btree_walk.specs.Bounds.{IsRun, OrderedFor, entries_within, is_from}
use Rattle.rkyv_btree_walk.specs.mirror.Range.{AllPass, Rises, is_past}

module _ {X : Type 0} where
  pub until_stops : (test : X → Bool) (x : X) (xs all : List X) → all ≡ x ∷ xs → test x ≡ true → until test all ≡ []
  until_stops test x xs all is t = rw (is, t) refl

  pub until_goes : (test : X → Bool) (x : X) (xs all : List X) → all ≡ x ∷ xs → test x ≡ false → until test all ≡ x ∷ until test xs
  until_goes test x xs all is t = rw (is, t) refl

  until_front : (test : X → Bool) (xs : List X) → (later : List X) × (xs ≡ until test xs ++ later)
  until_front test [] = ([], refl)
  until_front test (x ∷ xs) =
      elim (cases_Bool (test x)) [
        | inl t ↦ rw t (x ∷ xs, refl)
        | inr t ↦ let r = until_front test xs in rw t (r.0, ap (λ ys. x ∷ ys) r.1)
      ]

  until_all : (xs : List X) → until (λ _. false) xs ≡ xs
  until_all [] = refl
  until_all (x ∷ xs) = ap (λ ys. x ∷ ys) (until_all xs)

  none_kept : (test : X → Bool) (xs : List X) → AllPass test xs → filter (λ e. not (test e)) xs ≡ []
  none_kept test [] h = refl
  none_kept test (x ∷ xs) h = rw h.0 (none_kept test xs h.1)

  until_kept : (test : X → Bool) (xs : List X) → Rises test xs → until test xs ≡ filter (λ e. not (test e)) xs
  until_kept test [] rises = refl
  until_kept test (x ∷ xs) rises =
      elim (cases_Bool (test x)) [
        | inl t ↦ rw t (sym (none_kept test xs (rises.0 t)))
        | inr t ↦ rw t (ap (λ ys. x ∷ ys) (until_kept test xs rises.1))
      ]

  kept_both : (from past : X → Bool) (xs : List X) → filter (λ e. not (past e)) (filter from xs) ≡ filter (λ e. from e && not (past e)) xs
  kept_both from past [] = refl
  kept_both from past (x ∷ xs) =
      elim (cases_Bool (from x)) [
        | inl t ↦ elim (cases_Bool (past x)) [ inl p ↦ rw (t, p) (kept_both from past xs) | inr p ↦ rw (t, p) (ap (λ ys. x ∷ ys) (kept_both from past xs)) ]
        | inr t ↦ rw t (kept_both from past xs)
      ]

  kept_same : (f g : X → Bool) → ((x : X) → f x ≡ g x) → (xs : List X) → filter f xs ≡ filter g xs
  kept_same f g same [] = refl
  kept_same f g same (x ∷ xs) =
      elim (cases_Bool (g x)) [
        | inl t ↦ rw (same x, t) (ap (λ ys. x ∷ ys) (kept_same f g same xs))
        | inr t ↦ rw (same x, t) (kept_same f g same xs)
      ]

  passes_same : (f g : X → Bool) → ((x : X) → f x ≡ g x) → (xs : List X) → AllPass g xs → AllPass f xs
  passes_same f g same [] h = tt
  passes_same f g same (x ∷ xs) h = (same x ∙ h.0, passes_same f g same xs h.1)

  rises_alike : (f g : X → Bool) → ((x : X) → f x ≡ g x) → (xs : List X) → Rises g xs → Rises f xs
  rises_alike f g same [] h = tt
  rises_alike f g same (x ∷ xs) h = (λ e. passes_same f g same xs (h.0 (sym (same x) ∙ e)), rises_alike f g same xs h.1)

module _ (K V : Kind) (E : ℕ) {T : Type 0} (compared_at : T → List ℕ → ℕ → Ordering) (b : List ℕ) where
  module _ (compared : T → K.Value → Ordering) (agree : (n : T) (b : List ℕ) (at : ℕ) → compared_at n b at ≡ compared n (K.read b at)) where
    -- a bound of native values compares as with what is read
    from_same : (low : Bound T) (e : ℕ × ℕ) → from_place K V E compared_at b low e ≡ is_from (bound_map compared low) (entry_at K V E b e).0
    from_same Unbounded e = refl
    from_same (Included n) e = ap is_le (agree n b _)
    from_same (Excluded n) e = ap is_lt (agree n b _)

    past_same : (high : Bound T) (e : ℕ × ℕ) → past_place K V E compared_at b high e ≡ is_past (bound_map compared high) (entry_at K V E b e).0
    past_same Unbounded e = refl
    past_same (Included n) e = ap is_lt (agree n b _)
    past_same (Excluded n) e = ap is_le (agree n b _)

  module _ (at : ℕ) (low high : Bound T) where
    abbrev tree : Tree (ℕ × ℕ)
    tree = map_tree (layout_of K V E) b at

    abbrev from : ℕ × ℕ → Bool
    from = from_place K V E compared_at b low

    abbrev past : ℕ × ℕ → Bool
    past = past_place K V E compared_at b high

    -- from one bound up to the other is a run of the entries
    pub until_run : IsRun (map (entry_at K V E b) (until past (places_from K V E compared_at b low at))) (read_map K V E b at)
    until_run =
        let front = until_front past (places_from K V E compared_at b low at) in
        let end = from_end from tree in
        let run : IsRun (until past (places_from K V E compared_at b low at)) (list tree) = (end.0, front.0, end.1 ∙ ap (λ xs. end.0 ++ xs) front.1) in
        run_means (entry_at K V E b) (until past (places_from K V E compared_at b low at)) (list tree) run

    -- and all that are within both, where the entries are ordered for both
    pub until_within : (compared : T → K.Value → Ordering) → ((n : T) (b : List ℕ) (at : ℕ) → compared_at n b at ≡ compared n (K.read b at)) → OrderedFor (bound_map compared low) (read_map K V E b at) → OrderedFor (bound_map compared high) (read_map K V E b at)
        → map (entry_at K V E b) (until past (places_from K V E compared_at b low at)) ≡ entries_within (bound_map compared low) (bound_map compared high) (read_map K V E b at)
    until_within compared agree lo hi =
        let means = entry_at K V E b in
        let end = from_end from tree in
        let from_up = rises_alike from _ (from_same compared agree low) (list tree) (from_rises means (list tree) (bound_map compared low) lo) in
        let past_up = rises_alike past _ (past_same compared agree high) (list tree) (past_rises means (list tree) (bound_map compared high) hi) in
        let past_rest : Rises past (entries_from from tree) = rises_right past end.0 (entries_from from tree) (rw end.1 at past_up) in
        ap (map means)
        (until_kept past (entries_from from tree) past_rest ∙ ap (filter (λ e. not (past e))) (from_kept from tree from_up) ∙ kept_both from past (list tree)
        ∙ kept_same _ _ (λ e. both_same (from_same compared agree low e) (past_same compared agree high e)) (list tree))
        ∙ within_means means (bound_map compared low) (bound_map compared high) (list tree)
      where
        both_same : {a c p q : Bool} → a ≡ c → p ≡ q → (a && not p) ≡ (c && not q)
        both_same e f = rw (e, f) refl

    -- without bounds these are all of them
    pub until_whole : low ≡ Unbounded → high ≡ Unbounded → map (entry_at K V E b) (until past (places_from K V E compared_at b low at)) ≡ read_map K V E b at
    until_whole no_low no_high = rw (no_low, no_high) (ap (map (entry_at K V E b)) (until_all (entries_from (λ _. true) tree) ∙ from_whole tree))
