-- A lookup that ends had room for each part that it reads.
use Rattle.std.proofs.Common.{◌≡◌, ◌∙◌, inl, inr, ℕ, ◌+◌, ◌≤◌, ◌<◌, List, ap, arith, subst, sym, refl, Some, None, Ok}
use Rattle.std.proofs.lemmas.Bool.{cases_lt}
use Rattle.std.specs.declared.cmp.Ordering.{Ordering}
use Rattle.rkyv_btree_portable.specs.Kind.{Kind}
use Rattle.rkyv_btree_source.proofs.Covered.{asked_within, found_stops, hit_ends, moved, one_count, one_end, one_root, one_taking, stop_ends}
use Rattle.rkyv_btree_source.specs.Reads.{Lengths, Part, NodeBytes, EachFits, IsLast, NodeReads, NodeTakes, Reads, part_room, reads_child, reads_entry, reads_key, reads_own, reads_root, reads_value}
use Rattle.rkyv_btree_source.specs.declared.search.Stop.{Stop}
use Rattle.rkyv_btree_source.specs.declared.search.Stop.TheVariants.{At, Before}
use Rattle.rkyv_btree_source.specs.mirror.Found.{From, from_child, from_entry, from_node, FromFits, NodeStepTakes, StopFits, StopTakes, next_of}
use Rattle.rkyv_btree_source.specs.declared.search.Step.{Step}
use Rattle.rkyv_btree_source.specs.declared.search.Step.TheVariants.{Below}
use Rattle.rkyv_btree_unverified.specs.Steps.{value_place, HeadGives, NodeGives}
use Rattle.rkyv_btree_unverified.specs.declared.search.Next.{Next}
use Rattle.rkyv_btree_unverified.specs.declared.search.Next.TheVariants.{Down}

-- one more key fits
pub each_more : (P : ℕ → Type 0) (i : ℕ) → ((k : ℕ) → k < i → P k) → P i → (k : ℕ) → k < i + 1 → P k
each_more P i before here k low =
    elim (cases_lt k i) [
      | inl less ↦ before k less
      | inr high ↦ let same : i ≡ k = omega (arith, high, low) in subst (λ (x : ℕ). P x) same here
    ]

-- a value at a place, spelled otherwise
pub fits_at : (b : List ℕ) (L : Lengths) {at place room other : ℕ} → at ≡ place → room ≡ other → L.room b at ≤ room → L.room b place ≤ other
fits_at b L same len h = omega (arith, h, len, ap (L.room b) same)

module _ (K V : Kind) (E : ℕ) (b : List ℕ) (KL VL : Lengths) (comparison : K.Value → Ordering) where
  -- what the search of a node reads
  node_fits : (hi p n old left room : ℕ) → NodeGives K V E b hi p (Ok n) → (stop : Stop) → StopTakes K V E b KL VL comparison p n old left stop → StopFits K V E b KL VL comparison p n room stop
      → EachFits K V E b KL VL (NodeReads K V E b KL VL comparison hi p) 0 room
  node_fits hi p n old left room g (At j place) t f before part (reads_key {n = m} {i = i} h a) =
      let le = asked_within K V E b comparison p m i j a (moved K V E b comparison KL VL hi p m n j h g (hit_ends K V E b comparison p n j t.0 t.1)) in
      let fit = f.0 i (omega (arith, le)) in
      omega (arith, fit)
  node_fits hi p n old left room g (At j place) t f before part (reads_value {n = m} {i = i} h a q) =
      let same : i ≡ j = one_end K V E b comparison p m i j (hit_ends K V E b comparison p m i a q) (moved K V E b comparison KL VL hi p m n j h g (hit_ends K V E b comparison p n j t.0 t.1)) in
      let fit = f.1 in
      omega (arith, fit, ap (λ (x : ℕ). VL.room b (value_place K V E (p, x))) same)
  node_fits hi p n old left room g (Before j) t f before part (reads_key {n = m} {i = i} h a) =
      let le = asked_within K V E b comparison p m i j a (moved K V E b comparison KL VL hi p m n j h g (stop_ends K V E b comparison p n j t.0)) in
      let w = a.within in
      let fit = f i (omega (arith, le, w, one_count K V E b hi p m n h g)) in
      omega (arith, fit)
  node_fits hi p n old left room g (Before j) t f before part (reads_value {n = m} {i = i} h a q) = absurd (found_stops K V E b comparison KL VL hi p m n i j h g a q t.0)

  pub stop_fits : (hi p n old left room : ℕ) → NodeGives K V E b hi p (Ok n) → (stop last : Stop) → stop ≡ last → StopTakes K V E b KL VL comparison p n old left stop → StopFits K V E b KL VL comparison p n room stop
      → EachFits K V E b KL VL (NodeReads K V E b KL VL comparison hi p) 0 room
  stop_fits hi p n old left room g stop last is t f = node_fits hi p n old left room g stop t f

  -- what is read from a node on where the search ends there, or goes on with a child
  module _ (hi p more room : ℕ) (next : Next) (t : NodeTakes K V E b KL VL comparison hi p more next) (fits : EachFits K V E b KL VL (NodeReads K V E b KL VL comparison hi p) 0 room) where
    last_from : IsLast next → (h w : ℕ) (part : Part) → From K V E b KL VL comparison h w part → h ≡ hi → w ≡ p → part_room K V E b KL VL part ≤ room
    last_from ends h w part from_node e f = omega arith
    last_from ends h w part (from_entry {more = m} r) e f =
        let there : NodeReads K V E b KL VL comparison hi p m part = subst (λ (x : ℕ). NodeReads K V E b KL VL comparison x p m part) e (subst (λ (x : ℕ). NodeReads K V E b KL VL comparison h x m part) f r) in
        let fit = fits m part there in
        omega (arith, fit)
    last_from ends h w part (from_child {more = m} {q = q} u r) e f =
        let there : NodeTakes K V E b KL VL comparison hi p m (Down q) = subst (λ (x : ℕ). NodeTakes K V E b KL VL comparison x p m (Down q)) e (subst (λ (x : ℕ). NodeTakes K V E b KL VL comparison h x m (Down q)) f u) in
        let same = one_taking K V E b comparison KL VL hi p more m next (Down q) t there in
        absurd (subst (λ (x : Next). IsLast x) same.1 ends)

    pub last_fits : IsLast next → FromFits K V E b KL VL comparison hi p room
    last_fits ends part r = last_from ends hi p part r refl refl

    child_from : (q : ℕ) → next ≡ Down q → FromFits K V E b KL VL comparison p q room → (h w : ℕ) (part : Part) → From K V E b KL VL comparison h w part → h ≡ hi → w ≡ p → part_room K V E b KL VL part ≤ room
    child_from q is below h w part from_node e f = omega arith
    child_from q is below h w part (from_entry {more = m} r) e f =
        let there : NodeReads K V E b KL VL comparison hi p m part = subst (λ (x : ℕ). NodeReads K V E b KL VL comparison x p m part) e (subst (λ (x : ℕ). NodeReads K V E b KL VL comparison h x m part) f r) in
        let fit = fits m part there in
        omega (arith, fit)
    child_from q is below h w part (from_child {more = m} {q = c} u r) e f =
        let there : NodeTakes K V E b KL VL comparison hi p m (Down c) = subst (λ (x : ℕ). NodeTakes K V E b KL VL comparison x p m (Down c)) e (subst (λ (x : ℕ). NodeTakes K V E b KL VL comparison h x m (Down c)) f u) in
        let same = one_taking K V E b comparison KL VL hi p more m next (Down c) t there in
        let down = sym same.1 ∙ is in
        let to : c ≡ q = cc down in
        below part (subst (λ (x : ℕ). From K V E b KL VL comparison p x part) to (subst (λ (x : ℕ). From K V E b KL VL comparison x c part) f r))

    pub child_fits : (q : ℕ) → next ≡ Down q → FromFits K V E b KL VL comparison p q room → FromFits K V E b KL VL comparison hi p room
    child_fits q is below part r = child_from q is below hi p part r refl refl

  -- the same by what a search of the node says
  module _ (hi p old left room : ℕ) (step : Step) (h : NodeStepTakes K V E b KL VL comparison hi p old left step) (fits : EachFits K V E b KL VL (NodeReads K V E b KL VL comparison hi p) 0 room) where
    pub ended_fits : (last : Step) → step ≡ last → IsLast (next_of last) → FromFits K V E b KL VL comparison hi p room
    ended_fits last is ends = last_fits hi p h.0 room (next_of step) h.1 fits (subst (λ (s : Step). IsLast (next_of s)) (sym is) ends)

    pub below_fits : (q : ℕ) → step ≡ Below q → FromFits K V E b KL VL comparison p q room → FromFits K V E b KL VL comparison hi p room
    below_fits q is below = child_fits hi p h.0 room (next_of step) h.1 fits q (ap next_of is) below

  -- a lookup reads the map's bytes, and what is read from the root on
  module _ (at : ℕ) where
    module _ (top room : ℕ) (head : HeadGives K V E b at (Ok (Some top))) (fits : FromFits K V E b KL VL comparison at top room) where
      upward : (before hi p : ℕ) (part last : Part) → Reads K V E b KL VL comparison at before part → part ≡ NodeBytes hi p → From K V E b KL VL comparison hi p last → From K V E b KL VL comparison at top last
      upward before hi p part last reads_own e r = absurd (cc e)
      upward before hi p part last (reads_root {q = q} first) e r =
          let is = one_root K V E b at (Some q) (Some top) first head in
          let same : q ≡ top = cc is in
          let a : hi ≡ at = cc e in
          let s : p ≡ q = cc e in
          subst (λ (x : ℕ). From K V E b KL VL comparison x top last) a (subst (λ (x : ℕ). From K V E b KL VL comparison hi x last) (s ∙ same) r)
      upward before hi p part last (reads_child {before = start} {hi = h} {p = w} {more = more} {q = q} reads t) e r =
          let a : hi ≡ w = cc e in
          let s : p ≡ q = cc e in
          upward start h w (NodeBytes h w) last reads refl
          (from_child t (subst (λ (x : ℕ). From K V E b KL VL comparison x q last) a (subst (λ (x : ℕ). From K V E b KL VL comparison hi x last) s r)))
      upward before hi p part last (reads_entry {hi = h} {p = w} {more = more} reads entry) e r = absurd (no_node h w more part entry e)
        where
          no_node : (h w more : ℕ) (part : Part) → NodeReads K V E b KL VL comparison h w more part → part ≡ NodeBytes hi p → ⊥
          no_node h w more part (reads_key g a) e = absurd (cc e)
          no_node h w more part (reads_value g a o) e = absurd (cc e)

      pub lookup_fits : EachFits K V E b KL VL (Reads K V E b KL VL comparison at) 0 room
      lookup_fits before part reads_own = omega arith
      lookup_fits before part (reads_root first) = omega arith
      lookup_fits before part (reads_child reads t) = omega arith
      lookup_fits before part (reads_entry {before = start} {hi = hi} {p = p} reads entry) =
          let fit = fits part (upward start hi p (NodeBytes hi p) part reads refl (from_entry entry)) in
          omega (arith, fit)

    -- a map that says that it is empty has its own bytes alone
    pub empty_fits : (room : ℕ) → HeadGives K V E b at (Ok None) → EachFits K V E b KL VL (Reads K V E b KL VL comparison at) 0 room
    empty_fits room none before part reads_own = omega arith
    empty_fits room none before part (reads_root {q = q} first) = omega arith
    empty_fits room none before part (reads_child reads t) = omega arith
    empty_fits room none before part (reads_entry {before = start} {hi = hi} {p = p} reads entry) = absurd (no_root start hi p (NodeBytes hi p) reads refl)
      where
        no_root : (before hi p : ℕ) (part : Part) → Reads K V E b KL VL comparison at before part → part ≡ NodeBytes hi p → ⊥
        no_root before hi p part reads_own e = absurd (cc e)
        no_root before hi p part (reads_root {q = q} first) e = let is = one_root K V E b at None (Some q) none first in absurd (cc is)
        no_root before hi p part (reads_child {before = start} {hi = h} {p = w} reads t) e = no_root start h w (NodeBytes h w) reads refl
        no_root before hi p part (reads_entry {before = start} {hi = h} {p = w} reads entry) e = no_root start h w (NodeBytes h w) reads refl

  -- where the length is spelled otherwise
  pub fits_in : (Reading : ℕ → Part → Type 0) (room other : ℕ) → room ≡ other → EachFits K V E b KL VL Reading 0 room → EachFits K V E b KL VL Reading 0 other
  fits_in Reading room other len fits before part reads = let fit = fits before part reads in omega (arith, fit, len)

  -- beside the bytes for a node
  pub beside : (Reading : ℕ → Part → Type 0) (node room lent : ℕ) → node + room ≤ lent → EachFits K V E b KL VL Reading 0 room → EachFits K V E b KL VL Reading node lent
  beside Reading node room lent whole fits before part reads = let fit = fits before part reads in omega (arith, fit, whole)
