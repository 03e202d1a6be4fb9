-- A walk that has a place in a list of different places has left what the list has from the first noted place on, up to the stop.
use Rattle.std.proofs.Common.{◌≡◌, ℕ, zero, suc, ◌+◌, ◌-◌, ◌≤◌, ◌<◌, ◌⊎◌, inl, inr, IsTrue, List, [], ◌∷◌, ◌++◌, refl, sym, ap, subst, ◌∙◌, arith, append_assoc, append-nil, true, false, Option, Some}
use Rattle.std.specs.Prelude.{nat_eq, if◌then◌else◌}
use Rattle.std.proofs.lemmas.Bool.{cases_lt, lt-ltb, le-ltb, ne_eqb, and_right, or_from, or_left, or_right}
use mathlib.Core.Logic.{∥∥₁_map}
use Rattle.rkyv_btree_portable.specs.Kind.{Kind, IsLawful}
use Rattle.rkyv_btree_format.specs.Layout.{NodeLayout, layout_of}
use Rattle.rkyv_btree_verify.specs.Map.{map_kind}
use Rattle.rkyv_btree_format.specs.Read.{run}
use Rattle.rkyv_btree_portable.specs.Views.{stands}
use Rattle.rkyv_btree_walk.specs.EntryPlaces.{entry_places}
use Rattle.rkyv_btree_walk.specs.Remaining.{is_place, is_among, from_first, take_before, noted_places, places_between}
use Rattle.rkyv_btree_walk.specs.Bounds.{IsRun, IsEnd}
use Rattle.rkyv_btree_walk.specs.WalkBetween.{IsWalkBetween, range_left, IsPlacedWalk, GoesOn, EndsInLeaf, IsPlaced}
use Rattle.rkyv_btree_walk.specs.declared.range_walk.RangeWalk.{RangeWalk}
use Rattle.rkyv_btree_walk.specs.Paths.{node_rest, path_rest, walk_rest}
use Rattle.rkyv_btree_walk.specs.mirror.Path.{IsPath}
use Rattle.rkyv_btree_walk.proofs.Below.{walk_path}
use Rattle.rkyv_btree_walk.proofs.NodesApart.{Differ, places_differ, places_few}
use Rattle.rkyv_btree_walk.proofs.Pairs.{Each, Pairs, each_more, each_right, each_flip}
use Rattle.rkyv_btree_walk.proofs.Paths.{rest_end, rest_more, walk_more, walk_end}
use Rattle.rkyv_btree_walk.proofs.Props.{path_had, places_had}
use Rattle.rkyv_btree_walk.proofs.Ranges.{stop_at, taken_front, taken_past}

module _ {X : Type 0} where
  -- an element is in a list
  abbrev pub Has : X → List X → Type 0
  Has x xs = (before after : List X) × (xs ≡ before ++ x ∷ after)

  has_left : (x : X) (xs ys : List X) → Has x xs → Has x (xs ++ ys)
  has_left x xs ys h = (h.0, h.1 ++ ys, rw h.2 (append_assoc h.0 (x ∷ h.1) ys))

  has_right : (x : X) (xs ys : List X) → Has x ys → Has x (xs ++ ys)
  has_right x xs ys h = (xs ++ h.0, h.1, rw h.2 (sym (append_assoc xs h.0 (x ∷ h.1))))

  each_had : (P : X → Type 0) (before after : List X) (x : X) → Each P (before ++ x ∷ after) → P x
  each_had P [] after x h = h.0
  each_had P (y ∷ before) after x h = each_had P before after x h.1

  -- what an element of a list has with those before
  with_earlier : (R : X → X → Type 0) (skipped rest : List X) (x : X) → Pairs R (skipped ++ rest) → Has x rest → Each (λ e. R e x) skipped
  with_earlier R [] rest x h has = tt
  with_earlier R (y ∷ skipped) rest x h has =
      let later = has_right x skipped rest has in
      (each_had (R y) later.0 later.1 x (subst (Each (R y)) later.2 h.0), with_earlier R skipped rest x h.1 has)

none_among : (ps : List (ℕ × ℕ)) (e : ℕ × ℕ) → Each (λ p. is_place p e ≡ false) ps → is_among ps e ≡ false
none_among [] e h = refl
none_among (p ∷ ps) e h = or_from (is_place p e) (is_among ps e) h.0 (none_among ps e h.1)

-- a list is empty, or begins with one of the places
abbrev StartsWith : List (ℕ × ℕ) → List (ℕ × ℕ) → Type 0
StartsWith noted [] = Unit {0}
StartsWith noted (e ∷ es) = is_among noted e ≡ true

starts_append : (noted xs ys : List (ℕ × ℕ)) → StartsWith noted xs → StartsWith noted ys → StartsWith noted (xs ++ ys)
starts_append noted [] ys h k = k
starts_append noted (x ∷ xs) ys h k = h

starts_more : (noted xs : List (ℕ × ℕ)) (p : ℕ × ℕ) → StartsWith noted xs → StartsWith (p ∷ noted) xs
starts_more noted [] p h = tt
starts_more noted (x ∷ xs) p h = or_right (is_place p x) (is_among noted x) h

-- from the first noted place on are those after the ones that are skipped
first_from : (noted skipped rest : List (ℕ × ℕ)) → Each (λ p. Each (λ e. is_place p e ≡ false) skipped) noted → StartsWith noted rest → from_first noted (skipped ++ rest) ≡ rest
first_from noted skipped rest apart starts =
    from skipped (each_more _ (λ e. is_among noted e ≡ false) skipped (λ e h. none_among noted e h) (each_flip (λ p e. is_place p e ≡ false) noted skipped apart)) where
      from : (skipped : List (ℕ × ℕ)) → Each (λ e. is_among noted e ≡ false) skipped → from_first noted (skipped ++ rest) ≡ rest
      from (e ∷ skipped) h = rw h.0 (from skipped h.1)
      from [] h = here rest starts where
        here : (rest : List (ℕ × ℕ)) → StartsWith noted rest → from_first noted rest ≡ rest
        here [] starts = refl
        here (x ∷ xs) starts = rw starts refl

-- and they are an end of the list
from_end : (noted all : List (ℕ × ℕ)) → IsEnd (from_first noted all) all
from_end noted [] = ([], refl)
from_end noted (e ∷ es) =
    elim (is_among noted e) as (λ v. IsEnd (if v then e ∷ es else from_first noted es) (e ∷ es)) [
      | true ↦ ([], refl)
      | false ↦ let r = from_end noted es in (e ∷ r.0, ap (λ xs. e ∷ xs) r.1)
    ]

none_noted : (all : List (ℕ × ℕ)) → from_first [] all ≡ []
none_noted [] = refl
none_noted (e ∷ es) = none_noted es

-- the places before a stop
taken_at : (xs rest : List (ℕ × ℕ)) (e : ℕ × ℕ) → Each (λ x. is_place e x ≡ false) xs → take_before (Some e) (xs ++ e ∷ rest) ≡ xs
taken_at [] rest e h = rw (stop_at e) refl
taken_at (x ∷ xs) rest e h = rw h.0 (ap (λ ys. x ∷ ys) (taken_at xs rest e h.1))

module _ (K V : Kind) (E : ℕ) (b : List ℕ) where
  -- each node of a path has its next entry left, or none
  path_noted : (levels : ℕ) (fs : List (ℕ × ℕ)) → IsPath K V E b levels fs → Each (λ f. Has f (path_rest (layout_of K V E) b levels fs) ⊎ (E ≤ f.1)) fs
  path_noted levels [] path = tt
  path_noted zero (f ∷ fs) path = absurd path
  path_noted (suc levels) (f ∷ fs) path =
      let s = layout_of K V E in
      let below = path_rest s b levels fs in
      let own = node_rest s b levels f.0 f.1 in
      let rest = each_more (λ g. Has g below ⊎ (E ≤ g.1)) (λ g. Has g (below ++ own) ⊎ (E ≤ g.1)) fs (λ g w. elim w [ inl h ↦ inl (has_left g below own h) | inr h ↦ inr h ]) (path_noted levels fs path.3) in
      elim (cases_lt f.1 E) [
        | inl less ↦ (inl (has_right f below own ([], _, rest_more s b levels f.0 f.1 (rw path.1 less))), rest)
        | inr over ↦ (inr (omega arith), rest)
      ]

  -- and the first that is left of it is noted
  path_starts : (levels : ℕ) (fs : List (ℕ × ℕ)) → IsPath K V E b levels fs → StartsWith fs (path_rest (layout_of K V E) b levels fs)
  path_starts levels [] path = tt
  path_starts zero (f ∷ fs) path = absurd path
  path_starts (suc levels) (f ∷ fs) path =
      let s = layout_of K V E in
      starts_append (f ∷ fs) (path_rest s b levels fs) (node_rest s b levels f.0 f.1) (starts_more fs (path_rest s b levels fs) f (path_starts levels fs path.3))
      (elim (cases_lt f.1 E) [
        | inl less ↦ rw (rest_more s b levels f.0 f.1 (rw path.1 less)) (or_left (is_place f f) (is_among fs f) (stop_at f))
        | inr over ↦ rw (rest_end s b levels f.0 f.1 (rw path.1 (omega arith))) tt
      ])

  module _ (all : List (ℕ × ℕ)) (differ : Pairs Differ all) (few : Each (λ e. e.1 < E) all) where
    -- a place that a rest of the list has isn't among those before, nor is one past the last entry of a node
    apart : (skipped rest : List (ℕ × ℕ)) → all ≡ skipped ++ rest → (p : ℕ × ℕ) → Has p rest ⊎ (E ≤ p.1) → Each (λ e. is_place p e ≡ false) skipped
    apart skipped rest is p (inl has) = with_earlier Differ skipped rest p (subst (Pairs Differ) is differ) has
    apart skipped rest is p (inr over) =
        each_more (λ e. e.1 < E) (λ e. is_place p e ≡ false) skipped (λ e less. and_right (nat_eq p.0 e.0) (nat_eq p.1 e.1) (ne_eqb p.1 e.1 (omega arith))) (front skipped (subst (Each (λ e. e.1 < E)) is few)) where
          front : (xs : List (ℕ × ℕ)) → Each (λ e. e.1 < E) (xs ++ rest) → Each (λ e. e.1 < E) xs
          front [] h = tt
          front (x ∷ xs) h = (h.0, front xs h.1)

    module _ (w : RangeWalk) (path : IsPath K V E b 32 w.path.items) where
      goes_on : GoesOn (layout_of K V E) b all w.stop w.part.node w.part.next w.part.end w.path.items → take_before w.stop (from_first (noted_places w) all) ≡ range_left (layout_of K V E) b w
      goes_on h =
          let s = layout_of K V E in
          let p = w.part.node in let i = w.part.next in let n = w.part.end in let fs = w.path.items in
          let rest = walk_rest s b p i n fs in
          let below = path_rest s b 32 fs in
          let noted : Each (λ f. Has f rest ⊎ (E ≤ f.1)) fs = each_more (λ g. Has g below ⊎ (E ≤ g.1)) (λ g. Has g rest ⊎ (E ≤ g.1)) fs (λ g k. elim k [ inl x ↦ inl (has_right g (run s b p (n - i) i) below x) | inr x ↦ inr x ]) (path_noted 32 fs path) in
          let taken : take_before w.stop rest ≡ range_left s b w = taken_past s b p below w.stop (n - i) i (λ k low high. h.off k low (omega arith)) in
          elim (cases_lt i n) [
            | inl less ↦
                let more = walk_more s b p i n fs less in
                let first : Has (p, i) rest = ([], walk_rest s b p (i + 1) n fs, more) in
                let starts : StartsWith ((p, i) ∷ fs) rest = rw more (or_left (is_place (p, i) (p, i)) (is_among fs (p, i)) (stop_at (p, i))) in
                rw (lt-ltb i n less, h.ends.1)
                (ap (take_before w.stop) (first_from ((p, i) ∷ fs) h.ends.0 rest (apart h.ends.0 rest h.ends.1 (p, i) (inl first), each_more _ (λ f. Each (λ e. is_place f e ≡ false) h.ends.0) fs (λ f k. apart h.ends.0 rest h.ends.1 f k) noted) starts) ∙ taken)
            | inr none ↦
                let starts : StartsWith fs rest = rw (walk_end s b p i n fs (omega arith)) (path_starts 32 fs path) in
                rw (le-ltb i n (omega arith), h.ends.1)
                (ap (take_before w.stop) (first_from fs h.ends.0 rest (each_more _ (λ f. Each (λ e. is_place f e ≡ false) h.ends.0) fs (λ f k. apart h.ends.0 rest h.ends.1 f k) noted) starts) ∙ taken)
          ]

      ends_in_leaf : EndsInLeaf (layout_of K V E) b all w.stop w.part.node w.part.next w.part.end w.path.items → take_before w.stop (from_first (noted_places w) all) ≡ range_left (layout_of K V E) b w
      ends_in_leaf h =
          let s = layout_of K V E in
          let p = w.part.node in let i = w.part.next in let n = w.part.end in
          elim (cases_lt i n) [
            | inl less ↦
                let at = h.stops less in
                let own = run s b p (n - i) i in
                let z : n - i ≡ suc (n - (i + 1)) = omega arith in
                let rest = own ++ at.0 ∷ at.1 in
                let is : all ≡ h.skipped ++ rest = h.is ∙ ap (λ xs. h.skipped ++ (own ++ xs)) at.2 in
                let starts : StartsWith ((p, i) ∷ []) rest = rw z (or_left (is_place (p, i) (p, i)) false (stop_at (p, i))) in
                let first : Has (p, i) rest = rw z ([], run s b p (n - (i + 1)) (i + 1) ++ at.0 ∷ at.1, refl) in
                let split : all ≡ (h.skipped ++ own) ++ at.0 ∷ at.1 = is ∙ sym (append_assoc h.skipped own (at.0 ∷ at.1)) in
                let before = with_earlier Differ (h.skipped ++ own) (at.0 ∷ at.1) at.0 (subst (Pairs Differ) split differ) ([], at.1, refl) in
                rw (h.none, lt-ltb i n less, is, at.3)
                (ap (take_before (Some at.0)) (first_from ((p, i) ∷ []) h.skipped rest (apart h.skipped rest is (p, i) (inl first), tt) starts)
                ∙ taken_at own at.1 at.0 (each_right (λ x. Differ x at.0) h.skipped own before) ∙ sym (append-nil own))
            | inr none ↦
                let z : n - i ≡ 0 = omega arith in
                rw (h.none, le-ltb i n (omega arith), none_noted all, z) refl
          ]

      pub placed_left : IsPlacedWalk (layout_of K V E) b all w → take_before w.stop (from_first (noted_places w) all) ≡ range_left (layout_of K V E) b w
      placed_left (inl h) = goes_on h
      placed_left (inr h) = ends_in_leaf h

-- how the place moves
module _ (s : NodeLayout) (b : List ℕ) (all : List (ℕ × ℕ)) (stop : Option (ℕ × ℕ)) (p i n : ℕ) (fs : List (ℕ × ℕ)) where
  -- by an entry of the leaf
  pub placed_more : i < n → IsPlaced s b all stop p i n fs → IsPlaced s b all stop p (i + 1) n fs
  placed_more less (inl h) =
      let end = h.ends in
      inl (record {
        ends = (end.0 ++ (p, i) ∷ [], end.1 ∙ ap (λ xs. end.0 ++ xs) (walk_more s b p i n fs less) ∙ sym (append_assoc end.0 ((p, i) ∷ []) (walk_rest s b p (i + 1) n fs)));
        off = λ k low high. h.off k (omega arith) high;
      })
  placed_more less (inr h) =
      let z : n - i ≡ suc (n - (i + 1)) = omega arith in
      inr (record {
        none = h.none;
        skipped = h.skipped ++ (p, i) ∷ [];
        later = h.later;
        is = rw z at h.is ∙ sym (append_assoc h.skipped ((p, i) ∷ []) (run s b p (n - (i + 1)) (i + 1) ++ h.later));
        stops = λ more. h.stops less;
      })

  -- with no entry of the leaf left, the path is an end of the list
  pub placed_path : n ≤ i → IsPlaced s b all stop p i n fs → IsEnd (path_rest s b 32 fs) all
  placed_path over (inl h) = (h.ends.0, h.ends.1 ∙ ap (λ xs. h.ends.0 ++ xs) (walk_end s b p i n fs over))
  placed_path over (inr h) = rw h.none (all, sym (append-nil all))

  -- nothing is left
  pub placed_none : n ≤ i → path_rest s b 32 fs ≡ [] → IsPlaced s b all stop p i n fs
  placed_none over none =
      inl (record { ends = (all, sym (append-nil all) ∙ ap (λ xs. all ++ xs) (sym (walk_end s b p i n fs over ∙ none))); off = λ k low high. absurd (omega arith) })

-- a run to an entry of it, that entry, and the run after it
module _ (s : NodeLayout) (b : List ℕ) (p : ℕ) where
  run_parts : (d m i : ℕ) → run s b p (d + suc m) i ≡ run s b p d i ++ (p, i + d) ∷ run s b p m (i + d + 1)
  run_parts zero m i =
      let y : 0 + suc m ≡ suc m = omega arith in
      let z : i ≡ i + 0 = omega arith in
      ap (λ (x : ℕ). run s b p x i) y ∙ ap (λ (x : ℕ). (p, x) ∷ run s b p m (x + 1)) z
  run_parts (suc d) m i =
      let y : suc d + suc m ≡ suc (d + suc m) = omega arith in
      let z : i + 1 + d ≡ i + suc d = omega arith in
      ap (λ (x : ℕ). run s b p x i) y ∙ ap (λ xs. (p, i) ∷ xs) (run_parts d m (i + 1)) ∙ ap (λ (x : ℕ). (p, i) ∷ (run s b p d (i + 1) ++ (p, x) ∷ run s b p m (x + 1))) z

  -- a walk that is cut at a stop in its leaf's part ends there
  module _ (all : List (ℕ × ℕ)) (i j n : ℕ) (fs : List (ℕ × ℕ)) (end : IsEnd (walk_rest s b p i n fs) all) where
    pub placed_cut : i ≤ j → j < n → IsPlaced s b all (Some (p, j)) p i j []
    placed_cut low high =
        let m = n - (j + 1) in
        let z : n - i ≡ (j - i) + suc m = omega arith in
        let k : i + (j - i) ≡ j = omega arith in
        let own = run s b p (j - i) i in
        let later = (p, j) ∷ run s b p m (j + 1) in
        let below = path_rest s b 32 fs in
        let parts : run s b p (n - i) i ≡ own ++ later = ap (λ (x : ℕ). run s b p x i) z ∙ run_parts (j - i) m i ∙ ap (λ (x : ℕ). own ++ (p, x) ∷ run s b p m (x + 1)) k in
        let whole : run s b p (n - i) i ++ below ≡ own ++ (later ++ below) = ap (λ xs. xs ++ below) parts ∙ append_assoc own later below in
        inr (record {
          none = refl;
          skipped = end.0;
          later = later ++ below;
          is = end.1 ∙ ap (λ xs. end.0 ++ xs) whole;
          stops = λ less. ((p, j), run s b p m (j + 1) ++ below, refl, refl);
        })

-- what remains of a walk along a map is what is left of it
module _ (K V : Kind) (E : ℕ) (k : IsLawful K) (v : IsLawful V) (b : List ℕ) (at : ℕ) (h : IsTrue (stands (map_kind K V E) b at)) (w : RangeWalk) where
  pub between_left : IsWalkBetween K V E b at w → places_between K V E b at w ≡ range_left (layout_of K V E) b w
  between_left is =
      let path = path_had K V E b 32 w.path.items (∥∥₁_map is.nodes (walk_path K V E k v b at h w.part.node w.part.next w.part.end w.path.items)) in
      places_had _ _ (∥∥₁_map is.placed (placed_left K V E b (entry_places K V E b at) (places_differ K V E k v b at h) (places_few K V E k v b at h) w path))

-- and one after the other in the map's list
pub between_run : (K V : Kind) (E : ℕ) (b : List ℕ) (at : ℕ) (w : RangeWalk) → IsRun (places_between K V E b at w) (entry_places K V E b at)
between_run K V E b at w =
    let all = entry_places K V E b at in
    let end = from_end (noted_places w) all in
    let front = taken_front w.stop (from_first (noted_places w) all) in
    (end.0, front.0, end.1 ∙ ap (λ xs. end.0 ++ xs) front.1)
