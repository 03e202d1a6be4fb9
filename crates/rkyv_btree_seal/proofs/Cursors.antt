-- Cursors along a map whose values are written: the entry that is lent stands in the map, and a write leaves as much.
use Rattle.std.proofs.Common.{◌≡◌, ℕ, zero, suc, ◌⊎◌, inl, inr, false, List, [], ◌∷◌, ◌++◌, length, refl, sym, ap, ◌∙◌, append_assoc, Option, Some, None, is_some, IsTrue, slice_get}
use Rattle.std.specs.Option.{option_map}
use Rattle.std.proofs.lemmas.Bool.{cases_Bool}
use mathlib.Core.HLevel.{⊥_prop}
use mathlib.Core.Logic.{∥∥₁_elim, ∥∥₁_map, ∥∥₁_prop}
use Rattle.rkyv_btree_portable.specs.Kind.{Kind, IsLawful}
use Rattle.rkyv_btree_format.specs.Layout.{layout_of}
use Rattle.rkyv_btree_verify.specs.Map.{map_kind}
use Rattle.rkyv_btree_format.specs.Read.{map_tree}
use Rattle.rkyv_btree_portable.specs.Views.{stands}
use Rattle.rkyv_btree_walk.specs.Remaining.{is_stop}
use Rattle.rkyv_btree_walk.specs.WalkBetween.{IsWalkBetween}
use Rattle.rkyv_btree_walk.specs.Bounds.{IsEnd}
use Rattle.rkyv_btree_walk.proofs.BelowKept.{walk_kept, walk_rest_kept, placed_kept}
use Rattle.rkyv_btree_walk.proofs.Props.{places_had}
use Rattle.rkyv_btree_walk.proofs.Ranges.{stop_same, stop_at}
use Rattle.rkyv_btree_seal.specs.Along.{IsAmong, lent_list}
use Rattle.rkyv_btree_seal.specs.Cursor.{Advances}
use Rattle.rkyv_btree_walk.specs.mirror.Along.{walk_left, IsWalk, Takes}
use Rattle.rkyv_btree_walk.specs.EntryPlaces.{place_of}
use Rattle.rkyv_btree_walk.specs.EntryPlaces.{entry_places}
use Rattle.rkyv_btree_walk.specs.declared.entry_place.EntryPlace.{EntryPlace}
use Rattle.rkyv_btree_walk.specs.declared.range_walk.RangeWalk.{RangeWalk}
use Rattle.rkyv_btree_walk.specs.declared.entry_walk.Walk.{Walk}

abbrev IsListed : ℕ × ℕ → List (ℕ × ℕ) → Type 0
IsListed e all = (i : ℕ) × (slice_get all i ≡ Some e)

not_listed : (e x : ℕ × ℕ) (xs : List (ℕ × ℕ)) → is_stop (Some x) e ≡ false → (IsListed e xs → ⊥) → IsListed e (x ∷ xs) → ⊥
not_listed e x xs other none (zero, h) = let same : x ≡ e = cc h in let is = stop_at e in cc (rw same at other)
not_listed e x xs other none (suc i, h) = none (i, h)

-- whether an entry is listed can be told
told : (e : ℕ × ℕ) (all : List (ℕ × ℕ)) → IsListed e all ⊎ (IsListed e all → ⊥)
told e [] = inr (λ h. absurd (cc h.1))
told e (x ∷ xs) = elim (cases_Bool (is_stop (Some x) e)) [
  | inl is ↦ inl (0, ap Some (stop_same x e is))
  | inr other ↦ elim (told e xs) [
    | inl h ↦ inl (suc h.0, h.1)
    | inr none ↦ inr (not_listed e x xs other none)
  ]
]

module _ {X : Type 0} where
  -- what stands between two parts of a list
  pub at_seam : (before : List X) (x : X) (rest : List X) → slice_get (before ++ x ∷ rest) (length before) ≡ Some x
  at_seam [] x rest = refl
  at_seam (y ∷ before) x rest = at_seam before x rest

  -- at its start a cursor has a run of all entries left
  pub among_start : (all left skipped later : List X) → all ≡ skipped ++ (left ++ later) → IsAmong all None left
  among_start all left skipped later is = (skipped, later, is)

  -- the first that is left is lent next, if there is one
  pub among_next : (all old new : List X) (lent : Option X) (x : X) → old ≡ x ∷ new → IsAmong all lent old → IsAmong all (Some x) new
  among_next all old new lent x is h = (h.0 ++ lent_list lent, h.1, rw is at h.2 ∙ sym (append_assoc h.0 (lent_list lent) (x ∷ (new ++ h.1))))

  pub among_end : (all old new : List X) (lent : Option X) → old ≡ [] → new ≡ [] → IsAmong all lent old → IsAmong all None new
  among_end all old new lent is none h = rw none (h.0 ++ lent_list lent, h.1, rw is at h.2 ∙ sym (append_assoc h.0 (lent_list lent) h.1))

-- so that a cursor stays among the entries by a step
pub among_takes : (all old new : List (ℕ × ℕ)) (lent : Option (ℕ × ℕ)) (taken : Option EntryPlace) → Takes old new taken → IsAmong all lent old → IsAmong all (option_map place_of taken) new
among_takes all old new lent None h among = among_end all old new lent h.0 h.1 among
among_takes all old new lent (Some p) h among = among_next all old new lent (place_of p) h among

-- and what it has taken is its current entry
pub taken_advances : (old new : List (ℕ × ℕ)) (taken : Option EntryPlace) → Takes old new taken → Advances old new (option_map place_of taken) (is_some taken)
taken_advances old new None h = (h.0, h.1, refl)
taken_advances old new (Some p) h = (place_of p, h, refl)

-- what is lent is an entry of the list
pub lent_is_entry : (all left : List (ℕ × ℕ)) (e : ℕ × ℕ) → ∥ IsAmong all (Some e) left ∥₁ → IsListed e all
lent_is_entry all left e h = elim (told e all) [
  | inl is ↦ is
  | inr none ↦ absurd (∥∥₁_elim h ⊥_prop (λ a. none (length a.0, rw a.2 (at_seam a.0 e (left ++ a.1)))))
]

-- a map stands, and the same tree is read of another buffer
module _ (K V : Kind) (E : ℕ) (k : IsLawful K) (v : IsLawful V) (b c : List ℕ) (at : ℕ) (h : IsTrue (stands (map_kind K V E) b at)) (same : map_tree (layout_of K V E) c at ≡ map_tree (layout_of K V E) b at) where
  -- as much is left of a walk
  pub walk_left_kept : (w : Walk) → IsWalk (layout_of K V E) b at w → walk_left (layout_of K V E) c w ≡ walk_left (layout_of K V E) b w
  walk_left_kept w is =
      places_had (walk_left (layout_of K V E) c w) (walk_left (layout_of K V E) b w)
      (∥∥₁_map is.below (λ below. sym (walk_rest_kept K V E k v b c at h (sym same) w.node w.next w.end w.path.items below)))

  -- which is a walk of the other
  pub is_walk_kept : (w : Walk) → IsWalk (layout_of K V E) b at w → IsWalk (layout_of K V E) c at w
  is_walk_kept w is = record {
    below = ∥∥₁_map is.below (walk_kept K V E k v b c at h (sym same) w.node w.next w.end w.path.items);
    counted = is.counted ∙ ap length (sym (walk_left_kept w is));
  }

  -- and to the end of the list
  pub ends_kept : (w : Walk) → IsWalk (layout_of K V E) b at w → ∥ IsEnd (walk_left (layout_of K V E) b w) (entry_places K V E b at) ∥₁ → ∥ IsEnd (walk_left (layout_of K V E) c w) (entry_places K V E c at) ∥₁
  ends_kept w is ends = rw (same, walk_left_kept w is) ends

  -- so it is with a walk between bounds
  pub between_kept : (w : RangeWalk) → IsWalkBetween K V E b at w → IsWalkBetween K V E c at w
  between_kept w is = record {
    nodes = ∥∥₁_map is.nodes (walk_kept K V E k v b c at h (sym same) w.part.node w.part.next w.part.end w.path.items);
    placed = rw same (∥∥₁_elim is.nodes ∥∥₁_prop (λ below. ∥∥₁_map is.placed (placed_kept K V E k v b c at h (sym same) w.part.node w.part.next w.part.end w.path.items below (entry_places K V E b at) w.stop)));
  }

  -- and a cursor with as much left stands among the same entries
  pub among_kept : (lent : Option (ℕ × ℕ)) (new old : List (ℕ × ℕ)) → new ≡ old → ∥ IsAmong (entry_places K V E b at) lent old ∥₁ → ∥ IsAmong (entry_places K V E c at) lent new ∥₁
  among_kept lent new old is h = rw (same, is) h
