-- What the check of a map returns, as its contract says it.
use Rattle.std.proofs.Common.{◌≡◌, ℕ, ◌+◌, ◌-◌, ◌/◌, ◌≤◌, IsTrue, List, Result, Ok, Err, sym, ap, ◌∙◌}
use Rattle.rkyv_btree_portable.specs.declared.check.Window.{Window}
use Rattle.rkyv_btree_portable.specs.declared.refusal.Refusal.{Refusal}
use Rattle.rkyv_btree_verify.specs.Refusals.{RefusesMap}
use Rattle.rkyv_btree_portable.specs.Kind.{Kind, IsLawful, Decides}
use Rattle.rkyv_btree_format.specs.Layout.{layout_of, are_fitting, leaf_size}
use Rattle.rkyv_btree_format.specs.Spells.{Accepted, accepted_nodes}
use Rattle.rkyv_btree_verify.specs.mirror.Check.{check_map}
use Rattle.rkyv_btree_verify.specs.mirror.Counted.{map_steps}
use Rattle.rkyv_btree_verify.proofs.Faulty.{map_faulty}
use Rattle.rkyv_btree_verify.proofs.Refused.{map_refused}
use Rattle.rkyv_btree_verify.proofs.Root.{map_sound, map_complete}
use Rattle.rkyv_btree_format.proofs.Sizes.{IsSound, fitting_parts, sound_of}
use Rattle.rkyv_btree_verify.proofs.Counting.{map_few, map_nodes}

abbrev window_of : ℕ → ℕ → Window
window_of lo hi = record { lo = lo; hi = hi }

-- a check that gives a window's start gives the window
pub gives_window : (answer : Result ℕ Refusal) (window left : Window) → Ok window.lo ≡ answer → answer ≡ Ok left.lo → left.hi ≡ window.hi → window ≡ left
gives_window answer window left gives found same =
    let lo_is : window.lo ≡ left.lo = cc (gives, found) in
    ap (λ lo. window_of lo window.hi) lo_is ∙ ap (λ hi. window_of left.lo hi) (sym same)

module _ (K V : Kind) (E : ℕ) (k : IsLawful K) (v : IsLawful V) (fits : IsTrue (are_fitting K V E)) where
  pub keys : Decides K K.leaves
  keys = k.decides (fitting_parts K V E fits).key

  pub values : Decides V V.leaves
  values = v.decides (fitting_parts K V E fits).value

  pub sound : IsSound (layout_of K V E)
  sound = sound_of K V E k v fits

  module _ (b : List ℕ) (at lo hi : ℕ) where
    pub is_map : (left : ℕ) → lo ≤ hi → hi ≤ at → Ok left ≡ check_map (layout_of K V E) K.leaves V.leaves b at lo hi → (m : List (K.Value × V.Value)) × Accepted K V E b lo hi at left m
    is_map left window before e = let found = map_sound K V E K.leaves V.leaves b keys values at lo hi left window before (sym e) in (found.means, found.accepted)

    pub of_map : (left : ℕ) (m : List (K.Value × V.Value)) → Accepted K V E b lo hi at left m → check_map (layout_of K V E) K.leaves V.leaves b at lo hi ≡ Ok left
    of_map left m a = map_complete K V E K.leaves V.leaves b keys values sound at lo hi left m a

    pub is_fault : (e : Refusal) → Err e ≡ check_map (layout_of K V E) K.leaves V.leaves b at lo hi → RefusesMap K V E b lo hi at e
    is_fault e h = map_refused K V E K.leaves V.leaves b keys values at lo hi e (sym h)

    pub of_fault : (e : Refusal) → RefusesMap K V E b lo hi at e → check_map (layout_of K V E) K.leaves V.leaves b at lo hi ≡ Err e
    of_fault e refuses = map_faulty K V E K.leaves V.leaves b keys values sound refuses

    pub nodes_of : (left : ℕ) (m : List (K.Value × V.Value)) (a : Accepted K V E b lo hi at left m) → map_steps (layout_of K V E) K.leaves V.leaves b at lo hi ≡ accepted_nodes K V E b lo hi at left m a
    nodes_of left m a = map_nodes K V E K.leaves V.leaves b keys values sound at lo hi left m a

    pub few_of : map_steps (layout_of K V E) K.leaves V.leaves b at lo hi ≤ (hi - lo) / leaf_size (layout_of K V E) + 1
    few_of = map_few K V E K.leaves V.leaves b keys values sound at lo hi
