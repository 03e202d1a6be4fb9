-- What many lookups find is what each lookup finds.
use Rattle.std.proofs.Common.{◌≡◌, ℕ, length, ◌+◌, ◌<◌, List, Option, Some, None, refl, sym, ap, arith, inl, inr}
use Rattle.std.specs.Option.{ForSome, option_map}
use Rattle.std.specs.Prelude.{IfSome}
use Rattle.std.proofs.lemmas.Option.{slice_get_cases}
use Rattle.std.specs.declared.cmp.Ordering.{Ordering}
use Rattle.rkyv_btree_portable.specs.Kind.{Kind}
use Rattle.rkyv_btree_format.specs.Layout.{layout_of, key_at}
use Rattle.rkyv_btree_format.specs.Read.{entry_at, map_tree}
use Rattle.rkyv_btree_portable.specs.Scalars.{unit_kind}
use Rattle.rkyv_btree_portable.specs.declared.check.Portable
use Rattle.rkyv_btree_walk.specs.Search.{probe}
use Rattle.rkyv_btree_walk.specs.mirror.Search.{comparison_at}
use Rattle.rkyv_btree_walk.specs.declared.many.Way.{Way}
use Rattle.rkyv_btree_walk.specs.Ends.{end_of}
use Rattle.rkyv_btree_walk.specs.mirror.Many.{way_at}
use Rattle.rkyv_btree_walk.specs.mirror.Node.{RunStands}
use Rattle.rkyv_btree_view.specs.Lookup.{found_at}
use Rattle.rkyv_btree_view.specs.Lookups.{IsKeyLookup, IsLookup}
use Rattle.rkyv_btree_view.specs.ManyLookups.{entry_looked_up, key_looked_up_in, looked_up_in, place_of_key}
use Rattle.rkyv_btree_view.specs.SideBySide.{AreWaysOf}
use Rattle.rkyv_btree_view.specs.Query.{ComparesAs}
use Rattle.rkyv_btree_view.specs.declared.view.View.{View}
use Rattle.rkyv_btree_view.proofs.LookedUp.{natives_agree}
use Rattle.rkyv_btree_view.proofs.Promised.{entry_lookup, key_lookup, value_lookup}
use mathlib.Core.Path.{fun_ext}

module _ {N : Type 0} (K V : Kind) (E : ℕ) (compared_at : N → List ℕ → ℕ → Ordering) (b : List ℕ) (at : ℕ) (key : N) (compared : N → K.Value → Ordering)
    (agree : (n : N) (b : List ℕ) (p : ℕ) → compared_at n b p ≡ compared n (K.read b p)) where
  -- the entry that is found by values is the one that is found by positions
  pub place_is : probe (comparison_at K V E b (compared key)) (map_tree (layout_of K V E) b at) ≡ place_of_key K V E compared_at b at key
  place_is = ap (λ (f : ℕ × ℕ → Ordering). probe f (map_tree (layout_of K V E) b at)) (fun_ext (λ e. sym (agree key b (e.0 + key_at (layout_of K V E) e.1))))

  pub looked_up_is : entry_looked_up K V E compared_at b at key ≡ found_at K V E b at (compared key)
  looked_up_is = ap (option_map (entry_at K V E b)) (sym place_is)

pub is_lookup : {N M : Type 0} {m : Portable.Ghosts M} (K V : Kind) (E : ℕ) {compared_at : N → List ℕ → ℕ → Ordering} (view : View M m) (law : ComparesAs K compared_at) (key : N) (compared : N → K.Value → Ordering)
    → ((n : N) (b : List ℕ) (p : ℕ) → compared_at n b p ≡ compared n (K.read b p)) → IsLookup K V E view (compared key) (looked_up_in K V E view compared_at key)
is_lookup K V E {compared_at} view law key compared agree =
    let b = view.buf.now in
    rw (looked_up_is K V E compared_at b view.pos key compared agree)
    (value_lookup (entry_lookup K V E view (compared key) (found_at K V E b view.pos (compared key)) refl (law.compared key) (law.cuts key) (natives_agree law compared agree key b)))

pub is_key_lookup : {N M : Type 0} {m : Portable.Ghosts M} (K : Kind) (E : ℕ) {compared_at : N → List ℕ → ℕ → Ordering} (view : View M m) (law : ComparesAs K compared_at) (key : N) (compared : N → K.Value → Ordering)
    → ((n : N) (b : List ℕ) (p : ℕ) → compared_at n b p ≡ compared n (K.read b p)) → IsKeyLookup K E view (compared key) (key_looked_up_in K E view compared_at key)
is_key_lookup K E {compared_at} view law key compared agree =
    let b = view.buf.now in
    rw (looked_up_is K unit_kind E compared_at b view.pos key compared agree)
    (key_lookup refl refl (entry_lookup K unit_kind E view (compared key) (found_at K unit_kind E b view.pos (compared key)) refl (law.compared key) (law.cuts key) (natives_agree law compared agree key b)))

-- what holds of an element that is there holds of each that is
pub for_some : {A : Type 0} (P : A → Type 0) (o : Option A) → IfSome o P → ForSome o P
for_some P o h x is = rw is at h

pub if_some : {A : Type 0} (P : A → Type 0) (o : Option A) → ForSome o P → IfSome o P
if_some P None h = tt
if_some P (Some x) h = h x refl

module _ {N : Type 0} (K V : Kind) (E : ℕ) (compared_at : N → List ℕ → ℕ → Ordering) (b : List ℕ) (at : ℕ) (ways : List Way) (keys : List N) (are : AreWaysOf K V E compared_at b at keys ways) where
  -- the entries at which searches end stand
  pub searched_stand : (i : ℕ) → i < 16 → i < length keys → ForSome (end_of (way_at ways i)) (λ e. RunStands K V E b e.0 e.1 (e.1 + 1))
  searched_stand i few less = elim (slice_get_cases keys i).1 [
    | inl h ↦ (are i h.0 few h.2).stands
    | inr h ↦ let past = h.0 in absurd (omega arith)
  ]
