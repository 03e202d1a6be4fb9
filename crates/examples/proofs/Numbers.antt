-- Maps of numbers, as they stand and as their values are put.
use Rattle.std.proofs.Common.{◌≡◌, ℕ, zero, suc, ◌+◌, ◌%◌, ◌^◌, ◌<◌, List, [], ◌∷◌, length, refl, sym, ap, subst, ◌∙◌, arith, Bool, true, Option, Some, None, IsTrue, slice_get}
use Rattle.std.proofs.lemmas.Option.{slice_get-map}
use Rattle.std.proofs.lemmas.Bool.Decides.{nat_tests}
use Rattle.std.specs.List.{HoldsAt}
use Rattle.std.specs.Option.{option_map}
use Rattle.std.specs.Prelude.{MatchOption, is_some, nat_le, ◌&&◌, filter}
use Rattle.std.specs.Ordering.{nat_cmp, is_le, is_ge}
use Rattle.std.specs.declared.ops.Bound.TheVariants.{Included}
use Rattle.std.proofs.lemmas.List.Elements.{filter_agree}
use Rattle.rkyv_btree.specs.Bounds.{IsWithin}
use Rattle.std.specs.declared.cmp.Ordering.TheVariants.{Equal}
use Rattle.rkyv_btree_base.specs.InPlace.{value_of}
use Rattle.rkyv_btree_base.specs.Layout.{are_fitting, inner_size, len_at, node_size, values_at, keys_at, align, node_align}
use Rattle.rkyv_btree_base.specs.Map.{map_kind}
use Rattle.rkyv_btree_base.specs.Natives.{u32_form}
use Rattle.rkyv_btree_base.specs.Read.{read_map, entry_at}
use Rattle.rkyv_btree_base.specs.Rounding.{round_up}
use Rattle.rkyv_btree_base.specs.Scalars.{u32_kind}
use Rattle.rkyv_btree_base.specs.Views.{stands}
use Rattle.rkyv_btree_base.specs.laws.Natives.{u32_faithful}
use Rattle.rkyv_btree_base.specs.laws.Scalars.{u32_laws}
use Rattle.rkyv_btree_base.specs.laws.Views.{stands_of}
use Rattle.rkyv_btree_base.proofs.MapLaws.{map_laws}
use Rattle.rkyv_btree.specs.Places.{IsNumber, FindsPlace, PutsEntry, SetsFound}
use Rattle.rkyv_btree.specs.Put.{put_value}
use Rattle.rkyv_btree.specs.EntryPlaces.{entry_places}
use Rattle.rkyv_btree.specs.Search.{OrderedBy, AnyHit}
use Rattle.examples.specs.Editing.{IsNumbers, Changed, AddsTo}

slice_get_less : {X : Type 0} (xs : List X) (i : ℕ) (x : X) → slice_get xs i ≡ Some x → i < length xs
slice_get_less [] i x h = absurd (cc h)
slice_get_less (y ∷ xs) zero x h = omega arith
slice_get_less (y ∷ xs) (suc i) x h = let less = slice_get_less xs i x h in omega arith

holds_at : {X : Type 0} (P : X → Type 0) (xs : List X) (i : ℕ) (x : X) → slice_get xs i ≡ Some x → P x → HoldsAt P xs i
holds_at P [] i x h p d = absurd (cc h)
holds_at P (y ∷ xs) zero x h p d = let same : y ≡ x = cc h in subst P (sym same) p
holds_at P (y ∷ xs) (suc i) x h p d = holds_at P xs i x h p d

numbers_fit : IsTrue (are_fitting u32_kind u32_kind 5)
unfolding are_fitting inner_size len_at node_size values_at keys_at align node_align round_up
numbers_fit = refl

-- a map of numbers stands
pub numbers_stand : (b : List ℕ) (pos : ℕ) (m : List (ℕ × ℕ)) → IsNumbers b pos m → IsTrue (stands (map_kind u32_kind u32_kind 5) b pos)
numbers_stand b pos m is = stands_of (map_laws u32_kind u32_kind 5 u32_laws u32_laws) numbers_fit b 0 pos pos is.0 m is.1

-- and is read there
pub numbers_read : (b : List ℕ) (pos : ℕ) (m : List (ℕ × ℕ)) → IsNumbers b pos m → m ≡ read_map u32_kind u32_kind 5 b pos
numbers_read b pos m is = (map_laws u32_kind u32_kind 5 u32_laws u32_laws).is_read b 0 pos pos is.0 m is.1

-- an entry that has a number is read as that of the list
pub numbered : (b : List ℕ) (pos i : ℕ) (e : ℕ × ℕ) (m : List (ℕ × ℕ)) → IsNumbers b pos m → IsNumber u32_kind u32_kind 5 b pos i e → slice_get m i ≡ Some (entry_at u32_kind u32_kind 5 b e)
numbered b pos i e m is at = ap (λ xs. slice_get xs i) (numbers_read b pos m is) ∙ slice_get-map (entry_at u32_kind u32_kind 5 b) (entry_places u32_kind u32_kind 5 b pos) i ∙ ap (option_map (entry_at u32_kind u32_kind 5 b)) at

-- a number put in place of a value is put into the list
pub number_put : (b c : List ℕ) (pos i n : ℕ) (e : ℕ × ℕ) (m : List (ℕ × ℕ)) → n < 2 ^ 32 → IsNumbers b pos m → IsNumber u32_kind u32_kind 5 b pos i e → PutsEntry u32_kind u32_kind 5 b pos e (u32_form.own_bytes n) c → IsNumbers c pos (put_value m i n)
number_put b c pos i n e m small is at puts =
    let told : value_of u32_kind (u32_form.own_bytes n) ≡ n = u32_faithful.means n small in
    subst (λ (v : ℕ). IsNumbers c pos (put_value m i v)) told (is.0, puts.accepted i 0 pos is.0 m at is.1)

equal_is : (n m : ℕ) → nat_cmp n m ≡ Equal → m ≡ n
equal_is n m e = grind (arith, nat_tests, e)

equal_self : (n : ℕ) → nat_cmp n n ≡ Equal
equal_self n = grind (arith, nat_tests)

pair_is : (k v n : ℕ) → k ≡ n → ◌≡◌ {A = ℕ × ℕ} (k, v) (n, v)
pair_is k v n e = ap (λ x. let p : ℕ × ℕ = (x, v) in p) e

-- where keys are in order, a key that isn't found isn't there
pub absent_key : (b : List ℕ) (pos key : ℕ) (m : List (ℕ × ℕ)) → IsNumbers b pos m → FindsPlace u32_kind u32_kind 5 b pos (nat_cmp key) None → OrderedBy (λ e. nat_cmp key e.0) m → (i old : ℕ) → slice_get m i ≡ Some (key, old) → ⊥
absent_key b pos key m is finds ordered i old at =
    let read = numbers_read b pos m is in
    let hit : AnyHit (λ e. nat_cmp key e.0) m = (i, slice_get_less m i (key, old) at, holds_at (λ (e : ℕ × ℕ). nat_cmp key e.0 ≡ Equal) m i (key, old) at (equal_self key)) in
    cc ((finds.search.complete (rw read at ordered)).1 (rw read at hit))

-- what a search for a key has found has it, and what was written there is its value
pub found_changed : (b c : List ℕ) (pos key value : ℕ) (m : List (ℕ × ℕ)) (e : ℕ × ℕ) → value < 2 ^ 32 → IsNumbers b pos m → FindsPlace u32_kind u32_kind 5 b pos (nat_cmp key) (Some e) → PutsEntry u32_kind u32_kind 5 b pos e (u32_form.own_bytes value) c → Changed b c pos m key value true
found_changed b c pos key value m e small is finds puts =
    let old = (entry_at u32_kind u32_kind 5 b e).1 in (
      finds.entry.0,
      old,
      numbered b pos finds.entry.0 e m is finds.entry.1 ∙ ap Some (pair_is _ old key (equal_is key (entry_at u32_kind u32_kind 5 b e).0 finds.search.hit.0)),
      number_put b c pos finds.entry.0 value e m small is finds.entry.1 puts,
    )

pub found_adds : (b c : List ℕ) (pos key : ℕ) (m : List (ℕ × ℕ)) (e : ℕ × ℕ) → IsNumbers b pos m → FindsPlace u32_kind u32_kind 5 b pos (nat_cmp key) (Some e) → PutsEntry u32_kind u32_kind 5 b pos e (u32_form.own_bytes (((entry_at u32_kind u32_kind 5 b e).1 + 10) % 2 ^ 32)) c → AddsTo b c pos m key true
found_adds b c pos key m e is finds puts =
    let old = (entry_at u32_kind u32_kind 5 b e).1 in (
      finds.entry.0,
      old,
      numbered b pos finds.entry.0 e m is finds.entry.1 ∙ ap Some (pair_is _ old key (equal_is key (entry_at u32_kind u32_kind 5 b e).0 finds.search.hit.0)),
      number_put b c pos finds.entry.0 ((old + 10) % 2 ^ 32) e m (omega arith) is finds.entry.1 puts,
    )

pub sets_changed : (b c : List ℕ) (pos key value : ℕ) (result : Bool) (m : List (ℕ × ℕ)) → value < 2 ^ 32 → IsNumbers b pos m → SetsFound u32_kind u32_kind 5 b pos (nat_cmp key) (u32_form.own_bytes value) c result → Changed b c pos m key value result
sets_changed b c pos key value result m small is sets = case sets.found sets.finds sets.has_found sets.puts
  where
    case : (found : Option (ℕ × ℕ)) → FindsPlace u32_kind u32_kind 5 b pos (nat_cmp key) found → result ≡ is_some found → MatchOption found (c ≡ b) (λ e. PutsEntry u32_kind u32_kind 5 b pos e (u32_form.own_bytes value) c) → Changed b c pos m key value result
    case None finds told puts = rw told (puts, λ ordered i old at. absent_key b pos key m is finds ordered i old at)
    case (Some e) finds told puts = rw told (found_changed b c pos key value m e small is finds puts)

is_le-nat_cmp : (n m : ℕ) → is_le (nat_cmp n m) ≡ nat_le n m
is_le-nat_cmp n m = grind (arith, nat_tests)

is_ge-nat_cmp : (n m : ℕ) → is_ge (nat_cmp n m) ≡ nat_le m n
is_ge-nat_cmp n m = grind (arith, nat_tests)

-- the entries of a range are those between its bounds
pub within_numbers : (low high : ℕ) (m within : List (ℕ × ℕ)) → IsWithin (Included (nat_cmp low)) (Included (nat_cmp high)) m within → OrderedBy (λ e. nat_cmp low e.0) m → OrderedBy (λ e. nat_cmp high e.0) m → within ≡ filter (λ e. nat_le low e.0 && nat_le e.0 high) m
within_numbers low high m within is lows highs = is lows highs ∙ filter_agree _ _ (λ e. rw (is_le-nat_cmp low e.0, is_ge-nat_cmp high e.0) refl) m
