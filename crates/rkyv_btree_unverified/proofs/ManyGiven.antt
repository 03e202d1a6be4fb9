-- What many lookups give is what each lookup gives.
use Rattle.std.proofs.Common.{◌≡◌, ◌∙◌, ℕ, ◌<◌, IfSome, IsTrue, List, length, [], ◌∷◌, Option, Some, None, Result, Ok, Err, refl, sym, ap, arith, subst, inl, inr}
use Rattle.std.proofs.lemmas.Option.{slice_get_cases}
use Rattle.std.specs.BTreeMap.{is_at}
use Rattle.std.specs.Iterator.{Drains}
use Rattle.std.specs.List.{AllZip}
use Rattle.std.specs.Option.{option_map}
use Rattle.std.specs.Prelude.{IsOk}
use Rattle.std.specs.declared.cmp.Ordering.{Ordering}
use Rattle.std.specs.declared.cmp.Ordering.TheVariants.{Equal}
use Rattle.rkyv_btree_portable.specs.Kind.{Kind, IsLawful}
use Rattle.rkyv_btree_format.specs.Layout.{are_fitting}
use Rattle.rkyv_btree_portable.specs.declared.refusal.Refusal.{Refusal}
use Rattle.rkyv_btree_portable.specs.Refusing.{AreRefusals}
use Rattle.rkyv_btree_portable.specs.declared.check.Portable
use Rattle.rkyv_btree_unverified.proofs.OnMaps.{lookup_is}
use Rattle.rkyv_btree_unverified.proofs.Promised.{Cuts, Follows, failed, is_equal, is_found, is_sorted, succeeded}
use Rattle.rkyv_btree_unverified.specs.Ends.{result_of, way_at}
use Rattle.rkyv_btree_unverified.specs.Given.{GivesKey, GivesValue}
use Rattle.rkyv_btree_unverified.specs.Lookups.{LookupGives}
use Rattle.rkyv_btree_unverified.specs.Steps.{key_place, value_place}
use Rattle.rkyv_btree_unverified.specs.UnverifiedLookups.{Shows, YieldsLeft}
use Rattle.rkyv_btree_unverified.specs.declared.many.UnverifiedWay.{UnverifiedWay}
use Rattle.rkyv_btree_unverified.specs.mirror.Many.{AreWaysOf, EndStands}
use Rattle.rkyv_btree_view.proofs.LookedUp.{key_of_entry, value_of_entry}
use Rattle.rkyv_btree_view.specs.Map.{IsMap}
use Rattle.rkyv_btree_view.specs.declared.view.View.{View}

-- all items of an iterator are those that are left
pub drained_left : {S X : Type 0} (AreLeft : S → List X → Type 0) (s : S) (xs : List X) → Drains (YieldsLeft AreLeft) s xs → AreLeft s xs
drained_left {S} {X} AreLeft s [] d = subst (λ (t : S). AreLeft t []) (sym d.1.1) d.1.2.0
drained_left AreLeft s (x ∷ xs) d = d.1.1.1 xs (drained_left AreLeft d.1.1.0 xs (d.0, (d.1.0, d.1.1.2, d.1.2)))

-- two relations, place by place, make up one
pub zip_both : {A B C : Type 0} {P : A → B → Type 0} {Q : B → C → Type 0} (S : A → C → Type 0) → ((a : A) (b : B) (c : C) → P a b → Q b c → S a c)
    → (xs : List A) (ys : List B) (zs : List C) → AllZip P xs ys → AllZip Q ys zs → AllZip S xs zs
zip_both S both [] [] [] p q = tt
zip_both S both [] [] (z ∷ zs) p q = q
zip_both S both [] (y ∷ ys) zs p q = absurd p
zip_both S both (x ∷ xs) [] zs p q = absurd p
zip_both S both (x ∷ xs) (y ∷ ys) [] p q = absurd q
zip_both S both (x ∷ xs) (y ∷ ys) (z ∷ zs) p q = (both x y z p.0 q.0, zip_both S both xs ys zs p.1 q.1)

-- what shows the end of a search is what a lookup gives: a value
module _ (K : Kind) {B : Type 0} {v : Portable.Ghosts B} (E : ℕ) (b : List ℕ) (KR VR : List ℕ → ℕ → ℕ → ℕ → Refusal → Type 0) (lk : IsLawful K) (lv : IsLawful v.kind) (kr : AreRefusals K KR) (vr : AreRefusals v.kind VR)
    (fits : IsTrue (are_fitting K v.kind E)) (at : ℕ) {By : ((K.Value → Ordering) → Type 0) → Type 0} (follows : Follows By) (cuts : By (Cuts K b)) where
  pub given_value : (end : Result (Option (ℕ × ℕ)) Refusal) (r : Result (Option (View B v)) Refusal) → By (λ c. LookupGives K v.kind E b c KR VR at end) → ((m : List (K.Value × v.kind.Value)) → IsMap K v.kind E b at m → IsOk end)
      → Shows K v.kind E b (value_place K v.kind E) (λ e. e.1) end r → GivesValue K E KR VR b at By r
  given_value (Err e) r given accepts s = rw s (record {
    fails = failed K v.kind E b KR VR lk lv kr vr at follows e given accepts;
    places = follows.both _ _ _ (λ c h g. tt) given given;
    buffer = tt;
    found = λ m is. follows.both _ _ _ (λ c h g. tt) given given;
    sorted = λ m is rises. follows.both _ _ _ (λ c h g. tt) given given;
  })
  given_value (Ok place) r given accepts s = rw s.1 (record {
    fails = succeeded K v.kind E b KR VR lk lv kr vr at follows place s.0 given;
    places = follows.both _ _ _ (λ c h g. (place, h, s.3)) given given;
    buffer = s.2;
    found = λ m is. follows.both _ _ _ (λ c h g. s.4 ∙ ap (option_map (λ e. e.1)) (is_found K v.kind E b KR VR lk lv kr vr at fits place c m is h)) given given;
    sorted = λ m is rises. follows.both _ _ _ (λ c h cut. s.4 ∙ ap (option_map (λ e. e.1)) (is_sorted K v.kind E b KR VR lk lv kr vr at fits place c m is h rises cut) ∙ value_of_entry (is_at c) m) given cuts;
  })

-- the key of an equal entry is equal
key_of : {A B : Type 0} (c : A → Ordering) (o : Option (A × B)) → IfSome o (λ e. c e.0 ≡ Equal) → IfSome (option_map (λ e. e.0) o) (λ key. c key ≡ Equal)
key_of c None h = tt
key_of c (Some e) h = h

-- and a key
module _ {A : Type 0} {k : Portable.Ghosts A} (V : Kind) (E : ℕ) (b : List ℕ) (KR VR : List ℕ → ℕ → ℕ → ℕ → Refusal → Type 0) (lk : IsLawful k.kind) (lv : IsLawful V) (kr : AreRefusals k.kind KR) (vr : AreRefusals V VR)
    (fits : IsTrue (are_fitting k.kind V E)) (at : ℕ) {By : ((k.kind.Value → Ordering) → Type 0) → Type 0} (follows : Follows By) (cuts : By (Cuts k.kind b)) where
  pub given_key : (end : Result (Option (ℕ × ℕ)) Refusal) (r : Result (Option (View A k)) Refusal) → By (λ c. LookupGives k.kind V E b c KR VR at end) → ((m : List (k.kind.Value × V.Value)) → IsMap k.kind V E b at m → IsOk end)
      → Shows k.kind V E b (key_place k.kind V E) (λ e. e.0) end r → GivesKey V E KR VR b at By r
  given_key (Err e) r given accepts s = rw s (record {
    fails = failed k.kind V E b KR VR lk lv kr vr at follows e given accepts;
    equal = follows.both _ _ _ (λ c h g. tt) given given;
    places = follows.both _ _ _ (λ c h g. tt) given given;
    buffer = tt;
    found = λ m is. follows.both _ _ _ (λ c h g. tt) given given;
    sorted = λ m is rises. follows.both _ _ _ (λ c h g. tt) given given;
  })
  given_key (Ok place) r given accepts s = rw s.1 (record {
    fails = succeeded k.kind V E b KR VR lk lv kr vr at follows place s.0 given;
    equal = follows.both _ _ _ (λ c h g. rw s.4 (key_of c _ (is_equal k.kind V E b KR VR lk lv kr vr at place c h))) given given;
    places = follows.both _ _ _ (λ c h g. (place, h, s.3)) given given;
    buffer = s.2;
    found = λ m is. follows.both _ _ _ (λ c h g. s.4 ∙ ap (option_map (λ e. e.0)) (is_found k.kind V E b KR VR lk lv kr vr at fits place c m is h)) given given;
    sorted = λ m is rises. follows.both _ _ _ (λ c h cut. s.4 ∙ ap (option_map (λ e. e.0)) (is_sorted k.kind V E b KR VR lk lv kr vr at fits place c m is h rises cut) ∙ key_of_entry (is_at c) m) given cuts;
  })

-- on a map a search has no error
pub no_error_on_map : (K V : Kind) (E : ℕ) (b : List ℕ) (KR VR : List ℕ → ℕ → ℕ → ℕ → Refusal → Type 0) → IsLawful K → IsLawful V → AreRefusals K KR → AreRefusals V VR → IsTrue (are_fitting K V E) → (at : ℕ) (c : K.Value → Ordering) (end : Result (Option (ℕ × ℕ)) Refusal)
    → LookupGives K V E b c KR VR at end → (m : List (K.Value × V.Value)) → IsMap K V E b at m → IsOk end
no_error_on_map K V E b KR VR k v kr vr fits at c end given m is = rw (lookup_is K V E b c KR VR k v kr vr fits at m is end given) refl

-- what searches ended with stands
pub searched_stand : {N : Type 0} (K V : Kind) (E : ℕ) (compared_at : N → List ℕ → ℕ → Ordering) (b : List ℕ) (KR VR : List ℕ → ℕ → ℕ → ℕ → Refusal → Type 0) (at : ℕ) (ways : List UnverifiedWay) (keys : List N)
    → AreWaysOf K V E compared_at b KR VR at keys ways → (i : ℕ) → i < 16 → i < length keys → EndStands K V E b (result_of (way_at ways i))
searched_stand K V E compared_at b KR VR at ways keys are i few less = elim (slice_get_cases keys i).1 [
  | inl h ↦ (are i h.0 few h.2).stands
  | inr h ↦ let past = h.0 in absurd (omega arith)
]
