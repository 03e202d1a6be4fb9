-- What a search returns is what lookups promise of an entry; and what they promise of an entry holds of its value, of its key, and of
-- whether there is one.
use Rattle.std.proofs.Common.{◌≡◌, ◌∙◌, ℕ, Bool, IfSome, IsTrue, List, Option, Some, None, Result, Ok, Err, is_some, refl, sym, ap}
use Rattle.std.specs.BTreeMap.{is_at}
use Rattle.std.specs.Borrow.{Bor}
use Rattle.std.specs.Map.{lookup_entry}
use Rattle.std.specs.Option.{option_map}
use Rattle.std.specs.Prelude.{IsOk}
use Rattle.std.specs.declared.cmp.Ordering.{Ordering}
use Rattle.std.specs.declared.cmp.Ordering.TheVariants.{Equal}
use Rattle.rkyv_btree_format.specs.Increasing.{Increasing}
use Rattle.rkyv_btree_portable.specs.Kind.{Kind, IsLawful}
use Rattle.rkyv_btree_format.specs.Layout.{are_fitting, layout_of}
use Rattle.rkyv_btree_format.specs.Read.{entry_at}
use Rattle.rkyv_btree_portable.specs.declared.refusal.Refusal.{Refusal}
use Rattle.rkyv_btree_portable.specs.Refusing.{AreRefusals}
use Rattle.rkyv_btree_portable.specs.declared.check.Portable
use Rattle.rkyv_btree_unverified.proofs.Found.{as_checked, complete_on, no_error, not_both, passed_on, same_error, sorted_finds}
use Rattle.rkyv_btree_unverified.proofs.OnMaps.{lookup_is}
use Rattle.rkyv_btree_unverified.proofs.Valid.{lookup_valid}
use Rattle.rkyv_btree_unverified.specs.Given.{ByKey, FailsAsSearched, FindsEntry, GivesEntry, GivesEntryWith, GivesKey, GivesValue, GivesWhether, GivesWhetherKey}
use Rattle.rkyv_btree_unverified.specs.Lookups.{LookupGives}
use Rattle.rkyv_btree_unverified.specs.Steps.{entry_places, places}
use Rattle.rkyv_btree_view.proofs.LookedUp.{key_of_entry, value_of_entry}
use Rattle.rkyv_btree_view.proofs.Lookups.{some_mapped}
use Rattle.rkyv_btree_view.specs.Lookup.{ByComparison, ByNative, found_at}
use Rattle.rkyv_btree_view.specs.Map.{IsMap}
use Rattle.rkyv_btree_view.specs.Query.{IsCut}
use Rattle.rkyv_btree_view.specs.View.{view_entry, view_value}
use Rattle.rkyv_btree_view.specs.declared.view.View.{View}
use Rattle.rkyv_btree_walk.specs.mirror.Search.{comparison_at, searched_map}

-- what follows from two facts that hold by the comparisons of a query holds by them
pub record Follows {C : Type 0} (By : (C → Type 0) → Type 0) : Type 1 where
  pub both : (P Q R : C → Type 0) → ((c : C) → P c → Q c → R c) → By P → By Q → By R

pub by_native : {N : Type 0} (K : Kind) (compared_at : N → List ℕ → ℕ → Ordering) (native : N) → Follows (ByNative K compared_at native)
by_native K compared_at native = record { both = λ P Q R both p q f agree. both (f native) (p f agree) (q f agree) }

pub by_key : (K : Kind) (key : K.Value) → Follows (ByKey K key)
by_key K key = record { both = λ P Q R both p q. both (K.order key) p q }

pub by_comparison : {Q W A : Type 0} (post : Bor Q → W → Ordering → Type 0) (shows : W → A) (query : Q) → Follows (ByComparison post shows query)
by_comparison post shows query = record { both = λ P Q R both p q f by. both (f query) (p f by) (q f by) }

-- the comparison goes with the order of keys at what is read
abbrev pub Cuts : (K : Kind) → List ℕ → (K.Value → Ordering) → Type 0
Cuts K b comparison = (cut : K.Value → Ordering) × IsCut K.order cut × ((p : ℕ) → comparison (K.read b p) ≡ cut (K.read b p))

module _ (K V : Kind) (E : ℕ) (b : List ℕ) (KR VR : List ℕ → ℕ → ℕ → ℕ → Refusal → Type 0) (k : IsLawful K) (v : IsLawful V) (kr : AreRefusals K KR) (vr : AreRefusals V VR) (at : ℕ) where
  -- on a map a search ends as that of a view of the map does
  module _ (fits : IsTrue (are_fitting K V E)) (place : Option (ℕ × ℕ)) (c : K.Value → Ordering) (m : List (K.Value × V.Value)) (is : IsMap K V E b at m) (given : LookupGives K V E b c KR VR at (Ok place)) where
    ends_as : place ≡ (searched_map (layout_of K V E) b (comparison_at K V E b c) at).0
    ends_as = let same = lookup_is K V E b c KR VR k v kr vr fits at m is (Ok place) given in cc same

    pub is_found : option_map (entry_at K V E b) place ≡ found_at K V E b at c
    is_found = as_checked K V E b c at place _ refl ends_as

    pub is_sorted : Increasing K.order m → Cuts K b c → option_map (entry_at K V E b) place ≡ lookup_entry (is_at c) m
    is_sorted rises cut = sorted_finds K V E b c at place _ refl ends_as k v m is cut.0 cut.1 cut.2 rises

  -- what it comes to is equal
  pub is_equal : (place : Option (ℕ × ℕ)) (c : K.Value → Ordering) → LookupGives K V E b c KR VR at (Ok place) → IfSome (option_map (entry_at K V E b) place) (λ e. c e.0 ≡ Equal)
  is_equal None c h = tt
  is_equal (Some e) c h = (lookup_valid K V E b c KR VR e at h).0.gives

  module _ {By : ((K.Value → Ordering) → Type 0) → Type 0} (follows : Follows By) {X : Type 0} where
    -- an error of a search is that of its lookup
    pub failed : (e : Refusal) → By (λ c. LookupGives K V E b c KR VR at (Err e)) → ((m : List (K.Value × V.Value)) → IsMap K V E b at m → IsOk {T = X} {E = Refusal} (Err e)) → FailsAsSearched K V E KR VR b at By {X = X} (Err e)
    failed e given accepts = record {
      refused = given;
      all_refused = follows.both _ _ _ (λ c h g d other. same_error K V E b c KR VR k v kr vr at e d h other) given given;
      accepts = accepts;
    }

    -- and if it has none, the lookup has none
    pub succeeded : (place : Option (ℕ × ℕ)) (x : X) → By (λ c. LookupGives K V E b c KR VR at (Ok place)) → FailsAsSearched K V E KR VR b at By (Ok x)
    succeeded place x given = record {
      refused = follows.both _ _ _ (λ c h g. tt) given given;
      all_refused = follows.both _ _ _ (λ c h g d other. no_error K V E b c KR VR k v kr vr at place x d h other) given given;
      accepts = λ m is. refl;
    }

-- entries
module _ {A B : Type 0} {k : Portable.Ghosts A} {v : Portable.Ghosts B} (E : ℕ) (b : List ℕ) (KR VR : List ℕ → ℕ → ℕ → ℕ → Refusal → Type 0) (lk : IsLawful k.kind) (lv : IsLawful v.kind) (kr : AreRefusals k.kind KR) (vr : AreRefusals v.kind VR)
    (fits : IsTrue (are_fitting k.kind v.kind E)) (at : ℕ) {By : ((k.kind.Value → Ordering) → Type 0) → Type 0} (follows : Follows By) where
  -- an error is that of the search
  module _ (e : Refusal) (given : By (λ c. LookupGives k.kind v.kind E b c KR VR at (Err e))) (accepts : (m : List (k.kind.Value × v.kind.Value)) → IsMap k.kind v.kind E b at m → IsOk {T = Option (View A k × View B v)} {E = Refusal} (Err e)) where
    no_entry : FindsEntry {A = A} {B = B} {k = k} {v = v} E KR VR b at By (Err e)
    no_entry = record {
      equal = follows.both _ _ _ (λ c h g. tt) given given;
      places = follows.both _ _ _ (λ c h g. tt) given given;
      buffer = tt;
      found = λ m is. follows.both _ _ _ (λ c h g. tt) given given;
    }

    pub entry_failed : GivesEntry {A = A} {B = B} {k = k} {v = v} E KR VR b at By (Err e)
    entry_failed = record {
      fails = failed k.kind v.kind E b KR VR lk lv kr vr at follows e given accepts;
      finds = no_entry;
      sorted = λ m is rises. follows.both _ _ _ (λ c h g. tt) given given;
    }

    pub entry_with_failed : GivesEntryWith {A = A} {B = B} {k = k} {v = v} E KR VR b at By (Err e)
    entry_with_failed = record {
      fails = failed k.kind v.kind E b KR VR lk lv kr vr at follows e given accepts;
      finds = no_entry;
      complete = λ m is. follows.both _ _ _ (λ c h g. tt) given given;
    }

  -- and what is found is what the views at the place of its end read
  module _ (place : Option (ℕ × ℕ)) (found : Option (View A k × View B v)) (given : By (λ c. LookupGives k.kind v.kind E b c KR VR at (Ok place))) (value : option_map view_entry found ≡ option_map (entry_at k.kind v.kind E b) place)
      (buffer : IfSome found (λ e. (e.0.buf.now ≡ b) × (e.1.buf.now ≡ b))) (there : option_map places found ≡ option_map (entry_places k.kind v.kind E) place) where
    an_entry : FindsEntry E KR VR b at By (Ok found)
    an_entry = record {
      equal = follows.both _ _ _ (λ c h g. rw value (is_equal k.kind v.kind E b KR VR lk lv kr vr at place c h)) given given;
      places = follows.both _ _ _ (λ c h g. (place, h, there)) given given;
      buffer = buffer;
      found = λ m is. follows.both _ _ _ (λ c h g. value ∙ is_found k.kind v.kind E b KR VR lk lv kr vr at fits place c m is h) given given;
    }

    pub entry_found : By (Cuts k.kind b) → GivesEntry E KR VR b at By (Ok found)
    entry_found cuts = record {
      fails = succeeded k.kind v.kind E b KR VR lk lv kr vr at follows place found given;
      finds = an_entry;
      sorted = λ m is rises. follows.both _ _ _ (λ c h cut. value ∙ is_sorted k.kind v.kind E b KR VR lk lv kr vr at fits place c m is h rises cut) given cuts;
    }

    pub entry_with_found : GivesEntryWith E KR VR b at By (Ok found)
    entry_with_found = record {
      fails = succeeded k.kind v.kind E b KR VR lk lv kr vr at follows place found given;
      finds = an_entry;
      complete = λ m is. follows.both _ _ _ (λ c h g. complete_on k.kind v.kind E b c at place _ refl (ends_as k.kind v.kind E b KR VR lk lv kr vr at fits place c m is h) lk lv m is found view_entry (sym value)) given given;
    }

-- a part of what a function gives
pub part_mapped : {A B C : Type 0} (part : B → C) (f : A → B) (o : Option A) → option_map part (option_map f o) ≡ option_map (λ a. part (f a)) o
part_mapped part f None = refl
part_mapped part f (Some a) = refl

-- a part of what is found, and whether there is something
abbrev pub part_of : {X Y : Type 0} → (X → Y) → Result (Option X) Refusal → Result (Option Y) Refusal
part_of part (Err e) = Err e
part_of part (Ok found) = Ok (option_map part found)

abbrev pub whether : {X : Type 0} → Result (Option X) Refusal → Result Bool Refusal
whether (Err e) = Err e
whether (Ok found) = Ok (is_some found)

-- they have the same errors
module _ {K V : Kind} {E : ℕ} {KR VR : List ℕ → ℕ → ℕ → ℕ → Refusal → Type 0} {b : List ℕ} {at : ℕ} {By : ((K.Value → Ordering) → Type 0) → Type 0} (follows : Follows By) {X Y : Type 0} where
  fails_on : (e : Refusal) → FailsAsSearched K V E KR VR b at By {X = X} (Err e) → FailsAsSearched K V E KR VR b at By {X = Y} (Err e)
  fails_on e h = record {
    refused = h.refused;
    all_refused = follows.both _ _ _ (λ c all g d given. passed_on e d (all d given)) h.all_refused h.all_refused;
    accepts = h.accepts;
  }

  ends_on : (x : X) (y : Y) → FailsAsSearched K V E KR VR b at By (Ok x) → FailsAsSearched K V E KR VR b at By (Ok y)
  ends_on x y h = record {
    refused = h.refused;
    all_refused = follows.both _ _ _ (λ c all g d given. not_both x y d (all d given)) h.all_refused h.all_refused;
    accepts = λ m is. refl;
  }

-- parts of views
module _ {A B : Type 0} {k : Portable.Ghosts A} {v : Portable.Ghosts B} where
  value_places : (o : Option (View A k × View B v)) → option_map (λ value. value.pos) (option_map (λ e. e.1) o) ≡ option_map (λ p. p.1) (option_map places o)
  value_places None = refl
  value_places (Some e) = refl

  values : (o : Option (View A k × View B v)) → option_map view_value (option_map (λ e. e.1) o) ≡ option_map (λ e. e.1) (option_map view_entry o)
  values None = refl
  values (Some e) = refl

  value_buffer : (b : List ℕ) (o : Option (View A k × View B v)) → IfSome o (λ e. (e.0.buf.now ≡ b) × (e.1.buf.now ≡ b)) → IfSome (option_map (λ e. e.1) o) (λ value. value.buf.now ≡ b)
  value_buffer b None h = tt
  value_buffer b (Some e) h = h.1

  key_places : (o : Option (View A k × View B v)) → option_map (λ key. key.pos) (option_map (λ e. e.0) o) ≡ option_map (λ p. p.0) (option_map places o)
  key_places None = refl
  key_places (Some e) = refl

  keys : (o : Option (View A k × View B v)) → option_map view_value (option_map (λ e. e.0) o) ≡ option_map (λ e. e.0) (option_map view_entry o)
  keys None = refl
  keys (Some e) = refl

  key_buffer : (b : List ℕ) (o : Option (View A k × View B v)) → IfSome o (λ e. (e.0.buf.now ≡ b) × (e.1.buf.now ≡ b)) → IfSome (option_map (λ e. e.0) o) (λ key. key.buf.now ≡ b)
  key_buffer b None h = tt
  key_buffer b (Some e) h = h.0

  key_equal : (c : k.kind.Value → Ordering) (o : Option (View A k × View B v)) → IfSome (option_map view_entry o) (λ e. c e.0 ≡ Equal) → IfSome (option_map view_value (option_map (λ e. e.0) o)) (λ key. c key ≡ Equal)
  key_equal c None h = tt
  key_equal c (Some e) h = h

module _ {A B : Type 0} {k : Portable.Ghosts A} {v : Portable.Ghosts B} {E : ℕ} {KR VR : List ℕ → ℕ → ℕ → ℕ → Refusal → Type 0} {b : List ℕ} {at : ℕ} {By : ((k.kind.Value → Ordering) → Type 0) → Type 0} (follows : Follows By) where
  pub gives_value : (r : Result (Option (View A k × View B v)) Refusal) → GivesEntry E KR VR b at By r → GivesValue k.kind E KR VR b at By (part_of (λ e. e.1) r)
  gives_value (Err e) h = record { fails = fails_on follows e h.fails; places = h.finds.places; buffer = tt; found = h.finds.found; sorted = h.sorted }
  gives_value (Ok found) h = record {
    fails = ends_on follows _ _ h.fails;
    places = follows.both _ _ _ (λ c there g. (there.0, there.1, value_places found ∙ ap (option_map (λ p. p.1)) there.2 ∙ part_mapped (λ p. p.1) (entry_places k.kind v.kind E) there.0)) h.finds.places h.finds.places;
    buffer = value_buffer b found h.finds.buffer;
    found = λ m is. follows.both _ _ _ (λ c same g. values found ∙ ap (option_map (λ e. e.1)) same) (h.finds.found m is) (h.finds.found m is);
    sorted = λ m is rises. follows.both _ _ _ (λ c same g. values found ∙ ap (option_map (λ e. e.1)) same ∙ value_of_entry (is_at c) m) (h.sorted m is rises) (h.sorted m is rises);
  }

  pub gives_key : (r : Result (Option (View A k × View B v)) Refusal) → GivesEntry E KR VR b at By r → GivesKey v.kind E KR VR b at By (part_of (λ e. e.0) r)
  gives_key (Err e) h = record { fails = fails_on follows e h.fails; equal = h.finds.equal; places = h.finds.places; buffer = tt; found = h.finds.found; sorted = h.sorted }
  gives_key (Ok found) h = record {
    fails = ends_on follows _ _ h.fails;
    equal = follows.both _ _ _ (λ c same g. key_equal c found same) h.finds.equal h.finds.equal;
    places = follows.both _ _ _ (λ c there g. (there.0, there.1, key_places found ∙ ap (option_map (λ p. p.0)) there.2 ∙ part_mapped (λ p. p.0) (entry_places k.kind v.kind E) there.0)) h.finds.places h.finds.places;
    buffer = key_buffer b found h.finds.buffer;
    found = λ m is. follows.both _ _ _ (λ c same g. keys found ∙ ap (option_map (λ e. e.0)) same) (h.finds.found m is) (h.finds.found m is);
    sorted = λ m is rises. follows.both _ _ _ (λ c same g. keys found ∙ ap (option_map (λ e. e.0)) same ∙ key_of_entry (is_at c) m) (h.sorted m is rises) (h.sorted m is rises);
  }

module _ {K : Kind} {B : Type 0} {v : Portable.Ghosts B} {E : ℕ} {KR VR : List ℕ → ℕ → ℕ → ℕ → Refusal → Type 0} {b : List ℕ} {at : ℕ} {By : ((K.Value → Ordering) → Type 0) → Type 0} (follows : Follows By) where
  pub gives_whether : (r : Result (Option (View B v)) Refusal) → GivesValue K E KR VR b at By r → GivesWhether K v.kind E KR VR b at By (whether r)
  gives_whether (Err e) h = record { finds = record { fails = fails_on follows e h.fails; places = h.places; found = h.found }; sorted = h.sorted }
  gives_whether (Ok found) h = record {
    finds = record {
      fails = ends_on follows _ _ h.fails;
      places = follows.both _ _ _ (λ c there g. (there.0, there.1, sym (some_mapped (λ value. value.pos) found) ∙ ap is_some there.2 ∙ some_mapped _ there.0)) h.places h.places;
      found = λ m is. follows.both _ _ _ (λ c same g. sym (some_mapped view_value found) ∙ ap is_some same ∙ some_mapped (λ e. e.1) (found_at K v.kind E b at c)) (h.found m is) (h.found m is);
    };
    sorted = λ m is rises. follows.both _ _ _ (λ c same g. sym (some_mapped view_value found) ∙ ap is_some same) (h.sorted m is rises) (h.sorted m is rises);
  }

module _ {A : Type 0} {k : Portable.Ghosts A} {V : Kind} {E : ℕ} {KR VR : List ℕ → ℕ → ℕ → ℕ → Refusal → Type 0} {b : List ℕ} {at : ℕ} {By : ((k.kind.Value → Ordering) → Type 0) → Type 0} (follows : Follows By) where
  pub gives_whether_key : (r : Result (Option (View A k)) Refusal) → GivesKey V E KR VR b at By r → GivesWhetherKey k.kind V E KR VR b at By (whether r)
  gives_whether_key (Err e) h = record { finds = record { fails = fails_on follows e h.fails; places = h.places; found = h.found }; sorted = h.sorted }
  gives_whether_key (Ok found) h = record {
    finds = record {
      fails = ends_on follows _ _ h.fails;
      places = follows.both _ _ _ (λ c there g. (there.0, there.1, sym (some_mapped (λ key. key.pos) found) ∙ ap is_some there.2 ∙ some_mapped _ there.0)) h.places h.places;
      found = λ m is. follows.both _ _ _ (λ c same g. sym (some_mapped view_value found) ∙ ap is_some same ∙ some_mapped (λ e. e.0) (found_at k.kind V E b at c)) (h.found m is) (h.found m is);
    };
    sorted = λ m is rises. follows.both _ _ _ (λ c same g. sym (some_mapped view_value found) ∙ ap is_some same) (h.sorted m is rises) (h.sorted m is rises);
  }
