-- What a search of a source returns is what lookups in it promise.
use Rattle.std.proofs.Common.{◌∙◌, ℕ, Bool, IsTrue, List, Option, Result, Ok, Err, is_some, sym, ap}
use Rattle.std.specs.Option.{option_map}
use Rattle.std.specs.declared.cmp.Ordering.{Ordering}
use Rattle.rkyv_btree_portable.specs.Kind.{Kind, IsLawful}
use Rattle.rkyv_btree_format.specs.Layout.{are_fitting}
use Rattle.rkyv_btree_portable.specs.declared.refusal.Refusal.{Refusal}
use Rattle.rkyv_btree_portable.specs.Refusing.{AreRefusals}
use Rattle.rkyv_btree_portable.specs.declared.check.Portable
use Rattle.rkyv_btree_source.proofs.Sorted.{finds_sorted, none_refused}
use Rattle.rkyv_btree_source.specs.Reading.{IfRefused}
use Rattle.rkyv_btree_source.specs.Sourced.{ReadsValue, ReadsWhether}
use Rattle.rkyv_btree_source.specs.declared.fault.SourceFault.{SourceFault}
use Rattle.rkyv_btree_source.specs.declared.fault.SourceFault.TheVariants.{Refused}
use Rattle.rkyv_btree_unverified.specs.Lookups.{FindsAt, LookupGives}
use Rattle.rkyv_btree_unverified.specs.Steps.{value_place}
use Rattle.rkyv_btree_view.proofs.LookedUp.{natives_agree}
use Rattle.rkyv_btree_view.proofs.Lookups.{some_mapped}
use Rattle.rkyv_btree_view.specs.Lookup.{ByNative}
use Rattle.rkyv_btree_view.specs.Query.{ComparesAs}
use Rattle.rkyv_btree_view.specs.View.{view_value}
use Rattle.rkyv_btree_view.specs.declared.view.View.{View}

module _ {N B F : Type 0} (K : Kind) {v : Portable.Ghosts B} (E : ℕ) (KR VR : List ℕ → ℕ → ℕ → ℕ → Refusal → Type 0) (b : List ℕ) (at : ℕ) (compared_at : N → List ℕ → ℕ → Ordering) (key : N) where
  -- a fault of reading says nothing of the bytes
  pub reads_fault : (fault : SourceFault F) → ((P : Refusal → Type 0) → IfRefused P fault) → ReadsValue K {B = B} {v = v} E KR VR b at (ByNative K compared_at key) {F = F} (Err fault)
  reads_fault fault other = record { refuses = record { refused = λ f p. other _; accepts = λ m is. other _ }; places = λ f p. tt; sorted = λ m is rises f p. tt }

  module _ (law : ComparesAs K compared_at) (lk : IsLawful K) (lv : IsLawful v.kind) (kr : AreRefusals K KR) (vr : AreRefusals v.kind VR) (fits : IsTrue (are_fitting K v.kind E)) where
    -- a refusal is that of a lookup in them
    pub reads_refusal : (e : Refusal) → ByNative K compared_at key (λ c. LookupGives K v.kind E b c KR VR at (Err e)) → ReadsValue K {B = B} {v = v} E KR VR b at (ByNative K compared_at key) {F = F} (Err (Refused e))
    reads_refusal e given = record {
      refuses = record { refused = given; accepts = λ m map. none_refused K v.kind E b (law.compared key) KR VR lk lv kr vr fits at m map e (given law.compared law.by_value) };
      places = λ f p. tt;
      sorted = λ m is rises f p. tt;
    }

    -- and what is found is what it finds
    pub reads_found : (found : Option (View B v)) → ByNative K compared_at key (λ c. FindsAt K v.kind E b c KR VR at (λ e. v.kind.read b (value_place K v.kind E e)) (option_map view_value found))
        → ReadsValue K E KR VR b at (ByNative K compared_at key) {F = F} (Ok found)
    reads_found found finds = record {
      refuses = record { refused = λ f p. tt; accepts = λ m is. tt };
      places = finds;
      sorted = λ m map rises f p. finds_sorted K v.kind E b (f key) KR VR lk lv kr vr fits at m map (law.compared key) (law.cuts key) (natives_agree law f p key b) rises (option_map view_value found) (finds f p);
    }

-- whether there is a value
abbrev pub whether : {X F : Type 0} → Result (Option X) (SourceFault F) → Result Bool (SourceFault F)
whether (Err fault) = Err fault
whether (Ok found) = Ok (is_some found)

pub reads_whether : {N B F : Type 0} (K : Kind) {v : Portable.Ghosts B} {E : ℕ} {KR VR : List ℕ → ℕ → ℕ → ℕ → Refusal → Type 0} {b : List ℕ} {at : ℕ} (compared_at : N → List ℕ → ℕ → Ordering) (key : N) (r : Result (Option (View B v)) (SourceFault F))
    → ReadsValue K E KR VR b at (ByNative K compared_at key) r → ReadsWhether K v.kind E KR VR b at (ByNative K compared_at key) (whether r)
reads_whether K compared_at key (Err fault) h = record { refuses = record { refused = h.refuses.refused; accepts = h.refuses.accepts }; places = h.places; sorted = h.sorted }
reads_whether K compared_at key (Ok found) h = record {
  refuses = record { refused = h.refuses.refused; accepts = h.refuses.accepts };
  places = λ f p. let there = h.places f p in (there.0, there.1, sym (some_mapped view_value found) ∙ ap is_some there.2 ∙ some_mapped _ there.0);
  sorted = λ m is rises f p. sym (some_mapped view_value found) ∙ ap is_some (h.sorted m is rises f p);
}
