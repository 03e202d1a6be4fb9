-- Elements that are made native in turn, up to the first fault.
use Rattle.std.proofs.Common.{◌≡◌, List, [], ◌∷◌, ◌++◌, map, sym, ap, ◌∙◌}
use Rattle.std.specs.Prelude.{Result, Ok, Err}
use Rattle.rkyv_btree_convert.proofs.Puts.{take_all, push, all_taken, all_pushed}
use Rattle.rkyv_btree_convert.specs.Deserializing.{IsRefused, all}
use Rattle.rkyv_btree_convert.specs.declared.deserialize.DeserializeFault.{DeserializeFault}
use Rattle.rkyv_btree_convert.specs.declared.deserialize.DeserializeFault.TheVariants.{Memory, Entry}
use Rattle.rkyv_btree_writer.specs.declared.fault.EntryFault.{EntryFault}

module _ {A F V : Type 0} (of_value : V → Result A F) where
  -- what comes of the models so far and the values that are left
  abbrev pub Come : List A → List V → Result (List A) F
  Come models left = take_all push models (map of_value left)

  pub come_all : (vs : List V) → Come [] vs ≡ all (map of_value vs)
  come_all vs = all_taken push [] (map of_value vs) ∙ all_pushed (all (map of_value vs))

  pub come_taken : (models more : List A) (left rest : List V) (v : V) (given : Result A F) (m : A) (whole : Result (List A) F) → Come models left ≡ whole → left ≡ v ∷ rest → given ≡ of_value v → given ≡ Ok m → more ≡ models ++ m ∷ [] → Come more rest ≡ whole
  come_taken models more left rest v given m whole comes is same ok grown =
      let value : of_value v ≡ Ok m = sym same ∙ ok in
      let step : Come models (v ∷ rest) ≡ Come (models ++ m ∷ []) rest = ap (λ r. take_all push models (r ∷ map of_value rest)) value in
      ap (λ (ms : List A). Come ms rest) grown ∙ (sym step ∙ (ap (Come models) (sym is) ∙ comes))

  pub come_refused : (models : List A) (left rest : List V) (v : V) (given : Result A F) (fault : F) (whole : Result (List A) F) → Come models left ≡ whole → left ≡ v ∷ rest → given ≡ of_value v → given ≡ Err fault → whole ≡ Err fault
  come_refused models left rest v given fault whole comes is same err =
      let value : of_value v ≡ Err fault = sym same ∙ err in
      sym comes ∙ (ap (Come models) is ∙ ap (λ r. take_all push models (r ∷ map of_value rest)) value)

  pub come_done : (models : List A) (left : List V) (whole : Result (List A) F) → Come models left ≡ whole → left ≡ [] → whole ≡ Ok models
  come_done models left whole comes none = sym comes ∙ ap (Come models) none

  pub come_begun : (models : List A) (left vs : List V) → models ≡ [] → left ≡ vs → Come models left ≡ all (map of_value vs)
  come_begun models left vs none is = ap (λ (ms : List A). Come ms left) none ∙ (ap (Come []) is ∙ come_all vs)

-- what refuses a part refuses the whole, where the whole gives the part's fault
pub refused_by : {A B : Type 0} (part : Result A EntryFault) (whole : Result B EntryFault) (fault : DeserializeFault) → ((f : EntryFault) → part ≡ Err f → whole ≡ Err f) → IsRefused part fault → IsRefused whole fault
refused_by part whole (Memory error) gives h = tt
refused_by part whole (Entry fault) gives h = gives fault h
