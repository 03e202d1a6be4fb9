-- Native entries that are made one after the other.
use Rattle.std.proofs.Common.{◌≡◌, ℕ, List, [], ◌∷◌, ◌++◌, refl, sym, ap, ◌∙◌, append_assoc, append-nil}
use Rattle.std.specs.Prelude.{Result, Ok, Err}
use Rattle.std.specs.Result.{result_map_both}
use Rattle.rkyv_btree_base.specs.EntryFault.{EntryFault}
use Rattle.rkyv_btree_base.specs.Kind.{Kind}
use Rattle.rkyv_btree.specs.Deserializing.{IsByMeaning, both}
use Rattle.rkyv_btree.specs.Maps.{model_both}
use Rattle.examples.specs.Whole.{entries_given}

-- what is there, with what comes after it, or a fault
abbrev pub behind : {X : Type 0} → List X → Result (List X) EntryFault → Result (List X) EntryFault
behind done rest = result_map_both (λ xs. done ++ xs) (λ fault. fault) rest

behind_nothing : {X : Type 0} (rest : Result (List X) EntryFault) → behind [] rest ≡ rest
behind_nothing (Ok xs) = refl
behind_nothing (Err fault) = refl

behind_one : {X : Type 0} (done : List X) (x : X) (rest : Result (List X) EntryFault) → behind (done ++ x ∷ []) rest ≡ behind done (result_map_both (λ p. p.0 ∷ p.1) (λ fault. fault) (both (Ok x) rest))
behind_one done x (Ok xs) = ap Ok (append_assoc done (x ∷ []) xs)
behind_one done x (Err fault) = refl

model_more : {T U A B : Type 0} (model_key : T → A) (model_value : U → B) (done : List (T × U)) (e : T × U) → model_both model_key model_value (done ++ e ∷ []) ≡ model_both model_key model_value done ++ (model_key e.0, model_value e.1) ∷ []
model_more model_key model_value [] e = refl
model_more model_key model_value (x ∷ done) e = ap (λ ys. (model_key x.0, model_value x.1) ∷ ys) (model_more model_key model_value done e)

module _ {K V : Kind} {A B : Type 0} {native_key : List ℕ → ℕ → Result A EntryFault} {native_value : List ℕ → ℕ → Result B EntryFault} (key : IsByMeaning K native_key) (value : IsByMeaning V native_value) where
  -- the next entry is made
  pub one_made : {T U : Type 0} (model_key : T → A) (model_value : U → B) (done : List (T × U)) (left more : List (K.Value × V.Value)) (b c : List ℕ) (p q : ℕ) (e : T × U)
      → left ≡ (K.read b p, V.read c q) ∷ more → both (native_key b p) (native_value c q) ≡ Ok (model_key e.0, model_value e.1)
      → behind (model_both model_key model_value (done ++ e ∷ [])) (entries_given key value more) ≡ behind (model_both model_key model_value done) (entries_given key value left)
  one_made model_key model_value done left more b c p q e next made =
      let given : both (key.of_value (K.read b p)) (value.of_value (V.read c q)) ≡ Ok (model_key e.0, model_value e.1) = rw (← key.by_value b p, ← value.by_value c q) made in
      rw (model_more model_key model_value done e, next, given) (behind_one (model_both model_key model_value done) (model_key e.0, model_value e.1) (entries_given key value more))

  -- all are
  pub all_made : (start done : List (A × B)) (entries left : List (K.Value × V.Value)) → start ≡ [] → left ≡ [] → behind done (entries_given key value left) ≡ behind start (entries_given key value entries) → entries_given key value entries ≡ Ok done
  all_made start done entries left none empty same =
      sym (behind_nothing (entries_given key value entries)) ∙ ap (λ xs. behind xs (entries_given key value entries)) (sym none) ∙ sym same ∙ ap (λ xs. behind done (entries_given key value xs)) empty ∙ ap Ok (append-nil done)
