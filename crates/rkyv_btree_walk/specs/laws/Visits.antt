-- What a visit returns, by what its calls return.
use Rattle.std.specs.Prelude.{◌≡◌, List, [], ◌∷◌, Option}
use Rattle.std.proofs.Common.{refl, ◌∙◌}
use Rattle.std.specs.declared.ops.ControlFlow.{ControlFlow}
use Rattle.std.specs.declared.ops.ControlFlow.TheVariants.{Continue, Break}
use Rattle.rkyv_btree_walk.specs.Visit.{AfterOutcome, Visits, broken, or_else, first_given}

module _ {F W X Y T : Type 0} (call : F → W → X → ControlFlow T (Unit {0}) → F → Type 0) (means : W → X → Y) where
  module _ (Keeps : F → Type 0) (gives : Y → Option T)
      (each : (f : F) (w : W) (x : X) (r : ControlFlow T (Unit {0})) (g : F) → Keeps f → call f w x r g → Keeps g × (broken r ≡ gives (means w x))) where
    after : (rest : Option T) (e : Y) (r : ControlFlow T (Unit {0})) (g : F) (result : Option T) (last : F) (goes_on : F → Type 0) → broken r ≡ gives e → Keeps g → (goes_on g → (result ≡ rest) × Keeps last)
        → AfterOutcome r goes_on g result last → (result ≡ or_else (gives e) rest) × Keeps last
    after rest e (Continue u) g result last goes_on a k tail h = rw (← a) (tail h)
    after rest e (Break v) g result last goes_on a k tail h = rw (← a) (h.0, rw h.1 k)

    -- where each call keeps something of the visitor and breaks with the value that `gives` has at its entry, the
    -- visit returns the first value given
    pub visits_keep : (m : List Y) (first : F) (result : Option T) (last : F) → Keeps first → Visits call means first m result last → (result ≡ first_given gives m) × Keeps last
    visits_keep [] first result last kept h = (h.0, rw h.1 kept)
    visits_keep (e ∷ es) first result last kept h =
        let one = each first h.0 h.1 h.2 h.3 kept h.5 in
        rw (← h.4) (after (first_given gives es) (means h.0 h.1) h.2 h.3 result last (λ f. Visits call means f es result last) one.1 one.0 (λ t. visits_keep es h.3 result last one.0 t) h.6)

  -- the same of a visitor that calls leave as it is
  pub visits_first : (m : List Y) (first : F) (result : Option T) (last : F) → Visits call means first m result last → (gives : Y → Option T)
      → ((f : F) (w : W) (x : X) (r : ControlFlow T (Unit {0})) (g : F) → call f w x r g → g ≡ f)
      → ((w : W) (x : X) (r : ControlFlow T (Unit {0})) (g : F) → call first w x r g → broken r ≡ gives (means w x)) → result ≡ first_given gives m
  visits_first m first result last h gives stays answers =
      (visits_keep (λ f. f ≡ first) gives (λ f w x r g k c. (stays f w x r g c ∙ k, answers w x r g (rw k at c))) m first result last refl h).0
