-- The output of what is found.
use Rattle.std.proofs.Common.{◌≡◌, ℕ, List, [], ◌∷◌, ◌++◌, Option, Some, None, refl, ap, ◌∙◌}
use Rattle.std.specs.Option.{option_map}
use Rattle.btreekv_commands.specs.Commands.{FoundValue}
use Rattle.btreekv_commands.specs.Lines.{Entry}

pub found_none : (written : List ℕ → List ℕ) (o : Option Entry) (text : List ℕ) → None ≡ option_map (λ (e : Entry). e.1) o → text ≡ [] → FoundValue written o text 1
found_none written None text found none = (none, refl)
found_none written (Some e) text found none = absurd (cc found)

pub found_some : (written : List ℕ → List ℕ) (o : Option Entry) (value text : List ℕ) → Some value ≡ option_map (λ (e : Entry). e.1) o → text ≡ written value → FoundValue written o text 0
found_some written None value text found is = absurd (cc found)
found_some written (Some e) value text found is = let same : value ≡ e.1 = cc found in (is ∙ ap written same, refl)
