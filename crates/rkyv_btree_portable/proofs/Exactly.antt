-- A result is `Ok x` exactly where P holds of x, if P holds of each value that it has, and each x with P is its value. So of errors.
use Rattle.std.proofs.Common.{refl, subst, IfOk, IfErr, IsOk, ◌≡◌, ◌↔◌, Result, Ok, Err}

pub ok_exactly : {A E : Type 0} (P : A → Type 0) (r : Result A E) → IfOk r P → ((x : A) → P x → r ≡ Ok x) → (x : A) → (r ≡ Ok x) ↔ P x
ok_exactly P r held all x = ((λ e. subst (λ s. IfOk s P) e held), all x)

pub err_exactly : {A E : Type 0} (P : E → Type 0) (r : Result A E) → IfErr r P → ((x : E) → P x → r ≡ Err x) → (x : E) → (r ≡ Err x) ↔ P x
err_exactly P r held all x = ((λ e. subst (λ s. IfErr s P) e held), all x)

-- a result with a value is `Ok`, of which P holds
pub ok_there : {A E : Type 0} (P : A → Type 0) (r : Result A E) → IfOk r P → IsOk r → (x : A) × P x
ok_there P (Ok x) held ok = (x, held)
ok_there P (Err e) held ok = absurd (cc ok)

-- and back
pub ok_held : {A E : Type 0} (P : A → Type 0) (r : Result A E) → ((x : A) → (r ≡ Ok x) ↔ P x) → IfOk r P
ok_held P (Ok x) exactly = (exactly x).0 refl
ok_held P (Err e) exactly = tt

pub err_held : {A E : Type 0} (P : E → Type 0) (r : Result A E) → ((x : E) → (r ≡ Err x) ↔ P x) → IfErr r P
err_held P (Ok x) exactly = tt
err_held P (Err e) exactly = (exactly e).0 refl
