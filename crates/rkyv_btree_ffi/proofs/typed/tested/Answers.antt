-- A header that is read has one name, which begins at position 12.
use Rattle.std.proofs.Common.{◌∙◌, List, ℕ, inr, length, refl, subst, sym}
use Rattle.std.specs.Cmp.Lexicographic.{other_text}
use Rattle.rkyv_btree_ffi.proofs.Headers.{name_inside, name_place}
use Rattle.rkyv_btree_typed.proofs.Headers.{one_name}
use Rattle.rkyv_btree_typed.specs.TypeHeader.{HasHeader}
use Rattle.rkyv_btree_ffi.proofs.typed.tested.Goals as goal

pub returns-clause-accepts : goal.returns-clause-accepts
returns-clause-accepts c =
    let differs = other_text c.in-Ok.found.now c.args.name.now c.if-eq.ensures in
    (λ no. cc no, λ h. absurd (differs (one_name c.in-Ok.found.now c.args.name.now c.args.buf.now c.in-Ok.ensures.name h)))

pub returns-clause-refuses : goal.returns-clause-refuses
returns-clause-refuses c =
    let differs = other_text c.in-Ok.found.now c.args.name.now c.if-eq.ensures in
    let place = name_place c.in-Ok.found.now c.args.buf.now c.in-Ok.ensures.name in
    let inside = name_inside c.in-Ok.found.now c.args.buf.now c.in-Ok.ensures.name in
    inr (length c.in-Ok.found.now, (inside, subst (λ (n : List ℕ). HasHeader n c.args.buf.now) (sym place) c.in-Ok.ensures.name, λ e. differs (sym place ∙ e)), refl)
