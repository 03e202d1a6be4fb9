-- The first bytes are those of the source.
use Rattle.std.proofs.Common.{◌≡◌, ◌∙◌, List, ℕ, ap, arith, length, min, refl, subst, sym, take}
use Rattle.std.proofs.lemmas.List.{length-take, take_min}
use Rattle.rkyv_btree_source.specs.Known.{AreOf, Known}
use Rattle.rkyv_btree_typed.proofs.Headers.{header_of_first}
use Rattle.rkyv_btree_typed.specs.TypeHeader.{HasHeader}
use Rattle.rkyv_btree_typed.specs.TypeNames.{name_of}
use Rattle.rkyv_btree_typed.specs.TypedOpening.{IsMistyped}
use Rattle.rkyv_btree_typed.proofs.open_source.open_typed_source.Goals as goal

pub returns-in-Ok-check_type-clause-typed : goal.returns-in-Ok-check_type-clause-typed
returns-in-Ok-check_type-clause-typed g c b e =
    let known = subst (λ (k : Known). AreOf k b) (sym (c.in-Ok-size.ensures.same ∙ c.in-Ok.ensures.source)) e in
    let read = c.in-Ok-read.ensures.gives b known in
    header_of_first (name_of g.M.TypeName.term) b _ (subst (λ (z : List ℕ). HasHeader (name_of g.M.TypeName.term) z) read (c.in-Ok-check_type.ensures.accepts.0 refl))

pub returns-in-Err-check_type-clause-refused : goal.returns-in-Err-check_type-clause-refused
returns-in-Err-check_type-clause-refused g c b e =
    let known = subst (λ (k : Known). AreOf k b) (sym (c.in-Ok-size.ensures.same ∙ c.in-Ok.ensures.source)) e in
    let read = c.in-Ok-read.ensures.gives b known in
    let there = subst (λ (k : Known). AreOf k b) (sym c.in-Ok.ensures.source) e in
    let size = c.in-Ok-size.ensures.value b there in
    let count : length (take c.min-len.result c.args.lent.now) ≡ min (length c.args.lent.now) (length b) = simp length-take (omega (arith, size, c.min-len.ensures)) in
    subst (λ (z : List ℕ). IsMistyped (name_of g.M.TypeName.term) z c.in-Err-check_type.refusal) (read ∙ (ap (λ n. take n b) count ∙ take_min (length c.args.lent.now) b)) c.in-Err-check_type.ensures.refuses
