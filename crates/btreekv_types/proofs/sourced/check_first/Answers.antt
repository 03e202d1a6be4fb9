-- The first bytes are those of the source.
use Rattle.std.proofs.Common.{◌≡◌, ◌∙◌, List, ℕ, ap, arith, length, min, subst, sym, take}
use Rattle.std.proofs.lemmas.List.{length-take, take_min}
use Rattle.rkyv_btree_source.specs.Known.{AreOf, Known}
use Rattle.btreearc_lines.specs.Headings.{IsHeaded, IsMisheaded}
use Rattle.btreearc_lines.specs.declared.heading.Heading.{Heading}
use Rattle.btreekv_types.specs.Types.{map_name, types_of}
use Rattle.btreekv_types.proofs.sourced.check_first.Goals as goal

pub returns-in-Ok-heading_at-clause-ok : goal.returns-in-Ok-heading_at-clause-ok
returns-in-Ok-heading_at-clause-ok g c b e =
    let known = subst (λ (k : Known). AreOf k b) (sym c.in-Ok.ensures.same) e in
    let read = c.in-Ok-read_at.ensures.gives b known in
    let size = c.in-Ok.ensures.value b e in
    let count : length (take c.min-len.result c.args.room.now) ≡ min 4096 (length b) = simp length-take (omega (arith, size, c.min-len.ensures, c.requires)) in
    subst (λ (z : List ℕ). (heading : Heading) × IsHeaded (map_name (types_of c.args.types)) z heading) (read ∙ (ap (λ n. take n b) count ∙ take_min 4096 b)) (c.in-Ok-heading_at.field-0, c.in-Ok-heading_at.ensures.ok)

pub returns-in-Err-heading_at-clause-err : goal.returns-in-Err-heading_at-clause-err
returns-in-Err-heading_at-clause-err g c b e =
    let known = subst (λ (k : Known). AreOf k b) (sym c.in-Ok.ensures.same) e in
    let read = c.in-Ok-read_at.ensures.gives b known in
    let size = c.in-Ok.ensures.value b e in
    let count : length (take c.min-len.result c.args.room.now) ≡ min 4096 (length b) = simp length-take (omega (arith, size, c.min-len.ensures, c.requires)) in
    subst (λ (z : List ℕ). IsMisheaded (map_name (types_of c.args.types)) z c.in-Err-heading_at.fault) (read ∙ (ap (λ n. take n b) count ∙ take_min 4096 b)) c.in-Err-heading_at.ensures.err
