use Rattle.std.proofs.Common.{rules, ◌<◌, ◌≤◌, ◌^◌, length, subst, sym, Option, Bor, List, ℕ, IfSome}
use Rattle.rkyv_btree_typed.proofs.Headers.{named_of_parts, text_found}
use Rattle.rkyv_btree_typed.specs.TypeHeader.{IsNamed}
use Rattle.rkyv_btree_typed.proofs.header.name_of.Goals as goal

pub returns-clause-some : goal.returns-clause-some
returns-clause-some c =
    let small : c.in_ok-len.len < 2 ^ 32 = search rules in
    let room : c.in_ok-len.len ≤ length c.in_ok-len.rest.now = search rules in
    subst (λ (found : Option (Bor (List ℕ))). IfSome found (λ name. IsNamed name.now c.args.bytes.now)) (sym c.ok.ensures.value)
    (text_found c.split_at.result.0.now c.args.bytes.now c.from_utf8.result _ c.from_utf8.ensures.cases
    (named_of_parts c.args.bytes.now c.in_ok-len.rest.now c.split_at.result.0.now c.split_at.result.1.now c.in_ok-strip_zeros.field-0.now c.in_ok-len.len c.zeros_after.result small room c.in_ok-len.ensures.some c.split_at.ensures.front c.split_at.ensures.back c.in_ok-strip_zeros.ensures c.zeros_after.ensures.value))
