-- Each element is resolved after those before it.
use Rattle.std.proofs.Common.{◌≡◌, ◌+◌, ◌*◌, ◌≤◌, ◌∙◌, ℕ, length, get_or, refl, sym, ap, subst, arith, rules, Option}
use Rattle.std.specs.List.{splice}
use Rattle.std.proofs.lemmas.List.{get_or-set_other}
use Rattle.std.proofs.lemmas.Result.{err_from_is_err_and}
use Rattle.rkyv_btree_archive.proofs.ArraysWritten.{next_part, part_unfit}
use Rattle.rkyv_btree_archive.specs.ArrayArchival.{PartResolves, part_fields}
use Rattle.rkyv_btree_writer.specs.Fields.{FirstUnfit}
use Rattle.rkyv_btree_archive.proofs.array.resolve_elements.Goals as goal

pub returns-in_err-resolve_part-clause-err : goal.returns-in_err-resolve_part-clause-err
returns-in_err-resolve_part-clause-err g c =
    let T = g.T.Archive.archival in
    let i = c.loop-i.i in
    let x = get_or c.args.elements.now i c.index-elements-i.result in
    let size = g.T.Archived.Portable.kind.size in
    let same : size ≡ T.kind.size = sym g.met.T.Archive.same_kind.size in
    let many : length c.args.resolvers ≡ g.row.N = search rules in
    let told = c.take-resolver.ensures.value ∙ c.loop-i.invariant.left i _ (omega arith) in
    let place : c.args.pos + i * c.size.result ≡ c.args.pos + i * size = ap (λ n. c.args.pos + i * n) c.size.ensures in
    let unfit = subst (λ n. FirstUnfit (part_fields T x c.take-resolver.result n) c.in_err-resolve_part.field-0.0) place c.in_err-resolve_part.ensures.err in
    let p = err_from_is_err_and c.from_residual.result c.from_residual.ensures.1 in
    rw (p.1, p.2) (part_unfit T g.met.T.Archive.causes c.args.elements.now c.args.resolvers c.args.pos i size c.args.bytes.now c.loop-i.bytes x c.index-elements-i.result c.take-resolver.result _ c.in_err-resolve_part.field-0.0 same (omega (arith, c.loop-i-test.true, c.type_inv.elements)) (c.type_inv.elements ∙ sym many) refl told c.loop-i.invariant.done unfit)

pub loop-i-preserved : goal.loop-i-preserved
loop-i-preserved g c =
    let T = g.T.Archive.archival in
    let i = c.loop-i.i in
    let x = get_or c.args.elements.now i c.index-elements-i.result in
    let size = g.T.Archived.Portable.kind.size in
    let same : size ≡ T.kind.size = sym g.met.T.Archive.same_kind.size in
    let many : length c.args.resolvers ≡ g.row.N = search rules in
    let told = c.take-resolver.ensures.value ∙ c.loop-i.invariant.left i _ (omega arith) in
    let ok = c.in_ok-resolve_part.ensures.ok in
    let step : i * c.size.result ≡ i * size = ap (λ n. i * n) c.size.ensures in
    let part = subst (λ n. PartResolves T x c.take-resolver.result (c.args.pos + n) ok.0) step ok.1 in
    let put = subst (λ n. c.resolve_part.new.bytes ≡ splice c.loop-i.bytes n (n + length ok.0) ok.0) step ok.3 in
    record {
      done = next_part T c.args.elements.now c.args.resolvers c.args.pos i size c.args.bytes.now c.loop-i.bytes c.resolve_part.new.bytes x c.index-elements-i.result c.take-resolver.result _ ok.0 same (omega (arith, c.loop-i-test.true, c.type_inv.elements)) (c.type_inv.elements ∙ sym many) refl told c.loop-i.invariant.done part ok.2 put;
      left = λ k d later. get_or-set_other c.loop-i.resolvers i k _ d (λ e. omega (arith, e, later)) ∙ c.loop-i.invariant.left k d (omega (arith, later));
    }
