use Rattle.std.proofs.Common.{ℕ, ◌<◌, ◌∙◌, List, length, inr, ap, subst, sym}
use Rattle.std.proofs.lemmas.Result.{err_from_is_err_and}
use Rattle.rkyv_btree_writing_laws.proofs.Whole.{unpadded_unplaced, unput_unplaced, unput_unwritten}
use Rattle.rkyv_btree_writing_laws.specs.Whole.{IsUnplaced}
use Rattle.rkyv_btree_portable.specs.Rounding.{round_up}
use Rattle.rkyv_btree_writer.specs.Padding.{padding}
use Rattle.rkyv_btree_writer.specs.Writing.{Stopped, Wrote, position}
use Rattle.rkyv_btree_archive.proofs.to_archive.write_value.Goals as goal

pub returns-in_err-pos-clause-err : goal.returns-in_err-pos-clause-err
returns-in_err-pos-clause-err g c =
    let s = g.W.Writer.state c.args.writer.now in
    let t = g.W.Writer.state c.pad.new.writer in
    let fault = c.in_err-pos.field-0.0 in
    let p = err_from_is_err_and c.from_residual.result c.from_residual.ensures.1 in
    rw (p.1, p.2) (unpadded_unplaced g.T.Archive.archival g.T.Archived.Portable.kind c.args.value.now c.args.resolver s (subst (λ n. 0 < n) c.align.ensures.value c.align.ensures.positive) fault t (subst (λ (n : ℕ). Stopped s (padding n (position s)) fault t) c.align.ensures.value c.in_err-pos.ensures.err))

pub returns-in_err-put-clause-err : goal.returns-in_err-put-clause-err
returns-in_err-put-clause-err g c =
    let s = g.W.Writer.state c.args.writer.now in
    let m = g.W.Writer.state c.pad.new.writer in
    let t = g.W.Writer.state c.put.new.writer in
    let place = sym c.in_ok-pos.ensures.end ∙ (c.in_ok-pos.ensures.pos ∙ ap (round_up (position s)) c.align.ensures.value) in
    let p = err_from_is_err_and c.from_residual-in_err-put.result c.from_residual-in_err-put.ensures.1 in
    rw (p.1, p.2) (unput_unplaced g.T.Archive.archival g.T.Archived.Portable.kind c.args.value.now c.args.resolver s _ (ap length c.as_slice.ensures.value ∙ c.in_ok-own.ensures.size) m t place c.in_err-put.field-0.0 c.in_err-put.ensures.err)

pub size-size-requires : goal.size-size-requires
size-size-requires g c = c.requires

pub own_bytes-requires-clause-fitting : goal.own_bytes-requires-clause-fitting
own_bytes-requires-clause-fitting g c = c.requires

pub pad-requires-clause-positive : goal.pad-requires-clause-positive
pad-requires-clause-positive g c = c.align.ensures.positive

pub pad-requires-clause-small : goal.pad-requires-clause-small
pad-requires-clause-small g c = c.align.ensures.small

pub returns-in_err-own-clause-err : goal.returns-in_err-own-clause-err
returns-in_err-own-clause-err g c =
    let place = c.in_ok-pos.ensures.pos ∙ ap (round_up (position (g.W.Writer.state c.args.writer.now))) c.align.ensures.value in
    let fault = c.in_err-own.field-0.0 in
    let p = err_from_is_err_and c.from_residual-in_err-own.result c.from_residual-in_err-own.ensures.1 in
    rw (p.1, p.2) (subst (λ (n : ℕ). IsUnplaced g.T.Archive.archival g.T.Archived.Portable.kind c.args.value.now c.args.resolver n fault) place c.in_err-own.ensures.err)

pub returns-in_err-put-clause-left : goal.returns-in_err-put-clause-left
returns-in_err-put-clause-left g c =
    let T = g.T.Archive.archival in
    let kind = g.T.Archived.Portable.kind in
    let s = g.W.Writer.state c.args.writer.now in
    let m = g.W.Writer.state c.pad.new.writer in
    let t = g.W.Writer.state c.put.new.writer in
    let pads = subst (λ (n : ℕ). Wrote s (padding n (position s)) m) c.align.ensures.value c.in_ok-pos.ensures.ok in
    let resolved = subst (λ (own : List ℕ). T.Resolves c.args.value.now c.args.resolver (position m) own) (sym c.as_slice.ensures.value) (subst (λ (n : ℕ). T.Resolves c.args.value.now c.args.resolver n c.in_ok-own.own.items) c.in_ok-pos.ensures.end c.in_ok-own.ensures.ok) in
    let p = err_from_is_err_and c.from_residual-in_err-put.result c.from_residual-in_err-put.ensures.1 in
    rw (p.1, p.2) (inr (m, pads, unput_unwritten T kind c.args.value.now c.args.resolver m t _ resolved c.in_err-put.field-0.0 c.in_err-put.ensures.err))
