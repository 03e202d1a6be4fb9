-- The row of elements, or what stops it.
use Rattle.std.proofs.Common.{◌≡◌, ◌<◌, ◌*◌, ◌∙◌, ℕ, suc, zero, List, [], ◌∷◌, true, false, length, refl, subst, arith}
use Rattle.std.specs.List.{flat_map}
use Rattle.std.proofs.lemmas.Result.{err_from_is_err_and}
use Rattle.rkyv_btree_archive.specs.VectorArchival.{RowImage, row_image}
use Rattle.rkyv_btree_archive.specs.mirror.Rows.{in_memory, in_own_bytes, in_row}
use Rattle.rkyv_btree_writer.proofs.WriteRuns.{wrote-both, wrote-one, stopped-behind, stopped-one}
use Rattle.rkyv_btree_writer.specs.Padding.{padding}
use Rattle.rkyv_btree_writer.specs.Writing.{Write, Appended, Refused, position}
use Rattle.rkyv_btree_writing_laws.proofs.Kept.{wrote_begins}
use Rattle.rkyv_btree_writing_laws.specs.Entries.{AreResolved, AreUnresolved}
use Rattle.rkyv_btree_archive.proofs.vector.write_row.Goals as goal

-- what some zeros are asked for has elements
some_of : (n size : ℕ) → (n * size ≡ 0 → false ≡ true) → 0 < n
some_of zero size none = absurd (cc (none (omega arith)))
some_of (suc n) size none = omega arith

pub returns-in_err-pos-clause-err : goal.returns-in_err-pos-clause-err
returns-in_err-pos-clause-err g c =
    let p = err_from_is_err_and c.from_residual.result c.from_residual.ensures.1 in
    rw (p.1, p.2) (c.in_err-pos.ensures.err c.args.elements.now refl c.args.resolvers.now.items)

pub returns-in-Err-clause-err : goal.returns-in-Err-clause-err
returns-in-Err-clause-err g c = in_memory c.in-Err.error refl (some_of (length c.args.elements.now) c.size.result c.in-Err.ensures.succeeds) (wrote_begins _ _ _ c.in_ok-pos.ensures.ok)

pub returns-in-Err-fill_row-clause-err : goal.returns-in-Err-fill_row-clause-err
returns-in-Err-fill_row-clause-err g c =
    let fault = c.in-Err-fill_row.fault in
    in_own_bytes fault c.fault_of.ensures c.in_ok-pos.ensures.ok
    (subst (λ (at : ℕ). AreUnresolved g.T.Archive.archival at c.args.elements.now c.args.resolvers.now.items fault) c.in_ok-pos.ensures.aligned c.in-Err-fill_row.ensures.err)

pub returns-in_err-put_bytes-clause-err : goal.returns-in_err-put_bytes-clause-err
returns-in_err-put_bytes-clause-err g c =
    let from = g.W.Writer.state c.args.writer.now in
    let mid = g.W.Writer.state c.begin_row.new.writer in
    let t = g.W.Writer.state c.put_bytes.new.writer in
    let align = g.T.Archive.archival.kind.align in
    let made = c.in_default.ensures.ok in
    let fault = c.in_err-put_bytes.field-0.0 in
    let next : Write = record { bytes = flat_map (λ own. own) made.0; reaches = true } in
    let row : RowImage g.T.Archive.archival (position from) c.args.elements.now c.args.resolvers.now.items (row_image align (position from) made.0) = record {
      owns = made.0;
      resolved = subst (λ (at : ℕ). AreResolved g.T.Archive.archival at c.args.elements.now c.args.resolvers.now.items made.0) c.in_ok-pos.ensures.aligned made.1;
      image = refl;
    } in
    let refused : Refused fault mid next t = subst (λ (bytes : List ℕ). Refused fault mid (record { bytes = bytes; reaches = true }) t) (c.as_slice.ensures.value ∙ made.2) (c.in_err-put_bytes.ensures.err true) in
    let p = err_from_is_err_and c.from_residual-in_err-put_bytes.result c.from_residual-in_err-put_bytes.ensures.1 in
    rw (p.1, p.2) (in_row _ row (stopped-behind from (padding align (position from)) mid (next ∷ []) fault t c.in_ok-pos.ensures.ok (stopped-one mid next fault t refused)))

pub returns-clause-ok : goal.returns-clause-ok
returns-clause-ok g c =
    let from = g.W.Writer.state c.args.writer.now in
    let mid = g.W.Writer.state c.begin_row.new.writer in
    let t = g.W.Writer.state c.put_bytes.new.writer in
    let align = g.T.Archive.archival.kind.align in
    let made = c.in_default.ensures.ok in
    let next : Write = record { bytes = flat_map (λ own. own) made.0; reaches = true } in
    let done : Appended mid next.bytes t = subst (λ (bytes : List ℕ). Appended mid bytes t) (c.as_slice.ensures.value ∙ made.2) c.in_ok-put_bytes.ensures.ok in
    record {
      writes = row_image align (position from) made.0;
      row = record {
        owns = made.0;
        resolved = subst (λ (at : ℕ). AreResolved g.T.Archive.archival at c.args.elements.now c.args.resolvers.now.items made.0) c.in_ok-pos.ensures.aligned made.1;
        image = refl;
      };
      wrote = wrote-both from (padding align (position from)) mid (next ∷ []) t c.in_ok-pos.ensures.ok (wrote-one mid next t refl done);
      place = c.in_ok-pos.ensures.aligned;
      end = c.in_ok-put_bytes.ensures.end;
    }
