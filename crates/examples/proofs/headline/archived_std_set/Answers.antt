use Rattle.std.proofs.Common.{inl, inr, sym, ◌∙◌}
use Rattle.std.proofs.lemmas.List.{length-map}
use Rattle.std.proofs.lemmas.Result.{err_from_is_err_and}
use Rattle.rkyv_btree_base.specs.Scalars.{unit_kind}
use Rattle.rkyv_btree_base.specs.Sets.{unit_archival}
use Rattle.rkyv_btree_base.specs.Units.{with_units}
use Rattle.examples.proofs.Concluded.{smallest_written}
use Rattle.examples.proofs.headline.archived_std_set.Goals as goal

pub returns-in_err-root-clause-refused : goal.returns-in_err-root-clause-refused
returns-in_err-root-clause-refused g c =
    let p = err_from_is_err_and c.from_residual.result c.from_residual.ensures.1 in
    rw (p.1, p.2) (c.serialize.new.writer, inl (rw c.new-writer.ensures at c.in_err-root.ensures.err))

pub returns-in_err-pos-clause-refused : goal.returns-in_err-pos-clause-refused
returns-in_err-pos-clause-refused g c =
    let p = err_from_is_err_and c.from_residual-in_err-pos.result c.from_residual-in_err-pos.ensures.1 in
    rw (p.1, p.2) (c.write_root.new.writer, inr (c.in_ok-root.root, c.serialize.new.writer, rw c.new-writer.ensures at c.in_ok-root.ensures.ok, rw c.len.ensures.len at c.in_err-pos.ensures.err.cause))

pub returns-clause-smallest : goal.returns-clause-smallest
returns-clause-smallest g c =
    smallest_written g.KU.Archived.Portable.kind unit_kind 5 g.KU.Archive.archival unit_archival c.written_maps_are_held.ensures c.new-writer.result c.serialize.new.writer c.write_root.new.writer c.in_ok-root.root c.len.result c.in_ok-pos.pos c.into_vec.result.items
    c.new-writer.ensures (with_units c.args.set.now.keys) (c.len.ensures.len ∙ sym (length-map c.args.set.now.keys (λ k. (k, tt)))) c.in_ok-root.ensures.built.smallest c.in_ok-root.ensures.went c.in_ok-pos.ensures.ok.wrote c.in_ok-pos.ensures.ok.last c.in_ok-pos.ensures.ok.pos c.into_vec.ensures
