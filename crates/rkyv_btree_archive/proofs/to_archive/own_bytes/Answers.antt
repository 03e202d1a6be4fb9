use Rattle.std.proofs.Common.{ℕ, sym, subst}
use Rattle.rkyv_btree_portable.specs.Kind.{Kind}
use Rattle.rkyv_btree_writing_laws.specs.Entries.{as_fault}
use Rattle.rkyv_btree_writing_laws.specs.Whole.{IsUnplaced}
use Rattle.rkyv_btree_writer.specs.Archiving.{Archival, IsUnresolved}
use Rattle.rkyv_btree_writer.specs.declared.fault.Fault.{Fault}
use Rattle.rkyv_btree_writer.specs.declared.fault.ResolveFault.{ResolveFault}
use Rattle.rkyv_btree_writer.specs.declared.fault.ResolveFault.TheVariants as resolving
use Rattle.rkyv_btree_archive.proofs.to_archive.own_bytes.Goals as goal

unresolved_unplaced : {X R : Type 0} (E : Type 0) (T : Archival X R) (kind : Kind) (x : X) (r : R) (at : ℕ) (fault : ResolveFault) → IsUnresolved T x r at fault → IsUnplaced T kind {E = E} x r at (as_fault fault)
unresolved_unplaced E T kind x r at resolving.LengthOverflow h = h
unresolved_unplaced E T kind x r at resolving.OffsetOverflow h = h

pub size-requires : goal.size-requires
size-requires g c = c.requires.fitting

pub resolve_into-requires-clause-fitting : goal.resolve_into-requires-clause-fitting
resolve_into-requires-clause-fitting g c = c.requires.fitting

pub resolve_into-requires-clause-end : goal.resolve_into-requires-clause-end
resolve_into-requires-clause-end g c = c.requires.end

pub returns-in-Err-clause-err : goal.returns-in-Err-clause-err
returns-in-Err-clause-err g c =
    subst (λ (fault : Fault g.row.W.Denot). IsUnplaced g.T.Archive.archival g.T.Archived.Portable.kind c.args.value.now c.args.resolver c.args.pos fault) (sym c.fault_of.ensures)
    (unresolved_unplaced g.row.W.Denot g.T.Archive.archival g.T.Archived.Portable.kind c.args.value.now c.args.resolver c.args.pos c.in-Err.fault c.in-Err.ensures.err)
