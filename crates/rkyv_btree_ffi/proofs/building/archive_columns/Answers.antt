-- Native entries that mean the given ones are archived.
use Rattle.std.proofs.Common.{List, sym, subst}
use Rattle.std.specs.List.{range_with_len}
use Rattle.rkyv_btree_ffi.specs.mirror.Natives.{AreGiven, IsRow}
use Rattle.rkyv_btree_ffi.proofs.Built.{unbuilt}
use Rattle.rkyv_btree_ffi.proofs.building.archive_columns.Goals as goal

pub returns-in-Ok-clause-built : goal.returns-in-Ok-clause-built
returns-in-Ok-clause-built g c = record {
  natives = c.deref.result.now;
  given = subst (λ (xs : List _). AreGiven (IsRow g.K.Given.IsCell g.V.Given.IsCell c.args.keys.now c.args.values.now) (g.K.Given.CellGives c.args.keys.now) (g.V.Given.CellGives c.args.values.now) (range_with_len 0 c.args.len) xs) (sym c.deref.ensures.value) c.in_ok-natives.ensures.given;
  archived = c.in-Ok.ensures.archive;
  tree = c.in-Ok.ensures.tree;
  increasing = c.in-Ok.ensures.increasing;
}

pub returns-clause-unbuilt : goal.returns-clause-unbuilt
returns-clause-unbuilt g c =
    unbuilt (IsRow g.K.Given.IsCell g.V.Given.IsCell c.args.keys.now c.args.values.now) (g.K.Given.CellGives c.args.keys.now) (g.V.Given.CellGives c.args.values.now) g.K.Native.Archive.archival g.V.Native.Archive.archival g.K.Native.Ord.cmp c.args.order (range_with_len 0 c.args.len) c.deref.result.now (subst (λ (xs : List _). AreGiven (IsRow g.K.Given.IsCell g.V.Given.IsCell c.args.keys.now c.args.values.now) (g.K.Given.CellGives c.args.keys.now) (g.V.Given.CellGives c.args.values.now) (range_with_len 0 c.args.len) xs) (sym c.deref.ensures.value) c.in_ok-natives.ensures.given) c.in-Err.fault c.in-Err.ensures.err
