-- Native entries that mean the given ones are archived.
use Rattle.std.proofs.Common.{List, sym, subst}
use Rattle.rkyv_btree_ffi.specs.mirror.Natives.{AreGiven, IsOfBoth}
use Rattle.rkyv_btree_ffi.proofs.Built.{unbuilt}
use Rattle.rkyv_btree_ffi.proofs.building.archive.Goals as goal

pub returns-in-Ok-clause-built : goal.returns-in-Ok-clause-built
returns-in-Ok-clause-built g c = record {
  natives = c.deref.result.now;
  given = subst (λ (xs : List _). AreGiven (IsOfBoth g.K.Given.IsItem g.V.Given.IsItem c.args.texts.now) (λ e. g.K.Given.Gives c.args.texts.now e.key) (λ e. g.V.Given.Gives c.args.texts.now e.value) c.args.entries.now xs) (sym c.deref.ensures.value) c.in_ok-natives.ensures.given;
  archived = c.in-Ok.ensures.archive;
  tree = c.in-Ok.ensures.tree;
  increasing = c.in-Ok.ensures.increasing;
}

pub returns-clause-unbuilt : goal.returns-clause-unbuilt
returns-clause-unbuilt g c =
    unbuilt (IsOfBoth g.K.Given.IsItem g.V.Given.IsItem c.args.texts.now) (λ e. g.K.Given.Gives c.args.texts.now e.key) (λ e. g.V.Given.Gives c.args.texts.now e.value) g.K.Native.Archive.archival g.V.Native.Archive.archival g.K.Native.Ord.cmp c.args.order c.args.entries.now c.deref.result.now (subst (λ (xs : List _). AreGiven (IsOfBoth g.K.Given.IsItem g.V.Given.IsItem c.args.texts.now) (λ e. g.K.Given.Gives c.args.texts.now e.key) (λ e. g.V.Given.Gives c.args.texts.now e.value) c.args.entries.now xs) (sym c.deref.ensures.value) c.in_ok-natives.ensures.given) c.in-Err.fault c.in-Err.ensures.err
