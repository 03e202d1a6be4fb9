-- The last key is that of the last entry.
use Rattle.std.proofs.Common.{ap, ◌∙◌}
use Rattle.std.specs.Option.{option_map}
use Rattle.rkyv_btree_portable.specs.Scalars.{unit_kind}
use Rattle.rkyv_btree_view.specs.View.{entries_of}
use Rattle.rkyv_btree_view.proofs.Lasts.{last_mapped}
use Rattle.rkyv_btree_view.proofs.ends.View+ArchivedBTreeSet+K+E.last.Goals as goal

pub returns-in-None : goal.returns-in-None
returns-in-None g c =
    let key = λ (e : g.K.Portable.kind.Value × Unit {0}). e.0 in
    let last = rw (c.as_map.ensures.buffer, c.as_map.ensures.position) at c.last.ensures in
    ap (option_map key) (rw c.in-None.is at last) ∙ last_mapped key (entries_of g.K.Portable.kind unit_kind g.row.E c.args.self)

pub returns-in-Some : goal.returns-in-Some
returns-in-Some g c =
    let key = λ (e : g.K.Portable.kind.Value × Unit {0}). e.0 in
    let last = rw (c.as_map.ensures.buffer, c.as_map.ensures.position) at c.last.ensures in
    ap (option_map key) (rw c.in-Some.is at last) ∙ last_mapped key (entries_of g.K.Portable.kind unit_kind g.row.E c.args.self)
