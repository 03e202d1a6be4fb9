-- All results of the iterator are those of the keys that are left.
use Rattle.std.proofs.Common.{◌∙◌, ap, drop, length, map}
use Rattle.std.proofs.lemmas.Simd.{map-map}
use Rattle.std.specs.Option.{option_map}
use Rattle.rkyv_btree_portable.specs.Scalars.{unit_kind}
use Rattle.rkyv_btree_view.specs.ManyLeft.{key_lookups_left}
use Rattle.rkyv_btree_view.specs.ManyLookups.{entry_looked_up_in}
use Rattle.rkyv_btree_view.specs.View.{view_value}
use Rattle.rkyv_btree_view.proofs.Drained.{drained, left_after}
use Rattle.rkyv_btree_view.proofs.ManyFound.{is_key_lookup}
use Rattle.rkyv_btree_view.proofs.get_many.View+ArchivedBTreeSet+K+E.get_many_by.Goals as goal

pub returns-clause-left : goal.returns-clause-left
returns-clause-left g c =
    ap (map (option_map (λ e. e.0))) c.of.ensures
    ∙ map-map (option_map (λ e. e.0)) (entry_looked_up_in g.K.Portable.kind unit_kind g.row.E c.args.self g.K.CompareWith.compared_at) c.args.keys.now

pub returns-clause-yields : goal.returns-clause-yields
returns-clause-yields g c = λ items all. drained (option_map view_value) (key_lookups_left g.K.CompareWith.compared_at) _ items all ∙ returns-clause-left g c

pub returns-clause-each : goal.returns-clause-each
returns-clause-each g c key compared agree = is_key_lookup g.K.Portable.kind g.row.E c.args.self g.met.K.CompareWith.compares key compared agree

pub returns-clause-suffix : goal.returns-clause-suffix
returns-clause-suffix g c items later yields = left_after (option_map view_value) (key_lookups_left g.K.CompareWith.compared_at) _ items later yields ∙ ap (drop (length items)) (returns-clause-left g c)
