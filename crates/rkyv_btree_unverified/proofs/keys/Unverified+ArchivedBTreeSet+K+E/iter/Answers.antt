-- The keys of the entries of the map that the set is.
use Rattle.std.proofs.Common.{◌∙◌, ap, map, sym}
use Rattle.std.specs.Map.{keys_of}
use Rattle.rkyv_btree_portable.specs.Scalars.{unit_kind}
use Rattle.rkyv_btree_unverified.proofs.Along.{along_set_keys, keys_faultless}
use Rattle.rkyv_btree_unverified.proofs.Iterated.{iterates_all}
use Rattle.rkyv_btree_unverified.specs.UnverifiedKeys.{unverified_keys_left}
use Rattle.rkyv_btree_view.specs.View.{view_value}
use Rattle.rkyv_btree_unverified.proofs.keys.Unverified+ArchivedBTreeSet+K+E.iter.Goals as goal

pub returns-clause-at : goal.returns-clause-at
returns-clause-at g c = let e = rw (c.as_map.ensures.buffer, c.as_map.ensures.position) at c.iter.ensures.at in record { buffer = e.buffer; position = e.position; most = e.most }

pub returns-clause-items : goal.returns-clause-items
returns-clause-items g c =
    let K = g.K.Portable.kind in
    let b = c.args.self.buf.now in let at = c.args.self.pos in
    let place = rw (c.as_map.ensures.buffer, c.as_map.ensures.position) at c.iter.ensures.at in
    let e = rw (c.as_map.ensures.buffer, c.as_map.ensures.position) at c.iter.ensures.items in
    iterates_all K unit_kind g.row.E _ _ b at _ view_value keys_of unverified_keys_left _ _ (along_set_keys _ _ b at) _ tt (place.buffer, place.position) (ap (map (λ x. x.0)) e.whole)
    (keys_faultless _ _ b at _ e.faultless) (λ m h. sym e.whole ∙ e.entries m h)
