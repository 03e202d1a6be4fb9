-- A map with entries has a root, which is searched.
use Rattle.std.proofs.Common.{◌≡◌, length, ap, arith, sym}
use Rattle.rkyv_btree_verify.specs.Map.{map_kind}
use Rattle.rkyv_btree_portable.specs.laws.Views.{fitting_of}
use Rattle.rkyv_btree_verify.proofs.MapLaws.{map_room, map_short}
use Rattle.rkyv_btree_walk.proofs.Roots.{root_leads, root_stands, root_searched, none_searched}
use Rattle.rkyv_btree_walk.proofs.many.first_way.Goals as goal

pub root-requires-clause-inside : goal.root-requires-clause-inside
root-requires-clause-inside g c =
    let room = map_room _ _ _ g.met.K.Portable.laws g.met.V.Portable.laws _ _ c.opened.ensures in
    omega arith

pub root-requires-clause-leads : goal.root-requires-clause-leads
root-requires-clause-leads g c =
    root_leads _ _ _ g.met.K.Portable.laws g.met.V.Portable.laws _ _ c.opened.ensures (rw c.map_len-count.ensures at c.if-count-gt0.true)

pub returns-then-count-gt0-clause-stands : goal.returns-then-count-gt0-clause-stands
returns-then-count-gt0-clause-stands g c =
    root_stands _ _ _ g.met.K.Portable.laws g.met.V.Portable.laws _ _ c.opened.ensures (rw c.map_len-count.ensures at c.if-count-gt0.true) c.root.result c.root.ensures

pub returns-then-count-gt0-clause-finds : goal.returns-then-count-gt0-clause-finds
returns-then-count-gt0-clause-finds g c compare =
    sym (ap (λ r. r.0) (root_searched _ _ _ g.met.K.Portable.laws g.met.V.Portable.laws _ _ c.opened.ensures (rw c.map_len-count.ensures at c.if-count-gt0.true) c.root.result c.root.ensures _))

pub returns-then-count-gt0-clause-nodes : goal.returns-then-count-gt0-clause-nodes
returns-then-count-gt0-clause-nodes g c p node = record {
  fitting = fitting_of (map_kind g.K.Portable.kind g.V.Portable.kind g.M.ArchivedMap.E) _ _ c.opened.ensures;
  short = map_short _ _ _ g.met.K.Portable.laws g.met.V.Portable.laws _ _ c.opened.ensures;
  node = node;
}

pub returns-clause-finds : goal.returns-clause-finds
returns-clause-finds g c compare =
    let empty : length _ ≡ 0 = omega (arith, c.map_len-count.ensures, c.if-count-gt0.false) in
    sym (ap (λ r. r.0) (none_searched _ _ _ g.met.K.Portable.laws g.met.V.Portable.laws _ _ c.opened.ensures empty _))

pub returns-clause-nodes : goal.returns-clause-nodes
returns-clause-nodes g c p node = record {
  fitting = fitting_of (map_kind g.K.Portable.kind g.V.Portable.kind g.M.ArchivedMap.E) _ _ c.opened.ensures;
  short = map_short _ _ _ g.met.K.Portable.laws g.met.V.Portable.laws _ _ c.opened.ensures;
  node = node;
}
