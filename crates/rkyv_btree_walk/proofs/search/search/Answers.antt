-- A map that stands has a root where it has entries.
use Rattle.std.proofs.Common.{◌≡◌, length, ◌∙◌, arith, rules}
use Rattle.rkyv_btree_verify.proofs.MapLaws.{map_room}
use Rattle.rkyv_btree_walk.specs.mirror.Node.{TreeCanBeRead}
use Rattle.rkyv_btree_walk.proofs.Roots.{root_leads, root_readable, root_list, root_searched, none_searched}
use Rattle.rkyv_btree_walk.proofs.search.search.Goals as goal

pub root-requires-clause-inside : goal.root-requires-clause-inside
root-requires-clause-inside g c =
    let room = map_room _ _ _ g.met.K.Portable.laws g.met.V.Portable.laws _ _ c.opened.ensures in
    omega arith

pub root-requires-clause-leads : goal.root-requires-clause-leads
root-requires-clause-leads g c =
    root_leads _ _ _ g.met.K.Portable.laws g.met.V.Portable.laws _ _ c.opened.ensures (rw c.map_len-count.ensures at c.if-count-gt0.true)

pub search_tree-requires : goal.search_tree-requires
search_tree-requires g c =
    let tree : TreeCanBeRead g.K.Portable.kind g.V.Portable.kind g.M.ArchivedMap.E c.args.buf.now c.root.result =
    root_readable _ _ _ g.met.K.Portable.laws g.met.V.Portable.laws _ _ c.opened.ensures (rw c.map_len-count.ensures at c.if-count-gt0.true) c.root.result c.root.ensures in
    search rules

pub returns-then-count-gt0-clause-found : goal.returns-then-count-gt0-clause-found
returns-then-count-gt0-clause-found g c f p =
    c.search_tree.ensures.found f p
    ∙ root_searched _ _ _ g.met.K.Portable.laws g.met.V.Portable.laws _ _ c.opened.ensures (rw c.map_len-count.ensures at c.if-count-gt0.true) c.root.result c.root.ensures _

pub returns-clause-found : goal.returns-clause-found
returns-clause-found g c f p =
    let empty : length _ ≡ 0 = omega (arith, c.map_len-count.ensures, c.if-count-gt0.false) in
    none_searched _ _ _ g.met.K.Portable.laws g.met.V.Portable.laws _ _ c.opened.ensures empty _

pub returns-then-count-gt0-clause-listed : goal.returns-then-count-gt0-clause-listed
returns-then-count-gt0-clause-listed g c =
    let whole = root_list _ _ _ g.met.K.Portable.laws g.met.V.Portable.laws _ _ c.opened.ensures (rw c.map_len-count.ensures at c.if-count-gt0.true) c.root.result c.root.ensures in
    rw whole at c.search_tree.ensures.listed
