-- If positions reach all bytes, the last of them are the own bytes.
use Rattle.std.proofs.Common.{◌≡◌, rules}
use Rattle.rkyv_btree_verify.specs.Map.{map_kind}
use Rattle.rkyv_btree_format.specs.OwnBytes.{own_at}
use Rattle.rkyv_btree_strict.proofs.Opened.{opening, opening_long, listed, placed}
use Rattle.rkyv_btree_strict.proofs.strict.open_strict.Goals as goal
use Rattle.rkyv_btree_view.specs.View.{entries_of}

pub returns-in_default-clause-exact : goal.returns-in_default-clause-exact
returns-in_default-clause-exact g c = opening_long _ _ _ c.args.bytes.now (search rules) g.met.M.Key.Portable.laws g.met.M.Mapped.Portable.laws

pub returns-clause-position : goal.returns-clause-position
returns-clause-position g c =
    let at = c.saturating_sub-at.result in
    let place : at ≡ own_at (map_kind g.M.Key.Portable.kind g.M.Mapped.Portable.kind g.M.ArchivedMap.E) c.args.bytes.now = search rules in
    placed g.M.Key.Portable.kind g.M.Mapped.Portable.kind g.M.ArchivedMap.E c.args.bytes.now at place (λ map. map.view.pos) c.access_strict.result c.access_strict.ensures.position

pub returns-clause-exact : goal.returns-clause-exact
returns-clause-exact g c = opening _ _ _ c.args.bytes.now _ (search rules) c.access_strict.result (search rules) c.access_strict.ensures.exact

pub returns-clause-entries : goal.returns-clause-entries
returns-clause-entries g c =
    let at = c.saturating_sub-at.result in
    let place : at ≡ own_at (map_kind g.M.Key.Portable.kind g.M.Mapped.Portable.kind g.M.ArchivedMap.E) c.args.bytes.now = search rules in
    listed g.M.Key.Portable.kind g.M.Mapped.Portable.kind g.M.ArchivedMap.E c.args.bytes.now at place (λ map. entries_of g.M.Key.Portable.kind g.M.Mapped.Portable.kind g.M.ArchivedMap.E map.view) c.access_strict.result c.access_strict.ensures.entries
