-- What the lookup finds is shown, and its error is passed on.
use Rattle.std.proofs.Common.{Err, Ok, rules}
use Rattle.rkyv_btree_verify.specs.Map.{map_kind}
use Rattle.rkyv_btree_format.specs.OwnBytes.{own_at}
use Rattle.rkyv_btree_ffi.proofs.LookedUp.{moved, found_shown, error_shown, long_shown}
use Rattle.rkyv_btree_ffi.proofs.finding.lookup.Goals as goal

pub returns-in-Err : goal.returns-in-Err
returns-in-Err g c = λ compared same.
    let K = g.K.Portable.kind in let V = g.V.Portable.kind in let b = c.args.bytes.now in
    long_shown K V g.K.Shown.ShowsAt g.V.Shown.ShowsAt g.K.CheckBytes.Refuses g.V.CheckBytes.Refuses b (own_at (map_kind K V 5) b) (compared c.args.query.now) c.maps_are_searched.ensures c.in-Err.refusal c.in-Err.ensures.refused

pub returns-in-Err-get_key_value_with : goal.returns-in-Err-get_key_value_with
returns-in-Err-get_key_value_with g c = λ compared same.
    let K = g.K.Portable.kind in let V = g.V.Portable.kind in let b = c.args.bytes.now in let map = c.in-Ok.map in let e = c.in-Err-get_key_value_with.refusal in
    moved K V g.K.Shown.ShowsAt g.V.Shown.ShowsAt g.K.CheckBytes.Refuses g.V.CheckBytes.Refuses map.buf.now b map.pos (own_at (map_kind K V 5) b) (compared c.args.query.now) (Err e) c.in-Ok.ensures.buffer c.in-Ok.ensures.position
    (error_shown K V g.K.Shown.ShowsAt g.V.Shown.ShowsAt g.K.CheckBytes.Refuses g.V.CheckBytes.Refuses map.buf.now map.pos (compared c.args.query.now) c.maps_are_searched.ensures e
    (c.in-Err-get_key_value_with.ensures.fails.refused compared (λ q w r post. search rules)))

pub returns-in-Ok-get_key_value_with : goal.returns-in-Ok-get_key_value_with
returns-in-Ok-get_key_value_with g c = λ compared same.
    let K = g.K.Portable.kind in let V = g.V.Portable.kind in let b = c.args.bytes.now in let map = c.in-Ok.map in let views = c.in-Ok-get_key_value_with.views in
    moved K V g.K.Shown.ShowsAt g.V.Shown.ShowsAt g.K.CheckBytes.Refuses g.V.CheckBytes.Refuses map.buf.now b map.pos (own_at (map_kind K V 5) b) (compared c.args.query.now) (Ok c.entry_of_views.result) c.in-Ok.ensures.buffer c.in-Ok.ensures.position
    (found_shown K V g.K.Shown.ShowsAt g.V.Shown.ShowsAt g.K.CheckBytes.Refuses g.V.CheckBytes.Refuses map.buf.now map.pos (compared c.args.query.now) c.maps_are_searched.ensures c.lookups_are_determined.ensures.valid views c.entry_of_views.result
    c.in-Ok-get_key_value_with.ensures.finds.buffer (c.in-Ok-get_key_value_with.ensures.finds.places compared (λ q w r post. search rules)) c.entry_of_views.ensures)
