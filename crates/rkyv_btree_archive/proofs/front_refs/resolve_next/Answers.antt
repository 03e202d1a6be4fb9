-- The first fields and the next one resolved each at its place.
use Rattle.std.proofs.Common.{◌≡◌, ◌+◌, ◌∙◌, ◌++◌, length, sym, subst, arith}
use Rattle.std.proofs.lemmas.List.{length-take}
use Rattle.std.proofs.lemmas.Result.{on_ok_weaker, IfErr-weaker, err_from_is_err_and}
use Rattle.rkyv_btree_archive.proofs.JoinedResolved.{next_resolved}
use Rattle.rkyv_btree_archive.specs.laws.EntryArchived.{same_offset}
use Rattle.rkyv_btree_compound.specs.laws.JoinedLaws.{laid_out_of}
use Rattle.rkyv_btree_compound.specs.laws.TupleLaws.{front_before}
use Rattle.rkyv_btree_portable.specs.Entry.{value_offset}
use Rattle.rkyv_btree_writer.proofs.FieldRuns.{unfit_front, unfit_behind}
use Rattle.rkyv_btree_writer.specs.Fields.{FirstUnfit}
use Rattle.rkyv_btree_archive.proofs.front_refs.resolve_next.Goals as goal

pub slice_bounds-first-end : goal.slice_bounds-first-end
slice_bounds-first-end g c =
    let room = front_before g.P.Archived.TupleFront.kind g.L.Archived.Portable.kind g.met.P.Archived.TupleFront.laid_out (laid_out_of g.met.L.Archived.Portable.laws) in
    omega (arith, room, c.end.ensures, c.next_offset-offset.ensures.value, c.split_at_mut-first.ensures.front_len)

pub slice_bounds-first-end-2 : goal.slice_bounds-first-end-2
slice_bounds-first-end-2 g c =
    let room = front_before g.P.Archived.TupleFront.kind g.L.Archived.Portable.kind g.met.P.Archived.TupleFront.laid_out (laid_out_of g.met.L.Archived.Portable.laws) in
    omega (arith, room, c.end.ensures, c.next_offset-offset.ensures.value, c.split_at_mut-first.ensures.front_len, length-take c.end.result c.split_at_mut-first.result.0.now)

pub resolve_front-requires-clause-size : goal.resolve_front-requires-clause-size
resolve_front-requires-clause-size g c =
    let room = front_before g.P.Archived.TupleFront.kind g.L.Archived.Portable.kind g.met.P.Archived.TupleFront.laid_out (laid_out_of g.met.L.Archived.Portable.laws) in
    omega (arith, room, c.end.ensures, c.next_offset-offset.ensures.value, c.split_at_mut-first.ensures.front_len, length-take c.end.result c.split_at_mut-first.result.0.now)

pub resolve_front-requires-clause-end : goal.resolve_front-requires-clause-end
resolve_front-requires-clause-end g c =
    let room = front_before g.P.Archived.TupleFront.kind g.L.Archived.Portable.kind g.met.P.Archived.TupleFront.laid_out (laid_out_of g.met.L.Archived.Portable.laws) in
    omega (arith, room, c.requires.end, c.requires.room)

pub returns-clause-ok : goal.returns-clause-ok
returns-clause-ok g c =
    let K = g.P.Archived.TupleFront.kind in
    let V = g.L.Archived.Portable.kind in
    let room = front_before K V g.met.P.Archived.TupleFront.laid_out (laid_out_of g.met.L.Archived.Portable.laws) in
    let place = c.next_offset-offset.ensures in
    let cut = c.split_at_mut-first.ensures in
    let clear = c.fill.ensures.after (λ y e. e) in
    let first_len = length-take c.end.result c.split_at_mut-first.result.0.now in
    let second_len = length-take c.size.result c.split_at_mut-first.result.1.now in
    let same = g.met.P.ArchiveFront.same_kind in
    let same2 = g.met.L.Archive.same_kind in
    let offset_is = place.value ∙ sym (same_offset g.P.ArchiveFront.archival.kind g.L.Archive.archival.kind K V same same2) in
    let key_len : length c.resolve_front.new.bytes ≡ c.end.result = omega (arith, c.resolve_front.auto.bytes, first_len, room, c.end.ensures, place.value, cut.front_len) in
    let value_len : length c.resolve_into.new.bytes ≡ c.size.result = omega (arith, c.resolve_into.auto.bytes, second_len, c.size.ensures, place.value, cut.back_len, c.fill.ensures.len, c.requires.room) in
    on_ok_weaker c.resolve_into.result (λ done.
    next_resolved g.P.ArchiveFront.archival g.L.Archive.archival (g.P.ArchiveFront.held c.args.front, c.args.last.now) c.args.resolver c.args.pos c.resolve_front.new.bytes c.resolve_into.new.bytes c.fill.new.self c.split_at_mut-first.result.0.now c.split_at_mut-first.result.1.now c.end.result c.size.result c.next_offset-offset.result (length c.args.bytes.now)
    offset_is key_len value_len (omega (arith, room, c.end.ensures, place.value)) (omega (arith, c.size.ensures, place.value, c.requires.room)) clear cut.front cut.back c.in_ok-resolve_front.ensures.ok done) c.resolve_into.ensures.ok

pub returns-in_err-resolve_front-clause-err : goal.returns-in_err-resolve_front-clause-err
returns-in_err-resolve_front-clause-err g c =
    let k = g.P.ArchiveFront.archival in
    let v = g.L.Archive.archival in
    let x = g.P.ArchiveFront.held c.args.front in
    let r = c.args.resolver in
    let at = c.args.pos in
    let p = err_from_is_err_and c.from_residual.result c.from_residual.ensures.1 in
    rw (p.1, p.2) (unfit_front (k.fields x r.key at) (v.fields c.args.last.now r.value (at + value_offset k.kind v.kind)) c.in_err-resolve_front.field-0.0 c.in_err-resolve_front.ensures.err)

pub returns-clause-err : goal.returns-clause-err
returns-clause-err g c =
    let k = g.P.ArchiveFront.archival in
    let v = g.L.Archive.archival in
    let x = g.P.ArchiveFront.held c.args.front in
    let y = c.args.last.now in
    let r = c.args.resolver in
    let at = c.args.pos in
    let place = c.next_offset-offset.ensures.value ∙ sym (same_offset k.kind v.kind g.P.Archived.TupleFront.kind g.L.Archived.Portable.kind g.met.P.ArchiveFront.same_kind g.met.L.Archive.same_kind) in
    let key_fits = (g.met.P.ArchiveFront.archives.causes.fits x r.key at).0 (c.resolve_front.new.bytes, c.in_ok-resolve_front.ensures.ok) in
    IfErr-weaker c.resolve_into.result (FirstUnfit (v.fields y r.value (at + c.next_offset-offset.result))) (FirstUnfit (k.fields x r.key at ++ v.fields y r.value (at + value_offset k.kind v.kind))) (λ fault h. unfit_behind (k.fields x r.key at) (v.fields y r.value (at + value_offset k.kind v.kind)) fault key_fits (subst (λ n. FirstUnfit (v.fields y r.value (at + n)) fault) place h)) c.resolve_into.ensures.err
