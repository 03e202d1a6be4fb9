use Rattle.std.proofs.Common.{◌≡◌, ◌+◌, ◌∙◌, ◌++◌, length, sym, subst, arith}
use Rattle.std.proofs.lemmas.List.{length-take}
use Rattle.std.proofs.lemmas.Result.{on_ok_weaker, IfErr-weaker, err_from_is_err_and}
use Rattle.rkyv_btree_writer.specs.Fields.{FirstUnfit}
use Rattle.rkyv_btree_writer.proofs.FieldRuns.{unfit_front, unfit_behind}
use Rattle.rkyv_btree_archive.specs.laws.EntryArchived.{same_offset, same_size}
use Rattle.rkyv_btree_portable.specs.Entry.{value_offset}
use Rattle.rkyv_btree_portable.specs.laws.EntryLaws.{key_inside}
use Rattle.rkyv_btree_archive.specs.EntryArchival.{both_now}
use Rattle.rkyv_btree_archive.proofs.Both.{both_resolved}
use Rattle.rkyv_btree_archive.proofs.util.EntryAdapterArchive.resolve.Goals as goal

pub slice_bounds-front-end : goal.slice_bounds-front-end
slice_bounds-front-end g c =
    let room = key_inside g.KU.Archived.Portable.kind g.VU.Archived.Portable.kind g.met.KU.Archived.Portable.laws g.met.VU.Archived.Portable.laws in
    omega (arith, room, c.size.ensures, c.value_offset-offset.ensures.value, c.split_at_mut-front.ensures.front_len)

pub slice_bounds-front-end-2 : goal.slice_bounds-front-end-2
slice_bounds-front-end-2 g c =
    let room = key_inside g.KU.Archived.Portable.kind g.VU.Archived.Portable.kind g.met.KU.Archived.Portable.laws g.met.VU.Archived.Portable.laws in
    omega (arith, room, c.size.ensures, c.value_offset-offset.ensures.value, c.split_at_mut-front.ensures.front_len, length-take c.size.result c.split_at_mut-front.result.0.now)

pub resolve_into-requires-clause-size : goal.resolve_into-requires-clause-size
resolve_into-requires-clause-size g c =
    let room = key_inside g.KU.Archived.Portable.kind g.VU.Archived.Portable.kind g.met.KU.Archived.Portable.laws g.met.VU.Archived.Portable.laws in
    omega (arith, room, c.size.ensures, c.value_offset-offset.ensures.value, c.split_at_mut-front.ensures.front_len, length-take c.size.result c.split_at_mut-front.result.0.now)

pub resolve_into-requires-clause-end : goal.resolve_into-requires-clause-end
resolve_into-requires-clause-end g c =
    let room = key_inside g.KU.Archived.Portable.kind g.VU.Archived.Portable.kind g.met.KU.Archived.Portable.laws g.met.VU.Archived.Portable.laws in
    omega (arith, room, c.requires.end, c.value_offset-offset.ensures.value, c.value_offset-offset.ensures.inside)

pub returns-clause-ok : goal.returns-clause-ok
returns-clause-ok g c =
    let key_kind = g.KU.Archived.Portable.kind in
    let value_kind = g.VU.Archived.Portable.kind in
    let room = key_inside key_kind value_kind g.met.KU.Archived.Portable.laws g.met.VU.Archived.Portable.laws in
    let place = c.value_offset-offset.ensures in
    let cut = c.split_at_mut-front.ensures in
    let clear = c.fill.ensures.after (λ y e. e) in
    let size = length c.args.out.bytes.now in
    let front_len = length-take c.size.result c.split_at_mut-front.result.0.now in
    let back_len = length-take c.size-2.result c.split_at_mut-front.result.1.now in
    let same = g.met.KU.Archive.same_kind in
    let same2 = g.met.VU.Archive.same_kind in
    let offset_is = place.value ∙ sym (same_offset g.KU.Archive.archival.kind g.VU.Archive.archival.kind key_kind value_kind same same2) in
    let size_is = c.requires.size ∙ sym (same_size g.KU.Archive.archival.kind g.VU.Archive.archival.kind key_kind value_kind same same2) in
    let key_len : length c.resolve_into.new.bytes ≡ c.size.result = omega (arith, c.resolve_into.auto.bytes, front_len, room, c.size.ensures, place.value, cut.front_len) in
    let value_len : length c.resolve_into-2.new.bytes ≡ c.size-2.result = omega (arith, c.resolve_into-2.auto.bytes, back_len, c.size-2.ensures, place.inside, cut.back_len, c.fill.ensures.len, c.requires.size) in
    on_ok_weaker c.resolve_into-2.result (λ done.
    both_resolved g.KU.Archive.archival g.VU.Archive.archival (both_now c.args.self.now) c.args.resolver c.args.out.pos c.resolve_into.new.bytes c.resolve_into-2.new.bytes c.fill.new.self c.split_at_mut-front.result.0.now c.split_at_mut-front.result.1.now c.size.result c.size-2.result c.value_offset-offset.result size
    offset_is size_is key_len value_len (omega (arith, room, c.size.ensures, place.value)) (omega (arith, c.size-2.ensures, place.inside, c.requires.size)) clear cut.front cut.back c.in_ok-resolve_into.ensures.ok done) c.resolve_into-2.ensures.ok

pub returns-in_err-resolve_into-clause-err : goal.returns-in_err-resolve_into-clause-err
returns-in_err-resolve_into-clause-err g c =
    let k = g.KU.Archive.archival in
    let v = g.VU.Archive.archival in
    let x = c.args.self.now in
    let r = c.args.resolver in
    let at = c.args.out.pos in
    let p = err_from_is_err_and c.from_residual.result c.from_residual.ensures.1 in
    rw (p.1, p.2) (unfit_front (k.fields x.key.now r.key at) (v.fields x.value.now r.value (at + value_offset k.kind v.kind)) c.in_err-resolve_into.field-0.0 c.in_err-resolve_into.ensures.err)

pub returns-clause-err : goal.returns-clause-err
returns-clause-err g c =
    let k = g.KU.Archive.archival in
    let v = g.VU.Archive.archival in
    let x = c.args.self.now in
    let r = c.args.resolver in
    let at = c.args.out.pos in
    let place = c.value_offset-offset.ensures.value ∙ sym (same_offset k.kind v.kind g.KU.Archived.Portable.kind g.VU.Archived.Portable.kind g.met.KU.Archive.same_kind g.met.VU.Archive.same_kind) in
    let key_fits = (g.met.KU.Archive.causes.fits x.key.now r.key at).0 (c.resolve_into.new.bytes, c.in_ok-resolve_into.ensures.ok) in
    IfErr-weaker c.resolve_into-2.result (FirstUnfit (v.fields x.value.now r.value (at + c.value_offset-offset.result))) (FirstUnfit (k.fields x.key.now r.key at ++ v.fields x.value.now r.value (at + value_offset k.kind v.kind))) (λ fault h. unfit_behind (k.fields x.key.now r.key at) (v.fields x.value.now r.value (at + value_offset k.kind v.kind)) fault key_fits (subst (λ n. FirstUnfit (v.fields x.value.now r.value (at + n)) fault) place h)) c.resolve_into-2.ensures.err
