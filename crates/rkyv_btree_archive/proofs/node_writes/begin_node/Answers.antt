use Rattle.std.proofs.Common.{◌∙◌, ◌+◌, ◌<◌, ℕ, map, refl, ap, sym, subst, arith}
use Rattle.std.proofs.lemmas.Result.{err_from_is_err_and}
use Rattle.rkyv_btree_writer.specs.Padding.{padding}
use Rattle.rkyv_btree_format.proofs.Sizes.{room_of}
use Rattle.rkyv_btree_format.specs.Layout.{layout_of}
use Rattle.rkyv_btree_portable.specs.Rounding.{round_up}
use Rattle.rkyv_btree_writing_laws.specs.Entries.{both_borrowed}
use Rattle.rkyv_btree_writing_laws.specs.Written.{IsPadded, in_entries, in_padding, past_end}
use Rattle.rkyv_btree_writer.specs.Writing.{Wrote, Stopped, position, last_end}
use Rattle.rkyv_btree_archive.proofs.node_writes.begin_node.Goals as goal
use Rattle.rkyv_btree_archive.proofs.node_writes.begin_node.Goals.{then-pos-gt-LAST_END-via-then-pos-gt-LAST_END, then-pos-gt-LAST_END-via-else-pos-gt-LAST_END+then-from-pos}

pub returns-in_err-pos-clause-err : goal.returns-in_err-pos-clause-err
returns-in_err-pos-clause-err g c =
    let mid = g.W.Writer.state c.serialize_entries.new.writer in
    let p = err_from_is_err_and c.from_residual-in_err-pos.result c.from_residual-in_err-pos.ensures.1 in
    rw (p.1, p.2) (λ image. in_padding c.serialize_entries.new.keys.items c.serialize_entries.new.values.items mid c.in_ok-serialize_entries.ensures.ok (subst (λ (n : ℕ). Stopped mid (padding n (position mid)) c.in_err-pos.field-0.0 (g.W.Writer.state c.pad.new.writer)) c.align.ensures.value c.in_err-pos.ensures.err))

pub returns-then-pos-gt-LAST_END-clause-err : goal.returns-then-pos-gt-LAST_END-clause-err
returns-then-pos-gt-LAST_END-clause-err g c image =
    let mid = g.W.Writer.state c.serialize_entries.new.writer in
    let to = g.W.Writer.state c.pad.new.writer in
    let keys = c.serialize_entries.new.keys.items in
    let values = c.serialize_entries.new.values.items in
    let padded : IsPadded (layout_of g.K.Portable.kind g.V.Portable.kind g.row.E) g.KU.Archive.archival g.VU.Archive.archival (g.W.Writer.state c.args.writer.now) (map (both_borrowed g.BKU.Borrow.borrowed g.BVU.Borrow.borrowed) c.args.entries.now) keys values to = record {
      mid = mid;
      serialised = c.in_ok-serialize_entries.ensures.ok;
      padded = subst (λ (n : ℕ). Wrote mid (padding n (position mid)) to) c.align.ensures.value c.in_ok-pos.ensures.ok;
      place = sym c.in_ok-pos.ensures.end ∙ (c.in_ok-pos.ensures.pos ∙ ap (round_up (position mid)) c.align.ensures.value);
    } in
    let past : last_end < position to + c.args.size =
    elim c.then-pos-gt-LAST_END.branch [
      | then-pos-gt-LAST_END-via-then-pos-gt-LAST_END w ↦ omega (arith, c.in_ok-pos.ensures.end)
      | then-pos-gt-LAST_END-via-else-pos-gt-LAST_END+then-from-pos w ↦ omega (arith, c.in_ok-pos.ensures.end)
    ] in
    past_end keys values padded refl past

pub serialize_entries-requires-clause-fits_key : goal.serialize_entries-requires-clause-fits_key
serialize_entries-requires-clause-fits_key g c = (room_of _ _ g.row.E g.met.K.Portable.laws g.met.V.Portable.laws c.requires.fitting).key

pub serialize_entries-requires-clause-fits_value : goal.serialize_entries-requires-clause-fits_value
serialize_entries-requires-clause-fits_value g c = (room_of _ _ g.row.E g.met.K.Portable.laws g.met.V.Portable.laws c.requires.fitting).value

pub serialize_entries-requires-clause-no_keys : goal.serialize_entries-requires-clause-no_keys
serialize_entries-requires-clause-no_keys g c = c.requires.no_keys

pub serialize_entries-requires-clause-no_values : goal.serialize_entries-requires-clause-no_values
serialize_entries-requires-clause-no_values g c = c.requires.no_values

pub serialize_entries-requires-clause-key_room : goal.serialize_entries-requires-clause-key_room
serialize_entries-requires-clause-key_room g c = c.requires.key_room

pub serialize_entries-requires-clause-value_room : goal.serialize_entries-requires-clause-value_room
serialize_entries-requires-clause-value_room g c = c.requires.value_room

pub returns-in_err-serialize_entries-clause-key_room : goal.returns-in_err-serialize_entries-clause-key_room
returns-in_err-serialize_entries-clause-key_room g c = c.serialize_entries.ensures.key_room

pub returns-in_err-serialize_entries-clause-value_room : goal.returns-in_err-serialize_entries-clause-value_room
returns-in_err-serialize_entries-clause-value_room g c = c.serialize_entries.ensures.value_room

pub returns-in_err-pos-clause-key_room : goal.returns-in_err-pos-clause-key_room
returns-in_err-pos-clause-key_room g c = c.serialize_entries.ensures.key_room

pub returns-in_err-pos-clause-value_room : goal.returns-in_err-pos-clause-value_room
returns-in_err-pos-clause-value_room g c = c.serialize_entries.ensures.value_room

pub returns-then-pos-gt-LAST_END-clause-key_room : goal.returns-then-pos-gt-LAST_END-clause-key_room
returns-then-pos-gt-LAST_END-clause-key_room g c = c.serialize_entries.ensures.key_room

pub returns-then-pos-gt-LAST_END-clause-value_room : goal.returns-then-pos-gt-LAST_END-clause-value_room
returns-then-pos-gt-LAST_END-clause-value_room g c = c.serialize_entries.ensures.value_room

pub returns-clause-key_room : goal.returns-clause-key_room
returns-clause-key_room g c = c.serialize_entries.ensures.key_room

pub returns-clause-value_room : goal.returns-clause-value_room
returns-clause-value_room g c = c.serialize_entries.ensures.value_room

pub returns-clause-keys : goal.returns-clause-keys
returns-clause-keys g c = c.in_ok-serialize_entries.ensures.keys

pub returns-clause-values : goal.returns-clause-values
returns-clause-values g c = c.in_ok-serialize_entries.ensures.values

pub pad-requires-clause-positive : goal.pad-requires-clause-positive
pad-requires-clause-positive g c = c.align.ensures.positive

pub pad-requires-clause-small : goal.pad-requires-clause-small
pad-requires-clause-small g c = c.align.ensures.small

pub returns-in_err-serialize_entries-clause-err : goal.returns-in_err-serialize_entries-clause-err
returns-in_err-serialize_entries-clause-err g c =
    let p = err_from_is_err_and c.from_residual.result c.from_residual.ensures.1 in
    rw (p.1, p.2) (λ image. in_entries c.in_err-serialize_entries.ensures.err)

pub returns-clause-ok : goal.returns-clause-ok
returns-clause-ok g c =
    let mid = g.W.Writer.state c.serialize_entries.new.writer in record {
      mid = mid;
      serialised = c.in_ok-serialize_entries.ensures.ok;
      padded = subst (λ (n : ℕ). Wrote mid (padding n (position mid)) (g.W.Writer.state c.pad.new.writer)) c.align.ensures.value c.in_ok-pos.ensures.ok;
      place = sym c.in_ok-pos.ensures.end ∙ (c.in_ok-pos.ensures.pos ∙ ap (round_up (position mid)) c.align.ensures.value);
    }

pub returns-clause-place : goal.returns-clause-place
returns-clause-place g c = c.in_ok-pos.ensures.end
