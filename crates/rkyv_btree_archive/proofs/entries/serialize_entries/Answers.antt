use Rattle.std.proofs.Common.{◌+◌, ◌∙◌, length, map, ap, subst, arith}
use Rattle.rkyv_btree_writer.specs.Archiving.{IsUnserialised, Serialises}
use Rattle.std.proofs.lemmas.List.{length_push}
use Rattle.std.proofs.lemmas.Result.{err_from_is_err_and}
use Rattle.rkyv_btree_writing_laws.specs.Entries.{IsSerialised, both_borrowed}
use Rattle.rkyv_btree_writing_laws.proofs.InOrder.{next_serialised, value_unserialised, all_serialised}
use Rattle.rkyv_btree_archive.proofs.Numbers.{no_less, as_many}
use Rattle.rkyv_btree_archive.proofs.entries.serialize_entries.Goals as goal

pub returns-in_err-value-clause-err : goal.returns-in_err-value-clause-err
returns-in_err-value-clause-err g c =
    let before = c.loop-entry.invariant in
    let done = subst (λ (x : g.row.KU.Denot). Serialises g.KU.Archive.archival x (g.W.Writer.state c.loop-entry.writer) (g.W.Writer.state c.serialize.new.writer) c.in_ok-key.key) c.borrow.ensures c.in_ok-key.ensures.ok in
    let key : IsSerialised g.KU.Archive.archival (g.W.Writer.state c.loop-entry.writer) (g.BKU.Borrow.borrowed c.entry-item.result.0) c.in_ok-key.key (g.W.Writer.state c.serialize.new.writer) = record { writes = done.0; allowed = done.1; wrote = done.2; is_in = done.3; end = done.4 } in
    let p = err_from_is_err_and c.from_residual-in_err-value.result c.from_residual-in_err-value.ensures.1 in
    rw (p.1, p.2) (value_unserialised g.row.W-Error.Denot g.KU.Archive.archival g.VU.Archive.archival (both_borrowed g.BKU.Borrow.borrowed g.BVU.Borrow.borrowed) (g.W.Writer.state c.args.writer.now) (map (both_borrowed g.BKU.Borrow.borrowed g.BVU.Borrow.borrowed) c.args.entries.now) c.args.entries.now c.loop-entry.entry-index _ c.entry-item.result (g.W.Writer.state c.loop-entry.writer) (g.W.Writer.state c.serialize.new.writer) (g.W.Writer.state c.serialize-in-loop-entry.new.writer) c.in_ok-key.key c.loop-entry.keys.items c.loop-entry.values.items c.in_err-value.field-0.0
    c.loop-entry-test.true c.entry-item.is before.so_far key (subst (λ (x : g.row.VU.Denot). IsUnserialised g.VU.Archive.archival x (g.W.Writer.state c.serialize.new.writer) c.in_err-value.field-0.0 (g.W.Writer.state c.serialize-in-loop-entry.new.writer)) c.borrow-in-loop-entry.ensures c.in_err-value.ensures.err))

pub loop-entry-preserved : goal.loop-entry-preserved
loop-entry-preserved g c =
    let before = c.loop-entry.invariant in
    let now = g.W.Writer.state c.loop-entry.writer in
    let mid = g.W.Writer.state c.serialize.new.writer in
    let next = g.W.Writer.state c.serialize-in-loop-entry.new.writer in
    let done = subst (λ (x : g.row.KU.Denot). Serialises g.KU.Archive.archival x now mid c.in_ok-key.key) c.borrow.ensures c.in_ok-key.ensures.ok in
    let done2 = subst (λ (x : g.row.VU.Denot). Serialises g.VU.Archive.archival x mid next c.in_ok-value.value) c.borrow-in-loop-entry.ensures c.in_ok-value.ensures.ok in
    let key : IsSerialised g.KU.Archive.archival now (g.BKU.Borrow.borrowed c.entry-item.result.0) c.in_ok-key.key mid = record { writes = done.0; allowed = done.1; wrote = done.2; is_in = done.3; end = done.4 } in
    let value : IsSerialised g.VU.Archive.archival mid (g.BVU.Borrow.borrowed c.entry-item.result.1) c.in_ok-value.value next = record { writes = done2.0; allowed = done2.1; wrote = done2.2; is_in = done2.3; end = done2.4 } in
    record {
      so_far = next_serialised g.row.W-Error.Denot g.KU.Archive.archival g.VU.Archive.archival (both_borrowed g.BKU.Borrow.borrowed g.BVU.Borrow.borrowed) (g.W.Writer.state c.args.writer.now) (map (both_borrowed g.BKU.Borrow.borrowed g.BVU.Borrow.borrowed) c.args.entries.now) c.args.entries.now c.loop-entry.entry-index _ c.entry-item.result now mid next c.in_ok-key.key c.in_ok-value.value c.loop-entry.keys.items c.push.new.values.items c.loop-entry.values.items c.push-in-loop-entry.new.values.items
          c.loop-entry-test.true c.entry-item.is c.push.ensures.items c.push-in-loop-entry.ensures.items before.so_far key value;
      keys = ap length c.push.ensures.items ∙ (length_push c.loop-entry.keys.items c.in_ok-key.key ∙ ap (λ n. n + 1) before.keys);
      values = ap length c.push-in-loop-entry.ensures.items ∙ (length_push c.loop-entry.values.items c.in_ok-value.value ∙ ap (λ n. n + 1) before.values);
      key_room = no_less _ _ _ before.key_room c.push.ensures.capacity;
      value_room = no_less _ _ _ before.value_room c.push-in-loop-entry.ensures.capacity;
    }

pub returns-clause-ok : goal.returns-clause-ok
returns-clause-ok g c =
    all_serialised g.row.W-Error.Denot g.KU.Archive.archival g.VU.Archive.archival (both_borrowed g.BKU.Borrow.borrowed g.BVU.Borrow.borrowed) (g.W.Writer.state c.args.writer.now) (map (both_borrowed g.BKU.Borrow.borrowed g.BVU.Borrow.borrowed) c.args.entries.now) c.args.entries.now c.loop-entry.entry-index (g.W.Writer.state c.loop-entry.writer) c.loop-entry.keys.items c.loop-entry.values.items (omega arith) c.loop-entry.invariant.so_far

pub returns-in_err-key-clause-key_room : goal.returns-in_err-key-clause-key_room
returns-in_err-key-clause-key_room g c = c.loop-entry.invariant.key_room

pub returns-in_err-key-clause-value_room : goal.returns-in_err-key-clause-value_room
returns-in_err-key-clause-value_room g c = c.loop-entry.invariant.value_room

pub returns-in_err-value-clause-key_room : goal.returns-in_err-value-clause-key_room
returns-in_err-value-clause-key_room g c = c.loop-entry.invariant.key_room

pub returns-in_err-value-clause-value_room : goal.returns-in_err-value-clause-value_room
returns-in_err-value-clause-value_room g c = c.loop-entry.invariant.value_room

pub returns-clause-key_room : goal.returns-clause-key_room
returns-clause-key_room g c = c.loop-entry.invariant.key_room

pub returns-clause-value_room : goal.returns-clause-value_room
returns-clause-value_room g c = c.loop-entry.invariant.value_room

pub returns-clause-keys : goal.returns-clause-keys
returns-clause-keys g c = as_many _ c.loop-entry.entry-index (length c.args.entries.now) c.loop-entry.invariant.keys c.loop-entry-test.false c.loop-entry.auto.entry-index-end

pub returns-clause-values : goal.returns-clause-values
returns-clause-values g c = as_many _ c.loop-entry.entry-index (length c.args.entries.now) c.loop-entry.invariant.values c.loop-entry-test.false c.loop-entry.auto.entry-index-end
