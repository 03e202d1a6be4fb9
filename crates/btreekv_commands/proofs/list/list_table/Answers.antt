-- The table of the archive's entries is written.
use Rattle.std.proofs.Common.{ap, subst}
use Rattle.std.specs.Io.KnownBytes.{Appends}
use Rattle.rkyv_btree_portable.specs.Text.{text_kind}
use Rattle.rkyv_btree_view.specs.View.{entries_of}
use Rattle.btreekv_commands.specs.CsvRecords.{rows_text}
use Rattle.btreekv_commands.proofs.Streamed.{table_streamed}
use Rattle.btreekv_commands.proofs.list.list_table.Goals as goal

pub returns-clause-ok : goal.returns-clause-ok
returns-clause-ok g c =
    let map = c.in_ok-map.map in
    let given = c.in_ok-stream_rows.ensures.ok in (
      entries_of text_kind text_kind 5 map,
      (c.in_ok-map.ensures.headed, c.in_ok-map.ensures.accepted),
      table_streamed _ _ _ _ c.args.table _ c.in_ok-write_row.ensures.ok (subst (Appends _ _) (ap (rows_text c.args.table) (c.iter.ensures.yields given.0 given.1)) given.2) c.in_ok-flush.ensures.kept,
    )
