-- The entries of the archive are written.
use Rattle.std.proofs.Common.{ap, subst}
use Rattle.std.specs.Io.KnownBytes.{Appends}
use Rattle.rkyv_btree_portable.specs.Text.{text_kind}
use Rattle.rkyv_btree_view.specs.View.{entries_of}
use Rattle.btreekv_commands.specs.Forms.{text_in}
use Rattle.btreekv_commands.proofs.list.list.Goals as goal

pub returns-clause-ok : goal.returns-clause-ok
returns-clause-ok g c =
    let map = c.in_ok-map.map in
    let given = c.in_ok-stream_entries.ensures.ok in (
      entries_of text_kind text_kind 5 map,
      (c.in_ok-map.ensures.headed, c.in_ok-map.ensures.accepted),
      subst (Appends _ _) (ap (text_in c.args.form) (c.iter.ensures.yields given.0 given.1)) given.2,
    )
