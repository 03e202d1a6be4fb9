-- The object of the archive's entries is written.
use Rattle.std.proofs.Common.{ap, subst}
use Rattle.std.specs.Io.KnownBytes.{Appends}
use Rattle.rkyv_btree_portable.specs.Text.{text_kind}
use Rattle.rkyv_btree_view.specs.View.{entries_of}
use Rattle.btreekv_commands.specs.Json.{members}
use Rattle.btreekv_commands.proofs.Streamed.{object_streamed}
use Rattle.btreekv_commands.proofs.list.list_object.Goals as goal

pub returns-clause-ok : goal.returns-clause-ok
returns-clause-ok g c =
    let map = c.in_ok-map.map in
    let given = c.in_ok-stream_members.ensures.ok in (
      entries_of text_kind text_kind 5 map,
      (c.in_ok-map.ensures.headed, c.in_ok-map.ensures.accepted),
      object_streamed _ _ _ _ _ _ c.in_ok-write_all.ensures.all (subst (Appends _ _) (ap members (c.iter.ensures.yields given.0 given.1)) given.2) c.in_ok-write_all-2.ensures.all c.in_ok-flush.ensures.kept,
    )
