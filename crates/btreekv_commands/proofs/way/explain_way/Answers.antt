-- The status is that of the lookup in the archive that was opened.
use Rattle.rkyv_btree_portable.specs.Text.{text_kind}
use Rattle.rkyv_btree_view.specs.View.{entries_of}
use Rattle.btreekv_commands.proofs.way.explain_way.Goals as goal

pub returns-then-len-eq0-clause-ok : goal.returns-then-len-eq0-clause-ok
returns-then-len-eq0-clause-ok g c =
    let opened = c.in_ok-map.ensures in (
      (entries_of text_kind text_kind 5 c.in_ok-map.map, (opened.headed, opened.accepted)),
      rw (opened.buffer, opened.position) at c.status_of-status.ensures,
    )

pub returns-clause-ok : goal.returns-clause-ok
returns-clause-ok g c =
    let opened = c.in_ok-map.ensures in (
      (entries_of text_kind text_kind 5 c.in_ok-map.map, (opened.headed, opened.accepted)),
      rw (opened.buffer, opened.position) at c.status_of-status.ensures,
    )
