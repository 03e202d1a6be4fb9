-- The archive so far has one list alone.
use Rattle.rkyv_btree_portable.specs.Text.{text_kind}
use Rattle.rkyv_btree_view.specs.View.{entries_of}
use Rattle.btreekv_commands.proofs.Merges.{next_fails, next_put}
use Rattle.btreekv_commands.proofs.merging.merge_next.Goals as goal

pub returns-clause-ok : goal.returns-clause-ok
returns-clause-ok c =
    next_put c.args.heading c.args.so_far.now c.args.next.now (entries_of text_kind text_kind 5 c.in-Ok-strict_map.first.view)
    (entries_of text_kind text_kind 5 c.in-Ok.second.view) c.in-Ok-strict_map.ensures.ok c.in-Ok.ensures.ok (λ bytes. bytes.items)
    c.merged.result c.merged.ensures.ok

pub returns-clause-err : goal.returns-clause-err
returns-clause-err c =
    next_fails c.args.heading c.args.so_far.now c.args.next.now (entries_of text_kind text_kind 5 c.in-Ok-strict_map.first.view)
    (entries_of text_kind text_kind 5 c.in-Ok.second.view) c.in-Ok-strict_map.ensures.ok c.in-Ok.ensures.ok c.args.number c.merged.result
    c.merged.ensures.err
