use Rattle.std.proofs.Common.{◌∙◌, ◌++◌, drop, ap}
use Rattle.std.proofs.lemmas.Result.{on_ok_weaker}
use Rattle.rkyv_btree_format.specs.Layout.{layout_of}
use Rattle.rkyv_btree_writing_laws.specs.Image.{leaf_bytes}
use Rattle.rkyv_btree_archive.proofs.node_bytes.fill_leaf.Goals as goal

pub returns-clause-ok : goal.returns-clause-ok
returns-clause-ok g c =
    let nodes = layout_of g.K.Portable.kind g.V.Portable.kind g.row.E in
    on_ok_weaker c.leaf_into.result (λ made. (
      made.0,
      made.1,
      ap (λ own. own ++ drop c.leaf_size-size.result c.args.node.now) made.2 ∙ ap (λ size. leaf_bytes nodes made.0 ++ drop size c.args.node.now) c.leaf_size-size.ensures.value,
    )) c.leaf_into.ensures.ok
