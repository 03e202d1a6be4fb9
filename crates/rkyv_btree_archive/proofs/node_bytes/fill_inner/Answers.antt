use Rattle.std.proofs.Common.{◌∙◌, [], ◌∷◌, ◌++◌, drop, ap}
use Rattle.std.proofs.lemmas.Result.{on_ok_weaker}
use Rattle.rkyv_btree_format.specs.Layout.{layout_of}
use Rattle.rkyv_btree_writing_laws.specs.Image.{inner_bytes}
use Rattle.rkyv_btree_archive.proofs.node_bytes.fill_inner.Goals as goal

pub returns-clause-ok : goal.returns-clause-ok
returns-clause-ok g c =
    let nodes = layout_of g.K.Portable.kind g.V.Portable.kind g.row.E in
    on_ok_weaker c.inner_into.result (λ made. (
      made.0,
      made.1,
      ap (λ own. own ++ drop c.inner_size-size.result c.args.node.now) made.2 ∙ ap (λ size. inner_bytes nodes c.args.pos made.0 (c.args.children.now ++ c.args.last ∷ []) ++ drop size c.args.node.now) c.inner_size-size.ensures.value,
      made.3,
    )) c.inner_into.ensures.ok
