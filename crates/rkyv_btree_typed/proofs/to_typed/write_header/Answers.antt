use Rattle.std.proofs.Common.{rules, ◌≡◌}
use Rattle.rkyv_btree_typed.proofs.Built.{header_unput}
use Rattle.rkyv_btree_typed.specs.TypeHeader.{header}
use Rattle.rkyv_btree_typed.specs.TypeNames.{name_of}
use Rattle.rkyv_btree_typed.proofs.to_typed.write_header.Goals as goal

pub returns-clause-err : goal.returns-clause-err
returns-clause-err g c =
    let whole : c.as_slice.result.now ≡ header (name_of g.M.TypeName.term) = search rules in
    header_unput (name_of g.M.TypeName.term) c.as_slice.result.now (g.W.Writer.state c.args.writer.now) _ c.put.result whole c.put.ensures.err
