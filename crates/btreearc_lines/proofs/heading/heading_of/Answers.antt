use Rattle.rkyv_btree_typed.specs.TypeNames.{name_of}
use Rattle.btreearc_lines.proofs.Begun.{misheaded}
use Rattle.btreearc_lines.specs.declared.heading.HeadingFault.TheVariants.{OtherVersion, OtherType}
use Rattle.btreearc_lines.proofs.heading.heading_of.Goals as goal

pub returns-in-Err-Header-OtherVersion-clause-err : goal.returns-in-Err-Header-OtherVersion-clause-err
returns-in-Err-Header-OtherVersion-clause-err g c =
    misheaded (name_of g.M.TypeName.term) c.args.bytes.now (OtherVersion c.in-Err-Header-OtherVersion.version)
    (λ h. absurd (cc (c.in-Err-Header-OtherVersion.ensures.accepts.1 h))) (rw (c.in-Err-Header-OtherVersion.field-0-is, c.in-Err-Header-OtherVersion.field-0-0-is, c.in-Err-Header-OtherVersion.version-is) at c.in-Err-Header-OtherVersion.ensures.refuses)

pub returns-in-Err-OtherType-clause-err : goal.returns-in-Err-OtherType-clause-err
returns-in-Err-OtherType-clause-err g c =
    misheaded (name_of g.M.TypeName.term) c.args.bytes.now (OtherType c.in-Err-OtherType.other.found)
    (λ h. absurd (cc (c.in-Err-OtherType.ensures.accepts.1 h))) (rw (c.in-Err-OtherType.field-0-is, c.in-Err-OtherType.other-is) at c.in-Err-OtherType.ensures.refuses)
