-- If positions reach all bytes, the last of them are the own bytes.
use Rattle.std.proofs.Common.{rules, arith, ◌<◌, length}
use Rattle.rkyv_btree_convert.proofs.Opened.{archive_short, opened_exactly, refused_exactly, too_long_alone}
use Rattle.rkyv_btree_convert.proofs.from_archive.open.Goals as goal

pub returns-in_default-clause-accepts : goal.returns-in_default-clause-accepts
returns-in_default-clause-accepts g c = (
  λ ok. absurd (cc ok),
  λ is.
      let long : 4294967295 < length c.args.bytes.now = search rules in
      let short = archive_short g.A.Portable.kind g.met.A.Portable.laws c.args.bytes.now is.0 is.1 in
      absurd (omega (arith, long, short)),
)

pub returns-in_default-clause-refuses : goal.returns-in_default-clause-refuses
returns-in_default-clause-refuses g c = too_long_alone g.A.Portable.kind g.A.CheckBytes.Refuses c.args.bytes.now (search rules)

pub returns-clause-accepts : goal.returns-clause-accepts
returns-clause-accepts g c = opened_exactly g.A.Portable.kind g.met.A.Portable.laws c.args.bytes.now _ c.check.result (search rules) c.check.ensures.accepts

pub returns-clause-refuses : goal.returns-clause-refuses
returns-clause-refuses g c = refused_exactly g.A.Portable.kind g.A.CheckBytes.Refuses c.args.bytes.now _ c.check.result (search rules) (search rules) c.check.ensures.refuses
