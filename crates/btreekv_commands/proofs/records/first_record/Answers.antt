use Rattle.std.proofs.Common.{ap, ◌∙◌}
use Rattle.btreekv_commands.specs.Records.{records}
use Rattle.btreekv_commands.proofs.Recorded.{ended, unended}
use Rattle.btreekv_commands.proofs.records.first_record.Goals as goal

pub returns-in-Some-clause-records : goal.returns-in-Some-clause-records
returns-in-Some-clause-records c = ap (records c.args.end) c.in-Some.ensures.found ∙ ended c.args.end c.in-Some.part.now c.in-Some.rest.now c.in-Some.ensures.first

pub returns-in-None-clause-records : goal.returns-in-None-clause-records
returns-in-None-clause-records c = unended c.args.end c.args.bytes.now c.requires c.in-None.ensures.none
