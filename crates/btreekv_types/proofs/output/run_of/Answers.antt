-- Each command that writes entry by entry has its own call.
use Rattle.btreekv_types.proofs.output.run_of.Goals as goal

pub returns-in-List : goal.returns-in-List
returns-in-List g c = rw c.in-List.is c.list.ensures

pub returns-in-Range : goal.returns-in-Range
returns-in-Range g c = rw c.in-Range.is c.range.ensures

pub returns-in-Prefix : goal.returns-in-Prefix
returns-in-Prefix g c = rw c.in-Prefix.is c.prefix.ensures
