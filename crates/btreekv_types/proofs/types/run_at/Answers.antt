-- Each form of types has its own call.
use Rattle.btreekv_types.proofs.types.run_at.Goals as goal

pub returns-in-Plain : goal.returns-in-Plain
returns-in-Plain g c = rw c.in-Plain.is c.run_plain.ensures

pub returns-in-ToOptions : goal.returns-in-ToOptions
returns-in-ToOptions g c = rw c.in-ToOptions.is c.run_to_options.ensures

pub returns-in-ToTuples : goal.returns-in-ToTuples
returns-in-ToTuples g c = rw c.in-ToTuples.is c.run_to_tuples.ensures

pub returns-in-TupleKeys : goal.returns-in-TupleKeys
returns-in-TupleKeys g c = rw c.in-TupleKeys.is c.run_tuple_keys.ensures
