-- Each form of types has its own call.
use Rattle.btreekv_types.proofs.overwriting_types.overwrite_at.Goals as goal

pub returns-in-Plain-clause-err : goal.returns-in-Plain-clause-err
returns-in-Plain-clause-err c = rw c.in-Plain.is c.overwrite_plain_types.ensures.err

pub returns-in-TupleKeys-clause-err : goal.returns-in-TupleKeys-clause-err
returns-in-TupleKeys-clause-err c = rw c.in-TupleKeys.is c.overwrite_tuple_keys.ensures.err
