-- Own bytes are a value.
use Rattle.rkyv_btree_portable.specs.laws.InPlace.{plain_is_value}
use Rattle.rkyv_btree_plain.specs.PlainValues.{plain_of}
use Rattle.rkyv_btree_plain.specs.laws.PlainValues.{plain_faithful}
use Rattle.rkyv_btree_plain.proofs.archived_plain.ArchivedPlainInPlace.read.Goals as goal

pub from_bytes-requires-clause-value : goal.from_bytes-requires-clause-value
from_bytes-requires-clause-value g c =
    let faithful = plain_faithful g.N.PartialEq.eq g.N.Ord.cmp g.N.Hash.hash_input g.N.PlainValue.lawful in
    plain_is_value (plain_of g.N.PartialEq.eq g.N.Ord.cmp g.N.Hash.hash_input g.N.PlainValue.layout) c.args.bytes.now faithful.lawful c.requires.is_own
