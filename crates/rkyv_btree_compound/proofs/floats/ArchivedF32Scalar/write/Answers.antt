-- The bytes of a number are read as the number.
use Rattle.rkyv_btree_compound.specs.laws.FloatLaws.{f32_back}
use Rattle.rkyv_btree_compound.proofs.floats.ArchivedF32Scalar.write.Goals as goal

pub returns-clause-means : goal.returns-clause-means
returns-clause-means c = f32_back c.args.value c.well_formed.0.1
