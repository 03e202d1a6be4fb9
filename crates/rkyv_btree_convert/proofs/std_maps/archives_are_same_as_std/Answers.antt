-- Each entry is the same as what it means.
use Rattle.std.proofs.Common.{◌≡◌}
use Rattle.rkyv_btree_convert.proofs.StdMaps.{same_as_meant}
use Rattle.rkyv_btree_convert.proofs.std_maps.archives_are_same_as_std.Goals as goal

pub returns : goal.returns
returns g c key value b at m same_key same_value read keys values = rw read (same_as_meant same_key same_value key value keys values m)
