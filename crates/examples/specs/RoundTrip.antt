-- A map that is archived and made native again.
use Rattle.rkyv_btree.specs.FromArchiveFault.TheVariants.{Refused, NotMade}
use Rattle.examples.specs.declared.round_trip.TripFault.{TripFault}
use Rattle.examples.specs.declared.round_trip.TripFault.TheVariants.{Unarchived, NotBack}

-- the archive wasn't refused
abbrev pub IsNoRefusal : TripFault → Type 0
IsNoRefusal (Unarchived fault) = Unit {0}
IsNoRefusal (NotBack (Refused refusal)) = ⊥
IsNoRefusal (NotBack (NotMade fault)) = Unit {0}
