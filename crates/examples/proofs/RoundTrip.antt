-- What is read of an archive, and that none is refused.
use Rattle.std.proofs.Common.{◌≡◌, ℕ, List, sym}
use Rattle.std.specs.Prelude.{Result}
use Rattle.rkyv_btree_base.specs.EntryFault.{EntryFault}
use Rattle.rkyv_btree_base.specs.Kind.{Kind, IsLawful}
use Rattle.rkyv_btree_base.specs.Refusal.{Refusal}
use Rattle.rkyv_btree_base.specs.OwnBytes.{IsArchiveOf, own_at}
use Rattle.rkyv_btree.specs.FromArchiveFault.{FromArchiveFault}
use Rattle.rkyv_btree.specs.FromArchiveFault.TheVariants.{Refused, NotMade}
use Rattle.rkyv_btree.specs.Whole.{IsUnmade}
use Rattle.examples.specs.RoundTrip.{IsNoRefusal}
use Rattle.examples.specs.declared.round_trip.TripFault.TheVariants.{NotBack}

-- the archive in the same bytes
pub in_bytes : (kind : Kind) (v : kind.Value) (b c : List ℕ) → b ≡ c → IsArchiveOf kind c v → IsArchiveOf kind b v
in_bytes kind v b c same archive = rw same archive

module _ {kind : Kind} (bytes : List ℕ) (v : kind.Value) (archive : IsArchiveOf kind bytes v) where
  -- the value that it is one of is read of its last bytes
  pub read_back : IsLawful kind → kind.read bytes (own_at kind bytes) ≡ v
  read_back laws = sym (laws.is_read bytes 0 (own_at kind bytes) (own_at kind bytes) archive.left v archive.means)

  pub accepted : (Refuses : List ℕ → ℕ → ℕ → ℕ → Refusal → Type 0) {H : Type 0} (native : List ℕ → ℕ → Result H EntryFault) (fault : FromArchiveFault) → IsUnmade kind Refuses native bytes fault → IsNoRefusal (NotBack fault)
  accepted Refuses native (Refused refusal) unmade = unmade.1 v archive
  accepted Refuses native (NotMade fault) unmade = tt
