-- Versions: what their bytes mean, and what archiving them does.
use Rattle.std.specs.Prelude.{◌≡◌, ℕ, Bool, false, not, ◌&&◌, IsTrue, List, [], ◌∷◌, ◌++◌, nat_eq, slice_index}
use Rattle.std.specs.Cmp.{IsTotalOrder, nat_cmp_total, on_total, then_total}
use Rattle.std.specs.Hash as fed
use Rattle.std.specs.Ordering.{nat_cmp, ordering_then}
use Rattle.std.proofs.Common.{refl, arith}
use Rattle.rkyv_btree_base.specs.Archiving.{Archival, IsArchived, own_archival}
use Rattle.rkyv_btree_base.specs.Causes.{HasCauses}
use Rattle.rkyv_btree_base.specs.laws.Plain.{plain_own, plain_laws}
use Rattle.rkyv_btree_base.specs.Kind.{Kind, IsLawful}
use Rattle.rkyv_btree_base.specs.Plain.{Plain, plain_kind}
use Rattle.rkyv_btree_base.specs.Rounding.{one}
use Rattle.rkyv_btree_base.proofs.Archiving.{archived_where, own_causes}
use Rattle.rkyv_btree_base.specs.EntryFault.{EntryFault}
use Rattle.examples.specs.declared.version.Version.{Version}

-- any but 0.0.0 is a version
abbrev pub is_version : Version → Bool
is_version v = not (nat_eq v.major 0 && nat_eq v.minor 0 && nat_eq v.patch 0)

-- what three bytes say: the major, the minor and the patch number
abbrev pub version_of : List ℕ → Version
version_of bytes = record { major = slice_index bytes 0; minor = slice_index bytes 1; patch = slice_index bytes 2 }

-- the version of three numbers
abbrev pub version_by : ℕ × ℕ × ℕ → Version
version_by numbers = record { major = numbers.0; minor = numbers.1; patch = numbers.2 }

-- its three bytes
abbrev pub bytes_of : Version → List ℕ
bytes_of v = v.major ∷ v.minor ∷ v.patch ∷ []

-- versions are compared as their derives do it: by the major number first, then the minor, then the patch
abbrev pub version : Plain
version = record {
  Value = Version;
  size = 3;
  align = 1;
  is_value = λ bytes. is_version (version_of bytes);
  value = version_of;
  same = λ v w. nat_eq v.major w.major && (nat_eq v.minor w.minor && nat_eq v.patch w.patch);
  order = λ v w. ordering_then (nat_cmp v.major w.major) (ordering_then (nat_cmp v.minor w.minor) (nat_cmp v.patch w.patch));
  hash_input = λ v. fed.u8 v.major ++ (fed.u8 v.minor ++ fed.u8 v.patch);
}

abbrev pub version_kind : Kind
version_kind = plain_kind version

pub version_total : IsTotalOrder version_kind.order
version_total = then_total (on_total (λ v. v.major) nat_cmp_total) (then_total (on_total (λ v. v.minor) nat_cmp_total) (on_total (λ v. v.patch) nat_cmp_total))

pub version_laws : IsLawful version_kind
version_laws = plain_laws version one refl (omega arith)

-- the fault of archiving 0.0.0
abbrev pub no_version : EntryFault
no_version = record { code = 7 }

-- a version lies in its own bytes, and 0.0.0 refuses itself
abbrev pub IsVersion : Version → Type 0
IsVersion v = IsTrue (is_version v)

abbrev pub Refuses : Version → ℕ → EntryFault → Type 0
Refuses v from fault = (is_version v ≡ false) × (fault ≡ no_version)

abbrev pub version_archival : Archival Version (Unit {0})
version_archival = own_archival version_kind (λ v. v) IsVersion bytes_of Refuses

pub version_archived : IsArchived version_archival
version_archived = archived_where version_kind (λ v. v) IsVersion bytes_of Refuses (λ v valid. plain_own version (bytes_of v) refl valid) (λ v valid. refl)

pub version_causes : HasCauses version_archival
version_causes = own_causes version_kind (λ v. v) IsVersion bytes_of Refuses
