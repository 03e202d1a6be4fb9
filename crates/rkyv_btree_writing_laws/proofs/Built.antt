-- What the calls that build promise follows from the tree that was written, and from what they leave of the writer.
use Rattle.std.proofs.Common.{◌≡◌, ℕ, ◌<◌, ◌≤◌, IsTrue, List, length, Option, Result, Ok, Err, IfOk, IfErr, OnOk, OnErr, IsErrOf, ap, subst, ⊎_elim}
use Rattle.std.specs.Prelude.{alloc_error}
use Rattle.std.proofs.lemmas.Bool.{cases_lt}
use Rattle.std.specs.declared.cmp.Ordering.{Ordering}
use Rattle.rkyv_btree_portable.specs.Kind.{Kind, IsLawful}
use Rattle.rkyv_btree_portable.specs.Scalars.{unit_kind}
use Rattle.rkyv_btree_portable.specs.laws.Scalars.{unit_laws}
use Rattle.rkyv_btree_format.specs.Layout.{are_fitting, layout_of}
use Rattle.rkyv_btree_format.proofs.Sizes.{room_of}
use Rattle.rkyv_btree_writer.specs.Archiving.{Archival, BeginsWith, IsArchived}
use Rattle.rkyv_btree_writer.specs.Writing.{Writing, position, last_end}
use Rattle.rkyv_btree_writer.specs.declared.fault.Fault.{Fault}
use Rattle.rkyv_btree_writer.specs.declared.fault.Fault.TheVariants.{Memory}
use Rattle.rkyv_btree_writing_laws.specs.Building.{IsBuilt, IsBuiltOf, IsBuiltSet, IsUnbuilt, IsUnbuiltSet, IsUnbuiltInOrder, IsUnbuiltSetInOrder}
use Rattle.rkyv_btree_writing_laws.specs.Kept.{NeverGrows, OnlyAppended}
use Rattle.rkyv_btree_writing_laws.specs.OneTree.{OneTreeWritten}
use Rattle.rkyv_btree_writing_laws.specs.Serialising.{BuildsTree, BuildFault, FailsToBuild}
use Rattle.rkyv_btree_writing_laws.specs.Sets.{unit_archival, BuildsSet, FailsToBuildSet}
use Rattle.rkyv_btree_writing_laws.specs.SmallestMaps.{IsSmallestArchive}
use Rattle.rkyv_btree_writing_laws.specs.StrictBuilding.{FailsInOrder, FailsSetInOrder}
use Rattle.rkyv_btree_writing_laws.proofs.OneTree.{builds_one_tree, builds_one_tree_set}
use Rattle.rkyv_btree_writing_laws.proofs.SmallestMaps.{builds_smallest, builds_smallest_set, items_archived, keys_archived}

-- where a claim past 32 bits is an error, and there is none, the claim isn't past them
pub fits_if_ok : {R Y : Type 0} (claim : ℕ) (root : R) (fault : Y) → (last_end < claim → ◌≡◌ {A = Result R Y} (Ok root) (Err fault)) → claim ≤ last_end
fits_if_ok claim root fault past = ⊎_elim (λ late. absurd (cc (past late))) (λ few. few) (cases_lt last_end claim)

module _ {I M N R S P Q : Type 0} (K V : Kind) (E : ℕ) (KA : Archival M R) (VA : Archival N S) (borrowed : I → M × N) (steps : P → Option I → P → Type 0) (iter : P) (claim : ℕ) (state : Q → Writing) (before after : Q) where
  module _ (k : IsLawful K) (v : IsLawful V) (fits : IsTrue (are_fitting K V E)) (ka : IsArchived KA) (va : IsArchived VA) where
    pub is_built : (root : ℕ) → claim ≤ last_end → BuildsTree K V E KA VA borrowed steps iter claim state before after root
        → (0 < claim → position (state after) ≤ last_end) → OnlyAppended (state before) (state after)
        → IsBuilt K V E KA VA borrowed steps iter claim state before after root
    is_built root few built end went =
        let smallest = builds_smallest K V E k v fits KA VA ka va borrowed steps iter claim state before after root few built in
        record {
          archived = items_archived K V E KA VA borrowed steps iter claim state before after root smallest;
          smallest = smallest;
          written = built;
          one_tree = builds_one_tree K V E KA VA borrowed steps iter claim state before after root (room_of K V E k v fits).some built;
          end = end;
          went = went;
        }

    pub result_built : {Y : Type 0} (result : Result ℕ Y) (fault : Y) → (last_end < claim → IsErrOf result fault)
        → IfOk result (BuildsTree K V E KA VA borrowed steps iter claim state before after) → OnOk result (0 < claim → position (state after) ≤ last_end)
        → OnOk result (OnlyAppended (state before) (state after)) → IfOk result (IsBuilt K V E KA VA borrowed steps iter claim state before after)
    result_built (Ok root) fault past built end went = is_built root (fits_if_ok claim root fault past) built end went
    result_built (Err other) fault past built end went = tt

  pub is_unbuilt : {X : Type 0} (fault : Fault X) → FailsToBuild K V E KA VA borrowed steps iter claim state before after fault
      → BeginsWith (state after) (state before)
      → (NeverGrows KA → NeverGrows VA → fault ≡ Memory alloc_error → state after ≡ state before)
      → IsUnbuilt K V E KA VA borrowed steps iter claim state before after fault
  is_unbuilt fault cause kept memory = record {
    cause = cause;
    kept = kept;
    memory = memory;
    any_order = λ index is. subst (λ z. BuildFault K V E KA VA borrowed steps iter claim (state before) z (state after)) is cause;
  }

  pub result_unbuilt : {R X : Type 0} (result : Result R (Fault X)) → IfErr result (FailsToBuild K V E KA VA borrowed steps iter claim state before after)
      → OnErr result (BeginsWith (state after) (state before))
      → (NeverGrows KA → NeverGrows VA → IsErrOf result (Memory alloc_error) → state after ≡ state before)
      → IfErr result (IsUnbuilt K V E KA VA borrowed steps iter claim state before after)
  result_unbuilt (Ok root) cause kept memory = tt
  result_unbuilt (Err fault) cause kept memory = is_unbuilt fault cause kept (λ keys values is. memory keys values (ap Err is))

-- what a map's call promises of entries that come by keys, a set's promises of the keys
module _ {I M R P Q : Type 0} (K : Kind) (E : ℕ) (KA : Archival M R) (borrowed : I → M) (steps : P → Option I → P → Type 0) (iter : P) (claim : ℕ) (state : Q → Writing) (before after : Q) where
  module _ (k : IsLawful K) (fits : IsTrue (are_fitting K unit_kind E)) (ka : IsArchived KA) where
    pub is_built_set : (root : ℕ) → claim ≤ last_end → BuildsSet K E KA borrowed steps iter claim state before after root
        → (0 < claim → position (state after) ≤ last_end) → OnlyAppended (state before) (state after)
        → IsBuiltSet K E KA borrowed steps iter claim state before after root
    is_built_set root few built end went =
        let smallest = builds_smallest_set K E k fits KA ka borrowed steps iter claim state before after root few built in
        record {
          archived = keys_archived K E KA borrowed steps iter claim state before after root smallest;
          smallest = smallest;
          written = built;
          one_tree = builds_one_tree_set K E KA borrowed steps iter claim state before after root (room_of K unit_kind E k unit_laws fits).some built;
          end = end;
          went = went;
        }

    pub built_as_set : {J D Y : Type 0} {lent : J → M × Unit {0}} {outer : D → Option J → D → Type 0} {it : D} (result : Result ℕ Y) (fault : Y)
        → (last_end < claim → IsErrOf result fault)
        → ((root : ℕ) → BuildsTree K unit_kind E KA unit_archival lent outer it claim state before after root → BuildsSet K E KA borrowed steps iter claim state before after root)
        → IfOk result (IsBuilt K unit_kind E KA unit_archival lent outer it claim state before after)
        → IfOk result (IsBuiltSet K E KA borrowed steps iter claim state before after)
    built_as_set (Ok root) fault past as_set h = is_built_set root (fits_if_ok claim root fault past) (as_set root h.written) h.end h.went
    built_as_set (Err other) fault past as_set h = tt

  pub unbuilt_as_set : {J D X : Type 0} {lent : J → M × Unit {0}} {outer : D → Option J → D → Type 0} {it : D} (fault : Fault X)
      → (FailsToBuild K unit_kind E KA unit_archival lent outer it claim state before after fault → FailsToBuildSet K E KA borrowed steps iter claim state before after fault)
      → IsUnbuilt K unit_kind E KA unit_archival lent outer it claim state before after fault
      → IsUnbuiltSet K E KA borrowed steps iter claim state before after fault
  unbuilt_as_set fault as_set h = record { cause = as_set h.cause; kept = h.kept; memory = λ keys is. h.memory keys (λ unit grows. grows) is; any_order = h.any_order }

  pub unbuilt_as_set_in_order : {J D X : Type 0} {order : M → M → Ordering} {lent : J → M × Unit {0}} {outer : D → Option J → D → Type 0} {it : D} (fault : Fault X)
      → (FailsInOrder order K unit_kind E KA unit_archival lent outer it claim state before after fault → FailsSetInOrder order K E KA borrowed steps iter claim state before after fault)
      → IsUnbuiltInOrder order K unit_kind E KA unit_archival lent outer it claim state before after fault
      → IsUnbuiltSetInOrder order K E KA borrowed steps iter claim state before after fault
  unbuilt_as_set_in_order fault as_set h = record { cause = as_set h.cause; kept = h.kept; memory = λ keys is. h.memory keys (λ unit grows. grows) is }

-- what is promised of a list's entries
pub list_built : {M N R S Y : Type 0} (K V : Kind) (E : ℕ) (KA : Archival M R) (VA : Archival N S) (from : Writing) (entries : List (M × N)) (to : Writing) (result : Result ℕ Y)
    → IfOk result (λ root. IsSmallestArchive K V E KA VA from entries root to)
    → IfOk result (λ root. 0 < length entries → OneTreeWritten (layout_of K V E) KA VA from entries root to)
    → IfOk result (IsBuiltOf K V E KA VA from entries to)
list_built K V E KA VA from entries to (Ok root) smallest one_tree = record { smallest = smallest; one_tree = one_tree }
list_built K V E KA VA from entries to (Err fault) smallest one_tree = tt
