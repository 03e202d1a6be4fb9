-- Serialising the items of an iterator that can fail: its calls give results.
use Rattle.std.specs.Prelude.{◌≡◌, ℕ, ◌<◌, ◌≤◌, List, [], length, map, take, codes, Option, Some, Result, Ok, Err, IfErr, IsErrOf, alloc_error}
use Rattle.std.specs.Iterator.{Yields}
use Rattle.std.specs.Option.{option_map}
use Rattle.rkyv_btree_portable.specs.Kind.{Kind}
use Rattle.rkyv_btree_portable.specs.Scalars.{unit_kind}
use Rattle.rkyv_btree_format.specs.Layout.{layout_of}
use Rattle.rkyv_btree_shape.specs.Plan.{planned_alone}
use Rattle.rkyv_btree_writer.specs.Archiving.{Archival, BeginsWith}
use Rattle.rkyv_btree_writer.specs.FaultText.{fault_text}
use Rattle.rkyv_btree_writer.specs.Writing.{Writing, last_end}
use Rattle.rkyv_btree_writer.specs.declared.fault.Fault.TheVariants.{LengthOverflow, Memory, OutOfOrder}
use Rattle.rkyv_btree_writing_laws.specs.Begun.{ChildBegun}
use Rattle.rkyv_btree_writing_laws.specs.Kept.{NeverGrows}
use Rattle.rkyv_btree_writing_laws.specs.Miscounts.{IsMiscount}
use Rattle.rkyv_btree_writing_laws.specs.Serialising.{BeginClaimed, BuildFault}
use Rattle.rkyv_btree_writing_laws.specs.Sets.{unit_archival, entry_borrowed}
use Rattle.rkyv_btree_writing_laws.specs.Written.{ChildWritten}
use Rattle.rkyv_btree_archive.specs.declared.try_build.TryFault.{TryFault}
use Rattle.rkyv_btree_archive.specs.declared.try_build.TryFault.TheVariants.{Item, Build}

-- calls that give items and no error: where there is an item, the iterator gave it as Ok
abbrev pub OkSteps : {I X P : Type 0} → (P → Option (Result I X) → P → Type 0) → P → Option I → P → Type 0
OkSteps steps s item t = steps s (option_map (λ x. Ok x) item) t

module _ {I M N R S P X : Type 0} (K V : Kind) (E : ℕ) (KA : Archival M R) (VA : Archival N S)
    (borrowed : I → M × N) (steps : P → Option (Result I X) → P → Type 0) (iter : P) (claim : ℕ) (from t : Writing) where
  -- the iterator gave these items and then this error
  pub record MetError (error : X) : Type 0 where
    pub items : List I
    pub rest : P
    pub end : P
    pub taken : Yields (OkSteps steps) iter items rest
    pub met : steps rest (Some (Err error)) end
    -- of none nothing is written; of too few a beginning of the tree of a list of as many entries as claimed, of which
    -- they are the first; of enough the tree of as many as claimed
    pub none : items ≡ [] → t ≡ from
    pub few : 0 < length items → length items < claim → (xs : List (M × N)) × BeginClaimed borrowed items claim xs
        × ChildBegun (layout_of K V E) KA VA from (planned_alone E xs) t
    pub enough : claim ≤ length items → (place : Option ℕ) × ChildWritten (layout_of K V E) KA VA from (planned_alone E (map borrowed (take claim items))) place t

  -- each error's cause, and what it leaves: if it isn't an item's, the iterator gave no error before it
  abbrev pub TryFaulted : {W : Type 0} → TryFault W X → Type 0
  TryFaulted (Item error) = MetError error
  TryFaulted (Build fault) = BuildFault K V E KA VA borrowed (OkSteps steps) iter claim from fault t

module _ {I M N R S P X Q : Type 0} (K V : Kind) (E : ℕ) (KA : Archival M R) (VA : Archival N S)
    (borrowed : I → M × N) (steps : P → Option (Result I X) → P → Type 0) (iter : P) (claim : ℕ) (state : Q → Writing) (before after : Q) where
  -- an error of an item or of building stopped it
  abbrev pub FailsToTry : {W : Type 0} → TryFault W X → Type 0
  FailsToTry fault = TryFaulted K V E KA VA borrowed steps iter claim (state before) (state after) fault

  -- that error, and what it leaves of the writer
  pub record IsUntried {W : Type 0} (fault : TryFault W X) : Type 0 where
    -- an item's error is the iterator's, after the items before it
    pub cause : FailsToTry fault
    -- the contents begin with the old ones
    pub kept : BeginsWith (state after) (state before)
    -- after an error of memory the writer is unchanged, if serializing an entry takes no memory
    pub memory : NeverGrows KA → NeverGrows VA → fault ≡ Build (Memory alloc_error) → state after ≡ state before
    -- keys in any order are serialized: no error is `OutOfOrder`
    pub any_order : (index : ℕ) → fault ≡ Build (OutOfOrder index) → ⊥

-- a key with a () beside it, given as a result, is this key as a result
abbrev pub key_result : {I X : Type 0} → Result (I × Unit {0}) X → Result I X
key_result (Ok entry) = Ok entry.0
key_result (Err error) = Err error

-- calls that give entries, where these give their keys: the value beside each is a ()
abbrev pub results_by : {I X P : Type 0} → (P → Option (Result I X) → P → Type 0) → P → Option (Result (I × Unit {0}) X) → P → Type 0
results_by steps s entry t = steps s (option_map key_result entry) t

module _ {I M R P X Q : Type 0} (K : Kind) (E : ℕ) (KA : Archival M R) (borrowed : I → M)
    (steps : P → Option (Result I X) → P → Type 0) (iter : P) (claim : ℕ) (state : Q → Writing) (before after : Q) where
  -- an error stopped that of the map whose entries come by these keys
  abbrev pub FailsToTrySet : {W : Type 0} → TryFault W X → Type 0
  FailsToTrySet fault = FailsToTry K unit_kind E KA unit_archival (entry_borrowed borrowed) (results_by steps) iter claim state before after fault

  -- that error, and what it leaves of the writer
  pub record IsUntriedSet {W : Type 0} (fault : TryFault W X) : Type 0 where
    -- an item's error is the iterator's, after the items before it
    pub cause : FailsToTrySet fault
    -- the contents begin with the old ones
    pub kept : BeginsWith (state after) (state before)
    -- after an error of memory the writer is unchanged, if serializing a key takes no memory
    pub memory : NeverGrows KA → fault ≡ Build (Memory alloc_error) → state after ≡ state before
    -- keys in any order are serialized: no error is `OutOfOrder`
    pub any_order : (index : ℕ) → fault ≡ Build (OutOfOrder index) → ⊥

-- an item failed, or there was a wrong count
abbrev pub IsItemOrMiscount : {W X : Type 0} → TryFault W X → Type 0
IsItemOrMiscount (Item error) = Unit {0}
IsItemOrMiscount (Build fault) = IsMiscount fault

-- what building returns for a claim, and from which state to which it leads
pub record IsTryLimited {W X : Type 0} (claim : ℕ) (from to : Writing) (result : Result ℕ (TryFault W X)) : Type 0 where
  -- a length past 32 bits is always the error `LengthOverflow`, and nothing is written
  pub past : last_end < claim → IsErrOf result (Build LengthOverflow) × (to ≡ from)
  -- with a declared length of 0 the only errors are an item's and a wrong count, and nothing is written
  pub none : claim ≡ 0 → IfErr result IsItemOrMiscount × (to ≡ from)

-- what the errors say; the iterator's own error is told by its field
abbrev pub try_text : {W X : Type 0} → TryFault W X → List ℕ
try_text (Item error) = codes "item failed"
try_text (Build fault) = fault_text fault
