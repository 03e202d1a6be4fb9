-- Building, with the state of the iterator after it.
use Rattle.std.specs.Prelude.{◌≡◌, ℕ, ◌<◌, ◌≤◌, Option, alloc_error}
use Rattle.rkyv_btree_portable.specs.Kind.{Kind}
use Rattle.rkyv_btree_writer.specs.Archiving.{Archival, BeginsWith}
use Rattle.rkyv_btree_writer.specs.Writing.{Writing, position, last_end}
use Rattle.rkyv_btree_writer.specs.declared.fault.Fault.{Fault}
use Rattle.rkyv_btree_writer.specs.declared.fault.Fault.TheVariants.{Length, Memory}
use Rattle.rkyv_btree_writing_laws.specs.Kept.{NeverGrows, OnlyAppended}
use Rattle.rkyv_btree_writing_laws.specs.Serialising.{Serialised, Miscounted, BuildFault}

module _ {I M N R S P : Type 0} (K V : Kind) (E : ℕ) (KA : Archival M R) (VA : Archival N S)
    (borrowed : I → M × N) (steps : P → Option I → P → Type 0) where
  -- the tree of the iterator's items was written, and it came to its end at a state
  abbrev pub SerialisedTo : P → ℕ → Writing → ℕ → P → Writing → Type 0
  SerialisedTo iter claim from root end t =
      (b : Serialised K V E KA VA borrowed steps iter claim from root t) × (b.all.0 ≡ end)

  -- the iterator gave another number of items than the claim, and came to its end at a state
  abbrev pub CountsTo : P → P → ℕ → ℕ → ℕ → Writing → Writing → Type 0
  CountsTo iter end claim expected actual from t =
      (m : Miscounted K V E KA VA borrowed steps iter claim expected actual from t) × (m.all.0 ≡ end)

  -- each fault's cause, and what it leaves
  abbrev pub FaultAt : {X : Type 0} → P → ℕ → Writing → Fault X → P → Writing → Type 0
  FaultAt iter claim from (Length m) end t = CountsTo iter end claim m.expected m.actual from t
  FaultAt iter claim from fault end t = BuildFault K V E KA VA borrowed steps iter claim from fault t

  -- the tree was written so, its bytes end in reach, and they were only appended
  pub record IsBuiltTo (iter : P) (claim : ℕ) (from : Writing) (end : P) (t : Writing) (root : ℕ) : Type 0 where
    pub built : SerialisedTo iter claim from root end t
    pub last : 0 < claim → position t ≤ last_end
    pub went : OnlyAppended from t

  -- a fault stopped it: the cause, and what it leaves of the writer
  pub record IsUnbuiltAt {X : Type 0} (iter : P) (claim : ℕ) (from : Writing) (end : P) (t : Writing) (fault : Fault X) : Type 0 where
    pub cause : FaultAt iter claim from fault end t
    pub kept : BeginsWith t from
    pub memory : NeverGrows KA → NeverGrows VA → fault ≡ Memory alloc_error → t ≡ from
