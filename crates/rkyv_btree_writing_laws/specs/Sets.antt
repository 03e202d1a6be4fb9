-- Serialising the items of an iterator as the keys of a set, which is the map in which each key's value is ().
use Rattle.std.specs.Prelude.{◌≡◌, ℕ, ◌<◌, List, length, map, Option}
use Rattle.std.specs.Iterator.{Drains}
use Rattle.std.specs.Option.{option_map}
use Rattle.rkyv_btree_writer.specs.Archiving.{Archival, Matches, native_archival}
use Rattle.rkyv_btree_portable.specs.Kind.{Kind}
use Rattle.rkyv_btree_portable.specs.Natives.{unit_form}
use Rattle.rkyv_btree_portable.specs.Scalars.{unit_kind}
use Rattle.rkyv_btree_format.specs.Layout.{layout_of}
use Rattle.rkyv_btree_writing_laws.specs.Entries.{both_borrowed}
use Rattle.rkyv_btree_writing_laws.specs.Serialising.{Built, Spelled, FailsToBuild}
use Rattle.rkyv_btree_writer.specs.Writing.{Writing}
use Rattle.rkyv_btree_writer.specs.declared.fault.Fault.{Fault}

-- how a () is archived
abbrev pub unit_archival : Archival (Unit {0}) (Unit {0})
unit_archival = native_archival unit_form

-- the entries of the keys that items lend: each with a ()
abbrev pub unit_entries : {I M : Type 0} → (I → M) → List I → List (M × Unit {0})
unit_entries borrowed keys = map (λ k. (borrowed k, tt)) keys

-- what an item with a () lends
abbrev pub entry_borrowed : {I M : Type 0} → (I → M) → I × Unit {0} → M × Unit {0}
entry_borrowed borrowed = both_borrowed borrowed (λ u. u)

-- steps that give entries, where these give their keys: the value beside each is a ()
abbrev pub entries_by : {I P : Type 0} → (P → Option I → P → Type 0) → P → Option (I × Unit {0}) → P → Type 0
entries_by steps s entry t = steps s (option_map (λ e. e.0) entry) t

module _ {I M R P Q : Type 0} (K : Kind) (E : ℕ) (KA : Archival M R) (borrowed : I → M) (steps : P → Option I → P → Type 0) (iter : P)
    (claim : ℕ) (state : Q → Writing) (before after : Q) where
  -- the iterator gave as many keys as claimed, and then no more; the tree of them, each with a (), was written
  pub record BuildsSet (root : ℕ) : Type 0 where
    pub keys : List I
    pub all : Drains steps iter keys
    pub count : length keys ≡ claim
    pub built : Built (layout_of K unit_kind E) KA unit_archival (state before) (unit_entries borrowed keys) root (state after)
    pub spelled : 0 < claim → (key : Matches KA.kind K)
        → Spelled K unit_kind E (state before) (map (λ k. (key.to (KA.meaning (borrowed k)), tt)) keys) root (state after)

  -- a fault stopped that of the map whose entries come by these keys
  abbrev pub FailsToBuildSet : {X : Type 0} → Fault X → Type 0
  FailsToBuildSet fault = FailsToBuild K unit_kind E KA unit_archival (entry_borrowed borrowed) (entries_by steps) iter claim state before after fault
