-- What follows for trees where what keys and values mean determines, with positions, how they are archived.
use Rattle.std.specs.Prelude.{◌≡◌, ℕ, List, map}
use Rattle.rkyv_btree_writer.specs.Archiving.{Archival}
use Rattle.rkyv_btree_portable.specs.Kind.{Kind}
use Rattle.rkyv_btree_format.specs.Layout.{NodeLayout, layout_of}
use Rattle.rkyv_btree_writing_laws.specs.Determined.{IsDetermined}
use Rattle.rkyv_btree_writing_laws.specs.Serialising.{Built}
use Rattle.rkyv_btree_writer.specs.Writing.{Writing, position, Appended}

-- what leads from one state to another, and what leads from a third to a fourth, appends the same bytes
pub record AppendAlike (from to start end : Writing) : Type 0 where
  pub bytes : List ℕ
  pub first : Appended from bytes to
  pub second : Appended start bytes end

-- what an entry means
abbrev pub entry_meaning : {M N R S : Type 0} (K : Archival M R) (V : Archival N S) → M × N → K.kind.Value × V.kind.Value
entry_meaning K V x = (K.meaning x.0, V.meaning x.1)

-- from one position, lists that mean the same append the same bytes by every writer, and have the same root
abbrev pub BuildsAlike : {M N R S : Type 0} → NodeLayout → Archival M R → Archival N S → Type 0
BuildsAlike {M} {N} s K V =
    (from to start end : Writing) (xs ys : List (M × N)) (root place : ℕ) → position from ≡ position start
    → map (entry_meaning K V) xs ≡ map (entry_meaning K V) ys → Built s K V from xs root to → Built s K V start ys place end
    → (root ≡ place) × AppendAlike from to start end

-- where what keys and values mean determines how they are archived, so it does for trees
abbrev pub TreesAreDetermined : {M N R S : Type 0} → Kind → Kind → ℕ → Archival M R → Archival N S → Type 0
TreesAreDetermined K V E KA VA = IsDetermined KA → IsDetermined VA → BuildsAlike (layout_of K V E) KA VA
