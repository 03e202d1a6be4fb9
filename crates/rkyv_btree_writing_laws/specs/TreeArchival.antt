-- How values that are lists of entries are archived as maps: the writes of their tree, and the map's own bytes.
use Rattle.std.specs.Prelude.{◌≡◌, ℕ, ◌+◌, ◌<◌, ◌≤◌, true, nat_eq, if◌then◌else◌, List, [], ◌∷◌, ◌++◌, length, map, Option, unwrap_or}
use Rattle.std.specs.List.{All, flat_map}
use Rattle.rkyv_btree_writing_laws.specs.Image.{root_bytes, root_reaches}
use Rattle.rkyv_btree_writing_laws.specs.Imaged.{EntryIn, ChildImage, ChildBegins, ChildRefuses}
use Rattle.rkyv_btree_format.specs.Layout.{NodeLayout, layout_of}
use Rattle.rkyv_btree_shape.specs.Plan.{planned_alone}
use Rattle.rkyv_btree_verify.specs.Map.{map_kind}
use Rattle.rkyv_btree_writer.specs.Archiving.{Archival}
use Rattle.rkyv_btree_writer.specs.Fields.{Field, a_length, a_pointer}
use Rattle.rkyv_btree_writer.specs.Writing.{last_end}

-- what a map's own bytes tell: its length, and where its root node stands, if it has one
abbrev pub root_fields : ℕ → ℕ → ℕ → List Field
root_fields at root len = a_length (at + 4) len ∷ (if nat_eq len 0 then [] else a_pointer at root ∷ [])

-- a map of so many entries, at a position, over a root node
pub record IsRoot (at root len : ℕ) (own : List ℕ) : Type 0 where
  pub few : len ≤ last_end
  pub reaches : root_reaches at root len ≡ true
  pub bytes : own ≡ root_bytes at root len

module _ {M N R S : Type 0} (E : ℕ) (K : Archival M R) (V : Archival N S) where
  -- the lengths that an entry leads to
  abbrev pub entry_lengths : M × N → List ℕ
  entry_lengths x = K.lengths x.0 ++ V.lengths x.1

  abbrev pub nodes : NodeLayout
  nodes = layout_of K.kind V.kind E

  -- each value is a list of entries, of which the one tree that building makes is written; a tree takes memory
  abbrev pub tree_archival : {X : Type 0} → (X → List (M × N)) → Archival X ℕ
  tree_archival entries = record {
    kind = map_kind K.kind V.kind E;
    meaning = λ x. map (λ e. (K.meaning e.0, V.meaning e.1)) (entries x);
    IsIn = λ x. All (EntryIn K V) (entries x);
    Writes = λ x from writes root. (place : Option ℕ) × ChildImage nodes K V from (planned_alone E (entries x)) writes place × (root ≡ unwrap_or place 0);
    Begins = λ x from writes. ChildBegins nodes K V from (planned_alone E (entries x)) writes;
    Resolves = λ x root at own. IsRoot at root (length (entries x)) own;
    fields = λ x root at. root_fields at root (length (entries x));
    lengths = λ x. length (entries x) ∷ flat_map entry_lengths (entries x);
    Grows = λ x. 0 < length (entries x);
    Refuses = λ x from fault. ChildRefuses nodes K V from (planned_alone E (entries x)) fault;
  }
