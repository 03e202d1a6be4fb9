-- What archiving an array does: what its elements write, one after another, and then their own bytes in a row, which are the array's.
use Rattle.std.specs.Prelude.{◌≡◌, ℕ, ◌+◌, ◌⊎◌, List, [], ◌∷◌, ◌++◌, length, map, take, Option, Some, None}
use Rattle.std.specs.List.{All, flat_map}
use Rattle.rkyv_btree_archive.specs.VectorArchival.{ElementsImage}
use Rattle.rkyv_btree_compound.specs.Arrays.{array_kind}
use Rattle.rkyv_btree_portable.specs.Bytes.{zeros}
use Rattle.rkyv_btree_writer.specs.Archiving.{Archival}
use Rattle.rkyv_btree_writer.specs.Fields.{Field}
use Rattle.rkyv_btree_writer.specs.Writing.{Write}
use Rattle.rkyv_btree_writer.specs.declared.fault.EntryFault.{EntryFault}
use Rattle.rkyv_btree_writing_laws.specs.Imaged.{end_of}

module _ {M R : Type 0} (T : Archival M R) where
  -- what elements begin to write: what the first does, or all that it writes and then what the others do
  abbrev pub RowBegins : ℕ → List M → List Write → Type 0
  RowBegins from [] writes = ⊥
  RowBegins from (x ∷ xs) writes =
      T.Begins x from writes
      ⊎ ((first : List Write) × (second : List Write) × (r : R) × T.Writes x from first r × RowBegins (end_of from first) xs second
      × (writes ≡ first ++ second))

  -- an element refuses itself after what those before it write
  abbrev pub RowRefuses : EntryFault → ℕ → List M → Type 0
  RowRefuses fault from [] = ⊥
  RowRefuses fault from (x ∷ xs) =
      T.Refuses x from fault ⊎ ((first : List Write) × (r : R) × T.Writes x from first r × RowRefuses fault (end_of from first) xs)

  -- some element asks for memory
  abbrev pub AnyGrows : List M → Type 0
  AnyGrows [] = ⊥
  AnyGrows (x ∷ xs) = T.Grows x ⊎ AnyGrows xs

  -- the own bytes of an element by what serialising told of it. A law also ranges over elements of which it told nothing: zeros
  abbrev pub PartResolves : M → Option R → ℕ → List ℕ → Type 0
  PartResolves x None at own = own ≡ zeros T.kind.size
  PartResolves x (Some r) at own = T.Resolves x r at own

  abbrev pub part_fields : M → Option R → ℕ → List Field
  part_fields x None at = []
  part_fields x (Some r) at = T.fields x r at

  -- the own bytes of elements one after another from a position on, and what these tell of what lies elsewhere
  abbrev pub RowResolves : List M → List (Option R) → ℕ → List ℕ → Type 0
  RowResolves [] rs at own = own ≡ []
  RowResolves (x ∷ xs) [] at own = own ≡ []
  RowResolves (x ∷ xs) (r ∷ rs) at own =
      (first : List ℕ) × (rest : List ℕ) × PartResolves x r at first × RowResolves xs rs (at + T.kind.size) rest × (own ≡ first ++ rest)

  abbrev pub row_fields : List M → List (Option R) → ℕ → List Field
  row_fields [] rs at = []
  row_fields (x ∷ xs) [] at = []
  row_fields (x ∷ xs) (r ∷ rs) at = part_fields x r at ++ row_fields xs rs (at + T.kind.size)

  -- An array has N elements. A law also ranges over longer lists, of which the first N count.
  abbrev pub array_archival : ℕ → Archival (List M) (List (Option R))
  array_archival N = record {
    kind = array_kind T.kind N;
    meaning = λ xs. map T.meaning xs;
    IsIn = λ xs. (length xs ≡ N) × All T.IsIn xs;
    Writes = λ xs from writes rs. (told : List R) × ElementsImage T from (take N xs) writes told × (rs ≡ map Some told);
    Begins = λ xs from writes. RowBegins from (take N xs) writes;
    Resolves = λ xs rs at own. RowResolves (take N xs) rs at own;
    fields = λ xs rs at. row_fields (take N xs) rs at;
    lengths = λ xs. flat_map T.lengths (take N xs);
    Grows = λ xs. AnyGrows (take N xs);
    Refuses = λ xs from fault. RowRefuses fault from (take N xs);
  }
