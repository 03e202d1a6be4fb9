-- What archiving a vector does: what its elements write, then their own bytes in a row, and the vector's own bytes after them.
use Rattle.std.specs.Prelude.{◌≡◌, ℕ, ◌+◌, ◌*◌, ◌<◌, true, List, [], ◌∷◌, ◌++◌, length, map}
use Rattle.std.specs.List.{All, flat_map}
use Rattle.rkyv_btree_compound.specs.Vectors.{vector_kind}
use Rattle.rkyv_btree_portable.specs.Rounding.{round_up}
use Rattle.rkyv_btree_writer.specs.Archiving.{Archival}
use Rattle.rkyv_btree_writer.specs.Fields.{a_length, a_pointer}
use Rattle.rkyv_btree_writer.specs.Padding.{padding}
use Rattle.rkyv_btree_writer.specs.TextArchival.{FitsText, text_own}
use Rattle.rkyv_btree_writer.specs.Writing.{Write}
use Rattle.rkyv_btree_writer.specs.declared.fault.EntryFault.{EntryFault}
use Rattle.rkyv_btree_writer.specs.declared.fault.ResolveFault.{ResolveFault}
use Rattle.rkyv_btree_writing_laws.specs.Entries.{AreResolved, AreUnresolved}
use Rattle.rkyv_btree_writing_laws.specs.Imaged.{end_of, unresolved_write}

-- the writes of a row at a position: the padding before it, and then its own bytes in one write
abbrev pub row_image : ℕ → ℕ → List (List ℕ) → List Write
row_image align at owns = padding align at ++ record { bytes = flat_map (λ own. own) owns; reaches = true } ∷ []

module _ {M R : Type 0} (T : Archival M R) where
  -- the writes of elements, one after another, with what serialising tells of each
  abbrev pub ElementsImage : ℕ → List M → List Write → List R → Type 0
  ElementsImage from [] writes rs = (writes ≡ []) × (rs ≡ [])
  ElementsImage from (x ∷ xs) writes rs =
      (own : List Write) × (rest : List Write) × (r : R) × (others : List R) × T.Writes x from own r
      × ElementsImage (end_of from own) xs rest others × (writes ≡ own ++ rest) × (rs ≡ r ∷ others)

  -- the first elements are written, and then comes what is told of the next
  pub record ElementsUpTo (Next : M → ℕ → List Write → Type 0) (from : ℕ) (xs : List M) (writes : List Write) : Type 0 where
    pub done : List M
    pub x : M
    pub later : List M
    pub first : List Write
    pub second : List Write
    pub rs : List R
    pub parts : xs ≡ done ++ x ∷ later
    pub image : ElementsImage from done first rs
    pub next : Next x (end_of from first) second
    pub both : writes ≡ first ++ second

  -- the own bytes of elements at the next multiple of their alignment, and their writes from a position on
  pub record RowImage (at : ℕ) (xs : List M) (rs : List R) (writes : List Write) : Type 0 where
    pub owns : List (List ℕ)
    pub resolved : AreResolved T (round_up at T.kind.align) xs rs owns
    pub image : writes ≡ row_image T.kind.align at owns

  -- where an element's own bytes aren't resolved, the padding and what stands for the row
  pub record RowUnresolved (at : ℕ) (xs : List M) (rs : List R) (writes : List Write) : Type 0 where
    pub cause : ResolveFault
    pub unresolved : AreUnresolved T (round_up at T.kind.align) xs rs cause
    pub image : writes ≡ padding T.kind.align at ++ unresolved_write cause (length xs * T.kind.size) ∷ []

  -- the writes of elements and then of their row, whose place is the start
  pub record VectorImage (from : ℕ) (xs : List M) (writes : List Write) (start : ℕ) : Type 0 where
    pub first : List Write
    pub second : List Write
    pub rs : List R
    pub elements : ElementsImage from xs first rs
    pub row : RowImage (end_of from first) xs rs second
    pub place : start ≡ round_up (end_of from first) T.kind.align
    pub both : writes ≡ first ++ second

  -- what a vector begins to write: what its elements do; or all that they write, and then the row, resolved or not
  pub data VectorBegins (from : ℕ) (xs : List M) (writes : List Write) : Type 0 where
    of_elements : ElementsUpTo T.Begins from xs writes → VectorBegins from xs writes
    of_row : (start : ℕ) → VectorImage from xs writes start → VectorBegins from xs writes
    of_unresolved : (first second : List Write) (rs : List R) → ElementsImage from xs first rs
        → RowUnresolved (end_of from first) xs rs second → writes ≡ first ++ second → VectorBegins from xs writes

  -- an element refuses itself after what those before it write
  abbrev pub VectorRefuses : EntryFault → ℕ → List M → Type 0
  VectorRefuses fault from xs = (writes : List Write) × ElementsUpTo (λ x start begun. T.Refuses x start fault × (begun ≡ [])) from xs writes

  -- values that are lists of elements: serialising tells where their row starts. Elements take memory
  abbrev pub vector_archival : {X : Type 0} → (X → List M) → Archival X ℕ
  vector_archival elements = record {
    kind = vector_kind T.kind;
    meaning = λ x. map T.meaning (elements x);
    IsIn = λ x. All T.IsIn (elements x);
    Writes = λ x from writes start. VectorImage from (elements x) writes start;
    Begins = λ x from writes. VectorBegins from (elements x) writes;
    Resolves = λ x start at own. FitsText at start (length (elements x)) × (own ≡ text_own at start (length (elements x)));
    fields = λ x start at. a_length (at + 4) (length (elements x)) ∷ a_pointer at start ∷ [];
    lengths = λ x. length (elements x) ∷ flat_map T.lengths (elements x);
    Grows = λ x. 0 < length (elements x);
    Refuses = λ x from fault. VectorRefuses fault from (elements x);
  }
