-- Follows the code: what serialising elements leaves, and then what writing their row leaves.
use Rattle.std.specs.Prelude.{◌≡◌, ℕ, ◌+◌, ◌*◌, ◌<◌, ◌≤◌, List, length}
use Rattle.std.specs.List.{All}
use Rattle.std.specs.declared.alloc.AllocError.{AllocError}
use Rattle.rkyv_btree_archive.specs.VectorArchival.{ElementsImage, RowImage}
use Rattle.rkyv_btree_portable.specs.Rounding.{round_up}
use Rattle.rkyv_btree_writer.specs.Archiving.{Archival, BeginsWith}
use Rattle.rkyv_btree_writer.specs.Padding.{padding}
use Rattle.rkyv_btree_writer.specs.Writing.{Writing, position, Write, Wrote, Stopped, last_end}
use Rattle.rkyv_btree_writer.specs.declared.fault.Fault.{Fault}
use Rattle.rkyv_btree_writer.specs.declared.fault.Fault.TheVariants.{PositionOverflow, Memory}
use Rattle.rkyv_btree_writer.specs.declared.fault.ResolveFault.{ResolveFault}
use Rattle.rkyv_btree_writing_laws.specs.Entries.{AreUnresolved, as_fault}

module _ {M R : Type 0} (T : Archival M R) where
  -- elements were serialised, with what this told of each
  pub record ElementsWritten (from : Writing) (xs : List M) (rs : List R) (to : Writing) : Type 0 where
    pub writes : List Write
    pub image : ElementsImage T (position from) xs writes rs
    pub wrote : Wrote from writes to
    pub are_in : All T.IsIn xs

  -- their row was written, which begins at the start
  pub record RowWritten (from : Writing) (xs : List M) (rs : List R) (start : ℕ) (to : Writing) : Type 0 where
    pub writes : List Write
    pub row : RowImage T (position from) xs rs writes
    pub wrote : Wrote from writes to
    pub place : start ≡ round_up (position from) T.kind.align
    pub end : position to ≤ last_end

  -- why it isn't written, and the state that is left
  pub data RowStopped {E : Type 0} (from : Writing) (xs : List M) (rs : List R) (fault : Fault E) (to : Writing) : Type 0 where
    in_padding : Stopped from (padding T.kind.align (position from)) fault to → RowStopped from xs rs fault to
    past_end : fault ≡ PositionOverflow → Wrote from (padding T.kind.align (position from)) to
        → last_end < position to + length xs * T.kind.size → RowStopped from xs rs fault to
    in_memory : (error : AllocError) → fault ≡ Memory error → 0 < length xs → BeginsWith to from → RowStopped from xs rs fault to
    in_own_bytes : (cause : ResolveFault) → fault ≡ as_fault cause → Wrote from (padding T.kind.align (position from)) to
        → AreUnresolved T (round_up (position from) T.kind.align) xs rs cause → RowStopped from xs rs fault to
    in_row : (writes : List Write) → RowImage T (position from) xs rs writes → Stopped from writes fault to → RowStopped from xs rs fault to
