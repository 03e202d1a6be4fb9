-- What faults of serialising say.
use Rattle.std.specs.Prelude.{ℕ, List, ◌++◌, codes, decimal}
use Rattle.rkyv_btree_writer.specs.declared.fault.IteratorLengthMismatch.{IteratorLengthMismatch}
use Rattle.rkyv_btree_writer.specs.declared.fault.Fault.{Fault}
use Rattle.rkyv_btree_writer.specs.declared.fault.Fault.TheVariants.{Length, LengthOverflow, PositionOverflow, OffsetOverflow, Writer, Memory, Entry, OutOfOrder}
use Rattle.rkyv_btree_writer.specs.declared.fault.ResolveFault.{ResolveFault}
use Rattle.rkyv_btree_writer.specs.declared.fault.ResolveFault.TheVariants as resolving

abbrev pub count_text : IteratorLengthMismatch → List ℕ
count_text m =
    codes "iterator claimed that it contained "
    ++ (decimal m.expected ++ (codes " elements, but yielded " ++ (decimal m.actual ++ codes " items during iteration")))

abbrev pub resolve_text : ResolveFault → List ℕ
resolve_text resolving.LengthOverflow = codes "length is past 32 bits"
resolve_text resolving.OffsetOverflow = codes "offset is past 32 bits"

-- the writer's own error and an entry's code are told by their fields
abbrev pub fault_text : {E : Type 0} → Fault E → List ℕ
fault_text (Length m) = count_text m
fault_text LengthOverflow = codes "length is past 32 bits"
fault_text PositionOverflow = codes "position is past 32 bits"
fault_text OffsetOverflow = codes "offset is past 32 bits"
fault_text (Writer error) = codes "writer failed"
fault_text (Memory error) = codes "out of memory"
fault_text (Entry fault) = codes "entry refused"
fault_text (OutOfOrder index) = codes "entry " ++ (decimal index ++ codes " is out of order")
