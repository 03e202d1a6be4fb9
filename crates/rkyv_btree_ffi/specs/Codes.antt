-- What a refusal is for C: its code, its position, and what was found and is allowed there.
use Rattle.std.specs.Prelude.{pos}
use Rattle.rkyv_btree_portable.specs.declared.refusal.Refusal.{Refusal}
use Rattle.rkyv_btree_portable.specs.declared.refusal.Refusal.TheVariants.{OutOfRange, Misaligned, BadKind, InvalidLength, BadEntry, TooDeep}
use Rattle.rkyv_btree_portable.specs.declared.refusal.Refusal.TheVariants.{EntriesLengthMismatch, TooLong, OutOfOrder}
use Rattle.rkyv_btree_ffi.specs.declared.codes.BtreeRefusal.{BtreeRefusal}

abbrev pub refusal_for : Refusal → BtreeRefusal
refusal_for (OutOfRange p) = record { code = 1; at = p; found = 0; allowed = 0 }
refusal_for (Misaligned p) = record { code = 2; at = pos p; found = 0; allowed = 0 }
refusal_for (BadKind p byte) = record { code = 3; at = pos p; found = byte; allowed = 1 }
refusal_for (InvalidLength fact) = record { code = 4; at = pos 0; found = fact.len; allowed = fact.maximum }
refusal_for (BadEntry p) = record { code = 5; at = pos p; found = 0; allowed = 0 }
refusal_for (TooDeep p) = record { code = 6; at = p; found = 0; allowed = 32 }
refusal_for (EntriesLengthMismatch fact) = record { code = 7; at = pos 0; found = fact.entries; allowed = fact.len }
refusal_for TooLong = record { code = 8; at = pos 0; found = 0; allowed = 4294967295 }
refusal_for (OutOfOrder index) = record { code = 9; at = pos 0; found = index; allowed = 0 }
