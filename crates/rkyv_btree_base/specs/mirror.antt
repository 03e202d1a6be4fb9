-- Functions and facts that mirror the code: those of the check, and of the lists that building reserves.
pub use Rattle.rkyv_btree_verify.specs.mirror.Check
pub use Rattle.rkyv_btree_archive.specs.mirror.Scratch
