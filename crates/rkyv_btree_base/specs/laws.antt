-- Laws that impls and callers cite: those of archived values, and of archived pairs.
pub use Rattle.rkyv_btree_portable.specs.laws.Rounding
pub use Rattle.rkyv_btree_portable.specs.laws.Numbers
pub use Rattle.rkyv_btree_portable.specs.laws.Standing
pub use Rattle.rkyv_btree_portable.specs.laws.Refusing
pub use Rattle.rkyv_btree_portable.specs.laws.Plain
pub use Rattle.rkyv_btree_portable.specs.laws.Scalars
pub use Rattle.rkyv_btree_portable.specs.laws.Natives
pub use Rattle.rkyv_btree_portable.specs.laws.Views
pub use Rattle.rkyv_btree_portable.specs.laws.EntryLaws
pub use Rattle.rkyv_btree_portable.specs.laws.InPlace
pub use Rattle.rkyv_btree_portable.specs.laws.TextLaws
pub use Rattle.rkyv_btree_archive.specs.laws.EntryArchived
pub use Rattle.rkyv_btree_archive.specs.laws.EntryCauses
