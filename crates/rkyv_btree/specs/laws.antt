-- Laws of the crates below.
pub use Rattle.rkyv_btree_view.specs.laws.Comparing
pub use Rattle.rkyv_btree_view.specs.laws.Cuts
pub use Rattle.rkyv_btree_view.specs.laws.Increasing
pub use Rattle.rkyv_btree_view.specs.laws.SameAs
pub use Rattle.rkyv_btree_walk.specs.laws.Visits
