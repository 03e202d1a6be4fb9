-- The tree that is read is the one that is spelled.
use Rattle.std.proofs.Common.{◌≡◌, ℕ, ◌≤◌, ◌∙◌, List, [], ap, sym, subst, arith, inl, inr}
use Rattle.rkyv_btree_shape.proofs.Mapped.{height_mapped}
use Rattle.rkyv_btree_format.proofs.Readings.{tree_is_read}
use Rattle.rkyv_btree_portable.specs.Kind.{Kind}
use Rattle.rkyv_btree_format.specs.Layout.{layout_of}
use Rattle.rkyv_btree_format.specs.Read.{entry_at, map_tree}
use Rattle.rkyv_btree_format.specs.Spells.{Accepted, accepted_tree}
use Rattle.rkyv_btree_shape.specs.Tree.{leaf, height}
use Rattle.rkyv_btree_view.proofs.lookup.searched_trees_are_spelled.Goals as goal

low : (K V : Kind) (E : ℕ) (b : List ℕ) (lo hi at left : ℕ) (m : List (K.Value × V.Value)) (a : Accepted K V E b lo hi at left m) → height (accepted_tree K V E b lo hi at left m a) ≤ 32
low K V E b lo hi at left m a =
    elim a.root as (λ root. height (elim root [ inl h ↦ leaf [] | inr h ↦ h.1.tree ]) ≤ 32) [
      | inl h ↦ omega arith
      | inr h ↦ h.1.levels
    ]

pub returns-clause-tree : goal.returns-clause-tree
returns-clause-tree g c b lo hi at left m a =
    sym (tree_is_read g.K.Portable.kind g.V.Portable.kind g.row.E b g.met.K.Portable.laws.is_read g.met.V.Portable.laws.is_read lo hi at left m a)

pub returns-clause-height : goal.returns-clause-height
returns-clause-height g c b lo hi at left m a =
    let K = g.K.Portable.kind in
    let V = g.V.Portable.kind in
    let E = g.row.E in
    let tree = map_tree (layout_of K V E) b at in
    let same : height tree ≡ height (accepted_tree K V E b lo hi at left m a) =
    sym (height_mapped (entry_at K V E b) tree) ∙ sym (ap height (tree_is_read K V E b g.met.K.Portable.laws.is_read g.met.V.Portable.laws.is_read lo hi at left m a)) in
    (same, subst (λ (n : ℕ). n ≤ 32) (sym same) (low K V E b lo hi at left m a))
