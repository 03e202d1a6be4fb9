-- What is below a root of what a walk takes and leaves. This mirrors the code.
use Rattle.std.specs.Prelude.{ℕ, ◌+◌, List, Option, Some, None}
use Rattle.rkyv_btree_format.specs.Layout.{NodeLayout}
use Rattle.rkyv_btree_walk.specs.Below.{PathBelow, RunBelow, WalkBelow}
use Rattle.rkyv_btree_walk.specs.declared.path.Leaf.{Leaf}
use Rattle.rkyv_btree_walk.specs.declared.path.Step.{Step}
use Rattle.rkyv_btree_walk.specs.declared.seek.Part.{Part}

module _ (s : NodeLayout) (b : List ℕ) (root : Option ℕ) where
  -- that of a walk that has come to the start of a leaf
  abbrev pub LeafBelow : Leaf → List (ℕ × ℕ) → Type 0
  LeafBelow leaf fs = WalkBelow s b root leaf.node 0 leaf.count fs

  -- and to a part of one
  abbrev pub PartBelow : Part → List (ℕ × ℕ) → Type 0
  PartBelow part fs = WalkBelow s b root part.node part.next part.end fs

  -- the entry that a step takes is below the root, and so is the walk after it
  abbrev pub StepBelow : Option Step → List (ℕ × ℕ) → Type 0
  StepBelow None fs = PathBelow s b root 0 fs
  StepBelow (Some e) fs = RunBelow s b root e.node e.index (e.index + 1) × LeafBelow e.leaf fs

module _ (s : NodeLayout) (b : List ℕ) (old new : List (ℕ × ℕ)) where
  -- below whatever root the old path is, the new one is
  abbrev pub PathStaysBelow : Type 0
  PathStaysBelow = (root : Option ℕ) → PathBelow s b root 0 old → PathBelow s b root 0 new

  -- and so is what a step takes
  abbrev pub StepStaysBelow : Option Step → Type 0
  StepStaysBelow step = (root : Option ℕ) → PathBelow s b root 0 old → StepBelow s b root step new
