-- What is left of a walk in bytes that nobody has validated, where it is good: no step along it gives an error, and its keys and values are
-- valid. This mirrors the code.
use Rattle.std.specs.Prelude.{ℕ, zero, suc, ◌≤◌, ◌<◌, List, [], ◌∷◌, Some, Ok}
use Rattle.rkyv_btree_portable.specs.Kind.{Kind}
use Rattle.rkyv_btree_unverified.specs.Steps.{NodeGives, ChildGives, HeadGives}
use Rattle.rkyv_btree_unverified.specs.Walks.{GivesNoError}
use Rattle.rkyv_btree_unverified.specs.declared.walk.Phase.{Phase}
use Rattle.rkyv_btree_unverified.specs.declared.walk.Phase.TheVariants.{Descend, Advance, Over}
use Rattle.rkyv_btree_unverified.specs.declared.walk.UnverifiedWalk.{UnverifiedWalk}
use Rattle.rkyv_btree_walk.specs.mirror.Node.{EntryStands}

module _ (K V : Kind) (E : ℕ) (b : List ℕ) where
  module _ (Below : ℕ → ℕ → Type 0) (hi p : ℕ) where
    -- pointer i of the node at p in front of hi is good, and so is the tree to which it leads
    pub record FaultlessChild (i : ℕ) : Type 0 where
      pub pointer : GivesNoError (ChildGives K V E b hi p i)
      pub below : (q : ℕ) → ChildGives K V E b hi p i (Ok (Some q)) → Below p q

    -- so are all of the node, the node itself, and its entries
    pub record FaultlessNode : Type 0 where
      pub node : GivesNoError (NodeGives K V E b hi p)
      pub entries : (n i : ℕ) → NodeGives K V E b hi p (Ok n) → i < n → EntryStands K V E b (p, i)
      pub children : (i : ℕ) → i ≤ E → FaultlessChild i

    -- so are the entries of an inner node from number i on, and the pointers after them
    pub record FaultlessFrom (i : ℕ) : Type 0 where
      pub entries : (j : ℕ) → i ≤ j → j < E → EntryStands K V E b (p, j)
      pub children : (j : ℕ) → i < j → j ≤ E → FaultlessChild j

  -- so is each node of the tree at p, of at most so many levels
  unfoldable pub FaultlessTree : ℕ → ℕ → ℕ → Type 0
  FaultlessTree zero hi p = ⊥
  FaultlessTree (suc levels) hi p = FaultlessNode (FaultlessTree levels) hi p

  -- the own bytes of the map at a position are good, and so is its tree
  pub record FaultlessMap (at : ℕ) : Type 0 where
    pub own_bytes : GivesNoError (HeadGives K V E b at)
    pub root : (q : ℕ) → HeadGives K V E b at (Ok (Some q)) → FaultlessTree 32 at q

  -- what is left of each node of a path is good
  abbrev pub FaultlessPath : ℕ → ℕ → List (ℕ × ℕ) → Type 0
  FaultlessPath levels hi [] = Unit {0}
  FaultlessPath zero hi (f ∷ fs) = ⊥
  FaultlessPath (suc levels) hi (f ∷ fs) = FaultlessFrom (FaultlessTree levels) hi f.0 f.1 × FaultlessPath levels f.0 fs

  -- where a path leads all is good, if this says so of an empty path
  abbrev pub FaultlessEnd : Type 0 → ℕ → ℕ → List (ℕ × ℕ) → Type 0
  FaultlessEnd Start levels hi [] = Start
  FaultlessEnd Start zero hi (f ∷ fs) = ⊥
  FaultlessEnd Start (suc levels) hi (f ∷ fs) = FaultlessEnd (FaultlessChild (FaultlessTree levels) hi f.0 f.1) levels f.0 fs

  -- where a path from the root of the map at a position leads
  abbrev pub FaultlessPending : ℕ → List (ℕ × ℕ) → Type 0
  FaultlessPending at fs = FaultlessEnd (FaultlessMap at) 32 at fs

  -- what is left of a walk that goes down from where its path leads
  pub record FaultlessDown (at : ℕ) (fs : List (ℕ × ℕ)) : Type 0 where
    pub pending : FaultlessPending at fs
    pub path : FaultlessPath 32 at fs

  -- and of one that has the entries of a leaf left from number i to before number n, and a path
  pub record FaultlessAt (at p i n : ℕ) (fs : List (ℕ × ℕ)) : Type 0 where
    pub entries : (j : ℕ) → i ≤ j → j < n → EntryStands K V E b (p, j)
    pub path : FaultlessPath 32 at fs

  -- and of one in a phase; of one that is over this never holds
  abbrev pub FaultlessPhase : Phase → ℕ → UnverifiedWalk → Type 0
  FaultlessPhase Descend at w = FaultlessDown at w.path.items
  FaultlessPhase Advance at w = FaultlessAt at w.node w.next w.end w.path.items
  FaultlessPhase Over at w = ⊥

  abbrev pub FaultlessLeft : ℕ → UnverifiedWalk → Type 0
  FaultlessLeft at w = FaultlessPhase w.phase at w
