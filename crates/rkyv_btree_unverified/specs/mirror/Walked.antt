-- Where a walk in bytes that nobody has validated is, and how many entries and nodes it has left. This mirrors the code.
use Rattle.std.specs.Prelude.{◌≡◌, ◌≢◌, ℕ, zero, suc, ◌+◌, ◌-◌, ◌*◌, ◌≤◌, ◌<◌, List, [], ◌∷◌, ◌++◌, length, Option, Some, None, Result, Ok, Err}
use Rattle.rkyv_btree_portable.specs.Bytes.{number_at}
use Rattle.rkyv_btree_portable.specs.Kind.{Kind}
use Rattle.rkyv_btree_format.specs.Layout.{NodeLayout, layout_of, leaf_size, inner_size, len_at}
use Rattle.rkyv_btree_format.specs.Read.{map_tree}
use Rattle.rkyv_btree_portable.specs.declared.refusal.Refusal.{Refusal}
use Rattle.rkyv_btree_portable.specs.Refusing.{HasPlace}
use Rattle.rkyv_btree_format.specs.Spells.{IsNodeAt}
use Rattle.rkyv_btree_shape.specs.Tree.{list}
use Rattle.rkyv_btree_unverified.specs.Left.{left_of, most_of}
use Rattle.rkyv_btree_unverified.specs.Steps.{HasRoom}
use Rattle.rkyv_btree_unverified.specs.Walks.{IsReachedEntry, Fails}
use Rattle.rkyv_btree_unverified.specs.declared.walk.Phase.{Phase}
use Rattle.rkyv_btree_unverified.specs.declared.walk.Phase.TheVariants.{Descend, Advance, Over}
use Rattle.rkyv_btree_unverified.specs.declared.walk.UnverifiedWalk.{UnverifiedWalk}
use Rattle.rkyv_btree_unverified.specs.mirror.Faultless.{FaultlessTree, FaultlessPending, FaultlessPath, FaultlessDown, FaultlessAt, FaultlessLeft}
use Rattle.rkyv_btree_view.specs.Map.{IsMap}
use Rattle.rkyv_btree_walk.specs.declared.path.Leaf.{Leaf}
use Rattle.rkyv_btree_walk.specs.Below.{root_place}
use Rattle.rkyv_btree_walk.specs.Nodes.{child_place}
use Rattle.rkyv_btree_walk.specs.mirror.Node.{EntryStands}
use Rattle.rkyv_btree_walk.specs.Paths.{child_list, path_rest, walk_rest}

-- how many entries of the path's own nodes are left
abbrev pub path_entries : ℕ → List (ℕ × ℕ) → ℕ
path_entries E [] = 0
path_entries E (f ∷ fs) = path_entries E fs + (E - f.1)

-- what stands before the node to which a path leads, if this stands before its first one
abbrev pub chain_before : ℕ → List (ℕ × ℕ) → ℕ
chain_before hi [] = hi
chain_before hi (f ∷ fs) = chain_before f.0 fs

-- how many nodes there are in a child's tree, if there is one
abbrev pub child_nodes : (ℕ → ℕ) → Option ℕ → ℕ
child_nodes below None = 0
child_nodes below (Some q) = below q

module _ (s : NodeLayout) (b : List ℕ) where
  -- the node to which a path leads, if this is its first one
  abbrev pub chain_end : Option ℕ → List (ℕ × ℕ) → Option ℕ
  chain_end to [] = to
  chain_end to (f ∷ fs) = chain_end (child_place s b f.0 f.1) fs

  -- what is left of a walk that goes down from where its path leads: the entries there, and those of the path
  abbrev pub down_rest : ℕ → List (ℕ × ℕ) → List (ℕ × ℕ)
  down_rest at fs = child_list s b (32 - length fs) (chain_end (root_place b at) fs) ++ path_rest s b 32 fs

  -- the places of the entries that are left of a walk along the map at a position
  abbrev pub places_at : Phase → ℕ → UnverifiedWalk → List (ℕ × ℕ)
  places_at Descend at w = down_rest at w.path.items
  places_at Advance at w = walk_rest s b w.node w.next w.end w.path.items
  places_at Over at w = []

  abbrev pub unverified_left : ℕ → UnverifiedWalk → List (ℕ × ℕ)
  unverified_left at w = places_at w.phase at w

  -- each node of a path is the child of the one before it that has that one's number
  abbrev pub IsChain : ℕ → Option ℕ → List (ℕ × ℕ) → Type 0
  IsChain hi to [] = Unit {0}
  IsChain hi to (f ∷ fs) = (to ≡ Some f.0) × IsNodeAt s b 0 hi f.0 1 (inner_size s) × (f.1 ≤ s.E) × IsChain f.0 (child_place s b f.0 f.1) fs

  -- a path of inner nodes from the root of the map at a position on
  pub record IsWay (at : ℕ) (fs : List (ℕ × ℕ)) : Type 0 where
    pub levels : length fs ≤ 32
    pub placed : 0 < length fs → HasPlace b 8 4 at
    pub chain : IsChain at (root_place b at) fs

  -- the entries that are left of a leaf, if there are any, are of the leaf to which the path leads
  pub record IsLeafRun (at : ℕ) (fs : List (ℕ × ℕ)) (p n : ℕ) : Type 0 where
    pub placed : HasPlace b 8 4 at
    pub leads : chain_end (root_place b at) fs ≡ Some p
    pub node : IsNodeAt s b 0 (chain_before at fs) p 0 (leaf_size s)
    pub count : n ≡ number_at b (p + len_at s) 4
    pub few : n ≤ s.E

  -- and in those of n children of the node at p, from number i on
  abbrev pub children_nodes : (ℕ → ℕ) → ℕ → ℕ → ℕ → ℕ
  children_nodes below p zero i = 0
  children_nodes below p (suc n) i = child_nodes below (child_place s b p i) + children_nodes below p n (i + 1)

  -- how many nodes the tree at p has, of at most so many levels
  unfoldable pub tree_nodes : ℕ → ℕ → ℕ
  tree_nodes zero p = 0
  tree_nodes (suc levels) p = suc (children_nodes (tree_nodes levels) p (suc s.E) 0)

  -- how many there are after entry i of the node at p, with so many levels below it
  unfoldable pub rest_nodes : ℕ → ℕ → ℕ → ℕ
  rest_nodes levels p i = children_nodes (tree_nodes levels) p (s.E - i) (i + 1)

  -- how many are left of a path
  abbrev pub path_nodes : ℕ → List (ℕ × ℕ) → ℕ
  path_nodes levels [] = 0
  path_nodes zero (f ∷ fs) = 0
  path_nodes (suc levels) (f ∷ fs) = path_nodes levels fs + rest_nodes levels f.0 f.1

  -- and of a walk that goes down from where the path leads
  abbrev pub down_nodes : ℕ → List (ℕ × ℕ) → ℕ
  down_nodes at fs = child_nodes (tree_nodes (32 - length fs)) (chain_end (root_place b at) fs) + path_nodes 32 fs

-- an upper bound of the number of entries that a walk still lends
abbrev pub most_at : ℕ → Phase → UnverifiedWalk → ℕ
most_at E Descend w = E * w.nodes + path_entries E w.path.items
most_at E Advance w = E * w.nodes + path_entries E w.path.items + (w.end - w.next)
most_at E Over w = 0

abbrev pub walk_most : ℕ → UnverifiedWalk → ℕ
walk_most E w = most_at E w.phase w

module _ (K V : Kind) (E : ℕ) (b : List ℕ) where
  -- if the bytes at a position are a map, this holds
  abbrev pub OnMaps : ℕ → Type 0 → Type 0
  OnMaps at Holds = (m : List (K.Value × V.Value)) → IsMap K V E b at m → Holds

  -- in a map, no more nodes are left than may be read
  abbrev pub FewLeft : ℕ → List (ℕ × ℕ) → ℕ → Type 0
  FewLeft at fs nodes = OnMaps at (down_nodes (layout_of K V E) b at fs ≤ nodes)

  -- what a walk has before it takes an entry of a leaf, or of the path
  pub record HasLeaf (at : ℕ) (w : UnverifiedWalk) : Type 0 where
    pub way : IsWay (layout_of K V E) b at w.path.items
    pub run : w.next < w.end → IsLeafRun (layout_of K V E) b at w.path.items w.node w.end
    pub few : OnMaps at (path_nodes (layout_of K V E) b 32 w.path.items ≤ w.nodes)

  -- and before it goes down
  pub record HasPath (at : ℕ) (w : UnverifiedWalk) : Type 0 where
    pub way : IsWay (layout_of K V E) b at w.path.items
    pub few : FewLeft at w.path.items w.nodes

  abbrev pub HasPhase : Phase → ℕ → UnverifiedWalk → Type 0
  HasPhase Descend at w = HasPath at w
  HasPhase Advance at w = HasLeaf at w
  HasPhase Over at w = Unit {0}

  -- it is a walk along the map at a position
  abbrev pub IsUnverifiedWalk : ℕ → UnverifiedWalk → Type 0
  IsUnverifiedWalk at w = HasPhase w.phase at w

  -- and no more entries are left than the nodes of the buffer can have beside those that it has lent
  pub record IsCounted (at : ℕ) (w : UnverifiedWalk) : Type 0 where
    pub walks : IsUnverifiedWalk at w
    pub most : walk_most E w ≤ most_of K V E b w

  -- the places of all entries to which the pointers lead
  abbrev pub places_of : ℕ → List (ℕ × ℕ)
  places_of at = list (map_tree (layout_of K V E) b at)

  -- of a list of places it has those left that it hasn't taken
  abbrev pub HasLeft : ℕ → UnverifiedWalk → List (ℕ × ℕ) → Type 0
  HasLeft at w all = unverified_left (layout_of K V E) b at w ≡ left_of w all

  abbrev pub HasAt : ℕ → UnverifiedWalk → Type 0
  HasAt at w = HasLeaf at w × (w.phase ≡ Advance)

  -- a path leads to the node at p, which has room before hi
  pub record LeadsTo (at : ℕ) (fs : List (ℕ × ℕ)) (p hi : ℕ) : Type 0 where
    pub placed : HasPlace b 8 4 at
    pub leads : chain_end (layout_of K V E) b (root_place b at) fs ≡ Some p
    pub before : hi ≡ chain_before at fs
    pub room : HasRoom K V E hi p

  -- and where its tree is good, so is all to which the path leads
  pub record LeadsOn (at : ℕ) (fs : List (ℕ × ℕ)) (p hi : ℕ) : Type 0 where
    pub to : LeadsTo at fs p hi
    pub faultless : FaultlessTree K V E b (32 - length fs) hi p → FaultlessPending K V E b at fs

  -- a path leads to no node
  pub record LeadsNowhere (at : ℕ) (fs : List (ℕ × ℕ)) : Type 0 where
    pub leads : chain_end (layout_of K V E) b (root_place b at) fs ≡ None
    pub faultless : FaultlessPending K V E b at fs

  -- the leaf to which a walk goes down from where a path leads, with the path and the number of nodes before and after
  pub record LeafFound (at : ℕ) (old : List (ℕ × ℕ)) (before : ℕ) (new : List (ℕ × ℕ)) (after : ℕ) (leaf : Leaf) : Type 0 where
    pub way : IsWay (layout_of K V E) b at new
    pub run : 0 < leaf.count → IsLeafRun (layout_of K V E) b at new leaf.node leaf.count
    pub most : E * after + path_entries E new + leaf.count ≤ E * before + path_entries E old
    pub rest : walk_rest (layout_of K V E) b leaf.node 0 leaf.count new ≡ down_rest (layout_of K V E) b at old
    pub few : OnMaps at (path_nodes (layout_of K V E) b 32 new ≤ after)
    pub faultless : FaultlessAt K V E b at leaf.node 0 leaf.count new → FaultlessDown K V E b at old

  -- an entry that is taken is valid
  pub record IsTaken (at : ℕ) (e : ℕ × ℕ) : Type 0 where
    pub reached : IsReachedEntry K V E b at e
    pub stands : EntryStands K V E b e
    pub short : length b ≤ 4294967295
    pub inside : e.0 + leaf_size (layout_of K V E) ≤ length b
    pub within : e.1 < E

  -- the first entry is taken of a path
  pub record IsClimbed (at : ℕ) (old new : List (ℕ × ℕ)) (e : ℕ × ℕ) : Type 0 where
    pub way : IsWay (layout_of K V E) b at new
    pub taken : IsTaken at e
    pub less : path_entries E new < path_entries E old
    pub rest : path_rest (layout_of K V E) b 32 old ≡ e ∷ down_rest (layout_of K V E) b at new
    pub few : OnMaps at (down_nodes (layout_of K V E) b at new ≤ path_nodes (layout_of K V E) b 32 old)
    pub faultless : FaultlessDown K V E b at new → FaultlessPath K V E b 32 at old

  -- none is left of a path
  pub record HasClimbed (at : ℕ) (old : List (ℕ × ℕ)) : Type 0 where
    pub rest : path_rest (layout_of K V E) b 32 old ≡ []
    pub faultless : FaultlessPath K V E b 32 at old

  -- a walk goes down to a leaf, and has all entries that it had
  pub record GoesDown (at : ℕ) (old new : UnverifiedWalk) : Type 0 where
    pub has : HasLeaf at new
    pub phase : new.phase ≡ Advance
    pub most : walk_most E new ≤ most_at E Descend old
    pub taken : new.taken ≡ old.taken
    pub rest : unverified_left (layout_of K V E) b at new ≡ down_rest (layout_of K V E) b at old.path.items
    pub faultless : FaultlessLeft K V E b at new → FaultlessDown K V E b at old.path.items

  -- a walk comes to its end
  pub record Finishes (at : ℕ) (old new : UnverifiedWalk) : Type 0 where
    pub over : new.phase ≡ Over
    pub none : unverified_left (layout_of K V E) b at old ≡ []
    pub faultless : old.phase ≢ Over → FaultlessLeft K V E b at old

  -- it takes an entry
  pub record TakesEntry (at : ℕ) (old new : UnverifiedWalk) (e : ℕ × ℕ) : Type 0 where
    pub taken : IsTaken at e
    pub more : new.taken ≡ old.taken + 1
    pub less : walk_most E new < walk_most E old
    pub rest : unverified_left (layout_of K V E) b at old ≡ e ∷ unverified_left (layout_of K V E) b at new
    pub goes_on : new.phase ≢ Over
    pub faultless : FaultlessLeft K V E b at new → FaultlessLeft K V E b at old

  module _ (KR VR : List ℕ → ℕ → ℕ → ℕ → Refusal → Type 0) where
    -- where a path leads
    abbrev pub PendingGives : ℕ → List (ℕ × ℕ) → Result (Option (ℕ × ℕ)) Refusal → Type 0
    PendingGives at fs (Err r) = Fails K V E b KR VR at r
    PendingGives at fs (Ok None) = LeadsNowhere at fs
    PendingGives at fs (Ok (Some e)) = LeadsOn at fs e.0 e.1

    abbrev pub LeafGives : ℕ → List (ℕ × ℕ) → ℕ → List (ℕ × ℕ) → ℕ → Result Leaf Refusal → Type 0
    LeafGives at old before new after (Err r) = Fails K V E b KR VR at r
    LeafGives at old before new after (Ok leaf) = LeafFound at old before new after leaf

    abbrev pub Climbs : ℕ → List (ℕ × ℕ) → List (ℕ × ℕ) → Result (Option (ℕ × ℕ)) Refusal → Type 0
    Climbs at old new (Err r) = Fails K V E b KR VR at r
    Climbs at old new (Ok None) = HasClimbed at old
    Climbs at old new (Ok (Some e)) = IsClimbed at old new e

    -- a walk that wasn't over fails, and is over
    pub record Stops (at : ℕ) (old new : UnverifiedWalk) (r : Refusal) : Type 0 where
      pub fails : Fails K V E b KR VR at r
      pub begun : old.phase ≢ Over
      pub over : new.phase ≡ Over

    abbrev pub Comes : ℕ → UnverifiedWalk → UnverifiedWalk → Result (Unit {0}) Refusal → Type 0
    Comes at old new (Err r) = Fails K V E b KR VR at r × (new.phase ≡ Over)
    Comes at old new (Ok x) = GoesDown at old new

    abbrev pub Stepped : ℕ → UnverifiedWalk → UnverifiedWalk → Result (Option (ℕ × ℕ)) Refusal → Type 0
    Stepped at old new (Err r) = Stops at old new r
    Stepped at old new (Ok None) = Finishes at old new
    Stepped at old new (Ok (Some e)) = TakesEntry at old new e
