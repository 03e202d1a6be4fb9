-- Where a range begins and where it stops. These mirror the code, which seeks both places.
use Rattle.std.specs.Prelude.{◌≡◌, ℕ, ◌≤◌, ◌<◌, List, [], ◌∷◌, map, filter, Option, Some, None, Bool, true, false, ◌&&◌, not, if◌then◌else◌}
use Rattle.std.specs.Ordering.{is_le, is_lt}
use Rattle.std.specs.declared.cmp.Ordering.{Ordering}
use Rattle.std.specs.declared.ops.Bound.{Bound}
use Rattle.std.specs.declared.ops.Bound.TheVariants.{Included, Excluded, Unbounded}
use Rattle.rkyv_btree_portable.specs.Kind.{Kind}
use Rattle.rkyv_btree_format.specs.Layout.{NodeLayout, layout_of}
use Rattle.rkyv_btree_format.specs.Read.{entry_at}
use Rattle.rkyv_btree_walk.specs.Bounds.{is_from}
use Rattle.rkyv_btree_walk.specs.Remaining.{take_before}
use Rattle.rkyv_btree_walk.specs.Visit.{or_else}
use Rattle.rkyv_btree_walk.specs.WalkBetween.{IsPlaced}
use Rattle.rkyv_btree_walk.specs.declared.path.Step.{Step}
use Rattle.rkyv_btree_walk.specs.declared.seek.Part.{Part}
use Rattle.rkyv_btree_walk.specs.mirror.Node.{RunStands}
use Rattle.rkyv_btree_walk.specs.mirror.Path.{tree_rest}
use Rattle.rkyv_btree_walk.specs.Paths.{path_rest, range_rest, walk_rest}
use Rattle.rkyv_btree_walk.specs.mirror.Search.{comparison_at}

-- whether a key that compares so reaches the query: it isn't before it, or where `past` is true, it is after it
abbrev pub is_reached : Bool → Ordering → Bool
is_reached past comparison = if past then is_lt comparison else is_le comparison

-- whether an entry reaches the query, by its key
abbrev pub reached_at : (K V : Kind) → ℕ → List ℕ → Bool → (K.Value → Ordering) → ℕ × ℕ → Bool
reached_at K V E b past comparison e = is_reached past (comparison_at K V E b comparison e)

-- the first number from `from` to before `count` that passes the test, or `count`
abbrev pub IsFirst : (ℕ → Bool) → ℕ → ℕ → ℕ → Type 0
IsFirst test from count i = ((k : ℕ) → from ≤ k → k < i → test k ≡ false) × (i < count → test i ≡ true)

-- once a number from `from` to before `count` passes the test, all after it do
abbrev pub Climbs : (ℕ → Bool) → ℕ → ℕ → Type 0
Climbs test from count = (k l : ℕ) → from ≤ k → k < l → l < count → test k ≡ true → test l ≡ true

module _ {X : Type 0} (test : X → Bool) where
  abbrev pub AllPass : List X → Type 0
  AllPass [] = Unit {0}
  AllPass (x ∷ xs) = (test x ≡ true) × AllPass xs

  -- once an entry of the list passes, all after it do
  abbrev pub Rises : List X → Type 0
  Rises [] = Unit {0}
  Rises (x ∷ xs) = (test x ≡ true → AllPass xs) × Rises xs

-- the entries of a list that pass a test are these, where it rises along the list
abbrev pub IsKept : {X : Type 0} → (X → Bool) → List X → List X → Type 0
IsKept test all rest = Rises test all → rest ≡ filter test all

-- whether a key is past a high bound
abbrev pub is_past : {A : Type 0} → Bound (A → Ordering) → A → Bool
is_past Unbounded key = false
is_past (Included comparison) key = is_lt (comparison key)
is_past (Excluded comparison) key = is_le (comparison key)

module _ (K V : Kind) (E : ℕ) (b : List ℕ) (bound : Bound (K.Value → Ordering)) where
  -- whether an entry isn't before a low bound, by its key
  abbrev pub from_at : ℕ × ℕ → Bool
  from_at e = is_from bound (entry_at K V E b e).0

  -- whether it is past a high one
  abbrev pub past_at : ℕ × ℕ → Bool
  past_at e = is_past bound (entry_at K V E b e).0

abbrev pub first_of : {X : Type 0} → List X → Option X
first_of [] = None
first_of (x ∷ xs) = Some x

-- the first entry of a list that passes a test is this, where it rises along the list
abbrev pub IsFound : {X : Type 0} → (X → Bool) → List X → Option X → Type 0
IsFound test all found = Rises test all → found ≡ first_of (filter test all)

-- the same of a list after which another entry may stand
abbrev pub IsFoundOr : {X : Type 0} → (X → Bool) → List X → Option X → Option X → Type 0
IsFoundOr test all other found = Rises test all → found ≡ or_else (first_of (filter test all)) other

-- the entries of a list that pass one test and fail another are these, where both rise along the list
abbrev pub IsMiddle : {X : Type 0} → (X → Bool) → (X → Bool) → List X → List X → Type 0
IsMiddle from past all range = Rises from all → Rises past all → range ≡ filter (λ e. from e && not (past e)) all

-- whether there is a first entry, and it passes the test
abbrev pub first_passes : {X : Type 0} → (X → Bool) → List X → Bool
first_passes test [] = false
first_passes test (x ∷ xs) = test x

module _ (s : NodeLayout) (b : List ℕ) (stop : Option (ℕ × ℕ)) where
  -- a step along a range takes its first entry from the path; or none is left, and none will be
  abbrev pub StepsBefore : Option Step → List (ℕ × ℕ) → List (ℕ × ℕ) → Type 0
  StepsBefore None old new = (take_before stop (path_rest s b 32 old) ≡ []) × (take_before stop (path_rest s b 32 new) ≡ [])
  StepsBefore (Some e) old new = take_before stop (path_rest s b 32 old) ≡ (e.node, e.index) ∷ range_rest s b stop e.leaf.node 0 e.leaf.count new

module _ (s : NodeLayout) (b : List ℕ) (all : List (ℕ × ℕ)) (stop : Option (ℕ × ℕ)) where
  -- a step leaves a walk with a place in the list, or with nothing
  abbrev pub StepIsPlaced : Option Step → List (ℕ × ℕ) → Type 0
  StepIsPlaced None fs = path_rest s b 32 fs ≡ []
  StepIsPlaced (Some e) fs = IsPlaced s b all stop e.leaf.node 0 e.leaf.count fs

module _ (K V : Kind) (E : ℕ) (b : List ℕ) where
  -- the entries of the tree at a root
  abbrev pub tree_list : ℕ → List (ℕ × ℕ)
  tree_list root = tree_rest (layout_of K V E) b 32 root 0

  -- what is left of a leaf's part and the path above it
  abbrev pub part_rest : Part → List (ℕ × ℕ) → List (ℕ × ℕ)
  part_rest part fs = walk_rest (layout_of K V E) b part.node part.next part.end fs

  -- what is left of them in a range
  abbrev pub part_range : Option (ℕ × ℕ) → Part → List (ℕ × ℕ) → List (ℕ × ℕ)
  part_range stop part fs = range_rest (layout_of K V E) b stop part.node part.next part.end fs

  -- what those entries mean
  abbrev pub read_range : Option (ℕ × ℕ) → Part → List (ℕ × ℕ) → List (K.Value × V.Value)
  read_range stop part fs = map (entry_at K V E b) (part_range stop part fs)

  -- the entries of a leaf's part stand
  abbrev pub PartStands : Part → Type 0
  PartStands part = RunStands K V E b part.node part.next part.end
