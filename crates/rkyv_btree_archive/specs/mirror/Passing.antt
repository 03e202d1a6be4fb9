-- What the builder does that takes a tree's entries one by one: the child that comes next, by the levels that it has above the
-- tree's last one, and by the entries of the last level that are still to come.
use Rattle.std.specs.Prelude.{◌≡◌, ℕ, suc, ◌+◌, ◌-◌, ◌*◌, ◌^◌, ◌<◌, ◌≤◌, ◌⊎◌, min, List, [], ◌∷◌, ◌++◌, length, map, Option, None}
use Rattle.std.specs.Iterator.{Yields, YieldsThen}
use Rattle.rkyv_btree_format.specs.Layout.{NodeLayout}
use Rattle.rkyv_btree_shape.specs.Tree.{Child, child_list}
use Rattle.rkyv_btree_shape.specs.mirror.Filled.{Filled, most, IsNext}
use Rattle.rkyv_btree_shape.specs.mirror.Pairs.{pairs_list, FilledPairs}
use Rattle.rkyv_btree_writer.specs.Archiving.{Archival}
use Rattle.rkyv_btree_writer.specs.Writing.{Writing}
use Rattle.rkyv_btree_writer.specs.declared.fault.Fault.{Fault}
use Rattle.rkyv_btree_writer.specs.declared.fault.Fault.TheVariants.{Length}
use Rattle.rkyv_btree_writer.specs.declared.fault.IteratorLengthMismatch.{IteratorLengthMismatch}
use Rattle.rkyv_btree_writing_laws.specs.Begun.{ChildBegun}
use Rattle.rkyv_btree_writing_laws.specs.Written.{ChildWritten, ChildStopped}

module _ {M N R S : Type 0} (s : NodeLayout) (K : Archival M R) (V : Archival N S) where
  -- children are written one after another, each before its entry
  abbrev pub PairsWritten : Writing → List (Child (M × N) × (M × N)) → List (Option ℕ) → Writing → Type 0
  PairsWritten from [] roots to = (roots ≡ []) × (to ≡ from)
  PairsWritten from (p ∷ ps) roots to =
      (root : Option ℕ) × (others : List (Option ℕ)) × (mid : Writing)
      × ChildWritten s K V from p.0 root mid × PairsWritten mid ps others to × (roots ≡ root ∷ others)

module _ {I M N R S P : Type 0} (s : NodeLayout) (K : Archival M R) (V : Archival N S) (borrowed : I → M × N) (steps : P → Option I → P → Type 0) where
  -- it was written of the items that an iterator gave
  pub record NextWritten (g left : ℕ) (iter : P) (from : Writing) (root : Option ℕ) (rest : P) (to : Writing) : Type 0 where
    pub items : List I
    pub tree : Child (M × N)
    pub taken : Yields steps iter items rest
    pub is_next : IsNext s.E g left tree
    pub entries : child_list tree ≡ map borrowed items
    pub written : ChildWritten s K V from tree root to

  -- a row of a child with more than a leaf's levels, as far as its children are written, and their entries have come
  pub record RowTaken (g first left : ℕ) (iter : P) (from : Writing) (xs : List (M × N)) (roots : List (Option ℕ)) (rest : P) (to : Writing) : Type 0 where
    pub items : List I
    pub pairs : List (Child (M × N) × (M × N))
    pub taken : Yields steps iter items rest
    pub filled : FilledPairs (Filled s.E g) (most s.E g) (min first (most s.E (suc g))) pairs
    pub entries : pairs_list pairs ≡ map borrowed items
    pub pair_entries : map (λ p. p.1) pairs ≡ xs
    pub written : PairsWritten s K V from pairs roots to
    pub left_is : left ≡ first - length pairs * most s.E g

  -- its writing was stopped, whatever its later entries are
  pub record NextStopped {X : Type 0} (g left : ℕ) (iter : P) (from : Writing) (fault : Fault X) (to : Writing) : Type 0 where
    pub items : List I
    pub rest : P
    pub taken : Yields steps iter items rest
    pub some : 0 < length items
    pub few : length items + 1 ≤ (s.E + 1) ^ g + min left (most s.E g)
    pub stopped : (c : Child (M × N)) (later : List (M × N)) → IsNext s.E g left c
        → map borrowed items ++ later ≡ child_list c → ChildStopped s K V from c fault to

  -- its items came to an end, at a state of the iterator, and its writing had begun, whatever its later entries would have been
  pub record NextShort (g left : ℕ) (iter : P) (from : Writing) (count : ℕ) (end : P) (to : Writing) : Type 0 where
    pub items : List I
    pub all : YieldsThen steps iter items None end
    pub counted : count ≡ length items
    pub few : length items + 1 < (s.E + 1) ^ g + min left (most s.E g)
    pub none : items ≡ [] → to ≡ from
    pub begun : (c : Child (M × N)) (later : List (M × N)) → IsNext s.E g left c → map borrowed items ++ later ≡ child_list c → ChildBegun s K V from c to

  -- why it isn't written, where so many items had been taken before
  abbrev pub NextFault : {X : Type 0} → ℕ → ℕ → ℕ → ℕ → P → Writing → Fault X → P → Writing → Type 0
  NextFault claim before g left iter from fault end to =
      NextStopped g left iter from fault to
      ⊎ ((m : IteratorLengthMismatch) × (count : ℕ) × (fault ≡ Length m) × (m.expected ≡ claim)
      × (m.actual ≡ before + count) × NextShort g left iter from count end to)

-- ---- the inner nodes that are open, the innermost first: the entries and the children of each that wait
abbrev pub Frame : Type 0 → Type 0
Frame X = List X × List (Option ℕ)

abbrev pub waiting_of : {X : Type 0} → List (Frame X) → List X
waiting_of [] = []
waiting_of (f ∷ fs) = waiting_of fs ++ f.0

abbrev pub children_of : {X : Type 0} → List (Frame X) → List (Option ℕ)
children_of [] = []
children_of (f ∷ fs) = children_of fs ++ f.1

-- how many entries wait before those of each
abbrev pub starts_of : {X : Type 0} → List (Frame X) → List ℕ
starts_of [] = []
starts_of (f ∷ fs) = starts_of fs ++ length (waiting_of fs) ∷ []

module _ {I M N R S P : Type 0} (s : NodeLayout) (K : Archival M R) (V : Archival N S)
    (borrowed : I → M × N) (steps : P → Option I → P → Type 0) (G L : ℕ) (iter0 : P) (from0 : Writing) where
  -- A child with g levels above the last one comes next, of which so many entries are left; so many have come. Each open node
  -- was opened at states of the iterator and the writer. The whole tree has G levels above its last one, which has L entries.
  abbrev pub Opened : List (Frame I) → ℕ → ℕ → ℕ → P → Writing → Type 0
  Opened [] g left taken rest to = (g ≡ G) × (left ≡ L) × (taken ≡ 0) × (rest ≡ iter0) × (to ≡ from0)
  Opened (f ∷ fs) g left taken rest to =
      (first : ℕ) × (before : ℕ) × (iter : P) × (from : Writing) × (r : RowTaken s K V borrowed steps g first left iter from (map borrowed f.0) f.1 rest to)
      × Opened fs (suc g) first before iter from × (1 ≤ first + g) × (length f.0 ≤ s.E) × (taken ≡ before + length r.items)

  -- that child is written
  abbrev pub Done : List (Frame I) → ℕ → ℕ → ℕ → Option ℕ → P → Writing → Type 0
  Done fs g left taken root rest to =
      (first : ℕ) × (before : ℕ) × (iter : P) × (from : Writing) × (w : NextWritten s K V borrowed steps g first iter from root rest to)
      × Opened fs g first before iter from × (left ≡ first - most s.E g) × (taken ≡ before + length w.items)
