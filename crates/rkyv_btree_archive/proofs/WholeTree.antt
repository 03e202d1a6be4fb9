-- The leaf that comes next, and the whole tree.
use Rattle.std.proofs.Common.{◌≡◌, ℕ, ◌+◌, ◌-◌, ◌^◌, ◌<◌, ◌≤◌, min, List, [], ◌∷◌, length, map, Option, Some, None, arith, refl, sym, ap, ◌∙◌, subst, inl, inr, alloc_error}
use Rattle.std.specs.Iterator.{Yields, YieldsThen}
use Rattle.std.proofs.lemmas.List.{length-map}
use Rattle.std.proofs.Math.Nat.{pow-zero}
use Rattle.rkyv_btree_format.specs.Layout.{NodeLayout, layout_of, leaf_size}
use Rattle.rkyv_btree_portable.specs.Kind.{Kind}
use Rattle.rkyv_btree_shape.specs.Tree.{leaf, Child, absent, child, child_list}
use Rattle.rkyv_btree_shape.specs.Logarithm.{ilog}
use Rattle.rkyv_btree_shape.specs.Plan.{plan, child_plan, planned_alone}
use Rattle.rkyv_btree_shape.proofs.Bounds.{pow_one, pow_positive}
use Rattle.rkyv_btree_shape.specs.mirror.Filled.{Filled, most, IsNext, IsLeafOf}
use Rattle.rkyv_btree_shape.proofs.Filled.{count, same}
use Rattle.rkyv_btree_shape.proofs.Planned.{planned}
use Rattle.rkyv_btree_shape.proofs.Smallest.{there_is, plan_is}
use Rattle.rkyv_btree_writer.specs.Archiving.{Archival, BeginsWith}
use Rattle.rkyv_btree_writer.specs.Writing.{Writing}
use Rattle.rkyv_btree_writer.specs.declared.fault.Fault.{Fault}
use Rattle.rkyv_btree_writer.specs.declared.fault.IteratorLengthMismatch.{IteratorLengthMismatch}
use Rattle.rkyv_btree_writer.specs.declared.fault.Fault.TheVariants.{Length, LengthOverflow, PositionOverflow, OffsetOverflow, Writer, Memory, Entry, OutOfOrder}
use Rattle.rkyv_btree_writing_laws.specs.Begun.{ChildBegun}
use Rattle.rkyv_btree_writing_laws.specs.Image.{leaf_image}
use Rattle.rkyv_btree_writing_laws.specs.Kept.{NeverGrows}
use Rattle.rkyv_btree_writing_laws.proofs.Begun.{untouched}
use Rattle.rkyv_btree_writing_laws.proofs.Building.{some_claimed}
use Rattle.rkyv_btree_writing_laws.proofs.Kept.{same_begins, went_begins}
use Rattle.rkyv_btree_writing_laws.specs.Serialising.{BeginClaimed, StoppedBuilding, BuildFault}
use Rattle.rkyv_btree_writing_laws.specs.Written.{NodeWritten, NodeStopped, ChildWritten, ChildStopped}
use Rattle.rkyv_btree_writing_laws.proofs.Untold.{uncounted, unordered, unasked}
use Rattle.rkyv_btree_writing_laws.proofs.TreesKept.{stops_begin, begun_went}
use Rattle.rkyv_btree_archive.specs.mirror.Passing.{NextWritten, NextStopped, NextShort, NextFault}
use Rattle.rkyv_btree_archive.specs.mirror.Ended.{CountsTo, FaultAt}
use Rattle.rkyv_btree_archive.proofs.Ended.{ended_of_fault}
use Rattle.rkyv_btree_archive.proofs.Passing.{next_same}

-- what a leaf takes
pub leaf_count : (E g left n : ℕ) → IsLeafOf E g left n → n + 1 ≡ (E + 1) ^ g + min left (most E g)
leaf_count E g left n (inl h) = rw h.0 (rw pow-zero (omega (arith, h.1)))
leaf_count E g left n (inr h) = rw (h.0, h.1) (omega (arith, pow_one E, h.2))

pub leaf_next : {X : Type 0} (E g left n : ℕ) (xs : List X) → IsLeafOf E g left n → length xs ≡ n → 0 < n → n ≤ E → IsNext E g left (child (leaf xs))
leaf_next {X} E g left n xs (inl h) l some few = subst (λ k. IsNext E k left (child (leaf xs))) (sym h.0) (z (most E 0) (rw pow-zero (omega arith)))
  where
    z : (full : ℕ) → full ≡ E → (length xs ≡ min left full) × (1 ≤ min left full) × (min left full ≤ E)
    z full is = (omega (arith, is, l, h.1), omega (arith, is, h.1), omega (arith, is))
leaf_next {X} E g left n xs (inr h) l some few = subst (λ k. IsNext E k left (child (leaf xs))) (sym h.0) (refl, omega (arith, h.1), omega (arith, l, h.2))

pub none_next : (X : Type 0) (E g left n : ℕ) → 1 ≤ E → IsLeafOf E g left n → n ≡ 0 → IsNext {X = X} E g left absent
none_next X E g left n some (inl h) none = subst (λ k. IsNext {X = X} E k left absent) (sym h.0) (z (most E 0) (rw pow-zero (omega arith)))
  where
    z : (full : ℕ) → full ≡ E → min left full ≡ 0
    z full is = omega (arith, is, h.1, none)
none_next X E g left n some (inr h) none = absurd (omega (arith, h.2, none, some))

-- what is left after a leaf
pub leaf_left : (E g left n left2 : ℕ) → IsLeafOf E g left n → left2 ≡ left - E → left2 ≡ left - most E g
leaf_left E g left n left2 (inl h) is = let z : most E 0 ≡ E = rw pow-zero (omega arith) in subst (λ k. left2 ≡ left - most E k) (sym h.0) (omega (arith, z, is))
leaf_left E g left n left2 (inr h) is = omega (arith, h.1, is)

module _ {I M N R S P : Type 0} (s : NodeLayout) (K : Archival M R) (V : Archival N S) (borrowed : I → M × N) (steps : P → Option I → P → Type 0) where
  pub next_absent : (g left n : ℕ) (iter : P) (from : Writing) → 1 ≤ s.E → IsLeafOf s.E g left n → n ≡ 0 → NextWritten s K V borrowed steps g left iter from None iter from
  next_absent g left n iter from some is none = record { items = []; tree = absent; taken = refl; is_next = none_next (M × N) s.E g left n some is none; entries = refl; written = (refl, refl) }

  pub next_leaf : (g left n : ℕ) (iter : P) (from : Writing) (items : List I) (rest : P) (root : ℕ) (to : Writing) → IsLeafOf s.E g left n → 0 < n → n ≤ s.E → Yields steps iter items rest → length items ≡ n → NodeWritten s K V (leaf_image s) (leaf_size s) from (map borrowed items) root to → NextWritten s K V borrowed steps g left iter from (Some root) rest to
  next_leaf g left n iter from items rest root to is some few y l w = record { items = items; tree = child (leaf (map borrowed items)); taken = y; is_next = leaf_next s.E g left n (map borrowed items) is (length-map items borrowed ∙ l) some few; entries = refl; written = (root, w, refl) }

  pub next_leaf_stopped : {X : Type 0} (g left n : ℕ) (iter : P) (from : Writing) (items : List I) (rest : P) (fault : Fault X) (to : Writing) → IsLeafOf s.E g left n → 0 < n → n ≤ s.E → Yields steps iter items rest → length items ≡ n → NodeStopped s K V {E = X} (leaf_image s) (leaf_size s) from (map borrowed items) fault to → NextStopped s K V borrowed steps g left iter from fault to
  next_leaf_stopped {X} g left n iter from items rest fault to is some few y l h = record {
    items = items;
    rest = rest;
    taken = y;
    some = omega (arith, l);
    few = omega (arith, l, leaf_count s.E g left n is);
    stopped = λ c later next e. subst (λ (z : Child (M × N)). ChildStopped s K V {E = X} from z fault to) (next_same s K V borrowed steps g left (child (leaf (map borrowed items))) c later (leaf_next s.E g left n (map borrowed items) is (length-map items borrowed ∙ l) some few) next e) h;
  }

  pub next_leaf_short : (g left n : ℕ) (iter : P) (from : Writing) (items : List I) (end : P) → IsLeafOf s.E g left n → YieldsThen steps iter items None end → length items < n → NextShort s K V borrowed steps g left iter from (length items) end from
  next_leaf_short g left n iter from items end is d few = record {
    items = items;
    all = d;
    counted = refl;
    few = omega (arith, few, leaf_count s.E g left n is);
    none = λ empty. refl;
    begun = λ c later next e. untouched s K V from c;
  }

-- what is known of a claim
pub record IsClaim (E G L claim : ℕ) : Type 0 where
  pub some : 1 ≤ E
  pub levels : G ≡ ilog (E + 1) claim
  pub all : (E + 1) ^ G + L ≡ claim + 1
  pub last : 1 ≤ L
  pub most_last : L ≤ most E G

module _ (E G L claim : ℕ) (is : IsClaim E G L claim) where
  alone_is : {X : Type 0} (xs : List X) → 0 < length xs → planned_alone E xs ≡ child (plan E xs)
  alone_is [] h = absurd (omega arith)
  alone_is (x ∷ xs) h = refl

  -- the planned tree of as many entries
  pub planned_is : {X : Type 0} (xs : List X) → length xs ≡ claim → (planned_alone E xs ≡ child_plan E G xs) × Filled E G L (child_plan E G xs) × (child_list (child_plan E G xs) ≡ xs)
  planned_is xs n =
      let p = planned E is.some G L xs (omega (arith, n, is.all)) is.most_last in
      let one : 0 < length xs = omega (arith, n, is.all, is.last, pow_positive E G) in
      let there = there_is (child_plan E G xs) (rw p.1 one) in
      (alone_is xs one ∙ (ap child (plan_is E G xs (ap (λ k. ilog (E + 1) k) n ∙ sym is.levels)) ∙ sym there), p.0, p.1)

  capped_is : L ≡ min L (most E G)
  capped_is = omega (arith, is.most_last)

  pub planned_next : {X : Type 0} (xs : List X) → length xs ≡ claim → IsNext E G L (planned_alone E xs) × (child_list (planned_alone E xs) ≡ xs)
  planned_next xs n = let p = planned_is xs n in rw p.0 (subst (λ k. Filled E G k (child_plan E G xs)) capped_is p.1, p.2)

  -- the tree of as many entries is the planned one
  pub next_planned : {X : Type 0} (c : Child X) → IsNext E G L c → (length (child_list c) ≡ claim) × (c ≡ planned_alone E (child_list c))
  next_planned c next =
      let n = count E G (min L (most E G)) c next in
      let all : length (child_list c) ≡ claim = omega (arith, n, is.all, is.most_last) in
      let p = planned_next (child_list c) all in
      (all, same E G (min L (most E G)) c (planned_alone E (child_list c)) next p.0 (sym p.1))

module _ {I M N R S P : Type 0} (K V : Kind) (E : ℕ) (KA : Archival M R) (VA : Archival N S) (borrowed : I → M × N) (steps : P → Option I → P → Type 0) (G L claim : ℕ) (is : IsClaim E G L claim) where
  -- what was built
  pub whole_written : (iter : P) (from : Writing) (root : Option ℕ) (rest : P) (to : Writing) → (w : NextWritten (layout_of K V E) KA VA borrowed steps G L iter from root rest to) → (length w.items ≡ claim) × ChildWritten (layout_of K V E) KA VA from (planned_alone E (map borrowed w.items)) root to
  whole_written iter from root rest to w =
      let p = next_planned E G L claim is w.tree w.is_next in (
        omega (arith, p.0, ap length w.entries, length-map w.items borrowed),
        subst (λ (z : Child (M × N)). ChildWritten (layout_of K V E) KA VA from z root to) (p.1 ∙ ap (planned_alone E) w.entries) w.written,
      )

  -- each planned tree is stopped
  pub each_stopped : {X : Type 0} (iter : P) (from : Writing) (fault : Fault X) (to : Writing) → (h : NextStopped (layout_of K V E) KA VA borrowed steps G L iter from fault to) → (xs : List (M × N)) → BeginClaimed borrowed h.items claim xs → ChildStopped (layout_of K V E) KA VA from (planned_alone E xs) fault to
  each_stopped iter from fault to h xs b = let p = planned_next E G L claim is xs b.count in h.stopped (planned_alone E xs) b.later p.0 (sym b.parts ∙ sym p.1)

  pub each_begun : (iter : P) (from : Writing) (count : ℕ) (end : P) (to : Writing) → (h : NextShort (layout_of K V E) KA VA borrowed steps G L iter from count end to) → (xs : List (M × N)) → BeginClaimed borrowed h.items claim xs → ChildBegun (layout_of K V E) KA VA from (planned_alone E xs) to
  each_begun iter from count end to h xs b = let p = planned_next E G L claim is xs b.count in h.begun (planned_alone E xs) b.later p.0 (sym b.parts ∙ sym p.1)

  stopped_few : {X : Type 0} (iter : P) (from : Writing) (fault : Fault X) (to : Writing) → (h : NextStopped (layout_of K V E) KA VA borrowed steps G L iter from fault to) → length h.items ≤ claim
  stopped_few iter from fault to h = omega (arith, h.few, is.all, is.most_last)

  -- one of them
  pub some_stopped : {X : Type 0} (iter : P) (from : Writing) (fault : Fault X) (to : Writing) → NextStopped (layout_of K V E) KA VA borrowed steps G L iter from fault to → (xs : List (M × N)) × ChildStopped (layout_of K V E) KA VA from (planned_alone E xs) fault to
  some_stopped iter from fault to h = let one = some_claimed borrowed h.items claim h.some (stopped_few iter from fault to h) in (one.0, each_stopped iter from fault to h one.0 one.1)

  stopped_of : {X : Type 0} (iter : P) (from : Writing) (fault : Fault X) (to : Writing) → NextStopped (layout_of K V E) KA VA borrowed steps G L iter from fault to → StoppedBuilding K V E KA VA borrowed steps {X = X} iter claim from fault to
  stopped_of iter from fault to h = let one = some_claimed borrowed h.items claim h.some (stopped_few iter from fault to h) in record { items = h.items; rest = h.rest; taken = h.taken; entries = one.0; claimed = one.1; stopped = each_stopped iter from fault to h }

  stopped_fault : {X : Type 0} (iter : P) (from : Writing) (fault : Fault X) (to : Writing) → NextStopped (layout_of K V E) KA VA borrowed steps G L iter from fault to → BuildFault K V E KA VA borrowed steps iter claim from fault to
  stopped_fault {X} iter from (Length m) to h = let one = some_stopped {X = X} iter from (Length m) to h in absurd (uncounted X (layout_of K V E) KA VA from (planned_alone E one.0) to m one.1)
  stopped_fault {X} iter from LengthOverflow to h = inr (stopped_of {X = X} iter from LengthOverflow to h)
  stopped_fault {X} iter from PositionOverflow to h = stopped_of {X = X} iter from PositionOverflow to h
  stopped_fault {X} iter from OffsetOverflow to h = stopped_of {X = X} iter from OffsetOverflow to h
  stopped_fault iter from (Writer error) to h = stopped_of iter from (Writer error) to h
  stopped_fault {X} iter from (Memory error) to h = inr (stopped_of {X = X} iter from (Memory error) to h)
  stopped_fault {X} iter from (Entry fault) to h = stopped_of {X = X} iter from (Entry fault) to h
  stopped_fault {X} iter from (OutOfOrder index) to h = let one = some_stopped {X = X} iter from (OutOfOrder index) to h in absurd (unordered X (layout_of K V E) KA VA from (planned_alone E one.0) to index one.1)

  short_fault : (iter : P) (from : Writing) (number : ℕ) (end : P) (to : Writing) → NextShort (layout_of K V E) KA VA borrowed steps G L iter from number end to → CountsTo K V E KA VA borrowed steps iter end claim claim number from to
  short_fault iter from number end to h =
      let less : length h.items < claim = omega (arith, h.few, is.all, is.most_last) in (
        record {
          items = h.items;
          all = (end, h.all);
          differs = λ e. omega (arith, e, less);
          claimed = refl;
          counted = h.counted;
          none = h.none;
          few = λ some few. let one = some_claimed borrowed h.items claim some (omega (arith, less)) in (one.0, one.1, each_begun iter from number end to h one.0 one.1);
          many = λ more. absurd (omega (arith, more, less));
        },
        refl,
      )

  stopped_uncounted : {X : Type 0} (iter : P) (from : Writing) (fault : Fault X) (to : Writing) (m : IteratorLengthMismatch) → fault ≡ Length m → NextStopped (layout_of K V E) KA VA borrowed steps G L iter from fault to → ⊥
  stopped_uncounted {X} iter from fault to m e h =
      let one = some_stopped iter from fault to h in
      uncounted X (layout_of K V E) KA VA from (planned_alone E one.0) to m (subst (λ (f : Fault X). ChildStopped (layout_of K V E) KA VA from (planned_alone E one.0) f to) e one.1)

  -- why the whole tree isn't built
  pub whole_fault : {X : Type 0} (iter : P) (from : Writing) (fault : Fault X) (end : P) (to : Writing) → NextFault (layout_of K V E) KA VA borrowed steps claim 0 G L iter from fault end to → FaultAt K V E KA VA borrowed steps iter claim from fault end to
  whole_fault iter from fault end to (inl h) = ended_of_fault K V E KA VA borrowed steps iter claim from fault end to (λ m e. stopped_uncounted iter from fault to m e h) (stopped_fault iter from fault to h)
  whole_fault {X} iter from fault end to (inr h) =
      let m = h.0 in
      let short = short_fault iter from h.1 end to h.5 in
      let expected : claim ≡ m.expected = sym h.3 in
      let actual : h.1 ≡ m.actual = omega (arith, h.4) in
      let a = subst (λ k. CountsTo K V E KA VA borrowed steps iter end claim k h.1 from to) expected short in
      let b = subst (λ k. CountsTo K V E KA VA borrowed steps iter end claim m.expected k from to) actual a in
      subst (λ f. FaultAt K V E KA VA borrowed steps iter claim from f end to) (sym h.2) b

  -- ---- what it leaves
  pub whole_memory : (X : Type 0) (iter : P) (from : Writing) (fault : Fault X) (end : P) (to : Writing) → fault ≡ Memory alloc_error → NeverGrows KA → NeverGrows VA → NextFault (layout_of K V E) KA VA borrowed steps claim 0 G L iter from fault end to → to ≡ from
  whole_memory X iter from fault end to e k v (inl h) = let one = some_stopped iter from fault to h in unasked X (layout_of K V E) KA VA from (planned_alone E one.0) to fault e k v one.1
  whole_memory X iter from fault end to e k v (inr h) = absurd (cc (e, h.2))

module _ {I M N R S P : Type 0} (K V : Kind) (E : ℕ) (KA : Archival M R) (VA : Archival N S) (borrowed : I → M × N) (steps : P → Option I → P → Type 0) (G L claim : ℕ) (is : IsClaim E G L claim) where
  short_kept : (iter : P) (from : Writing) (number : ℕ) (end : P) (to : Writing) → (h : NextShort (layout_of K V E) KA VA borrowed steps G L iter from number end to) → (items : List I) → h.items ≡ items → BeginsWith to from
  short_kept iter from number end to h [] e = same_begins from to (h.none e)
  short_kept iter from number end to h (x ∷ items) e =
      let one = some_claimed borrowed h.items claim (omega (arith, ap length e)) (omega (arith, h.few, is.all, is.most_last)) in
      went_begins from to (begun_went (layout_of K V E) KA VA from (planned_alone E one.0) to (each_begun K V E KA VA borrowed steps G L claim is iter from number end to h one.0 one.1))

  pub whole_kept : {X : Type 0} (iter : P) (from : Writing) (fault : Fault X) (end : P) (to : Writing) → NextFault (layout_of K V E) KA VA borrowed steps claim 0 G L iter from fault end to → BeginsWith to from
  whole_kept iter from fault end to (inl h) = let one = some_stopped K V E KA VA borrowed steps G L claim is iter from fault to h in stops_begin (layout_of K V E) KA VA from (planned_alone E one.0) fault to one.1
  whole_kept iter from fault end to (inr h) = short_kept iter from h.1 end to h.5 h.5.items refl
