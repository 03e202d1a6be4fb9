-- What building from a list of all items leaves.
use Rattle.std.proofs.Common.{◌≡◌, ℕ, ◌+◌, ◌<◌, ◌∙◌, List, [], ◌++◌, length, map, take, Bor, Option, None, inr, refl, sym, subst, ap, arith}
use Rattle.std.specs.Iterator.{Yields, YieldsThen, Drains}
use Rattle.std.proofs.lemmas.List.{length-append, length-map, append-nil, nil_from_length}
use Rattle.rkyv_btree_writer.specs.Archiving.{Archival}
use Rattle.rkyv_btree_portable.specs.Kind.{Kind}
use Rattle.rkyv_btree_format.specs.Layout.{layout_of}
use Rattle.rkyv_btree_shape.specs.Plan.{planned_alone}
use Rattle.rkyv_btree_writing_laws.specs.Serialising.{BeginClaimed, Miscounted, BuildFault}
use Rattle.rkyv_btree_writer.specs.Writing.{Writing}
use Rattle.rkyv_btree_writing_laws.specs.Entries.{now_of}
use Rattle.rkyv_btree_writing_laws.specs.Written.{ChildWritten, ChildStopped}
use Rattle.rkyv_btree_writing_laws.proofs.Begun.{untouched}
use Rattle.rkyv_btree_writing_laws.proofs.Building.{some_claimed}
use Rattle.rkyv_btree_writing_laws.proofs.Untold.{uncounted, unordered}
use Rattle.rkyv_btree_writer.specs.declared.fault.Fault.{Fault}
use Rattle.rkyv_btree_writer.specs.declared.fault.Fault.TheVariants.{Length, LengthOverflow, PositionOverflow, OffsetOverflow, Writer, Memory, Entry, OutOfOrder}

-- as many items as claimed are a list of as many entries
all_claimed : {M N : Type 0} (items : List (Bor M × Bor N)) (claim : ℕ) → length items ≡ claim → BeginClaimed now_of items claim (map now_of items)
all_claimed items claim n = record { later = []; parts = sym (append-nil (map now_of items)); count = length-map items now_of ∙ n }

-- and of no other
only_claimed : {M N : Type 0} (items : List (Bor M × Bor N)) (claim : ℕ) → length items ≡ claim → (xs : List (M × N)) → BeginClaimed now_of items claim xs → xs ≡ map now_of items
only_claimed items claim n xs b =
    let none : b.later ≡ [] = nil_from_length b.later (omega (arith, n, b.count, ap length b.parts, length-append (map now_of items) b.later, length-map items now_of)) in
    b.parts ∙ (ap (λ later. map now_of items ++ later) none ∙ append-nil (map now_of items))

module _ {M N R S P : Type 0} (K V : Kind) (E : ℕ) (KA : Archival M R) (VA : Archival N S) (steps : P → Option (Bor M × Bor N) → P → Type 0) where
  -- the iterator gave too few items, and nothing was written
  pub short_of : (iter : P) (claim count : ℕ) (s : Writing) (items : List (Bor M × Bor N)) (end : P) → YieldsThen steps iter items None end → count ≡ length items → length items < claim → Miscounted K V E KA VA now_of steps iter claim claim count s s
  short_of iter claim count s items end then counted short = record {
    items = items;
    all = (end, then);
    differs = λ e. omega (arith, e);
    claimed = refl;
    counted = counted;
    none = λ empty. refl;
    few = λ some less. let xs = some_claimed now_of items claim some (omega arith) in (xs.0, xs.1, untouched (layout_of K V E) KA VA s (planned_alone E xs.0));
    many = λ more. absurd (omega arith);
  }

  -- none were claimed, the iterator gave some, and nothing was written
  pub unclaimed : (iter : P) (claim expected actual : ℕ) (s : Writing) (items : List (Bor M × Bor N)) → claim ≡ 0 → Drains steps iter items → expected ≡ 0 → 0 < actual → actual ≡ 0 + length items → Miscounted K V E KA VA now_of steps iter claim expected actual s s
  unclaimed iter claim expected actual s items zero all none some counted = record {
    items = items;
    all = all;
    differs = λ e. omega (arith, zero, some, counted, e);
    claimed = none ∙ sym zero;
    counted = omega (arith, counted);
    none = λ empty. refl;
    few = λ some less. absurd (omega (arith, zero, less));
    many = λ more. (None, subst (λ n. ChildWritten (layout_of K V E) KA VA s (planned_alone E (map now_of (take n items))) None s) (sym zero) (refl, refl));
  }

  -- of as many items as claimed the list is the only one
  each_stops : {X : Type 0} (claim : ℕ) (s : Writing) (fault : Fault X) (t : Writing) (items : List (Bor M × Bor N)) → length items ≡ claim → ChildStopped (layout_of K V E) KA VA s (planned_alone E (map now_of items)) fault t →
      (xs : List (M × N)) → BeginClaimed now_of items claim xs → ChildStopped (layout_of K V E) KA VA s (planned_alone E xs) fault t
  each_stops {X} claim s fault t items n h xs b = subst (λ (ys : List (M × N)). ChildStopped (layout_of K V E) KA VA {E = X} s (planned_alone E ys) fault t) (sym (only_claimed items claim n xs b)) h

  -- which faults stop the building, and how
  pub refused_of : {X : Type 0} (iter : P) (claim : ℕ) (s : Writing) (fault : Fault X) (t : Writing) (items : List (Bor M × Bor N)) (rest : P) →
      Yields steps iter items rest → length items ≡ claim → ChildStopped (layout_of K V E) KA VA s (planned_alone E (map now_of items)) fault t → BuildFault K V E KA VA now_of steps iter claim s fault t
  refused_of {X} iter claim s (Length m) t items rest y n h = absurd (uncounted X (layout_of K V E) KA VA s (planned_alone E (map now_of items)) t m h)
  refused_of {X} iter claim s LengthOverflow t items rest y n h = inr (record { items = items; rest = rest; taken = y; entries = map now_of items; claimed = all_claimed items claim n; stopped = each_stops {X = X} claim s LengthOverflow t items n h })
  refused_of {X} iter claim s PositionOverflow t items rest y n h = record { items = items; rest = rest; taken = y; entries = map now_of items; claimed = all_claimed items claim n; stopped = each_stops {X = X} claim s PositionOverflow t items n h }
  refused_of {X} iter claim s OffsetOverflow t items rest y n h = record { items = items; rest = rest; taken = y; entries = map now_of items; claimed = all_claimed items claim n; stopped = each_stops {X = X} claim s OffsetOverflow t items n h }
  refused_of {X} iter claim s (Writer error) t items rest y n h = record { items = items; rest = rest; taken = y; entries = map now_of items; claimed = all_claimed items claim n; stopped = each_stops {X = X} claim s (Writer error) t items n h }
  refused_of {X} iter claim s (Memory error) t items rest y n h = inr (record { items = items; rest = rest; taken = y; entries = map now_of items; claimed = all_claimed items claim n; stopped = each_stops {X = X} claim s (Memory error) t items n h })
  refused_of {X} iter claim s (Entry fault) t items rest y n h = record { items = items; rest = rest; taken = y; entries = map now_of items; claimed = all_claimed items claim n; stopped = each_stops {X = X} claim s (Entry fault) t items n h }
  refused_of {X} iter claim s (OutOfOrder index) t items rest y n h = absurd (unordered X (layout_of K V E) KA VA s (planned_alone E (map now_of items)) t index h)
