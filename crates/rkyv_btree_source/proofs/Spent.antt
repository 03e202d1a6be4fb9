-- What reads of at most `end` bytes leave of a budget.
use Rattle.std.proofs.Common.{◌≡◌, ℕ, ◌+◌, ◌*◌, ◌≤◌, ◌-◌, arith}
use Rattle.std.proofs.Math.Nat.{mul-le-mul_left, mul-le-mul_right}
use Rattle.rkyv_btree_source.specs.LastEntry.{most_for_last}
use Rattle.rkyv_btree_source.specs.Reading.{most_read}

pub times_more : (n c : ℕ) → (n + 1) * c ≡ n * c + c
times_more n c = grind arith

-- one read after i of them, where there are at most n
pub spent_more : (old mid left end i n : ℕ) → old ≤ mid + i * end → mid ≤ left + end → i + 1 ≤ n → old ≤ left + n * end
spent_more old mid left end i n before here few = omega (arith, before, here, times_more i end, mul-le-mul_right end few)

-- no further one
pub spent_rest : (old left end i n : ℕ) → old ≤ left + i * end → i ≤ n → old ≤ left + n * end
spent_rest old left end i n before few = omega (arith, before, mul-le-mul_right end few)

-- a node, and then its keys and a value
pub spent_node : (old mid left len here hi E : ℕ) → old ≤ mid + len → mid ≤ left + (E + 1) * here → len ≤ hi → here ≤ hi → old ≤ left + (E + 2) * hi
spent_node old mid left len here hi E read keys le near =
    let count : (E + 2) * hi ≡ (E + 1) * hi + hi = grind arith in
    omega (arith, read, keys, le, count, mul-le-mul_left (E + 1) near)

-- a level of so many
pub spent_level : (old mid left levels n end hi all : ℕ) → old + levels * (n * hi) ≤ mid + all → mid ≤ left + n * end → ¬ (levels ≡ 0) → end ≤ hi → old + (levels - 1) * (n * hi) ≤ left + all
spent_level old mid left levels n end hi all before here some near =
    let same : (levels - 1 + 1) ≡ levels = omega arith in
    let count : levels * (n * hi) ≡ (levels - 1) * (n * hi) + n * hi = rw same at (times_more (levels - 1) (n * hi)) in
    omega (arith, before, here, count, mul-le-mul_left n near)

-- the last one
pub spent_first : (old mid left levels n end hi all : ℕ) → old + levels * (n * hi) ≤ mid + all → mid ≤ left + n * end → ¬ (levels ≡ 0) → end ≤ hi → old ≤ left + all
spent_first old mid left levels n end hi all before here some near = let level = spent_level old mid left levels n end hi all before here some near in omega (arith, level)

most_is : (n c : ℕ) → (32 * n + 1) * c ≡ 32 * (n * c) + c
most_is n c = grind arith

-- the map's own bytes and the tree
pub spent_lookup : (E old mid left pos : ℕ) → old ≤ mid + 8 → mid ≤ left + 32 * ((E + 2) * pos) → old ≤ left + most_read E (pos + 8)
unfolding most_read
spent_lookup E old mid left pos head tree =
    let near : pos ≤ pos + 8 = omega arith in
    omega (arith, head, tree, most_is (E + 2) (pos + 8), mul-le-mul_left (E + 2) near)

pub spent_head : (E old left pos : ℕ) → old ≤ left + 8 → old ≤ left + most_read E (pos + 8)
unfolding most_read
spent_head E old left pos head = omega (arith, head, most_is (E + 2) (pos + 8))

-- the map's own bytes on the way to the last entry
pub spent_start : (node end old left : ℕ) → old ≤ left + 8 → old ≤ left + most_for_last node end
unfolding most_for_last
spent_start node end old left head = omega (arith, head)

-- and a node on each level
pub spent_way : (node end old mid left : ℕ) → old ≤ mid + 8 → mid ≤ left + 32 * node → old ≤ left + most_for_last node end
unfolding most_for_last
spent_way node end old mid left head way = omega (arith, head, way)

-- and the entry
pub spent_last : (node end old mid next left p len : ℕ) → old ≤ mid + 8 → mid ≤ next + 32 * node → next ≤ left + (len + 2 * (p + len)) → len ≤ node → p + len ≤ end → old ≤ left + most_for_last node end
unfolding most_for_last
spent_last node end old mid next left p len head way entry few inside = omega (arith, head, way, entry, few, inside)
