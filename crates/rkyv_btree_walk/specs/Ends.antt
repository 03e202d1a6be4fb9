-- Where searches side by side have come to.
use Rattle.std.specs.Prelude.{ℕ, Option, Some, None}
use Rattle.rkyv_btree_walk.specs.declared.many.Way.{Way}
use Rattle.rkyv_btree_walk.specs.declared.many.Way.TheVariants.{On, Found, Absent}

-- the entry at which a search ended, by its node and number
abbrev pub end_of : Way → Option (ℕ × ℕ)
end_of (On p) = None
end_of (Found p i) = Some (p, i)
end_of Absent = None
