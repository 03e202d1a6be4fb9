-- Where searches side by side have come to, in bytes that nobody has validated.
use Rattle.std.specs.Prelude.{ℕ, List, Option, Result, Err, pos, slice_index_or}
use Rattle.rkyv_btree_portable.specs.declared.refusal.Refusal.{Refusal}
use Rattle.rkyv_btree_portable.specs.declared.refusal.Refusal.TheVariants.{TooDeep}
use Rattle.rkyv_btree_unverified.specs.declared.many.UnverifiedWay.{UnverifiedWay}
use Rattle.rkyv_btree_unverified.specs.declared.many.UnverifiedWay.TheVariants.{On, Ended}

-- the way of a number, of which there are sixteen
abbrev pub way_at : List UnverifiedWay → ℕ → UnverifiedWay
way_at ways i = slice_index_or ways i (On 0 0)

-- what a search found, which is too deep if it goes on past the last level
abbrev pub result_of : UnverifiedWay → Result (Option (ℕ × ℕ)) Refusal
result_of (On p hi) = Err (TooDeep (pos p))
result_of (Ended r) = r
