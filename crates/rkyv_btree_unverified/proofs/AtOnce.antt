-- A stop among the valid keys of a node is what the search of these keys gives.
use Rattle.std.proofs.Common.{◌≡◌, ℕ, ◌<◌, List, IsTrue, arith, true, false}
use Rattle.std.specs.declared.cmp.Ordering.{Ordering}
use Rattle.std.specs.declared.cmp.Ordering.TheVariants.{Less, Equal, Greater}
use Rattle.rkyv_btree_portable.specs.Kind.{Kind}
use Rattle.rkyv_btree_portable.specs.Views.{stands}
use Rattle.rkyv_btree_walk.specs.mirror.Search.{StopsAt, comparison_at, stop_of}
use Rattle.rkyv_btree_unverified.specs.Steps.{key_place, Asks, Gives, StopsBefore}

module _ (K V : Kind) (E : ℕ) (b : List ℕ) (comparison : K.Value → Ordering) (p n i : ℕ) (valid : (k : ℕ) → k < n → IsTrue (stands K b (key_place K V E (p, k)))) where
  abbrev at : ℕ → Ordering
  at k = comparison_at K V E b comparison (p, k)

  gives : (o : Ordering) (k : ℕ) → k < n → at k ≡ o → Gives K V E b comparison o (p, k)
  gives o k less is = record { valid = valid k less; gives = is }

  pub asked : StopsAt at n (stop_of true i) → Asks K V E b comparison p n i
  asked s = let less = s.0 in record { within = less; before = λ k h. gives Greater k (omega arith) (s.1 k h) }

  pub equal_given : StopsAt at n (stop_of true i) → Gives K V E b comparison Equal (p, i)
  equal_given s = gives Equal i s.0 s.2

  pub stopped_before : StopsAt at n (stop_of false i) → StopsBefore K V E b comparison p n i
  stopped_before s = let within = s.0 in record { within = within; before = λ k h. gives Greater k (omega arith) (s.1 k h); less = λ less. gives Less i less (s.2 less) }
