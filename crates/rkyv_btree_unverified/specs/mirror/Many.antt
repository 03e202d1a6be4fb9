-- Searches for many keys side by side in bytes that nobody has validated. This mirrors the code, which takes each of them down level
-- by level.
use Rattle.std.specs.Prelude.{◌≡◌, ℕ, suc, ◌+◌, ◌≤◌, ◌<◌, List, length, Option, Some, Result, slice_get}
use Rattle.std.specs.Option.{ForSome}
use Rattle.std.specs.Result.{ForOk}
use Rattle.std.specs.declared.cmp.Ordering.{Ordering}
use Rattle.rkyv_btree_portable.specs.Kind.{Kind}
use Rattle.rkyv_btree_portable.specs.declared.refusal.Refusal.{Refusal}
use Rattle.rkyv_btree_unverified.specs.Ends.{result_of, way_at}
use Rattle.rkyv_btree_unverified.specs.Lookups.{LookupGives, TreeGives}
use Rattle.rkyv_btree_unverified.specs.Steps.{HasRoom}
use Rattle.rkyv_btree_unverified.specs.declared.many.UnverifiedWay.{UnverifiedWay}
use Rattle.rkyv_btree_unverified.specs.declared.many.UnverifiedWay.TheVariants.{On, Ended}
use Rattle.rkyv_btree_view.specs.Lookup.{ByNative}
use Rattle.rkyv_btree_walk.specs.mirror.Node.{RunStands}

-- a way has ended
abbrev pub HasEnded : UnverifiedWay → Type 0
HasEnded way = (p hi : ℕ) → way ≡ On p hi → ⊥

module _ (K V : Kind) (E : ℕ) (b : List ℕ) where
  -- an entry that is found stands, in a buffer whose positions have 32 bits
  abbrev pub EndStands : Result (Option (ℕ × ℕ)) Refusal → Type 0
  EndStands r = ForOk r (λ found. (length b ≤ 4294967295) × ForSome found (λ e. RunStands K V E b e.0 e.1 (e.1 + 1)))

  -- there is room for the node at which a way goes on, or what it ended with stands
  abbrev pub WayStands : UnverifiedWay → Type 0
  WayStands (On p hi) = HasRoom K V E hi p × (hi ≤ length b) × (length b ≤ 4294967295)
  WayStands (Ended r) = EndStands r

  module _ (KRefuses VRefuses : List ℕ → ℕ → ℕ → ℕ → Refusal → Type 0) where
    -- what the search returns of so many levels that are left of a way, or what it ended with
    abbrev pub WayGives : (K.Value → Ordering) → ℕ → UnverifiedWay → Result (Option (ℕ × ℕ)) Refusal → Type 0
    WayGives comparison levels (On p hi) r = TreeGives K V E b comparison KRefuses VRefuses levels hi p r
    WayGives comparison levels (Ended end) r = r ≡ end

    module _ {Q : Type 0} (Compares : (Q → K.Value → Ordering) → Type 0) where
      -- a way goes on in `new` a level below `old`, or has ended there
      pub record Steps (key : Q) (old new : UnverifiedWay) : Type 0 where
        pub stands : WayStands new
        pub gives : (levels : ℕ) (c : Q → K.Value → Ordering) → Compares c → (r : Result (Option (ℕ × ℕ)) Refusal)
            → WayGives (c key) levels new r → WayGives (c key) (suc levels) old r

      -- a way that has so many levels left leads to what a lookup in the map at a position returns
      pub record IsUnderWay (at : ℕ) (key : Q) (levels : ℕ) (way : UnverifiedWay) : Type 0 where
        pub stands : WayStands way
        pub gives : (c : Q → K.Value → Ordering) → Compares c → (r : Result (Option (ℕ × ℕ)) Refusal)
            → WayGives (c key) levels way r → LookupGives K V E b (c key) KRefuses VRefuses at r

module _ {N : Type 0} (K V : Kind) (E : ℕ) (compared_at : N → List ℕ → ℕ → Ordering) (b : List ℕ) (KRefuses VRefuses : List ℕ → ℕ → ℕ → ℕ → Refusal → Type 0) (at : ℕ) where
  -- a search for the key has come to what a lookup of it gives
  pub record IsWayOf (key : N) (way : UnverifiedWay) : Type 0 where
    pub stands : EndStands K V E b (result_of way)
    pub gives : ByNative K compared_at key (λ comparison. LookupGives K V E b comparison KRefuses VRefuses at (result_of way))

  -- the ways are those of these keys, of which there may be more than sixteen
  abbrev pub AreWaysOf : List N → List UnverifiedWay → Type 0
  AreWaysOf keys ways = (i : ℕ) (key : N) → i < 16 → slice_get keys i ≡ Some key → IsWayOf key (way_at ways i)
