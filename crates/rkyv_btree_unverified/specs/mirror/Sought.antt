-- Where a walk in bytes that nobody has validated begins at a low bound, and where it stops at a high one. This mirrors the code.
use Rattle.std.specs.Prelude.{◌≡◌, ◌≢◌, ℕ, ◌+◌, ◌-◌, ◌*◌, ◌≤◌, ◌<◌, List, Result, Ok, Err, Bool}
use Rattle.std.specs.declared.cmp.Ordering.{Ordering}
use Rattle.rkyv_btree_portable.specs.Kind.{Kind}
use Rattle.rkyv_btree_format.specs.Layout.{layout_of}
use Rattle.rkyv_btree_format.specs.Read.{map_tree}
use Rattle.rkyv_btree_portable.specs.declared.refusal.Refusal.{Refusal}
use Rattle.rkyv_btree_unverified.specs.EntriesFrom.{entries_from}
use Rattle.rkyv_btree_unverified.specs.Steps.{key_place}
use Rattle.rkyv_btree_unverified.specs.Walks.{Fails}
use Rattle.rkyv_btree_unverified.specs.declared.walk.Phase.TheVariants.{Over}
use Rattle.rkyv_btree_unverified.specs.declared.walk.UnverifiedWalk.{UnverifiedWalk}
use Rattle.rkyv_btree_unverified.specs.mirror.Walked.{IsWay, IsLeafRun, OnMaps, IsUnverifiedWalk, path_entries, path_nodes, walk_most, unverified_left}
use Rattle.rkyv_btree_walk.specs.declared.seek.Part.{Part}
use Rattle.rkyv_btree_walk.specs.Paths.{walk_rest}
use Rattle.rkyv_btree_walk.specs.mirror.Range.{is_reached}

module _ (K V : Kind) (E : ℕ) {T : Type 0} (compared : T → List ℕ → ℕ → Ordering) (b : List ℕ) where
  -- whether an entry reaches a query
  abbrev pub reached_place : T → Bool → ℕ × ℕ → Bool
  reached_place n past e = is_reached past (compared n b (key_place K V E e))

module _ (K V : Kind) (E : ℕ) (b : List ℕ) where
  -- the part of a leaf at which a way down ends, with the path and the number of nodes
  pub record PartFound (at : ℕ) (test : ℕ × ℕ → Bool) (before : ℕ) (new : List (ℕ × ℕ)) (after : ℕ) (part : Part) : Type 0 where
    pub way : IsWay (layout_of K V E) b at new
    pub run : part.next < part.end → IsLeafRun (layout_of K V E) b at new part.node part.end
    pub most : E * after + path_entries E new + (part.end - part.next) ≤ E * before
    pub few : OnMaps K V E b at (path_nodes (layout_of K V E) b 32 new ≤ after)
    pub sought : walk_rest (layout_of K V E) b part.node part.next part.end new ≡ entries_from test (map_tree (layout_of K V E) b at)

  -- a walk that begins at a bound
  pub record Begins (at : ℕ) (test : ℕ × ℕ → Bool) (nodes : ℕ) (w : UnverifiedWalk) : Type 0 where
    pub walks : IsUnverifiedWalk K V E b at w
    pub most : walk_most E w ≤ E * nodes
    pub begun : w.phase ≢ Over
    pub taken : w.taken ≡ 0
    pub sought : unverified_left (layout_of K V E) b at w ≡ entries_from test (map_tree (layout_of K V E) b at)

  module _ (KR VR : List ℕ → ℕ → ℕ → ℕ → Refusal → Type 0) where
    abbrev pub PartGives : ℕ → (ℕ × ℕ → Bool) → ℕ → List (ℕ × ℕ) → ℕ → Result Part Refusal → Type 0
    PartGives at test before new after (Err r) = Fails K V E b KR VR at r
    PartGives at test before new after (Ok part) = PartFound at test before new after part

    abbrev pub BeginGives : ℕ → (ℕ × ℕ → Bool) → ℕ → UnverifiedWalk → Result (Unit {0}) Refusal → Type 0
    BeginGives at test nodes w (Err r) = Fails K V E b KR VR at r
    BeginGives at test nodes w (Ok x) = Begins at test nodes w
