-- An iterator that goes along entries is what iterators promise.
use Rattle.std.proofs.Common.{◌≡◌, ◌∙◌, ℕ, List, Result, ap}
use Rattle.std.specs.Iterator.{IsFinite}
use Rattle.std.specs.declared.cmp.Ordering.{Ordering}
use Rattle.std.specs.declared.iter.Iterator
use Rattle.std.specs.declared.ops.Bound.{Bound}
use Rattle.std.specs.declared.ops.Bound.TheVariants.{Unbounded}
use Rattle.rkyv_btree_format.specs.Increasing.{Increasing}
use Rattle.rkyv_btree_portable.specs.Kind.{Kind}
use Rattle.rkyv_btree_format.specs.Read.{read_map}
use Rattle.rkyv_btree_portable.specs.declared.refusal.Refusal.{Refusal}
use Rattle.rkyv_btree_unverified.proofs.Along.{GoesAlong, all_agree, shown_all}
use Rattle.rkyv_btree_unverified.specs.EntriesFrom.{entries_between}
use Rattle.rkyv_btree_unverified.specs.Iterating.{IteratesAll, IteratesBetween}
use Rattle.rkyv_btree_unverified.specs.UnverifiedIter.{IfNoError}
use Rattle.rkyv_btree_unverified.specs.Walks.{Fails, IsFaultless}
use Rattle.rkyv_btree_view.specs.Map.{IsMap}
use Rattle.rkyv_btree_view.specs.Range.{ByNativeBounds}
use Rattle.rkyv_btree_walk.specs.Bounds.{IsRun, OrderedFor, entries_within}

module _ (K V : Kind) (E : ℕ) (KR VR : List ℕ → ℕ → ℕ → ℕ → Refusal → Type 0) (b : List ℕ) (at : ℕ) {S X Y : Type 0} (iterator : Iterator.Ghosts S (Result X Refusal)) (shows : X → Y) (of : List (K.Value × V.Value) → List Y)
    (left : S → List Y) (Good Over : S → Type 0) (along : GoesAlong iterator.next_gives (Fails K V E b KR VR at) shows left Good Over) (start : S) (ends : IsFinite (iterator.remaining start)) where
  pub iterates_all : Good start → left start ≡ of (read_map K V E b at) → IfNoError iterator.next_gives start (IsFaultless K V E b at) → ((m : List (K.Value × V.Value)) → IsMap K V E b at m → read_map K V E b at ≡ m)
      → IteratesAll K V E KR VR b at iterator shows of start (left start)
  iterates_all good whole faultless reads = record {
    ends = ends;
    whole = whole;
    agrees = λ items drains. rw (← whole) (all_agree iterator.next_gives (Fails K V E b KR VR at) shows left Good Over along start items good drains);
    faultless = faultless;
    yields = λ m h items drains.
        let r = shown_all (Fails K V E b KR VR at) shows items (left start) (all_agree iterator.next_gives (Fails K V E b KR VR at) shows left Good Over along start items good drains) (λ e why. why.no_map m h) in
        (r.0, r.1, r.2 ∙ whole ∙ ap of (reads m h));
    entries = λ m h. whole ∙ ap of (reads m h);
  }

  module _ {T : Type 0} {compared_at : T → List ℕ → ℕ → Ordering} {Known : Type 0} {low high : Bound T} (good : Known → Good start) where
    pub iterates_between : (Known → left start ≡ of (entries_between K V E compared_at b low high at)) → IsRun (left start) (of (read_map K V E b at))
        → (Known → low ≡ Unbounded → high ≡ Unbounded → left start ≡ of (read_map K V E b at))
        → (Known → ByNativeBounds K compared_at low high (λ lo hi. Increasing K.order (read_map K V E b at) → left start ≡ of (entries_within lo hi (read_map K V E b at))))
        → (Known → ByNativeBounds K compared_at low high (λ lo hi. OrderedFor lo (read_map K V E b at) → OrderedFor hi (read_map K V E b at) → left start ≡ of (entries_within lo hi (read_map K V E b at))))
        → IteratesBetween K V E KR VR b at iterator shows of start (left start) compared_at Known low high
    iterates_between is run whole sorted within = record {
      ends = ends;
      left = is;
      agrees = λ known items drains. rw (← is known) (all_agree iterator.next_gives (Fails K V E b KR VR at) shows left Good Over along start items (good known) drains);
      run = run;
      whole = whole;
      sorted = sorted;
      within = within;
      yields = λ m h known items drains.
          shown_all (Fails K V E b KR VR at) shows items (left start) (all_agree iterator.next_gives (Fails K V E b KR VR at) shows left Good Over along start items (good known) drains) (λ e why. why.no_map m h);
    }
