-- What lookups in a source promise of their results. `By` is what holds by the comparisons of a query with keys, as
-- `ByNative K compared_at key` is.
use Rattle.std.specs.BTreeMap.{is_at}
use Rattle.std.specs.Map.{lookup}
use Rattle.std.specs.Option.{option_map}
use Rattle.std.specs.Prelude.{◌≡◌, ℕ, ◌+◌, ◌≤◌, Bool, IfErr, IfOk, is_some, List, length, Option, Result, Ok, Err}
use Rattle.std.specs.declared.cmp.Ordering.{Ordering}
use Rattle.rkyv_btree_format.specs.Increasing.{Increasing}
use Rattle.rkyv_btree_portable.specs.Kind.{Kind}
use Rattle.rkyv_btree_format.specs.Layout.{layout_of, inner_size}
use Rattle.rkyv_btree_portable.specs.declared.refusal.Refusal.{Refusal}
use Rattle.rkyv_btree_portable.specs.declared.check.Portable
use Rattle.rkyv_btree_source.specs.Known.{AreOf, Known}
use Rattle.rkyv_btree_source.specs.Reading.{IfRead, IfRefused, IsCaused, most_read}
use Rattle.rkyv_btree_source.specs.Reads.{EachFits, Lacks, Lengths, Reads, Takes}
use Rattle.rkyv_btree_source.specs.declared.fault.SourceFault.{SourceFault}
use Rattle.rkyv_btree_unverified.specs.Lookups.{FindsAt, LookupGives}
use Rattle.rkyv_btree_unverified.specs.Steps.{value_place}
use Rattle.rkyv_btree_view.specs.Map.{IsMap}
use Rattle.rkyv_btree_view.specs.View.{view_value}
use Rattle.rkyv_btree_view.specs.declared.view.View.{View}

module _ (K V : Kind) (E : ℕ) (KRefuses VRefuses : List ℕ → ℕ → ℕ → ℕ → Refusal → Type 0) (b : List ℕ) (at : ℕ)
    (By : ((K.Value → Ordering) → Type 0) → Type 0) {F : Type 0} where
  -- the bytes of a source are refused where a lookup in them is, and no map is
  pub record RefusesAsBytes {X : Type 0} (result : Result X (SourceFault F)) : Type 0 where
    pub refused : By (λ comparison. IfErr result (IfRefused (λ refusal. LookupGives K V E b comparison KRefuses VRefuses at (Err refusal))))
    pub accepts : (m : List (K.Value × V.Value)) → IsMap K V E b at m → IfErr result (IfRefused (λ _. ⊥))

  -- it says whether a lookup in the bytes ends at an entry
  pub record ReadsWhether (result : Result Bool (SourceFault F)) : Type 0 where
    pub refuses : RefusesAsBytes result
    pub places : By (λ comparison. IfOk result (λ found. (entry : Option (ℕ × ℕ)) × LookupGives K V E b comparison KRefuses VRefuses at (Ok entry)
        × (found ≡ is_some entry)))
    -- on a map whose keys increase it is what std's map finds
    pub sorted : (m : List (K.Value × V.Value)) → IsMap K V E b at m → Increasing K.order m
        → By (λ comparison. IfOk result (λ found. found ≡ is_some (lookup (is_at comparison) m)))

module _ (K : Kind) {B : Type 0} {v : Portable.Ghosts B} (E : ℕ) (KRefuses VRefuses : List ℕ → ℕ → ℕ → ℕ → Refusal → Type 0) (b : List ℕ) (at : ℕ)
    (By : ((K.Value → Ordering) → Type 0) → Type 0) {F : Type 0} where
  -- it gives the value that a lookup in the bytes finds
  pub record ReadsValue (result : Result (Option (View B v)) (SourceFault F)) : Type 0 where
    pub refuses : RefusesAsBytes K v.kind E KRefuses VRefuses b at By result
    -- it reads as the value beside an equal key, which is where the search of the bytes comes to
    pub places : By (λ comparison. IfOk result (λ found. FindsAt K v.kind E b comparison KRefuses VRefuses at
        (λ e. v.kind.read b (value_place K v.kind E e)) (option_map view_value found)))
    -- on a map whose keys increase it is what std's map finds
    pub sorted : (m : List (K.Value × v.kind.Value)) → IsMap K v.kind E b at m → Increasing K.order m
        → By (λ comparison. IfOk result (λ found. option_map view_value found ≡ lookup (is_at comparison) m))

-- a lookup with so many bytes of budget before and after it, and so much room, reads these parts of the bytes
pub record ReadsParts (K V : Kind) (E : ℕ) (KL VL : Lengths) (b : List ℕ) (at : ℕ) (By : ((K.Value → Ordering) → Type 0) → Type 0)
    (room before after : ℕ) {X F : Type 0} (result : Result X (SourceFault F)) : Type 0 where
  -- if it ends, it takes the bytes of what it reads of the budget, and no others
  pub takes : By (λ comparison. IfOk result (λ _. (all : ℕ) × Takes K V E b KL VL comparison at all × (before ≡ after + all)))
  -- where the budget or the room is too small, one part that it reads doesn't fit
  pub lacks : By (λ comparison. IfErr result
      (Lacks K V E b KL VL (Reads K V E b KL VL comparison at) (inner_size (layout_of K V E)) before room))
  -- and a lookup that ends had room for all of them
  pub fits : By (λ comparison. IfOk result (λ _.
      EachFits K V E b KL VL (Reads K V E b KL VL comparison at) (inner_size (layout_of K V E)) room))

-- what it needs is bounded, where nothing after `end` is read
pub record IsBounded (E : ℕ) (source : Known) (end node room before after : ℕ) {X F : Type 0} (result : Result X (SourceFault F)) : Type 0 where
  pub budget : after ≤ before
  -- this is what all reads of a lookup take of the budget
  pub spent : before ≤ after + most_read E end
  -- no part that is read or needed has more bytes than there are up to the end
  pub caused : IfErr result (IsCaused end node room after)
  -- or in a source whose bytes are known
  pub known : (b : List ℕ) → AreOf source b → IfErr result (IsCaused (length b) node room after)

-- a source and a position stay the same, and a fault of reading is the source's own
pub record LeavesSource {F : Type 0} (before after : Known) (Fails : Known → F → Type 0) (at place : ℕ) {X : Type 0}
    (result : Result X (SourceFault F)) : Type 0 where
  pub same : after ≡ before
  pub fails : IfErr result (IfRead (Fails before))
  pub position : place ≡ at
