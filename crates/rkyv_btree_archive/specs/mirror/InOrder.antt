-- How keys pass that must increase, as the code tests them.
use Rattle.std.specs.Prelude.{◌≡◌, ◌+◌, ◌<◌, ◌⊎◌, Option, true, IfSome, MatchOption}
use Rattle.std.specs.declared.cmp.Ordering.{Ordering}
use Rattle.std.specs.declared.cmp.Ordering.TheVariants.{Less}
use Rattle.rkyv_btree_writer.specs.declared.fault.Fault.{Fault}
use Rattle.rkyv_btree_writer.specs.declared.fault.Fault.TheVariants.{Length, OutOfOrder}
use Rattle.rkyv_btree_archive.specs.declared.strict_build.InOrder.{InOrder}

module _ {B M : Type 0} (order : M → M → Ordering) (borrowed : B → M) where
  -- the item is claimed, and its key greater than the last one; or it isn't claimed
  abbrev pub IsNext : InOrder M → Option B → B → InOrder M → Type 0
  IsNext s last key t =
      (t.stopped ≡ s.stopped)
      × (((s.left ≡ t.left + 1) × IfSome last (λ last. order (borrowed last) (borrowed key) ≡ Less)) ⊎ ((s.left ≡ 0) × (t.left ≡ 0)))

  -- the item is claimed, and its key isn't greater than the last one
  abbrev pub IsNotNext : InOrder M → Option B → B → InOrder M → Type 0
  IsNotNext s last key t =
      (0 < s.left) × MatchOption last ⊥ (λ last. ¬ (order (borrowed last) (borrowed key) ≡ Less)) × (t.stopped ≡ true)

-- the fault of a source that was stopped by a key: where items were missing, one was out of order
abbrev pub met_out_of_order : {X : Type 0} → Fault X → Fault X
met_out_of_order (Length m) = OutOfOrder m.actual
met_out_of_order fault = fault
