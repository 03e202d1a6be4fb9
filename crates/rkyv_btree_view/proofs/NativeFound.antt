-- What a lookup finds is found as a native value.
use Rattle.std.proofs.Common.{◌≡◌, ℕ, Option, Some, None, ap, ◌∙◌}
use Rattle.std.specs.Option.{option_map}
use Rattle.std.specs.declared.cmp.Ordering.{Ordering}
use Rattle.rkyv_btree_portable.specs.Kind.{Kind}
use Rattle.rkyv_btree_portable.specs.declared.check.Portable
use Rattle.rkyv_btree_view.specs.Lookups.{IsLookup, IsNativeLookup}
use Rattle.rkyv_btree_view.specs.declared.view.View.{View}

module _ (K V : Kind) (E : ℕ) {M : Type 0} {m : Portable.Ghosts M} (view : View M m) (comparison : K.Value → Ordering) {N : Type 0} (native : V.Value → N) where
  pub native_looked_up : (value : Option V.Value) (result : Option N) → IsLookup K V E view comparison value → result ≡ option_map native value
      → IsNativeLookup K V E view comparison native result
  native_looked_up None result h same = rw same (record {
    sorted = λ up. ap (option_map native) (h.sorted up);
    complete = h.complete;
    found = ap (option_map native) h.found;
  })
  native_looked_up (Some value) result h same = rw same (record {
    sorted = λ up. ap (option_map native) (h.sorted up);
    complete = h.complete;
    found = ap (option_map native) h.found;
  })
