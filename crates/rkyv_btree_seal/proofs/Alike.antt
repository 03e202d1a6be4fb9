-- Lookups in two views of one map find the same.
use Rattle.std.proofs.Common.{◌≡◌, ℕ, Bool, Option}
use Rattle.std.specs.declared.cmp.Ordering.{Ordering}
use Rattle.rkyv_btree_portable.specs.Kind.{Kind}
use Rattle.rkyv_btree_portable.specs.declared.check.Portable
use Rattle.rkyv_btree_view.specs.Lookups.{IsLookup, IsNativeLookup, IsWhetherFound}
use Rattle.rkyv_btree_view.specs.declared.view.View.{View}

module _ (K V : Kind) (E : ℕ) {M : Type 0} {m : Portable.Ghosts M} (v w : View M m) (buffer : w.buf.now ≡ v.buf.now) (position : w.pos ≡ v.pos) (comparison : K.Value → Ordering) where
  pub lookup_alike : (value : Option V.Value) → IsLookup K V E v comparison value → IsLookup K V E w comparison value
  lookup_alike value h = record {
    member = rw (buffer, position) h.member;
    sorted = rw (buffer, position) h.sorted;
    complete = rw (buffer, position) h.complete;
    found = rw (buffer, position) h.found;
  }

  pub native_alike : {N : Type 0} (native : V.Value → N) (value : Option N) → IsNativeLookup K V E v comparison native value → IsNativeLookup K V E w comparison native value
  native_alike native value h = record {
    sorted = rw (buffer, position) h.sorted;
    complete = rw (buffer, position) h.complete;
    found = rw (buffer, position) h.found;
  }

  pub found_alike : (found : Bool) → IsWhetherFound K V E v comparison found → IsWhetherFound K V E w comparison found
  found_alike found h = record {
    member = rw (buffer, position) h.member;
    sorted = rw (buffer, position) h.sorted;
    complete = rw (buffer, position) h.complete;
    found = rw (buffer, position) h.found;
  }
