-- What a lookup in a map promises whose values are written in place.
use Rattle.std.specs.Prelude.{◌≡◌}
use Rattle.rkyv_btree_portable.specs.declared.check.Portable
use Rattle.rkyv_btree_seal.specs.declared.map_seal.MapSeal.{MapSeal}
use Rattle.rkyv_btree_view.specs.declared.view.View.{View}

-- what holds of the view of the same map
abbrev pub ByView : {M : Type 0} {m : Portable.Ghosts M} → MapSeal M m → (View M m → Type 0) → Type 0
ByView {M} {m} seal Holds = (view : View M m) → view.buf.now ≡ seal.buf.now → view.pos ≡ seal.pos → Holds view
