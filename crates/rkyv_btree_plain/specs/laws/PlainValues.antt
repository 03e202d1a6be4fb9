-- The form of a layout is faithful.
use Rattle.std.specs.Prelude.{ℕ, Bool, List}
use Rattle.std.specs.declared.cmp.Ordering.{Ordering}
use Rattle.std.proofs.Common.{ap}
use Rattle.rkyv_btree_portable.specs.InPlace.{IsFaithful}
use Rattle.rkyv_btree_portable.specs.laws.Natives.{faithful}
use Rattle.rkyv_btree_portable.specs.laws.Plain.{plain_laws}
use Rattle.rkyv_btree_plain.specs.PlainValues.{PlainLayout, IsPlainLayout, plain_of, plain_form}

pub plain_faithful : {X : Type 0} (same : X → X → Bool) (order : X → X → Ordering) (hash_input : X → List (List ℕ)) {layout : PlainLayout X} → IsPlainLayout layout → IsFaithful (plain_form same order hash_input layout)
plain_faithful same order hash_input {layout} lawful =
    faithful (plain_form same order hash_input layout) (plain_laws (plain_of same order hash_input layout) lawful.alignment lawful.whole lawful.small) lawful.many lawful.valid lawful.back (λ x y e. ap layout.bytes e)
