-- Maps of two types that the program knows: their own bytes are those of their kinds.
use Rattle.std.proofs.Common.{◌≡◌, List, [], ◌∷◌, map, refl, ap}
use Rattle.rkyv_btree_verify.specs.Map.{map_kind}
use Rattle.rkyv_btree_writer.specs.Archiving.{itself}
use Rattle.btreekv_types.specs.AnyTypes.{archival_at, itself_at, kind_at}
use Rattle.btreekv_types.specs.Typed.{AreMapValues, AreValues}
use Rattle.btreekv_types.specs.declared.any_type.AnyType.{AnyType}
use Rattle.btreekv_types.specs.declared.plain_type.PlainType.{PlainType}
use Rattle.btreekv_types.specs.declared.types.PlainTypes.{PlainTypes}

pub with_key : (types : PlainTypes) (key : PlainType) → types.key ≡ key → types ≡ record { key = key; value = types.value }
with_key types key is = ap (λ (k : PlainType). record { key = k; value = types.value }) is

same_entries : {A B : Type 0} (m : List (A × B)) → m ≡ map (λ e. (e.0, e.1)) m
same_entries [] = refl
same_entries {A} {B} (e ∷ m) = ap (λ (es : List (A × B)). e ∷ es) (same_entries m)

pub whole_at : (key value : AnyType) → AreMapValues (archival_at key) (kind_at key) (archival_at value) (kind_at value) (itself_at key) (itself_at value)
whole_at key value = record { whole = itself (map_kind (kind_at key) (kind_at value) 5); each = same_entries }

-- the values of a type are those of its kind
abbrev pub own_values : (i : AnyType) → AreValues (archival_at i) (kind_at i) (kind_at i).order (kind_at i).read (archival_at i).meaning (λ v. v)
own_values i = record { same = itself_at i; read = λ b at. refl; native = λ x. refl; ordered = λ v w. refl }
