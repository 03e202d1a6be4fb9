-- Types whose values have few own bytes.
use Rattle.std.specs.Prelude.{◌≤◌, IsTrue}
use Rattle.rkyv_btree_portable.specs.Kind.{Kind}

-- the type's own parts fit, and a value has a megabyte of own bytes at most
abbrev pub IsSmall : Kind → Type 0
IsSmall kind = IsTrue kind.is_fitting × (kind.size ≤ 1048576)
