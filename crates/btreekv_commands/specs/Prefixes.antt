-- Keys that begin with a text.
use Rattle.std.specs.Prelude.{◌≡◌, ℕ, List, filter}
use Rattle.rkyv_btree_strict.specs.Prefix.{begins_with}
use Rattle.rkyv_btree_walk.specs.Bounds.{IsRun}
use Rattle.btreekv_commands.specs.Lines.{Entry}
use Rattle.btreekv_commands.specs.Opening.{KeysIncrease}

-- these entries of a list are a run of it; if the keys increase, they are all whose keys begin with the prefix
pub record HasPrefix (prefix : List ℕ) (entries within : List Entry) : Type 0 where
  pub run : IsRun within entries
  pub all : KeysIncrease entries → within ≡ filter (begins_with prefix) entries
