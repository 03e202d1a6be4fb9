-- It follows the code: how many entries there are after a change.
use Rattle.std.specs.Prelude.{ℕ, ◌+◌, ◌-◌, Bool, true, false}
use Rattle.rkyv_btree_update.specs.declared.change.Change.{Change}
use Rattle.rkyv_btree_update.specs.declared.change.Change.TheVariants.{Put, Delete}

-- by whether there is an entry of its key
abbrev pub count_after : {B : Type 0} → Bool → Change B → ℕ → ℕ
count_after false (Put v) n = n + 1
count_after true Delete n = n - 1
count_after has change n = n
