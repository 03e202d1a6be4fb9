-- Files of prices by name, as readers open them strictly.
use Rattle.std.specs.Prelude.{ℕ, List}
use Rattle.rkyv_btree_base.specs.Map.{map_kind}
use Rattle.rkyv_btree_base.specs.Scalars.{u32_kind}
use Rattle.rkyv_btree_base.specs.Text.{text_kind}
use Rattle.rkyv_btree_base.specs.OwnBytes.{IsArchiveOf}
use Rattle.rkyv_btree_base.specs.Increasing.{Increasing}

-- the bytes are an archive of these prices, whose names increase
pub record IsPriceFile (bytes : List ℕ) (prices : List (List ℕ × ℕ)) : Type 0 where
  pub archive : IsArchiveOf (map_kind text_kind u32_kind 5) bytes prices
  pub increasing : Increasing text_kind.order prices
