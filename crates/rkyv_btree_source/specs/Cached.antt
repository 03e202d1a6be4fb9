-- The blocks of a source that are kept in memory.
use Rattle.std.specs.Prelude.{◌≡◌, ℕ, List, All}
use Rattle.rkyv_btree_portable.specs.Bytes.{bytes_at}
use Rattle.rkyv_btree_source.specs.Known.{Known, AreOf}
use Rattle.rkyv_btree_source.specs.declared.block.Block.{Block}

-- the block's first bytes are those of b from its position on
abbrev pub IsBlock : List ℕ → Block → Type 0
IsBlock b block = bytes_at block.bytes 0 block.len ≡ bytes_at b block.pos block.len

-- each block has bytes of the source, whichever these may be
abbrev pub AreBlocks : Known → List Block → Type 0
AreBlocks known blocks = (b : List ℕ) → AreOf known b → All (IsBlock b) blocks
