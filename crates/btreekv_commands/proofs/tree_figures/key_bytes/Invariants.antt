use Rattle.std.proofs.Common.{◌≡◌, ℕ, ◌+◌, ◌*◌, ◌≤◌}
use Rattle.rkyv_btree_format.specs.Layout.{key_at}
use Rattle.btreekv_commands.specs.Nodes.{text_layout}
use Rattle.btreekv_commands.specs.mirror.Sums.{text_bytes}
use Rattle.btreekv_commands.proofs.tree_figures.key_bytes.Given as goal

-- the texts before this one
abbrev pub invariant-keys : goal.invariant-keys
invariant-keys l = (l.total ≡ text_bytes l.archive (λ (j : ℕ). l.node + key_at text_layout j) l.index) × (l.total ≤ 4294967296 * l.index)
