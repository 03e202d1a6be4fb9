-- The nodes of an archive of texts, and the parts of it that they and their texts are.
use Rattle.std.specs.Prelude.{ℕ, ◌+◌, List, if◌then◌else◌}
use Rattle.std.specs.Int.RustNames.{unsigned_abs}
use Rattle.rkyv_btree_portable.specs.Bytes.{place_at}
use Rattle.rkyv_btree_portable.specs.Text.{text_kind, text_len}
use Rattle.rkyv_btree_portable.specs.declared.check.Window.{Window}
use Rattle.rkyv_btree_format.specs.Layout.{NodeLayout, layout_of, leaf_size, inner_size}
use Rattle.rkyv_btree_walk.specs.Nodes.{is_leaf}

abbrev pub text_layout : NodeLayout
text_layout = layout_of text_kind text_kind 5

abbrev pub part : ℕ → ℕ → Window
part lo hi = record { lo = lo; hi = hi }

-- the node at p
abbrev pub node_part : List ℕ → ℕ → Window
node_part b p = part p (p + (if is_leaf text_layout b p then leaf_size text_layout else inner_size text_layout))

-- the bytes of the text at a position
abbrev pub text_part : List ℕ → ℕ → Window
text_part b at = part (unsigned_abs (place_at b at)) (unsigned_abs (place_at b at) + text_len b at)
