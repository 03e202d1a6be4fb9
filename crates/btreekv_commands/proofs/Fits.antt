-- Nodes of texts fit.
use Rattle.std.proofs.Common.{IsTrue, refl}
use Rattle.rkyv_btree_format.specs.Layout.{are_fitting, inner_size, len_at, node_size, values_at, keys_at, align, node_align}
use Rattle.rkyv_btree_portable.specs.Rounding.{round_up}
use Rattle.rkyv_btree_portable.specs.Text.{text_kind}

pub texts_fit : IsTrue (are_fitting text_kind text_kind 5)
unfolding are_fitting inner_size len_at node_size values_at keys_at align node_align round_up
texts_fit = refl
