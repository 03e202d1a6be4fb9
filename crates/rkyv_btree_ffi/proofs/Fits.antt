-- Nodes of maps of each two types fit.
use Rattle.std.proofs.Common.{IsTrue, refl}
use Rattle.rkyv_btree_format.specs.Layout.{are_fitting, inner_size, len_at, node_size, values_at, keys_at, align, node_align}
use Rattle.rkyv_btree_portable.specs.Rounding.{round_up}
use Rattle.rkyv_btree_ffi.specs.Items.{kind_at}
use Rattle.rkyv_btree_ffi.specs.declared.map_type.ItemType.{ItemType}
use Rattle.rkyv_btree_ffi.specs.declared.map_type.ItemType.TheVariants.{U32, U64, I64, Text, Bytes, Empty}

pub all_fit : (key value : ItemType) → IsTrue (are_fitting (kind_at key) (kind_at value) 5)
unfolding are_fitting inner_size len_at node_size values_at keys_at align node_align round_up
all_fit U32 U32 = refl
all_fit U32 U64 = refl
all_fit U32 I64 = refl
all_fit U32 Text = refl
all_fit U32 Bytes = refl
all_fit U32 Empty = refl
all_fit U64 U32 = refl
all_fit U64 U64 = refl
all_fit U64 I64 = refl
all_fit U64 Text = refl
all_fit U64 Bytes = refl
all_fit U64 Empty = refl
all_fit I64 U32 = refl
all_fit I64 U64 = refl
all_fit I64 I64 = refl
all_fit I64 Text = refl
all_fit I64 Bytes = refl
all_fit I64 Empty = refl
all_fit Text U32 = refl
all_fit Text U64 = refl
all_fit Text I64 = refl
all_fit Text Text = refl
all_fit Text Bytes = refl
all_fit Text Empty = refl
all_fit Bytes U32 = refl
all_fit Bytes U64 = refl
all_fit Bytes I64 = refl
all_fit Bytes Text = refl
all_fit Bytes Bytes = refl
all_fit Bytes Empty = refl
all_fit Empty U32 = refl
all_fit Empty U64 = refl
all_fit Empty I64 = refl
all_fit Empty Text = refl
all_fit Empty Bytes = refl
all_fit Empty Empty = refl
