-- The lists that building reserves, as it hands them on to the writing of trees: facts of the code alone.
use Rattle.std.specs.Prelude.{◌≡◌, ℕ, ◌≤◌, [], length, vec_capacity}
use Rattle.std.specs.declared.vec.Vec.{Vec}
use Rattle.rkyv_btree_format.specs.Layout.{NodeLayout, inner_size}
use Rattle.rkyv_btree_archive.specs.declared.node_writes.Scratch.{Scratch}

-- there is room for a node and for what resolving its entries needs, and nothing of another node's is left
pub record IsFree {R S A : Type 0} (s : NodeLayout) (it : Scratch R S A) : Type 0 where
  pub no_keys : it.keys.items ≡ []
  pub no_values : it.values.items ≡ []
  pub key_room : s.E ≤ vec_capacity it.keys
  pub value_room : s.E ≤ vec_capacity it.values
  pub node_room : inner_size s ≤ length it.node.items

-- a list is empty, with room for so many values
pub record IsReserved {X A : Type 0} (values : Vec X A) (count : ℕ) : Type 0 where
  pub empty : values.items ≡ []
  pub room : count ≤ vec_capacity values
