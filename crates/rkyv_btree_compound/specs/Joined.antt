-- A value of one type and then a value of another at its alignment, in so many bytes: what tuples of more than two fields are made of.
use Rattle.std.specs.Prelude.{ℕ, ◌+◌, ◌^◌, ◌&&◌, ◌++◌, ◌<◌, IsTrue, List, Option, nat_lt}
use Rattle.std.specs.Ordering.{ordering_then}
use Rattle.rkyv_btree_portable.specs.Entry.{value_offset, entry_align, MeansParts, value_leaves}
use Rattle.rkyv_btree_portable.specs.Kind.{Kind, Local, Widens, OneMeaning, IsRead, Decides}
use Rattle.rkyv_btree_portable.specs.Rounding.{IsAlignment}
use Rattle.rkyv_btree_portable.specs.Standing.{Lies, if_placed}

module _ (K V : Kind) where
  -- where the second value ends: an entry has padding after that
  abbrev pub joined_end : ℕ
  joined_end = value_offset K V + V.size

  module _ (size : ℕ) where
    pub record MeansJoined (buf : List ℕ) (lo hi at left : ℕ) (e : K.Value × V.Value) : Type 0 where
      pub lies : Lies buf size (entry_align K V) lo hi at left
      pub parts : MeansParts K V buf lo hi at left e.0 e.1

    abbrev pub joined_leaves : List ℕ → ℕ → ℕ → ℕ → Option ℕ
    joined_leaves buf lo hi at = if_placed buf size (entry_align K V) at (value_leaves K V buf hi at (K.leaves buf lo hi at))

    abbrev pub joined_kind : Kind
    joined_kind = record {
      Value = K.Value × V.Value;
      size = size;
      align = entry_align K V;
      is_fitting = K.is_fitting && V.is_fitting && nat_lt size (2 ^ 32);
      Means = MeansJoined;
      leaves = joined_leaves;
      read = λ buf at. (K.read buf at, V.read buf (at + value_offset K V));
      same = λ e f. K.same e.0 f.0 && V.same e.1 f.1;
      order = λ e f. ordering_then (K.order e.0 f.0) (V.order e.1 f.1);
      hash_input = λ e. K.hash_input e.0 ++ V.hash_input e.1;
    }

-- what the first fields of a tuple owe: all that an archived type owes, but that the alignment divides the size
pub record IsLaidOut (kind : Kind) : Type 0 where
  pub alignment : IsAlignment kind.align
  pub size_fits : IsTrue kind.is_fitting → kind.size < 2 ^ 32
  pub lies : (b : List ℕ) (lo hi at left : ℕ) (v : kind.Value) → kind.Means b lo hi at left v → Lies b kind.size kind.align lo hi at left
  pub local : IsTrue kind.is_fitting → Local kind
  pub widens : Widens kind
  pub one_meaning : OneMeaning kind
  pub is_read : IsRead kind
  pub decides : IsTrue kind.is_fitting → Decides kind kind.leaves
