-- A key with its value as an archived type: the key, then the value, as C lays them out.
use Rattle.std.specs.Prelude.{ℕ, ◌+◌, ◌^◌, ◌&&◌, ◌++◌, List, Option, Some, None, max, nat_lt}
use Rattle.std.specs.Ordering.{ordering_then}
use Rattle.rkyv_btree_portable.specs.declared.refusal.Refusal.{Refusal}
use Rattle.rkyv_btree_portable.specs.declared.refusal.Refusal.TheVariants.{BadEntry}
use Rattle.rkyv_btree_portable.specs.Kind.{Kind}
use Rattle.rkyv_btree_portable.specs.Refusing.{HasPlace, Misplaced, MeansNothing}
use Rattle.rkyv_btree_portable.specs.Rounding.{round_up}
use Rattle.rkyv_btree_portable.specs.Standing.{Lies, if_placed}

module _ (K V : Kind) where
  -- where the value stands, counted from the key
  abbrev pub value_offset : ℕ
  value_offset = round_up K.size V.align

  abbrev pub entry_align : ℕ
  entry_align = max K.align V.align

  abbrev pub entry_size : ℕ
  entry_size = round_up (value_offset + V.size) entry_align

  -- a key in the window, then a value in the window that the key leaves
  pub record MeansParts (buf : List ℕ) (lo hi at left : ℕ) (k : K.Value) (v : V.Value) : Type 0 where
    pub between : ℕ
    pub key : K.Means buf lo hi at between k
    pub value : V.Means buf between hi (at + value_offset) left v

  pub record MeansEntry (buf : List ℕ) (lo hi at left : ℕ) (e : K.Value × V.Value) : Type 0 where
    pub lies : Lies buf entry_size entry_align lo hi at left
    pub parts : MeansParts buf lo hi at left e.0 e.1

  -- the value's decision, where the key's is this
  abbrev pub value_leaves : List ℕ → ℕ → ℕ → Option ℕ → Option ℕ
  value_leaves buf hi at None = None
  value_leaves buf hi at (Some between) = V.leaves buf between hi (at + value_offset)

  abbrev pub entry_leaves : List ℕ → ℕ → ℕ → ℕ → Option ℕ
  entry_leaves buf lo hi at = if_placed buf entry_size entry_align at (value_leaves buf hi at (K.leaves buf lo hi at))

  -- the refusal of an entry that is asked by itself: a case counts only where none before it does
  pub data RefusesEntry (buf : List ℕ) (lo hi at : ℕ) : Refusal → Type 0 where
    misplaced_entry : {e : Refusal} → Misplaced buf entry_size entry_align at e → RefusesEntry buf lo hi at e
    bad_key : HasPlace buf entry_size entry_align at → MeansNothing K buf lo hi at → RefusesEntry buf lo hi at (BadEntry at)
    bad_value : {between : ℕ} {k : K.Value} → HasPlace buf entry_size entry_align at → K.Means buf lo hi at between k
        → MeansNothing V buf between hi (at + value_offset) → RefusesEntry buf lo hi at (BadEntry (at + value_offset))

  abbrev pub entry_kind : Kind
  entry_kind = record {
    Value = K.Value × V.Value;
    size = entry_size;
    align = entry_align;
    is_fitting = K.is_fitting && V.is_fitting && nat_lt entry_size (2 ^ 32);
    Means = MeansEntry;
    leaves = entry_leaves;
    read = λ buf at. (K.read buf at, V.read buf (at + value_offset));
    same = λ e f. K.same e.0 f.0 && V.same e.1 f.1;
    order = λ e f. ordering_then (K.order e.0 f.0) (V.order e.1 f.1);
    hash_input = λ e. K.hash_input e.0 ++ V.hash_input e.1;
  }
