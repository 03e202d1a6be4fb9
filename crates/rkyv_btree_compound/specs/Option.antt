-- An option as an archived type: a tag of one byte, then the value at its alignment, as C lays them out.
use Rattle.std.specs.Prelude.{◌≡◌, ℕ, ◌+◌, ◌^◌, ◌&&◌, List, Option, Some, None, slice_index, nat_eq, nat_lt, if◌then◌else◌}
use Rattle.std.specs.Hash as fed
use Rattle.std.specs.Option.{option_eq, option_cmp}
use Rattle.rkyv_btree_portable.specs.declared.refusal.Refusal.{Refusal}
use Rattle.rkyv_btree_portable.specs.declared.refusal.Refusal.TheVariants.{BadEntry}
use Rattle.rkyv_btree_portable.specs.Kind.{Kind}
use Rattle.rkyv_btree_portable.specs.Refusing.{HasPlace, Misplaced, MeansNothing}
use Rattle.rkyv_btree_portable.specs.Standing.{Lies, if_placed}

module _ (T : Kind) where
  abbrev pub option_size : ℕ
  option_size = T.align + T.size

  -- a tag of 0 for no value, which takes nothing of the window; a tag of 1, then the value at its alignment. Other bytes
  -- of the option may be any
  abbrev pub MeansTagged : List ℕ → ℕ → ℕ → ℕ → ℕ → Option T.Value → Type 0
  MeansTagged buf lo hi at left None = (slice_index buf at ≡ 0) × (left ≡ lo)
  MeansTagged buf lo hi at left (Some v) = (slice_index buf at ≡ 1) × T.Means buf lo hi (at + T.align) left v

  pub record MeansOption (buf : List ℕ) (lo hi at left : ℕ) (o : Option T.Value) : Type 0 where
    pub lies : Lies buf option_size T.align lo hi at left
    pub tagged : MeansTagged buf lo hi at left o

  -- the decision by the tag
  abbrev pub tagged_leaves : List ℕ → ℕ → ℕ → ℕ → Option ℕ
  tagged_leaves buf lo hi at =
      if nat_eq (slice_index buf at) 0 then Some lo else
      if nat_eq (slice_index buf at) 1 then T.leaves buf lo hi (at + T.align) else None

  abbrev pub option_leaves : List ℕ → ℕ → ℕ → ℕ → Option ℕ
  option_leaves buf lo hi at = if_placed buf option_size T.align at (tagged_leaves buf lo hi at)

  abbrev pub option_read : List ℕ → ℕ → Option T.Value
  option_read buf at = if nat_eq (slice_index buf at) 1 then Some (T.read buf (at + T.align)) else None

  -- the refusal of an option that is asked by itself: a case counts only where none before it does
  pub data RefusesOption (buf : List ℕ) (lo hi at : ℕ) : Refusal → Type 0 where
    misplaced_option : {e : Refusal} → Misplaced buf option_size T.align at e → RefusesOption buf lo hi at e
    bad_tag : HasPlace buf option_size T.align at → ¬ (slice_index buf at ≡ 0) → ¬ (slice_index buf at ≡ 1) → RefusesOption buf lo hi at (BadEntry at)
    bad_some : HasPlace buf option_size T.align at → slice_index buf at ≡ 1 → MeansNothing T buf lo hi (at + T.align)
        → RefusesOption buf lo hi at (BadEntry (at + T.align))

  abbrev pub option_kind : Kind
  option_kind = record {
    Value = Option T.Value;
    size = option_size;
    align = T.align;
    is_fitting = T.is_fitting && nat_lt option_size (2 ^ 32);
    Means = MeansOption;
    leaves = option_leaves;
    read = option_read;
    same = option_eq T.same;
    order = option_cmp T.order;
    hash_input = fed.option T.hash_input;
  }
