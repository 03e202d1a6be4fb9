-- What options owe as items.
use Rattle.std.specs.Option.{option_cmp}
use Rattle.std.specs.Prelude.{◌≡◌, ℕ, ◌+◌, Bool, true, false, List, Option, Some, None, nat_eq, option_map, slice_index, if◌then◌else◌}
use Rattle.std.specs.declared.cmp.Ordering.{Ordering}
use Rattle.std.proofs.Common.{refl, sym, ap, subst, arith}
use Rattle.btreekv_items.specs.Bytes.{AreBytes}
use Rattle.btreekv_items.specs.Items.{IsSpelledApart, SameValues}
use Rattle.btreekv_items.specs.Optional.{IsNeverEmpty, IsOptional, optional_at, optional_text}
use Rattle.btreekv_items.specs.declared.item.BytesStyle.{BytesStyle}
use Rattle.rkyv_btree_archive.specs.OptionArchival.{option_archival}
use Rattle.rkyv_btree_archive.specs.laws.OptionArchived.{same_option}
use Rattle.rkyv_btree_compound.specs.Option.{MeansTagged, option_kind}
use Rattle.rkyv_btree_portable.specs.Kind.{Kind}
use Rattle.rkyv_btree_portable.specs.Standing.{IsAligned}
use Rattle.rkyv_btree_writer.specs.Archiving.{Archival, Matches}

pub optional_apart : {Value : Type 0} {IsValue : Value → Type 0} {spelling : BytesStyle → Value → List ℕ} → IsNeverEmpty IsValue spelling
    → IsSpelledApart IsValue spelling → IsSpelledApart (IsOptional IsValue) (optional_text spelling)
optional_apart some apart style None None is is2 e = refl
optional_apart some apart style None (Some y) is is2 e = absurd (some style y is2 (sym e))
optional_apart some apart style (Some x) None is is2 e = absurd (some style x is e)
optional_apart some apart style (Some x) (Some y) is is2 e = ap Some (apart style x y is is2 e)

-- the options of values that lie alike lie alike
module _ (K A : Kind) (k : Matches K A) where
  same_tagged : (b : List ℕ) (lo hi at left : ℕ) (o : Option K.Value) → MeansTagged K b lo hi at left o → MeansTagged A b lo hi at left (option_map k.to o)
  same_tagged b lo hi at left None m = m
  same_tagged b lo hi at left (Some v) m = (m.0, subst (λ n. A.Means b lo hi (at + n) left (k.to v)) k.align (k.means b lo hi (at + K.align) left v m.1))

  pub matching_options : Matches (option_kind K) (option_kind A)
  matching_options =
      let same = same_option K A k in
      record {
        to = option_map k.to;
        size = same.size;
        align = same.align;
        fits = same.fits;
        means = λ b lo hi at left o m.
            let l = m.lies in
            let size = same.size in
            record {
              lies = record { short = l.short; inside = omega arith; aligned = subst (λ a. IsAligned a at) k.align l.aligned; forward = l.forward; kept = l.kept; before = l.before };
              tagged = same_tagged b lo hi at left o m.tagged;
            };
      }

module _ {X R Value : Type 0} {T : Archival X R} {kind : Kind} {IsValue : Value → Type 0} {order : Value → Value → Ordering}
    {value_at : List ℕ → ℕ → Value} {native_value : X → Value} {native_order : X → X → Ordering}
    (same : SameValues T kind IsValue order value_at native_value native_order) where
  back : (o : Option kind.Value) → option_map same.from (option_map same.to o) ≡ o
  back None = refl
  back (Some v) = ap Some (same.from_to v)

  forth : (o : Option Value) → option_map same.to (option_map same.from o) ≡ o
  forth None = refl
  forth (Some x) = ap Some (same.to_from x)

  -- what a tag says
  read : (tag : Bool) (b : List ℕ) (at : ℕ) → (if tag then Some (value_at b at) else None) ≡ option_map same.to (if tag then Some (kind.read b at) else None)
  read true b at = ap Some (same.read b at)
  read false b at = refl

  meant : (b : List ℕ) (lo hi at left : ℕ) (o : Option kind.Value) → AreBytes b → MeansTagged kind b lo hi at left o → IsOptional IsValue (option_map same.to o)
  meant b lo hi at left None bytes m = tt
  meant b lo hi at left (Some v) bytes m = same.meant b lo hi (at + kind.align) left v bytes m.1

  native : (x : Option X) → option_map native_value x ≡ option_map same.to (option_map same.same.to (option_map T.meaning x))
  native None = refl
  native (Some x) = ap Some (same.native x)

  ordered : (v w : Option kind.Value) → option_cmp kind.order v w ≡ option_cmp order (option_map same.to v) (option_map same.to w)
  ordered None None = refl
  ordered None (Some w) = refl
  ordered (Some v) None = refl
  ordered (Some v) (Some w) = same.ordered v w

  natively : (x y : Option X) → option_cmp native_order x y ≡ option_cmp order (option_map native_value x) (option_map native_value y)
  natively None None = refl
  natively None (Some y) = refl
  natively (Some x) None = refl
  natively (Some x) (Some y) = same.natively x y

  pub optional_same : SameValues (option_archival T) (option_kind kind) (IsOptional IsValue) (option_cmp order) (optional_at kind.align value_at) (option_map native_value) (option_cmp native_order)
  unfolding matching_options
  optional_same = record {
    same = matching_options T.kind kind same.same;
    to = option_map same.to;
    from = option_map same.from;
    from_to = back;
    to_from = forth;
    read = λ b at. read (nat_eq (slice_index b at) 1) b (at + kind.align);
    meant = λ b lo hi at left o bytes m. meant b lo hi at left o bytes m.tagged;
    native = native;
    ordered = ordered;
    natively = natively;
  }
