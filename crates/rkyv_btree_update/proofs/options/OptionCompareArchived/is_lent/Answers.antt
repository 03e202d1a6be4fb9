-- An option shows what its value shows, if it has one.
use Rattle.std.proofs.Common.{◌≡◌, ℕ, ◌+◌, Bool, true, false, List, Option, Some, None, option_map, if◌then◌else◌, nat_eq, slice_index, refl, ap, subst}
use Rattle.std.specs.Cmp.Lexicographic.{options_total}
use Rattle.std.specs.Option.{option_cmp}
use Rattle.std.specs.declared.cmp.Ordering.{Ordering}
use Rattle.std.specs.declared.cmp.Ordering.TheVariants.{Equal}
use Rattle.rkyv_btree_archive.specs.laws.OptionArchived.{same_option}
use Rattle.rkyv_btree_compound.specs.Option.{MeansTagged, option_kind}
use Rattle.rkyv_btree_portable.specs.Kind.{Kind}
use Rattle.rkyv_btree_writer.specs.Archiving.{Matches}
use Rattle.rkyv_btree_update.proofs.options.OptionCompareArchived.is_lent.Goals as goal

-- options match where their values do
module _ (K A : Kind) (k : Matches K A) where
  same_tagged : (b : List ℕ) (lo hi at left : ℕ) (o : Option K.Value) → MeansTagged K b lo hi at left o → MeansTagged A b lo hi at left (option_map k.to o)
  same_tagged b lo hi at left None m = m
  same_tagged b lo hi at left (Some v) m = (m.0, subst (λ n. A.Means b lo hi (at + n) left (k.to v)) k.align (k.means b lo hi (at + K.align) left v m.1))

  abbrev match_option : Matches (option_kind K) (option_kind A)
  match_option =
      let option = same_option K A k in
      record {
        to = option_map k.to;
        size = option.size;
        align = option.align;
        fits = option.fits;
        means = λ b lo hi at left o m. record { lies = (option.means b lo hi at left o m).lies; tagged = same_tagged b lo hi at left o m.tagged };
      }

mapped : {A B C D : Type 0} (f : A → B) (g : B → D) (h : A → C) (k : C → D) → ((a : A) → k (h a) ≡ g (f a)) → (o : Option A) → option_map k (option_map h o) ≡ option_map g (option_map f o)
mapped f g h k same None = refl
mapped f g h k same (Some a) = ap Some (same a)

kept : {A B : Type 0} (f : A → B) (g : B → A) → ((a : A) → g (f a) ≡ a) → (o : Option A) → option_map g (option_map f o) ≡ o
kept f g same None = refl
kept f g same (Some a) = ap Some (same a)

chosen : {A B : Type 0} (f : A → B) (is_some : Bool) (b : B) (a : A) → b ≡ f a → (if is_some then Some b else None) ≡ option_map f (if is_some then Some a else None)
chosen f true b a same = ap Some same
chosen f false b a same = refl

orders : {A B : Type 0} (f : A → B) (order : A → A → Ordering) (other : B → B → Ordering) → ((x y : A) → order x y ≡ other (f x) (f y)) → (o p : Option A) → option_cmp order o p ≡ option_cmp other (option_map f o) (option_map f p)
orders f order other same None None = refl
orders f order other same None (Some y) = refl
orders f order other same (Some x) None = refl
orders f order other same (Some x) (Some y) = same x y

exact : {A : Type 0} (order : A → A → Ordering) → ((x y : A) → order x y ≡ Equal → x ≡ y) → (o p : Option A) → option_cmp order o p ≡ Equal → o ≡ p
exact order same None None e = refl
exact order same None (Some y) e = cc e
exact order same (Some x) None e = cc e
exact order same (Some x) (Some y) e = ap Some (same x y e)

pub returns : goal.returns
returns g c =
    let x = c.is_lent.ensures in
    record {
      same = match_option _ _ x.same;
      meant = option_map x.meant;
      of_value = option_map x.of_value;
      means = mapped g.X.CompareArchived.shown x.meant _ x.same.to x.means;
      reads = λ b at. chosen x.of_value (nat_eq (slice_index b at) 1) _ _ (x.reads b _);
      back = kept x.of_value x.meant x.back;
      compared = λ o p. orders g.X.CompareArchived.shown _ g.X.CompareArchived.order x.compared o p;
      alike = orders x.meant g.X.CompareArchived.order _ x.alike;
      total = options_total x.total;
      exact = exact g.X.CompareArchived.order x.exact;
    }
