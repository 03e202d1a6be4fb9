-- What comparisons of options owe, by what those of their values owe.
use Rattle.std.specs.Hash as fed
use Rattle.std.specs.Option.{option_eq, option_cmp}
use Rattle.std.specs.Ordering.{is_eq}
use Rattle.std.specs.Prelude.{◌≡◌, ℕ, ◌+◌, ◌⊎◌, Bool, true, false, IsTrue, List, Option, Some, None, nat_eq, slice_index, if◌then◌else◌}
use Rattle.std.specs.declared.cmp.Ordering.{Ordering}
use Rattle.std.specs.declared.cmp.Ordering.TheVariants.{Less, Equal, Greater}
use Rattle.std.proofs.Common.{refl, inl, inr}
use Rattle.rkyv_btree_portable.specs.Kind.{Kind}
use Rattle.rkyv_btree_view.specs.Query.{IsCut, ComparesAs}
use Rattle.rkyv_btree_view.specs.SameAs.{TestsSame}
use Rattle.rkyv_btree_compound.specs.Option.{option_kind}
use Rattle.rkyv_btree_compound.specs.OptionNatives.{order_options, same_options, order_if, same_if, option_compared_at, option_same_at}

module _ (T : Kind) where
  pub options_tied : ((x y : T.Value) → T.same x y ≡ is_eq (T.order x y)) → (o p : Option T.Value) → option_eq T.same o p ≡ is_eq (option_cmp T.order o p)
  options_tied tied None None = refl
  options_tied tied None (Some y) = refl
  options_tied tied (Some x) None = refl
  options_tied tied (Some x) (Some y) = tied x y

  pub options_respect : ((x y : T.Value) → IsTrue (T.same x y) → T.hash_input x ≡ T.hash_input y) → (o p : Option T.Value) → IsTrue (option_eq T.same o p) → fed.option T.hash_input o ≡ fed.option T.hash_input p
  options_respect respects None None same = refl
  options_respect respects None (Some y) same = absurd (cc same)
  options_respect respects (Some x) None same = absurd (cc same)
  options_respect respects (Some x) (Some y) same = rw (respects x y same) refl

  -- a native option beside one whose value is there or not
  compared_read : {N : Type 0} (is_some : Bool) (v : T.Value) (order : N → Ordering) (compared : N → T.Value → Ordering) → ((n : N) → order n ≡ compared n v) → (native : Option N) → order_if is_some order native ≡ order_options compared native (if is_some then Some v else None)
  compared_read false v order compared same None = refl
  compared_read false v order compared same (Some n) = refl
  compared_read true v order compared same None = refl
  compared_read true v order compared same (Some n) = same n

  tested_read : {N : Type 0} (is_some : Bool) (v : T.Value) (test : N → Bool) (same : T.Value → N → Bool) → ((n : N) → test n ≡ same v n) → (native : Option N) → same_if is_some test native ≡ same_options same (if is_some then Some v else None) native
  tested_read false v test same tests None = refl
  tested_read false v test same tests (Some n) = refl
  tested_read true v test same tests None = refl
  tested_read true v test same tests (Some n) = tests n

  module _ {N : Type 0} {compared : N → T.Value → Ordering} (cuts : (n : N) → IsCut T.order (compared n)) where
    cut_less : (native : Option N) (o p : Option T.Value) → option_cmp T.order o p ≡ Less → (order_options compared native o ≡ Greater) ⊎ (order_options compared native p ≡ Less)
    cut_less native None None less = absurd (cc less)
    cut_less None None (Some y) less = inr refl
    cut_less (Some n) None (Some y) less = inl refl
    cut_less native (Some x) None less = absurd (cc less)
    cut_less None (Some x) (Some y) less = inr refl
    cut_less (Some n) (Some x) (Some y) less = (cuts n).less x y less

    cut_equal : (native : Option N) (o p : Option T.Value) → option_cmp T.order o p ≡ Equal → order_options compared native o ≡ order_options compared native p
    cut_equal native None None equal = refl
    cut_equal native None (Some y) equal = absurd (cc equal)
    cut_equal native (Some x) None equal = absurd (cc equal)
    cut_equal None (Some x) (Some y) equal = refl
    cut_equal (Some n) (Some x) (Some y) equal = (cuts n).equal x y equal

  pub option_compares : {N : Type 0} {compared_at : N → List ℕ → ℕ → Ordering} → ComparesAs T compared_at → ComparesAs (option_kind T) (option_compared_at T compared_at)
  option_compares {compared_at} c = record {
    compared = order_options c.compared;
    by_value = λ native b at. compared_read (nat_eq (slice_index b at) 1) (T.read b (at + T.align)) (λ n. compared_at n b (at + T.align)) c.compared (λ n. c.by_value n b (at + T.align)) native;
    cuts = λ native. record { less = cut_less c.cuts native; equal = cut_equal c.cuts native };
  }

  module _ {N : Type 0} {same : T.Value → N → Bool} (alike : (n : N) (x y : T.Value) → same x n ≡ true → same y n ≡ T.same x y) where
    options_alike : (native : Option N) (o p : Option T.Value) → same_options same o native ≡ true → same_options same p native ≡ option_eq T.same o p
    options_alike None None None is = refl
    options_alike None None (Some y) is = refl
    options_alike None (Some x) p is = absurd (cc is)
    options_alike (Some n) None p is = absurd (cc is)
    options_alike (Some n) (Some x) None is = refl
    options_alike (Some n) (Some x) (Some y) is = alike n x y is

  pub option_tests : {N : Type 0} {same_at : N → List ℕ → ℕ → Bool} → TestsSame T same_at → TestsSame (option_kind T) (option_same_at T same_at)
  option_tests {same_at} t = record {
    same = same_options t.same;
    by_value = λ native b at. tested_read (nat_eq (slice_index b at) 1) (T.read b (at + T.align)) (λ n. same_at n b (at + T.align)) t.same (λ n. t.by_value n b (at + T.align)) native;
    alike = options_alike t.alike;
  }
