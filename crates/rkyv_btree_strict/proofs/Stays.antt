-- Writes over values keep the keys.
use Rattle.std.proofs.Common.{◌≡◌, ℕ, zero, suc, List, [], ◌∷◌, Option, Some, None, refl, sym, ap, ◌∙◌, subst}
use Rattle.std.specs.Borrow.{MutBor}
use Rattle.std.specs.List.Sorted.{IsStrictlySortedBy}
use Rattle.std.specs.Map.{keys_of}
use Rattle.std.specs.Prelude.{MatchOption}
use Rattle.std.specs.declared.ops.ControlFlow.{ControlFlow}
use Rattle.std.specs.declared.ops.ControlFlow.TheVariants.{Continue, Break}
use Rattle.rkyv_btree_portable.specs.Kind.{Kind}
use Rattle.rkyv_btree_seal.specs.Places.{PutsEntry}
use Rattle.rkyv_btree_seal.specs.Put.{put_value}
use Rattle.rkyv_btree_seal.specs.Visits.{Goes}
use Rattle.rkyv_btree_seal.specs.declared.lent_key.LentKey.{LentKey}
use Rattle.rkyv_btree_seal.specs.declared.seal.Seal.{Seal}
use Rattle.rkyv_btree_strict.specs.Stays.{HasItsKeys, PutsKeepStrict, SetsKeepStrict, VisitsKeepStrict}
use Rattle.rkyv_btree_strict.specs.Strict.{IsStrictMap}

same_keys : {A B : Type 0} (m : List (A × B)) (i : ℕ) (v : B) → keys_of (put_value m i v) ≡ keys_of m
same_keys [] i v = refl
same_keys (e ∷ m) zero v = refl
same_keys (e ∷ m) (suc i) v = ap (λ ks. e.0 ∷ ks) (same_keys m i v)

module _ (K V : Kind) (E : ℕ) where
  pub puts_keep : PutsKeepStrict K V E
  puts_keep b c own at e m puts is =
      let i = puts.entry.0 in
      let a = puts.accepted i 0 at is.map.0 m puts.entry.1 is.map.1 in
      let keys = same_keys m i _ in
      (_, record { map = (is.map.0, a); increasing = subst (IsStrictlySortedBy K.order) (sym keys) is.increasing }, keys)

  unchanged : (b c : List ℕ) (at : ℕ) (m : List (K.Value × V.Value)) → c ≡ b → IsStrictMap K V E b at m → HasItsKeys K V E m c at
  unchanged b c at m same is = subst (λ (d : List ℕ). HasItsKeys K V E m d at) (sym same) (m, is, refl)

  pub sets_keep : SetsKeepStrict K V E
  sets_keep b c own at comparison result m sets is = case sets.found sets.puts
    where
      case : (found : Option (ℕ × ℕ)) → MatchOption found (c ≡ b) (λ e. PutsEntry K V E b at e own c) → HasItsKeys K V E m c at
      case None same = unchanged b c at m same is
      case (Some e) puts = puts_keep b c own at e m puts is

  further : (c : List ℕ) (at : ℕ) (m n : List (K.Value × V.Value)) → keys_of n ≡ keys_of m → HasItsKeys K V E n c at → HasItsKeys K V E m c at
  further c at m n same (l, is, keys) = (l, is, keys ∙ same)

  after : {T : Type 0} {Ends Rest : Type 0} (outcome : ControlFlow T (Unit {0})) (result : Option T) (n : List (K.Value × V.Value)) (c : List ℕ) (at : ℕ)
      → Goes outcome result Ends Rest → (Ends → HasItsKeys K V E n c at) → (Rest → HasItsKeys K V E n c at) → HasItsKeys K V E n c at
  after (Break t) result n c at goes ends rest = ends goes.1
  after (Continue u) result n c at goes ends rest = rest goes

  module _ {X Y T F : Type 0} (step : F → LentKey X → MutBor (Seal Y) → ControlFlow T (Unit {0}) → MutBor (Seal Y) → F → Type 0) where
    pub visits_keep : VisitsKeepStrict K V E step
    visits_keep b c at [] first last result m visits is = unchanged b c at m visits.0 is
    visits_keep b c at (e ∷ es) first last result m (outcome, left, g, calls, goes) is =
        let one = puts_keep b left _ at e m calls.puts is in
        further c at m one.0 one.2 (after outcome result one.0 c at goes (λ ends. unchanged left c at one.0 ends.0 one.1) (λ rest. visits_keep left c at es g last result one.0 rest one.1))
