-- What is accepted in a window is read from the widest one, and what the order of its keys makes of it.
use Rattle.std.proofs.Common.{◌≡◌, ℕ, List, sym, subst, arith}
use Rattle.std.specs.Prelude.{Result, Ok, Err, IfErr}
use Rattle.rkyv_btree_verify.proofs.MapLaws.{map_laws}
use Rattle.rkyv_btree_portable.specs.Kind.{Kind, IsLawful}
use Rattle.rkyv_btree_format.specs.Read.{read_map}
use Rattle.rkyv_btree_portable.specs.declared.refusal.Refusal.{Refusal}
use Rattle.rkyv_btree_portable.specs.declared.refusal.Refusal.TheVariants.{OutOfOrder}
use Rattle.rkyv_btree_verify.specs.Refusals.{RefusesMap}
use Rattle.rkyv_btree_format.specs.Spells.{Accepted}
use Rattle.rkyv_btree_format.specs.Increasing.{Increasing, IsOutOfOrder}
use Rattle.rkyv_btree_strict.specs.Strict.{RefusesStrict, no_map, out_of_order}
use Rattle.rkyv_btree_view.specs.Map.{IsMap}

-- an error is for the order of keys
abbrev pub IsForOrder : {A B : Type 0} → (List (A × B) → ℕ → Type 0) → List (A × B) → Refusal → Type 0
IsForOrder Out m e = (index : ℕ) × (e ≡ OutOfOrder index) × Out m index

module _ (K V : Kind) (E : ℕ) (k : IsLawful K) (v : IsLawful V) (b : List ℕ) where
  -- a map in a window is one in the window of all that comes before it
  pub widest : (lo hi at left : ℕ) (m : List (K.Value × V.Value)) → Accepted K V E b lo hi at left m → IsMap K V E b at m
  widest lo hi at left m a =
      let wide = (map_laws K V E k v).widens b lo hi at left 0 at m (omega arith) a.before (omega arith) a in
      (wide.0, wide.2)

  -- its list is what is read
  pub is_what_is_read : (lo hi at left : ℕ) (m : List (K.Value × V.Value)) → Accepted K V E b lo hi at left m → m ≡ read_map K V E b at
  is_what_is_read lo hi at left m a = (map_laws K V E k v).is_read b lo hi at left m a

  -- a view of the same buffer and position reads a list with the same order
  module _ (d : List ℕ) (p at : ℕ) (buffer : d ≡ b) (position : p ≡ at) where
    pub read_there : (lo hi left : ℕ) (m : List (K.Value × V.Value)) → Accepted K V E b lo hi at left m → m ≡ read_map K V E d p
    read_there lo hi left m a = rw (buffer, position) (is_what_is_read lo hi at left m a)

    pub increasing_there : (lo hi left : ℕ) (m : List (K.Value × V.Value)) → Accepted K V E b lo hi at left m → Increasing K.order m → Increasing K.order (read_map K V E d p)
    increasing_there lo hi left m a rises = subst (Increasing K.order) (read_there lo hi left m a) rises

    pub out_there : (lo hi left index : ℕ) (m : List (K.Value × V.Value)) → Accepted K V E b lo hi at left m → IsOutOfOrder K.order m index → IsOutOfOrder K.order (read_map K V E d p) index
    out_there lo hi left index m a o = subst (λ (l : List (K.Value × V.Value)). IsOutOfOrder K.order l index) (read_there lo hi left m a) o

    -- an error for the order of a map that is there is one of a strict map
    pub refused_there : {X : Type 0} (lo hi left : ℕ) (m : List (K.Value × V.Value)) (a : Accepted K V E b lo hi at left m) (r : Result X Refusal) → IfErr r (IsForOrder (IsOutOfOrder K.order) (read_map K V E d p)) → IfErr r (RefusesStrict K V E b lo hi at)
    refused_there lo hi left m a (Ok x) h = tt
    refused_there lo hi left m a (Err e) (index, is, o) =
        subst (λ (f : Refusal). RefusesStrict K V E b lo hi at f) (sym is) (out_of_order m a (subst (λ (l : List (K.Value × V.Value)). IsOutOfOrder K.order l index) (sym (read_there lo hi left m a)) o))

  -- an error of a strict map, where a map isn't refused
  pub only_for_order : {X : Type 0} (lo hi at : ℕ) (e : Refusal) (r : Result X Refusal) → RefusesStrict K V E b lo hi at e → ((f : Refusal) → RefusesMap K V E b lo hi at f → ⊥)
      → ((left index : ℕ) (m : List (K.Value × V.Value)) → Accepted K V E b lo hi at left m → IsOutOfOrder K.order m index → r ≡ Err (OutOfOrder index)) → r ≡ Err e
  only_for_order lo hi at e r (no_map f) none there = absurd (none e f)
  only_for_order lo hi at e r (out_of_order m a o) none there = there _ _ m a o

  -- an error of a strict map, where there is no map
  pub only_of_map : (lo hi at : ℕ) (e : Refusal) → RefusesStrict K V E b lo hi at e → ((left : ℕ) (m : List (K.Value × V.Value)) → Accepted K V E b lo hi at left m → ⊥) → RefusesMap K V E b lo hi at e
  only_of_map lo hi at e (no_map f) none = f
  only_of_map lo hi at e (out_of_order m a o) none = absurd (none _ m a)
