-- How the steps of a lookup make up what it returns.
use Rattle.std.proofs.Common.{◌≡◌, ℕ, suc, ◌-◌, ◌+◌, List, Option, Some, None, Result, Ok, Err, refl, subst, arith, slice_index}
use Rattle.std.specs.Prelude.{ℤ, pos}
use Rattle.std.specs.declared.cmp.Ordering.{Ordering}
use Rattle.rkyv_btree_portable.specs.Bytes.{target_at}
use Rattle.rkyv_btree_portable.specs.Kind.{Kind}
use Rattle.rkyv_btree_format.specs.Layout.{layout_of, pointer_at}
use Rattle.rkyv_btree_portable.specs.declared.refusal.Refusal.{Refusal}
use Rattle.rkyv_btree_portable.specs.declared.refusal.Refusal.TheVariants.{TooDeep}
use Rattle.rkyv_btree_verify.specs.Refusals.{HasKind, IsInner}
use Rattle.rkyv_btree_unverified.specs.Lookups.{AtChild, AtHalt, TreeGives}
use Rattle.rkyv_btree_unverified.specs.Steps.{Then, GoesOn, HasRoom, PlaceGives, NodeGives, bad_kind, inner_past, too_many, leaf, inner, ChildGives, of_leaf, absent, bad_place, child, KeysGive}
use Rattle.rkyv_btree_unverified.specs.mirror.Passes.{NextGives}
use Rattle.rkyv_btree_unverified.specs.declared.search.Halt.{Halt}
use Rattle.rkyv_btree_unverified.specs.declared.search.Halt.TheVariants.{Found, Below}
use Rattle.rkyv_btree_unverified.specs.declared.search.Next.{Next}
use Rattle.rkyv_btree_unverified.specs.declared.search.Next.TheVariants.{Hit, Miss, Down}

pub has_kind : (K V : Kind) (E : ℕ) (b : List ℕ) (hi p kind : ℕ) → HasRoom K V E hi p → slice_index b p ≡ kind → HasKind K V E b 0 hi p kind
has_kind K V E b hi p kind room is = record { start = omega arith; room = room.room; aligned = room.aligned; kind_byte = is }

module _ (K V : Kind) (E : ℕ) (b : List ℕ) (hi p n : ℕ) where
  -- a node's first byte says which kind it is of
  leaf_from : (r : Result ℕ Refusal) → NodeGives K V E b hi p r → r ≡ Ok n → slice_index b p ≡ 0 → HasKind K V E b 0 hi p 0
  leaf_from r (bad_kind is not_leaf not_inner) e zero_byte = absurd (cc e)
  leaf_from r (inner_past is past) e zero_byte = absurd (cc e)
  leaf_from r (too_many is many) e zero_byte = absurd (cc e)
  leaf_from r (leaf is few) e zero_byte = is
  leaf_from r (inner is) e zero_byte = let one = is.kind_byte in absurd (omega (arith, zero_byte, one))

  inner_from : (r : Result ℕ Refusal) → NodeGives K V E b hi p r → r ≡ Ok n → ¬ (slice_index b p ≡ 0) → IsInner K V E b 0 hi p
  inner_from r (bad_kind is not_leaf not_inner) e other = absurd (cc e)
  inner_from r (inner_past is past) e other = absurd (cc e)
  inner_from r (too_many is many) e other = absurd (cc e)
  inner_from r (leaf is few) e other = absurd (other is.kind_byte)
  inner_from r (inner is) e other = is

  pub leaf_of : NodeGives K V E b hi p (Ok n) → slice_index b p ≡ 0 → HasKind K V E b 0 hi p 0
  leaf_of gives zero_byte = leaf_from (Ok n) gives refl zero_byte

  pub inner_of : NodeGives K V E b hi p (Ok n) → ¬ (slice_index b p ≡ 0) → IsInner K V E b 0 hi p
  inner_of gives other = inner_from (Ok n) gives refl other

module _ (K V : Kind) (E : ℕ) (b : List ℕ) (comparison : K.Value → Ordering) (KR VR : List ℕ → ℕ → ℕ → ℕ → Refusal → Type 0) where
  abbrev Tree : ℕ → ℕ → ℕ → Result (Option (ℕ × ℕ)) Refusal → Type 0
  Tree = TreeGives K V E b comparison KR VR

  pub no_levels : (hi p : ℕ) → Tree 0 hi p (Err (TooDeep (pos p)))
  unfolding TreeGives
  no_levels hi p = refl

  pub levels_over : (levels hi p : ℕ) (r : Result (Option (ℕ × ℕ)) Refusal) → ¬ (levels ≡ 0) → Tree (suc (levels - 1)) hi p r → Tree levels hi p r
  levels_over levels hi p r some h = let same : suc (levels - 1) ≡ levels = omega (arith, some) in subst (λ (k : ℕ). Tree k hi p r) same h

  pub levels_are : (hi p : ℕ) (r : Result (Option (ℕ × ℕ)) Refusal) (levels more : ℕ) → levels ≡ more → Tree levels hi p r → Tree more hi p r
  levels_are hi p r levels more same h = subst (λ (k : ℕ). Tree k hi p r) same h

  module _ (m hi p : ℕ) where
    stepped : (r : Result (Option (ℕ × ℕ)) Refusal) → Then (NodeGives K V E b hi p) (λ n. Then (KeysGive K V E b comparison KR VR p n) (AtHalt K V E b comparison KR VR (Tree m p) hi p)) r → Tree (suc m) hi p r
    unfolding TreeGives
    stepped r h = h

    pub node_refuses : (e : Refusal) → NodeGives K V E b hi p (Err e) → Tree (suc m) hi p (Err e)
    node_refuses e h = stepped (Err e) (record { result = Err e; gives = h; goes_on = refl })

    module _ (n : ℕ) (node : NodeGives K V E b hi p (Ok n)) where
      pub keys_refuse : (e : Refusal) → KeysGive K V E b comparison KR VR p n (Err e) → Tree (suc m) hi p (Err e)
      keys_refuse e h = stepped (Err e) (record { result = Ok n; gives = node; goes_on = record { result = Err e; gives = h; goes_on = refl } })

      pub hits : (i : ℕ) (halt : Halt) → halt ≡ Found i → KeysGive K V E b comparison KR VR p n (Ok halt) → Tree (suc m) hi p (Ok (Some (p, i)))
      hits i halt is h =
          let keys : KeysGive K V E b comparison KR VR p n (Ok (Found i)) = rw is at h in
          stepped (Ok (Some (p, i))) (record { result = Ok n; gives = node; goes_on = record { result = Ok (Found i); gives = keys; goes_on = refl } })

      module _ (i : ℕ) (halt : Halt) (is : halt ≡ Below i) (h : KeysGive K V E b comparison KR VR p n (Ok halt)) where
        pub goes_below : (c : Result (Option ℕ) Refusal) (r : Result (Option (ℕ × ℕ)) Refusal) → ChildGives K V E b hi p i c → GoesOn (AtChild K V E b comparison KR VR (Tree m p)) c r → Tree (suc m) hi p r
        goes_below c r gives on =
            let keys : KeysGive K V E b comparison KR VR p n (Ok (Below i)) = rw is at h in
            stepped r (record { result = Ok n; gives = node; goes_on = record { result = Ok (Below i); gives = keys; goes_on = record { result = c; gives = gives; goes_on = on } } })

        pub ends_in_leaf : slice_index b p ≡ 0 → Tree (suc m) hi p (Ok None)
        ends_in_leaf zero_byte = goes_below (Ok None) (Ok None) (of_leaf (leaf_of K V E b hi p n node zero_byte)) refl

        module _ (other : ¬ (slice_index b p ≡ 0)) where
          pub ends_absent : target_at b (p + pointer_at (layout_of K V E) i) ≡ None → Tree (suc m) hi p (Ok None)
          ends_absent none = goes_below (Ok None) (Ok None) (absent (inner_of K V E b hi p n node other) none) refl

          pub place_refuses : (z : ℤ) (e : Refusal) → target_at b (p + pointer_at (layout_of K V E) i) ≡ Some z → PlaceGives K V E p z (Err e) → Tree (suc m) hi p (Err e)
          place_refuses z e to bad = goes_below (Err e) (Err e) (bad_place (inner_of K V E b hi p n node other) to bad) refl

          pub goes_down : (z : ℤ) (q : ℕ) → target_at b (p + pointer_at (layout_of K V E) i) ≡ Some z → PlaceGives K V E p z (Ok q) → (r : Result (Option (ℕ × ℕ)) Refusal) → Tree m p q r → Tree (suc m) hi p r
          goes_down z q to place r rest = goes_below (Ok (Some q)) r (child (inner_of K V E b hi p n node other) to place) rest

    -- what is known of the next step, where it is this one
    module _ (next : Next) (h : NextGives K V E b comparison KR VR m hi p (Ok next)) where
      pub hit_gives : (i : ℕ) → next ≡ Hit i → Tree (suc m) hi p (Ok (Some (p, i)))
      hit_gives i is = rw is at h

      pub miss_gives : next ≡ Miss → Tree (suc m) hi p (Ok None)
      miss_gives is = rw is at h

      pub down_gives : (q : ℕ) → next ≡ Down q → (r : Result (Option (ℕ × ℕ)) Refusal) → Tree m p q r → Tree (suc m) hi p r
      down_gives q is = rw is at h
