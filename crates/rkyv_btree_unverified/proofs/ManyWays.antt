-- Steps of searches side by side, in bytes that nobody has validated.
use Rattle.std.proofs.Common.{◌≡◌, ◌∙◌, ℕ, suc, ◌+◌, ◌≤◌, List, length, Option, Some, None, Result, Ok, Err, refl, subst}
use Rattle.std.specs.Prelude.{pos}
use Rattle.std.specs.declared.cmp.Ordering.{Ordering}
use Rattle.rkyv_btree_portable.specs.Kind.{Kind}
use Rattle.rkyv_btree_portable.specs.declared.refusal.Refusal.{Refusal}
use Rattle.rkyv_btree_portable.specs.declared.refusal.Refusal.TheVariants.{TooDeep}
use Rattle.rkyv_btree_unverified.proofs.Goes.{no_levels}
use Rattle.rkyv_btree_unverified.specs.Ends.{result_of}
use Rattle.rkyv_btree_unverified.specs.Lookups.{LookupGives, TreeGives}
use Rattle.rkyv_btree_unverified.specs.declared.many.UnverifiedWay.{UnverifiedWay}
use Rattle.rkyv_btree_unverified.specs.declared.many.UnverifiedWay.TheVariants.{On, Ended}
use Rattle.rkyv_btree_unverified.specs.mirror.Many.{EndStands, HasEnded, IsUnderWay, Steps, WayStands}
use Rattle.rkyv_btree_walk.specs.mirror.Node.{RunStands}

abbrev R : Type 0
R = Result (Option (ℕ × ℕ)) Refusal

module _ (K V : Kind) (E : ℕ) (b : List ℕ) where
  -- what a search ended with stands
  pub found_stands : (p i : ℕ) → length b ≤ 4294967295 → RunStands K V E b p i (i + 1) → EndStands K V E b (Ok (Some (p, i)))
  found_stands p i short stands found is =
      let there : Some (p, i) ≡ found = cc is in (
        short,
        λ e some.
            let same : (p, i) ≡ e = cc (there ∙ some) in
            subst (λ (x : ℕ × ℕ). RunStands K V E b x.0 x.1 (x.1 + 1)) same stands,
      )

  pub none_stands : length b ≤ 4294967295 → EndStands K V E b (Ok None)
  none_stands short found is = let there : None ≡ found = cc is in (short, λ e some. absurd (cc (there ∙ some)))

  pub error_stands : (e : Refusal) → EndStands K V E b (Err e)
  error_stands e found is = absurd (cc is)

  module _ (KR VR : List ℕ → ℕ → ℕ → ℕ → Refusal → Type 0) {Q : Type 0} (Compares : (Q → K.Value → Ordering) → Type 0) (key : Q) where
    -- a search ends in a node, or goes on below it
    pub step_ends : (p hi : ℕ) (end : R) → EndStands K V E b end → ((m : ℕ) (c : Q → K.Value → Ordering) → Compares c → TreeGives K V E b (c key) KR VR (suc m) hi p end)
        → Steps K V E b KR VR Compares key (On p hi) (Ended end)
    step_ends p hi end stands gives = record { stands = stands; gives = λ m c is r same. rw same (gives m c is) }

    pub step_goes : (p hi q : ℕ) → WayStands K V E b (On q p)
        → ((m : ℕ) (c : Q → K.Value → Ordering) → Compares c → (r : R) → TreeGives K V E b (c key) KR VR m p q r → TreeGives K V E b (c key) KR VR (suc m) hi p r)
        → Steps K V E b KR VR Compares key (On p hi) (On q p)
    step_goes p hi q stands gives = record { stands = stands; gives = gives }

    -- one that has ended stays
    pub step_stays : (end : R) → EndStands K V E b end → Steps K V E b KR VR Compares key (Ended end) (Ended end)
    step_stays end stands = record { stands = stands; gives = λ m c is r same. same }

    module _ (at : ℕ) where
      -- a step leads on
      pub under_way_more : (levels m : ℕ) (old new : UnverifiedWay) → levels ≡ suc m → IsUnderWay K V E b KR VR Compares at key levels old → Steps K V E b KR VR Compares key old new
          → IsUnderWay K V E b KR VR Compares at key m new
      under_way_more levels m old new is so step =
          let was = rw is at so in
          record { stands = step.stands; gives = λ c p r given. was.gives c p r (step.gives m c p r given) }

      -- a way that has ended is at what the lookup gives
      pub way_ends : (levels : ℕ) (way : UnverifiedWay) → HasEnded way → IsUnderWay K V E b KR VR Compares at key levels way → (c : Q → K.Value → Ordering) → Compares c
          → LookupGives K V E b (c key) KR VR at (result_of way)
      way_ends levels (On p hi) ended so c is = absurd (ended p hi refl)
      way_ends levels (Ended end) ended so c is = so.gives c is end refl

      -- and so is one of which no level is left
      pub last_ends : (levels : ℕ) (way : UnverifiedWay) → levels ≡ 0 → IsUnderWay K V E b KR VR Compares at key levels way → (c : Q → K.Value → Ordering) → Compares c
          → LookupGives K V E b (c key) KR VR at (result_of way)
      last_ends levels (On p hi) none so c is = so.gives c is (Err (TooDeep (pos p))) (rw none (no_levels K V E b (c key) KR VR hi p))
      last_ends levels (Ended end) none so c is = so.gives c is end refl

      pub end_stands : (levels : ℕ) (way : UnverifiedWay) → IsUnderWay K V E b KR VR Compares at key levels way → EndStands K V E b (result_of way)
      end_stands levels (On p hi) so = error_stands (TooDeep (pos p))
      end_stands levels (Ended end) so = so.stands
