-- The node to which a path leads: what is known of the map's own bytes, or of the path's last node.
use Rattle.std.proofs.Common.{◌≡◌, ℕ, suc, ◌-◌, ◌≤◌, List, [], ◌∷◌, ◌++◌, length, length-append, refl, sym, ap, ◌∙◌, subst, arith, Option, Some, None, Ok, Err, IsTrue}
use Rattle.rkyv_btree_portable.specs.Kind.{Kind, IsLawful}
use Rattle.rkyv_btree_format.specs.Layout.{layout_of, are_fitting, inner_size}
use Rattle.rkyv_btree_portable.specs.declared.refusal.Refusal.{Refusal}
use Rattle.rkyv_btree_verify.specs.Refusals.{IsInner}
use Rattle.rkyv_btree_portable.specs.Refusing.{HasPlace}
use Rattle.rkyv_btree_unverified.proofs.Chains.{way_low, way_placed, way_short, way_parts, way_reached, all_end, all_before, inner_room, node_inside}
use Rattle.rkyv_btree_unverified.proofs.Faultless.{no_root, some_root, no_child, some_child, pending_from}
use Rattle.rkyv_btree_unverified.proofs.OnWalks.{last_passes}
use Rattle.rkyv_btree_unverified.proofs.Passes.{with_level}
use Rattle.rkyv_btree_unverified.specs.Steps.{HasRoom, ChildGives, HeadGives}
use Rattle.rkyv_btree_unverified.specs.Walks.{Fails, of_child}
use Rattle.rkyv_btree_unverified.specs.mirror.Faultless.{FaultlessTree}
use Rattle.rkyv_btree_unverified.specs.mirror.Passes.{Passes}
use Rattle.rkyv_btree_unverified.specs.mirror.Walked.{IsWay, LeadsOn, LeadsNowhere, chain_before}
use Rattle.rkyv_btree_walk.specs.Below.{root_place}
use Rattle.rkyv_btree_walk.specs.Nodes.{child_place}

-- an empty path leads to the root
module _ (K V : Kind) (E : ℕ) (b : List ℕ) (at : ℕ) (fs : List (ℕ × ℕ)) (none : fs ≡ []) where
  pub root_none : ◌≡◌ {A = Option ℕ} None (root_place b at) → HeadGives K V E b at (Ok None) → LeadsNowhere K V E b at fs
  root_none leads gives = rw none (record { leads = sym leads; faultless = no_root K V E b at gives })

  pub root_leads : (p : ℕ) → HasPlace b 8 4 at → ◌≡◌ {A = Option ℕ} (Some p) (root_place b at) → HasRoom K V E at p → HeadGives K V E b at (Ok (Some p)) → LeadsOn K V E b at fs p at
  root_leads p placed leads room gives = rw none (record {
    to = record { placed = placed; leads = sym leads; before = refl; room = room };
    faultless = λ tree. some_root K V E b at p gives tree;
  })

module _ (K V : Kind) (E : ℕ) (b : List ℕ) (at : ℕ) (fs all : List (ℕ × ℕ)) (p i : ℕ) (ends : all ≡ fs ++ (p, i) ∷ []) (way : IsWay (layout_of K V E) b at all) where
  pub last_inner : IsInner K V E b 0 (chain_before at fs) p
  last_inner = (way_parts (layout_of K V E) b at fs p i all ends way).2

  pub last_inside : IsInner K V E b 0 (length b) p
  last_inside =
      let parts = way_parts (layout_of K V E) b at fs p i all ends way in
      let low = way_low (layout_of K V E) b at fs parts.0 in
      let place = (way_placed (layout_of K V E) b at fs p i all ends way).room in
      node_inside (layout_of K V E) b (chain_before at fs) p 1 (inner_size (layout_of K V E)) (omega (arith, low, place)) parts.2

  pub last_within : i ≤ E
  last_within = (way_parts (layout_of K V E) b at fs p i all ends way).3

  pub last_none : ◌≡◌ {A = Option ℕ} None (child_place (layout_of K V E) b p i) → ChildGives K V E b (chain_before at fs) p i (Ok None) → LeadsNowhere K V E b at all
  last_none none gives = record {
    leads = all_end (layout_of K V E) b at fs p i all ends ∙ sym none;
    faultless = pending_from K V E b at fs all p i ends (way_short (layout_of K V E) b at fs p i all ends way) (no_child K V E b _ (chain_before at fs) p i gives);
  }

  pub last_leads : (q : ℕ) → ◌≡◌ {A = Option ℕ} (Some q) (child_place (layout_of K V E) b p i) → HasRoom K V E p q → ChildGives K V E b (chain_before at fs) p i (Ok (Some q)) → LeadsOn K V E b at all q p
  last_leads q to room gives =
      let short = way_short (layout_of K V E) b at fs p i all ends way in
      let below : 32 - length all ≡ 31 - length fs = omega (arith, ap length ends, length-append fs ((p, i) ∷ [])) in
      record {
        to = record {
          placed = way_placed (layout_of K V E) b at fs p i all ends way;
          leads = all_end (layout_of K V E) b at fs p i all ends ∙ sym to;
          before = sym (all_before (layout_of K V E) b at fs p i all ends);
          room = room;
        };
        faultless = λ tree. pending_from K V E b at fs all p i ends short (some_child K V E b _ (chain_before at fs) p i q gives (subst (λ n. FaultlessTree K V E b n p q) below tree));
      }

  pub last_fails : IsLawful K → IsLawful V → IsTrue (are_fitting K V E) → (KR VR : List ℕ → ℕ → ℕ → ℕ → Refusal → Type 0) (r : Refusal) → ChildGives K V E b (chain_before at fs) p i (Err r)
      → ((m hi : ℕ) → Passes K V E b (suc m) hi p → ⊥) → Fails K V E b KR VR at r
  last_fails k v fits KR VR r gives never =
      let parts = way_parts (layout_of K V E) b at fs p i all ends way in
      let placed = way_placed (layout_of K V E) b at fs p i all ends way in
      record {
        refuses = of_child (way_reached K V E b k v fits at fs placed parts.0 p parts.1 (inner_room K V E b k v fits (chain_before at fs) p parts.2)) parts.3 gives;
        no_map = λ m map. never (32 - length fs - 1) (chain_before at fs) (with_level K V E b (32 - length fs) (chain_before at fs) p (last_passes K V E b k v fits at m map fs all p i ends way));
      }
