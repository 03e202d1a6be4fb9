-- No refusal of a map is one for the order of its keys.
use Rattle.std.proofs.Common.{◌≡◌, ℕ, ℤ, List, refl}
use Rattle.rkyv_btree_portable.specs.declared.refusal.Refusal.{Refusal}
use Rattle.rkyv_btree_portable.specs.declared.refusal.Refusal.TheVariants.{OutOfOrder}
use Rattle.rkyv_btree_portable.specs.Kind.{Kind}
use Rattle.rkyv_btree_portable.specs.Refusing.{Misplaced, too_long, no_room, unaligned}
use Rattle.rkyv_btree_verify.specs.Refusals.{RefusesNode, too_deep, starts_before, ends_past, misaligned, bad_kind, inner_past, leaf_length, leaf_entry, in_child, inner_entry}
use Rattle.rkyv_btree_verify.specs.Refusals.{RefusesPointers, here, later, RefusesMap, misplaced, in_tree, other_total}

place : {b : List ℕ} {size align at index : ℕ} {e : Refusal} → Misplaced b size align at e → e ≡ OutOfOrder index → ⊥
place (too_long h) is = cc
place (no_room short h) is = cc
place (unaligned short room h) is = cc

module _ {K V : Kind} {E : ℕ} {b : List ℕ} {index : ℕ} where
  mutual
    node : {levels lo hi : ℕ} {p : ℤ} {e : Refusal} → RefusesNode K V E b levels p lo hi e → e ≡ OutOfOrder index → ⊥
    node too_deep is = cc
    node (starts_before h) is = cc
    node (ends_past h) is = cc
    node (misaligned after room h) is = cc
    node (bad_kind has leaf inner) is = cc
    node (inner_past has past) is = cc
    node (leaf_length has past) is = cc
    node (leaf_entry has le bad) is = cc
    node (in_child has below) is = pointers below is
    node (inner_entry has children len all bad) is = cc

    pointers : {levels p n i lo : ℕ} {e : Refusal} → RefusesPointers K V E b levels p n i lo e → e ≡ OutOfOrder index → ⊥
    pointers (here leads below) is = node below is
    pointers (later c spelled low rest) is = pointers rest is

  refused : {lo hi at : ℕ} {e : Refusal} → RefusesMap K V E b lo hi at e → e ≡ OutOfOrder index → ⊥
  refused (misplaced p) is = place p is
  refused (in_tree has some below) is = node below is
  refused (other_total has some t leads spelled low other) is = cc

  pub no_order : (lo hi at : ℕ) → RefusesMap K V E b lo hi at (OutOfOrder index) → ⊥
  no_order lo hi at h = refused h refl
