-- What the check refuses has the fault that it names.
use Rattle.std.proofs.Common.{◌≡◌, ◌⊎◌, inl, inr, ℕ, zero, suc, ◌+◌, ◌%◌, ◌≤◌, ◌||◌, Bool, true, false, if◌then◌else◌, List, [], ◌∷◌, length, Option, Some, None, Result, Ok, Err, ℤ, pos, negsuc, refl, sym, ap, add-one, ◌∙◌, subst, nat_eq, nat_lt, slice_index, arith}
use Rattle.std.proofs.lemmas.Bool.{eqb-true, eqb-false, ltb-false, ltb-true}
use Rattle.std.proofs.lemmas.Int.{ints}
use Rattle.rkyv_btree_portable.specs.declared.refusal.Refusal.{Refusal}
use Rattle.rkyv_btree_portable.specs.declared.refusal.Refusal.TheVariants.{OutOfRange, Misaligned, BadKind, InvalidLength, BadEntry, TooDeep, EntriesLengthMismatch, TooLong}
use Rattle.rkyv_btree_verify.specs.declared.verify.Checked.{Checked}
use Rattle.rkyv_btree_portable.specs.Bytes.{number_at, place_at, target_at}
use Rattle.rkyv_btree_verify.specs.mirror.Check.{◌>>=◌, node_place, check_entry, check_entries, check_leaf, check_target, check_pointer, check_pointers, check_inner, check_placed, check_node, check_tree, check_root, check_map}
use Rattle.rkyv_btree_portable.specs.Refusing.{or_bad, HasPlace, MeansNothing, too_long, no_room, unaligned}
use Rattle.rkyv_btree_portable.specs.Kind.{Kind, Leaves, Decides}
use Rattle.rkyv_btree_format.specs.Layout.{layout_of, key_at, value_at, align, len_at, leaf_size, inner_size, pointer_at}
use Rattle.rkyv_btree_shape.specs.Tree.{Child, list}
use Rattle.rkyv_btree_verify.specs.Refusals.{HasKind, IsInner, RefusesEntries, in_key, in_value, in_later, Children, RefusesNode, too_deep, starts_before, ends_past, misaligned, bad_kind, inner_past, leaf_length, leaf_entry, in_child, inner_entry, RefusesPointers, here, later, RefusesMap, misplaced, in_tree, other_total}
use Rattle.rkyv_btree_portable.specs.laws.Choices.{chosen}
use Rattle.rkyv_btree_verify.proofs.Results.{bind_ok, bind_err, or_bad_ok, or_bad_err}
use Rattle.rkyv_btree_verify.proofs.Sound.{Placed, place_sound, FoundNode, pointer_sound, pointers_inside, node_sound, or_false}

or_true : (a b : Bool) → (a || b) ≡ true → (a ≡ true) ⊎ (b ≡ true)
or_true true b e = inl refl
or_true false b e = inr e

nothing : (K : Kind) (leaves : Leaves) (b : List ℕ) (lo hi at : ℕ) → Decides K leaves → leaves b lo hi at ≡ None → MeansNothing K b lo hi at
nothing K leaves b lo hi at d e = λ lo2 v m. let f = d.only b lo hi at lo2 v m in absurd (cc (e, f))

module _ (K V : Kind) (E : ℕ) (keys values : Leaves) (b : List ℕ) (ks : Decides K keys) (vs : Decides V values) where
  pub record FoundBad (p n i lo : ℕ) (e : Refusal) : Type 0 where
    pub at : ℕ
    pub named : BadEntry at ≡ e
    pub fault : RefusesEntries K V E b p n i lo at

  pub entries_refused : (p n i lo : ℕ) (e : Refusal) → lo ≤ p → check_entries (layout_of K V E) keys values b p n i lo ≡ Err e → FoundBad p n i lo e
  unfolding check_entry
  entries_refused p zero i lo e before h = absurd (cc h)
  entries_refused p (suc n) i lo e before h =
      let s = layout_of K V E in
      let first = or_bad (p + key_at s i) (keys b lo p (p + key_at s i)) in
      let second = λ (mid : ℕ). or_bad (p + value_at s i) (values b mid p (p + value_at s i)) in
      elim (bind_err (check_entry s keys values b p i lo) (λ next. check_entries s keys values b p n (i + 1) next) e h) [
        | inl f ↦ elim (bind_err first second e f) [
          | inl k ↦
              let bad = or_bad_err (p + key_at s i) (keys b lo p (p + key_at s i)) e k in
              record { at = p + key_at s i; named = sym bad.1; fault = in_key (nothing K keys b lo p (p + key_at s i) ks bad.0) }
          | inr k ↦
              let key = ks.found b lo p (p + key_at s i) k.0 before (omega arith) (or_bad_ok _ _ _ k.1) in
              let bad = or_bad_err (p + value_at s i) (values b k.0 p (p + value_at s i)) e k.2 in
              record { at = p + value_at s i; named = sym bad.1; fault = in_value key.1 (nothing V values b k.0 p (p + value_at s i) vs bad.0) }
        ]
        | inr f ↦
            let parts = bind_ok first second f.0 f.1 in
            let key = ks.found b lo p (p + key_at s i) parts.0 before (omega arith) (or_bad_ok _ _ _ parts.1) in
            let after_key = ks.within b lo p (p + key_at s i) parts.0 key.0 key.1 in
            let value = vs.found b parts.0 p (p + value_at s i) f.0 after_key.1 (omega arith) (or_bad_ok _ _ _ parts.2) in
            let after_value = vs.within b parts.0 p (p + value_at s i) f.0 value.0 value.1 in
            let rest = entries_refused p n (i + 1) f.0 e after_value.1 f.2 in
            record { at = rest.at; named = rest.named; fault = in_later key.1 value.1 rest.fault }
      ]

  named : (levels : ℕ) (p : ℤ) (lo hi : ℕ) (d e : Refusal) → d ≡ e → RefusesNode K V E b levels p lo hi d → RefusesNode K V E b levels p lo hi e
  named levels p lo hi d e same fault = subst (λ (r : Refusal). RefusesNode K V E b levels p lo hi r) same fault

  place_refused : (levels : ℕ) (p : ℤ) (lo hi : ℕ) (e : Refusal) → node_place (layout_of K V E) p lo hi ≡ Err e → RefusesNode K V E b (suc levels) p lo hi e
  place_refused levels (negsuc n) lo hi e h = named _ _ _ _ (OutOfRange (negsuc n)) e (cc h) (starts_before (omega (arith, ints)))
  place_refused levels (pos p) lo hi e h =
      let s = layout_of K V E in
      elim (chosen (nat_lt p lo || nat_lt hi (p + leaf_size s)) _ _ (Err e) h) [
        | inl k ↦ named _ _ _ _ (OutOfRange (pos p)) e (cc k.1) (elim (or_true (nat_lt p lo) (nat_lt hi (p + leaf_size s)) k.0) [
          | inl t ↦ let l = ltb-true p lo t in starts_before (omega (arith, ints))
          | inr t ↦ let l = ltb-true hi (p + leaf_size s) t in ends_past (omega (arith, ints))
        ])
        | inr k ↦
            let tests = or_false (nat_lt p lo) (nat_lt hi (p + leaf_size s)) k.0 in
            elim (chosen (nat_eq (p % align s) 0) _ _ (Err e) k.1) [
              | inl t ↦ absurd (cc t.1)
              | inr t ↦ named _ _ _ _ (Misaligned p) e (cc t.1) (misaligned (ltb-false p lo tests.0) (ltb-false hi (p + leaf_size s) tests.1) (eqb-false (p % align s) 0 t.0))
            ]
      ]

  leaf_refused : (levels p lo hi : ℕ) (e : Refusal) → HasKind K V E b lo hi p 0 → check_leaf (layout_of K V E) keys values b p lo ≡ Err e → RefusesNode K V E b (suc levels) (pos p) lo hi e
  unfolding check_leaf
  leaf_refused levels p lo hi e at h =
      let s = layout_of K V E in
      let n = number_at b (p + len_at s) 4 in
      elim (chosen (nat_lt E n) _ _ (Err e) h) [
        | inl k ↦ named _ _ _ _ (InvalidLength (record { len = n; maximum = E })) e (cc k.1) (leaf_length at (ltb-true E n k.0))
        | inr k ↦ elim (bind_err (check_entries s keys values b p n 0 lo) (λ _. Ok (record { lo = p + leaf_size s; entries = n })) e k.1) [
          | inl f ↦ let bad = entries_refused p n 0 lo e at.start f in named _ _ _ _ (BadEntry bad.at) e bad.named (leaf_entry at (ltb-false E n k.0) bad.fault)
          | inr f ↦ absurd (cc f.2)
        ]
      ]

  -- where the check of a node on the next level finds trees and faults, the check of an inner node does
  module _ (node : ℤ → ℕ → ℕ → Result Checked Refusal) (levels : ℕ)
      (sound : (p : ℤ) (lo hi : ℕ) (c : Checked) → node p lo hi ≡ Ok c → FoundNode K V E keys values b ks vs levels p lo hi c)
      (refused : (p : ℤ) (lo hi : ℕ) (e : Refusal) → node p lo hi ≡ Err e → RefusesNode K V E b levels p lo hi e) where
    pub record FoundTarget (p i lo : ℕ) (e : Refusal) : Type 0 where
      pub leads : ℤ
      pub target_is : target_at b (p + pointer_at (layout_of K V E) i) ≡ Some leads
      pub fault : RefusesNode K V E b levels leads lo p e

    target_refused : (p i : ℕ) (so_far : Checked) (e : Refusal) (o : Option ℤ) → target_at b (p + pointer_at (layout_of K V E) i) ≡ o → check_target (layout_of K V E) keys values b node p so_far o ≡ Err e → FoundTarget p i so_far.lo e
    target_refused p i so_far e None t h = absurd (cc h)
    target_refused p i so_far e (Some q) t h =
        elim (bind_err (node q so_far.lo p) (λ k. Ok (record { lo = k.lo; entries = so_far.entries + k.entries })) e h) [
          | inl f ↦ record { leads = q; target_is = t; fault = refused q so_far.lo p e f }
          | inr f ↦ absurd (cc f.2)
        ]

    pointer_refused : (p i : ℕ) (so_far : Checked) (e : Refusal) → check_pointer (layout_of K V E) keys values b node p i so_far ≡ Err e → FoundTarget p i so_far.lo e
    unfolding check_pointer
    pointer_refused p i so_far e h = target_refused p i so_far e (target_at b (p + pointer_at (layout_of K V E) i)) refl h

    pointers_refused : (p n i : ℕ) (so_far : Checked) (e : Refusal) → check_pointers (layout_of K V E) keys values b node p n i so_far ≡ Err e → RefusesPointers K V E b levels p n i so_far.lo e
    pointers_refused p zero i so_far e h = absurd (cc h)
    pointers_refused p (suc n) i so_far e h =
        elim (bind_err (check_pointer (layout_of K V E) keys values b node p i so_far) (λ next. check_pointers (layout_of K V E) keys values b node p n (i + 1) next) e h) [
          | inl f ↦ let found = pointer_refused p i so_far e f in here found.target_is found.fault
          | inr f ↦
              let found = pointer_sound K V E keys values b ks vs node levels sound p i so_far f.0 f.1 in
              later found.child found.spelled found.depth (pointers_refused p n (i + 1) f.0 e f.2)
        ]

    pub record FoundChildren (p n i lo next : ℕ) : Type 0 where
      pub children : List (Child (K.Value × V.Value))
      pub count : length children ≡ n
      pub spelled : Children K V E b levels p i lo next children

    children_sound : (p n i : ℕ) (so_far c : Checked) → check_pointers (layout_of K V E) keys values b node p n i so_far ≡ Ok c → FoundChildren p n i so_far.lo c.lo
    children_sound p zero i so_far c h = let same : so_far ≡ c = cc h in record { children = []; count = refl; spelled = sym (ap (λ (k : Checked). k.lo) same) }
    children_sound p (suc n) i so_far c h =
        let one = bind_ok (check_pointer (layout_of K V E) keys values b node p i so_far) (λ next. check_pointers (layout_of K V E) keys values b node p n (i + 1) next) c h in
        let found = pointer_sound K V E keys values b ks vs node levels sound p i so_far one.0 one.1 in
        let rest = children_sound p n (i + 1) one.0 c one.2 in
        record { children = found.child ∷ rest.children; count = ap suc rest.count; spelled = (one.0.lo, found.spelled, found.depth, rest.spelled) }

    inner_refused : (p lo hi : ℕ) (e : Refusal) → IsInner K V E b lo hi p → check_inner (layout_of K V E) keys values b node p lo ≡ Err e → RefusesNode K V E b (suc levels) (pos p) lo hi e
    unfolding check_inner
    inner_refused p lo hi e at h =
        let s = layout_of K V E in
        let start : Checked = record { lo = lo; entries = 0 } in
        let all : check_pointers s keys values b node p (E + 1) 0 start ≡ check_pointers s keys values b node p (suc E) 0 start = ap (λ (k : ℕ). check_pointers s keys values b node p k 0 start) (add-one E) in
        elim (bind_err (check_pointers s keys values b node p (E + 1) 0 start) (λ k. check_entries s keys values b p E 0 k.lo >>= λ _. Ok (record { lo = p + inner_size s; entries = k.entries + E })) e h) [
          | inl f ↦ in_child at (pointers_refused p (suc E) 0 start e (sym all ∙ f))
          | inr f ↦ elim (bind_err (check_entries s keys values b p E 0 f.0.lo) (λ _. Ok (record { lo = p + inner_size s; entries = f.0.entries + E })) e f.2) [
            | inl k ↦
                let bad = entries_refused p E 0 f.0.lo e (pointers_inside K V E keys values b ks vs node levels sound p (E + 1) 0 start f.0 at.start f.1) k in
                let found = children_sound p (suc E) 0 start f.0 (sym all ∙ f.1) in
                named _ _ _ _ (BadEntry bad.at) e bad.named (inner_entry at found.children found.count found.spelled bad.fault)
            | inr k ↦ absurd (cc k.2)
          ]
        ]

    placed_refused : (p lo hi : ℕ) (e : Refusal) → Placed (layout_of K V E) (pos p) lo hi p → check_placed (layout_of K V E) keys values b node p lo hi ≡ Err e → RefusesNode K V E b (suc levels) (pos p) lo hi e
    unfolding check_placed
    placed_refused p lo hi e placed h =
        let s = layout_of K V E in
        let kind = slice_index b p in
        elim (chosen (nat_eq kind 0) _ _ (Err e) h) [
          | inl k ↦ leaf_refused levels p lo hi e (record { start = placed.after; room = placed.room; aligned = placed.aligned; kind_byte = eqb-true kind 0 k.0 }) k.1
          | inr k ↦ elim (chosen (nat_eq kind 1) _ _ (Err e) k.1) [
            | inl l ↦
                let at : HasKind K V E b lo hi p 1 = record { start = placed.after; room = placed.room; aligned = placed.aligned; kind_byte = eqb-true kind 1 l.0 } in
                elim (chosen (nat_lt hi (p + inner_size s)) _ _ (Err e) l.1) [
                  | inl o ↦ named _ _ _ _ (OutOfRange (pos p)) e (cc o.1) (inner_past at (ltb-true hi (p + inner_size s) o.0))
                  | inr o ↦ inner_refused p lo hi e (record { start = at.start; room = ltb-false hi (p + inner_size s) o.0; aligned = at.aligned; kind_byte = at.kind_byte }) o.1
                ]
            | inr l ↦ named _ _ _ _ (BadKind p kind) e (cc l.1) (bad_kind (record { start = placed.after; room = placed.room; aligned = placed.aligned; kind_byte = refl }) (eqb-false kind 0 k.0) (eqb-false kind 1 l.0))
          ]
        ]

  pub node_refused : (levels : ℕ) (p : ℤ) (lo hi : ℕ) (e : Refusal) → check_node (layout_of K V E) keys values b levels p lo hi ≡ Err e → RefusesNode K V E b levels p lo hi e
  node_refused zero p lo hi e h = named _ _ _ _ (TooDeep p) e (cc h) too_deep
  node_refused (suc levels) p lo hi e h =
      let s = layout_of K V E in
      elim (bind_err (node_place s p lo hi) (λ start. check_placed s keys values b (check_node s keys values b levels) start lo hi) e h) [
        | inl f ↦ place_refused levels p lo hi e f
        | inr f ↦
            let placed = place_sound s p lo hi f.0 f.1 in
            let fault = placed_refused (check_node s keys values b levels) levels (node_sound K V E keys values b ks vs levels) (node_refused levels) f.0 lo hi e (record { leads = refl; after = placed.after; room = placed.room; aligned = placed.aligned }) f.2 in
            subst (λ (q : ℤ). RefusesNode K V E b (suc levels) q lo hi e) (sym placed.leads) fault
      ]

  said : (lo hi at : ℕ) (d e : Refusal) → d ≡ e → RefusesMap K V E b lo hi at d → RefusesMap K V E b lo hi at e
  said lo hi at d e same refuses = subst (λ (r : Refusal). RefusesMap K V E b lo hi at r) same refuses

  root_refused : (at lo hi : ℕ) (e : Refusal) → HasPlace b 8 4 at → check_root (layout_of K V E) keys values b at lo hi ≡ Err e → RefusesMap K V E b lo hi at e
  unfolding check_root check_tree
  root_refused at lo hi e has h =
      let s = layout_of K V E in
      let n = number_at b (at + 4) 4 in
      elim (chosen (nat_eq n 0) _ _ (Err e) h) [
        | inl k ↦ absurd (cc k.1)
        | inr k ↦ elim (bind_err (check_node s keys values b 32 (place_at b at) lo hi) (λ c. if nat_eq c.entries n then Ok c.lo else Err (EntriesLengthMismatch (record { entries = c.entries; len = n }))) e k.1) [
          | inl f ↦ in_tree has (eqb-false n 0 k.0) (node_refused 32 (place_at b at) lo hi e f)
          | inr f ↦ elim (chosen (nat_eq f.0.entries n) _ _ (Err e) f.2) [
            | inl t ↦ absurd (cc t.1)
            | inr t ↦
                let found = node_sound K V E keys values b ks vs 32 (place_at b at) lo hi f.0 f.1 in
                let total : EntriesLengthMismatch (record { entries = length (list found.tree); len = n }) ≡ EntriesLengthMismatch (record { entries = f.0.entries; len = n }) = ap (λ (k : ℕ). EntriesLengthMismatch (record { entries = k; len = n })) (sym found.total) in
                said _ _ _ _ e (total ∙ cc t.1) (other_total has (eqb-false n 0 k.0) found.tree found.leads found.spelled found.depth (λ same. eqb-false f.0.entries n t.0 (found.total ∙ same)))
          ]
        ]
      ]

  pub map_refused : (at lo hi : ℕ) (e : Refusal) → check_map (layout_of K V E) keys values b at lo hi ≡ Err e → RefusesMap K V E b lo hi at e
  unfolding check_map
  map_refused at lo hi e h =
      elim (chosen (nat_lt 4294967295 (length b)) _ _ (Err e) h) [
        | inl k ↦ said _ _ _ TooLong e (cc k.1) (misplaced (too_long (ltb-true 4294967295 (length b) k.0)))
        | inr k ↦
            let short = ltb-false 4294967295 (length b) k.0 in
            elim (chosen (nat_lt (length b) (at + 8)) _ _ (Err e) k.1) [
              | inl l ↦ said _ _ _ (OutOfRange (pos at)) e (cc l.1) (misplaced (no_room short (ltb-true (length b) (at + 8) l.0)))
              | inr l ↦
                  let room = ltb-false (length b) (at + 8) l.0 in
                  elim (chosen (nat_eq (at % 4) 0) _ _ (Err e) l.1) [
                    | inl t ↦ root_refused at lo hi e (record { short = short; room = room; aligned = eqb-true (at % 4) 0 t.0 }) t.1
                    | inr t ↦ said _ _ _ (Misaligned at) e (cc t.1) (misplaced (unaligned short room (eqb-false (at % 4) 0 t.0)))
                  ]
            ]
      ]
