-- How many checks of nodes are begun.
use Rattle.std.proofs.Common.{◌≡◌, inl, inr, ℕ, zero, suc, ◌+◌, ◌-◌, ◌*◌, ◌/◌, ◌%◌, ◌≤◌, if◌then◌else◌, List, length, Option, Some, None, Result, Ok, Err, ℤ, pos, refl, sym, ap, add-one, ◌∙◌, subst, nat_eq, nat_lt, slice_index, arith}
use Rattle.std.proofs.lemmas.Bool.{eq-eqb, ne_eqb, le-ltb}
use Rattle.std.proofs.lemmas.Nat.{le-div}
use Rattle.rkyv_btree_portable.specs.declared.refusal.Refusal.{Refusal}
use Rattle.rkyv_btree_verify.specs.declared.verify.Checked.{Checked}
use Rattle.rkyv_btree_portable.specs.Bytes.{number_at, place_at, target_at}
use Rattle.rkyv_btree_verify.specs.mirror.Check.{node_place, check_target, check_pointer, check_node}
use Rattle.rkyv_btree_verify.specs.mirror.Counted.{steps_after, target_steps, pointer_steps, pointers_steps, placed_steps, node_steps, tree_steps, root_steps, map_steps}
use Rattle.rkyv_btree_portable.specs.Kind.{Kind, Leaves, Decides}
use Rattle.rkyv_btree_format.specs.Layout.{layout_of, leaf_size, inner_size, pointer_at}
use Rattle.rkyv_btree_format.specs.Spells.{Spells, SpellsRow, SpellsChild, Accepted, accepted_nodes}
use Rattle.rkyv_btree_shape.specs.Tree.{Tree, leaf, inner, Row, last, step, Child, absent, child, child_list, height, row_height, child_height, row_entries, nodes, row_nodes, child_nodes}
use Rattle.rkyv_btree_verify.proofs.Results.{bind_ok}
use Rattle.rkyv_btree_portable.specs.laws.Choices.{chosen}
use Rattle.rkyv_btree_format.proofs.Sizes.{IsSound, follow, leaf_some}
use Rattle.rkyv_btree_verify.proofs.Sound.{node_sound, place_sound}
use Rattle.rkyv_btree_verify.proofs.Complete.{place_complete, child_complete}
use Rattle.rkyv_btree_verify.proofs.Claims.{tree_nodes}

module _ (K V : Kind) (E : ℕ) (keys values : Leaves) (b : List ℕ) (ks : Decides K keys) (vs : Decides V values) (fits : IsSound (layout_of K V E)) where
  leaf_steps : (m : List (K.Value × V.Value)) (levels lo hi p : ℕ) → Spells K V E b lo hi p (leaf m) → node_steps (layout_of K V E) keys values b (suc levels) (pos p) lo hi ≡ 1
  unfolding placed_steps
  leaf_steps m levels lo hi p h = let at = h.0 in rw (place_complete (layout_of K V E) lo hi p at.start at.room at.aligned) (rw (eq-eqb (slice_index b p) 0 at.kind_byte) refl)

  inner_steps : (row : Row (K.Value × V.Value)) (levels lo hi p : ℕ) → Spells K V E b lo hi p (inner row) → pointers_steps (layout_of K V E) keys values b (check_node (layout_of K V E) keys values b levels) (node_steps (layout_of K V E) keys values b levels) p (suc E) 0 (record { lo = lo; entries = 0 }) ≡ row_nodes row → node_steps (layout_of K V E) keys values b (suc levels) (pos p) lo hi ≡ 1 + row_nodes row
  unfolding placed_steps
  inner_steps row levels lo hi p h below =
      let s = layout_of K V E in
      let at = h.0 in
      let room = follow s fits in
      let all : pointers_steps s keys values b (check_node s keys values b levels) (node_steps s keys values b levels) p (E + 1) 0 (record { lo = lo; entries = 0 }) ≡ row_nodes row =
      subst (λ (k : ℕ). pointers_steps s keys values b (check_node s keys values b levels) (node_steps s keys values b levels) p k 0 (record { lo = lo; entries = 0 }) ≡ row_nodes row) (sym (add-one E)) below in
      rw (place_complete s lo hi p at.start (omega (arith, at.room)) at.aligned)
      (rw (ne_eqb (slice_index b p) 0 (λ e. absurd (omega (arith, at.kind_byte))), eq-eqb (slice_index b p) 1 at.kind_byte, le-ltb hi (p + inner_size s) at.room, all) refl)

  mutual
    unfolding pointer_steps

    pub spelled_steps : (t : Tree (K.Value × V.Value)) (levels lo hi p : ℕ) → Spells K V E b lo hi p t → height t ≤ levels → node_steps (layout_of K V E) keys values b levels (pos p) lo hi ≡ nodes t
    spelled_steps (leaf m) zero lo hi p h depth = absurd (omega arith)
    spelled_steps (leaf m) (suc levels) lo hi p h depth = leaf_steps m levels lo hi p h
    spelled_steps (inner row) zero lo hi p h depth = absurd (omega arith)
    spelled_steps (inner row) (suc levels) lo hi p h depth =
        let s = layout_of K V E in
        inner_steps row levels lo hi p h (subst (λ (k : ℕ). pointers_steps s keys values b (check_node s keys values b levels) (node_steps s keys values b levels) p (suc k) 0 (record { lo = lo; entries = 0 }) ≡ row_nodes row) h.1 (row_steps row levels p 0 lo h.2 0 h.3 (omega arith)))

    pub row_steps : (row : Row (K.Value × V.Value)) (levels p i lo mid so_far : ℕ) → SpellsRow K V E b p i lo mid row → row_height row ≤ levels → pointers_steps (layout_of K V E) keys values b (check_node (layout_of K V E) keys values b levels) (node_steps (layout_of K V E) keys values b levels) p (suc (length (row_entries row))) i (record { lo = lo; entries = so_far }) ≡ row_nodes row
    row_steps (last c) levels p i lo mid so_far h depth =
        rw (child_steps c levels p i lo mid so_far h depth, child_complete K V E keys values b ks vs fits c levels p i lo mid so_far h depth) (omega arith)
    row_steps (step c x row) levels p i lo mid so_far h depth =
        rw (child_steps c levels p i lo h.0 so_far h.1 (omega arith), child_complete K V E keys values b ks vs fits c levels p i lo h.0 so_far h.1 (omega arith))
        (ap (λ (n : ℕ). child_nodes c + n) (row_steps row levels p (i + 1) h.0 mid (so_far + length (child_list c)) h.2 (omega arith)))

    pub child_steps : (c : Child (K.Value × V.Value)) (levels p i lo next so_far : ℕ) → SpellsChild K V E b p i lo next c → child_height c ≤ levels → pointer_steps (layout_of K V E) keys values b (check_node (layout_of K V E) keys values b levels) (node_steps (layout_of K V E) keys values b levels) p i (record { lo = lo; entries = so_far }) ≡ child_nodes c
    child_steps absent levels p i lo next so_far h depth = rw h.0 refl
    child_steps (child t) levels p i lo next so_far h depth = rw (h.1, spelled_steps t levels lo p h.0 h.2 depth) refl

  -- a check that finds a tree takes its steps' leaves from the window
  node_paced : (levels : ℕ) (p : ℤ) (lo hi : ℕ) (c : Checked) → check_node (layout_of K V E) keys values b levels p lo hi ≡ Ok c → node_steps (layout_of K V E) keys values b levels p lo hi * leaf_size (layout_of K V E) + lo ≤ c.lo
  node_paced levels p lo hi c e =
      let s = layout_of K V E in
      let found = node_sound K V E keys values b ks vs levels p lo hi c e in
      let steps : node_steps s keys values b levels p lo hi ≡ nodes found.tree = ap (λ (q : ℤ). node_steps s keys values b levels q lo hi) found.leads ∙ spelled_steps found.tree levels lo hi found.start found.spelled found.depth in
      let few = tree_nodes K V E keys values b ks vs fits found.tree lo hi found.start found.spelled in
      let leaves = ap (λ (n : ℕ). n * leaf_size s) steps in
      let end = found.left in
      omega arith

  -- the checks that one begins take a leaf's bytes each from the window, but for the last
  abbrev pub Few : ℕ → ℕ → ℕ → Type 0
  Few steps lo hi = steps * leaf_size (layout_of K V E) ≤ (hi - lo) + leaf_size (layout_of K V E)

  module _ (levels : ℕ) (few : (p : ℤ) (lo hi : ℕ) → Few (node_steps (layout_of K V E) keys values b levels p lo hi) lo hi) where
    target_few : (p i : ℕ) (so_far : Checked) (o : Option ℤ) → Few (target_steps (layout_of K V E) keys values b (check_node (layout_of K V E) keys values b levels) (node_steps (layout_of K V E) keys values b levels) p so_far o) so_far.lo p
    target_few p i so_far None = omega arith
    target_few p i so_far (Some q) = few q so_far.lo p

    -- where a pointer is passed, its steps took their leaves from the window
    target_paced : (p i : ℕ) (so_far c : Checked) (o : Option ℤ) → check_target (layout_of K V E) keys values b (check_node (layout_of K V E) keys values b levels) p so_far o ≡ Ok c → target_steps (layout_of K V E) keys values b (check_node (layout_of K V E) keys values b levels) (node_steps (layout_of K V E) keys values b levels) p so_far o * leaf_size (layout_of K V E) + so_far.lo ≤ c.lo
    target_paced p i so_far c None e = let same : so_far ≡ c = cc e in let lo = ap (λ (k : Checked). k.lo) same in omega arith
    target_paced p i so_far c (Some q) e =
        let one = bind_ok (check_node (layout_of K V E) keys values b levels q so_far.lo p) (λ k. Ok (record { lo = k.lo; entries = so_far.entries + k.entries })) c e in
        let paced = node_paced levels q so_far.lo p one.0 one.1 in
        let same : record { lo = one.0.lo; entries = so_far.entries + one.0.entries } ≡ c = cc one.2 in
        let lo = ap (λ (k : Checked). k.lo) same in
        omega arith

    target_inside : (p i : ℕ) (so_far c : Checked) (o : Option ℤ) → so_far.lo ≤ p → check_target (layout_of K V E) keys values b (check_node (layout_of K V E) keys values b levels) p so_far o ≡ Ok c → c.lo ≤ p
    target_inside p i so_far c None before e = let same : so_far ≡ c = cc e in let lo = ap (λ (k : Checked). k.lo) same in omega arith
    target_inside p i so_far c (Some q) before e =
        let one = bind_ok (check_node (layout_of K V E) keys values b levels q so_far.lo p) (λ k. Ok (record { lo = k.lo; entries = so_far.entries + k.entries })) c e in
        let found = node_sound K V E keys values b ks vs levels q so_far.lo p one.0 one.1 in
        let inside = found.inside in
        let same : record { lo = one.0.lo; entries = so_far.entries + one.0.entries } ≡ c = cc one.2 in
        let lo = ap (λ (k : Checked). k.lo) same in
        omega arith

    pointers_few : (n p i : ℕ) (so_far : Checked) → so_far.lo ≤ p → Few (pointers_steps (layout_of K V E) keys values b (check_node (layout_of K V E) keys values b levels) (node_steps (layout_of K V E) keys values b levels) p n i so_far) so_far.lo p
    unfolding check_pointer pointer_steps
    pointers_few zero p i so_far before = omega arith
    pointers_few (suc n) p i so_far before =
        let o = target_at b (p + pointer_at (layout_of K V E) i) in
        after n p i so_far before o (check_target (layout_of K V E) keys values b (check_node (layout_of K V E) keys values b levels) p so_far o) refl (pointers_few n p (i + 1))
      where
        after : (n p i : ℕ) (so_far : Checked) → so_far.lo ≤ p → (o : Option ℤ) (r : Result Checked Refusal) → check_target (layout_of K V E) keys values b (check_node (layout_of K V E) keys values b levels) p so_far o ≡ r
            → ((next : Checked) → next.lo ≤ p → Few (pointers_steps (layout_of K V E) keys values b (check_node (layout_of K V E) keys values b levels) (node_steps (layout_of K V E) keys values b levels) p n (i + 1) next) next.lo p)
            → Few (target_steps (layout_of K V E) keys values b (check_node (layout_of K V E) keys values b levels) (node_steps (layout_of K V E) keys values b levels) p so_far o + steps_after r (λ next. pointers_steps (layout_of K V E) keys values b (check_node (layout_of K V E) keys values b levels) (node_steps (layout_of K V E) keys values b levels) p n (i + 1) next)) so_far.lo p
        after n p i so_far before o (Err d) e rest = let first = target_few p i so_far o in omega arith
        after n p i so_far before o (Ok next) e rest =
            let first = target_paced p i so_far next o e in
            let inside = target_inside p i so_far next o before e in
            let others = rest next inside in
            omega arith

    placed_few : (p lo hi n : ℕ) → lo ≤ p → p + leaf_size (layout_of K V E) ≤ hi → placed_steps (layout_of K V E) keys values b (check_node (layout_of K V E) keys values b levels) (node_steps (layout_of K V E) keys values b levels) p lo hi ≡ n → Few (1 + n) lo hi
    unfolding placed_steps
    placed_few p lo hi n after room e =
        let s = layout_of K V E in
        elim (chosen (nat_eq (slice_index b p) 0) _ _ n e) [
          | inl h ↦ let none = ap (λ (k : ℕ). k * leaf_size s) h.1 in omega arith
          | inr h ↦ elim (chosen (nat_eq (slice_index b p) 1) _ _ n h.1) [
            | inl k ↦ elim (chosen (nat_lt hi (p + inner_size s)) _ _ n k.1) [
              | inl l ↦ let none = ap (λ (k : ℕ). k * leaf_size s) l.1 in omega arith
              | inr l ↦
                  let below = pointers_few (E + 1) p 0 (record { lo = lo; entries = 0 }) after in
                  let all = ap (λ (k : ℕ). k * leaf_size s) l.1 in
                  omega arith
            ]
            | inr k ↦ let none = ap (λ (k : ℕ). k * leaf_size s) k.1 in omega arith
          ]
        ]

    node_few_on : (p : ℤ) (lo hi : ℕ) (r : Result ℕ Refusal) → node_place (layout_of K V E) p lo hi ≡ r → Few (1 + steps_after r (λ start. placed_steps (layout_of K V E) keys values b (check_node (layout_of K V E) keys values b levels) (node_steps (layout_of K V E) keys values b levels) start lo hi)) lo hi
    node_few_on p lo hi (Err d) e = omega arith
    node_few_on p lo hi (Ok start) e = let placed = place_sound (layout_of K V E) p lo hi start e in placed_few start lo hi _ placed.after placed.room refl

  pub node_few : (levels : ℕ) (p : ℤ) (lo hi : ℕ) → Few (node_steps (layout_of K V E) keys values b levels p lo hi) lo hi
  node_few zero p lo hi = omega arith
  node_few (suc levels) p lo hi = node_few_on levels (node_few levels) p lo hi (node_place (layout_of K V E) p lo hi) refl

  -- so many steps at most, as a quotient
  few_is : (steps lo hi : ℕ) → Few steps lo hi → steps ≤ (hi - lo) / leaf_size (layout_of K V E) + 1
  few_is zero lo hi h = omega arith
  few_is (suc n) lo hi h =
      let s = layout_of K V E in
      let some = leaf_some s fits in
      let q : n ≤ (hi - lo) / leaf_size s = le-div n (hi - lo) (leaf_size s) (omega arith) (omega arith) in
      omega arith

  root_few : (at lo hi : ℕ) → root_steps (layout_of K V E) keys values b at lo hi ≤ (hi - lo) / leaf_size (layout_of K V E) + 1
  unfolding root_steps tree_steps
  root_few at lo hi =
      elim (chosen (nat_eq (number_at b (at + 4) 4) 0) 0 (node_steps (layout_of K V E) keys values b 32 (place_at b at) lo hi) _ refl) [
        | inl h ↦ let none = h.1 in omega arith
        | inr h ↦ let few = few_is _ lo hi (node_few 32 (place_at b at) lo hi) in let all = h.1 in omega arith
      ]

  pub map_few : (at lo hi : ℕ) → map_steps (layout_of K V E) keys values b at lo hi ≤ (hi - lo) / leaf_size (layout_of K V E) + 1
  unfolding map_steps
  map_few at lo hi =
      elim (chosen (nat_lt 4294967295 (length b)) 0 (if nat_lt (length b) (at + 8) then 0 else if nat_eq (at % 4) 0 then root_steps (layout_of K V E) keys values b at lo hi else 0) _ refl) [
        | inl h ↦ let none = h.1 in omega arith
        | inr h ↦ elim (chosen (nat_lt (length b) (at + 8)) 0 _ _ h.1) [
          | inl k ↦ let none = k.1 in omega arith
          | inr k ↦ elim (chosen (nat_eq (at % 4) 0) (root_steps (layout_of K V E) keys values b at lo hi) 0 _ k.1) [
            | inl l ↦ let few = root_few at lo hi in let all = l.1 in omega arith
            | inr l ↦ let none = l.1 in omega arith
          ]
        ]
      ]

  pub map_nodes : (at lo hi lo2 : ℕ) (m : List (K.Value × V.Value)) (a : Accepted K V E b lo hi at lo2 m) → map_steps (layout_of K V E) keys values b at lo hi ≡ accepted_nodes K V E b lo hi at lo2 m a
  unfolding map_steps root_steps tree_steps
  map_nodes at lo hi lo2 m a =
      let n = number_at b (at + 4) 4 in
      rw (le-ltb 4294967295 (length b) a.short, le-ltb (length b) (at + 8) a.room, eq-eqb (at % 4) 0 a.aligned)
      (elim a.root as (λ r. (if nat_eq n 0 then 0 else node_steps (layout_of K V E) keys values b 32 (place_at b at) lo hi) ≡ (elim r [ inl h ↦ 0 | inr h ↦ nodes h.1.tree ])) [
        | inl h ↦ rw (eq-eqb n 0 h.0) refl
        | inr h ↦ let r = h.1 in rw (ne_eqb n 0 h.0, r.leads) (spelled_steps r.tree 32 lo hi r.start r.spelled r.levels)
      ])
