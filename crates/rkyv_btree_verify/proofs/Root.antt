-- The check of a map accepts exactly the maps.
use Rattle.std.proofs.Common.{◌≡◌, Some, inl, inr, ℕ, ◌+◌, ◌%◌, ◌≤◌, if◌then◌else◌, List, [], length, Result, Ok, Err, refl, sym, ap, ◌∙◌, nat_eq, nat_lt, arith}
use Rattle.std.proofs.lemmas.Bool.{eqb-true, eqb-false, ltb-false, eq-eqb, ne_eqb, le-ltb}
use Rattle.rkyv_btree_portable.specs.declared.refusal.Refusal.{Refusal}
use Rattle.rkyv_btree_portable.specs.Bytes.{number_at, place_at}
use Rattle.rkyv_btree_verify.specs.mirror.Check.{check_node, check_tree, check_root, check_map}
use Rattle.rkyv_btree_portable.specs.Kind.{Kind, Leaves, Decides}
use Rattle.rkyv_btree_format.specs.Layout.{layout_of}
use Rattle.rkyv_btree_format.proofs.Sizes.{IsSound}
use Rattle.rkyv_btree_verify.specs.Map.{map_kind, left_of, map_leaves}
use Rattle.rkyv_btree_portable.specs.laws.Choices.{chosen}
use Rattle.rkyv_btree_format.specs.Spells.{root_size, Spells, Accepted}
use Rattle.rkyv_btree_shape.specs.Tree.{Tree, leaf, inner, list}
use Rattle.rkyv_btree_verify.proofs.Results.{bind_ok}
use Rattle.rkyv_btree_verify.proofs.Sound.{node_sound}
use Rattle.rkyv_btree_verify.proofs.Complete.{tree_complete}

-- what a tree takes of its window ends at its root
pub spelled_within : (K V : Kind) (E : ℕ) (b : List ℕ) (lo hi p : ℕ) (t : Tree (K.Value × V.Value)) → Spells K V E b lo hi p t → (lo ≤ p + root_size (layout_of K V E) t) × (p + root_size (layout_of K V E) t ≤ hi)
spelled_within K V E b lo hi p (leaf m) h = let at = h.0 in (omega arith, omega arith)
spelled_within K V E b lo hi p (inner row) h = let at = h.0 in (omega arith, omega arith)

-- what a map leaves is of its window
pub map_within : (K V : Kind) (E : ℕ) (b : List ℕ) (lo hi at lo2 : ℕ) (m : List (K.Value × V.Value)) → Accepted K V E b lo hi at lo2 m → (lo ≤ lo2) × (lo2 ≤ hi)
map_within K V E b lo hi at lo2 m a =
    let window = a.window in
    elim a.root [
      | inl h ↦ let same = h.2 in (omega arith, omega arith)
      | inr h ↦
          let r = h.1 in
          let w = spelled_within K V E b lo hi r.start r.tree r.spelled in
          let left = r.left in
          (omega arith, omega arith)
    ]

module _ (K V : Kind) (E : ℕ) (keys values : Leaves) (b : List ℕ) (ks : Decides K keys) (vs : Decides V values) where
  pub record FoundMap (lo hi at lo2 : ℕ) : Type 0 where
    pub means : List (K.Value × V.Value)
    pub accepted : Accepted K V E b lo hi at lo2 means

  root_sound : (at lo hi lo2 : ℕ) → length b ≤ 4294967295 → lo ≤ hi → hi ≤ at → at % 4 ≡ 0 → at + 8 ≤ length b → check_root (layout_of K V E) keys values b at lo hi ≡ Ok lo2 → FoundMap lo hi at lo2
  unfolding check_root check_tree
  root_sound at lo hi lo2 short window before aligned room e =
      let s = layout_of K V E in
      let n = number_at b (at + 4) 4 in
      elim (chosen (nat_eq n 0) _ _ (Ok lo2) e) [
        | inl h ↦ record { means = []; accepted = record { short = short; window = window; before = before; aligned = aligned; room = room; root = inl (eqb-true n 0 h.0, refl, cc h.1) } }
        | inr h ↦
            let one = bind_ok (check_node s keys values b 32 (place_at b at) lo hi) (λ c. if nat_eq c.entries n then Ok c.lo else _) lo2 h.1 in
            let found = node_sound K V E keys values b ks vs 32 (place_at b at) lo hi one.0 one.1 in
            elim (chosen (nat_eq one.0.entries n) _ _ (Ok lo2) one.2) [
              | inl k ↦
                  let same : one.0.lo ≡ lo2 = cc k.1 in
                  record {
                    means = list found.tree;
                    accepted = record {
                      short = short;
                      window = window;
                      before = before;
                      aligned = aligned;
                      room = room;
                      root = inr (
                        eqb-false n 0 h.0,
                        record {
                          start = found.start;
                          tree = found.tree;
                          leads = found.leads;
                          spelled = found.spelled;
                          levels = found.depth;
                          means = refl;
                          total = sym found.total ∙ eqb-true one.0.entries n k.0;
                          left = sym same ∙ found.left;
                        },
                      );
                    };
                  }
              | inr k ↦ absurd (cc k.1)
            ]
      ]

  pub map_sound : (at lo hi lo2 : ℕ) → lo ≤ hi → hi ≤ at → check_map (layout_of K V E) keys values b at lo hi ≡ Ok lo2 → FoundMap lo hi at lo2
  unfolding check_map
  map_sound at lo hi lo2 window before e =
      elim (chosen (nat_lt 4294967295 (length b)) _ _ (Ok lo2) e) [
        | inl h ↦ absurd (cc h.1)
        | inr h ↦ elim (chosen (nat_lt (length b) (at + 8)) _ _ (Ok lo2) h.1) [
          | inl k ↦ absurd (cc k.1)
          | inr k ↦ elim (chosen (nat_eq (at % 4) 0) _ _ (Ok lo2) k.1) [
            | inl l ↦ root_sound at lo hi lo2 (ltb-false 4294967295 (length b) h.0) window before (eqb-true (at % 4) 0 l.0) (ltb-false (length b) (at + 8) k.0) l.1
            | inr l ↦ absurd (cc l.1)
          ]
        ]
      ]

  module _ (fits : IsSound (layout_of K V E)) where
    pub map_complete : (at lo hi lo2 : ℕ) (m : List (K.Value × V.Value)) → Accepted K V E b lo hi at lo2 m → check_map (layout_of K V E) keys values b at lo hi ≡ Ok lo2
    unfolding check_map check_root check_tree
    map_complete at lo hi lo2 m a =
        let s = layout_of K V E in
        let n = number_at b (at + 4) 4 in
        rw (le-ltb 4294967295 (length b) a.short, le-ltb (length b) (at + 8) a.room, eq-eqb (at % 4) 0 a.aligned)
        (elim a.root [
          | inl h ↦ rw (eq-eqb n 0 h.0) (ap Ok (sym h.2))
          | inr h ↦
              let r = h.1 in
              rw (ne_eqb n 0 h.0, r.leads, tree_complete K V E keys values b ks vs fits r.tree 32 lo hi r.start r.spelled r.levels, eq-eqb (length (list r.tree)) n (ap length (sym r.means) ∙ r.total), r.left) refl
        ])

left_ok : (r : Result ℕ Refusal) (lo : ℕ) → left_of r ≡ Some lo → r ≡ Ok lo
left_ok (Ok x) lo e = cc e
left_ok (Err d) lo e = absurd (cc e)

-- the check of a map decides what maps mean
pub map_decides : (K V : Kind) (E : ℕ) (keys values : Leaves) → Decides K keys → Decides V values → IsSound (layout_of K V E) → Decides (map_kind K V E) (map_leaves (layout_of K V E) keys values)
unfolding map_leaves
map_decides K V E keys values ks vs sound =
    record {
      found = λ b lo hi at lo2 window before e.
          let f = map_sound K V E keys values b ks vs at lo hi lo2 window before (left_ok _ lo2 e) in
          (f.means, f.accepted);
      only = λ b lo hi at lo2 m a. ap left_of (map_complete K V E keys values b ks vs sound at lo hi lo2 m a);
      within = λ b lo hi at lo2 m a. map_within K V E b lo hi at lo2 m a;
    }
