-- In a wider window a map stays, and leaves no less of it, where its keys and values do.
use Rattle.std.specs.Prelude.{ℕ, ◌+◌, ◌≤◌, List, [], ◌∷◌}
use Rattle.std.proofs.Common.{refl, arith, inl, inr}
use Rattle.rkyv_btree_portable.specs.Kind.{Kind, Widens}
use Rattle.rkyv_btree_format.specs.Layout.{layout_of, key_at, value_at}
use Rattle.rkyv_btree_format.specs.Spells.{Entries, Spells, SpellsRow, SpellsChild, Accepted}
use Rattle.rkyv_btree_shape.specs.Tree.{Tree, leaf, inner, Row, last, step, Child, absent, child, row_entries}

module _ (K V : Kind) (E : ℕ) (b : List ℕ) (kw : Widens K) (vw : Widens V) where
  entries_widen : (m : List (K.Value × V.Value)) (p i lo left lo2 : ℕ) → lo2 ≤ lo → Entries K V E b p i lo left m → (left2 : ℕ) × (left2 ≤ left) × Entries K V E b p i lo2 left2 m
  entries_widen [] p i lo left lo2 before h = (lo2, omega arith, refl)
  entries_widen (e ∷ m) p i lo left lo2 before h =
      let key = kw b lo p (p + key_at (layout_of K V E) i) h.0 lo2 p e.0 before (omega arith) (omega arith) h.2 in
      let value = vw b h.0 p (p + value_at (layout_of K V E) i) h.1 key.0 p e.1 key.1 (omega arith) (omega arith) h.3 in
      let rest = entries_widen m p (i + 1) h.1 left value.0 value.1 h.4 in
      (rest.0, rest.1, (key.0, value.0, key.2, value.2, rest.2))

  mutual
    pub tree_widens : (t : Tree (K.Value × V.Value)) (lo hi p lo2 hi2 : ℕ) → lo2 ≤ lo → hi ≤ hi2 → Spells K V E b lo hi p t → Spells K V E b lo2 hi2 p t
    tree_widens (leaf m) lo hi p lo2 hi2 before after h =
        let at = h.0 in
        let own = entries_widen m p 0 lo h.3 lo2 before h.4 in
        (record { start = omega arith; room = omega arith; aligned = at.aligned; kind_byte = at.kind_byte }, h.1, h.2, own.0, own.2)
    tree_widens (inner row) lo hi p lo2 hi2 before after h =
        let at = h.0 in
        let rows = row_widens row p 0 lo h.2 lo2 before h.3 in
        let own = entries_widen (row_entries row) p 0 h.2 h.4 rows.0 rows.1 h.5 in
        (record { start = omega arith; room = omega arith; aligned = at.aligned; kind_byte = at.kind_byte }, h.1, rows.0, rows.2, own.0, own.2)

    row_widens : (row : Row (K.Value × V.Value)) (p i lo mid lo2 : ℕ) → lo2 ≤ lo → SpellsRow K V E b p i lo mid row → (mid2 : ℕ) × (mid2 ≤ mid) × SpellsRow K V E b p i lo2 mid2 row
    row_widens (last c) p i lo mid lo2 before h = child_widens c p i lo mid lo2 before h
    row_widens (step c e row) p i lo mid lo2 before h =
        let first = child_widens c p i lo h.0 lo2 before h.1 in
        let rest = row_widens row p (i + 1) h.0 mid first.0 first.1 h.2 in
        (rest.0, rest.1, (first.0, first.2, rest.2))

    child_widens : (c : Child (K.Value × V.Value)) (p i lo next lo2 : ℕ) → lo2 ≤ lo → SpellsChild K V E b p i lo next c → (next2 : ℕ) × (next2 ≤ next) × SpellsChild K V E b p i lo2 next2 c
    child_widens absent p i lo next lo2 before h = (lo2, omega (arith, h.1), (h.0, refl))
    child_widens (child t) p i lo next lo2 before h = (next, omega arith, (h.0, h.1, tree_widens t lo p h.0 lo2 p before (omega arith) h.2, h.3))

  pub map_widens : (lo hi at left lo2 hi2 : ℕ) (m : List (K.Value × V.Value)) → lo2 ≤ lo → hi ≤ hi2 → hi2 ≤ at → Accepted K V E b lo hi at left m → (left2 : ℕ) × (left2 ≤ left) × Accepted K V E b lo2 hi2 at left2 m
  map_widens lo hi at left lo2 hi2 m before after inside a =
      let window = a.window in
      elim a.root [
        | inl h ↦ (lo2, omega (arith, h.2), record { short = a.short; window = omega arith; before = inside; aligned = a.aligned; room = a.room; root = inl (h.0, h.1, refl) })
        | inr h ↦
            let r = h.1 in (
              left,
              omega arith,
              record {
                short = a.short;
                window = omega arith;
                before = inside;
                aligned = a.aligned;
                room = a.room;
                root = inr (
                  h.0,
                  record {
                    start = r.start;
                    tree = r.tree;
                    leads = r.leads;
                    spelled = tree_widens r.tree lo hi r.start lo2 hi2 before after r.spelled;
                    levels = r.levels;
                    means = r.means;
                    total = r.total;
                    left = r.left;
                  },
                );
              },
            )
      ]
