-- A tree's children, one after another as they come, with what they write.
use Rattle.std.proofs.Common.{◌≡◌, ℕ, zero, suc, ◌+◌, ◌*◌, ◌-◌, ◌^◌, ◌<◌, ◌≤◌, min, List, [], ◌∷◌, ◌++◌, length, map, Option, Some, None, arith, refl, sym, ap, ◌∙◌, subst, inl, inr}
use Rattle.std.proofs.lemmas.List.{length-append, append_assoc, append-nil, nil_from_length, length-map, map-append}
use Rattle.rkyv_btree_portable.specs.InPlace.{OwnBytes}
use Rattle.rkyv_btree_format.specs.Layout.{NodeLayout, inner_size}
use Rattle.rkyv_btree_shape.specs.Tree.{inner, Row, last, step, Child, child, row_list, child_list, row_entries}
use Rattle.rkyv_btree_shape.specs.mirror.Filled.{Filled, most, IsNext}
use Rattle.rkyv_btree_shape.proofs.Filled.{count, same, full_up}
use Rattle.rkyv_btree_writer.specs.Archiving.{Archival}
use Rattle.rkyv_btree_writer.specs.Writing.{Writing}
use Rattle.rkyv_btree_writer.specs.declared.fault.Fault.{Fault}
use Rattle.rkyv_btree_writing_laws.specs.Begun.{RowBegun, ChildBegun}
use Rattle.rkyv_btree_writing_laws.proofs.Begun.{written_begun}
use Rattle.rkyv_btree_writing_laws.proofs.Building.{Yields-both, then-behind}
use Rattle.rkyv_btree_writing_laws.specs.Image.{inner_image}
use Rattle.rkyv_btree_writing_laws.specs.Written.{NodeWritten, NodeStopped, RowWritten, ChildWritten, RowStopped, ChildStopped}
use Rattle.rkyv_btree_shape.specs.mirror.Pairs.{row_from, pairs_list, Leads}
use Rattle.rkyv_btree_archive.specs.mirror.Passing.{PairsWritten, NextWritten, NextStopped, NextShort, RowTaken}
use Rattle.rkyv_btree_shape.proofs.Pairs.{pairs_push, pairs_close, row_from_entries, row_from_list, pairs_list_push, pairs_count, shorter_begins, row_splits, row_leads, is_inner, capped, not_bare, row_fits, next_some, some_pairs}

module _ {M N R S : Type 0} (s : NodeLayout) (K : Archival M R) (V : Archival N S) where
  pub pairs_written_push : (from : Writing) (ps : List (Child (M × N) × (M × N))) (roots : List (Option ℕ)) (mid : Writing) (c : Child (M × N)) (x : M × N) (root : Option ℕ) (to : Writing) → PairsWritten s K V from ps roots mid → ChildWritten s K V mid c root to → PairsWritten s K V from (ps ++ (c, x) ∷ []) (roots ++ root ∷ []) to
  pairs_written_push from [] roots mid c x root to h w = (root, [], to, subst (λ (m : Writing). ChildWritten s K V m c root to) h.1 w, (refl, refl), ap (λ (rs : List (Option ℕ)). rs ++ root ∷ []) h.0)
  pairs_written_push from (p ∷ ps) roots mid c x root to h w = (h.0, h.1 ++ root ∷ [], h.2, h.3, pairs_written_push h.2 ps h.1 mid c x root to h.4 w, ap (λ (rs : List (Option ℕ)). rs ++ root ∷ []) h.5)

  pub pairs_written_count : (from : Writing) (ps : List (Child (M × N) × (M × N))) (roots : List (Option ℕ)) (to : Writing) → PairsWritten s K V from ps roots to → length roots ≡ length ps
  pairs_written_count from [] roots to h = ap length h.0
  pairs_written_count from (p ∷ ps) roots to h = ap length h.5 ∙ ap suc (pairs_written_count h.2 ps h.1 to h.4)

  pub row_written : (from : Writing) (ps : List (Child (M × N) × (M × N))) (roots : List (Option ℕ)) (mid : Writing) (c : Child (M × N)) (root : Option ℕ) (to : Writing) → PairsWritten s K V from ps roots mid → ChildWritten s K V mid c root to → RowWritten s K V from (row_from ps (last c)) (roots ++ root ∷ []) to
  row_written from [] roots mid c root to h w = (root, subst (λ (m : Writing). ChildWritten s K V m c root to) h.1 w, ap (λ (rs : List (Option ℕ)). rs ++ root ∷ []) h.0)
  row_written from (p ∷ ps) roots mid c root to h w = (h.0, h.1 ++ root ∷ [], h.2, h.3, row_written h.2 ps h.1 mid c root to h.4 w, ap (λ (rs : List (Option ℕ)). rs ++ root ∷ []) h.5)

  pub row_stopped : {X : Type 0} (from : Writing) (ps : List (Child (M × N) × (M × N))) (roots : List (Option ℕ)) (mid : Writing) (c : Child (M × N)) (row : Row (M × N)) (fault : Fault X) (to : Writing) → PairsWritten s K V from ps roots mid → Leads c row → ChildStopped s K V mid c fault to → RowStopped s K V from (row_from ps row) fault to
  row_stopped {X} from [] roots mid c (last d) fault to h e w = subst (λ (m : Writing). ChildStopped s K V {E = X} m d fault to) h.1 (subst (λ (z : Child (M × N)). ChildStopped s K V {E = X} mid z fault to) e w)
  row_stopped {X} from [] roots mid c (step d x row) fault to h e w = inl (subst (λ (m : Writing). ChildStopped s K V {E = X} m d fault to) h.1 (subst (λ (z : Child (M × N)). ChildStopped s K V {E = X} mid z fault to) e w))
  row_stopped from (p ∷ ps) roots mid c row fault to h e w = inr (h.0, h.2, h.3, row_stopped h.2 ps h.1 mid c row fault to h.4 e w)

  pub row_begun : (from : Writing) (ps : List (Child (M × N) × (M × N))) (roots : List (Option ℕ)) (mid : Writing) (c : Child (M × N)) (row : Row (M × N)) (to : Writing) → PairsWritten s K V from ps roots mid → Leads c row → ChildBegun s K V mid c to → RowBegun s K V from (row_from ps row) to
  row_begun from [] roots mid c (last d) to h e w = subst (λ (m : Writing). ChildBegun s K V m d to) h.1 (subst (λ (z : Child (M × N)). ChildBegun s K V mid z to) e w)
  row_begun from [] roots mid c (step d x row) to h e w = inl (subst (λ (m : Writing). ChildBegun s K V m d to) h.1 (subst (λ (z : Child (M × N)). ChildBegun s K V mid z to) e w))
  row_begun from (p ∷ ps) roots mid c row to h e w = inr (h.0, h.2, h.3, row_begun h.2 ps h.1 mid c row to h.4 e w)

  -- ---- a row of a child with more than a leaf's levels, as far as its children are written
  module _ {I P : Type 0} (borrowed : I → M × N) (steps : P → Option I → P → Type 0) where
    -- none is
    abbrev pub row_started : (g first : ℕ) (iter : P) (from : Writing) → RowTaken s K V borrowed steps g first first iter from [] [] iter from
    row_started g first iter from = record { items = []; pairs = []; taken = refl; filled = tt; entries = refl; pair_entries = refl; written = (refl, refl); left_is = omega arith }

    pub row_count : (g first left : ℕ) (iter : P) (from : Writing) (xs : List (M × N)) (roots : List (Option ℕ)) (rest : P) (to : Writing) → (r : RowTaken s K V borrowed steps g first left iter from xs roots rest to) → length r.pairs ≡ length xs
    row_count g first left iter from xs roots rest to r = sym (length-map r.pairs (λ p. p.1)) ∙ ap length r.pair_entries

    -- what a child of the row is, by what is left for the row
    here : (g first left : ℕ) (n : ℕ) (c : Child (M × N)) → n ≤ s.E → left ≡ first - n * most s.E g → IsNext s.E g left c → Filled s.E g (min (min first (most s.E (suc g)) - n * most s.E g) (most s.E g)) c
    here g first left n c few is f = subst (λ k. Filled s.E g k c) (ap (λ k. min k (most s.E g)) is ∙ capped s.E g first n few) f

    there : (g first left : ℕ) (n : ℕ) (c : Child (M × N)) → n ≤ s.E → left ≡ first - n * most s.E g → Filled s.E g (min (min first (most s.E (suc g)) - n * most s.E g) (most s.E g)) c → IsNext s.E g left c
    there g first left n c few is f = subst (λ k. Filled s.E g k c) (sym (ap (λ k. min k (most s.E g)) is ∙ capped s.E g first n few)) f

    -- a child is written, and its entry has come
    pub row_pushed : (g first left : ℕ) (iter : P) (from : Writing) (xs : List (M × N)) (roots : List (Option ℕ)) (rest : P) (to : Writing) (root : Option ℕ) (rest2 : P) (to2 : Writing) (item : I) (rest3 : P) →
        length xs < s.E → (r : RowTaken s K V borrowed steps g first left iter from xs roots rest to) → (w : NextWritten s K V borrowed steps g left rest to root rest2 to2) → steps rest2 (Some item) rest3 →
        (q : RowTaken s K V borrowed steps g first (left - most s.E g) iter from (xs ++ borrowed item ∷ []) (roots ++ root ∷ []) rest3 to2) × (length q.items ≡ length r.items + (length w.items + 1))
    row_pushed g first left iter from xs roots rest to root rest2 to2 item rest3 few r w gave =
        let n = row_count g first left iter from xs roots rest to r in
        let more : length (r.pairs ++ (w.tree, borrowed item) ∷ []) ≡ suc (length r.pairs) = simp length-append (omega arith) in (
          record {
            items = r.items ++ (w.items ++ item ∷ []);
            pairs = r.pairs ++ (w.tree, borrowed item) ∷ [];
            taken = Yields-both steps iter r.items rest (w.items ++ item ∷ []) rest3 r.taken (Yields-both steps rest w.items rest2 (item ∷ []) rest3 w.taken (rest3, gave, refl));
            filled = pairs_push (Filled s.E g) (most s.E g) (min first (most s.E (suc g))) r.pairs w.tree (borrowed item) r.filled (here g first left (length r.pairs) w.tree (omega arith) r.left_is w.is_next);
            entries = pairs_list_push r.pairs w.tree (borrowed item) ∙ (ap (λ (zs : List (M × N)). zs ++ (child_list w.tree ++ borrowed item ∷ [])) r.entries ∙ (ap (λ (zs : List (M × N)). map borrowed r.items ++ (zs ++ borrowed item ∷ [])) w.entries ∙ (ap (λ (zs : List (M × N)). map borrowed r.items ++ zs) (sym (map-append borrowed w.items (item ∷ []))) ∙ sym (map-append borrowed r.items (w.items ++ item ∷ [])))));
            pair_entries = map-append (λ p. p.1) r.pairs ((w.tree, borrowed item) ∷ []) ∙ ap (λ (zs : List (M × N)). zs ++ borrowed item ∷ []) r.pair_entries;
            written = pairs_written_push from r.pairs roots to w.tree (borrowed item) root to2 r.written w.written;
            left_is = rw more (omega (arith, r.left_is));
          },
          length-append r.items (w.items ++ item ∷ []) ∙ ap (λ k. length r.items + k) (length-append w.items (item ∷ [])),
        )

    all_fit : (first : ℕ) (g n : ℕ) → n ≡ s.E → min first (most s.E (suc g)) ≤ (n + 1) * most s.E g
    all_fit first g n is = rw is (omega (arith, full_up s.E g))

    -- all are, and their node is
    pub row_closed : (g first left : ℕ) (iter : P) (from : Writing) (xs : List (M × N)) (roots : List (Option ℕ)) (rest : P) (to : Writing) (at : Option ℕ) (rest2 : P) (to2 : Writing) (root : ℕ) (to3 : Writing) →
        length xs ≡ s.E → 1 ≤ s.E → 1 ≤ first + g → (r : RowTaken s K V borrowed steps g first left iter from xs roots rest to) → (w : NextWritten s K V borrowed steps g left rest to at rest2 to2) →
        NodeWritten s K V (λ (n : ℕ) (owns : List OwnBytes). inner_image s n owns (roots ++ at ∷ [])) (inner_size s) to2 xs root to3 →
        (q : NextWritten s K V borrowed steps (suc g) first iter from (Some root) rest2 to3) × (length q.items ≡ length r.items + length w.items)
    row_closed g first left iter from xs roots rest to at rest2 to2 root to3 all some high r w node =
        let n = row_count g first left iter from xs roots rest to r in
        let row = row_from r.pairs (last w.tree) in
        let own : row_entries row ≡ xs = row_from_entries r.pairs (last w.tree) ∙ (append-nil (map (λ p. p.1) r.pairs) ∙ r.pair_entries) in
        let filled = pairs_close (Filled s.E g) (most s.E g) (min first (most s.E (suc g))) r.pairs w.tree r.filled (all_fit first g (length r.pairs) (n ∙ all)) (here g first left (length r.pairs) w.tree (omega arith) r.left_is w.is_next) in (
          record {
            items = r.items ++ w.items;
            tree = child (inner row);
            taken = Yields-both steps iter r.items rest w.items rest2 r.taken w.taken;
            is_next = (not_bare s.E g first some high, ap length own ∙ all, filled);
            entries = row_from_list r.pairs (last w.tree) ∙ (ap (λ (zs : List (M × N)). zs ++ child_list w.tree) r.entries ∙ (ap (λ (zs : List (M × N)). map borrowed r.items ++ zs) w.entries ∙ sym (map-append borrowed r.items w.items)));
            written = (root, (roots ++ at ∷ [], to2, row_written from r.pairs roots to w.tree at to2 r.written w.written, subst (λ (ys : List (M × N)). NodeWritten s K V (λ (n : ℕ) (owns : List OwnBytes). inner_image s n owns (roots ++ at ∷ [])) (inner_size s) to2 ys root to3) (sym own) node), refl);
          },
          length-append r.items w.items,
        )

    -- ---- whatever comes later

    pub row_items : (g first left : ℕ) (iter : P) (from : Writing) (xs : List (M × N)) (roots : List (Option ℕ)) (rest : P) (to : Writing) → (r : RowTaken s K V borrowed steps g first left iter from xs roots rest to) → length r.items ≡ length r.pairs * (s.E + 1) ^ g + min (min first (most s.E (suc g))) (length r.pairs * most s.E g)
    row_items g first left iter from xs roots rest to r = sym (length-map r.items borrowed) ∙ (sym (ap length r.entries) ∙ pairs_count (Filled s.E g) ((s.E + 1) ^ g) (most s.E g) (count s.E g) (min first (most s.E (suc g))) r.pairs r.filled)

    pub row_room : (g first left : ℕ) (iter : P) (from : Writing) (xs : List (M × N)) (roots : List (Option ℕ)) (rest : P) (to : Writing) (d : ℕ) → (r : RowTaken s K V borrowed steps g first left iter from xs roots rest to) → s.E ≡ length xs + d → length r.items + ((s.E + 1) ^ g + min left (most s.E g)) + d * (s.E + 1) ^ g ≤ (s.E + 1) ^ suc g + min first (most s.E (suc g))
    row_room g first left iter from xs roots rest to d r few =
        let n = row_count g first left iter from xs roots rest to r in
        row_fits s.E g first left (length r.pairs) d (length r.items) (omega (arith, n)) r.left_is (row_items g first left iter from xs roots rest to r)

    -- the row of a whole child, and its next child, by the entries that have come
    pub record RowNext (g left : ℕ) (pairs : List (Child (M × N) × (M × N))) (ys : List (M × N)) (c : Child (M × N)) : Type 0 where
      pub others : Row (M × N)
      pub next : Child (M × N)
      pub later : List (M × N)
      pub whole_is : c ≡ child (inner (row_from pairs others))
      pub leads : Leads next others
      pub is_next : IsNext s.E g left next
      pub begins : ys ++ later ≡ child_list next
      pub entries : length pairs + length (row_entries others) ≡ s.E

    pub row_next : (g first left : ℕ) (iter : P) (from : Writing) (xs : List (M × N)) (roots : List (Option ℕ)) (rest : P) (to : Writing) → 1 ≤ s.E → 1 ≤ first + g → length xs ≤ s.E → (r : RowTaken s K V borrowed steps g first left iter from xs roots rest to) →
        (c : Child (M × N)) (ys later : List (M × N)) → IsNext s.E (suc g) first c → (map borrowed r.items ++ ys) ++ later ≡ child_list c → length ys + 1 ≤ (s.E + 1) ^ g + min left (most s.E g) → RowNext g left r.pairs ys c
    row_next g first left iter from xs roots rest to some high few r c ys later is e short =
        let n = row_count g first left iter from xs roots rest to r in
        let i = is_inner s.E g (min first (most s.E (suc g))) c (not_bare s.E g first some high) is in
        let whole : pairs_list r.pairs ++ (ys ++ later) ≡ row_list i.0 = ap (λ (zs : List (M × N)). zs ++ (ys ++ later)) r.entries ∙ (sym (append_assoc (map borrowed r.items) ys later) ∙ (e ∙ ap child_list i.1)) in
        let p = row_splits (Filled s.E g) ((s.E + 1) ^ g) (most s.E g) (count s.E g) (same s.E g) (min first (most s.E (suc g))) r.pairs i.0 r.filled i.3 (omega (arith, n, i.2)) (ys ++ later) whole in
        let d = row_leads (Filled s.E g) (most s.E g) (min first (most s.E (suc g)) - length r.pairs * most s.E g) p.0 p.2 in
        let next = there g first left (length r.pairs) d.0 (omega arith) r.left_is d.2 in
        let b = shorter_begins ys (child_list d.0) later d.3 (omega (arith, count s.E g (min left (most s.E g)) d.0 next)) (sym (d.4 ∙ p.4)) in
        record {
          others = p.0;
          next = d.0;
          later = b.0;
          whole_is = i.1 ∙ ap (λ (row : Row (M × N)). child (inner row)) p.1;
          leads = d.1;
          is_next = next;
          begins = b.1;
          entries = omega (arith, p.3, i.2);
        }

    -- what is written is the next child
    pub next_same : (g left : ℕ) (tree next : Child (M × N)) (later : List (M × N)) → IsNext s.E g left tree → IsNext s.E g left next → child_list tree ++ later ≡ child_list next → tree ≡ next
    next_same g left tree next later a b e =
        let one = count s.E g (min left (most s.E g)) tree a in
        let two = count s.E g (min left (most s.E g)) next b in
        let none = nil_from_length later (omega (arith, one, two, length-append (child_list tree) later, ap length e)) in
        same s.E g (min left (most s.E g)) tree next a b (sym (append-nil (child_list tree)) ∙ (ap (λ (zs : List (M × N)). child_list tree ++ zs) (sym none) ∙ e))

    regroup : (items others : List I) (later : List (M × N)) (c : Child (M × N)) → map borrowed (items ++ others) ++ later ≡ child_list c → (map borrowed items ++ map borrowed others) ++ later ≡ child_list c
    regroup items others later c e = ap (λ (zs : List (M × N)). zs ++ later) (sym (map-append borrowed items others)) ∙ e

    pub written_count : (g left : ℕ) (iter : P) (from : Writing) (root : Option ℕ) (rest : P) (to : Writing) → (w : NextWritten s K V borrowed steps g left iter from root rest to) → length w.items + 1 ≡ (s.E + 1) ^ g + min left (most s.E g)
    written_count g left iter from root rest to w = omega (arith, count s.E g (min left (most s.E g)) w.tree w.is_next, ap length w.entries, length-map w.items borrowed)

    -- a child is stopped
    pub row_child_stopped : {X : Type 0} (g first left : ℕ) (iter : P) (from : Writing) (xs : List (M × N)) (roots : List (Option ℕ)) (rest : P) (to : Writing) (fault : Fault X) (to2 : Writing) → 1 ≤ s.E → 1 ≤ first + g → length xs ≤ s.E →
        RowTaken s K V borrowed steps g first left iter from xs roots rest to → NextStopped s K V borrowed steps g left rest to fault to2 → NextStopped s K V borrowed steps (suc g) first iter from fault to2
    row_child_stopped {X} g first left iter from xs roots rest to fault to2 some high few r h =
        let both = length-append r.items h.items in
        record {
          items = r.items ++ h.items;
          rest = h.rest;
          taken = Yields-both steps iter r.items rest h.items h.rest r.taken h.taken;
          some = omega (arith, both, h.some);
          few = omega (arith, both, h.few, row_room g first left iter from xs roots rest to (s.E - length xs) r (omega arith));
          stopped = λ c later is e.
              let n = row_next g first left iter from xs roots rest to some high few r c (map borrowed h.items) later is (regroup r.items h.items later c e) (omega (arith, h.few, length-map h.items borrowed)) in
              subst (λ (z : Child (M × N)). ChildStopped s K V {E = X} from z fault to2) (sym n.whole_is)
              (inl (row_stopped from r.pairs roots to n.next n.others fault to2 r.written n.leads (h.stopped n.next n.later n.is_next n.begins)));
        }

    -- a child's items come to an end
    pub row_child_short : (g first left : ℕ) (iter : P) (from : Writing) (xs : List (M × N)) (roots : List (Option ℕ)) (rest : P) (to : Writing) (more : ℕ) (end : P) (to2 : Writing) → 1 ≤ s.E → 1 ≤ first + g → length xs ≤ s.E →
        (r : RowTaken s K V borrowed steps g first left iter from xs roots rest to) → NextShort s K V borrowed steps g left rest to more end to2 → NextShort s K V borrowed steps (suc g) first iter from (length r.items + more) end to2
    row_child_short g first left iter from xs roots rest to more end to2 some high few r h =
        let both = length-append r.items h.items in
        record {
          items = r.items ++ h.items;
          all = then-behind steps iter r.items rest h.items end r.taken h.all;
          counted = omega (arith, both, h.counted);
          few = omega (arith, both, h.few, row_room g first left iter from xs roots rest to (s.E - length xs) r (omega arith));
          none = λ empty. h.none (nil_from_length h.items (omega (arith, both, ap length empty))) ∙ none_before g first left iter from xs roots rest to r (omega (arith, both, ap length empty));
          begun = λ c later is e.
              let n = row_next g first left iter from xs roots rest to some high few r c (map borrowed h.items) later is (regroup r.items h.items later c e) (omega (arith, h.few, length-map h.items borrowed)) in
              subst (λ (z : Child (M × N)). ChildBegun s K V from z to2) (sym n.whole_is)
              (inl (row_begun from r.pairs roots to n.next n.others to2 r.written n.leads (h.begun n.next n.later n.is_next n.begins)));
        }
      where
        none_before : (g first left : ℕ) (iter : P) (from : Writing) (xs : List (M × N)) (roots : List (Option ℕ)) (rest : P) (to : Writing) → (r : RowTaken s K V borrowed steps g first left iter from xs roots rest to) → length r.items ≡ 0 → to ≡ from
        none_before g first left iter from xs roots rest to r empty = go r.pairs r.written (sym (length-map r.items borrowed) ∙ ap length (sym r.entries))
          where
            go : (ps : List (Child (M × N) × (M × N))) → PairsWritten s K V from ps roots to → length r.items ≡ length (pairs_list ps) → to ≡ from
            go [] h n = h.1
            go (p ∷ ps) h n = absurd (omega (arith, n, empty, length-append (child_list p.0) (p.1 ∷ pairs_list ps)))

    -- its items come to an end where an entry is to come
    pub row_entry_short : (g first left : ℕ) (iter : P) (from : Writing) (xs : List (M × N)) (roots : List (Option ℕ)) (rest : P) (to : Writing) (root : Option ℕ) (rest2 : P) (end : P) (to2 : Writing) → 1 ≤ s.E → 1 ≤ first + g → length xs < s.E →
        (r : RowTaken s K V borrowed steps g first left iter from xs roots rest to) → (w : NextWritten s K V borrowed steps g left rest to root rest2 to2) → steps rest2 None end → NextShort s K V borrowed steps (suc g) first iter from (length r.items + length w.items) end to2
    row_entry_short g first left iter from xs roots rest to root rest2 end to2 some high few r w none =
        let both = length-append r.items w.items in
        let counted = written_count g left rest to root rest2 to2 w in
        let n = row_count g first left iter from xs roots rest to r in
        let room = row_room g first left iter from xs roots rest to (s.E - length xs) r (omega arith) in
        record {
          items = r.items ++ w.items;
          all = (rest2, Yields-both steps iter r.items rest w.items rest2 r.taken w.taken, none);
          counted = omega (arith, both);
          few = omega (arith, both, counted, room, some_pairs s.E g (s.E - length xs) ((s.E - length xs) * (s.E + 1) ^ g + min 0 ((s.E - length xs) * (s.E * (s.E + 1) ^ g))) 0 (omega arith) refl);
          none = λ empty. absurd (there_are (length r.pairs) refl (omega (arith, both, ap length empty)) (omega (arith, both, ap length empty)) counted);
          begun = λ c later is e.
              let n = row_next g first left iter from xs roots rest to some high (omega arith) r c (map borrowed w.items) later is (regroup r.items w.items later c e) (omega (arith, counted, length-map w.items borrowed)) in
              let is = next_same g left w.tree n.next n.later w.is_next n.is_next (ap (λ (zs : List (M × N)). zs ++ n.later) w.entries ∙ n.begins) in
              subst (λ (z : Child (M × N)). ChildBegun s K V from z to2) (sym n.whole_is)
              (inl (row_begun from r.pairs roots to n.next n.others to2 r.written n.leads (subst (λ (z : Child (M × N)). ChildBegun s K V to z to2) is (written_begun s K V to w.tree root to2 w.written))));
        }
      where
        there_are : (k : ℕ) → length r.pairs ≡ k → length r.items ≡ 0 → length w.items ≡ 0 → length w.items + 1 ≡ (s.E + 1) ^ g + min left (most s.E g) → ⊥
        there_are zero k a b counted = let z : left ≡ first = rw k at (r.left_is) ∙ omega arith in absurd (omega (arith, counted, b, next_some s.E g left some (rw z high)))
        there_are (suc k) e a b counted = absurd (omega (arith, a, some_pairs s.E g (length r.pairs) (length r.items) (min first (most s.E (suc g))) (omega (arith, e)) (row_items g first left iter from xs roots rest to r)))

    -- its node is stopped
    pub row_node_stopped : {X : Type 0} (g first left : ℕ) (iter : P) (from : Writing) (xs : List (M × N)) (roots : List (Option ℕ)) (rest : P) (to : Writing) (at : Option ℕ) (rest2 : P) (to2 : Writing) (fault : Fault X) (to3 : Writing) → 1 ≤ s.E → 1 ≤ first + g → length xs ≡ s.E →
        RowTaken s K V borrowed steps g first left iter from xs roots rest to → NextWritten s K V borrowed steps g left rest to at rest2 to2 →
        NodeStopped s K V {E = X} (λ (n : ℕ) (owns : List OwnBytes). inner_image s n owns (roots ++ at ∷ [])) (inner_size s) to2 xs fault to3 →
        NextStopped s K V borrowed steps (suc g) first iter from fault to3
    row_node_stopped {X} g first left iter from xs roots rest to at rest2 to2 fault to3 some high all r w node =
        let both = length-append r.items w.items in
        let counted = written_count g left rest to at rest2 to2 w in
        let n = row_count g first left iter from xs roots rest to r in
        let room = row_room g first left iter from xs roots rest to 0 r (omega arith) in
        record {
          items = r.items ++ w.items;
          rest = rest2;
          taken = Yields-both steps iter r.items rest w.items rest2 r.taken w.taken;
          some = omega (arith, both, some_pairs s.E g (length r.pairs) (length r.items) (min first (most s.E (suc g))) (omega (arith, n, all, some)) (row_items g first left iter from xs roots rest to r));
          few = omega (arith, both, counted, room);
          stopped = λ c later is e.
              let m = row_next g first left iter from xs roots rest to some high (omega arith) r c (map borrowed w.items) later is (regroup r.items w.items later c e) (omega (arith, counted, length-map w.items borrowed)) in
              let is = next_same g left w.tree m.next m.later w.is_next m.is_next (ap (λ (zs : List (M × N)). zs ++ m.later) w.entries ∙ m.begins) in
              subst (λ (z : Child (M × N)). ChildStopped s K V {E = X} from z fault to3) (sym m.whole_is) (inr (go m.others (omega (arith, m.entries, n, all)) (subst (λ (z : Child (M × N)). Leads z m.others) (sym is) m.leads)));
        }
      where
        go : (others : Row (M × N)) → length (row_entries others) ≡ 0 → Leads w.tree others → (rs : List (Option ℕ)) × (mid : Writing) × RowWritten s K V from (row_from r.pairs others) rs mid × NodeStopped s K V {E = X} (λ (n : ℕ) (owns : List OwnBytes). inner_image s n owns rs) (inner_size s) mid (row_entries (row_from r.pairs others)) fault to3
        go (last d) none e =
            let own : row_entries (row_from r.pairs (last d)) ≡ xs = row_from_entries r.pairs (last d) ∙ (append-nil (map (λ p. p.1) r.pairs) ∙ r.pair_entries) in (
              roots ++ at ∷ [],
              to2,
              row_written from r.pairs roots to d at to2 r.written (subst (λ (z : Child (M × N)). ChildWritten s K V to z at to2) e w.written),
              subst (λ (ys : List (M × N)). NodeStopped s K V {E = X} (λ (n : ℕ) (owns : List OwnBytes). inner_image s n owns (roots ++ at ∷ [])) (inner_size s) to2 ys fault to3) (sym own) node,
            )
        go (step d x row) none e = absurd (omega (arith, none))
