-- A lookup goes one way: all that it reads is covered by what it reads all together.
use Rattle.std.proofs.Common.{◌≡◌, ◌∙◌, inl, inr, ℕ, zero, suc, ◌+◌, ◌-◌, ◌≤◌, ◌<◌, List, Option, Some, None, Result, Ok, Err, refl, sym, ap, subst, add-one, nat_eq, slice_index, arith}
use Rattle.std.proofs.lemmas.Bool.{eq-eqb, ne_eqb, cases_lt}
use Rattle.std.specs.Prelude.{if◌then◌else◌, min, ℤ}
use Rattle.std.specs.declared.cmp.Ordering.{Ordering}
use Rattle.std.specs.declared.cmp.Ordering.TheVariants.{Less, Equal, Greater}
use Rattle.rkyv_btree_portable.specs.Bytes.{target_at, place_at}
use Rattle.rkyv_btree_portable.specs.Kind.{Kind}
use Rattle.rkyv_btree_format.specs.Layout.{layout_of, pointer_at}
use Rattle.rkyv_btree_portable.specs.declared.refusal.Refusal.{Refusal}
use Rattle.rkyv_btree_verify.specs.Refusals.{map_len}
use Rattle.rkyv_btree_unverified.proofs.Exact.{is_node, is_place, place_of}
use Rattle.rkyv_btree_unverified.specs.Steps.{key_place, value_place, Asks, ChildGives, of_leaf, absent, bad_place, child, Gives, HeadGives, misplaced, empty, bad_root, root, NodeGives, StopsBefore}
use Rattle.rkyv_btree_unverified.specs.declared.search.Next.{Next}
use Rattle.rkyv_btree_unverified.specs.declared.search.Next.TheVariants.{Hit, Down}
use Rattle.rkyv_btree_source.proofs.Lacking.{keys_more}
use Rattle.rkyv_btree_source.specs.Reads.{Lengths, Part, NodeBytes, IsLast, IsOver, NodeReads, NodeTakes, Reads, Takes, keys_len, part_len, reads_child, reads_entry, reads_key, reads_own, reads_root, reads_value, takes_down, takes_hit, takes_miss, takes_own, takes_tree}

module _ (K V : Kind) (E : ℕ) (b : List ℕ) where
  ok_of : (r : Result ℕ Refusal) → Option ℕ
  ok_of (Ok q) = Some q
  ok_of (Err e) = None

  -- the child before an entry, and the root
  target_child : ℕ → Option ℤ → Option ℕ
  target_child p None = None
  target_child p (Some z) = ok_of (place_of K V E p z)

  child_at : ℕ → ℕ → Option ℕ
  child_at p i = if nat_eq (slice_index b p) 0 then None else target_child p (target_at b (p + pointer_at (layout_of K V E) i))

  child_from : (hi p i : ℕ) (c : Option ℕ) (r : Result (Option ℕ) Refusal) → ChildGives K V E b hi p i r → r ≡ Ok c → child_at p i ≡ c
  unfolding child_at target_child ok_of
  child_from hi p i c r (of_leaf is) e = rw (eq-eqb (slice_index b p) 0 is.kind_byte) (cc e)
  child_from hi p i c r (absent is to) e = rw (ne_eqb (slice_index b p) 0 (λ z. absurd (omega (arith, z, is.kind_byte))), to) (cc e)
  child_from hi p i c r (bad_place is to bad) e = absurd (cc e)
  child_from hi p i c r (child is to ok) e = rw (ne_eqb (slice_index b p) 0 (λ z. absurd (omega (arith, z, is.kind_byte))), to, is_place K V E p _ _ ok) (cc e)

  one_child : (hi p i : ℕ) (c d : Option ℕ) → ChildGives K V E b hi p i (Ok c) → ChildGives K V E b hi p i (Ok d) → c ≡ d
  one_child hi p i c d h m = sym (child_from hi p i c (Ok c) h refl) ∙ child_from hi p i d (Ok d) m refl

  root_at : ℕ → Option ℕ
  root_at at = if nat_eq (map_len K V E b at) 0 then None else ok_of (place_of K V E at (place_at b at))

  root_from : (at : ℕ) (c : Option ℕ) (r : Result (Option ℕ) Refusal) → HeadGives K V E b at r → r ≡ Ok c → root_at at ≡ c
  unfolding root_at ok_of
  root_from at c r (misplaced h) e = absurd (cc e)
  root_from at c r (empty h none) e = rw (eq-eqb (map_len K V E b at) 0 none) (cc e)
  root_from at c r (bad_root h some bad) e = absurd (cc e)
  root_from at c r (root h some ok) e = rw (ne_eqb (map_len K V E b at) 0 some, is_place K V E at (place_at b at) _ ok) (cc e)

  pub one_root : (at : ℕ) (c d : Option ℕ) → HeadGives K V E b at (Ok c) → HeadGives K V E b at (Ok d) → c ≡ d
  one_root at c d h m = sym (root_from at c (Ok c) h refl) ∙ root_from at d (Ok d) m refl

  pub one_count : (hi p n m : ℕ) → NodeGives K V E b hi p (Ok n) → NodeGives K V E b hi p (Ok m) → n ≡ m
  one_count hi p n m h k = let same : ◌≡◌ {A = Result ℕ Refusal} (Ok n) (Ok m) = sym (is_node K V E b hi p (Ok n) h) ∙ is_node K V E b hi p (Ok m) k in cc same

  module _ (comparison : K.Value → Ordering) where
    unlike : (o w : Ordering) (e : ℕ × ℕ) → ¬ (o ≡ w) → Gives K V E b comparison o e → Gives K V E b comparison w e → ⊥
    unlike o w e other g h = other (sym g.gives ∙ h.gives)

    -- a search of a node ends at one entry: those before give Greater, and the one there doesn't
    pub record EndsAt (p n i : ℕ) : Type 0 where
      pub within : i ≤ n
      pub before : (j : ℕ) → j < i → Gives K V E b comparison Greater (p, j)
      pub ends : i < n → Gives K V E b comparison Greater (p, i) → ⊥

    pub one_end : (p n i j : ℕ) → EndsAt p n i → EndsAt p n j → i ≡ j
    one_end p n i j x y =
        elim (cases_lt i j) [
          | inl low ↦ let w = y.within in absurd (x.ends (omega (arith, low, w)) (y.before i low))
          | inr high ↦ elim (cases_lt j i) [
            | inl low ↦ let w = x.within in absurd (y.ends (omega (arith, low, w)) (x.before j low))
            | inr low ↦ omega (arith, high, low)
          ]
        ]

    pub hit_ends : (p n i : ℕ) → Asks K V E b comparison p n i → Gives K V E b comparison Equal (p, i) → EndsAt p n i
    hit_ends p n i a q = let w = a.within in record { within = omega (arith, w); before = a.before; ends = λ l g. unlike Equal Greater (p, i) (λ e. cc) q g }

    pub stop_ends : (p n i : ℕ) → StopsBefore K V E b comparison p n i → EndsAt p n i
    stop_ends p n i s = record { within = s.within; before = s.before; ends = λ l g. unlike Less Greater (p, i) (λ e. cc) (s.less l) g }

    -- no entry is asked after that
    pub asked_within : (p n i j : ℕ) → Asks K V E b comparison p n i → EndsAt p n j → i ≤ j
    asked_within p n i j a y =
        elim (cases_lt j i) [
          | inl low ↦ let w = a.within in absurd (y.ends (omega (arith, low, w)) (a.before j low))
          | inr high ↦ high
        ]

    module _ (KL VL : Lengths) where
      abbrev len : ℕ → ℕ → ℕ
      len p i = keys_len K V E b KL VL p i

      -- more keys have no fewer bytes
      keys_up : (p i d : ℕ) → len p i ≤ len p (i + d)
      keys_up p i zero = let same : i + 0 ≡ i = omega arith in omega (arith, ap (len p) same)
      keys_up p i (suc d) =
          let same : i + suc d ≡ i + d + 1 = omega (arith, add-one d) in
          omega (arith, keys_up p i d, ap (len p) same, keys_more K V E b KL VL p (i + d))

      keys_within : (p i j : ℕ) → i ≤ j → len p i ≤ len p j
      keys_within p i j le = let same : i + (j - i) ≡ j = omega (arith, le) in omega (arith, keys_up p i (j - i), ap (len p) same)

      -- the search of a node takes one number of bytes, and goes on in one way
      abbrev pub SameTaking : ℕ → ℕ → Next → Next → Type 0
      SameTaking more other next last = (more ≡ other) × (next ≡ last)

      pub moved : (hi p n m j : ℕ) → NodeGives K V E b hi p (Ok n) → NodeGives K V E b hi p (Ok m) → EndsAt p m j → EndsAt p n j
      moved hi p n m j g k y = subst (λ (c : ℕ). EndsAt p c j) (one_count hi p m n k g) y

      stop_total : (p n m i j : ℕ) → n ≡ m → i ≡ j → len p (min (i + 1) n) ≡ len p (min (j + 1) m)
      stop_total p n m i j e f = ap (len p) (cc (e, f))

      hit_total : (p i j : ℕ) → i ≡ j → len p (i + 1) + VL.outlying b (value_place K V E (p, i)) ≡ len p (j + 1) + VL.outlying b (value_place K V E (p, j))
      hit_total p i j e = ap (λ (x : ℕ). len p (x + 1) + VL.outlying b (value_place K V E (p, x))) e

      -- an entry isn't found where the search stops before it
      pub found_stops : (hi p n m i j : ℕ) → NodeGives K V E b hi p (Ok n) → NodeGives K V E b hi p (Ok m) → Asks K V E b comparison p n i → Gives K V E b comparison Equal (p, i) → StopsBefore K V E b comparison p m j → ⊥
      found_stops hi p n m i j g k a q s =
          let same : i ≡ j = one_end p n i j (hit_ends p n i a q) (moved hi p n m j g k (stop_ends p m j s)) in
          let w = a.within in
          let here : j < m = omega (arith, same, w, one_count hi p n m g k) in
          unlike Equal Less (p, j) (λ e. cc) (subst (λ (x : ℕ). Gives K V E b comparison Equal (p, x)) same q) (s.less here)

      same_stop : (hi p n m i j : ℕ) → NodeGives K V E b hi p (Ok n) → NodeGives K V E b hi p (Ok m) → StopsBefore K V E b comparison p n i → StopsBefore K V E b comparison p m j → i ≡ j
      same_stop hi p n m i j g k s t = one_end p n i j (stop_ends p n i s) (moved hi p n m j g k (stop_ends p m j t))

      -- and there the same child follows
      same_child : (hi p i j : ℕ) (c d : Option ℕ) → i ≡ j → ChildGives K V E b hi p i (Ok c) → ChildGives K V E b hi p j (Ok d) → c ≡ d
      same_child hi p i j c d e x y = one_child hi p j c d (subst (λ (k : ℕ). ChildGives K V E b hi p k (Ok c)) e x) y

      pub one_taking : (hi p more other : ℕ) (next last : Next) → NodeTakes K V E b KL VL comparison hi p more next → NodeTakes K V E b KL VL comparison hi p other last → SameTaking more other next last
      one_taking hi p more other next last (takes_hit {n = n} {i = i} g a q) (takes_hit {n = m} {i = j} k c r) =
          let same : i ≡ j = one_end p n i j (hit_ends p n i a q) (moved hi p n m j g k (hit_ends p m j c r)) in
          (hit_total p i j same, ap Hit same)
      one_taking hi p more other next last (takes_hit {n = n} {i = i} g a q) (takes_miss {n = m} {i = j} k s c) = absurd (found_stops hi p n m i j g k a q s)
      one_taking hi p more other next last (takes_hit {n = n} {i = i} g a q) (takes_down {n = m} {i = j} k s c) = absurd (found_stops hi p n m i j g k a q s)
      one_taking hi p more other next last (takes_miss {n = n} {i = i} g s c) (takes_hit {n = m} {i = j} k a q) = absurd (found_stops hi p m n j i k g a q s)
      one_taking hi p more other next last (takes_miss {n = n} {i = i} g s c) (takes_miss {n = m} {i = j} k t d) = (stop_total p n m i j (one_count hi p n m g k) (same_stop hi p n m i j g k s t), refl)
      one_taking hi p more other next last (takes_miss {n = n} {i = i} g s c) (takes_down {n = m} {i = j} {q = q} k t d) = absurd (cc (same_child hi p i j None (Some q) (same_stop hi p n m i j g k s t) c d))
      one_taking hi p more other next last (takes_down {n = n} {i = i} g s c) (takes_hit {n = m} {i = j} k a q) = absurd (found_stops hi p m n j i k g a q s)
      one_taking hi p more other next last (takes_down {n = n} {i = i} {q = q} g s c) (takes_miss {n = m} {i = j} k t d) = absurd (cc (same_child hi p i j (Some q) None (same_stop hi p n m i j g k s t) c d))
      one_taking hi p more other next last (takes_down {n = n} {i = i} {q = q} g s c) (takes_down {n = m} {i = j} {q = r} k t d) =
          let same = same_stop hi p n m i j g k s t in
          let child = same_child hi p i j (Some q) (Some r) same c d in
          let to : q ≡ r = cc child in
          (stop_total p n m i j (one_count hi p n m g k) same, ap Down to)

      -- what it takes covers each part that it reads
      key_covered : (hi p n i j k m : ℕ) → NodeGives K V E b hi p (Ok n) → NodeGives K V E b hi p (Ok m) → Asks K V E b comparison p n i → EndsAt p m j → (i + 1 ≤ j + 1 → i + 1 ≤ k) → len p i + KL.outlying b (key_place K V E (p, i)) ≤ len p k
      key_covered hi p n i j k m g h a y up =
          let le = asked_within p n i j a (moved hi p n m j g h y) in
          omega (arith, keys_within p (i + 1) k (up (omega (arith, le))), keys_more K V E b KL VL p i)

      taking_covers : (hi p more other : ℕ) (part : Part) (next : Next) → NodeReads K V E b KL VL comparison hi p more part → NodeTakes K V E b KL VL comparison hi p other next → more + part_len K V E b KL VL part ≤ other
      taking_covers hi p more other part next (reads_key {n = n} {i = i} g a) (takes_hit {n = m} {i = j} h c q) =
          omega (arith, key_covered hi p n i j (j + 1) m g h a (hit_ends p m j c q) (λ le. le))
      taking_covers hi p more other part next (reads_key {n = n} {i = i} g a) (takes_miss {n = m} {i = j} h s c) =
          let w = a.within in let same = one_count hi p n m g h in
          key_covered hi p n i j (min (j + 1) m) m g h a (stop_ends p m j s) (λ le. omega (arith, le, w, same))
      taking_covers hi p more other part next (reads_key {n = n} {i = i} g a) (takes_down {n = m} {i = j} h s c) =
          let w = a.within in let same = one_count hi p n m g h in
          key_covered hi p n i j (min (j + 1) m) m g h a (stop_ends p m j s) (λ le. omega (arith, le, w, same))
      taking_covers hi p more other part next (reads_value {n = n} {i = i} g a q) (takes_hit {n = m} {i = j} h c r) =
          let same : i ≡ j = one_end p n i j (hit_ends p n i a q) (moved hi p n m j g h (hit_ends p m j c r)) in
          omega (arith, hit_total p i j same)
      taking_covers hi p more other part next (reads_value {n = n} {i = i} g a q) (takes_miss {n = m} {i = j} h s c) = absurd (found_stops hi p n m i j g h a q s)
      taking_covers hi p more other part next (reads_value {n = n} {i = i} g a q) (takes_down {n = m} {i = j} h s c) = absurd (found_stops hi p n m i j g h a q s)

      -- what a lookup takes from the node at p on
      data Rest : ℕ → ℕ → ℕ → Type 0 where
        rest_last : {hi p more : ℕ} {next : Next} → NodeTakes K V E b KL VL comparison hi p more next → IsLast next → Rest hi p (part_len K V E b KL VL (NodeBytes hi p) + more)
        rest_child : {hi p more q rest : ℕ} → NodeTakes K V E b KL VL comparison hi p more (Down q) → Rest p q rest → Rest hi p (part_len K V E b KL VL (NodeBytes hi p) + more + rest)

      one_rest : (hi p r s : ℕ) → Rest hi p r → Rest hi p s → r ≡ s
      one_rest hi p r s (rest_last {more = more} {next = next} t ends) (rest_last {more = other} {next = last} u end) =
          let same = one_taking hi p more other next last t u in
          ap (λ (x : ℕ). part_len K V E b KL VL (NodeBytes hi p) + x) same.0
      one_rest hi p r s (rest_last {more = more} {next = next} t ends) (rest_child {more = other} {q = q} u rest) =
          let same = one_taking hi p more other next (Down q) t u in
          absurd (subst (λ (x : Next). IsLast x) same.1 ends)
      one_rest hi p r s (rest_child {more = more} {q = q} t rest) (rest_last {more = other} {next = last} u end) =
          let same = one_taking hi p more other (Down q) last t u in
          absurd (subst (λ (x : Next). IsLast x) (sym same.1) end)
      one_rest hi p r s (rest_child {more = more} {q = q} {rest = x} t rest) (rest_child {more = other} {q = w} {rest = y} u last) =
          let same = one_taking hi p more other (Down q) (Down w) t u in
          let down = same.1 in
          let to : w ≡ q = cc down in
          let more_same = same.0 in
          let below : x ≡ y = one_rest p q x y rest (subst (λ (k : ℕ). Rest p k y) to last) in
          omega (arith, more_same, below)

      rest_by : (hi p at q rest : ℕ) → NodeBytes at q ≡ NodeBytes hi p → Rest hi p rest → Rest at q rest
      rest_by hi p at q rest e r =
          let a : hi ≡ at = cc e in
          let s : p ≡ q = cc e in
          subst (λ (x : ℕ). Rest at x rest) s (subst (λ (x : ℕ). Rest x p rest) a r)

      no_node : (hi p more h q : ℕ) (part : Part) → NodeReads K V E b KL VL comparison hi p more part → part ≡ NodeBytes h q → ⊥
      no_node hi p more h q part (reads_key g a) e = absurd (cc e)
      no_node hi p more h q part (reads_value g a o) e = absurd (cc e)

      module _ (at : ℕ) where
        -- what it takes from a node on, and what it has read before, is what it takes from the root on
        record FromRoot (total : ℕ) : Type 0 where
          q : ℕ
          all : ℕ
          head : HeadGives K V E b at (Ok (Some q))
          rest : Rest at q all
          same : total ≡ 8 + all

        from_root : (before hi p rest : ℕ) (part : Part) → Reads K V E b KL VL comparison at before part → part ≡ NodeBytes hi p → Rest hi p rest → FromRoot (before + rest)
        from_root before hi p rest part reads_own e r = absurd (cc e)
        from_root before hi p rest part (reads_root {q = q} head) e r = record { q = q; all = rest; head = head; rest = rest_by hi p at q rest e r; same = refl }
        from_root before hi p rest part (reads_child {before = start} {hi = h} {p = w} {more = more} {q = q} reads t) e r =
            let there = from_root start h w (part_len K V E b KL VL (NodeBytes h w) + more + rest) (NodeBytes h w) reads refl (rest_child t (rest_by hi p w q rest e r)) in
            let same = there.same in
            record { q = there.q; all = there.all; head = there.head; rest = there.rest; same = omega (arith, same) }
        from_root before hi p rest part (reads_entry {hi = h} {p = w} {more = more} reads entry) e r = absurd (no_node h w more hi p part entry e)

        -- and back
        record ToNode (hi p before all : ℕ) : Type 0 where
          rest : ℕ
          takes : Rest hi p rest
          same : before + rest ≡ 8 + all

        after : (hi p more q rest : ℕ) → NodeTakes K V E b KL VL comparison hi p more (Down q) → Rest hi p rest → (left : ℕ) × Rest p q left × (rest ≡ part_len K V E b KL VL (NodeBytes hi p) + more + left)
        after hi p more q rest t (rest_last {more = other} {next = last} u end) =
            let same = one_taking hi p more other (Down q) last t u in
            absurd (subst (λ (x : Next). IsLast x) (sym same.1) end)
        after hi p more q rest t (rest_child {more = other} {q = w} {rest = left} u r) =
            let same = one_taking hi p more other (Down q) (Down w) t u in
            let down = same.1 in
            let to : w ≡ q = cc down in
            let more_same = same.0 in
            (left, subst (λ (k : ℕ). Rest p k left) to r, omega (arith, more_same))

        to_node : (before hi p top all : ℕ) (part : Part) → Reads K V E b KL VL comparison at before part → part ≡ NodeBytes hi p → HeadGives K V E b at (Ok (Some top)) → Rest at top all → ToNode hi p before all
        to_node before hi p top all part reads_own e head r = absurd (cc e)
        to_node before hi p top all part (reads_root {q = q} first) e head r =
            let is = one_root at (Some top) (Some q) head first in
            let same : top ≡ q = cc is in
            record { rest = all; takes = rest_by at q hi p all (sym e) (subst (λ (x : ℕ). Rest at x all) same r); same = refl }
        to_node before hi p top all part (reads_child {before = start} {hi = h} {p = w} {more = more} {q = q} reads t) e head r =
            let there = to_node start h w top all (NodeBytes h w) reads refl head r in
            let last = after h w more q there.rest t there.takes in
            let same = there.same in
            let left = last.2 in
            record { rest = last.0; takes = rest_by w q hi p last.0 (sym e) last.1; same = omega (arith, same, left) }
        to_node before hi p top all part (reads_entry {hi = h} {p = w} {more = more} reads entry) e head r = absurd (no_node h w more hi p part entry e)

        node_within : (hi p rest : ℕ) → Rest hi p rest → part_len K V E b KL VL (NodeBytes hi p) ≤ rest
        node_within hi p rest (rest_last t ends) = omega arith
        node_within hi p rest (rest_child t r) = omega arith

        entry_within : (hi p more rest : ℕ) (part : Part) → NodeReads K V E b KL VL comparison hi p more part → Rest hi p rest → part_len K V E b KL VL (NodeBytes hi p) + more + part_len K V E b KL VL part ≤ rest
        entry_within hi p more rest part entry (rest_last {more = other} {next = next} t ends) = omega (arith, taking_covers hi p more other part next entry t)
        entry_within hi p more rest part entry (rest_child {more = other} {q = q} t r) = omega (arith, taking_covers hi p more other part (Down q) entry t)

        rest_covers : (before top all : ℕ) (part : Part) → Reads K V E b KL VL comparison at before part → HeadGives K V E b at (Ok (Some top)) → Rest at top all → before + part_len K V E b KL VL part ≤ 8 + all
        rest_covers before top all part reads_own head r = omega arith
        rest_covers before top all part (reads_root {q = q} first) head r =
            let there = to_node 8 at q top all (NodeBytes at q) (reads_root first) refl head r in
            let same = there.same in
            omega (arith, same, node_within at q there.rest there.takes)
        rest_covers before top all part (reads_child {hi = hi} {p = p} {more = more} {q = q} reads t) head r =
            let there = to_node before p q top all (NodeBytes p q) (reads_child reads t) refl head r in
            let same = there.same in
            omega (arith, same, node_within p q there.rest there.takes)
        rest_covers before top all part (reads_entry {before = start} {hi = hi} {p = p} {more = more} reads entry) head r =
            let there = to_node start hi p top all (NodeBytes hi p) reads refl head r in
            let same = there.same in
            omega (arith, same, entry_within hi p more there.rest part entry there.takes)

        -- a node is read only below a root
        has_root : (before hi p : ℕ) (part : Part) → Reads K V E b KL VL comparison at before part → part ≡ NodeBytes hi p → (q : ℕ) × HeadGives K V E b at (Ok (Some q))
        has_root before hi p part reads_own e = absurd (cc e)
        has_root before hi p part (reads_root {q = q} head) e = (q, head)
        has_root before hi p part (reads_child {before = start} {hi = h} {p = w} reads t) e = has_root start h w (NodeBytes h w) reads refl
        has_root before hi p part (reads_entry {hi = h} {p = w} {more = more} reads entry) e = absurd (no_node h w more hi p part entry e)

        no_root : (q : ℕ) → HeadGives K V E b at (Ok None) → HeadGives K V E b at (Ok (Some q)) → ⊥
        no_root q none some = let same = one_root at None (Some q) none some in absurd (cc same)

        empty_covers : (before : ℕ) (part : Part) → Reads K V E b KL VL comparison at before part → HeadGives K V E b at (Ok None) → before + part_len K V E b KL VL part ≤ 8
        empty_covers before part reads_own none = omega arith
        empty_covers before part (reads_root {q = q} head) none = absurd (no_root q none head)
        empty_covers before part (reads_child {before = start} {hi = h} {p = w} reads t) none = let there = has_root start h w (NodeBytes h w) reads refl in absurd (no_root there.0 none there.1)
        empty_covers before part (reads_entry {before = start} {hi = h} {p = w} reads entry) none = let there = has_root start h w (NodeBytes h w) reads refl in absurd (no_root there.0 none there.1)

        tree_from : (before hi p more : ℕ) (next : Next) → Reads K V E b KL VL comparison at before (NodeBytes hi p) → NodeTakes K V E b KL VL comparison hi p more next → IsLast next
            → FromRoot (before + (part_len K V E b KL VL (NodeBytes hi p) + more))
        tree_from before hi p more next reads t ends = from_root before hi p (part_len K V E b KL VL (NodeBytes hi p) + more) (NodeBytes hi p) reads refl (rest_last t ends)

        pub covered : (before all : ℕ) (part : Part) → Reads K V E b KL VL comparison at before part → Takes K V E b KL VL comparison at all → before + part_len K V E b KL VL part ≤ all
        covered before all part reads (takes_own none) = empty_covers before part reads none
        covered before all part reads (takes_tree {before = start} {hi = hi} {p = p} {more = more} {next = next} way t ends) =
            let there = tree_from start hi p more next way t ends in
            let same = there.same in
            omega (arith, same, rest_covers before there.q there.all part reads there.head there.rest)

        pub enough : (all budget : ℕ) → Takes K V E b KL VL comparison at all → all ≤ budget → IsOver K V E b KL VL (Reads K V E b KL VL comparison at) budget → ⊥
        enough all budget takes le over =
            let more = over.more in
            absurd (omega (arith, more, le, covered over.before all over.part over.reads takes))

        one_tree : (all other : ℕ) → FromRoot all → FromRoot other → all ≡ other
        one_tree all other x y =
            let is = one_root at (Some y.q) (Some x.q) y.head x.head in
            let root_same : y.q ≡ x.q = cc is in
            let rest = one_rest at x.q x.all y.all x.rest (subst (λ (k : ℕ). Rest at k y.all) root_same y.rest) in
            let left = x.same in
            let right = y.same in
            omega (arith, left, right, rest)

        pub one_total : (all other : ℕ) → Takes K V E b KL VL comparison at all → Takes K V E b KL VL comparison at other → all ≡ other
        one_total all other (takes_own none) (takes_own more) = refl
        one_total all other (takes_own none) (takes_tree {before = start} {hi = hi} {p = p} way t ends) = let there = has_root start hi p (NodeBytes hi p) way refl in absurd (no_root there.0 none there.1)
        one_total all other (takes_tree {before = start} {hi = hi} {p = p} way t ends) (takes_own none) = let there = has_root start hi p (NodeBytes hi p) way refl in absurd (no_root there.0 none there.1)
        one_total all other (takes_tree {before = a} {hi = h} {p = p} {more = m} {next = x} way t ends) (takes_tree {before = c} {hi = k} {p = q} {more = n} {next = y} way2 u end) =
            let left : a + part_len K V E b KL VL (NodeBytes h p) + m ≡ a + (part_len K V E b KL VL (NodeBytes h p) + m) = omega arith in
            let right : c + part_len K V E b KL VL (NodeBytes k q) + n ≡ c + (part_len K V E b KL VL (NodeBytes k q) + n) = omega arith in
            left ∙ (one_tree _ _ (tree_from a h p m x way t ends) (tree_from c k q n y way2 u end) ∙ sym right)
