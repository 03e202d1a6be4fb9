-- What has a fault is refused with it: so there is one refusal at most, and none of what is a map.
use Rattle.std.proofs.Common.{◌≡◌, ◌≢◌, inl, inr, ℕ, suc, ◌+◌, ◌%◌, ◌≤◌, ◌<◌, true, List, [], ◌∷◌, length, Ok, Err, ℤ, pos, negsuc, ◌+ℤ◌, ◌<ℤ◌, refl, sym, ap, add-one, ◌∙◌, subst, nat_lt, slice_index, arith}
use Rattle.std.proofs.lemmas.Bool.{eq-eqb, ne_eqb, le-ltb, lt-ltb, cases_lt}
use Rattle.std.proofs.lemmas.Int.{ints}
use Rattle.rkyv_btree_portable.specs.declared.refusal.Refusal.{Refusal}
use Rattle.rkyv_btree_portable.specs.declared.refusal.Refusal.TheVariants.{OutOfRange, Misaligned, BadKind, InvalidLength, BadEntry, EntriesLengthMismatch}
use Rattle.rkyv_btree_portable.specs.Bytes.{number_at, place_at}
use Rattle.rkyv_btree_verify.specs.mirror.Check.{node_place, check_entry, check_entries, check_leaf, check_pointer, check_pointers, check_inner, check_placed, check_node, check_tree, check_root, check_map}
use Rattle.rkyv_btree_portable.specs.Kind.{Kind, Leaves, Decides}
use Rattle.rkyv_btree_format.specs.Layout.{NodeLayout, layout_of, key_at, value_at, align, len_at, leaf_size, inner_size}
use Rattle.rkyv_btree_format.specs.Spells.{Spells, SpellsChild}
use Rattle.rkyv_btree_shape.specs.Tree.{Tree, leaf, inner, Child, absent, child, list, height, child_list}
use Rattle.rkyv_btree_verify.specs.Refusals.{HasKind, IsInner, RefusesEntries, in_key, in_value, in_later, Children, RefusesNode, too_deep, starts_before, ends_past, misaligned, bad_kind, inner_past, leaf_length, leaf_entry, in_child, inner_entry, RefusesPointers, here, later, RefusesMap, misplaced, in_tree, other_total}
use Rattle.rkyv_btree_format.specs.Spells.{Accepted}
use Rattle.rkyv_btree_verify.proofs.Root.{map_complete}
use Rattle.rkyv_btree_portable.specs.Refusing.{HasPlace, Misplaced, too_long, no_room, unaligned}
use Rattle.rkyv_btree_format.proofs.Sizes.{IsSound, follow}
use Rattle.rkyv_btree_verify.proofs.Results.{none_of}
use Rattle.rkyv_btree_verify.proofs.Complete.{place_complete, child_complete, tree_complete}

out_before : (s : NodeLayout) (p : ℤ) (lo hi : ℕ) → p <ℤ pos lo → node_place s p lo hi ≡ Err (OutOfRange p)
out_before s (negsuc n) lo hi h = refl
out_before s (pos p) lo hi h = rw (lt-ltb p lo (omega (arith, ints))) refl

out_past : (s : NodeLayout) (p : ℤ) (lo hi : ℕ) → pos hi <ℤ (p +ℤ pos (leaf_size s)) → node_place s p lo hi ≡ Err (OutOfRange p)
out_past s (negsuc n) lo hi h = refl
out_past s (pos p) lo hi h =
    let past : nat_lt hi (p + leaf_size s) ≡ true = lt-ltb hi (p + leaf_size s) (omega (arith, ints)) in
    elim (cases_lt p lo) [
      | inl l ↦ rw (lt-ltb p lo l) refl
      | inr l ↦ rw (le-ltb p lo l, past) refl
    ]

not_aligned : (s : NodeLayout) (lo hi p : ℕ) → lo ≤ p → p + leaf_size s ≤ hi → p % align s ≢ 0 → node_place s (pos p) lo hi ≡ Err (Misaligned p)
not_aligned s lo hi p after room h = rw (le-ltb p lo after, le-ltb hi (p + leaf_size s) room, ne_eqb (p % align s) 0 h) refl

pub misplaced_faulty : (s : NodeLayout) (keys values : Leaves) (b : List ℕ) (at lo hi : ℕ) {e : Refusal} → Misplaced b 8 4 at e → check_map s keys values b at lo hi ≡ Err e
unfolding check_map
misplaced_faulty s keys values b at lo hi (too_long h) = rw (lt-ltb 4294967295 (length b) h) refl
misplaced_faulty s keys values b at lo hi (no_room short h) = rw (le-ltb 4294967295 (length b) short, lt-ltb (length b) (at + 8) h) refl
misplaced_faulty s keys values b at lo hi (unaligned short room h) = rw (le-ltb 4294967295 (length b) short, le-ltb (length b) (at + 8) room, ne_eqb (at % 4) 0 h) refl

module _ (K V : Kind) (E : ℕ) (keys values : Leaves) (b : List ℕ) (ks : Decides K keys) (vs : Decides V values) (fits : IsSound (layout_of K V E)) where
  pub entries_faulty : {p n i lo at : ℕ} → lo ≤ p → RefusesEntries K V E b p n i lo at → check_entries (layout_of K V E) keys values b p n i lo ≡ Err (BadEntry at)
  unfolding check_entry
  entries_faulty {p} {n} {i} {lo} before (in_key nothing) =
      rw (none_of K keys b lo p (p + key_at (layout_of K V E) i) ks before (omega arith) nothing) refl
  entries_faulty {p} {n} {i} {lo} before (in_value {mid = mid} {key = key} k nothing) =
      let s = layout_of K V E in
      let w = ks.within b lo p (p + key_at s i) mid key k in
      rw (ks.only b lo p (p + key_at s i) mid key k, none_of V values b mid p (p + value_at s i) vs w.1 (omega arith) nothing) refl
  entries_faulty {p} {n} {i} {lo} before (in_later {mid = mid} {next = next} {key = key} {value = value} k v rest) =
      let s = layout_of K V E in
      let w = vs.within b mid p (p + value_at s i) next value v in
      rw (ks.only b lo p (p + key_at s i) mid key k, vs.only b mid p (p + value_at s i) next value v) (entries_faulty w.1 rest)

  -- how many entries children have
  abbrev pub below_all : List (Child (K.Value × V.Value)) → ℕ
  below_all [] = 0
  below_all (c ∷ cs) = length (child_list c) + below_all cs

  children_complete : (cs : List (Child (K.Value × V.Value))) (levels p i lo mid so_far : ℕ) → Children K V E b levels p i lo mid cs → check_pointers (layout_of K V E) keys values b (check_node (layout_of K V E) keys values b levels) p (length cs) i (record { lo = lo; entries = so_far }) ≡ Ok (record { lo = mid; entries = so_far + below_all cs })
  children_complete [] levels p i lo mid so_far h = rw h (ap (λ (n : ℕ). Ok (record { lo = lo; entries = n })) (omega arith))
  children_complete (c ∷ cs) levels p i lo mid so_far h =
      rw (child_complete K V E keys values b ks vs fits c levels p i lo h.0 so_far h.1 h.2)
      (children_complete cs levels p (i + 1) h.0 mid (so_far + length (child_list c)) h.3 ∙ ap (λ (n : ℕ). Ok (record { lo = mid; entries = n })) (omega arith))

  children_within : (cs : List (Child (K.Value × V.Value))) (levels p i lo mid : ℕ) → lo ≤ p → Children K V E b levels p i lo mid cs → mid ≤ p
  children_within [] levels p i lo mid before h = omega arith
  children_within (c ∷ cs) levels p i lo mid before h = children_within cs levels p (i + 1) h.0 mid (child_within c p i lo h.0 before h.1) h.3
    where
      child_within : (c : Child (K.Value × V.Value)) (p i lo next : ℕ) → lo ≤ p → SpellsChild K V E b p i lo next c → next ≤ p
      child_within absent p i lo next before h = omega (arith, h.1)
      child_within (child (leaf m)) p i lo next before h = omega (arith, h.3, h.2.0.room)
      child_within (child (inner row)) p i lo next before h = omega (arith, h.3, h.2.0.room)

  leaf_faulty : (levels lo hi start at : ℕ) → HasKind K V E b lo hi start 0 → number_at b (start + len_at (layout_of K V E)) 4 ≤ E → RefusesEntries K V E b start (number_at b (start + len_at (layout_of K V E)) 4) 0 lo at → check_node (layout_of K V E) keys values b (suc levels) (pos start) lo hi ≡ Err (BadEntry at)
  unfolding check_placed check_leaf
  leaf_faulty levels lo hi start at is le fault =
      let s = layout_of K V E in
      rw (place_complete s lo hi start is.start is.room is.aligned)
      (rw (eq-eqb (slice_index b start) 0 is.kind_byte, le-ltb E (number_at b (start + len_at s) 4) le, entries_faulty is.start fault) refl)

  length_faulty : (levels lo hi start : ℕ) → HasKind K V E b lo hi start 0 → E < number_at b (start + len_at (layout_of K V E)) 4 → check_node (layout_of K V E) keys values b (suc levels) (pos start) lo hi ≡ Err (InvalidLength (record { len = number_at b (start + len_at (layout_of K V E)) 4; maximum = E }))
  unfolding check_placed check_leaf
  length_faulty levels lo hi start is lt =
      let s = layout_of K V E in
      rw (place_complete s lo hi start is.start is.room is.aligned)
      (rw (eq-eqb (slice_index b start) 0 is.kind_byte, lt-ltb E (number_at b (start + len_at s) 4) lt) refl)

  kind_faulty : (levels lo hi start kind : ℕ) → HasKind K V E b lo hi start kind → kind ≢ 0 → kind ≢ 1 → check_node (layout_of K V E) keys values b (suc levels) (pos start) lo hi ≡ Err (BadKind start kind)
  unfolding check_placed
  kind_faulty levels lo hi start kind is not_leaf not_inner =
      let s = layout_of K V E in
      rw (place_complete s lo hi start is.start is.room is.aligned)
      (rw (ne_eqb (slice_index b start) 0 (λ e. not_leaf (sym is.kind_byte ∙ e)), ne_eqb (slice_index b start) 1 (λ e. not_inner (sym is.kind_byte ∙ e)), is.kind_byte) refl)

  room_faulty : (levels lo hi start : ℕ) → HasKind K V E b lo hi start 1 → hi < start + inner_size (layout_of K V E) → check_node (layout_of K V E) keys values b (suc levels) (pos start) lo hi ≡ Err (OutOfRange (pos start))
  unfolding check_placed
  room_faulty levels lo hi start is past =
      let s = layout_of K V E in
      rw (place_complete s lo hi start is.start is.room is.aligned)
      (rw (ne_eqb (slice_index b start) 0 (λ e. absurd (omega (arith, is.kind_byte))), eq-eqb (slice_index b start) 1 is.kind_byte, lt-ltb hi (start + inner_size s) past) refl)

  inner_is : (levels lo hi start : ℕ) → IsInner K V E b lo hi start → check_node (layout_of K V E) keys values b (suc levels) (pos start) lo hi ≡ check_inner (layout_of K V E) keys values b (check_node (layout_of K V E) keys values b levels) start lo
  unfolding check_placed
  inner_is levels lo hi start is =
      let s = layout_of K V E in
      let room = (follow s fits).leaf in
      rw (place_complete s lo hi start is.start (omega (arith, is.room)) is.aligned)
      (rw (ne_eqb (slice_index b start) 0 (λ e. absurd (omega (arith, is.kind_byte))), eq-eqb (slice_index b start) 1 is.kind_byte, le-ltb hi (start + inner_size s) is.room) refl)

  child_faulty : (levels lo start : ℕ) (e : Refusal) → check_pointers (layout_of K V E) keys values b (check_node (layout_of K V E) keys values b levels) start (suc E) 0 (record { lo = lo; entries = 0 }) ≡ Err e → check_inner (layout_of K V E) keys values b (check_node (layout_of K V E) keys values b levels) start lo ≡ Err e
  unfolding check_inner
  child_faulty levels lo start e h =
      let s = layout_of K V E in
      let node = check_node s keys values b levels in
      let first : check_pointers s keys values b node start (E + 1) 0 (record { lo = lo; entries = 0 }) ≡ Err e = subst (λ (k : ℕ). check_pointers s keys values b node start k 0 (record { lo = lo; entries = 0 }) ≡ Err e) (sym (add-one E)) h in
      rw first refl

  entry_faulty : (levels lo start mid at : ℕ) (cs : List (Child (K.Value × V.Value))) → lo ≤ start → length cs ≡ suc E → Children K V E b levels start 0 lo mid cs → RefusesEntries K V E b start E 0 mid at → check_inner (layout_of K V E) keys values b (check_node (layout_of K V E) keys values b levels) start lo ≡ Err (BadEntry at)
  unfolding check_inner
  entry_faulty levels lo start mid at cs before count spelled fault =
      let s = layout_of K V E in
      let node = check_node s keys values b levels in
      let first : check_pointers s keys values b node start (E + 1) 0 (record { lo = lo; entries = 0 }) ≡ Ok (record { lo = mid; entries = 0 + below_all cs }) =
      subst (λ (k : ℕ). check_pointers s keys values b node start k 0 (record { lo = lo; entries = 0 }) ≡ Ok (record { lo = mid; entries = 0 + below_all cs })) (count ∙ sym (add-one E)) (children_complete cs levels start 0 lo mid 0 spelled) in
      rw (first, entries_faulty (children_within cs levels start 0 lo mid before spelled) fault) refl

  mutual
    unfolding check_pointer

    pub node_faulty : {levels lo hi : ℕ} {p : ℤ} {e : Refusal} → RefusesNode K V E b levels p lo hi e → check_node (layout_of K V E) keys values b levels p lo hi ≡ Err e
    node_faulty too_deep = refl
    node_faulty (starts_before {p = p} {lo = lo} {hi = hi} h) = rw (out_before (layout_of K V E) p lo hi h) refl
    node_faulty (ends_past {p = p} {lo = lo} {hi = hi} h) = rw (out_past (layout_of K V E) p lo hi h) refl
    node_faulty (misaligned {lo = lo} {hi = hi} {start = start} after room h) = rw (not_aligned (layout_of K V E) lo hi start after room h) refl
    node_faulty (bad_kind is not_leaf not_inner) = kind_faulty _ _ _ _ _ is not_leaf not_inner
    node_faulty (inner_past is past) = room_faulty _ _ _ _ is past
    node_faulty (leaf_length is lt) = length_faulty _ _ _ _ is lt
    node_faulty (leaf_entry is le fault) = leaf_faulty _ _ _ _ _ is le fault
    node_faulty (in_child is fault) = inner_is _ _ _ _ is ∙ child_faulty _ _ _ _ (pointers_faulty 0 fault)
    node_faulty (inner_entry is children count spelled fault) = inner_is _ _ _ _ is ∙ entry_faulty _ _ _ _ _ children is.start count spelled fault

    pub pointers_faulty : {levels p n i lo : ℕ} {e : Refusal} (so_far : ℕ) → RefusesPointers K V E b levels p n i lo e → check_pointers (layout_of K V E) keys values b (check_node (layout_of K V E) keys values b levels) p n i (record { lo = lo; entries = so_far }) ≡ Err e
    pointers_faulty so_far (here leads fault) = rw (leads, node_faulty fault) refl
    pointers_faulty {levels} {p} {n} {i} {lo} so_far (later {mid = mid} c spelled depth rest) =
        rw (child_complete K V E keys values b ks vs fits c levels p i lo mid so_far spelled depth) (pointers_faulty (so_far + length (child_list c)) rest)

  total_faulty : (lo hi at start : ℕ) → HasPlace b 8 4 at → number_at b (at + 4) 4 ≢ 0 → (t : Tree (K.Value × V.Value)) → place_at b at ≡ pos start → Spells K V E b lo hi start t → height t ≤ 32 → length (list t) ≢ number_at b (at + 4) 4 → check_map (layout_of K V E) keys values b at lo hi ≡ Err (EntriesLengthMismatch (record { entries = length (list t); len = number_at b (at + 4) 4 }))
  unfolding check_map check_root check_tree
  total_faulty lo hi at start has some t leads spelled depth other =
      let n = number_at b (at + 4) 4 in
      rw (le-ltb 4294967295 (length b) has.short, le-ltb (length b) (at + 8) has.room, eq-eqb (at % 4) 0 has.aligned)
      (rw (ne_eqb n 0 some, leads, tree_complete K V E keys values b ks vs fits t 32 lo hi start spelled depth, ne_eqb (length (list t)) n other) refl)

  tree_faulty : (lo hi at : ℕ) (e : Refusal) → HasPlace b 8 4 at → number_at b (at + 4) 4 ≢ 0 → RefusesNode K V E b 32 (place_at b at) lo hi e → check_map (layout_of K V E) keys values b at lo hi ≡ Err e
  unfolding check_map check_root check_tree
  tree_faulty lo hi at e has some fault =
      rw (le-ltb 4294967295 (length b) has.short, le-ltb (length b) (at + 8) has.room, eq-eqb (at % 4) 0 has.aligned)
      (rw (ne_eqb (number_at b (at + 4) 4) 0 some, node_faulty fault) refl)

  pub map_faulty : {lo hi at : ℕ} {e : Refusal} → RefusesMap K V E b lo hi at e → check_map (layout_of K V E) keys values b at lo hi ≡ Err e
  map_faulty {lo} {hi} {at} (misplaced h) = misplaced_faulty (layout_of K V E) keys values b at lo hi h
  map_faulty (in_tree has some fault) = tree_faulty _ _ _ _ has some fault
  map_faulty (other_total has some t leads spelled depth other) = total_faulty _ _ _ _ has some t leads spelled depth other

  -- a node with a fault spells no tree
  pub no_tree : (levels lo hi start : ℕ) (e : Refusal) (t : Tree (K.Value × V.Value)) → RefusesNode K V E b levels (pos start) lo hi e → Spells K V E b lo hi start t → height t ≤ levels → ⊥
  no_tree levels lo hi start e t fault spelled depth =
      let refused = node_faulty fault in
      let found = tree_complete K V E keys values b ks vs fits t levels lo hi start spelled depth in
      absurd (cc (refused, found))

  -- bytes with a fault are no map
  pub no_map : (lo hi at lo2 : ℕ) (m : List (K.Value × V.Value)) (e : Refusal) → RefusesMap K V E b lo hi at e → Accepted K V E b lo hi at lo2 m → ⊥
  no_map lo hi at lo2 m e refuses a =
      let refused = map_faulty refuses in
      let found = map_complete K V E keys values b ks vs fits at lo hi lo2 m a in
      absurd (cc (refused, found))

  -- the refusal is determined
  pub one_refusal : (lo hi at : ℕ) (e d : Refusal) → RefusesMap K V E b lo hi at e → RefusesMap K V E b lo hi at d → e ≡ d
  one_refusal lo hi at e d refuses other =
      let first = map_faulty refuses in
      let second = map_faulty other in
      cc
