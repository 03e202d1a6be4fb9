-- What a lookup returns is determined.
use Rattle.std.proofs.Common.{◌≡◌, inl, inr, ℕ, zero, suc, ◌+◌, ◌%◌, ◌≤◌, ◌<◌, IsTrue, List, length, Option, Some, None, Result, Ok, Err, ℤ, pos, negsuc, refl, sym, ap, ◌∙◌, subst, nat_lt, nat_eq, slice_index, arith}
use Rattle.std.proofs.lemmas.Bool.{eq-eqb, ne_eqb, le-ltb, lt-ltb, cases_lt}
use Rattle.std.proofs.lemmas.Int.{ints}
use Rattle.std.specs.Prelude.{if◌then◌else◌}
use Rattle.std.specs.declared.cmp.Ordering.{Ordering}
use Rattle.std.specs.declared.cmp.Ordering.TheVariants.{Less, Equal, Greater}
use Rattle.rkyv_btree_portable.specs.Bytes.{target_at, place_at}
use Rattle.rkyv_btree_portable.specs.Kind.{Kind, IsLawful}
use Rattle.rkyv_btree_format.specs.Layout.{layout_of, leaf_size, inner_size, pointer_at, align}
use Rattle.rkyv_btree_portable.specs.declared.refusal.Refusal.{Refusal}
use Rattle.rkyv_btree_portable.specs.declared.refusal.Refusal.TheVariants.{OutOfRange, Misaligned, BadKind, InvalidLength, TooLong}
use Rattle.rkyv_btree_verify.specs.Refusals.{leaf_len, map_len}
use Rattle.rkyv_btree_portable.specs.Refusing.{HasPlace, Misplaced, too_long, no_room, unaligned, AreRefusals}
use Rattle.rkyv_btree_portable.specs.Views.{stands}
use Rattle.rkyv_btree_portable.specs.laws.Views.{means_read}
use Rattle.rkyv_btree_unverified.specs.Steps.{Then, GoesOn, key_place, value_place, PlaceGives, starts_before, ends_past, misaligned, good_place, NodeGives, bad_kind, inner_past, too_many, leaf, inner, ChildGives, of_leaf, absent, bad_place, child}
use Rattle.rkyv_btree_unverified.specs.Lookups.{AtChild, AtHalt, TreeGives, LookupGives}
use Rattle.rkyv_btree_unverified.specs.Steps.{HeadGives, misplaced, empty, bad_root, root, Gives, Asks, StopsBefore, KeysGive, bad_key, bad_value, equal_key, stops}
use Rattle.rkyv_btree_unverified.specs.declared.search.Halt.{Halt}
use Rattle.rkyv_btree_unverified.specs.declared.search.Halt.TheVariants.{Found, Below}

-- steps whose results are determined make up one whose result is
one_then : {A B : Type 0} {first : Result A Refusal → Type 0} {next : A → Result B Refusal → Type 0} → ((x y : Result A Refusal) → first x → first y → x ≡ y) → ((a : A) (r s : Result B Refusal) → next a r → next a s → r ≡ s)
    → (r s : Result B Refusal) → Then first next r → Then first next s → r ≡ s
one_then {A} {B} {first} {next} one more r s h k = on h.result h.goes_on (subst (λ (x : Result A Refusal). GoesOn next x s) (one k.result h.result k.gives h.gives) k.goes_on)
  where
    on : (x : Result A Refusal) → GoesOn next x r → GoesOn next x s → r ≡ s
    on (Ok a) p q = more a r s p q
    on (Err e) p q = p ∙ sym q

some_of : Result ℕ Refusal → Result (Option ℕ) Refusal
some_of (Ok q) = Ok (Some q)
some_of (Err e) = Err e

module _ (K V : Kind) (E : ℕ) where
  pub place_of : ℕ → ℤ → Result ℕ Refusal
  place_of hi (negsuc n) = Err (OutOfRange (negsuc n))
  place_of hi (pos q) =
      if nat_lt hi (q + leaf_size (layout_of K V E)) then Err (OutOfRange (pos q)) else
      if nat_eq (q % align (layout_of K V E)) 0 then Ok q else Err (Misaligned q)

  pub is_place : (hi : ℕ) (p : ℤ) (r : Result ℕ Refusal) → PlaceGives K V E hi p r → place_of hi p ≡ r
  unfolding place_of
  is_place hi (negsuc n) r (starts_before h) = refl
  is_place hi (pos q) r (starts_before h) = absurd (omega (arith, ints, h))
  is_place hi (negsuc n) r (ends_past h) = refl
  is_place hi (pos q) r (ends_past h) = rw (lt-ltb hi (q + leaf_size (layout_of K V E)) (omega (arith, ints, h))) refl
  is_place hi (pos q) r (misaligned room h) = rw (le-ltb hi (q + leaf_size (layout_of K V E)) room, ne_eqb (q % align (layout_of K V E)) 0 h) refl
  is_place hi (pos q) r (good_place h) = rw (le-ltb hi (q + leaf_size (layout_of K V E)) h.room, eq-eqb (q % align (layout_of K V E)) 0 h.aligned) refl

module _ (K V : Kind) (E : ℕ) (b : List ℕ) where
  pub node_of : ℕ → ℕ → Result ℕ Refusal
  node_of hi p =
      if nat_eq (slice_index b p) 0 then (if nat_lt E (leaf_len K V E b p) then Err (InvalidLength (record { len = leaf_len K V E b p; maximum = E })) else Ok (leaf_len K V E b p)) else
      if nat_eq (slice_index b p) 1 then (if nat_lt hi (p + inner_size (layout_of K V E)) then Err (OutOfRange (pos p)) else Ok E) else
      Err (BadKind p (slice_index b p))

  pub is_node : (hi p : ℕ) (r : Result ℕ Refusal) → NodeGives K V E b hi p r → node_of hi p ≡ r
  unfolding node_of
  is_node hi p r (bad_kind is not_leaf not_inner) =
      rw (ne_eqb (slice_index b p) 0 (λ e. not_leaf (sym is.kind_byte ∙ e)), ne_eqb (slice_index b p) 1 (λ e. not_inner (sym is.kind_byte ∙ e)), is.kind_byte) refl
  is_node hi p r (inner_past is past) =
      rw (ne_eqb (slice_index b p) 0 (λ e. absurd (omega (arith, e, is.kind_byte))), eq-eqb (slice_index b p) 1 is.kind_byte, lt-ltb hi (p + inner_size (layout_of K V E)) past) refl
  is_node hi p r (too_many is long) = rw (eq-eqb (slice_index b p) 0 is.kind_byte, lt-ltb E (leaf_len K V E b p) long) refl
  is_node hi p r (leaf is few) = rw (eq-eqb (slice_index b p) 0 is.kind_byte, le-ltb E (leaf_len K V E b p) few) refl
  is_node hi p r (inner is) =
      rw (ne_eqb (slice_index b p) 0 (λ e. absurd (omega (arith, e, is.kind_byte))), eq-eqb (slice_index b p) 1 is.kind_byte, le-ltb hi (p + inner_size (layout_of K V E)) is.room) refl

  target_of : ℕ → Option ℤ → Result (Option ℕ) Refusal
  target_of p None = Ok None
  target_of p (Some z) = some_of (place_of K V E p z)

  child_of : ℕ → ℕ → Result (Option ℕ) Refusal
  child_of p i = if nat_eq (slice_index b p) 0 then Ok None else target_of p (target_at b (p + pointer_at (layout_of K V E) i))

  is_child : (hi p i : ℕ) (r : Result (Option ℕ) Refusal) → ChildGives K V E b hi p i r → child_of p i ≡ r
  unfolding child_of target_of some_of
  is_child hi p i r (of_leaf is) = rw (eq-eqb (slice_index b p) 0 is.kind_byte) refl
  is_child hi p i r (absent is to) = rw (ne_eqb (slice_index b p) 0 (λ e. absurd (omega (arith, e, is.kind_byte))), to) refl
  is_child hi p i r (bad_place {z = z} is to bad) = rw (ne_eqb (slice_index b p) 0 (λ e. absurd (omega (arith, e, is.kind_byte))), to, is_place K V E p z _ bad) refl
  is_child hi p i r (child {z = z} is to ok) = rw (ne_eqb (slice_index b p) 0 (λ e. absurd (omega (arith, e, is.kind_byte))), to, is_place K V E p z _ ok) refl

  head_of : ℕ → Result (Option ℕ) Refusal
  head_of at =
      if nat_lt 4294967295 (length b) then Err TooLong else
      if nat_lt (length b) (at + 8) then Err (OutOfRange (pos at)) else
      if nat_eq (at % 4) 0 then (if nat_eq (map_len K V E b at) 0 then Ok None else some_of (place_of K V E at (place_at b at))) else
      Err (Misaligned at)

  placed : (at : ℕ) → HasPlace b 8 4 at → head_of at ≡ (if nat_eq (map_len K V E b at) 0 then Ok None else some_of (place_of K V E at (place_at b at)))
  unfolding head_of
  placed at h = rw (le-ltb 4294967295 (length b) h.short, le-ltb (length b) (at + 8) h.room, eq-eqb (at % 4) 0 h.aligned) refl

  is_misplaced : (at : ℕ) (e : Refusal) → Misplaced b 8 4 at e → head_of at ≡ Err e
  unfolding head_of
  is_misplaced at e (too_long h) = rw (lt-ltb 4294967295 (length b) h) refl
  is_misplaced at e (no_room short h) = rw (le-ltb 4294967295 (length b) short, lt-ltb (length b) (at + 8) h) refl
  is_misplaced at e (unaligned short room h) = rw (le-ltb 4294967295 (length b) short, le-ltb (length b) (at + 8) room, ne_eqb (at % 4) 0 h) refl

  -- own bytes are misplaced in one way
  pub one_misplaced : {A : Type 0} (at : ℕ) (d e : Refusal) → Misplaced b 8 4 at d → Misplaced b 8 4 at e → ◌≡◌ {A = Result A Refusal} (Err d) (Err e)
  one_misplaced at d e h m = let same = sym (is_misplaced at d h) ∙ is_misplaced at e m in ap Err (cc same)

  is_head : (at : ℕ) (r : Result (Option ℕ) Refusal) → HeadGives K V E b at r → head_of at ≡ r
  unfolding some_of
  is_head at r (misplaced {e = e} h) = is_misplaced at e h
  is_head at r (empty h none) = placed at h ∙ rw (eq-eqb (map_len K V E b at) 0 none) refl
  is_head at r (bad_root h some bad) = placed at h ∙ rw (ne_eqb (map_len K V E b at) 0 some, is_place K V E at (place_at b at) _ bad) refl
  is_head at r (root h some ok) = placed at h ∙ rw (ne_eqb (map_len K V E b at) 0 some, is_place K V E at (place_at b at) _ ok) refl

  -- so each step gives one thing
  pub one_node : (hi p : ℕ) (r s : Result ℕ Refusal) → NodeGives K V E b hi p r → NodeGives K V E b hi p s → r ≡ s
  one_node hi p r s h k = sym (is_node hi p r h) ∙ is_node hi p s k

  pub one_pointer : (hi p i : ℕ) (r s : Result (Option ℕ) Refusal) → ChildGives K V E b hi p i r → ChildGives K V E b hi p i s → r ≡ s
  one_pointer hi p i r s h k = sym (is_child hi p i r h) ∙ is_child hi p i s k

  pub one_head : (at : ℕ) (r s : Result (Option ℕ) Refusal) → HeadGives K V E b at r → HeadGives K V E b at s → r ≡ s
  one_head at r s h k = sym (is_head at r h) ∙ is_head at s k

  module _ (comparison : K.Value → Ordering) (KR VR : List ℕ → ℕ → ℕ → ℕ → Refusal → Type 0) (k : IsLawful K) (v : IsLawful V) (kr : AreRefusals K KR) (vr : AreRefusals V VR) where
    -- what is refused isn't valid
    pub no_key : (e : Refusal) (at : ℕ) → KR b 0 at at e → IsTrue (stands K b at) → ⊥
    no_key e at h st = let m = means_read k b at st in kr.no_meaning b 0 at at e h m.left (K.read b at) m.means

    pub no_value : (e : Refusal) (at : ℕ) → VR b 0 at at e → IsTrue (stands V b at) → ⊥
    no_value e at h st = let m = means_read v b at st in vr.no_meaning b 0 at at e h m.left (V.read b at) m.means

    -- a key compares in one way
    unlike : (o w : Ordering) (e : ℕ × ℕ) → ¬ (o ≡ w) → Gives K V E b comparison o e → Gives K V E b comparison w e → ⊥
    unlike o w e other g h = other (sym g.gives ∙ h.gives)

    module _ (p n : ℕ) where
      -- where the search of the node ends: each key before gives Greater, and the one there doesn't
      record Ends (i : ℕ) : Type 0 where
        within : i ≤ n
        before : (j : ℕ) → j < i → Gives K V E b comparison Greater (p, j)
        ends : i < n → Gives K V E b comparison Greater (p, i) → ⊥

      one_end : (i j : ℕ) → Ends i → Ends j → i ≡ j
      one_end i j x y =
          elim (cases_lt i j) [
            | inl low ↦ let w = y.within in absurd (x.ends (omega (arith, low, w)) (y.before i low))
            | inr high ↦ elim (cases_lt j i) [
              | inl low ↦ let w = x.within in absurd (y.ends (omega (arith, low, w)) (x.before j low))
              | inr low ↦ omega (arith, high, low)
            ]
          ]

      key_ends : (i : ℕ) (e : Refusal) → Asks K V E b comparison p n i → KR b 0 (key_place K V E (p, i)) (key_place K V E (p, i)) e → Ends i
      key_ends i e a h = let w = a.within in record { within = omega (arith, w); before = a.before; ends = λ l g. no_key e (key_place K V E (p, i)) h g.valid }

      equal_ends : (i : ℕ) → Asks K V E b comparison p n i → Gives K V E b comparison Equal (p, i) → Ends i
      equal_ends i a q = let w = a.within in record { within = omega (arith, w); before = a.before; ends = λ l g. unlike Equal Greater (p, i) (λ e. cc) q g }

      stop_ends : (i : ℕ) → StopsBefore K V E b comparison p n i → Ends i
      stop_ends i s = record { within = s.within; before = s.before; ends = λ l g. unlike Less Greater (p, i) (λ e. cc) (s.less l) g }

      -- the keys of a node give one result
      one_keys : (r s : Result Halt Refusal) → KeysGive K V E b comparison KR VR p n r → KeysGive K V E b comparison KR VR p n s → r ≡ s
      one_keys r s (bad_key {i = i} {e = e} a h) (bad_key {i = j} {e = d} c m) =
          let same : i ≡ j = one_end i j (key_ends i e a h) (key_ends j d c m) in
          let there : KR b 0 (key_place K V E (p, j)) (key_place K V E (p, j)) e = subst (λ (x : ℕ). KR b 0 (key_place K V E (p, x)) (key_place K V E (p, x)) e) same h in
          ap Err (kr.one_refusal b 0 (key_place K V E (p, j)) (key_place K V E (p, j)) e d there m)
      one_keys r s (bad_key {i = i} {e = e} a h) (bad_value {i = j} {e = d} c q m) =
          let same : i ≡ j = one_end i j (key_ends i e a h) (equal_ends j c q) in
          absurd (no_key e (key_place K V E (p, j)) (subst (λ (x : ℕ). KR b 0 (key_place K V E (p, x)) (key_place K V E (p, x)) e) same h) q.valid)
      one_keys r s (bad_key {i = i} {e = e} a h) (equal_key {i = j} c q m) =
          let same : i ≡ j = one_end i j (key_ends i e a h) (equal_ends j c q) in
          absurd (no_key e (key_place K V E (p, j)) (subst (λ (x : ℕ). KR b 0 (key_place K V E (p, x)) (key_place K V E (p, x)) e) same h) q.valid)
      one_keys r s (bad_key {i = i} {e = e} a h) (stops {i = j} t) =
          let same : i ≡ j = one_end i j (key_ends i e a h) (stop_ends j t) in
          let w = a.within in
          let here : j < n = omega (arith, same, w) in
          absurd (no_key e (key_place K V E (p, j)) (subst (λ (x : ℕ). KR b 0 (key_place K V E (p, x)) (key_place K V E (p, x)) e) same h) (t.less here).valid)
      one_keys r s (bad_value {i = i} {e = e} a g h) (bad_key {i = j} {e = d} c m) =
          let same : j ≡ i = one_end j i (key_ends j d c m) (equal_ends i a g) in
          absurd (no_key d (key_place K V E (p, i)) (subst (λ (x : ℕ). KR b 0 (key_place K V E (p, x)) (key_place K V E (p, x)) d) same m) g.valid)
      one_keys r s (bad_value {i = i} {e = e} a g h) (bad_value {i = j} {e = d} c q m) =
          let same : i ≡ j = one_end i j (equal_ends i a g) (equal_ends j c q) in
          let there : VR b 0 (value_place K V E (p, j)) (value_place K V E (p, j)) e = subst (λ (x : ℕ). VR b 0 (value_place K V E (p, x)) (value_place K V E (p, x)) e) same h in
          ap Err (vr.one_refusal b 0 (value_place K V E (p, j)) (value_place K V E (p, j)) e d there m)
      one_keys r s (bad_value {i = i} {e = e} a g h) (equal_key {i = j} c q m) =
          let same : i ≡ j = one_end i j (equal_ends i a g) (equal_ends j c q) in
          absurd (no_value e (value_place K V E (p, j)) (subst (λ (x : ℕ). VR b 0 (value_place K V E (p, x)) (value_place K V E (p, x)) e) same h) m)
      one_keys r s (bad_value {i = i} {e = e} a g h) (stops {i = j} t) =
          let same : i ≡ j = one_end i j (equal_ends i a g) (stop_ends j t) in
          let w = a.within in
          let here : j < n = omega (arith, same, w) in
          absurd (unlike Equal Less (p, j) (λ x. cc) (subst (λ (x : ℕ). Gives K V E b comparison Equal (p, x)) same g) (t.less here))
      one_keys r s (equal_key {i = i} a g h) (bad_key {i = j} {e = d} c m) =
          let same : j ≡ i = one_end j i (key_ends j d c m) (equal_ends i a g) in
          absurd (no_key d (key_place K V E (p, i)) (subst (λ (x : ℕ). KR b 0 (key_place K V E (p, x)) (key_place K V E (p, x)) d) same m) g.valid)
      one_keys r s (equal_key {i = i} a g h) (bad_value {i = j} {e = d} c q m) =
          let same : j ≡ i = one_end j i (equal_ends j c q) (equal_ends i a g) in
          absurd (no_value d (value_place K V E (p, i)) (subst (λ (x : ℕ). VR b 0 (value_place K V E (p, x)) (value_place K V E (p, x)) d) same m) h)
      one_keys r s (equal_key {i = i} a g h) (equal_key {i = j} c q m) = ap (λ (x : ℕ). Ok (Found x)) (one_end i j (equal_ends i a g) (equal_ends j c q))
      one_keys r s (equal_key {i = i} a g h) (stops {i = j} t) =
          let same : i ≡ j = one_end i j (equal_ends i a g) (stop_ends j t) in
          let w = a.within in
          let here : j < n = omega (arith, same, w) in
          absurd (unlike Equal Less (p, j) (λ x. cc) (subst (λ (x : ℕ). Gives K V E b comparison Equal (p, x)) same g) (t.less here))
      one_keys r s (stops {i = i} t) (bad_key {i = j} {e = d} c m) =
          let same : j ≡ i = one_end j i (key_ends j d c m) (stop_ends i t) in
          let w = c.within in
          let here : i < n = omega (arith, same, w) in
          absurd (no_key d (key_place K V E (p, i)) (subst (λ (x : ℕ). KR b 0 (key_place K V E (p, x)) (key_place K V E (p, x)) d) same m) (t.less here).valid)
      one_keys r s (stops {i = i} t) (bad_value {i = j} {e = d} c q m) =
          let same : j ≡ i = one_end j i (equal_ends j c q) (stop_ends i t) in
          let w = c.within in
          let here : i < n = omega (arith, same, w) in
          absurd (unlike Equal Less (p, i) (λ x. cc) (subst (λ (x : ℕ). Gives K V E b comparison Equal (p, x)) same q) (t.less here))
      one_keys r s (stops {i = i} t) (equal_key {i = j} c q m) =
          let same : j ≡ i = one_end j i (equal_ends j c q) (stop_ends i t) in
          let w = c.within in
          let here : i < n = omega (arith, same, w) in
          absurd (unlike Equal Less (p, i) (λ x. cc) (subst (λ (x : ℕ). Gives K V E b comparison Equal (p, x)) same q) (t.less here))
      one_keys r s (stops {i = i} t) (stops {i = j} u) = ap (λ (x : ℕ). Ok (Below x)) (one_end i j (stop_ends i t) (stop_ends j u))

    abbrev R : Type 0
    R = Result (Option (ℕ × ℕ)) Refusal

    one_child : (tree : ℕ → R → Type 0) → ((q : ℕ) (r s : R) → tree q r → tree q s → r ≡ s) → (c : Option ℕ) (r s : R) → AtChild K V E b comparison KR VR tree c r → AtChild K V E b comparison KR VR tree c s → r ≡ s
    one_child tree one None r s h m = h ∙ sym m
    one_child tree one (Some q) r s h m = one q r s h m

    one_halt : (tree : ℕ → R → Type 0) → ((q : ℕ) (r s : R) → tree q r → tree q s → r ≡ s) → (hi p : ℕ) (halt : Halt) (r s : R) → AtHalt K V E b comparison KR VR tree hi p halt r → AtHalt K V E b comparison KR VR tree hi p halt s → r ≡ s
    one_halt tree one hi p (Found i) r s h m = h ∙ sym m
    one_halt tree one hi p (Below i) r s h m = one_then (one_pointer hi p i) (one_child tree one) r s h m

    one_tree : (levels hi p : ℕ) (r s : R) → TreeGives K V E b comparison KR VR levels hi p r → TreeGives K V E b comparison KR VR levels hi p s → r ≡ s
    unfolding TreeGives
    one_tree zero hi p r s h m = h ∙ sym m
    one_tree (suc levels) hi p r s h m =
        one_then (one_node hi p)
        (λ n. one_then (one_keys p n) (one_halt (TreeGives K V E b comparison KR VR levels p) (λ q. one_tree levels p q) hi p)) r s h m

    pub one_lookup : (at : ℕ) (r s : R) → LookupGives K V E b comparison KR VR at r → LookupGives K V E b comparison KR VR at s → r ≡ s
    one_lookup at r s h m = one_then (one_head at) (one_child (TreeGives K V E b comparison KR VR 32 at) (λ q. one_tree 32 at q)) r s h m
