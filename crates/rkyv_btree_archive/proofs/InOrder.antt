-- What a source gives whose keys must increase: items whose keys increase, as far as they are claimed.
use Rattle.std.proofs.Common.{◌≡◌, ℕ, ◌+◌, ◌<◌, ◌≤◌, ◌⊎◌, ◌∙◌, true, false, List, [], ◌∷◌, ◌++◌, length, map, take, Option, None, Some, Result, Err, inl, inr, refl, sym, ap, subst, arith}
use Rattle.std.specs.Prelude.{IfSome, MatchOption, alloc_error}
use Rattle.std.specs.Cmp.{IsTotalOrder}
use Rattle.std.specs.Iterator.{Yields}
use Rattle.std.specs.declared.cmp.Ordering.{Ordering}
use Rattle.std.specs.declared.cmp.Ordering.TheVariants.{Less}
use Rattle.std.proofs.iter.Next.{Yields-more}
use Rattle.std.proofs.lemmas.List.{length-append, length-map, map-append, append_assoc, append-nil, nil_from_length, take_all, take_at}
use Rattle.rkyv_btree_portable.specs.Kind.{Kind}
use Rattle.rkyv_btree_writer.specs.Archiving.{Archival}
use Rattle.rkyv_btree_writer.specs.Writing.{Writing}
use Rattle.rkyv_btree_writer.specs.declared.fault.Fault.{Fault}
use Rattle.rkyv_btree_writer.specs.declared.fault.Fault.TheVariants.{Length, LengthOverflow, PositionOverflow, OffsetOverflow, Writer, Memory, Entry, OutOfOrder}
use Rattle.rkyv_btree_writing_laws.specs.Entries.{both_borrowed}
use Rattle.rkyv_btree_format.specs.Increasing.{Increasing, IsOutOfOrder}
use Rattle.rkyv_btree_writing_laws.specs.Miscounts.{IsLimited, IsMiscount}
use Rattle.rkyv_btree_writing_laws.specs.Serialising.{BeginClaimed, Serialised, StoppedBuilding, Miscounted}
use Rattle.rkyv_btree_writing_laws.specs.StrictBuilding.{SerialisedInOrder, MetOutOfOrder, StoppedInOrder, StrictFault}
use Rattle.rkyv_btree_format.proofs.Increasing.{alone, increasing_snoc, nothing}
use Rattle.rkyv_btree_archive.specs.declared.items.Source.{Source}
use Rattle.rkyv_btree_archive.specs.declared.strict_build.InOrder.{InOrder}
use Rattle.rkyv_btree_archive.specs.mirror.Ended.{CountsTo, FaultAt}
use Rattle.rkyv_btree_archive.specs.mirror.InOrder.{IsNext, IsNotNext, met_out_of_order}
use Rattle.rkyv_btree_archive.specs.mirror.Source.{Gives}

module _ {A B M N P : Type 0} (order : M → M → Ordering) (total : IsTotalOrder order) (lends_key : A → M) (lends_value : B → N) (steps : P → Option (A × B) → P → Type 0) (claim : ℕ) where
  abbrev lent : A × B → M × N
  lent = both_borrowed lends_key lends_value

  -- the last key is that of the last of these entries
  abbrev IsLast : Option A → List (M × N) → Type 0
  IsLast last entries = MatchOption last (entries ≡ []) (λ key. (front : List (M × N)) × (e : M × N) × (entries ≡ front ++ e ∷ []) × (lends_key key ≡ e.0))

  -- after these entries, of which the first are claimed, and the last of which has this key
  record After (before : List (M × N)) (s : InOrder M) (key : Option A) : Type 0 where
    claimed : List (M × N)
    extra : List (M × N)
    parts : before ≡ claimed ++ extra
    count : s.left + length claimed ≡ claim
    over : (extra ≡ []) ⊎ (s.left ≡ 0)
    increase : Increasing order claimed
    last : extra ≡ [] → IsLast key claimed

  grown : (last : Option A) (claimed : List (M × N)) (x : M × N) → Increasing order claimed → IsLast last claimed → IfSome last (λ key. order (lends_key key) x.0 ≡ Less) → Increasing order (claimed ++ x ∷ [])
  grown None claimed x increase empty less = subst (λ (zs : List (M × N)). Increasing order (zs ++ x ∷ [])) (sym empty) (alone order x)
  grown (Some key) claimed x increase (front, e, is, same) less =
      subst (λ (zs : List (M × N)). Increasing order (zs ++ x ∷ [])) (sym is)
      (increasing_snoc total front e x (subst (λ (zs : List (M × N)). Increasing order zs) is increase) (subst (λ z. order z x.0 ≡ Less) same less))

  none_extra : (before : List (M × N)) (s : InOrder M) (key : Option A) → (a : After before s key) → 0 < s.left → a.extra ≡ []
  none_extra before s key a more = elim a.over [ inl none ↦ none | inr zero ↦ absurd (omega (arith, zero, more)) ]

  after_none : (s : InOrder M) → s.left ≡ claim → After [] s None
  after_none s left = record {
    claimed = [];
    extra = [];
    parts = refl;
    count = omega (arith, left);
    over = inl refl;
    increase = nothing N order;
    last = λ none. refl;
  }

  after_one : (before : List (M × N)) (s t : InOrder M) (key : Option A) (x : A × B) → After before s key → IsNext order lends_key s key x.0 t → After (before ++ lent x ∷ []) t (Some x.0)
  after_one before s t key x a (same, inl (left, less)) =
      let none = none_extra before s key a (omega (arith, left)) in
      let own : before ≡ a.claimed = a.parts ∙ (ap (λ (zs : List (M × N)). a.claimed ++ zs) none ∙ append-nil a.claimed) in
      record {
        claimed = a.claimed ++ lent x ∷ [];
        extra = [];
        parts = ap (λ (zs : List (M × N)). zs ++ lent x ∷ []) own ∙ sym (append-nil (a.claimed ++ lent x ∷ []));
        count = omega (arith, length-append a.claimed (lent x ∷ []), a.count, left);
        over = inl refl;
        increase = grown key a.claimed (lent x) a.increase (a.last none) less;
        last = λ _. (a.claimed, lent x, refl, refl);
      }
  after_one before s t key x a (same, inr (zero, zero2)) = record {
    claimed = a.claimed;
    extra = a.extra ++ lent x ∷ [];
    parts = ap (λ (zs : List (M × N)). zs ++ lent x ∷ []) a.parts ∙ append_assoc a.claimed a.extra (lent x ∷ []);
    count = omega (arith, zero, zero2, a.count);
    over = inr zero2;
    increase = a.increase;
    last = λ none. absurd (omega (arith, length-append a.extra (lent x ∷ []), ap length none));
  }

  all_increase : (before : List (M × N)) (s : InOrder M) (key : Option A) → After before s key → length before ≤ claim → Increasing order before
  all_increase before s key a few = elim a.over [
    | inl none ↦ whole none
    | inr zero ↦ whole (nil_from_length a.extra (omega (arith, ap length a.parts, length-append a.claimed a.extra, a.count, zero, few)))
  ]
    where
      whole : a.extra ≡ [] → Increasing order before
      whole none = subst (λ (zs : List (M × N)). Increasing order zs) (sym (a.parts ∙ (ap (λ (zs : List (M × N)). a.claimed ++ zs) none ∙ append-nil a.claimed))) a.increase

  first_increase : (before : List (M × N)) (s : InOrder M) (key : Option A) → After before s key → Increasing order (take claim before)
  first_increase before s key a = elim a.over [
    | inl none ↦
        let own : before ≡ a.claimed = a.parts ∙ (ap (λ (zs : List (M × N)). a.claimed ++ zs) none ∙ append-nil a.claimed) in
        let few : length before ≤ claim = omega (arith, ap length own, a.count) in
        subst (λ (zs : List (M × N)). Increasing order zs) (sym (take_all claim before few ∙ own)) a.increase
    | inr zero ↦
        let first : take claim (a.claimed ++ a.extra) ≡ a.claimed = take_at a.claimed a.extra claim (omega (arith, a.count, zero)) in
        subst (λ (zs : List (M × N)). Increasing order zs) (sym (ap (λ (zs : List (M × N)). take claim zs) a.parts ∙ first)) a.increase
  ]

  abbrev From : Type 0
  From = Source P (InOrder M) × Option A

  abbrev Steps : From → Option (A × B) → From → Type 0
  Steps = Gives steps (IsNext order lends_key) (IsNotNext order lends_key)

  -- a run of the source is one of its iterator
  run : (s : From) (items : List (A × B)) (t : From) (before : List (M × N)) → After before s.0.look s.1 → Yields Steps s items t
      → Yields steps s.0.items items t.0.items × After (before ++ map lent items) t.0.look t.1 × (t.0.look.stopped ≡ s.0.look.stopped)
  run s [] t before a y = (
    ap (λ (z : From). z.0.items) y,
    subst (λ (z : From). After (before ++ []) z.0.look z.1) y (subst (λ (zs : List (M × N)). After zs s.0.look s.1) (sym (append-nil before)) a),
    ap (λ (z : From). z.0.look.stopped) (sym y),
  )
  run s (x ∷ items) t before a (mid, (step, next, key), y) =
      let r = run mid items t (before ++ lent x ∷ []) (subst (λ (k : Option A). After (before ++ lent x ∷ []) mid.0.look k) (sym key) (after_one before s.0.look mid.0.look s.1 x a next)) y in (
        (mid.0.items, step, r.0),
        subst (λ (zs : List (M × N)). After zs t.0.look t.1) (append_assoc before (lent x ∷ []) (map lent items)) r.1,
        r.2 ∙ next.0,
      )

  -- from its beginning
  pub record Begins (s : From) : Type 0 where
    pub left : s.0.look.left ≡ claim
    pub first : s.1 ≡ None
    pub stopped : s.0.look.stopped ≡ false

  from_start : (s : From) (items : List (A × B)) (t : From) → Begins s → Yields Steps s items t
      → Yields steps s.0.items items t.0.items × After (map lent items) t.0.look t.1 × (t.0.look.stopped ≡ false)
  from_start s items t b y =
      let r = run s items t [] (subst (λ (k : Option A). After [] s.0.look k) (sym b.first) (after_none s.0.look b.left)) y in
      (r.0, r.1, r.2 ∙ b.stopped)

  -- no claimed item is left, where as many have come
  none_claimed : (before : List (M × N)) (s : InOrder M) (key : Option A) → After before s key → claim ≤ length before → 0 < s.left → ⊥
  none_claimed before s key a many more =
      let none = none_extra before s key a more in
      absurd (omega (arith, ap length a.parts, length-append a.claimed a.extra, ap length none, a.count, many, more))

  module _ {R S : Type 0} (K V : Kind) (E : ℕ) (KA : Archival M R) (VA : Archival N S) (s : From) (b : Begins s) (from : Writing) where
    pub built_in_order : (root : ℕ) (t : Writing) → Serialised K V E KA VA lent Steps s claim from root t → SerialisedInOrder order K V E KA VA lent steps s.0.items claim from root t
    built_in_order root t h =
        let r = from_start s h.items h.all.1.0 b h.all.1.1 in
        let n : length (map lent h.items) ≡ claim = length-map h.items lent ∙ h.count in (
          record {
            items = h.items;
            all = (h.all.0.0.items, (h.all.1.0.0.items, r.0, ended r.1 n h.all.1.2));
            count = h.count;
            built = h.built;
            spelled = h.spelled;
          },
          all_increase (map lent h.items) h.all.1.0.0.look h.all.1.0.1 r.1 (omega (arith, n)),
        )
      where
        ended : After (map lent h.items) h.all.1.0.0.look h.all.1.0.1 → length (map lent h.items) ≡ claim → Steps h.all.1.0 None h.all.0 → steps h.all.1.0.0.items None h.all.0.0.items
        ended a n (inl end) = end.0
        ended a n (inr (x, step, (more, out, stopped))) = absurd (none_claimed (map lent h.items) h.all.1.0.0.look h.all.1.0.1 a (omega (arith, n)) more)

    stopped_in_order : {X : Type 0} (fault : Fault X) (t : Writing) → StoppedBuilding K V E KA VA lent Steps s claim from fault t → StoppedInOrder order K V E KA VA lent steps s.0.items claim from fault t
    stopped_in_order fault t h =
        let r = from_start s h.items h.rest b h.taken in (
          record { items = h.items; rest = h.rest.0.items; taken = r.0; entries = h.entries; claimed = h.claimed; stopped = h.stopped },
          all_increase (map lent h.items) h.rest.0.look h.rest.1 r.1 (omega (arith, ap length h.claimed.parts, length-append (map lent h.items) h.claimed.later, h.claimed.count)),
        )

    miscounted_in_order : (end : From) (expected actual : ℕ) (t : Writing) → end.0.look.stopped ≡ false → CountsTo K V E KA VA lent Steps s end claim expected actual from t
        → (w : Miscounted K V E KA VA lent steps s.0.items claim expected actual from t) × Increasing order (take claim (map lent w.items))
    miscounted_in_order end expected actual t whole (h, at) =
        let r = from_start s h.items h.all.1.0 b h.all.1.1 in (
          record {
            items = h.items;
            all = (h.all.0.0.items, (h.all.1.0.0.items, r.0, ended h.all.1.2));
            differs = h.differs;
            claimed = h.claimed;
            counted = h.counted;
            none = h.none;
            few = h.few;
            many = h.many;
          },
          first_increase (map lent h.items) h.all.1.0.0.look h.all.1.0.1 r.1,
        )
      where
        ended : Steps h.all.1.0 None h.all.0 → steps h.all.1.0.0.items None h.all.0.0.items
        ended (inl end) = end.0
        ended (inr (x, step, (more, out, stopped))) = let z : h.all.0.0.look.stopped ≡ false = ap (λ (z : From). z.0.look.stopped) at ∙ whole in absurd (cc (stopped, z))

    -- each fault, where no key has stopped the source
    pub fault_in_order : {X : Type 0} (fault : Fault X) (end : From) (t : Writing) → end.0.look.stopped ≡ false → FaultAt K V E KA VA lent Steps s claim from fault end t
        → StrictFault order K V E KA VA lent steps s.0.items claim from fault t
    fault_in_order (Length m) end t whole h = miscounted_in_order end m.expected m.actual t whole h
    fault_in_order {X} LengthOverflow end t whole (inl past) = inl past
    fault_in_order {X} LengthOverflow end t whole (inr h) = inr (stopped_in_order {X = X} LengthOverflow t h)
    fault_in_order {X} PositionOverflow end t whole h = stopped_in_order {X = X} PositionOverflow t h
    fault_in_order {X} OffsetOverflow end t whole h = stopped_in_order {X = X} OffsetOverflow t h
    fault_in_order (Writer error) end t whole h = stopped_in_order (Writer error) t h
    fault_in_order {X} (Memory error) end t whole (inl none) = inl none
    fault_in_order {X} (Memory error) end t whole (inr h) = inr (stopped_in_order {X = X} (Memory error) t h)
    fault_in_order {X} (Entry fault) end t whole h = stopped_in_order {X = X} (Entry fault) t h
    fault_in_order (OutOfOrder index) end t whole h = absurd h

    -- where a key has stopped it
    out_after : (items : List (A × B)) (last : Option A) (claimed : List (M × N)) (x : A × B) (index : ℕ) → map lent items ≡ claimed → Increasing order claimed → IsLast last claimed → MatchOption last ⊥ (λ key. ¬ (order (lends_key key) (lends_key x.0) ≡ Less)) → index ≡ length items
        → IsOutOfOrder order (map lent (items ++ x ∷ [])) index × (0 < length items)
    out_after items None claimed x index own increase last out number = absurd out
    out_after items (Some key) claimed x index own increase (front, e, is, same) out number =
        let n : length items ≡ length front + 1 = sym (length-map items lent) ∙ (ap length (own ∙ is) ∙ length-append front (e ∷ [])) in (
          record {
            front = front;
            before = e;
            entry = lent x;
            back = [];
            parts = map-append lent items (x ∷ []) ∙ (ap (λ (zs : List (M × N)). zs ++ lent x ∷ []) (own ∙ is) ∙ append_assoc front (e ∷ []) (lent x ∷ []));
            number = number ∙ n;
            first = subst (λ (zs : List (M × N)). Increasing order zs) is increase;
            not_greater = λ less. out (subst (λ z. order z (lends_key x.0) ≡ Less) (sym same) less);
          },
          omega (arith, n),
        )

    count_out_of_order : (end : From) (expected actual : ℕ) (t : Writing) → end.0.look.stopped ≡ true → CountsTo K V E KA VA lent Steps s end claim expected actual from t → MetOutOfOrder order K V E KA VA lent steps s.0.items claim actual from t
    count_out_of_order end expected actual t stops (h, at) =
        let r = from_start s h.items h.all.1.0 b h.all.1.1 in
        go r.0 r.1 r.2 h.all.1.2
      where
        go : Yields steps s.0.items h.items h.all.1.0.0.items → After (map lent h.items) h.all.1.0.0.look h.all.1.0.1 → h.all.1.0.0.look.stopped ≡ false → Steps h.all.1.0 None h.all.0 → MetOutOfOrder order K V E KA VA lent steps s.0.items claim actual from t
        go y a whole (inl (none, same)) =
            let z : h.all.0.0.look.stopped ≡ true = ap (λ (z : From). z.0.look.stopped) at ∙ stops in
            let w : h.all.0.0.look.stopped ≡ false = ap (λ (z : InOrder M). z.stopped) same ∙ whole in
            absurd (cc (z, w))
        go y a whole (inr (x, step, (more, out, stopped))) =
            let none = none_extra (map lent h.items) h.all.1.0.0.look h.all.1.0.1 a more in
            let own : map lent h.items ≡ a.claimed = a.parts ∙ (ap (λ (zs : List (M × N)). a.claimed ++ zs) none ∙ append-nil a.claimed) in
            let few : length h.items < claim = omega (arith, length-map h.items lent, ap length own, a.count, more) in
            let o = out_after h.items h.all.1.0.1 a.claimed x actual own a.increase (a.last none) out h.counted in
            let one : take actual (h.items ++ x ∷ []) ≡ h.items = take_at h.items (x ∷ []) actual (sym h.counted) in
            let begun = h.few o.1 few in
            record {
              items = h.items ++ x ∷ [];
              rest = h.all.0.0.items;
              taken = Yields-more steps s.0.items h.items h.all.1.0.0.items x h.all.0.0.items y step;
              claimed = omega (arith, h.counted, few);
              last = omega (arith, length-append h.items (x ∷ []), h.counted);
              out = o.0;
              begun = (begun.0, subst (λ (zs : List (A × B)). BeginClaimed lent zs claim begun.0) (sym one) begun.1, begun.2);
            }

    -- each fault, where a key has stopped the source
    pub fault_out_of_order : {X : Type 0} (fault : Fault X) (end : From) (t : Writing) → end.0.look.stopped ≡ true → FaultAt K V E KA VA lent Steps s claim from fault end t
        → StrictFault order K V E KA VA lent steps s.0.items claim from (met_out_of_order fault) t
    fault_out_of_order (Length m) end t stops h = count_out_of_order end m.expected m.actual t stops h
    fault_out_of_order {X} LengthOverflow end t stops (inl past) = inl past
    fault_out_of_order {X} LengthOverflow end t stops (inr h) = inr (stopped_in_order {X = X} LengthOverflow t h)
    fault_out_of_order {X} PositionOverflow end t stops h = stopped_in_order {X = X} PositionOverflow t h
    fault_out_of_order {X} OffsetOverflow end t stops h = stopped_in_order {X = X} OffsetOverflow t h
    fault_out_of_order (Writer error) end t stops h = stopped_in_order (Writer error) t h
    fault_out_of_order {X} (Memory error) end t stops (inl none) = inl none
    fault_out_of_order {X} (Memory error) end t stops (inr h) = inr (stopped_in_order {X = X} (Memory error) t h)
    fault_out_of_order {X} (Entry fault) end t stops h = stopped_in_order {X = X} (Entry fault) t h
    fault_out_of_order (OutOfOrder index) end t stops h = absurd h

    -- with a claim of nothing no key is out of order
    pub none_met : {X : Type 0} (fault : Fault X) (t : Writing) → claim ≡ 0 → IsMiscount fault → StrictFault order K V E KA VA lent steps s.0.items claim from (met_out_of_order fault) t → IsMiscount (met_out_of_order fault)
    none_met (Length m) t none is h = absurd (let late = h.claimed in omega (arith, late, none))
    none_met LengthOverflow t none is h = absurd is
    none_met PositionOverflow t none is h = absurd is
    none_met OffsetOverflow t none is h = absurd is
    none_met (Writer error) t none is h = absurd is
    none_met (Memory error) t none is h = absurd is
    none_met (Entry fault) t none is h = absurd is
    none_met (OutOfOrder index) t none is h = absurd is

module _ {X : Type 0} where
  -- a fault of memory is itself
  pub memory_met : (fault : Fault X) → met_out_of_order fault ≡ Memory alloc_error → fault ≡ Memory alloc_error
  memory_met (Length m) is = absurd (cc (is))
  memory_met LengthOverflow is = is
  memory_met PositionOverflow is = is
  memory_met OffsetOverflow is = is
  memory_met (Writer error) is = is
  memory_met (Memory error) is = is
  memory_met (Entry fault) is = is
  memory_met (OutOfOrder index) is = is

  overflow_met : (fault : Fault X) → ◌≡◌ {A = Result ℕ (Fault X)} (Err fault) (Err LengthOverflow) → ◌≡◌ {A = Result ℕ (Fault X)} (Err (met_out_of_order fault)) (Err LengthOverflow)
  overflow_met (Length m) is = absurd (cc (is))
  overflow_met LengthOverflow is = is
  overflow_met PositionOverflow is = is
  overflow_met OffsetOverflow is = is
  overflow_met (Writer error) is = is
  overflow_met (Memory error) is = is
  overflow_met (Entry fault) is = is
  overflow_met (OutOfOrder index) is = is

  -- claims past 32 bits and of nothing have the same limits
  pub limits_met : (claim : ℕ) (from to : Writing) (fault : Fault X) → (claim ≡ 0 → IsMiscount fault → IsMiscount (met_out_of_order fault)) → IsLimited claim from to (Err fault) → IsLimited claim from to (Err (met_out_of_order fault))
  limits_met claim from to fault counts h = record {
    past = λ late. let p = h.past late in (overflow_met fault p.0, p.1);
    none = λ none. let p = h.none none in (counts none p.0, p.1);
  }
