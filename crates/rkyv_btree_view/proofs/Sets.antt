-- What a map promises of its entries, a set promises of its keys: the value of each is ().
use Rattle.std.proofs.Common.{◌≡◌, Bool, true, false, ◌&&◌, List, [], ◌∷◌, ◌++◌, map, filter, Option, ◌↔◌, refl, sym, ap, ◌∙◌, arith}
use Rattle.std.proofs.lemmas.List.{length-map, map-append}
use Rattle.std.proofs.lemmas.List.Elements.{All-map}
use Rattle.std.proofs.Math.ListN.{get_or-map}
use Rattle.std.specs.declared.cmp.Ordering.{Ordering}
use Rattle.std.specs.declared.cmp.Ordering.TheVariants.{Less, Equal, Greater}
use Rattle.std.specs.declared.ops.ControlFlow.{ControlFlow}
use Rattle.std.specs.declared.ops.ControlFlow.TheVariants.{Continue, Break}
use Rattle.std.specs.declared.ops.Bound.{Bound}
use Rattle.std.specs.declared.ops.Bound.TheVariants.{Included, Excluded, Unbounded}
use Rattle.rkyv_btree_walk.specs.Bounds.{IsRun, OrderedFor, IsWithin, is_from, is_to}
use Rattle.rkyv_btree_walk.specs.Search.{OrderedBy, AnyHit, IsHit}
use Rattle.rkyv_btree_walk.specs.Visit.{Visits, AfterOutcome}
use Rattle.rkyv_btree_view.specs.Set.{KeysOrderedFor, AreKeysWithin, VisitsKeys}
use denote.Param.Always.{always_mut, mut_by}
use denote.Param.Members.{Mut, Called}

module _ {A : Type 0} where
  abbrev keys : List (A × Unit {0}) → List A
  keys m = map (λ e. e.0) m

  abbrev entries : List A → List (A × Unit {0})
  entries ks = map (λ k. (k, tt)) ks

  with_units : (m : List (A × Unit {0})) → m ≡ entries (keys m)
  with_units [] = refl
  with_units (e ∷ m) = ap (λ rest. e ∷ rest) (with_units m)

  pub keys_run : (r m : List (A × Unit {0})) → IsRun r m → IsRun (keys r) (keys m)
  keys_run r m h =
      (keys h.0, keys h.1, ap (map (λ e. e.0)) h.2 ∙ (map-append (λ e. e.0) h.0 (r ++ h.1) ∙ ap (λ rest. keys h.0 ++ rest) (map-append (λ e. e.0) r h.1)))

  module _ (comparison : A → Ordering) (m : List (A × Unit {0})) where
    keys_ordered : OrderedBy comparison (keys m) → OrderedBy (λ e. comparison e.0) m
    keys_ordered h =
        let greater = h.0 in let equal = h.1 in let less = h.2 in
        let with_unit : A → A × Unit {0} = λ k. (k, tt) in
        let front : entries (greater ++ equal) ≡ entries greater ++ entries equal = map-append with_unit greater equal in
        let parts : entries ((greater ++ equal) ++ less) ≡ entries (greater ++ equal) ++ entries less = map-append with_unit (greater ++ equal) less in
        let all : entries (keys m) ≡ entries ((greater ++ equal) ++ less) = ap (map with_unit) h.3 in (
          entries greater,
          entries equal,
          entries less,
          with_units m ∙ (all ∙ (parts ∙ ap (λ (first : List (A × Unit {0})). first ++ entries less) front)),
          All-map (λ (e : A × Unit {0}). comparison e.0 ≡ Greater) with_unit greater h.4,
          All-map (λ (e : A × Unit {0}). comparison e.0 ≡ Equal) with_unit equal h.5,
          All-map (λ (e : A × Unit {0}). comparison e.0 ≡ Less) with_unit less h.6,
        )

    pub keys_hit : AnyHit (λ e. comparison e.0) m → AnyHit comparison (keys m)
    keys_hit h = (h.0, omega (arith, length-map m (λ (e : A × Unit {0}). e.0), h.1), λ d. rw (get_or-map (λ (e : A × Unit {0}). e.0) m h.0 (d, tt)) (h.2 (d, tt)))

    -- an entry that is equal has a key that is
    pub key_hit : (e : A × Unit {0}) → IsHit (λ e. comparison e.0) m e → IsHit comparison (keys m) e.0
    key_hit e hit = (hit.0, hit.1, omega (arith, length-map m (λ (e : A × Unit {0}). e.0), hit.2), λ d. rw (get_or-map (λ (e : A × Unit {0}). e.0) m hit.1 (d, tt)) (ap (λ e. e.0) (hit.3 (d, tt))))

    entries_hit : AnyHit comparison (keys m) → AnyHit (λ e. comparison e.0) m
    entries_hit h = (h.0, omega (arith, length-map m (λ (e : A × Unit {0}). e.0), h.1), λ d. rw (← get_or-map (λ (e : A × Unit {0}). e.0) m h.0 d) (h.2 d.0))

    pub keys_complete : {Found : Type 0} → (OrderedBy (λ e. comparison e.0) m → (Found ↔ AnyHit (λ e. comparison e.0) m)) → OrderedBy comparison (keys m) → (Found ↔ AnyHit comparison (keys m))
    keys_complete complete ordered = let both = complete (keys_ordered ordered) in (λ found. keys_hit (both.0 found), λ any. both.1 (entries_hit any))

  bound_ordered : (bound : Bound (A → Ordering)) (m : List (A × Unit {0})) → KeysOrderedFor bound (keys m) → OrderedFor bound m
  bound_ordered Unbounded m h = tt
  bound_ordered (Included comparison) m h = keys_ordered comparison m h
  bound_ordered (Excluded comparison) m h = keys_ordered comparison m h

  filtered : (passes : A → Bool) (m : List (A × Unit {0})) → keys (filter (λ e. passes e.0) m) ≡ filter passes (keys m)
  filtered passes [] = refl
  filtered passes (e ∷ m) =
      let rest = filtered passes m in
      elim (passes e.0) as (λ b. passes e.0 ≡ b → keys (filter (λ f. passes f.0) (e ∷ m)) ≡ filter passes (keys (e ∷ m))) [
        | true ↦ λ p. rw p (ap (λ ks. e.0 ∷ ks) rest)
        | false ↦ λ p. rw p rest
      ] refl

  pub keys_within : (low high : Bound (A → Ordering)) (m r : List (A × Unit {0})) → IsWithin low high m r → AreKeysWithin low high (keys m) (keys r)
  keys_within low high m r within from to =
      ap (map (λ e. e.0)) (within (bound_ordered low m from) (bound_ordered high m to)) ∙ filtered (λ k. is_from low k && is_to high k) m

-- what may be called, and is left so by each call, may always be called
pub stays_callable : {F W X R : Type 0} (g : Mut F (W × (X × Unit {0})) R) (f : F)
    → ((key : W) (value : X) → g.pre f (key, (value, tt))) × ((before : F) (key : W) (value : X) (comparison : R) (after : F) (next : W) (other : X) → Called g before (key, (value, tt)) comparison after → g.pre after (next, (other, tt))) → always_mut g f
stays_callable g f stays = mut_by g (λ s. (a : _) → g.pre s a) (λ s a i. i a) (λ s a r t i e b. stays.1 s a.0 a.1.0 r t b.0 b.1.0 e) f (λ a. stays.0 a.0 a.1.0)

-- a visitor of entries that calls one of keys
module _ {F G W X A B T : Type 0} (outer : G → W → X → ControlFlow T (Unit {0}) → G → Type 0) (inner : F → W → ControlFlow T (Unit {0}) → F → Type 0) (shows : W → X → A × B) (means : W → A) (same : (key : W) (value : X) → (shows key value).0 ≡ means key)
    (within : G → F) (each : (f : G) (key : W) (value : X) (comparison : ControlFlow T (Unit {0})) (after : G) → outer f key value comparison after → inner (within f) key comparison (within after)) where
  after_key : (comparison : ControlFlow T (Unit {0})) (goes_on : G → Type 0) (goes : F → Type 0) (after : G) (result : Option T) (last : G) → (goes_on after → goes (within after)) → AfterOutcome comparison goes_on after result last → AfterOutcome comparison goes (within after) result (within last)
  after_key (Continue u) goes_on goes after result last next h = next h
  after_key (Break value) goes_on goes after result last next h = (h.0, ap within h.1)

  pub keys_visited : (first : G) (m : List (A × B)) (result : Option T) (last : G) → Visits outer shows first m result last → VisitsKeys inner means (within first) (map (λ e. e.0) m) result (within last)
  keys_visited first [] result last v = (v.0, ap within v.1)
  keys_visited first (e ∷ m) result last v =
      let rest = after_key v.2 (λ f. Visits outer shows f m result last) (λ f. VisitsKeys inner means f (map (λ e. e.0) m) result (within last)) v.3 result last (keys_visited v.3 m result last) v.6 in
      (v.0, v.2, within v.3, sym (same v.0 v.1) ∙ ap (λ x. x.0) v.4, each first v.0 v.1 v.2 v.3 v.5, rest)
