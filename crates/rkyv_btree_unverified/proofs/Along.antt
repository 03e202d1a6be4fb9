-- All items of an iterator along a list, of which each is an entry or an error.
use Rattle.std.proofs.Common.{◌≡◌, ℕ, List, [], ◌∷◌, map, Option, Some, None, Result, Ok, Err, refl, sym, ap, ◌∙◌, subst, append-nil, inl, inr}
use Rattle.std.specs.Iterator.{Drains}
use Rattle.std.specs.declared.cmp.Ordering.{Ordering}
use Rattle.std.specs.declared.ops.Bound.{Bound}
use Rattle.rkyv_btree_portable.specs.declared.refusal.Refusal.{Refusal}
use Rattle.rkyv_btree_portable.specs.declared.check.Portable
use Rattle.rkyv_btree_unverified.specs.UnverifiedIter.{AgreesWith, IfNoError, IsOver, StepsUnverified, entries_left}
use Rattle.rkyv_btree_unverified.specs.UnverifiedKeys.{StepsKeys, key_item, unverified_keys_left}
use Rattle.rkyv_btree_unverified.specs.UnverifiedRange.{IsRangeOver, StepsRange, unverified_range_left}
use Rattle.rkyv_btree_unverified.specs.UnverifiedRangeKeys.{StepsRangeKeys, unverified_range_keys_left}
use Rattle.rkyv_btree_unverified.specs.Walks.{Fails, IsFaultless}
use Rattle.rkyv_btree_unverified.specs.declared.range.UnverifiedRange.{UnverifiedRange}
use Rattle.rkyv_btree_unverified.specs.declared.iter.UnverifiedIter.{UnverifiedIter}
use Rattle.rkyv_btree_unverified.specs.declared.keys.UnverifiedKeys.{UnverifiedKeys}
use Rattle.rkyv_btree_view.specs.View.{view_entry, view_value}
use Rattle.rkyv_btree_walk.specs.declared.archived_map.ArchivedMap

-- what a call of `next` gives, while this holds of the state; after an error it is over
pub record GoesAlong {S X Y : Type 0} (steps : S → Option (Result X Refusal) → S → Type 0) (Reason : Refusal → Type 0) (shows : X → Y) (rest : S → List Y) (Good Over : S → Type 0) : Type 0 where
  pub takes : (s t : S) (x : X) → Good s → steps s (Some (Ok x)) t → (rest s ≡ shows x ∷ rest t) × Good t
  pub fails : (s t : S) (r : Refusal) → Good s → steps s (Some (Err r)) t → Reason r × Over t
  pub ends : (s t : S) → Good s → steps s None t → rest s ≡ []
  pub stays : (s t : S) (x : Result X Refusal) → Over s → steps s (Some x) t → ⊥

module _ {S X Y : Type 0} (steps : S → Option (Result X Refusal) → S → Type 0) (Reason : Refusal → Type 0) (shows : X → Y) (rest : S → List Y) (Good Over : S → Type 0) (along : GoesAlong steps Reason shows rest Good Over) where
  pub all_agree : (s : S) (items : List (Result X Refusal)) → Good s → Drains steps s items → AgreesWith Reason shows items (rest s)
  all_agree s [] good d = record {
    shown = [];
    last = [];
    left = [];
    items_are = refl;
    entries_are = along.ends s d.0 good (subst (λ x. steps x None d.0) (sym d.1.1) d.1.2);
    ends = inl (refl, refl);
  }
  all_agree s (Ok x ∷ items) good d =
      let o = along.takes s d.1.1.0 x good d.1.1.1 in
      let r = all_agree d.1.1.0 items o.1 (d.0, (d.1.0, d.1.1.2, d.1.2)) in
      record {
        shown = x ∷ r.shown;
        last = r.last;
        left = r.left;
        items_are = ap (λ xs. Ok x ∷ xs) r.items_are;
        entries_are = o.0 ∙ ap (λ ys. shows x ∷ ys) r.entries_are;
        ends = r.ends;
      }
  all_agree s (Err e ∷ []) good d = record {
    shown = [];
    last = Err e ∷ [];
    left = rest s;
    items_are = refl;
    entries_are = refl;
    ends = inr (e, refl, (along.fails s d.1.1.0 e good d.1.1.1).0);
  }
  all_agree s (Err e ∷ x ∷ items) good d = absurd (along.stays d.1.1.0 d.1.1.2.0 x (along.fails s d.1.1.0 e good d.1.1.1).1 d.1.1.2.1)

-- an iterator along entries alone comes to its end, where this holds
module _ {S X : Type 0} (steps : S → Option (Result X Refusal) → S → Type 0) (Good : S → Type 0) (Holds : Type 0) (takes : (s t : S) (x : X) → Good s → steps s (Some (Ok x)) t → Good t) (ends : (s t : S) → Good s → steps s None t → Holds) where
  all_good : (s : S) (shown : List X) → Good s → Drains steps s (map Ok shown) → Holds
  all_good s [] good d = ends s d.0 good (subst (λ x. steps x None d.0) (sym d.1.1) d.1.2)
  all_good s (x ∷ shown) good d = all_good d.1.1.0 shown (takes s d.1.1.0 x good d.1.1.1) (d.0, (d.1.0, d.1.1.2, d.1.2))

-- where no error has its reason, all of the list is shown
pub shown_all : {X Y : Type 0} (Reason : Refusal → Type 0) (shows : X → Y) (items : List (Result X Refusal)) (entries : List Y) → AgreesWith Reason shows items entries → ((r : Refusal) → Reason r → ⊥)
    → (shown : List X) × (items ≡ map Ok shown) × (map shows shown ≡ entries)
shown_all Reason shows items entries a never =
    elim a.ends [
      | inl none ↦ (a.shown, a.items_are ∙ rw none.0 (append-nil _), sym (a.entries_are ∙ rw none.1 (append-nil _)))
      | inr some ↦ absurd (never some.0 some.2)
    ]

-- where an iterator over keys gives keys alone, that over their entries gives entries alone
module _ {S T P Q : Type 0} (steps : S → Option (Result (P × Q) Refusal) → S → Type 0) (of : T → S) (key_steps : T → Option (Result P Refusal) → T → Type 0)
    (from : (s t : T) (item : Option (Result P Refusal)) → key_steps s item t → (entry : Option (Result (P × Q) Refusal)) × steps (of s) entry (of t) × (item ≡ key_item entry)) where
  some_entry : (s t : S) (x : P) (entry : Option (Result (P × Q) Refusal)) → steps s entry t → Some (Ok x) ≡ key_item entry → (e : P × Q) × steps s (Some (Ok e)) t
  some_entry s t x None step is = absurd (cc is)
  some_entry s t x (Some (Err r)) step is = absurd (cc is)
  some_entry s t x (Some (Ok e)) step is = (e, step)

  no_entry : (s t : S) (entry : Option (Result (P × Q) Refusal)) → steps s entry t → ◌≡◌ {A = Option (Result P Refusal)} None (key_item entry) → steps s None t
  no_entry s t None step is = step
  no_entry s t (Some (Err r)) step is = absurd (cc is)
  no_entry s t (Some (Ok e)) step is = absurd (cc is)

  entries_drain : (s : T) (shown : List P) → Drains key_steps s (map Ok shown) → (entries : List (P × Q)) × Drains steps (of s) (map Ok entries)
  entries_drain s [] d = let last = from d.1.0 d.0 None d.1.2 in ([], (of d.0, (of d.1.0, ap of d.1.1, no_entry (of d.1.0) (of d.0) last.0 last.1 last.2)))
  entries_drain s (x ∷ shown) d =
      let first = from s d.1.1.0 (Some (Ok x)) d.1.1.1 in
      let entry = some_entry (of s) (of d.1.1.0) x first.0 first.1 first.2 in
      let r = entries_drain d.1.1.0 shown (d.0, (d.1.0, d.1.1.2, d.1.2)) in
      (entry.0 ∷ r.0, (r.1.0, (r.1.1.0, (of d.1.1.0, entry.1, r.1.1.1), r.1.1.2)))

  pub entries_good : (s : T) (Holds : Type 0) → IfNoError steps (of s) Holds → IfNoError key_steps s Holds
  entries_good s Holds good shown d = let r = entries_drain s shown d in good r.0 r.1

-- an iterator over the keys of another one's entries goes along their keys
module _ {S T P Q A B : Type 0} (steps : S → Option (Result (P × Q) Refusal) → S → Type 0) (Reason : Refusal → Type 0) (shows : P × Q → A × B) (rest : S → List (A × B)) (Good Over : S → Type 0) (along : GoesAlong steps Reason shows rest Good Over)
    (of : T → S) (key_shows : P → A) (same : (e : P × Q) → (shows e).0 ≡ key_shows e.0) (key_steps : T → Option (Result P Refusal) → T → Type 0)
    (from : (s t : T) (item : Option (Result P Refusal)) → key_steps s item t → (entry : Option (Result (P × Q) Refusal)) × steps (of s) entry (of t) × (item ≡ key_item entry)) where
  abbrev keys : T → List A
  keys s = map (λ e. e.0) (rest (of s))

  taken : (s t : T) (x : P) (entry : Option (Result (P × Q) Refusal)) → Good (of s) → steps (of s) entry (of t) → Some (Ok x) ≡ key_item entry → (keys s ≡ key_shows x ∷ keys t) × Good (of t)
  taken s t x None good step e = absurd (cc e)
  taken s t x (Some (Err r)) good step e = absurd (cc e)
  taken s t x (Some (Ok p)) good step e =
      let o = along.takes (of s) (of t) p good step in
      let is : p.0 ≡ x = cc e in
      (ap (map (λ e. e.0)) o.0 ∙ ap (λ a. a ∷ keys t) (same p ∙ ap key_shows is), o.1)

  failed : (s t : T) (r : Refusal) (entry : Option (Result (P × Q) Refusal)) → Good (of s) → steps (of s) entry (of t) → Some (Err r) ≡ key_item entry → Reason r × Over (of t)
  failed s t r None good step e = absurd (cc e)
  failed s t r (Some (Err d)) good step e =
      let o = along.fails (of s) (of t) d good step in
      let is : d ≡ r = cc e in
      (subst Reason is o.0, o.1)
  failed s t r (Some (Ok p)) good step e = absurd (cc e)

  ended : (s t : T) (entry : Option (Result (P × Q) Refusal)) → Good (of s) → steps (of s) entry (of t) → ◌≡◌ {A = Option (Result P Refusal)} None (key_item entry) → keys s ≡ []
  ended s t None good step e = ap (map (λ e. e.0)) (along.ends (of s) (of t) good step)
  ended s t (Some (Err d)) good step e = absurd (cc e)
  ended s t (Some (Ok p)) good step e = absurd (cc e)

  stayed : (s t : T) (x : Result P Refusal) (entry : Option (Result (P × Q) Refusal)) → Over (of s) → steps (of s) entry (of t) → Some x ≡ key_item entry → ⊥
  stayed s t x None over step e = cc e
  stayed s t x (Some y) over step e = along.stays (of s) (of t) y over step

  pub along_keys : GoesAlong key_steps Reason key_shows keys (λ s. Good (of s)) (λ s. Over (of s))
  along_keys = record {
    takes = λ s t x good step. let f = from s t (Some (Ok x)) step in taken s t x f.0 good f.1 f.2;
    fails = λ s t r good step. let f = from s t (Some (Err r)) step in failed s t r f.0 good f.1 f.2;
    ends = λ s t good step. let f = from s t None step in ended s t f.0 good f.1 f.2;
    stays = λ s t x over step. let f = from s t (Some x) step in stayed s t x f.0 over f.1 f.2;
  }

module _ {M K V : Type 0} {g : ArchivedMap.Ghosts M K V} {m : Portable.Ghosts M} {k : Portable.Ghosts K} {v : Portable.Ghosts V} (KR VR : List ℕ → ℕ → ℕ → ℕ → Refusal → Type 0) (b : List ℕ) (at : ℕ) where
  -- an iterator along these bytes, of a map at this position
  abbrev pub IsOf : UnverifiedIter M K V g m k v → Type 0
  IsOf s = (s.buf.now ≡ b) × (s.pos ≡ at)

  pub along_entries : GoesAlong (StepsUnverified KR VR) (Fails k.kind v.kind g.E b KR VR at) view_entry entries_left IsOf IsOver
  along_entries = record {
    takes = λ s t x is step. (step.gives.entries, (step.buffer ∙ is.0, step.position ∙ is.1));
    fails = λ s t r is step.
        let why : Fails k.kind v.kind g.E s.buf.now KR VR s.pos r = record { refuses = step.gives.refuses; no_map = step.gives.no_map } in
        (rw (is.0, is.1) at why, step.gives.over);
    ends = λ s t is step. step.gives.entries;
    stays = λ s t x over step. let none = (step.stays_over over).0 in cc none;
  }

  -- one that isn't over, and gives no error, shows that nothing is at fault
  pub entries_faultless : (s : UnverifiedIter M K V g m k v) → IsOf s → (IsOver s → ⊥) → IfNoError (StepsUnverified KR VR) s (IsFaultless k.kind v.kind g.E b at)
  entries_faultless s is begun shown d =
      all_good (StepsUnverified KR VR) (λ s. IsOf s × (IsOver s → ⊥)) (IsFaultless k.kind v.kind g.E b at)
      (λ s t x good step. ((step.buffer ∙ good.0.0, step.position ∙ good.0.1), step.gives.goes_on)) (λ s t good step. let none = step.gives.faultless good.1 in rw (good.0.0, good.0.1) at none) s shown (is, begun) d

  pub keys_faultless : {Holds : Type 0} (s : UnverifiedKeys M K V g m k v) → IfNoError (StepsUnverified KR VR) s.entries Holds → IfNoError (StepsKeys KR VR) s Holds
  keys_faultless {Holds} s good = entries_good (StepsUnverified KR VR) (λ t. t.entries) (StepsKeys KR VR) (λ s t item step. (step.entry, step.steps, step.key)) s Holds good

  pub along_set_keys : GoesAlong (StepsKeys KR VR) (Fails k.kind v.kind g.E b KR VR at) view_value unverified_keys_left (λ s. IsOf s.entries) (λ s. IsOver s.entries)
  along_set_keys = along_keys (StepsUnverified KR VR) (Fails k.kind v.kind g.E b KR VR at) view_entry entries_left IsOf IsOver along_entries (λ s. s.entries) view_value (λ e. refl) (StepsKeys KR VR) (λ s t item step. (step.entry, step.steps, step.key))

module _ {M T R K V : Type 0} {g : ArchivedMap.Ghosts M K V} {m : Portable.Ghosts M} {k : Portable.Ghosts K} {v : Portable.Ghosts V} (compared : T → List ℕ → ℕ → Ordering) (end_bound : R → Bound T) (has_bounds : R → Type 0) (KR VR : List ℕ → ℕ → ℕ → ℕ → Refusal → Type 0) (b : List ℕ) (at : ℕ) where
  -- the same over a range that knows its bounds
  abbrev pub IsOfRange : UnverifiedRange M T R K V g m k v → Type 0
  IsOfRange s = (s.buf.now ≡ b) × (s.pos ≡ at) × has_bounds s.range

  pub along_range : GoesAlong (StepsRange compared end_bound has_bounds KR VR) (Fails k.kind v.kind g.E b KR VR at) view_entry (unverified_range_left compared end_bound) IsOfRange IsRangeOver
  along_range = record {
    takes = λ s t x is step. (step.gives.entries is.2, (step.buffer ∙ is.0, step.position ∙ is.1, rw step.range is.2));
    fails = λ s t e is step.
        let why : Fails k.kind v.kind g.E s.buf.now KR VR s.pos e = record { refuses = step.gives.refuses; no_map = step.gives.no_map } in
        (rw (is.0, is.1) at why, step.gives.over);
    ends = λ s t is step. step.gives.entries is.2;
    stays = λ s t x over step. let none = (step.stays_over over).0 in cc none;
  }

  pub along_range_keys : GoesAlong (StepsRangeKeys compared end_bound has_bounds KR VR) (Fails k.kind v.kind g.E b KR VR at) view_value (unverified_range_keys_left compared end_bound) (λ s. IsOfRange s.entries) (λ s. IsRangeOver s.entries)
  along_range_keys = along_keys (StepsRange compared end_bound has_bounds KR VR) (Fails k.kind v.kind g.E b KR VR at) view_entry (unverified_range_left compared end_bound) IsOfRange IsRangeOver along_range (λ s. s.entries) view_value (λ e. refl) (StepsRangeKeys compared end_bound has_bounds KR VR) (λ s t item step. (step.entry, step.steps, step.key))
