-- What is built of an iterator of results, up to its first error, in words of its own calls.
use Rattle.std.proofs.Common.{◌≡◌, ℕ, ◌∙◌, List, [], ◌∷◌, length, map, Option, None, Some, Result, Ok, Err, IfOk, IfErr, OnOk, OnErr, IsErrOf, inl, inr, sym, ap, subst, arith, ⊎_elim}
use Rattle.std.specs.Prelude.{⊤, alloc_error}
use Rattle.std.specs.Iterator.{Yields}
use Rattle.std.proofs.lemmas.Bool.{cases_lt}
use Rattle.std.proofs.lemmas.List.{take_all}
use Rattle.rkyv_btree_portable.specs.Kind.{Kind}
use Rattle.rkyv_btree_format.specs.Layout.{layout_of}
use Rattle.rkyv_btree_shape.specs.Plan.{planned_alone}
use Rattle.rkyv_btree_writer.specs.Archiving.{Archival, BeginsWith}
use Rattle.rkyv_btree_writer.specs.Writing.{Writing}
use Rattle.rkyv_btree_writer.specs.declared.fault.Fault.{Fault}
use Rattle.rkyv_btree_writer.specs.declared.fault.Fault.TheVariants.{Length, LengthOverflow, PositionOverflow, OffsetOverflow, Writer, Memory, Entry, OutOfOrder}
use Rattle.rkyv_btree_writing_laws.specs.Kept.{NeverGrows, OnlyAppended}
use Rattle.rkyv_btree_writing_laws.specs.Miscounts.{IsLimited, IsMiscount}
use Rattle.rkyv_btree_writing_laws.specs.Serialising.{Serialised, StoppedBuilding, Miscounted}
use Rattle.rkyv_btree_writing_laws.specs.Written.{ChildWritten}
use Rattle.rkyv_btree_writing_laws.proofs.Kept.{went_begins}
use Rattle.rkyv_btree_archive.specs.TryBuilding.{OkSteps, MetError, TryFaulted, FailsToTry, IsItemOrMiscount, IsTryLimited, IsUntried}
use Rattle.rkyv_btree_archive.specs.declared.try_build.TryFault.{TryFault}
use Rattle.rkyv_btree_archive.specs.declared.try_build.TryFault.TheVariants.{Build}
use Rattle.rkyv_btree_archive.specs.declared.items.Source.{Source}
use Rattle.rkyv_btree_archive.specs.declared.try_build.UntilError.{UntilError}
use Rattle.rkyv_btree_archive.specs.mirror.Ended.{CountsTo, FaultAt, SerialisedTo}
use Rattle.rkyv_btree_archive.specs.mirror.Source.{Gives}
use Rattle.rkyv_btree_archive.specs.mirror.UntilError.{GivesUntilError, tried, tried_fault}

module _ {A B X P L : Type 0} (steps : P → Option (Result (A × B) X) → P → Type 0) where
  abbrev Steps : Source (UntilError P X) L × Option A → Option (A × B) → Source (UntilError P X) L × Option A → Type 0
  Steps = Gives (GivesUntilError steps) (λ (s : L) (last : Option A) (key : A) (t : L). ⊤) (λ (s : L) (last : Option A) (key : A) (t : L). ⊥)

  -- a run of the source is one of its iterator, without an error
  run : (s : Source (UntilError P X) L × Option A) (items : List (A × B)) (t : Source (UntilError P X) L × Option A) → Yields Steps s items t
      → Yields (OkSteps steps) s.0.items.items items t.0.items.items × (t.0.items.error ≡ s.0.items.error)
  run s [] t y = (ap (λ (z : Source (UntilError P X) L × Option A). z.0.items.items) y, ap (λ (z : Source (UntilError P X) L × Option A). z.0.items.error) (sym y))
  run s (x ∷ items) t (mid, (step, passes, key), y) = let r = run mid items t y in ((mid.0.items.items, step.0, r.0), r.1 ∙ step.1)

  -- its last call is the iterator's: it gave nothing if no error is kept, and the error if one is
  ended : (s t : Source (UntilError P X) L × Option A) → s.0.items.error ≡ None → t.0.items.error ≡ None → Steps s None t → steps s.0.items.items None t.0.items.items
  ended s t before none (inl (inl (step, same), look)) = step
  ended s t before none (inl (inr (x, step, kept), look)) = absurd (cc (kept, none))
  ended s t before none (inr (x, step, stops)) = absurd stops

  failed : (s t : Source (UntilError P X) L × Option A) (error : X) → s.0.items.error ≡ None → t.0.items.error ≡ Some error → Steps s None t → steps s.0.items.items (Some (Err error)) t.0.items.items
  failed s t error before is (inl (inl (step, same), look)) = absurd (cc (before, same, is))
  failed s t error before is (inl (inr (x, step, kept), look)) =
      let one : x ≡ error = cc (kept, is) in
      subst (λ z. steps s.0.items.items (Some (Err z)) t.0.items.items) one step
  failed s t error before is (inr (x, step, stops)) = absurd stops

  module _ {M N R S : Type 0} (K V : Kind) (E : ℕ) (KA : Archival M R) (VA : Archival N S) (lent : A × B → M × N) (s : Source (UntilError P X) L × Option A) (fresh : s.0.items.error ≡ None) (claim : ℕ) (from : Writing) where
    error_at : (z end : Source (UntilError P X) L × Option A) (error : Option X) → z ≡ end → end.0.items.error ≡ error → z.0.items.error ≡ error
    error_at z end error at is = ap (λ (y : Source (UntilError P X) L × Option A). y.0.items.error) at ∙ is

    serialised : (root : ℕ) (end : Source (UntilError P X) L × Option A) (t : Writing) → end.0.items.error ≡ None → SerialisedTo K V E KA VA lent Steps s claim from root end t
        → Serialised K V E KA VA lent (OkSteps steps) s.0.items.items claim from root t
    serialised root end t none (h, at) =
        let r = run s h.items h.all.1.0 h.all.1.1 in
        record {
          items = h.items;
          all = (h.all.0.0.items.items, (h.all.1.0.0.items.items, r.0, ended h.all.1.0 h.all.0 (r.1 ∙ fresh) (error_at h.all.0 end None at none) h.all.1.2));
          count = h.count;
          built = h.built;
          spelled = h.spelled;
        }

    met_behind : (root : ℕ) (end : Source (UntilError P X) L × Option A) (t : Writing) (error : X) → end.0.items.error ≡ Some error → SerialisedTo K V E KA VA lent Steps s claim from root end t
        → MetError K V E KA VA lent steps s.0.items.items claim from t error
    met_behind root end t error is (h, at) =
        let r = run s h.items h.all.1.0 h.all.1.1 in
        let place = h.built.place in
        let whole : ChildWritten (layout_of K V E) KA VA from (planned_alone E (map lent h.items)) place t = h.built.written in
        record {
          items = h.items;
          rest = h.all.1.0.0.items.items;
          end = h.all.0.0.items.items;
          taken = r.0;
          met = failed h.all.1.0 h.all.0 error (r.1 ∙ fresh) (error_at h.all.0 end (Some error) at is) h.all.1.2;
          none = λ empty. (subst (λ (zs : List (A × B)). ChildWritten (layout_of K V E) KA VA from (planned_alone E (map lent zs)) place t) empty whole).1;
          few = λ some less. absurd (let n = h.count in omega (arith, n, less));
          enough = λ more. (place, subst (λ (zs : List (A × B)). ChildWritten (layout_of K V E) KA VA from (planned_alone E (map lent zs)) place t) (sym (take_all claim h.items (let n = h.count in omega (arith, n)))) whole);
        }

    counted : (end : Source (UntilError P X) L × Option A) (expected actual : ℕ) (t : Writing) → end.0.items.error ≡ None → CountsTo K V E KA VA lent Steps s end claim expected actual from t
        → Miscounted K V E KA VA lent (OkSteps steps) s.0.items.items claim expected actual from t
    counted end expected actual t none (h, at) =
        let r = run s h.items h.all.1.0 h.all.1.1 in
        record {
          items = h.items;
          all = (h.all.0.0.items.items, (h.all.1.0.0.items.items, r.0, ended h.all.1.0 h.all.0 (r.1 ∙ fresh) (error_at h.all.0 end None at none) h.all.1.2));
          differs = h.differs;
          claimed = h.claimed;
          counted = h.counted;
          none = h.none;
          few = h.few;
          many = h.many;
        }

    met_counted : (end : Source (UntilError P X) L × Option A) (expected actual : ℕ) (t : Writing) (error : X) → end.0.items.error ≡ Some error → CountsTo K V E KA VA lent Steps s end claim expected actual from t
        → MetError K V E KA VA lent steps s.0.items.items claim from t error
    met_counted end expected actual t error is (h, at) =
        let r = run s h.items h.all.1.0 h.all.1.1 in
        record {
          items = h.items;
          rest = h.all.1.0.0.items.items;
          end = h.all.0.0.items.items;
          taken = r.0;
          met = failed h.all.1.0 h.all.0 error (r.1 ∙ fresh) (error_at h.all.0 end (Some error) at is) h.all.1.2;
          none = h.none;
          few = h.few;
          enough = λ more. ⊎_elim (λ past. h.many past) (λ few. absurd (h.differs (omega (arith, more, few)))) (cases_lt claim (length h.items));
        }

    stopped : {Y : Type 0} (fault : Fault Y) (t : Writing) → StoppedBuilding K V E KA VA lent Steps s claim from fault t → StoppedBuilding K V E KA VA lent (OkSteps steps) s.0.items.items claim from fault t
    stopped fault t h =
        let r = run s h.items h.rest h.taken in
        record { items = h.items; rest = h.rest.0.items.items; taken = r.0; entries = h.entries; claimed = h.claimed; stopped = h.stopped }

    -- each fault, with the error that is kept
    try_fault : {Y : Type 0} (error : Option X) (fault : Fault Y) (end : Source (UntilError P X) L × Option A) (t : Writing) → end.0.items.error ≡ error → FaultAt K V E KA VA lent Steps s claim from fault end t
        → TryFaulted K V E KA VA lent steps s.0.items.items claim from t (tried_fault error fault)
    try_fault None (Length m) end t is h = counted end m.expected m.actual t is h
    try_fault {Y} None LengthOverflow end t is (inl past) = inl past
    try_fault {Y} None LengthOverflow end t is (inr h) = inr (stopped {Y = Y} LengthOverflow t h)
    try_fault {Y} None PositionOverflow end t is h = stopped {Y = Y} PositionOverflow t h
    try_fault {Y} None OffsetOverflow end t is h = stopped {Y = Y} OffsetOverflow t h
    try_fault None (Writer error) end t is h = stopped (Writer error) t h
    try_fault {Y} None (Memory error) end t is (inl none) = inl none
    try_fault {Y} None (Memory error) end t is (inr h) = inr (stopped {Y = Y} (Memory error) t h)
    try_fault {Y} None (Entry fault) end t is h = stopped {Y = Y} (Entry fault) t h
    try_fault None (OutOfOrder index) end t is h = absurd h
    try_fault (Some met) (Length m) end t is h = met_counted end m.expected m.actual t met is h
    try_fault {Y} (Some met) LengthOverflow end t is (inl past) = inl past
    try_fault {Y} (Some met) LengthOverflow end t is (inr h) = inr (stopped {Y = Y} LengthOverflow t h)
    try_fault {Y} (Some met) PositionOverflow end t is h = stopped {Y = Y} PositionOverflow t h
    try_fault {Y} (Some met) OffsetOverflow end t is h = stopped {Y = Y} OffsetOverflow t h
    try_fault (Some met) (Writer error) end t is h = stopped (Writer error) t h
    try_fault {Y} (Some met) (Memory error) end t is (inl none) = inl none
    try_fault {Y} (Some met) (Memory error) end t is (inr h) = inr (stopped {Y = Y} (Memory error) t h)
    try_fault {Y} (Some met) (Entry fault) end t is h = stopped {Y = Y} (Entry fault) t h
    try_fault (Some met) (OutOfOrder index) end t is h = absurd h

    -- what is returned
    pub try_ok : {Y : Type 0} (error : Option X) (built : Result ℕ (Fault Y)) (end : Source (UntilError P X) L × Option A) (t : Writing) → end.0.items.error ≡ error
        → IfOk built (λ root. SerialisedTo K V E KA VA lent Steps s claim from root end t) → IfOk (tried error built) (λ root. Serialised K V E KA VA lent (OkSteps steps) s.0.items.items claim from root t)
    try_ok None (Ok root) end t is h = serialised root end t is h
    try_ok (Some error) (Ok root) end t is h = tt
    try_ok None (Err fault) end t is h = tt
    try_ok (Some error) (Err fault) end t is h = tt

    pub try_err : {Y : Type 0} (error : Option X) (built : Result ℕ (Fault Y)) (end : Source (UntilError P X) L × Option A) (t : Writing) → end.0.items.error ≡ error
        → IfOk built (λ root. SerialisedTo K V E KA VA lent Steps s claim from root end t) → IfErr built (λ fault. FaultAt K V E KA VA lent Steps s claim from fault end t)
        → IfErr (tried error built) (λ fault. TryFaulted K V E KA VA lent steps s.0.items.items claim from t fault)
    try_err None (Ok root) end t is whole h = tt
    try_err (Some error) (Ok root) end t is whole h = met_behind root end t error is whole
    try_err None (Err fault) end t is whole h = try_fault None fault end t is h
    try_err (Some error) (Err fault) end t is whole h = try_fault (Some error) fault end t is h

-- what is left of the writer, and what is returned for claims past 32 bits and of nothing
module _ {X Y : Type 0} where
  pub tried_on_ok : (A : Type 0) (error : Option X) (built : Result ℕ (Fault Y)) → OnOk built A → OnOk (tried error built) A
  tried_on_ok A None (Ok root) h = h
  tried_on_ok A (Some error) (Ok root) h = tt
  tried_on_ok A None (Err fault) h = tt
  tried_on_ok A (Some error) (Err fault) h = tt

  pub tried_past : (error : Option X) (built : Result ℕ (Fault Y)) → IsErrOf built LengthOverflow → IsErrOf (tried error built) (Build LengthOverflow)
  tried_past None built is = ap (tried None) is
  tried_past (Some error) built is = ap (tried (Some error)) is

  tried_none : (error : Option X) (built : Result ℕ (Fault Y)) → IfErr built IsMiscount → IfErr (tried error built) IsItemOrMiscount
  tried_none None (Ok root) h = tt
  tried_none (Some error) (Ok root) h = tt
  tried_none None (Err fault) h = h
  tried_none (Some error) (Err (Length m)) h = tt
  tried_none (Some error) (Err LengthOverflow) h = absurd h
  tried_none (Some error) (Err PositionOverflow) h = absurd h
  tried_none (Some error) (Err OffsetOverflow) h = absurd h
  tried_none (Some error) (Err (Writer fault)) h = absurd h
  tried_none (Some error) (Err (Memory fault)) h = absurd h
  tried_none (Some error) (Err (Entry fault)) h = absurd h
  tried_none (Some error) (Err (OutOfOrder index)) h = absurd h

  pub try_limits : (claim : ℕ) (from to : Writing) (error : Option X) (built : Result ℕ (Fault Y)) → IsLimited claim from to built → IsTryLimited claim from to (tried error built)
  try_limits claim from to error built h = record {
    past = λ late. let p = h.past late in (tried_past error built p.0, p.1);
    none = λ none. let p = h.none none in (tried_none error built p.0, p.1);
  }

  pub tried_kept : (from to : Writing) (error : Option X) (built : Result ℕ (Fault Y)) → OnOk built (OnlyAppended from to) → OnErr built (BeginsWith to from) → OnErr (tried error built) (BeginsWith to from)
  tried_kept from to None (Ok root) went kept = tt
  tried_kept from to (Some error) (Ok root) went kept = went_begins from to went
  tried_kept from to None (Err fault) went kept = kept
  tried_kept from to (Some error) (Err fault) went kept = kept

  pub tried_memory : (error : Option X) (built : Result ℕ (Fault Y)) → IsErrOf (tried error built) (Build (Memory alloc_error)) → IsErrOf built (Memory alloc_error)
  tried_memory None (Ok root) is = absurd (cc (is))
  tried_memory (Some error) (Ok root) is = absurd (cc (is))
  tried_memory None (Err fault) is = cc (is)
  tried_memory (Some error) (Err (Length m)) is = absurd (cc (is))
  tried_memory (Some error) (Err LengthOverflow) is = absurd (cc (is))
  tried_memory (Some error) (Err PositionOverflow) is = absurd (cc (is))
  tried_memory (Some error) (Err OffsetOverflow) is = absurd (cc (is))
  tried_memory (Some error) (Err (Writer fault)) is = absurd (cc (is))
  tried_memory (Some error) (Err (Memory fault)) is = cc (is)
  tried_memory (Some error) (Err (Entry fault)) is = absurd (cc (is))
  tried_memory (Some error) (Err (OutOfOrder index)) is = absurd (cc (is))

module _ {I M N R S P X Q : Type 0} (K V : Kind) (E : ℕ) (KA : Archival M R) (VA : Archival N S) (borrowed : I → M × N) (steps : P → Option (Result I X) → P → Type 0) (iter : P) (claim : ℕ) (state : Q → Writing) (before after : Q) where
  pub result_untried : {Root Y : Type 0} (result : Result Root (TryFault Y X)) → IfErr result (FailsToTry K V E KA VA borrowed steps iter claim state before after) → OnErr result (BeginsWith (state after) (state before))
      → (NeverGrows KA → NeverGrows VA → IsErrOf result (Build (Memory alloc_error)) → state after ≡ state before) → IfErr result (IsUntried K V E KA VA borrowed steps iter claim state before after)
  result_untried (Ok root) cause kept memory = tt
  result_untried (Err fault) cause kept memory = record {
    cause = cause;
    kept = kept;
    memory = λ keys values is. memory keys values (ap Err is);
    any_order = λ index is. subst (λ z. TryFaulted K V E KA VA borrowed steps iter claim (state before) (state after) z) is cause;
  }
