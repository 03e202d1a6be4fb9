-- A set is built of keys that come as results as its map is, of the entries that go with them.
use Rattle.std.proofs.Common.{◌≡◌, ℕ, Option, None, Some, Result, Ok, Err, sym, subst}
use Rattle.std.specs.Fn.{Mut, Called}
use Rattle.std.specs.Iterator.Adapters.{map_source, map_callee, map_steps}
use Rattle.std.specs.declared.iter.Map.{Map}
use Rattle.rkyv_btree_portable.specs.Kind.{Kind}
use Rattle.rkyv_btree_portable.specs.Scalars.{unit_kind}
use Rattle.rkyv_btree_writer.specs.Archiving.{Archival}
use Rattle.rkyv_btree_writer.specs.Writing.{Writing}
use Rattle.rkyv_btree_writing_laws.specs.Serialising.{Serialised}
use Rattle.rkyv_btree_writing_laws.specs.Sets.{unit_archival, entry_borrowed, entries_by, BuildsSet}
use Rattle.rkyv_btree_writing_laws.proofs.Sets.{set_of_entries}
use Rattle.rkyv_btree_writing_laws.proofs.Within.{yields_within, serialised_within, fault_within}
use Rattle.rkyv_btree_archive.specs.TryBuilding.{OkSteps, MetError, TryFaulted, FailsToTry, FailsToTrySet, IsUntried, IsUntriedSet, key_result, results_by}
use Rattle.rkyv_btree_archive.specs.declared.try_build.TryFault.{TryFault}
use Rattle.rkyv_btree_archive.specs.declared.try_build.TryFault.TheVariants.{Item, Build}

module _ {I X P F : Type 0} (steps : P → Option (Result I X) → P → Type 0) (call : Mut F (Result I X × Unit {0}) (Result (I × Unit {0}) X))
    (gives : (f : F) (k : Result I X) (r : Result (I × Unit {0}) X) (t : F) → Called call f (k, tt) r t → key_result r ≡ k) where
  -- where each call of a closure gives its argument with a (), the mapped iterator gives each key's entry
  mapped : (s : Map P F) (r : Option (Result (I × Unit {0}) X)) (t : Map P F) → map_steps steps call s r t → results_by steps (map_source s) r (map_source t)
  mapped s None t h = h.0
  mapped s (Some r) t h = subst (λ k. steps (map_source s) (Some k) (map_source t)) (sym (gives (map_callee s) h.0 r (map_callee t) h.2)) h.1

  mapped_entries : (s : Map P F) (e : Option (I × Unit {0})) (t : Map P F) → OkSteps (map_steps steps call) s e t → entries_by (OkSteps steps) (map_source s) e (map_source t)
  mapped_entries s None t h = mapped s None t h
  mapped_entries s (Some e) t h = mapped s (Some (Ok e)) t h

  mapped_results : (s : Map P F) (e : Option (I × Unit {0})) (t : Map P F) → OkSteps (map_steps steps call) s e t → OkSteps (results_by steps) (map_source s) e (map_source t)
  mapped_results s None t h = mapped s None t h
  mapped_results s (Some e) t h = mapped s (Some (Ok e)) t h

  module _ {M R : Type 0} (K : Kind) (E : ℕ) (KA : Archival M R) (borrowed : I → M) (iter : Map P F) (claim : ℕ) where
    -- the map's tree is the set's
    pub set_tried : {Q : Type 0} (state : Q → Writing) (before after : Q) (root : ℕ) → Serialised K unit_kind E KA unit_archival (entry_borrowed borrowed) (OkSteps (map_steps steps call)) iter claim (state before) root (state after) → BuildsSet K E KA borrowed (OkSteps steps) (map_source iter) claim state before after root
    set_tried state before after root h =
        set_of_entries K E KA borrowed (OkSteps steps) (map_source iter) claim state before after root
        (serialised_within K unit_kind E KA unit_archival (entry_borrowed borrowed) (OkSteps (map_steps steps call)) (entries_by (OkSteps steps)) map_source mapped_entries iter claim (state before) root (state after) h)

    met_within : (from t : Writing) (error : X) → MetError K unit_kind E KA unit_archival (entry_borrowed borrowed) (map_steps steps call) iter claim from t error → MetError K unit_kind E KA unit_archival (entry_borrowed borrowed) (results_by steps) (map_source iter) claim from t error
    met_within from t error h = record {
      items = h.items;
      rest = map_source h.rest;
      end = map_source h.end;
      taken = yields_within (OkSteps (map_steps steps call)) (OkSteps (results_by steps)) map_source mapped_results iter h.items h.rest h.taken;
      met = mapped h.rest (Some (Err error)) h.end h.met;
      none = h.none;
      few = h.few;
      enough = h.enough;
    }

    -- and what stops the one stops the other
    pub set_untried : {W : Type 0} (from t : Writing) (fault : TryFault W X) → TryFaulted K unit_kind E KA unit_archival (entry_borrowed borrowed) (map_steps steps call) iter claim from t fault → TryFaulted K unit_kind E KA unit_archival (entry_borrowed borrowed) (results_by steps) (map_source iter) claim from t fault
    set_untried from t (Item error) h = met_within from t error h
    set_untried from t (Build fault) h = fault_within K unit_kind E KA unit_archival (entry_borrowed borrowed) (OkSteps (map_steps steps call)) (OkSteps (results_by steps)) map_source mapped_results iter claim from fault t h

-- what the map's call leaves, the set's leaves
pub untried_as_set : {I J M R P D X Q : Type 0} (K : Kind) (E : ℕ) (KA : Archival M R) (borrowed : I → M) (steps : P → Option (Result I X) → P → Type 0) (iter : P) (claim : ℕ) (state : Q → Writing) (before after : Q)
    {W : Type 0} {lent : J → M × Unit {0}} {outer : D → Option (Result J X) → D → Type 0} {it : D} (fault : TryFault W X)
    → (FailsToTry K unit_kind E KA unit_archival lent outer it claim state before after fault → FailsToTrySet K E KA borrowed steps iter claim state before after fault)
    → IsUntried K unit_kind E KA unit_archival lent outer it claim state before after fault → IsUntriedSet K E KA borrowed steps iter claim state before after fault
untried_as_set K E KA borrowed steps iter claim state before after fault as_set h = record { cause = as_set h.cause; kept = h.kept; memory = λ keys is. h.memory keys (λ unit grows. grows) is; any_order = h.any_order }
