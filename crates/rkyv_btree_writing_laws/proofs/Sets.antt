-- A set is built as its map is, of the entries that go with its keys.
use Rattle.std.proofs.Common.{◌≡◌, ℕ, List, [], ◌∷◌, map, Option, Some, None, refl, sym, ap, subst, ◌∙◌}
use Rattle.std.specs.Fn.{Mut, Called}
use Rattle.std.specs.Iterator.{Yields, Drains}
use Rattle.std.specs.List.Sorted.{IsStrictlySortedBy}
use Rattle.std.specs.Map.{keys_of}
use Rattle.std.specs.declared.cmp.Ordering.{Ordering}
use Rattle.std.specs.Iterator.Adapters.{map_source, map_callee, map_steps}
use Rattle.std.specs.declared.iter.Map.{Map}
use Rattle.std.proofs.lemmas.List.{length-map}
use Rattle.rkyv_btree_writer.specs.Archiving.{Archival, Matches, itself}
use Rattle.rkyv_btree_portable.specs.Kind.{Kind}
use Rattle.rkyv_btree_portable.specs.Scalars.{unit_kind}
use Rattle.rkyv_btree_format.specs.Layout.{layout_of}
use Rattle.rkyv_btree_writing_laws.specs.Serialising.{meaning_of, Built, Spelled, Serialised, BuildFault}
use Rattle.rkyv_btree_writing_laws.specs.StrictBuilding.{SerialisedInOrder, StrictFault, BuildsSetInOrder}
use Rattle.rkyv_btree_writing_laws.specs.Sets.{unit_archival, entry_borrowed, entries_by, BuildsSet}
use Rattle.rkyv_btree_writing_laws.proofs.Within.{drains_within, fault_within, strict_within}
use Rattle.rkyv_btree_writer.specs.Writing.{Writing}
use Rattle.rkyv_btree_writer.specs.declared.fault.Fault.{Fault}

-- the keys of entries are what the steps of keys give
module _ {I P : Type 0} (steps : P → Option I → P → Type 0) where
  keys_yielded : (s : P) (entries : List (I × Unit {0})) (t : P) → Yields (entries_by steps) s entries t → Yields steps s (map (λ e. e.0) entries) t
  keys_yielded s [] t y = y
  keys_yielded s (e ∷ entries) t y = (y.0, y.1, keys_yielded y.0 entries t y.2)

  keys_drained : (s : P) (entries : List (I × Unit {0})) → Drains (entries_by steps) s entries → Drains steps s (map (λ e. e.0) entries)
  keys_drained s entries d = (d.0, (d.1.0, keys_yielded s entries d.1.0 d.1.1, d.1.2))

entries_now : {I M : Type 0} (borrowed : I → M) (entries : List (I × Unit {0})) → map (entry_borrowed borrowed) entries ≡ map (λ k. (borrowed k, tt)) (map (λ e. e.0) entries)
entries_now borrowed [] = refl
entries_now borrowed (e ∷ entries) = ap (λ rest. (borrowed e.0, tt) ∷ rest) (entries_now borrowed entries)

entries_mean : {I M R : Type 0} (K : Kind) (KA : Archival M R) (borrowed : I → M) (key : Matches KA.kind K) (entries : List (I × Unit {0})) → map (meaning_of K unit_kind KA unit_archival (entry_borrowed borrowed) key (itself unit_kind)) entries ≡ map (λ k. (key.to (KA.meaning (borrowed k)), tt)) (map (λ e. e.0) entries)
entries_mean K KA borrowed key [] = refl
entries_mean K KA borrowed key (e ∷ entries) = ap (λ rest. (key.to (KA.meaning (borrowed e.0)), tt) ∷ rest) (entries_mean K KA borrowed key entries)

-- where each call of a closure gives its argument with a (), the mapped iterator gives each key's entry
mapped : {I P F : Type 0} (steps : P → Option I → P → Type 0) (call : Mut F (I × Unit {0}) (I × Unit {0})) → ((f : F) (k : I) (e : I × Unit {0}) (t : F) → Called call f (k, tt) e t → e.0 ≡ k)
    → (s : Map P F) (e : Option (I × Unit {0})) (t : Map P F) → map_steps steps call s e t → entries_by steps (map_source s) e (map_source t)
mapped steps call gives s None t h = h.0
mapped steps call gives s (Some e) t h = subst (λ k. steps (map_source s) (Some k) (map_source t)) (sym (gives (map_callee s) h.0 e (map_callee t) h.2)) h.1

module _ {I M R P : Type 0} (K : Kind) (E : ℕ) (KA : Archival M R) (borrowed : I → M) (steps : P → Option I → P → Type 0) (iter : P) (claim : ℕ) where
  -- the tree of entries that come by keys is the set's
  pub set_of_entries : {Q : Type 0} (state : Q → Writing) (before after : Q) (root : ℕ) → Serialised K unit_kind E KA unit_archival (entry_borrowed borrowed) (entries_by steps) iter claim (state before) root (state after) → BuildsSet K E KA borrowed steps iter claim state before after root
  set_of_entries state before after root map_built =
      let items = map_built.items in
      record {
        keys = map (λ e. e.0) items;
        all = keys_drained steps iter items map_built.all;
        count = length-map items (λ e. e.0) ∙ map_built.count;
        built = subst (λ (xs : List (M × Unit {0})). Built (layout_of K unit_kind E) KA unit_archival (state before) xs root (state after)) (entries_now borrowed items) map_built.built;
        spelled = λ some key.
            subst (λ (m : List (K.Value × Unit {0})). Spelled K unit_kind E (state before) m root (state after)) (entries_mean K KA borrowed key items) (map_built.spelled some key (itself unit_kind));
      }

module _ {I M R P F : Type 0} (K : Kind) (E : ℕ) (KA : Archival M R) (borrowed : I → M) (steps : P → Option I → P → Type 0) (call : Mut F (I × Unit {0}) (I × Unit {0}))
    (gives : (f : F) (k : I) (e : I × Unit {0}) (t : F) → Called call f (k, tt) e t → e.0 ≡ k) (iter : Map P F) (claim : ℕ) where
  -- the map's tree is the set's
  pub set_built : {Q : Type 0} (state : Q → Writing) (before after : Q) (root : ℕ) → Serialised K unit_kind E KA unit_archival (entry_borrowed borrowed) (map_steps steps call) iter claim (state before) root (state after) → BuildsSet K E KA borrowed steps (map_source iter) claim state before after root
  set_built state before after root map_built =
      set_of_entries K E KA borrowed steps (map_source iter) claim state before after root (record {
        items = map_built.items;
        all = drains_within (map_steps steps call) (entries_by steps) map_source (mapped steps call gives) iter map_built.items map_built.all;
        count = map_built.count;
        built = map_built.built;
        spelled = map_built.spelled;
      })

  -- and what stops the one stops the other
  pub set_refused : {X : Type 0} (from : Writing) (fault : Fault X) (t : Writing) → BuildFault K unit_kind E KA unit_archival (entry_borrowed borrowed) (map_steps steps call) iter claim from fault t → BuildFault K unit_kind E KA unit_archival (entry_borrowed borrowed) (entries_by steps) (map_source iter) claim from fault t
  set_refused from fault t h = fault_within K unit_kind E KA unit_archival (entry_borrowed borrowed) (map_steps steps call) (entries_by steps) map_source (mapped steps call gives) iter claim from fault t h

  -- the same where keys must increase
  pub set_built_in_order : {Q : Type 0} (order : M → M → Ordering) (state : Q → Writing) (before after : Q) (root : ℕ) → SerialisedInOrder order K unit_kind E KA unit_archival (entry_borrowed borrowed) (map_steps steps call) iter claim (state before) root (state after) → BuildsSetInOrder order K E KA borrowed steps (map_source iter) claim state before after root
  unfolding set_of_entries set_built
  set_built_in_order order state before after root h = (set_built state before after root h.0, subst (λ (ks : List M). IsStrictlySortedBy order ks) (sym (keys_now h.0.items)) h.1)
    where
      keys_now : (items : List (I × Unit {0})) → map borrowed (map (λ e. e.0) items) ≡ keys_of (map (entry_borrowed borrowed) items)
      keys_now [] = refl
      keys_now (e ∷ items) = ap (λ (ks : List M). borrowed e.0 ∷ ks) (keys_now items)

  pub set_refused_in_order : {X : Type 0} (order : M → M → Ordering) (from : Writing) (fault : Fault X) (t : Writing) → StrictFault order K unit_kind E KA unit_archival (entry_borrowed borrowed) (map_steps steps call) iter claim from fault t → StrictFault order K unit_kind E KA unit_archival (entry_borrowed borrowed) (entries_by steps) (map_source iter) claim from fault t
  set_refused_in_order order from fault t h = strict_within K unit_kind E KA unit_archival (entry_borrowed borrowed) (map_steps steps call) (entries_by steps) map_source (mapped steps call gives) iter claim order from fault t h
