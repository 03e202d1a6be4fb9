-- What the search of a map finds keeps what a lookup promises of an entry; and what it promises of an entry holds of its value, of
-- its key, and of whether there is one.
use Rattle.std.proofs.Common.{◌≡◌, ℕ, Bool, Option, None, Some, IfSome, is_some, List, map, refl, sym, ap, ◌∙◌}
use Rattle.std.specs.BTreeMap.{is_at}
use Rattle.std.specs.Option.{option_map}
use Rattle.std.specs.declared.cmp.Ordering.{Ordering}
use Rattle.rkyv_btree_portable.specs.Kind.{Kind}
use Rattle.rkyv_btree_portable.specs.Scalars.{unit_kind}
use Rattle.rkyv_btree_portable.specs.declared.check.Portable
use Rattle.rkyv_btree_walk.specs.Search.{IsHit}
use Rattle.rkyv_btree_view.specs.Lookup.{IsValueOfEqualKey, found_in}
use Rattle.rkyv_btree_view.specs.Lookups.{IsEntryLookup, IsKeyLookup, IsLookup, IsLookupWith, IsWhetherFound, IsWhetherKeyFound}
use Rattle.rkyv_btree_view.specs.Query.{IsCut}
use Rattle.rkyv_btree_view.specs.View.{entries_of}
use Rattle.rkyv_btree_view.specs.declared.view.View.{View}
use Rattle.rkyv_btree_view.proofs.LookedUp.{found_complete, found_hit, found_is, found_member, key_of_entry, some_of_entry, some_of_key, value_of_entry}
use Rattle.rkyv_btree_view.proofs.Lookups.{some_mapped}
use Rattle.rkyv_btree_view.proofs.Sets.{key_hit, keys_complete, keys_hit}

module _ (K V : Kind) (E : ℕ) {M : Type 0} {m : Portable.Ghosts M} (view : View M m) (comparison : K.Value → Ordering) (entry : Option (K.Value × V.Value)) (found : entry ≡ found_in K V E view comparison) where
  -- by a query that gives at each key that is read what a cut gives there
  pub entry_lookup : (cut : K.Value → Ordering) → IsCut K.order cut → ((p : ℕ) → comparison (K.read view.buf.now p) ≡ cut (K.read view.buf.now p)) → IsEntryLookup K V E view comparison entry
  entry_lookup cut is_cut agree = record {
    member = found_member K V E view.buf.now view.pos comparison entry found;
    sorted = λ rises. found ∙ found_is K V E view.buf.now view.pos rises comparison cut is_cut agree;
    complete = found_complete K V E view.buf.now view.pos comparison entry found;
    found = found;
  }

  -- by any query
  pub lookup_with : IsLookupWith K V E view comparison entry
  lookup_with = record {
    member = found_member K V E view.buf.now view.pos comparison entry found;
    sorted = λ cut rises. found ∙ found_is K V E view.buf.now view.pos rises comparison comparison cut (λ p. refl);
    complete = found_complete K V E view.buf.now view.pos comparison entry found;
    found = found;
  }

-- the value of an entry that is a hit is that of an equal key
member_of : {A B : Type 0} (comparison : A → Ordering) (m : List (A × B)) (found : Option (A × B)) → IfSome found (IsHit (λ e. comparison e.0) m) → IfSome (option_map (λ e. e.1) found) (IsValueOfEqualKey comparison m)
member_of comparison m None hit = tt
member_of comparison m (Some e) hit = (e.0, hit)

-- the key of an entry that is a hit is one
key_member : {A : Type 0} (comparison : A → Ordering) (m : List (A × Unit {0})) (found : Option (A × Unit {0})) → IfSome found (IsHit (λ e. comparison e.0) m) → IfSome (option_map (λ e. e.0) found) (IsHit comparison (map (λ e. e.0) m))
key_member comparison m None hit = tt
key_member comparison m (Some e) hit = key_hit comparison m e hit

module _ {K V : Kind} {E : ℕ} {M : Type 0} {m : Portable.Ghosts M} {view : View M m} {comparison : K.Value → Ordering} {entry : Option (K.Value × V.Value)} (h : IsEntryLookup K V E view comparison entry) where
  pub value_lookup : IsLookup K V E view comparison (option_map (λ e. e.1) entry)
  value_lookup = record {
    member = member_of comparison (entries_of K V E view) entry h.member;
    sorted = λ rises. ap (option_map (λ e. e.1)) (h.sorted rises) ∙ value_of_entry (is_at comparison) (entries_of K V E view);
    complete = λ ordered. rw (some_mapped (λ e. e.1) entry) (h.complete ordered);
    found = ap (option_map (λ e. e.1)) h.found;
  }

  pub whether_found : IsWhetherFound K V E view comparison (is_some entry)
  whether_found = record {
    member = λ is. found_hit (λ e. comparison e.0) (entries_of K V E view) entry h.member is;
    sorted = λ rises. ap is_some (h.sorted rises) ∙ some_of_entry (is_at comparison) (entries_of K V E view);
    complete = h.complete;
    found = ap is_some h.found;
  }

-- the lookups in the map that a set is are lookups in the set
module _ {K : Kind} {E : ℕ} {M N : Type 0} {m : Portable.Ghosts M} {n : Portable.Ghosts N} {of_map : View M m} {view : View N n} {comparison : K.Value → Ordering} (buffer : of_map.buf.now ≡ view.buf.now) (position : of_map.pos ≡ view.pos) where
  pub key_lookup : {entry : Option (K.Value × Unit {0})} → IsEntryLookup K unit_kind E of_map comparison entry → IsKeyLookup K E view comparison (option_map (λ e. e.0) entry)
  key_lookup {entry} h =
      let m = entries_of K unit_kind E view in
      record {
        member = key_member comparison m entry (rw (buffer, position) at h.member);
        sorted = λ rises. ap (option_map (λ e. e.0)) ((rw (buffer, position) at h.sorted) rises) ∙ key_of_entry (is_at comparison) m;
        complete = keys_complete comparison m (λ ordered. rw (some_mapped (λ e. e.0) entry) ((rw (buffer, position) at h.complete) ordered));
        found = ap (option_map (λ e. e.0)) (rw (buffer, position) at h.found);
      }

  pub whether_key_found : {result : Bool} → IsWhetherFound K unit_kind E of_map comparison result → IsWhetherKeyFound K E view comparison result
  whether_key_found h =
      let m = entries_of K unit_kind E view in
      record {
        member = λ is. keys_hit comparison m ((rw (buffer, position) at h.member) is);
        sorted = λ rises. (rw (buffer, position) at h.sorted) rises ∙ some_of_key (is_at comparison) m;
        complete = keys_complete comparison m (rw (buffer, position) at h.complete);
        found = (rw (buffer, position) at h.found) ∙ sym (some_mapped (λ e. e.0) (found_in K unit_kind E view comparison));
      }
