-- What building leaves is what serialising a list of entries leaves; and what stops it is why they aren't serialised.
use Rattle.std.proofs.Common.{◌≡◌, ℕ, zero, suc, ◌<◌, ◌≤◌, ◌⊎◌, ◌∙◌, IsTrue, List, [], ◌∷◌, ◌++◌, length, map, Bor, refl, sym, ap, subst, arith, inl, inr, slice_index_or}
use Rattle.std.proofs.lemmas.List.{append-nil, length-map}
use Rattle.std.proofs.lemmas.List.Elements.{All-same}
use Rattle.std.specs.Iterator.{Yields, Drains}
use Rattle.std.specs.List.{flat_map}
use Rattle.std.specs.Map.Iter.{TakesFirst, deref, deref_pair}
use Rattle.std.specs.Prelude.{Option, Result, Ok, Err, IfOk, IfErr}
use Rattle.rkyv_btree_format.proofs.Sizes.{room_of}
use Rattle.rkyv_btree_format.specs.Layout.{NodeLayout, layout_of, are_fitting}
use Rattle.rkyv_btree_writing_laws.proofs.ImagesInOrder.{child_in}
use Rattle.rkyv_btree_writing_laws.proofs.Kept.{same_begins}
use Rattle.rkyv_btree_writing_laws.proofs.MapSame.{same_layout, same_map}
use Rattle.rkyv_btree_writing_laws.proofs.Told.{long_entry, growing_entry}
use Rattle.rkyv_btree_writing_laws.proofs.TreeArchived.{alone_shape}
use Rattle.rkyv_btree_writing_laws.proofs.TreeShort.{alone_list}
use Rattle.rkyv_btree_writing_laws.proofs.TreesImaged.{child_imaged}
use Rattle.rkyv_btree_writing_laws.proofs.TreesStopped.{child_stops, child_refuses}
use Rattle.rkyv_btree_writing_laws.proofs.Untold.{uncounted, unordered}
use Rattle.rkyv_btree_writing_laws.specs.Entries.{now_of, now_of_key}
use Rattle.rkyv_btree_writing_laws.specs.Imaged.{EntryIn, ChildImage}
use Rattle.rkyv_btree_writing_laws.specs.Miscounts.{IsMiscount}
use Rattle.rkyv_btree_writing_laws.specs.Serialising.{Built, Serialised, StoppedBuilding, BuildFault}
use Rattle.rkyv_btree_writing_laws.specs.Sets.{BuildsSet, entries_by, entry_borrowed, unit_archival, unit_entries}
use Rattle.rkyv_btree_format.specs.Units.{with_units}
use Rattle.rkyv_btree_writing_laws.specs.TreeArchival.{nodes, tree_archival, entry_lengths}
use Rattle.rkyv_btree_writing_laws.specs.Written.{ChildStopped}
use Rattle.rkyv_btree_portable.specs.Kind.{Kind, IsLawful}
use Rattle.rkyv_btree_portable.specs.Scalars.{unit_kind}
use Rattle.rkyv_btree_portable.specs.laws.Scalars.{unit_laws}
use Rattle.rkyv_btree_shape.specs.Plan.{planned_alone}
use Rattle.rkyv_btree_shape.specs.Tree.{child_list}
use Rattle.rkyv_btree_writer.proofs.FieldRuns.{long_front, long_behind}
use Rattle.rkyv_btree_writer.specs.Archiving.{Archival, Matches, IsArchived, IsTooLong, IsUnserialised, Serialises, itself}
use Rattle.rkyv_btree_writer.specs.Causes.{HasCauses}
use Rattle.rkyv_btree_writer.specs.Fields.{HasLong}
use Rattle.rkyv_btree_writer.specs.Writing.{Writing, Write, EndInReach, position, last_end}
use Rattle.rkyv_btree_writer.specs.declared.fault.Fault.{Fault}
use Rattle.rkyv_btree_writer.specs.declared.fault.Fault.TheVariants.{Length, LengthOverflow, PositionOverflow, OffsetOverflow, Writer, Memory, Entry, OutOfOrder}

-- what an iterator over a list of pairs gives are its pairs, by references
given : {M N : Type 0} (xs : List (M × N)) (items : List (Bor M × Bor N)) (rest : List (M × N)) → Yields (TakesFirst deref_pair) xs items rest → xs ≡ map now_of items ++ rest
given xs [] rest h = h
given xs (x ∷ items) rest h = h.1 ∙ ap (λ (zs : List _). now_of x ∷ zs) (given h.0 items rest h.2)

pub entries_begun : {M N : Type 0} (xs : List (M × N)) (items : List (Bor M × Bor N)) (rest : List (M × N)) → Yields (TakesFirst deref_pair) xs items rest → (later : List (M × N)) × (xs ≡ map now_of items ++ later)
entries_begun xs items rest h = (rest, given xs items rest h)

pub entries_drained : {M N : Type 0} (xs : List (M × N)) (items : List (Bor M × Bor N)) → Drains (TakesFirst deref_pair) xs items → map now_of items ≡ xs
entries_drained xs items h = sym (append-nil (map now_of items)) ∙ (ap (λ rest. map now_of items ++ rest) (sym h.1.2.0) ∙ sym (given xs items h.1.0 h.1.1))

-- and so of an iterator over keys, each with a ()
keys_given : {M : Type 0} (xs : List M) (items : List (Bor M × Unit {0})) (rest : List M) → Yields (entries_by (TakesFirst deref)) xs items rest → with_units xs ≡ map (entry_borrowed now_of_key) items ++ with_units rest
keys_given xs [] rest h = ap with_units h
keys_given xs (x ∷ items) rest h = ap with_units h.1 ∙ ap (λ (zs : List _). entry_borrowed now_of_key x ∷ zs) (keys_given h.0 items rest h.2)

pub keys_begun : {M : Type 0} (xs : List M) (items : List (Bor M × Unit {0})) (rest : List M) → Yields (entries_by (TakesFirst deref)) xs items rest → (later : List (M × Unit {0})) × (with_units xs ≡ map (entry_borrowed now_of_key) items ++ later)
keys_begun xs items rest h = (with_units rest, keys_given xs items rest h)

pub keys_drained : {M : Type 0} (xs : List M) (items : List (Bor M × Unit {0})) → Drains (entries_by (TakesFirst deref)) xs items → map (entry_borrowed now_of_key) items ≡ with_units xs
keys_drained xs items h = sym (append-nil (map (entry_borrowed now_of_key) items)) ∙ (ap (λ rest. map (entry_borrowed now_of_key) items ++ with_units rest) (sym h.1.2.0) ∙ sym (keys_given xs items h.1.0 h.1.1))

-- and of one over keys alone
keys_seen : {M : Type 0} (xs : List M) (keys : List (Bor M)) (rest : List M) → Yields (TakesFirst deref) xs keys rest → with_units xs ≡ unit_entries now_of_key keys ++ with_units rest
keys_seen xs [] rest h = ap with_units h
keys_seen xs (x ∷ keys) rest h = ap with_units h.1 ∙ ap (λ (zs : List _). (x.now, tt) ∷ zs) (keys_seen h.0 keys rest h.2)

pub keys_shown : {M : Type 0} (xs : List M) (keys : List (Bor M)) → Drains (TakesFirst deref) xs keys → unit_entries now_of_key keys ≡ with_units xs
keys_shown xs keys h = sym (append-nil (unit_entries now_of_key keys)) ∙ (ap (λ rest. unit_entries now_of_key keys ++ with_units rest) (sym h.1.2.0) ∙ sym (keys_seen xs keys h.1.0 h.1.1))

pub units_count : {M : Type 0} (xs : List M) → length (with_units xs) ≡ length xs
units_count [] = refl
units_count (x ∷ xs) = ap suc (units_count xs)

-- what isn't none is some
positive : (n m : ℕ) → n ≡ m → (n ≡ 0 → ⊥) → 0 < m
positive zero m is some = absurd (some refl)
positive (suc n) m is some = omega (arith, is)

module _ {M N R S : Type 0} (E : ℕ) (K : Archival M R) (V : Archival N S) where
  -- a long length of an entry is one of the list's
  any_long : (xs : List (M × N)) (i : ℕ) (x : M × N) → i < length xs → slice_index_or xs i x ≡ x → HasLong (entry_lengths E K V x) → HasLong (flat_map (entry_lengths E K V) xs)
  any_long [] i x inside at long = absurd (omega (arith, inside))
  any_long (y ∷ ys) zero x inside at long = long_front (entry_lengths E K V y) (flat_map (entry_lengths E K V) ys) (subst (λ z. HasLong (entry_lengths E K V z)) (sym at) long)
  any_long (y ∷ ys) (suc i) x inside at long = long_behind (entry_lengths E K V y) (flat_map (entry_lengths E K V) ys) (any_long ys i x (omega (arith, inside)) at long)

  either_long : (x : M × N) → IsTooLong K x.0 ⊎ IsTooLong V x.1 → HasLong (entry_lengths E K V x)
  either_long x (inl h) = long_front (K.lengths x.0) (V.lengths x.1) h
  either_long x (inr h) = long_behind (K.lengths x.0) (V.lengths x.1) h

  in_reach : (xs : List (M × N)) (from : ℕ) (writes : List Write) (place : Option ℕ) (t : Writing) → ChildImage (nodes E K V) K V from (planned_alone E xs) writes place → (0 < length xs → position t ≤ last_end) → EndInReach writes t
  in_reach [] from writes place t image ends = inl image.0
  in_reach (x ∷ xs) from writes place t image ends = inr (ends (omega arith))

module _ {M N R S : Type 0} (E : ℕ) (K : Archival M R) (V : Archival N S) (k : IsLawful K.kind) (v : IsLawful V.kind) (fits : IsTrue (are_fitting K.kind V.kind E)) where
  -- a built tree is serialised
  pub tree_serialised : {X : Type 0} (entries : X → List (M × N)) (x : X) (s t : Writing) (root : ℕ) → Built (nodes E K V) K V s (entries x) root t → Serialises (tree_archival E K V entries) x s t root
  tree_serialised entries x s t root built =
      let xs = entries x in
      let some = (room_of K.kind V.kind E k v fits).some in
      let imaged = child_imaged (nodes E K V) K V s (planned_alone E xs) built.place t built.written in
      let are_in = All-same (EntryIn K V) xs (child_list (planned_alone E xs)) (sym (alone_list E some xs)) (child_in (nodes E K V) K V s (planned_alone E xs) built.place t built.written) in
      (imaged.0, (built.place, imaged.1, built.root_is), imaged.2, are_in, in_reach E K V xs (position s) imaged.0 built.place t imaged.1 built.ends)

  module _ (key : IsArchived K) (value : IsArchived V) (kc : HasCauses K) (vc : HasCauses V) {F X : Type 0} (entries : X → List (M × N)) (x : X) (s t : Writing) where
    -- a fault that stops the writing of the tree
    pub tree_stopped : 0 < length (entries x) → (fault : Fault F) → ChildStopped (nodes E K V) K V s (planned_alone E (entries x)) fault t → IsUnserialised (tree_archival E K V entries) x s fault t
    tree_stopped some (Length m) h = absurd (uncounted F (nodes E K V) K V s (planned_alone E (entries x)) t m h)
    tree_stopped some LengthOverflow h =
        let c = planned_alone E (entries x) in
        let long = long_entry F (nodes E K V) K V s c t kc vc h in
        let all = any_long E K V (child_list c) long.0.0 long.0.1 long.0.2 long.0.3 (either_long E K V long.0.1 long.0.4) in
        (inr (subst (λ (xs : List (M × N)). HasLong (flat_map (entry_lengths E K V) xs)) (alone_list E (room_of K.kind V.kind E k v fits).some (entries x)) all), long.1)
    tree_stopped some PositionOverflow h = child_stops K.kind V.kind E k v fits K V (itself K.kind) (itself V.kind) key value kc vc {X = F} PositionOverflow tt s (planned_alone E (entries x)) t (alone_shape E (room_of K.kind V.kind E k v fits).some (entries x)) h
    tree_stopped some OffsetOverflow h = child_stops K.kind V.kind E k v fits K V (itself K.kind) (itself V.kind) key value kc vc {X = F} OffsetOverflow tt s (planned_alone E (entries x)) t (alone_shape E (room_of K.kind V.kind E k v fits).some (entries x)) h
    tree_stopped some (Writer error) h = child_stops K.kind V.kind E k v fits K V (itself K.kind) (itself V.kind) key value kc vc (Writer error) tt s (planned_alone E (entries x)) t (alone_shape E (room_of K.kind V.kind E k v fits).some (entries x)) h
    tree_stopped some (Memory error) h = (some, (growing_entry F (nodes E K V) K V s (planned_alone E (entries x)) t error h).1)
    tree_stopped some (Entry fault) h = child_refuses F (nodes E K V) K V fault s (planned_alone E (entries x)) t (alone_shape E (room_of K.kind V.kind E k v fits).some (entries x)) h
    tree_stopped some (OutOfOrder index) h = absurd (unordered F (nodes E K V) K V s (planned_alone E (entries x)) t index h)

    -- building that fails for an iterator that gives the entries and no others, and a claim of as many
    module _ {I P : Type 0} (A B : Kind) (same : layout_of A B E ≡ nodes E K V) (borrowed : I → M × N) (steps : P → Option I → P → Type 0) (iter : P) (claim : ℕ) (count : claim ≡ length (entries x)) (drains : (items : List I) → Drains steps iter items → map borrowed items ≡ entries x)
        (begins : (items : List I) (rest : P) → Yields steps iter items rest → (later : List (M × N)) × (entries x ≡ map borrowed items ++ later)) where
      abbrev Stops : Fault F → Type 0
      Stops fault = StoppedBuilding A B E K V borrowed steps {X = F} iter claim s fault t

      stopped : (fault : Fault F) → Stops fault → ChildStopped (nodes E K V) K V s (planned_alone E (entries x)) fault t
      stopped fault h = let later = begins h.items h.rest h.taken in
          subst (λ (l : NodeLayout). ChildStopped l K V {E = F} s (planned_alone E (entries x)) fault t) same (h.stopped (entries x) (record { later = later.0; parts = later.1; count = sym count }))

      pub tree_unserialised : (fault : Fault F) → (claim ≡ 0 → IsMiscount fault) → BuildFault A B E K V borrowed steps iter claim s fault t → IsUnserialised (tree_archival E K V entries) x s fault t
      tree_unserialised (Length m) none h = absurd (h.differs (sym (length-map h.items borrowed) ∙ (ap length (drains h.items h.all) ∙ sym count)))
      tree_unserialised LengthOverflow none (inl h) = (inl (omega (arith, count, h.0)), same_begins s t h.1)
      tree_unserialised LengthOverflow none (inr h) = tree_stopped (positive claim (length (entries x)) count none) LengthOverflow (stopped LengthOverflow h)
      tree_unserialised PositionOverflow none h = tree_stopped (positive claim (length (entries x)) count none) PositionOverflow (stopped PositionOverflow h)
      tree_unserialised OffsetOverflow none h = tree_stopped (positive claim (length (entries x)) count none) OffsetOverflow (stopped OffsetOverflow h)
      tree_unserialised (Writer error) none h = tree_stopped (positive claim (length (entries x)) count none) (Writer error) (stopped (Writer error) h)
      tree_unserialised (Memory error) none (inl h) = (positive claim (length (entries x)) count none, same_begins s t h)
      tree_unserialised (Memory error) none (inr h) = tree_stopped (positive claim (length (entries x)) count none) (Memory error) (stopped (Memory error) h)
      tree_unserialised (Entry fault) none h = tree_stopped (positive claim (length (entries x)) count none) (Entry fault) (stopped (Entry fault) h)
      tree_unserialised (OutOfOrder index) none h = absurd h

-- so it is of an iterator over the entries themselves, and for the archived kinds
module _ {M N R S : Type 0} (E : ℕ) (A B : Kind) (K : Archival M R) (V : Archival N S) (match : Matches K.kind A) (match2 : Matches V.kind B) (k : IsLawful K.kind) (v : IsLawful V.kind) (fits : IsTrue (are_fitting A B E)) where
  own_fits : IsTrue (are_fitting K.kind V.kind E)
  own_fits = subst IsTrue (sym (same_map K.kind V.kind A B E match match2).fits) fits

  module _ {X : Type 0} (entries : X → List (M × N)) (x : X) (s t : Writing) where
    own_built : (xs : List (M × N)) (root : ℕ) → Built (layout_of A B E) K V s xs root t → xs ≡ entries x → Serialises (tree_archival E K V entries) x s t root
    own_built xs root built same =
        let here = subst (λ (l : NodeLayout). Built l K V s xs root t) (sym (same_layout K.kind V.kind A B E match match2)) built in
        tree_serialised E K V k v own_fits entries x s t root (subst (λ (ys : List (M × N)). Built (nodes E K V) K V s ys root t) same here)

    module _ {F I P : Type 0} (borrowed : I → M × N) (steps : P → Option I → P → Type 0) (iter : P) (claim : ℕ) (drains : (items : List I) → Drains steps iter items → map borrowed items ≡ entries x) where
      pub list_serialised : (result : Result ℕ (Fault F)) → IfOk result (λ root. Serialised A B E K V borrowed steps iter claim s root t) → IfOk result (λ root. Serialises (tree_archival E K V entries) x s t root)
      list_serialised (Err fault) h = tt
      list_serialised (Ok root) h = own_built (map borrowed h.items) root h.built (drains h.items h.all)

      pub list_unserialised : IsArchived K → IsArchived V → HasCauses K → HasCauses V → ((items : List I) (rest : P) → Yields steps iter items rest → (later : List (M × N)) × (entries x ≡ map borrowed items ++ later)) → claim ≡ length (entries x) →
          (result : Result ℕ (Fault F)) → (claim ≡ 0 → IfErr result IsMiscount) → IfErr result (λ fault. BuildFault A B E K V borrowed steps iter claim s fault t) → IfErr result (λ fault. IsUnserialised (tree_archival E K V entries) x s fault t)
      list_unserialised key value kc vc begins count (Ok root) none h = tt
      list_unserialised key value kc vc begins count (Err fault) none h =
          tree_unserialised E K V k v own_fits key value kc vc entries x s t A B (sym (same_layout K.kind V.kind A B E match match2)) borrowed steps iter claim count drains begins fault none h

-- and for a set's keys
pub set_serialised : {M R F X Q : Type 0} (E : ℕ) (A : Kind) (K : Archival M R) → Matches K.kind A → IsLawful K.kind → IsTrue (are_fitting A unit_kind E) → (keys : X → List M) (x : X) (state : Q → Writing) (before after : Q) (claim : ℕ) (result : Result ℕ (Fault F)) →
    IfOk result (λ root. BuildsSet A E K now_of_key (TakesFirst deref) (keys x) claim state before after root) → IfOk result (λ root. Serialises (tree_archival E K unit_archival (λ z. with_units (keys z))) x (state before) (state after) root)
set_serialised E A K match k fits keys x state before after claim (Err fault) h = tt
set_serialised E A K match k fits keys x state before after claim (Ok root) h = own_built E A unit_kind K unit_archival match (itself unit_kind) k unit_laws fits (λ z. with_units (keys z)) x (state before) (state after) (unit_entries now_of_key h.keys) root h.built (keys_shown (keys x) h.keys h.all)
