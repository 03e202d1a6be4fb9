-- What was written of entries is a smallest map of them: every accepted map's tree has the shape, of which the planned tree is
-- the smallest.
use Rattle.std.proofs.Common.{◌≡◌, ℕ, ◌+◌, ◌-◌, ◌<◌, ◌≤◌, ◌∙◌, IsTrue, List, [], ◌∷◌, ◌++◌, length, map, Option, None, refl, sym, ap, subst, arith, inl, inr}
use Rattle.std.proofs.lemmas.List.{append_cancel_left, length-map}
use Rattle.std.specs.Int.{div_ceil}
use Rattle.std.specs.Iterator.{Drains}
use Rattle.std.specs.Map.Iter.{TakesFirst, deref}
use Rattle.std.specs.Prelude.{Result, Ok, Err, IfOk}
use Rattle.rkyv_btree_portable.specs.Bytes.{Holds}
use Rattle.rkyv_btree_portable.specs.Kind.{Kind, IsLawful}
use Rattle.rkyv_btree_portable.specs.Natives.{unit_form}
use Rattle.rkyv_btree_portable.specs.Scalars.{unit_kind}
use Rattle.rkyv_btree_portable.specs.laws.Natives.{unit_faithful}
use Rattle.rkyv_btree_portable.specs.laws.Scalars.{unit_laws}
use Rattle.rkyv_btree_shape.specs.Tree.{Tree, list, nodes, height}
use Rattle.rkyv_btree_shape.specs.Weight.{inners, weight}
use Rattle.rkyv_btree_shape.specs.Logarithm.{ilog}
use Rattle.rkyv_btree_shape.specs.Plan.{plan}
use Rattle.rkyv_btree_shape.specs.Smallest.{IsSmallest, IsCompetitor}
use Rattle.rkyv_btree_shape.proofs.Logs.{ceiling_is}
use Rattle.rkyv_btree_shape.proofs.Smallest.{plan_is_left_complete, left_complete_is_smallest}
use Rattle.rkyv_btree_format.specs.Layout.{layout_of, leaf_size, inner_size, are_fitting}
use Rattle.rkyv_btree_format.specs.Spells.{Accepted, root_size}
use Rattle.rkyv_btree_format.proofs.Shaped.{spelled_has_shape}
use Rattle.rkyv_btree_format.proofs.Sizes.{room_of}
use Rattle.rkyv_btree_format.proofs.Widen.{tree_widens}
use Rattle.rkyv_btree_writer.proofs.Archiving.{native_archived}
use Rattle.rkyv_btree_writer.specs.Archiving.{Archival, IsArchived}
use Rattle.rkyv_btree_writer.specs.declared.fault.Fault.{Fault}
use Rattle.rkyv_btree_writer.specs.Writing.{Writing, position, last_end}
use Rattle.rkyv_btree_writing_laws.specs.Archives.{HoldsArchive}
use Rattle.rkyv_btree_writing_laws.specs.Serialising.{Built, BuildsTree, Spelled}
use Rattle.rkyv_btree_writing_laws.specs.Sets.{unit_archival, unit_entries, BuildsSet}
use Rattle.rkyv_btree_format.specs.Units.{with_units}
use Rattle.rkyv_btree_writing_laws.specs.SmallestMaps.{AcceptedMap, of_tree, IsSmallestMap, map_at, entry_value, IsSmallestArchive, BuildsSmallest, BuildsSmallestSet, ArchivesItems, ArchivesKeys}
use Rattle.rkyv_btree_writing_laws.proofs.Accepting.{root_held, accepted_empty, spelled_inside}
use Rattle.rkyv_btree_writing_laws.proofs.Building.{spelled_of}
use Rattle.rkyv_btree_writing_laws.proofs.TreeSerialised.{keys_shown}
use Rattle.rkyv_btree_writing_laws.specs.Entries.{now_of_key}

module _ (K V : Kind) (E : ℕ) where
  -- the tree of an accepted map with entries is one of the shape
  pub competing : (c : AcceptedMap K V E) (n : ℕ) → 0 < n → length c.entries ≡ n → (t : Tree (K.Value × V.Value)) × ((f : Tree (K.Value × V.Value) → ℕ) → of_tree f c ≡ f t) × IsCompetitor E n t
  competing c n some count =
      elim c.accepted.root as (λ r. (t : Tree (K.Value × V.Value)) × ((f : Tree (K.Value × V.Value) → ℕ) → (elim r [ inl none ↦ 0 | inr root ↦ f root.1.tree ]) ≡ f t) × IsCompetitor E n t) [
        | inl none ↦ absurd (omega (arith, count, ap length none.1))
        | inr root ↦
            let r = root.1 in
            (r.tree, λ f. refl, record { has_shape = spelled_has_shape K V E c.buffer c.lo c.hi r.start r.tree r.spelled; entries = sym (ap length r.means) ∙ count })
      ]

  -- over a smallest tree of the shape stands a smallest map
  pub smallest_over : leaf_size (layout_of K V E) ≤ inner_size (layout_of K V E) → (a : AcceptedMap K V E) (t : Tree (K.Value × V.Value)) → ((f : Tree (K.Value × V.Value) → ℕ) → of_tree f a ≡ f t) → a.entries ≡ list t → 0 < length a.entries → height t ≤ 32 → IsSmallest E t → IsSmallestMap a
  smallest_over sizes a t over means some few s =
      let leaf = leaf_size (layout_of K V E) in
      let inner = inner_size (layout_of K V E) in
      let count : length (list t) ≡ length a.entries = ap length (sym means) in
      record {
        nodes_are = over nodes ∙ (s.nodes_are ∙ ap (λ n. div_ceil n E) count);
        inners_are = over inners ∙ (s.inners_are ∙ ap (λ n. div_ceil (n - 1) (E + 1)) (sym (over nodes)));
        levels_are = λ many. over height ∙ (s.height_is ∙ ap (λ n. 1 + ilog (E + 1) n) count);
        levels_fit = omega (arith, over height);
        least = λ c same.
            let other = competing c (length (list t)) (omega (arith, count)) (same ∙ sym count) in
            record {
              nodes = omega (arith, over nodes, other.1 nodes, s.fewest_nodes other.0 other.2);
              inners = omega (arith, over inners, other.1 inners, s.fewest_inners other.0 other.2);
              levels = omega (arith, over height, other.1 height, s.least_height other.0 other.2);
              node_bytes = omega (arith, over (weight leaf inner), other.1 (weight leaf inner), s.least_weight leaf inner sizes other.0 other.2);
            };
      }

  -- a map of no entries has no tree
  no_tree : (a : AcceptedMap K V E) → a.entries ≡ [] → (f : Tree (K.Value × V.Value) → ℕ) → of_tree f a ≡ 0
  no_tree a none f = elim a.accepted.root as (λ r. (elim r [ inl _ ↦ 0 | inr root ↦ f root.1.tree ]) ≡ 0) [
    | inl h ↦ refl
    | inr root ↦ absurd (root.0 (sym root.1.total ∙ ap length none))
  ]

  pub smallest_empty : 1 ≤ E → (a : AcceptedMap K V E) → a.entries ≡ [] → IsSmallestMap a
  smallest_empty some a none =
      let over = no_tree a none in
      let zero_up : (d : ℕ) → 0 < d → div_ceil 0 d ≡ 0 = λ d positive. ceiling_is 0 d 0 positive (omega arith) (omega arith) in
      record {
        nodes_are = over nodes ∙ (sym (zero_up E some) ∙ ap (λ n. div_ceil n E) (sym (ap length none)));
        inners_are = over inners ∙ (sym (zero_up (E + 1) (omega arith)) ∙ ap (λ n. div_ceil (n - 1) (E + 1)) (sym (over nodes)));
        levels_are = λ many. absurd (omega (arith, ap length none));
        levels_fit = omega (arith, over height);
        least = λ c same. record {
          nodes = omega (arith, over nodes);
          inners = omega (arith, over inners);
          levels = omega (arith, over height);
          node_bytes = omega (arith, over (weight (leaf_size (layout_of K V E)) (inner_size (layout_of K V E))));
        };
      }

  module _ (k : IsLawful K) (v : IsLawful V) (fits : IsTrue (are_fitting K V E)) where
    -- what was appended for a serialised tree
    appended_is : (from to : Writing) (m : List (K.Value × V.Value)) (root : ℕ) (spelled : Spelled K V E from m root to) (bytes : List ℕ) → to.contents ≡ from.contents ++ bytes → bytes ≡ spelled.appended
    appended_is from to m root spelled bytes is = append_cancel_left from.contents bytes spelled.appended (sym is ∙ spelled.contents)

    -- the archive of a serialised tree is accepted, and a smallest map
    pub smallest_spelled : (from to : Writing) (m : List (K.Value × V.Value)) (root : ℕ) → Spelled K V E from m root to → 0 < length m → length m ≤ last_end → (b : List ℕ) (at : ℕ) → HoldsArchive b from to root at (length m) → (left : ℕ) × (a : Accepted K V E b 0 at at left m) × IsSmallestMap (map_at a)
    smallest_spelled from to m root spelled some few b at h =
        let room = room_of K V E k v fits in
        let s = layout_of K V E in
        let tree = spelled.tree in
        let short = h.map.short in
        let inside = h.map.room in
        let behind = h.behind in
        let narrow = spelled.spelled b short (subst (Holds b (position from)) (appended_is from to m root spelled h.appended h.contents) h.tree) (omega arith) in
        let low = spelled_inside K V E b (position from) (position to) root tree narrow in
        let told = root_held b root at (length m) some few h.reaches (omega arith) (omega arith) h.map.held in
        let complete = plan_is_left_complete (K.Value × V.Value) E room.some m some in
        let smallest : IsSmallest E tree = subst (IsSmallest E) (sym spelled.planned) (left_complete_is_smallest (K.Value × V.Value) E room.some (plan E m) complete.0) in
        let a : Accepted K V E b 0 at at (root + root_size s tree) m = record {
          short = short;
          window = omega arith;
          before = omega arith;
          aligned = h.map.aligned;
          room = inside;
          root = inr (
            λ e. absurd (omega (arith, told.1, e)),
            record {
              start = root;
              tree = tree;
              leads = told.0;
              spelled = tree_widens K V E b k.widens v.widens tree (position from) (position to) root 0 at (omega arith) behind narrow;
              levels = spelled.levels;
              means = sym spelled.entries;
              total = sym told.1;
              left = refl {a = root + root_size s tree};
            },
          );
        } in
        (root + root_size s tree, a, smallest_over room.parts.leaf (map_at a) tree (λ f. refl {a = f tree}) (sym spelled.entries) some spelled.levels smallest)

    module _ {M N R S : Type 0} (KA : Archival M R) (VA : Archival N S) (ka : IsArchived KA) (va : IsArchived VA) where
      -- so is that of a tree that was built
      pub smallest_built : (from : Writing) (entries : List (M × N)) (root : ℕ) (to : Writing) → length entries ≤ last_end → Built (layout_of K V E) KA VA from entries root to → IsSmallestArchive K V E KA VA from entries root to
      smallest_built from [] root to few built key value b at h =
          let own = h.map in
          let a = accepted_empty K V E b root at own.short own.aligned own.room own.held in
          (0, a, smallest_empty (room_of K V E k v fits).some (map_at a) refl)
      smallest_built from (x ∷ others) root to few built key value b at h =
          let entries = x ∷ others in
          let m = map (entry_value K V E KA VA key value) entries in
          let count = length-map entries (entry_value K V E KA VA key value) in
          let spelled = spelled_of K V E k v fits KA VA key value ka va from entries m root to refl (omega arith) few built in
          smallest_spelled from to m root spelled (omega (arith, count)) (omega (arith, count)) b at (subst (λ n. HoldsArchive b from to root at n) (sym count) h)

      -- of no items nothing is written
      pub builds_none : {I P Q : Type 0} (borrowed : I → M × N) (steps : P → Option I → P → Type 0) (iter : P) (claim : ℕ) (state : Q → Writing) (before : Q) (items : List I) → Drains steps iter items → claim ≡ 0 → length items ≡ 0 → BuildsTree K V E KA VA borrowed steps iter claim state before before 0
      builds_none borrowed steps iter claim state before [] all none count = record {
        items = [];
        all = all;
        count = sym none;
        built = record { place = None; written = (refl, refl); root_is = refl; ends = λ some. absurd (omega arith) };
        spelled = λ some. absurd (omega (arith, none));
      }
      builds_none borrowed steps iter claim state before (x ∷ items) all none count = absurd (omega (arith, count))

      -- and so of the items of an iterator
      pub builds_smallest : {I P Q : Type 0} (borrowed : I → M × N) (steps : P → Option I → P → Type 0) (iter : P) (claim : ℕ) (state : Q → Writing) (before after : Q) (root : ℕ) → claim ≤ last_end → BuildsTree K V E KA VA borrowed steps iter claim state before after root → BuildsSmallest K V E KA VA borrowed steps iter claim state before after root
      builds_smallest borrowed steps iter claim state before after root few built =
          (built, smallest_built (state before) (map borrowed built.items) root (state after) (omega (arith, built.count, length-map built.items borrowed)) built.built)

-- and of a set's keys
pub builds_smallest_set : {I M R P Q : Type 0} (K : Kind) (E : ℕ) → IsLawful K → IsTrue (are_fitting K unit_kind E) → (KA : Archival M R) → IsArchived KA → (borrowed : I → M) (steps : P → Option I → P → Type 0) (iter : P) (claim : ℕ) (state : Q → Writing) (before after : Q) (root : ℕ) → claim ≤ last_end →
    BuildsSet K E KA borrowed steps iter claim state before after root → BuildsSmallestSet K E KA borrowed steps iter claim state before after root
builds_smallest_set {M = M} K E k fits KA ka borrowed steps iter claim state before after root few built =
    (built, smallest_built K unit_kind E k unit_laws fits KA unit_archival ka (native_archived unit_form unit_faithful) (state before) (unit_entries borrowed built.keys) root (state after) (omega (arith, built.count, length-map {B = M × Unit {0}} built.keys (λ k. (borrowed k, tt)))) built.built)

-- a smallest archive is an archive
pub items_archived : {I M N R S P Q : Type 0} (K V : Kind) (E : ℕ) (KA : Archival M R) (VA : Archival N S) (borrowed : I → M × N) (steps : P → Option I → P → Type 0) (iter : P) (claim : ℕ) (state : Q → Writing) (before after : Q) (root : ℕ)
    → BuildsSmallest K V E KA VA borrowed steps iter claim state before after root → ArchivesItems K V E KA VA borrowed steps iter claim state before after root
items_archived K V E KA VA borrowed steps iter claim state before after root (built, smallest) = record {
  items = built.items;
  all = built.all;
  count = built.count;
  archive = λ key value b at holds. let a = smallest key value b at holds in (a.0, a.1);
}

pub keys_archived : {I M R P Q : Type 0} (K : Kind) (E : ℕ) (KA : Archival M R) (borrowed : I → M) (steps : P → Option I → P → Type 0) (iter : P) (claim : ℕ) (state : Q → Writing) (before after : Q) (root : ℕ)
    → BuildsSmallestSet K E KA borrowed steps iter claim state before after root → ArchivesKeys K E KA borrowed steps iter claim state before after root
keys_archived K E KA borrowed steps iter claim state before after root (built, smallest) = record {
  keys = built.keys;
  all = built.all;
  count = built.count;
  archive = λ key value b at holds. let a = smallest key value b at holds in (a.0, a.1);
}

-- an iterator over a list gives no other items, so its list has a smallest archive
pub list_smallest : {I M N R S P Q F : Type 0} (A B : Kind) (E : ℕ) (K : Archival M R) (V : Archival N S) (entries : List (M × N)) (borrowed : I → M × N) (steps : P → Option I → P → Type 0) (iter : P) (claim : ℕ) (state : Q → Writing) (before after : Q) → ((items : List I) → Drains steps iter items → map borrowed items ≡ entries) →
    (result : Result ℕ (Fault F)) → IfOk result (BuildsSmallest A B E K V borrowed steps iter claim state before after) → IfOk result (λ root. IsSmallestArchive A B E K V (state before) entries root (state after))
list_smallest A B E K V entries borrowed steps iter claim state before after drains (Err fault) h = tt
list_smallest {M = M} {N = N} A B E K V entries borrowed steps iter claim state before after drains (Ok root) h =
    subst (λ (xs : List (M × N)). IsSmallestArchive A B E K V (state before) xs root (state after)) (drains h.0.items h.0.all) h.1

-- and so have a set's keys
pub keys_smallest : {M R Q F : Type 0} (A : Kind) (E : ℕ) (K : Archival M R) (keys : List M) (claim : ℕ) (state : Q → Writing) (before after : Q) →
    (result : Result ℕ (Fault F)) → IfOk result (BuildsSmallestSet A E K now_of_key (TakesFirst deref) keys claim state before after) → IfOk result (λ root. IsSmallestArchive A unit_kind E K unit_archival (state before) (with_units keys) root (state after))
keys_smallest A E K keys claim state before after (Err fault) h = tt
keys_smallest {M = M} A E K keys claim state before after (Ok root) h =
    subst (λ (xs : List (M × Unit {0})). IsSmallestArchive A unit_kind E K unit_archival (state before) xs root (state after)) (keys_shown keys h.0.keys h.0.all) h.1
