-- Lists of entries are archived as maps by the writes of their trees and the map's own bytes.
use Rattle.std.proofs.Common.{◌≡◌, ℕ, ◌+◌, ◌%◌, ◌≤◌, ◌∙◌, true, IsTrue, nat_eq, List, [], ◌∷◌, length, map, refl, sym, ap, subst, arith, inl, inr, Option, unwrap_or}
use Rattle.std.proofs.lemmas.List.{length-map}
use Rattle.std.proofs.lemmas.List.Elements.{All-same}
use Rattle.std.specs.List.{All}
use Rattle.rkyv_btree_format.proofs.Sizes.{room_of}
use Rattle.rkyv_btree_format.specs.Layout.{are_fitting}
use Rattle.rkyv_btree_format.specs.Spells.{Accepted}
use Rattle.rkyv_btree_writing_laws.specs.Image.{root_bytes, root_reaches}
use Rattle.rkyv_btree_writing_laws.specs.Imaged.{EntryIn, ChildImage}
use Rattle.rkyv_btree_writing_laws.specs.Serialising.{Built}
use Rattle.rkyv_btree_writing_laws.specs.TreeArchival.{nodes, tree_archival, IsRoot}
use Rattle.rkyv_btree_portable.specs.Bytes.{Holds}
use Rattle.rkyv_btree_portable.specs.Kind.{IsLawful}
use Rattle.rkyv_btree_shape.specs.Plan.{planned_alone}
use Rattle.rkyv_btree_shape.specs.Tree.{child_list, ChildHasShape}
use Rattle.rkyv_btree_shape.proofs.Smallest.{plan_is_left_complete}
use Rattle.rkyv_btree_writer.specs.Archiving.{Archival, IsArchived, itself}
use Rattle.rkyv_btree_writer.specs.Causes.{HasCauses}
use Rattle.rkyv_btree_writer.specs.Fields.{HasLong}
use Rattle.rkyv_btree_writer.specs.Writing.{Writing, Write, AllReach, appended, position, last_end}
use Rattle.rkyv_btree_writing_laws.proofs.Accepting.{root_length, accepted_within, accepted_empty}
use Rattle.rkyv_btree_writing_laws.proofs.Building.{spelled_of}
use Rattle.rkyv_btree_writing_laws.proofs.ImagesWritten.{image_written}
use Rattle.rkyv_btree_writing_laws.proofs.TreeCauses.{pointer_fits, fits_pointer, pointer_inside, pointer_held, one_length, tree_goes, tree_begun}
use Rattle.rkyv_btree_writing_laws.proofs.TreeShort.{alone_list, written_short}
use Rattle.rkyv_btree_writing_laws.proofs.TreesImaged.{wrote-end}

-- a planned child has the shape
pub alone_shape : {X : Type 0} (E : ℕ) → 1 ≤ E → (xs : List X) → ChildHasShape E (planned_alone E xs)
alone_shape E some [] = tt
alone_shape {X} E some (x ∷ xs) = (plan_is_left_complete X E some (x ∷ xs) (omega arith)).0.has_shape

module _ {M N R S : Type 0} (E : ℕ) (K : Archival M R) (V : Archival N S) (k : IsLawful K.kind) (v : IsLawful V.kind) (key : IsArchived K) (value : IsArchived V) where
  abbrev means : M × N → K.kind.Value × V.kind.Value
  means e = (K.meaning e.0, V.meaning e.1)

  -- what a buffer means that holds the writes of a tree, and the map's own bytes after them
  image_means : IsTrue (are_fitting K.kind V.kind E) → (xs : List (M × N)) (from at : ℕ) (writes : List Write) (place : Option ℕ) (root : ℕ) (own : List ℕ) → All (EntryIn K V) xs → ChildImage (nodes E K V) K V from (planned_alone E xs) writes place → root ≡ unwrap_or place 0 → IsRoot at root (length xs) own →
      (b : List ℕ) → AllReach writes → length b ≤ 4294967295 → at % 4 ≡ 0 → from + length (appended writes) ≤ at → at + 8 ≤ length b → Holds b from (appended writes) → Holds b at own → (left : ℕ) × Accepted K.kind V.kind E b from (from + length (appended writes)) at left (map means xs)
  image_means fits [] from at writes place root own is_in image is_root is b reach short aligned before inside held there =
      let none : length (appended writes) ≡ 0 = ap (λ (ws : List Write). length (appended ws)) image.0 in
      let empty = accepted_empty K.kind V.kind E b root at short aligned inside (subst (Holds b at) is.bytes there) in
      (from, record { short = short; window = omega arith; before = before; aligned = aligned; room = inside; root = elim empty.root [ inl h ↦ inl (h.0, refl, refl) | inr h ↦ absurd (omega (arith, h.1.total)) ] })
  image_means fits (x ∷ xs) from at writes place root own is_in image is_root is b reach short aligned before inside held there =
      let all = x ∷ xs in
      let some = (room_of K.kind V.kind E k v fits).some in
      let start : Writing = record { base = from; contents = []; failures = 0 } in
      let written = image_written K.kind V.kind E k v fits K V (itself K.kind) (itself V.kind) key value from (planned_alone E all) writes place start (alone_shape E some all) image reach (All-same (EntryIn K V) (child_list (planned_alone E all)) all (alone_list E some all) is_in) (omega arith) (omega arith) in
      let to = written.0 in
      let first : position start ≡ from = omega arith in
      let end = wrote-end start writes to written.2 in
      let built : Built (nodes E K V) K V start all root to = record { place = place; written = written.1; root_is = is_root; ends = λ some. omega (arith, end) } in
      let spelled = spelled_of K.kind V.kind E k v fits K V (itself K.kind) (itself V.kind) key value start all (map means all) root to refl (omega arith) is.few built in
      let count = length-map all means in
      let here = accepted_within K.kind V.kind E b start to (map means all) root at spelled (omega (arith, count)) (omega (arith, count, is.few)) (subst (λ (n : ℕ). root_reaches at root n ≡ true) (sym count) is.reaches) short
      (subst (λ (n : ℕ). Holds b n spelled.appended) (sym first) (subst (Holds b from) (sym written.2.done.contents ∙ spelled.contents) held))
      (omega (arith, end)) aligned inside (subst (Holds b at) (is.bytes ∙ ap (root_bytes at root) (sym count)) there) in
      (here.0, subst (λ (lo : ℕ). Accepted K.kind V.kind E b lo (from + length (appended writes)) at here.0 (map means all)) first (subst (λ (hi : ℕ). Accepted K.kind V.kind E b (position start) hi at here.0 (map means all)) (end ∙ ap (λ n. n + length (appended writes)) first) here.1))

  module _ {X : Type 0} (entries : X → List (M × N)) where
    pub tree_archived : IsArchived (tree_archival E K V entries)
    tree_archived x from at writes root own is_in w is = (
      ap length is.bytes ∙ root_length at root (length (entries x)),
      λ fits b reach short aligned before inside held there. image_means fits (entries x) from at writes w.0 root own is_in w.1 w.2 is b reach short aligned before inside held there,
    )

    pub tree_causes : HasCauses K → HasCauses V → HasCauses (tree_archival E K V entries)
    tree_causes kc vc = record {
      fits = λ x root at. let n = length (entries x) in (
        λ h. (h.1.few, pointer_fits at root (nat_eq n 0) h.1.reaches),
        λ all. (root_bytes at root n, record { few = all.0; reaches = fits_pointer at root (nat_eq n 0) all.1; bytes = refl }),
      );
      inside = λ x root at. (omega arith, omega arith, pointer_inside at root (nat_eq (length (entries x)) 0));
      held = λ b x from at writes root own is_in w is there. pointer_held at root b (length (entries x)) (nat_eq (length (entries x)) 0) (subst (Holds b at) is.bytes there);
      long = λ x root at h. one_length at root (length (entries x)) _ (nat_eq (length (entries x)) 0) h;
      short = λ fits x from at writes root own w is h.
          let room = room_of K.kind V.kind E k v fits in
          no_long (length (entries x)) _ is.few (written_short K V kc vc room.key room.value (nodes E K V) E room.some from (entries x) writes w.0 w.1) h;
      goes = λ x from. tree_goes E K V entries x from (entries x) refl;
      begun = λ x from writes h. tree_begun E K V entries x from writes (entries x) refl h;
    }
      where
        no_long : (len : ℕ) (others : List ℕ) → len ≤ last_end → (HasLong others → ⊥) → HasLong (len ∷ others) → ⊥
        no_long len others few short (inl h) = absurd (omega (arith, few, h))
        no_long len others few short (inr h) = short h
