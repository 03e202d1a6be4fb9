-- What is built for entries is their archive.
use Rattle.std.proofs.Common.{append_assoc, ◌≡◌, ℕ, ◌+◌, ◌^◌, ◌≤◌, ◌<◌, IsTrue, Option, List, [], ◌∷◌, ◌++◌, length, map, unwrap_or, inl, inr, refl, sym, ap, subst, ◌∙◌, arith}
use Rattle.std.proofs.lemmas.List.{length-map, length-append}
use Rattle.std.proofs.lemmas.Simd.{map-map}
use Rattle.std.specs.Int.{w32, to_le_bytes}
use Rattle.std.specs.Iterator.{Drains}
use Rattle.rkyv_btree_writing_laws.specs.Image.{child_image, child_root, root_image}
use Rattle.rkyv_btree_portable.specs.InPlace.{IsOwn, OwnBytes}
use Rattle.rkyv_btree_format.specs.Layout.{are_fitting, inner_size, len_at, node_size, values_at, keys_at, align, node_align}
use Rattle.rkyv_btree_portable.specs.Scalars.{u32_kind}
use Rattle.rkyv_btree_portable.specs.laws.Natives.{u32_faithful}
use Rattle.rkyv_btree_portable.specs.laws.Scalars.{u32_laws}
use Rattle.rkyv_btree_portable.specs.Rounding.{round_up}
use Rattle.rkyv_btree_writing_laws.specs.Serialising.{Built, Spelled, meaning_of, StoppedBuilding, BuildFault, RootFault}
use Rattle.rkyv_btree_writer.specs.Archiving.{Archival, itself, plain_archival}
use Rattle.rkyv_btree_shape.specs.Plan.{planned_alone}
use Rattle.rkyv_btree_shape.specs.Tree.{Child, ChildHasShape}
use Rattle.rkyv_btree_writing_laws.specs.Entries.{both_borrowed}
use Rattle.rkyv_btree_writing_laws.specs.Written.{ChildStopped}
use Rattle.rkyv_btree_writing_laws.proofs.Alike.{AreAlike, alike_both, alike_length, alike_reach, alike_same, child_alike, same_child_root}
use Rattle.rkyv_btree_writing_laws.proofs.Imaged.{child_written, child_stopped}
use Rattle.rkyv_btree_shape.proofs.Mapped.{alone_mapped}
use Rattle.rkyv_btree_shape.specs.Mapped.{mapped_child}
use Rattle.rkyv_btree_shape.proofs.Smallest.{plan_is_left_complete}
use Rattle.rkyv_btree_format.specs.Spells.{Accepted}
use Rattle.rkyv_btree_writer.specs.Writing.{Writing, position, Write, AllReach, Wrote, Stopped, appended, last_end}
use Rattle.rkyv_btree_writer.specs.declared.fault.Fault.{Fault}
use Rattle.rkyv_btree_writer.specs.declared.fault.Fault.TheVariants.{Length, LengthOverflow, PositionOverflow, OffsetOverflow, Writer, Memory, Entry, OutOfOrder}
use Rattle.rkyv_btree_writing_laws.proofs.Accepting.{accepted_archive, archive_length}
use Rattle.rkyv_btree_writer.proofs.WriteRuns.{AllReach-both, appended-append, stopped_past, stopped_stray}
use Rattle.btreearc_lines.specs.Headings.{begun, prefix}
use Rattle.btreearc_lines.specs.declared.heading.Heading.{Heading}
use Rattle.btreearc_commands.specs.Archive.{own_bytes, five, start, root_node, tree_writes, root_writes, archive_of, HasArchive, IsUnbuilt}
use Rattle.btreearc_commands.specs.Opening.{IsArchive, numbers_name, root_of}

-- a writer that holds what comes before the tree
abbrev pub before : Heading → Writing
before heading = begun numbers_name heading

-- what an item lends, which is an entry itself
abbrev pub lends : ℕ × ℕ → ℕ × ℕ
lends x = both_borrowed (λ (k : ℕ). k) (λ (v : ℕ). v) x

pub lent_same : (xs : List (ℕ × ℕ)) → map lends xs ≡ xs
lent_same [] = refl
lent_same (x ∷ xs) = ap (λ (ys : List (ℕ × ℕ)). x ∷ ys) (lent_same xs)

-- nodes of five entries of numbers fit
pub numbers_fit : IsTrue (are_fitting u32_kind u32_kind 5)
unfolding are_fitting inner_size len_at node_size values_at keys_at align node_align round_up
numbers_fit = refl

-- how numbers of 32 bits are archived
abbrev pub numbers : Archival ℕ (Unit {0})
numbers = plain_archival u32_kind (λ x. x) (λ x. x < 2 ^ 32) (to_le_bytes w32)

-- the writes of the entries' tree were made, and its root node stands there
pub record TreeIs (heading : Heading) (entries : List (ℕ × ℕ)) (root : ℕ) (s : Writing) : Type 0 where
  pub wrote : Wrote (before heading) (tree_writes heading entries) s
  pub root_is : root ≡ root_node heading entries

-- of the entries themselves
pub tree_of : (heading : Heading) (entries : List (ℕ × ℕ)) (root : ℕ) (from s : Writing) → from ≡ before heading → Built five numbers numbers from entries root s → TreeIs heading entries root s
tree_of heading entries root from s starts built =
    let tree : Built five numbers numbers (before heading) entries root s = subst (λ (w : Writing). Built five numbers numbers w entries root s) starts built in
    let made = child_written u32_kind u32_kind 5 u32_laws u32_laws numbers_fit (λ x. x) (λ x. x) (λ x. x < 2 ^ 32) (λ x. x < 2 ^ 32) (to_le_bytes w32) (to_le_bytes w32) u32_faithful.is_own u32_faithful.is_own (before heading) (planned_alone 5 entries) tree.place s tree.written in
    let same = alone_mapped own_bytes 5 entries in
    record {
      wrote = subst (λ (c : Child OwnBytes). Wrote (before heading) (child_image five (start heading) c) s) (sym same) made.0;
      root_is = tree.root_is ∙ (ap (λ (r : Option ℕ). unwrap_or r 0) made.1 ∙ ap (λ (c : Child OwnBytes). unwrap_or (child_root five (start heading) c) 0) (sym same));
    }

-- the map's writes after the tree
roots_are : (heading : Heading) (entries : List (ℕ × ℕ)) (root : ℕ) (s : Writing) → TreeIs heading entries root s → root_image (position s) root (length entries) ≡ root_writes heading entries
roots_are heading entries root s built =
    let tree = appended (tree_writes heading entries) in
    let at : position s ≡ start heading + length tree = omega (arith, ap length built.wrote.done.contents, length-append (prefix numbers_name heading) tree, built.wrote.done.base) in
    ap (λ p. root_image p root (length entries)) at ∙ ap (λ r. root_image (start heading + length tree) r (length entries)) built.root_is

reach_front : (xs ys : List Write) → AllReach (xs ++ ys) → AllReach xs
reach_front [] ys h = tt
reach_front (x ∷ xs) ys h = (h.0, reach_front xs ys h.1)

reach_back : (xs ys : List Write) → AllReach (xs ++ ys) → AllReach ys
reach_back [] ys h = h
reach_back (x ∷ xs) ys h = reach_back xs ys h.1

-- the tree and the map are the archive
pub archive_written : (heading : Heading) (entries : List (ℕ × ℕ)) (root : ℕ) (s t : Writing) → TreeIs heading entries root s → Wrote s (root_image (position s) root (length entries)) t → t.contents ≡ archive_of heading entries
archive_written heading entries root s t built wrote =
    let first = prefix numbers_name heading in
    let tree : s.contents ≡ first ++ appended (tree_writes heading entries) = built.wrote.done.contents in
    wrote.done.contents ∙ (ap (λ z. z ++ appended (root_image (position s) root (length entries))) tree
    ∙ (ap (λ ws. (first ++ appended (tree_writes heading entries)) ++ appended ws) (roots_are heading entries root s built)
    ∙ (append_assoc first (appended (tree_writes heading entries)) (appended (root_writes heading entries))
    ∙ ap (λ z. first ++ z) (sym (appended-append (tree_writes heading entries) (root_writes heading entries))))))

-- so the entries have one
pub has_archive : (heading : Heading) (entries : List (ℕ × ℕ)) (root : ℕ) (s t : Writing) → TreeIs heading entries root s → length entries ≤ last_end → Wrote s (root_image (position s) root (length entries)) t → position t ≤ last_end → HasArchive heading entries
has_archive heading entries root s t built few wrote end = record {
  count = few;
  end = omega (arith, ap length (archive_written heading entries root s t built wrote), wrote.done.base, built.wrote.done.base);
  reach = AllReach-both (tree_writes heading entries) (root_writes heading entries) built.wrote.reach (subst AllReach (roots_are heading entries root s built) wrote.reach);
}

pub alone_shape : {A : Type 0} (xs : List A) → ChildHasShape 5 (planned_alone 5 xs)
alone_shape [] = tt
alone_shape {A} (x ∷ xs) = (plan_is_left_complete A 5 (omega arith) (x ∷ xs) (omega arith)).0.has_shape

-- two lists of one length, side by side
paired : {A : Type 0} (xs ys : List A) → length xs ≡ length ys → (zs : List (A × A)) × (map (λ z. z.0) zs ≡ xs) × (map (λ z. z.1) zs ≡ ys)
paired [] [] n = ([], refl, refl)
paired [] (y ∷ ys) n = absurd (omega (arith, n))
paired (x ∷ xs) [] n = absurd (omega (arith, n))
paired (x ∷ xs) (y ∷ ys) n =
    let rest = paired xs ys (omega (arith, n)) in
    ((x, y) ∷ rest.0, ap (λ zs. x ∷ zs) rest.1, ap (λ zs. y ∷ zs) rest.2)

planned_by : (f : (ℕ × ℕ) × (ℕ × ℕ) → ℕ × ℕ) (zs : List ((ℕ × ℕ) × (ℕ × ℕ))) (xs : List (ℕ × ℕ)) → map f zs ≡ xs → planned_alone 5 (map own_bytes xs) ≡ mapped_child (λ z. own_bytes (f z)) (planned_alone 5 zs)
planned_by f zs xs e = ap (λ ys. planned_alone 5 (map own_bytes ys)) (sym e) ∙ (ap (planned_alone 5) (map-map own_bytes f zs) ∙ alone_mapped (λ z. own_bytes (f z)) 5 zs)

pub own_is : (x : ℕ × ℕ) → IsOwn u32_kind (own_bytes x).0 × IsOwn u32_kind (own_bytes x).1
own_is x = (u32_faithful.is_own x.0, u32_faithful.is_own x.1)

-- as many entries have a tree of the same writes but for their numbers, and so the same map
module _ (heading : Heading) (xs ys : List (ℕ × ℕ)) (same : length xs ≡ length ys) where
  trees_alike : AreAlike (tree_writes heading xs) (tree_writes heading ys)
  trees_alike =
      let p = paired xs ys same in
      let front = planned_by (λ z. z.0) p.0 xs p.1 in
      let back = planned_by (λ z. z.1) p.0 ys p.2 in
      subst (λ (c : Child OwnBytes). AreAlike (child_image five (start heading) c) (tree_writes heading ys)) (sym front)
      (subst (λ (c : Child OwnBytes). AreAlike (child_image five (start heading) (mapped_child (λ z. own_bytes z.0) (planned_alone 5 p.0))) (child_image five (start heading) c)) (sym back)
      (child_alike u32_kind u32_kind 5 u32_laws u32_laws numbers_fit (λ z. own_bytes z.0) (λ z. own_bytes z.1) (λ z. own_is z.0) (λ z. own_is z.1) (start heading) (planned_alone 5 p.0) (alone_shape p.0)))

  roots_same : unwrap_or (child_root five (start heading) (planned_alone 5 (map own_bytes xs))) 0 ≡ unwrap_or (child_root five (start heading) (planned_alone 5 (map own_bytes ys))) 0
  roots_same =
      let p = paired xs ys same in
      let front = planned_by (λ z. z.0) p.0 xs p.1 in
      let back = planned_by (λ z. z.1) p.0 ys p.2 in
      ap (λ (c : Child OwnBytes). unwrap_or (child_root five (start heading) c) 0) front
      ∙ (ap (λ (r : Option ℕ). unwrap_or r 0) (same_child_root u32_kind u32_kind 5 u32_laws u32_laws numbers_fit (λ z. own_bytes z.0) (λ z. own_bytes z.1) (λ z. own_is z.0) (λ z. own_is z.1) (start heading) (planned_alone 5 p.0))
      ∙ ap (λ (c : Child OwnBytes). unwrap_or (child_root five (start heading) c) 0) (sym back))

  map_same : root_writes heading xs ≡ root_writes heading ys
  map_same =
      ap (λ (p : ℕ). root_image (start heading + p) (unwrap_or (child_root five (start heading) (planned_alone 5 (map own_bytes xs))) 0) (length xs)) (alike_length (tree_writes heading xs) (tree_writes heading ys) trees_alike)
      ∙ (ap (λ (r : ℕ). root_image (start heading + length (appended (tree_writes heading ys))) r (length xs)) roots_same
      ∙ ap (root_image (start heading + length (appended (tree_writes heading ys))) (unwrap_or (child_root five (start heading) (planned_alone 5 (map own_bytes ys))) 0)) same)

  archive_alike : AreAlike (tree_writes heading xs ++ root_writes heading xs) (tree_writes heading ys ++ root_writes heading ys)
  archive_alike = alike_both (tree_writes heading xs) (tree_writes heading ys) (root_writes heading xs) (root_writes heading ys) trees_alike (subst (AreAlike (root_writes heading xs)) map_same (alike_same (root_writes heading xs)))

  pub archive_as_long : length (archive_of heading xs) ≡ length (archive_of heading ys)
  archive_as_long =
      let first = prefix numbers_name heading in
      omega (
        arith,
        length-append first (appended (tree_writes heading xs ++ root_writes heading xs)),
        length-append first (appended (tree_writes heading ys ++ root_writes heading ys)),
        alike_length (tree_writes heading xs ++ root_writes heading xs) (tree_writes heading ys ++ root_writes heading ys) archive_alike,
      )

  pub archive_reaches : AllReach (tree_writes heading xs ++ root_writes heading xs) → AllReach (tree_writes heading ys ++ root_writes heading ys)
  archive_reaches = alike_reach (tree_writes heading xs ++ root_writes heading xs) (tree_writes heading ys ++ root_writes heading ys) archive_alike

  pub has_alike : HasArchive heading xs → HasArchive heading ys
  has_alike h = record { count = omega (arith, h.count, same); end = omega (arith, h.end, archive_as_long); reach = archive_reaches h.reach }

module _ {I S : Type 0} (heading : Heading) (shown : I → ℕ × ℕ) (steps : S → Option I → S → Type 0) (entries : List (ℕ × ℕ)) where
  -- writing the tree of as many entries was stopped
  abbrev Given : {X : Type 0} → S → Writing → Fault X → Writing → Type 0
  Given {X} iter from fault t = StoppedBuilding u32_kind u32_kind 5 numbers numbers shown steps {X = X} iter (length entries) from fault t

  stopped_tree : {X : Type 0} (iter : S) (from : Writing) (fault : Fault X) (t : Writing) → from ≡ before heading → (h : Given iter from fault t) → Stopped (before heading) (tree_writes heading h.entries) fault t
  stopped_tree iter from fault t starts h =
      let tree = planned_alone 5 h.entries in
      let stopped = child_stopped u32_kind u32_kind 5 u32_laws u32_laws numbers_fit (λ x. x) (λ x. x) (λ x. x < 2 ^ 32) (λ x. x < 2 ^ 32) (to_le_bytes w32) (to_le_bytes w32) u32_faithful.is_own u32_faithful.is_own (before heading) tree fault t (alone_shape h.entries)
      (subst (λ (s : Writing). ChildStopped five numbers numbers s tree fault t) starts (h.stopped h.entries h.claimed)) in
      subst (λ (c : Child OwnBytes). Stopped (before heading) (child_image five (start heading) c) fault t) (sym (alone_mapped own_bytes 5 h.entries)) stopped

  unbuilt_past : {X : Type 0} (xs : List (ℕ × ℕ)) (t : Writing) → length xs ≡ length entries → Stopped {E = X} (before heading) (tree_writes heading xs) PositionOverflow t → last_end < length (archive_of heading entries)
  unbuilt_past xs t same h =
      omega (
        arith,
        stopped_past (before heading) (tree_writes heading xs) t h,
        alike_length (tree_writes heading xs) (tree_writes heading entries) (trees_alike heading xs entries same),
        length-append (prefix numbers_name heading) (appended (tree_writes heading entries ++ root_writes heading entries)),
        ap length (appended-append (tree_writes heading entries) (root_writes heading entries)),
        length-append (appended (tree_writes heading entries)) (appended (root_writes heading entries)),
      )

  pub unbuilt : {X : Type 0} (iter : S) (from : Writing) (fault : Fault X) (t : Writing) → from ≡ before heading → ((items : List I) → Drains steps iter items → length items ≡ length entries) → BuildFault u32_kind u32_kind 5 numbers numbers shown steps iter (length entries) from fault t → IsUnbuilt heading entries fault
  unbuilt iter from LengthOverflow t starts counts (inl h) = h.0
  unbuilt {X} iter from LengthOverflow t starts counts (inr h) = absurd (stopped_tree {X = X} iter from LengthOverflow t starts h).refused
  unbuilt {X} iter from PositionOverflow t starts counts h = unbuilt_past {X = X} h.entries t h.claimed.count (stopped_tree {X = X} iter from PositionOverflow t starts h)
  unbuilt {X} iter from OffsetOverflow t starts counts h = λ all.
      stopped_stray {E = X} (before heading) (tree_writes heading h.entries) t (stopped_tree {X = X} iter from OffsetOverflow t starts h)
      (alike_reach (tree_writes heading entries) (tree_writes heading h.entries) (trees_alike heading entries h.entries (sym h.claimed.count)) (reach_front (tree_writes heading entries) (root_writes heading entries) all))
  unbuilt iter from (Writer error) t starts counts h = tt
  unbuilt iter from (Memory error) t starts counts h = tt
  unbuilt iter from (Length mismatch) t starts counts h = absurd (h.differs (counts h.items h.all))
  unbuilt {X} iter from (Entry fault) t starts counts h = absurd (stopped_tree {X = X} iter from (Entry fault) t starts h).refused
  unbuilt iter from (OutOfOrder index) t starts counts h = absurd h

-- neither is the map written
module _ (heading : Heading) (entries : List (ℕ × ℕ)) (root : ℕ) (s : Writing) (tree : TreeIs heading entries root s) where
  stopped_root : {X : Type 0} (fault : Fault X) (t : Writing) → Stopped s (root_image (position s) root (length entries)) fault t → Stopped s (root_writes heading entries) fault t
  stopped_root fault t h = subst (λ ws. Stopped s ws fault t) (roots_are heading entries root s tree) h

  unbuilt_root_past : {X : Type 0} (t : Writing) → Stopped {E = X} s (root_writes heading entries) PositionOverflow t → last_end < length (archive_of heading entries)
  unbuilt_root_past t h =
      omega (
        arith,
        stopped_past s (root_writes heading entries) t h,
        ap length tree.wrote.done.contents,
        length-append (prefix numbers_name heading) (appended (tree_writes heading entries)),
        length-append (prefix numbers_name heading) (appended (tree_writes heading entries ++ root_writes heading entries)),
        tree.wrote.done.base,
        ap length (appended-append (tree_writes heading entries) (root_writes heading entries)),
        length-append (appended (tree_writes heading entries)) (appended (root_writes heading entries)),
      )

  pub unbuilt_root : {X : Type 0} (fault : Fault X) (t : Writing) → RootFault root (length entries) s fault t → IsUnbuilt heading entries fault
  unbuilt_root LengthOverflow t h = h.0
  unbuilt_root {X} PositionOverflow t h = unbuilt_root_past t (stopped_root {X = X} PositionOverflow t h)
  unbuilt_root {X} OffsetOverflow t h = λ all. stopped_stray s (root_writes heading entries) t (stopped_root {X = X} OffsetOverflow t h) (reach_back (tree_writes heading entries) (root_writes heading entries) all)
  unbuilt_root (Writer error) t h = tt
  unbuilt_root (Memory error) t h = absurd h
  unbuilt_root (Length mismatch) t h = absurd h
  unbuilt_root (Entry fault) t h = absurd h
  unbuilt_root (OutOfOrder index) t h = absurd h

-- what is built and written is accepted
pub archive_accepted : (entries : List (ℕ × ℕ)) (items : List (ℕ × ℕ)) (root : ℕ) (from s t : Writing) → from.base ≡ 0 → s.base ≡ 0 → map lends items ≡ entries → length items ≤ last_end →
    (0 < length items → Spelled u32_kind u32_kind 5 from (map (meaning_of u32_kind u32_kind numbers numbers lends (itself u32_kind) (itself u32_kind)) items) root s) → Wrote s (root_image (position s) root (length entries)) t → position t ≤ last_end → IsArchive t.contents entries
archive_accepted entries items root from s t based zero are few spelled wrote end =
    let count : length items ≡ length entries = sym (length-map items lends) ∙ ap length are in
    let accepted = accepted_archive u32_kind u32_kind 5 u32_laws u32_laws from s t entries root based zero
    (λ some. subst (λ (m : List (ℕ × ℕ)). Spelled u32_kind u32_kind 5 from m root s) are (spelled (omega arith))) (omega arith) wrote end in
    let at : round_up (position s) 4 ≡ root_of t.contents = omega (arith, archive_length s t root (length entries) zero wrote) in
    subst (λ (p : ℕ). (left : ℕ) × Accepted u32_kind u32_kind 5 t.contents 0 p p left entries) at accepted
