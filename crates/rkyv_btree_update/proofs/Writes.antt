-- What the writing of a merge leaves, from what building leaves.
use Rattle.std.proofs.Common.{◌≡◌, ℕ, ◌<◌, ◌≤◌, List, [], ◌∷◌, ◌++◌, length, map, Option, Result, Ok, Err, IfOk, IfErr, OnOk, inl, inr, refl, sym, ap, subst, ◌∙◌, append-nil}
use Rattle.std.specs.Iterator.{Yields, Drains, YieldsFirst}
use Rattle.std.specs.declared.cmp.Ordering.{Ordering}
use Rattle.rkyv_btree_writing_laws.specs.Archives.{HoldsArchive}
use Rattle.rkyv_btree_writing_laws.specs.Building.{IsRootUnwritten}
use Rattle.rkyv_btree_writer.specs.Archiving.{Archival, Matches}
use Rattle.rkyv_btree_writing_laws.specs.Entries.{both_borrowed}
use Rattle.rkyv_btree_writer.specs.declared.fault.Fault.{Fault}
use Rattle.rkyv_btree_writer.specs.declared.fault.Fault.TheVariants.{Length, LengthOverflow, PositionOverflow, OffsetOverflow, Writer, Memory, Entry, OutOfOrder}
use Rattle.rkyv_btree_writing_laws.specs.Image.{root_image}
use Rattle.rkyv_btree_format.specs.Increasing.{Increasing}
use Rattle.rkyv_btree_writing_laws.specs.Kept.{OnlyAppended}
use Rattle.rkyv_btree_portable.specs.Kind.{Kind}
use Rattle.rkyv_btree_format.specs.Layout.{layout_of}
use Rattle.rkyv_btree_portable.specs.Rounding.{round_up}
use Rattle.rkyv_btree_writing_laws.specs.Serialising.{Built, Serialised, BuildFault, RootFault, StoppedBuilding}
use Rattle.rkyv_btree_writing_laws.specs.SmallestMaps.{IsSmallestArchive, IsSmallestMap, entry_value, map_at}
use Rattle.rkyv_btree_format.specs.Spells.{Accepted}
use Rattle.rkyv_btree_writer.specs.Writing.{Writing, position, Wrote, last_end}
use Rattle.rkyv_btree_writing_laws.proofs.Accepting.{written_is_held_after}
use Rattle.std.proofs.lemmas.List.{length-map}
use Rattle.std.specs.Option.{option_map}
use Rattle.rkyv_btree_update.specs.Natives.{both}
use Rattle.rkyv_btree_strict.proofs.Migrated.{then_begins}
use Rattle.rkyv_btree_update.specs.Written.{FailsToUpdate, FailsToWrite, IsNotUpdated, IsNotWritten, IsWritten, StopsWriting, WritesSmallest, too_many, no_memory, in_tree, in_map}
use Rattle.rkyv_btree_update.specs.declared.change.Change.{Change}

-- an iterator gives items that show the list which its state shows
module _ {I X S : Type 0} (f : I → X) (rest : S → List X) where
  abbrev pub Gives : S → Option I → S → Type 0
  Gives s r t = YieldsFirst rest s (option_map f r) t

  pub yielded : (s : S) (xs : List I) (t : S) → Yields Gives s xs t → rest s ≡ map f xs ++ rest t
  yielded s [] t h = ap rest h
  yielded s (x ∷ xs) t h = h.1 ∙ ap (λ zs. f x ∷ zs) (yielded h.0 xs t h.2)

  pub drained : (s : S) (xs : List I) → Drains Gives s xs → rest s ≡ map f xs
  drained s xs h = yielded s xs h.1.0 h.1.1 ∙ ap (λ zs. map f xs ++ zs) h.1.2.0 ∙ append-nil (map f xs)

itself : {X Y : Type 0} (xs : List (X × Y)) → map (both_borrowed (λ (x : X). x) (λ (y : Y). y)) xs ≡ xs
itself [] = refl
itself (x ∷ xs) = ap (λ zs. x ∷ zs) (itself xs)

module _ {X Y R S : Type 0} (K V : Kind) (E : ℕ) (KA : Archival X R) (VA : Archival Y S) where
  -- entries whose tree was written, and the map after it, are a smallest map in the writer's bytes, and a strict one
  module _ (key : Matches KA.kind K) (value : Matches VA.kind V) (entries : List (X × Y)) (m : List (K.Value × V.Value))
      (meant : map (entry_value K V E KA VA key value) entries ≡ m) (from mid to : Writing) (root : ℕ) where
    smallest_of : (at : ℕ) → IsSmallestArchive K V E KA VA from entries root mid → OnlyAppended from mid
        → at ≡ round_up (position mid) 4 → Wrote mid (root_image (position mid) root (length entries)) to → position to ≤ last_end → WritesSmallest K V E m from at to
    smallest_of at smallest went place wrote end front base =
        let b = front ++ to.contents in
        let holds : HoldsArchive b from mid root at (length entries) =
        subst (λ p. HoldsArchive b from mid root p (length entries)) (sym place) (written_is_held_after front from mid to root (length entries) base went wrote end) in
        subst (λ n. (left : ℕ) × (a : Accepted K V E b 0 at at left n) × IsSmallestMap (map_at a)) meant (smallest key value b at holds)

    pub writes_smallest : {F : Type 0} (result : Result ℕ (Fault F)) (claim : ℕ) → claim ≡ length entries → IsSmallestArchive K V E KA VA from entries root mid → OnlyAppended from mid
        → IfOk result (λ at. at ≡ round_up (position mid) 4) → OnOk result (Wrote mid (root_image (position mid) root claim) to) → OnOk result (position to ≤ last_end)
        → IfOk result (λ at. WritesSmallest K V E m from at to)
    writes_smallest (Err fault) claim count smallest went place wrote end = tt
    writes_smallest (Ok at) claim count smallest went place wrote end = smallest_of at smallest went place (subst (λ n. Wrote mid (root_image (position mid) root n) to) count wrote) end

  written_as : (m : List (K.Value × V.Value)) (from to : Writing) (at : ℕ) → Increasing K.order m → WritesSmallest K V E m from at to → IsWritten K V E m from at to
  written_as m from to at increase smallest = record { strict = λ front base. let is = smallest front base in record { map = (is.0, is.1); increasing = increase }; smallest = smallest }

  pub is_written : {F : Type 0} (result : Result ℕ (Fault F)) (m : List (K.Value × V.Value)) (from to : Writing) → Increasing K.order m → IfOk result (λ at. WritesSmallest K V E m from at to)
      → IfOk result (λ at. IsWritten K V E m from at to)
  is_written (Err fault) m from to increase smallest = tt
  is_written (Ok at) m from to increase smallest = written_as m from to at increase smallest

  -- the items that were given, and why they aren't written
  module _ {T U P : Type 0} (key : X → T) (value : Y → U) (rest : P → List (T × U)) (iter : P) (list : List (T × U)) (are : rest iter ≡ list)
      (claim : ℕ) (count : claim ≡ length list) where
    pub items_are : (items : List (X × Y)) → Drains (Gives (both key value) rest) iter items → map (both key value) items ≡ list
    items_are items all = sym (drained (both key value) rest iter items all) ∙ are

    stopped : {F : Type 0} (from : Writing) (fault : Fault F) (to : Writing) → StoppedBuilding K V E KA VA (both_borrowed (λ (x : X). x) (λ (y : Y). y)) (Gives (both key value) rest) iter claim from fault to
        → StopsWriting K V E KA VA key value list from fault to
    stopped from fault to s =
        in_tree s.items (rest s.rest) (sym are ∙ yielded (both key value) rest iter s.items s.rest s.taken)
        (λ entries others parts long. s.stopped entries (record { later = others; parts = parts ∙ ap (λ zs. zs ++ others) (sym (itself s.items)); count = long ∙ sym count }))

    pub unbuilt : {F : Type 0} (from : Writing) (fault : Fault F) (to : Writing) → BuildFault K V E KA VA (both_borrowed (λ (x : X). x) (λ (y : Y). y)) (Gives (both key value) rest) iter claim from fault to
        → FailsToWrite K V E KA VA key value list from fault to
    unbuilt from (Length m) to w = absurd (w.differs (sym (length-map w.items (both key value)) ∙ ap length (items_are w.items w.all) ∙ sym count))
    unbuilt from LengthOverflow to (inl many) = too_many refl (subst (λ n. last_end < n) count many.0) many.1
    unbuilt from LengthOverflow to (inr s) = stopped from LengthOverflow to s
    unbuilt from PositionOverflow to s = stopped from PositionOverflow to s
    unbuilt from OffsetOverflow to s = stopped from OffsetOverflow to s
    unbuilt from (Writer error) to s = stopped from (Writer error) to s
    unbuilt from (Memory error) to (inl same) = no_memory error refl same
    unbuilt from (Memory error) to (inr s) = stopped from (Memory error) to s
    unbuilt from (Entry fault) to s = stopped from (Entry fault) to s
    unbuilt from (OutOfOrder index) to none = absurd none

    -- the tree of the items
    abbrev pub Written : Writing → ℕ → Writing → Type 0
    Written from root mid = Serialised K V E KA VA (both_borrowed (λ (x : X). x) (λ (y : Y). y)) (Gives (both key value) rest) iter claim from root mid

    pub item_count : (from : Writing) (root : ℕ) (mid : Writing) (h : Written from root mid) → claim ≡ length h.items
    item_count from root mid h = sym h.count

    built_of : (from : Writing) (root : ℕ) (mid : Writing) (h : Written from root mid) → Built (layout_of K V E) KA VA from h.items root mid
    built_of from root mid h = subst (λ (xs : List (X × Y)). Built (layout_of K V E) KA VA from xs root mid) (itself h.items) h.built

    pub smallest_built : (from : Writing) (root : ℕ) (mid : Writing) → (both : (h : Written from root mid) × IsSmallestArchive K V E KA VA from (map (both_borrowed (λ (x : X). x) (λ (y : Y). y)) h.items) root mid)
        → IsSmallestArchive K V E KA VA from both.0.items root mid
    smallest_built from root mid both = subst (λ (xs : List (X × Y)). IsSmallestArchive K V E KA VA from xs root mid) (itself both.0.items) both.1

    unrooted_by : {F : Type 0} (from : Writing) (root : ℕ) (mid : Writing) (fault : Fault F) (to : Writing) (h : Written from root mid)
        → RootFault root (length list) mid fault to → FailsToWrite K V E KA VA key value list from fault to
    unrooted_by from root mid (Length m) to h none = absurd none
    unrooted_by from root mid LengthOverflow to h failed = in_map h.items (items_are h.items h.all) root mid (built_of from root mid h) failed
    unrooted_by from root mid PositionOverflow to h failed = in_map h.items (items_are h.items h.all) root mid (built_of from root mid h) failed
    unrooted_by from root mid OffsetOverflow to h failed = in_map h.items (items_are h.items h.all) root mid (built_of from root mid h) failed
    unrooted_by from root mid (Writer error) to h failed = in_map h.items (items_are h.items h.all) root mid (built_of from root mid h) failed
    unrooted_by from root mid (Memory error) to h none = absurd none
    unrooted_by from root mid (Entry fault) to h none = absurd none
    unrooted_by from root mid (OutOfOrder index) to h none = absurd none

    pub unrooted : {F : Type 0} (from : Writing) (root : ℕ) (mid to : Writing) (result : Result ℕ (Fault F)) → Written from root mid → OnlyAppended from mid
        → IfErr result (IsRootUnwritten claim root mid to) → IfErr result (λ fault. IsNotWritten K V E KA VA key value list from fault to)
    unrooted from root mid to (Ok at) h went failed = tt
    unrooted from root mid to (Err fault) h went failed = record {
      cause = unrooted_by from root mid fault to h (subst (λ n. RootFault root n mid fault to) count failed.cause);
      kept = then_begins from mid to went failed.kept;
    }

  -- an update fails where the entries after the changes aren't written
  module _ {T U : Type 0} (key : X → T) (value : Y → U) (cmp : X → X → Ordering) (changes : List (X × Change Y)) (list : List (T × U)) (from to : Writing) where
    fails_by : {F : Type 0} (fault : Fault F) → FailsToWrite K V E KA VA key value list from fault to → FailsToUpdate K V E KA VA key value cmp changes list from fault to
    fails_by (Length m) h = h
    fails_by LengthOverflow h = h
    fails_by PositionOverflow h = h
    fails_by OffsetOverflow h = h
    fails_by (Writer error) h = h
    fails_by (Memory error) h = h
    fails_by (Entry fault) h = h
    fails_by (OutOfOrder index) none = absurd none

    pub fails : {F : Type 0} (result : Result ℕ (Fault F)) → IfErr result (λ fault. IsNotWritten K V E KA VA key value list from fault to)
        → IfErr result (λ fault. IsNotUpdated K V E KA VA key value cmp changes list from fault to)
    fails (Ok at) h = tt
    fails (Err fault) h = record { cause = fails_by fault h.cause; kept = h.kept }
