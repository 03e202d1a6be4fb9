-- What migration leaves, from what deserializing and building leave.
use Rattle.std.proofs.Common.{◌≡◌, ℕ, ◌≤◌, List, ◌++◌, length, map, Result, Ok, Err, IfOk, IfErr, inl, inr, sym, ap, subst, ◌∙◌, append_assoc}
use Rattle.std.specs.Map.Iter.{TakesFirst, deref_pair}
use Rattle.std.specs.declared.cmp.Ordering.{Ordering}
use Rattle.rkyv_btree_writing_laws.specs.Archives.{HoldsArchive}
use Rattle.rkyv_btree_writer.specs.Archiving.{Archival, BeginsWith}
use Rattle.rkyv_btree_writing_laws.specs.Building.{IsRootUnwritten, IsRootWritten}
use Rattle.rkyv_btree_writer.specs.declared.fault.EntryFault.{EntryFault}
use Rattle.rkyv_btree_writing_laws.specs.Entries.{now_of}
use Rattle.rkyv_btree_writer.specs.declared.fault.Fault.{Fault}
use Rattle.rkyv_btree_writing_laws.specs.Image.{root_image}
use Rattle.rkyv_btree_writing_laws.specs.Kept.{OnlyAppended}
use Rattle.rkyv_btree_portable.specs.Kind.{Kind}
use Rattle.rkyv_btree_format.specs.Layout.{layout_of}
use Rattle.rkyv_btree_writing_laws.specs.Serialising.{Built, Serialised, BuildFault, RootFault}
use Rattle.rkyv_btree_writing_laws.specs.SmallestMaps.{IsSmallestArchive}
use Rattle.rkyv_btree_writer.specs.Writing.{Writing, position, Wrote, last_end}
use Rattle.rkyv_btree_writing_laws.proofs.Accepting.{written_is_held_after}
use Rattle.rkyv_btree_writing_laws.proofs.TreeSerialised.{entries_drained}
use Rattle.rkyv_btree_convert.proofs.StdMaps.{ascending_meant}
use Rattle.rkyv_btree_strict.specs.Migrated.{AreNative, Migrates, MigratesToStrict, FailsToMigrate}

-- what was appended, and then more
pub then_appended : (s m t : Writing) → OnlyAppended s m → OnlyAppended m t → OnlyAppended s t
then_appended s m t (first, a) (second, b) = (
  first ++ second,
  record {
    base = b.base ∙ a.base;
    contents = b.contents ∙ (ap (λ zs. zs ++ second) a.contents ∙ append_assoc s.contents first second);
    failures = b.failures ∙ a.failures;
  },
)

pub then_begins : (s m t : Writing) → OnlyAppended s m → BeginsWith t m → BeginsWith t s
then_begins s m t (first, a) (base, (second, contents)) = (base ∙ a.base, (first ++ second, contents ∙ (ap (λ zs. zs ++ second) a.contents ∙ append_assoc s.contents first second)))

module _ {T U A B R S : Type 0} (cmp : T → T → Ordering) (K V : Kind) (KA : Archival T R) (VA : Archival U S) (model : List (T × U) → List (A × B)) (native : Result (List (A × B)) EntryFault) where
  module _ (entries : List (T × U)) (are : AreNative cmp K V KA VA model native entries) (claim : ℕ) (count : claim ≡ length entries) (from : Writing) where
    built_of : (root : ℕ) (mid : Writing) → Serialised K V 5 KA VA now_of (TakesFirst deref_pair) entries claim from root mid → Built (layout_of K V 5) KA VA from entries root mid
    built_of root mid h = subst (λ (xs : List (T × U)). Built (layout_of K V 5) KA VA from xs root mid) (entries_drained entries h.items h.all) h.built

    smallest_of : (root : ℕ) (mid : Writing) → (h : Serialised K V 5 KA VA now_of (TakesFirst deref_pair) entries claim from root mid) → IsSmallestArchive K V 5 KA VA from (map now_of h.items) root mid → IsSmallestArchive K V 5 KA VA from entries root mid
    smallest_of root mid h smallest = subst (λ (xs : List (T × U)). IsSmallestArchive K V 5 KA VA from xs root mid) (entries_drained entries h.items h.all) smallest

    migrated : {X : Type 0} (root : ℕ) (mid to : Writing) (result : Result ℕ (Fault X)) → Serialised K V 5 KA VA now_of (TakesFirst deref_pair) entries claim from root mid → IsSmallestArchive K V 5 KA VA from entries root mid → OnlyAppended from mid
        → IfOk result (IsRootWritten claim root mid to) → IfOk result (λ at. Migrates cmp K V KA VA model native from at to)
    migrated root mid to (Err fault) h smallest went done = tt
    migrated root mid to (Ok pos) h smallest went done = record {
      entries = entries;
      are = are;
      root = root;
      mid = mid;
      built = built_of root mid h;
      smallest = smallest;
      went = went;
      wrote = subst (λ n. Wrote mid (root_image (position mid) root n) to) count done.wrote;
      place = done.pos;
      few = subst (λ n. n ≤ last_end) count done.len;
      end = done.last;
    }

    pub migrated_by : {X : Type 0} (iter : List (T × U)) → iter ≡ entries → (root : ℕ) (mid to : Writing) (result : Result ℕ (Fault X))
        → (h : Serialised K V 5 KA VA now_of (TakesFirst deref_pair) iter claim from root mid) × IsSmallestArchive K V 5 KA VA from (map now_of h.items) root mid → OnlyAppended from mid
        → IfOk result (IsRootWritten claim root mid to) → IfOk result (λ at. Migrates cmp K V KA VA model native from at to)
    migrated_by iter same root mid to result both went done =
        let b = subst (λ (it : List (T × U)). (h : Serialised K V 5 KA VA now_of (TakesFirst deref_pair) it claim from root mid) × IsSmallestArchive K V 5 KA VA from (map now_of h.items) root mid) same both in
        migrated root mid to result b.0 (smallest_of root mid b.0 b.1) went done

    pub unbuilt : {X : Type 0} (fault : Fault X) (to : Writing) → BuildFault K V 5 KA VA now_of (TakesFirst deref_pair) {X = X} entries claim from fault to → FailsToMigrate cmp K V KA VA model native from fault to
    unbuilt {X} fault to h = inr (entries, are, inl (subst (λ n. BuildFault K V 5 KA VA now_of (TakesFirst deref_pair) {X = X} entries n from fault to) count h))

    pub unrooted : {X : Type 0} (root : ℕ) (mid to : Writing) (result : Result ℕ (Fault X)) → Serialised K V 5 KA VA now_of (TakesFirst deref_pair) entries claim from root mid → IfErr result (IsRootUnwritten claim root mid to)
        → IfErr result (λ fault. FailsToMigrate cmp K V KA VA model native from fault to)
    unrooted root mid to (Ok at) h failed = tt
    unrooted root mid to (Err fault) h failed = inr (entries, are, inr (root, mid, built_of root mid h, subst (λ n. RootFault root n mid fault to) count failed.cause))

  -- what the writer holds then, at its positions
  pub strict_of : (from : Writing) (at : ℕ) (to : Writing) → Migrates cmp K V KA VA model native from at to → MigratesToStrict cmp K V KA VA model native from at to
  strict_of from at to m key value alike front base =
      let b = front ++ to.contents in
      let holds : HoldsArchive b from m.mid m.root at (length m.entries) =
      subst (λ p. HoldsArchive b from m.mid m.root p (length m.entries)) (sym m.place) (written_is_held_after front from m.mid to m.root (length m.entries) base m.went m.wrote m.end) in
      let is = m.smallest key value b at holds in (
        m.entries,
        m.are,
        record {
          map = (is.0, is.1);
          increasing = ascending_meant cmp K.order (λ x. key.to (KA.meaning x)) (λ x. value.to (VA.meaning x)) alike m.entries m.are.increase;
        },
      )
