-- What `migrate` makes of an archive: the archive of its last values.
use Rattle.std.proofs.Common.{◌≡◌, ℕ, List, [], ◌∷◌, length, map, Ok, Err, Result, inl, inr, refl, sym, ap, subst, ◌∙◌, arith}
use Rattle.std.proofs.lemmas.List.{length-map}
use Rattle.std.specs.Map.Iter.{TakesFirst, deref_pair}
use Rattle.std.specs.Ordering.{nat_cmp}
use Rattle.std.specs.Result.{result_map_both}
use Rattle.rkyv_btree_writer.specs.Archiving.{itself}
use Rattle.rkyv_btree_writer.specs.declared.fault.EntryFault.{EntryFault}
use Rattle.rkyv_btree_writing_laws.specs.Entries.{now_of}
use Rattle.rkyv_btree_writer.specs.declared.fault.Fault.{Fault}
use Rattle.rkyv_btree_writer.specs.declared.fault.Fault.TheVariants.{Length, LengthOverflow, PositionOverflow, OffsetOverflow, Writer, Memory, Entry, OutOfOrder}
use Rattle.rkyv_btree_portable.specs.Scalars.{u32_kind}
use Rattle.rkyv_btree_format.specs.Spells.{Accepted}
use Rattle.rkyv_btree_writer.specs.Writing.{Writing}
use Rattle.rkyv_btree_writing_laws.proofs.Accepting.{archive_length}
use Rattle.rkyv_btree_writing_laws.proofs.TreeSerialised.{entries_drained}
use Rattle.rkyv_btree_convert.specs.Deserializing.{both, all}
use Rattle.rkyv_btree_convert.specs.Maps.{last_wins, map_given, model_both}
use Rattle.rkyv_btree_strict.specs.Migrated.{AreNative, Migrates, MigratesToStrict, IsUnmade, FailsToMigrate}
use Rattle.btreearc_lines.specs.declared.heading.Heading.{Heading}
use Rattle.btreearc_commands.specs.Archive.{archive_of, HasArchive, IsUnbuilt}
use Rattle.btreearc_commands.specs.Commands.{last_values}
use Rattle.btreearc_commands.specs.Opening.{IsArchive, root_of}
use Rattle.btreearc_commands.proofs.Built.{before, numbers, tree_of, archive_written, has_archive, unbuilt, unbuilt_root}

-- numbers are ended as they are
model_same : (entries : List (ℕ × ℕ)) → model_both (λ n. n) (λ n. n) entries ≡ entries
model_same [] = refl
model_same (e ∷ entries) = ap (λ es. e ∷ es) (model_same entries)

all_given : (entries : List (ℕ × ℕ)) → all {F = EntryFault} (map (λ e. both (Ok e.0) (Ok e.1)) entries) ≡ Ok entries
all_given [] = refl
all_given (e ∷ entries) = ap (λ r. result_map_both (λ p. p.0 ∷ p.1) (λ fault. fault) (both (Ok e) r)) (all_given entries)

-- so the native map has the last values
pub given_last : (entries : List (ℕ × ℕ)) → map_given nat_cmp (map (λ e. both (Ok e.0) (Ok e.1)) entries) ≡ Ok (last_values entries)
given_last entries = ap (result_map_both (last_wins nat_cmp) (λ fault. fault)) (all_given entries)

ok_same : {X F : Type 0} (x y : X) (r : Result X F) → r ≡ Ok x → r ≡ Ok y → x ≡ y
ok_same x y r a b = cc

module _ (heading : Heading) (native : Result (List (ℕ × ℕ)) EntryFault) (last : List (ℕ × ℕ)) (is : native ≡ Ok last) where
  abbrev Native : List (ℕ × ℕ) → Type 0
  Native = AreNative nat_cmp u32_kind u32_kind numbers numbers (model_both (λ n. n) (λ n. n)) native

  native_last : (entries : List (ℕ × ℕ)) → Native entries → entries ≡ last
  native_last entries are = sym (model_same entries) ∙ ok_same (model_both (λ n. n) (λ n. n) entries) last native are.made is

  -- the archive that is written
  pub renewed : (from : Writing) (at : ℕ) (to : Writing) → from ≡ before heading → Migrates nat_cmp u32_kind u32_kind numbers numbers (model_both (λ n. n) (λ n. n)) native from at to → to.contents ≡ archive_of heading last
  renewed from at to starts m =
      let tree = tree_of heading m.entries m.root from m.mid starts m.built in
      archive_written heading m.entries m.root m.mid to tree m.wrote ∙ ap (archive_of heading) (native_last m.entries m.are)

  pub renewed_fits : (from : Writing) (at : ℕ) (to : Writing) → from ≡ before heading → Migrates nat_cmp u32_kind u32_kind numbers numbers (model_both (λ n. n) (λ n. n)) native from at to → HasArchive heading last
  renewed_fits from at to starts m =
      subst (HasArchive heading) (native_last m.entries m.are) (has_archive heading m.entries m.root m.mid to (tree_of heading m.entries m.root from m.mid starts m.built) m.few m.wrote m.end)

  -- which is accepted
  pub renewed_accepted : (from : Writing) (at : ℕ) (to : Writing) → from ≡ before heading → Migrates nat_cmp u32_kind u32_kind numbers numbers (model_both (λ n. n) (λ n. n)) native from at to
      → MigratesToStrict nat_cmp u32_kind u32_kind numbers numbers (model_both (λ n. n) (λ n. n)) native from at to → IsArchive to.contents last
  renewed_accepted from at to starts m strict =
      let s = strict (itself u32_kind) (itself u32_kind) (λ x y. refl) [] (sym (ap (λ w. w.base) starts)) in
      let tree = tree_of heading m.entries m.root from m.mid starts m.built in
      let here : at ≡ root_of to.contents = m.place ∙ omega (arith, archive_length m.mid to m.root (length m.entries) tree.wrote.done.base m.wrote) in
      let same : map (λ x. (x.0, x.1)) s.0 ≡ last = model_same s.0 ∙ native_last s.0 s.1 in
      subst (λ (p : ℕ). (left : ℕ) × Accepted u32_kind u32_kind 5 to.contents 0 p p left last) here
      (subst (λ (m : List (ℕ × ℕ)). (left : ℕ) × Accepted u32_kind u32_kind 5 to.contents 0 at at left m) same s.2.map)

  no_error : (fault : EntryFault) → native ≡ Err fault → ⊥
  no_error fault e = cc

  unmade : {X : Type 0} (fault : Fault X) → IsUnmade nat_cmp u32_kind u32_kind numbers numbers (model_both (λ n. n) (λ n. n)) native fault → IsUnbuilt heading last fault
  unmade (Entry fault) h = absurd (no_error fault h)
  unmade (Memory error) h = tt
  unmade (Length m) h = absurd h
  unmade LengthOverflow h = absurd h
  unmade PositionOverflow h = absurd h
  unmade OffsetOverflow h = absurd h
  unmade (Writer error) h = absurd h
  unmade (OutOfOrder index) h = absurd h

  -- why it isn't
  pub unrenewed : {X : Type 0} (from : Writing) (fault : Fault X) (to : Writing) → from ≡ before heading → FailsToMigrate nat_cmp u32_kind u32_kind numbers numbers (model_both (λ n. n) (λ n. n)) native from fault to → IsUnbuilt heading last fault
  unrenewed from fault to starts (inl (h, same)) = unmade fault h
  unrenewed {X} from fault to starts (inr (entries, are, inl h)) =
      subst (λ (es : List (ℕ × ℕ)). IsUnbuilt heading es fault) (native_last entries are)
      (unbuilt heading now_of (TakesFirst deref_pair) entries {X = X} entries from fault to starts (λ items drains. sym (length-map items now_of) ∙ ap length (entries_drained entries items drains)) h)
  unrenewed from fault to starts (inr (entries, are, inr (root, mid, built, failed))) =
      subst (λ (es : List (ℕ × ℕ)). IsUnbuilt heading es fault) (native_last entries are) (unbuilt_root heading entries root mid (tree_of heading entries root from mid starts built) fault to failed)
