-- What is built of the entries of lines, or of so many entries.
use Rattle.std.proofs.Common.{◌≡◌, ℕ, ◌≤◌, List, [], ◌∷◌, length, map, Option, sym, ap, subst, ◌∙◌, arith}
use Rattle.std.proofs.lemmas.List.{length-map}
use Rattle.std.specs.Iterator.{Drains}
use Rattle.rkyv_btree_writer.specs.declared.fault.Fault.{Fault}
use Rattle.rkyv_btree_portable.specs.Scalars.{u32_kind}
use Rattle.rkyv_btree_writer.specs.declared.fault.Fault.TheVariants.{Length, LengthOverflow, PositionOverflow, OffsetOverflow, Writer, Memory, Entry, OutOfOrder}
use Rattle.rkyv_btree_writing_laws.specs.Serialising.{BuildFault, RootFault, Serialised}
use Rattle.rkyv_btree_writer.specs.Archiving.{itself}
use Rattle.rkyv_btree_archive.specs.TryBuilding.{TryFaulted}
use Rattle.btreearc_lines.specs.Headings.{IsNamed}
use Rattle.btreearc_lines.specs.declared.heading.Heading.{Heading}
use Rattle.btreearc_commands.specs.Opening.{numbers_name}
use Rattle.btreearc_commands.proofs.Starts.{headed_archive}
use Rattle.rkyv_btree_writing_laws.specs.Image.{root_image}
use Rattle.rkyv_btree_writer.specs.Writing.{Writing, position, Wrote, last_end}
use Rattle.rkyv_btree_archive.specs.declared.try_build.TryFault.{TryFault}
use Rattle.rkyv_btree_archive.specs.declared.try_build.TryFault.TheVariants.{Item, Build}
use Rattle.btreearc_lines.specs.Grammar.{IsEntry}
use Rattle.btreearc_lines.specs.Reading.{GivesItem}
use Rattle.btreearc_lines.specs.declared.fault.ProgramFault.{ProgramFault}
use Rattle.btreearc_lines.proofs.Once.{entry-once}
use Rattle.btreearc_lines.proofs.Taken.{Left, Steps, drained}
use Rattle.btreearc_commands.specs.Archive.{HasArchive, IsArchived, IsUnbuilt}
use Rattle.btreearc_commands.specs.Streaming.{CountsDown, IsTried}
use Rattle.btreearc_commands.proofs.Built.{before, TreeIs, archive_accepted, archive_as_long, archive_reaches, archive_written, has_alike, has_archive, lends, lent_same, numbers, tree_of, unbuilt, unbuilt_root}

-- Lines.

module _ {S : Type 0} (left : S → ℕ) (known : S → Option (List ℕ)) (iter : S) (entries : List (ℕ × ℕ)) (is : Left IsEntry entry-once left known iter entries) (heading : Heading) (from : Writing) (starts : from ≡ before heading) (named : IsNamed numbers_name heading) (count : ℕ) (number : count ≡ length entries) where
  abbrev pub AllSteps : S → Option (ℕ × ℕ) → S → Type 0
  AllSteps = Steps IsEntry entry-once left known

  given : (items : List (ℕ × ℕ)) → Drains AllSteps iter items → map lends items ≡ entries
  given items all = ap (map lends) (drained IsEntry entry-once left known iter items entries is all) ∙ lent_same entries

  counts : (items : List (ℕ × ℕ)) → Drains AllSteps iter items → length items ≡ length entries
  counts items all = ap length (drained IsEntry entry-once left known iter items entries is all)

  -- the tree of the lines' entries
  pub tree_of_lines : (root : ℕ) (s : Writing) → Serialised u32_kind u32_kind 5 numbers numbers lends AllSteps iter count from root s → TreeIs heading entries root s
  tree_of_lines root s made = subst (λ (es : List (ℕ × ℕ)). TreeIs heading es root s) (given made.items made.all) (tree_of heading (map lends made.items) root from s starts made.built)

  -- and with the map their archive
  pub archived_lines : (root : ℕ) (s t : Writing) → Serialised u32_kind u32_kind 5 numbers numbers lends AllSteps iter count from root s → count ≤ last_end → Wrote s (root_image (position s) root count) t → position t ≤ last_end → IsArchived heading t.contents entries
  archived_lines root s t made few wrote end =
      let tree = tree_of_lines root s made in
      let fewer : length entries ≤ last_end = subst (λ (n : ℕ). n ≤ last_end) number few in
      let map_wrote : Wrote s (root_image (position s) root (length entries)) t = subst (λ (n : ℕ). Wrote s (root_image (position s) root n) t) number wrote in
      record {
        exact = archive_written heading entries root s t tree map_wrote;
        fits = has_archive heading entries root s t tree fewer map_wrote end;
        headed = headed_archive heading entries t.contents named (archive_written heading entries root s t tree map_wrote);
        accepted = archive_accepted entries made.items root from s t (ap (λ w. w.base) starts) tree.wrote.done.base (given made.items made.all) (omega (arith, made.count, few))
            (λ some. made.spelled (omega (arith, made.count, some)) (itself u32_kind) (itself u32_kind)) map_wrote end;
      }

  -- or why not
  pub untried : {E : Type 0} (fault : TryFault E ProgramFault) (t : Writing) → TryFaulted u32_kind u32_kind 5 numbers numbers lends (GivesItem IsEntry left known) iter count from t fault → IsTried heading entries fault
  untried (Item fault) t h = h.met
  untried {E} (Build fault) t h = unbuilt heading lends AllSteps entries {X = E} iter from fault t starts counts (subst (λ (n : ℕ). BuildFault u32_kind u32_kind 5 numbers numbers lends AllSteps iter n from fault t) number h)

  pub unrooted : {E : Type 0} (root : ℕ) (s : Writing) (fault : Fault E) (t : Writing) → Serialised u32_kind u32_kind 5 numbers numbers lends AllSteps iter count from root s → RootFault root count s fault t → IsUnbuilt heading entries fault
  unrooted root s fault t made h = unbuilt_root heading entries root s (tree_of_lines root s made) fault t (subst (λ (n : ℕ). RootFault root n s fault t) number h)

-- So many entries, of which others are archived that are as many.

-- an iterator that counts down gives as many items
pub counted_down : {I S : Type 0} (left : S → ℕ) (s : S) (items : List I) → Drains (CountsDown left) s items → length items ≡ left s
counted_down left s [] d = sym (ap left d.1.1 ∙ d.1.2)
counted_down left s (x ∷ items) d = omega (arith, counted_down left d.1.1.0 items (d.0, (d.1.0, d.1.1.2, d.1.2)), d.1.1.1)

unbuilt_alike : {E : Type 0} (heading : Heading) (xs ys : List (ℕ × ℕ)) → length xs ≡ length ys → (fault : Fault E) → IsUnbuilt heading xs fault → IsUnbuilt heading ys fault
unbuilt_alike heading xs ys same LengthOverflow h = omega (arith, h, same)
unbuilt_alike heading xs ys same PositionOverflow h = omega (arith, h, archive_as_long heading xs ys same)
unbuilt_alike heading xs ys same OffsetOverflow h = λ all. h (archive_reaches heading ys xs (sym same) all)
unbuilt_alike heading xs ys same (Writer error) h = tt
unbuilt_alike heading xs ys same (Memory error) h = tt
unbuilt_alike heading xs ys same (Length m) h = absurd h
unbuilt_alike heading xs ys same (Entry fault) h = absurd h
unbuilt_alike heading xs ys same (OutOfOrder index) h = absurd h

module _ {S : Type 0} (steps : S → Option (ℕ × ℕ) → S → Type 0) (iter : S) (heading : Heading) (from : Writing) (starts : from ≡ before heading) (count : ℕ) where
  abbrev Made : ℕ → Writing → Type 0
  Made root s = Serialised u32_kind u32_kind 5 numbers numbers lends steps iter count from root s

  as_many : (root : ℕ) (s : Writing) → (made : Made root s) → count ≡ length (map lends made.items)
  as_many root s made = sym made.count ∙ sym (length-map made.items lends)

  pub counted_fits : (root : ℕ) (s t : Writing) → Made root s → count ≤ last_end → Wrote s (root_image (position s) root count) t → position t ≤ last_end → (entries : List (ℕ × ℕ)) → count ≡ length entries → HasArchive heading entries
  counted_fits root s t made few wrote end entries number =
      let zeros = map lends made.items in
      let n : count ≡ length zeros = as_many root s made in
      has_alike heading zeros entries (sym n ∙ number)
      (has_archive heading zeros root s t (tree_of heading zeros root from s starts made.built) (subst (λ (k : ℕ). k ≤ last_end) n few) (subst (λ (k : ℕ). Wrote s (root_image (position s) root k) t) n wrote) end)

  pub counted_unbuilt : {E : Type 0} → ((items : List (ℕ × ℕ)) → Drains steps iter items → length items ≡ count) → (fault : Fault E) (t : Writing) → BuildFault u32_kind u32_kind 5 numbers numbers lends steps iter count from fault t → (entries : List (ℕ × ℕ)) → count ≡ length entries → IsUnbuilt heading entries fault
  counted_unbuilt {E} counts fault t h entries number =
      unbuilt heading lends steps entries {X = E} iter from fault t starts (λ items all. counts items all ∙ number) (subst (λ (n : ℕ). BuildFault u32_kind u32_kind 5 numbers numbers lends steps iter n from fault t) number h)

  pub counted_unrooted : {E : Type 0} (root : ℕ) (s : Writing) (fault : Fault E) (t : Writing) → Made root s → RootFault root count s fault t → (entries : List (ℕ × ℕ)) → count ≡ length entries → IsUnbuilt heading entries fault
  counted_unrooted root s fault t made h entries number =
      let zeros = map lends made.items in
      let n : count ≡ length zeros = as_many root s made in
      unbuilt_alike heading zeros entries (sym n ∙ number) fault (unbuilt_root heading zeros root s (tree_of heading zeros root from s starts made.built) fault t (subst (λ (k : ℕ). RootFault root k s fault t) n h))
