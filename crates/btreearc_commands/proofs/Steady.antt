-- Archives whose keys increase are accepted as such, and stay what they are.
use Rattle.std.proofs.Common.{◌≡◌, ℕ, List, length, Option, Some, Ok, Err, sym, ap, subst, ◌∙◌, arith}
use Rattle.std.specs.Ordering.{nat_cmp}
use Rattle.std.specs.declared.alloc.AllocError.{AllocError}
use Rattle.std.proofs.lemmas.List.{append_cancel_left}
use Rattle.rkyv_btree_writer.specs.declared.fault.Fault.{Fault}
use Rattle.rkyv_btree_writer.specs.declared.fault.Fault.TheVariants.{Length, LengthOverflow, PositionOverflow, OffsetOverflow, Writer, Memory as NoRoom, Entry, OutOfOrder}
use Rattle.rkyv_btree_format.specs.Increasing.{Increasing, IsOutOfOrder}
use Rattle.rkyv_btree_portable.specs.declared.refusal.Refusal.{Refusal}
use Rattle.rkyv_btree_strict.specs.Strict.{no_map, out_of_order}
use Rattle.btreearc_lines.specs.declared.heading.Heading.{Heading}
use Rattle.btreearc_commands.specs.Archive.{archive_of, HasArchive, IsArchived, IsUnbuilt}
use Rattle.btreearc_commands.proofs.Starts.{one_heading}
use Rattle.btreearc_commands.specs.Commands.{ChecksStrict, Migrates, last_values, total}
use Rattle.btreearc_commands.specs.Opening.{IsArchive, IsInput, RefusesArchive, RefusesStrictArchive}
use Rattle.btreearc_commands.specs.Sessions.{IsBuiltStrict, IsMigratedTo, Writes, AlwaysPrints, KeysIncrease}
use Rattle.btreearc_lines.specs.declared.fault.ProgramFault.TheVariants.{Usage, Line, Refused, Misheaded, NotBuilt, InputFailed, OutputFailed, Memory}
use Rattle.btreearc_lines.proofs.Once.{entries-once}
use Rattle.btreearc_lines.specs.Grammar.{lines}

-- what is known of archives: one has one list, and none that is refused
module _ (one_list : (b : List ℕ) (xs ys : List (ℕ × ℕ)) → IsArchive b xs → IsArchive b ys → xs ≡ ys)
    (unrefused : (b : List ℕ) (refusal : Refusal) (xs : List (ℕ × ℕ)) → RefusesArchive b refusal → IsArchive b xs → ⊥)
    (never_both : (m : List (ℕ × ℕ)) (index : ℕ) → Increasing nat_cmp m → IsOutOfOrder nat_cmp m index → ⊥) where
  accepted : (b : List ℕ) (entries : List (ℕ × ℕ)) → IsArchive b entries → KeysIncrease entries → (refusal : Refusal) → RefusesStrictArchive b refusal → ⊥
  accepted b entries is rise refusal (no_map h) = unrefused b refusal entries h is
  accepted b entries is rise refusal (out_of_order {left} {index} m there out) = never_both entries index rise (subst (λ (xs : List (ℕ × ℕ)). IsOutOfOrder nat_cmp xs index) (one_list b m entries (left, there) is) out)

  pub checked : (b : List ℕ) (entries : List (ℕ × ℕ)) → IsInput b entries → KeysIncrease entries → AlwaysPrints (ChecksStrict (Some b)) (total (length entries)) 0
  checked b entries is rise old new (Ok status) h = (h.0, (total (length h.1.0), ap (λ (xs : List (ℕ × ℕ)). total (length xs)) (one_list b h.1.0 entries h.1.1.1 is.1), h.1.3))
  checked b entries is rise old new (Err (Refused refusal)) h = absurd (accepted b entries is.1 rise refusal h.0)
  checked b entries is rise old new (Err (Misheaded f)) h = absurd (h.0.none is.0.0 is.0.1)
  checked b entries is rise old new (Err InputFailed) h = h
  checked b entries is rise old new (Err Memory) h = h
  checked b entries is rise old new (Err OutputFailed) h = tt
  checked b entries is rise old new (Err Usage) h = absurd h
  checked b entries is rise old new (Err (Line n)) h = absurd h
  checked b entries is rise old new (Err (NotBuilt fault)) h = absurd h

  -- an archive of entries whose last values are the entries
  module _ (b : List ℕ) (entries : List (ℕ × ℕ)) (heading : Heading) (archived : IsArchived heading b entries) (same : last_values entries ≡ entries) where
    is : IsArchive b entries
    is = archived.accepted

    has : HasArchive heading entries
    has = archived.fits

    unbuilt : (fault : Fault AllocError) → IsUnbuilt heading entries fault → (old new : Option (List ℕ)) → new ≡ old → Writes (λ bytes. bytes ≡ b) 0 old new (Err (NotBuilt fault))
    unbuilt LengthOverflow why old new stays = absurd (let few = has.count in omega arith)
    unbuilt PositionOverflow why old new stays = absurd (let end = has.end in omega arith)
    unbuilt OffsetOverflow why old new stays = absurd (why has.reach)
    unbuilt (Writer error) why old new stays = stays
    unbuilt (NoRoom error) why old new stays = stays
    unbuilt (Length mismatch) why old new stays = absurd why
    unbuilt (Entry fault) why old new stays = absurd why
    unbuilt (OutOfOrder index) why old new stays = absurd why

    last_of : (others : List (ℕ × ℕ)) → IsArchive b others → last_values others ≡ entries
    last_of others other = ap last_values (one_list b others entries other is) ∙ same

    stays_so : AlwaysPrints (Migrates (Some b)) b 0
    stays_so old new (Ok status) h =
        let head = one_heading b h.1.1 heading h.1.2 archived.headed in
        (h.0, (archive_of h.1.1 (last_values h.1.0), ap (λ (a : Heading). archive_of a (last_values h.1.0)) head ∙ (ap (archive_of heading) (last_of h.1.0 h.1.3) ∙ sym archived.exact), h.1.5))
    stays_so old new (Err (NotBuilt fault)) h =
        let head = one_heading b h.0.1 heading h.0.2 archived.headed in
        unbuilt fault (subst (λ (xs : List (ℕ × ℕ)). IsUnbuilt heading xs fault) (last_of h.0.0 h.0.3) (subst (λ (a : Heading). IsUnbuilt a (last_values h.0.0) fault) head h.0.4)) old new h.1
    stays_so old new (Err (Refused refusal)) h = absurd (unrefused b refusal entries h.0 is)
    stays_so old new (Err (Misheaded f)) h = absurd (h.0.none heading archived.headed)
    stays_so old new (Err InputFailed) h = h
    stays_so old new (Err Memory) h = h
    stays_so old new (Err OutputFailed) h = tt
    stays_so old new (Err Usage) h = absurd h
    stays_so old new (Err (Line n)) h = absurd h

  module _ (ascending_stay : (entries : List (ℕ × ℕ)) → KeysIncrease entries → last_values entries ≡ entries) where
    module _ (heading : Heading) (text : List ℕ) (entries : List (ℕ × ℕ)) (archive : List ℕ) (is : IsBuiltStrict heading text entries archive) where
      same_entries : is.built.1.0 ≡ entries
      same_entries = entries-once (lines text) is.built.1.0 entries is.built.1.1 is.lines

      rise : KeysIncrease entries
      rise = subst KeysIncrease same_entries is.built.1.2

      same_archive : archive ≡ archive_of heading entries
      same_archive = append_cancel_left is.before archive (archive_of heading is.built.1.0) is.built.1.4 ∙ ap (archive_of heading) same_entries

      archived_so : IsArchived heading archive entries
      archived_so = subst (λ (b : List ℕ). IsArchived heading b entries) (sym same_archive) (subst (λ (xs : List (ℕ × ℕ)). IsArchived heading (archive_of heading xs) xs) same_entries is.built.1.3)

      pub built_checked : AlwaysPrints (ChecksStrict (Some archive)) (total (length entries)) 0
      built_checked = checked archive entries ((heading, archived_so.headed), archived_so.accepted) rise

      pub built_stays : AlwaysPrints (Migrates (Some archive)) archive 0
      built_stays = stays_so archive entries heading archived_so (ascending_stay entries rise)

    module _ (last_rise : (entries : List (ℕ × ℕ)) → KeysIncrease (last_values entries)) (archive made : List ℕ) (is : IsMigratedTo archive made) where
      abbrev of : List (ℕ × ℕ)
      of = last_values is.migrated.1.0

      abbrev head : Heading
      head = is.migrated.1.1

      made_archived : IsArchived head made of
      made_archived = subst (λ (b : List ℕ). IsArchived head b of) (sym (append_cancel_left is.before made (archive_of head of) is.migrated.1.5)) is.migrated.1.4

      pub migrated_checked : (entries : List (ℕ × ℕ)) → IsArchive archive entries → AlwaysPrints (ChecksStrict (Some made)) (total (length (last_values entries))) 0
      migrated_checked entries other =
          let same : is.migrated.1.0 ≡ entries = one_list archive is.migrated.1.0 entries is.migrated.1.3 other in
          subst (λ (xs : List (ℕ × ℕ)). AlwaysPrints (ChecksStrict (Some made)) (total (length (last_values xs))) 0) same
          (checked made of ((head, made_archived.headed), made_archived.accepted) (last_rise is.migrated.1.0))

      pub migrated_stays : AlwaysPrints (Migrates (Some made)) made 0
      migrated_stays = stays_so made of head made_archived (ascending_stay of (last_rise is.migrated.1.0))
