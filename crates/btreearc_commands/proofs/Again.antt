-- What is built is an archive of what the lines are, and is built again of what is listed of it.
use Rattle.std.proofs.Common.{◌≡◌, ℕ, List, [], ◌∷◌, Some, Ok, Err, sym, ap, subst, ◌∙◌, arith}
use Rattle.std.specs.Prelude.{Option}
use Rattle.std.proofs.lemmas.List.{append_cancel_left}
use Rattle.std.specs.declared.alloc.AllocError.{AllocError}
use Rattle.rkyv_btree_writer.specs.declared.fault.Fault.{Fault}
use Rattle.rkyv_btree_writer.specs.declared.fault.Fault.TheVariants.{Length, LengthOverflow, PositionOverflow, OffsetOverflow, Writer, Memory as NoRoom, Entry, OutOfOrder}
use Rattle.btreearc_lines.specs.declared.heading.Heading.{Heading}
use Rattle.btreearc_commands.specs.Archive.{archive_of, HasArchive, IsArchived, IsUnbuilt}
use Rattle.btreearc_commands.specs.Commands.{Builds, Lists}
use Rattle.btreearc_lines.specs.Grammar.{lines, text_of, AreEntries, AreShort, IsLines}
use Rattle.btreearc_commands.specs.Opening.{IsInput}
use Rattle.btreearc_commands.specs.Sessions.{IsBuilt, Writes, AlwaysPrints}
use Rattle.btreearc_lines.specs.declared.fault.ProgramFault.TheVariants.{Usage, Line, Refused, Misheaded, NotBuilt, InputFailed, OutputFailed, Memory}
use Rattle.btreearc_lines.proofs.Once.{entries-once, not_both}
use Rattle.btreearc_commands.proofs.Written.{written-lines}

-- the numbers of lines are short
are_short : (ls : List (List ℕ)) (xs : List (ℕ × ℕ)) → AreEntries ls xs → AreShort xs
are_short [] [] h = tt
are_short [] (x ∷ xs) h = absurd h
are_short (l ∷ ls) [] h = absurd h
are_short (l ∷ ls) (x ∷ xs) h = ((h.0.key_is.fits, h.0.value_is.fits), are_short ls xs h.1)

module _ (heading : Heading) (text : List ℕ) (entries : List (ℕ × ℕ)) (archive : List ℕ) (is : IsBuilt heading text entries archive) where
  -- what was built is the archive of the entries, which they have
  same_entries : is.built.1.0 ≡ entries
  same_entries = entries-once (lines text) is.built.1.0 entries is.built.1.1 is.lines

  same_archive : archive ≡ archive_of heading entries
  same_archive = append_cancel_left is.before archive (archive_of heading is.built.1.0) is.built.1.3 ∙ ap (archive_of heading) same_entries

  archived : IsArchived heading archive entries
  archived = subst (λ (b : List ℕ). IsArchived heading b entries) (sym same_archive) (subst (λ (xs : List (ℕ × ℕ)). IsArchived heading (archive_of heading xs) xs) same_entries is.built.1.2)

  has : HasArchive heading entries
  has = archived.fits

  pub is_input : IsInput archive entries
  is_input = ((heading, archived.headed), archived.accepted)

  -- what is listed is read back
  read_back : IsLines (text_of entries) entries
  read_back = written-lines entries (are_short (lines text) entries is.lines)

  -- entries that have an archive are left unbuilt for want of memory alone
  unbuilt : (fault : Fault AllocError) → IsUnbuilt heading entries fault → (old new : Option (List ℕ)) → new ≡ old → Writes (λ bytes. bytes ≡ archive) 0 old new (Err (NotBuilt fault))
  unbuilt LengthOverflow why old new same = absurd (let few = has.count in omega arith)
  unbuilt PositionOverflow why old new same = absurd (let end = has.end in omega arith)
  unbuilt OffsetOverflow why old new same = absurd (why has.reach)
  unbuilt (Writer error) why old new same = same
  unbuilt (NoRoom error) why old new same = same
  unbuilt (Length mismatch) why old new same = absurd why
  unbuilt (Entry fault) why old new same = absurd why
  unbuilt (OutOfOrder index) why old new same = absurd why

  pub built_again : AlwaysPrints (Builds heading (Some (text_of entries))) archive 0
  built_again old new (Ok status) h =
      let same : h.1.0 ≡ entries = entries-once (lines (text_of entries)) h.1.0 entries h.1.1 read_back in
      (h.0, (archive_of heading h.1.0, ap (archive_of heading) same ∙ sym same_archive, h.1.3))
  built_again old new (Err (Line n)) h = absurd (not_both (text_of entries) n entries read_back h.0)
  built_again old new (Err (NotBuilt fault)) h =
      let same : h.0.0 ≡ entries = entries-once (lines (text_of entries)) h.0.0 entries h.0.1 read_back in
      unbuilt fault (subst (λ (xs : List (ℕ × ℕ)). IsUnbuilt heading xs fault) same h.0.2) old new h.1
  built_again old new (Err InputFailed) h = h
  built_again old new (Err Memory) h = h
  built_again old new (Err OutputFailed) h = tt
  built_again old new (Err Usage) h = absurd h
  built_again old new (Err (Refused refusal)) h = absurd h
  built_again old new (Err (Misheaded f)) h = absurd h

-- what `list` has written of the bytes that `build` has written are the lines
pub listed_again : (heading : Heading) → ((t b : List ℕ) (xs : List (ℕ × ℕ)) → IsBuilt heading t xs b → AlwaysPrints (Lists (Some b)) (text_of xs) 0) → (text archive given listed : List ℕ) → Builds heading (Some text) (Some []) (Some archive) (Ok 0) → given ≡ archive → Lists (Some given) (Some []) (Some listed) (Ok 0) → (entries : List (ℕ × ℕ)) × IsLines text entries × (listed ≡ text_of entries)
listed_again heading law text archive given listed built same lists =
    let entries = built.1.0 in
    let is : IsBuilt heading text entries archive = record { lines = built.1.1; before = []; built = built } in
    let ended = law text archive entries is (Some []) (Some listed) (Ok 0) (subst (λ (b : List ℕ). Lists (Some b) (Some []) (Some listed) (Ok 0)) same lists) in
    (entries, built.1.1, ended.1.2 ∙ ended.1.1)
