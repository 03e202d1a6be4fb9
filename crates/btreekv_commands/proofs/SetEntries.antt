-- The archive of entries with one put.
use Rattle.std.proofs.Common.{◌≡◌, ◌≢◌, ℕ, Bool, true, false, cond, List, [], ◌∷◌, length, Some, refl, ap, ◌∙◌, arith, Result, Ok, Err, IfOk, IfErr, length-append}
use Rattle.std.proofs.lemmas.Cmp.{tied_itself}
use Rattle.std.proofs.lemmas.Map.Lookups.{exact_bytes}
use Rattle.std.specs.BTreeMap.{is_at}
use Rattle.std.specs.Cmp.Lexicographic.{slice_cmp, nat_list_cmp_total}
use Rattle.std.specs.List.Sorted.{IsStrictlySortedBy}
use Rattle.std.specs.Ordering.{is_eq, nat_cmp}
use Rattle.std.specs.declared.cmp.Ordering.TheVariants.{Less, Equal, Greater}
use Rattle.rkyv_btree_format.specs.Increasing.{IsOutOfOrder}
use Rattle.rkyv_btree_update.proofs.Changed.{last_word_counts}
use Rattle.rkyv_btree_update.specs.declared.change.Change.TheVariants.{Put}
use Rattle.btreearc_lines.specs.Headings.{IsHeaded}
use Rattle.btreearc_lines.specs.declared.heading.Heading.{Heading}
use Rattle.btreekv_commands.specs.Changing.{TextChange}
use Rattle.btreekv_commands.specs.Lines.{Entry}
use Rattle.btreekv_commands.specs.Opening.{texts_name}
use Rattle.btreekv_commands.specs.Updating.{FailsChanges, FailsSet, IsSet, IsStrictArchive, IsStrictFile, value_of, with_entry}
use Rattle.btreekv_commands.specs.declared.update_fault.UpdateFault.{UpdateFault}
use Rattle.btreekv_commands.specs.declared.update_fault.UpdateFault.TheVariants.{Line, OutOfOrder, Archive, NotBuilt, Memory}

module _ (archive key value : List ℕ) (entries : List Entry) (heading : Heading) (headed : IsHeaded texts_name archive heading) (old : IsStrictArchive archive entries) where
  abbrev put : List TextChange
  put = (key, Put value) ∷ []

  -- what a key has after the change
  after : (q : List ℕ) (b : Bool) → is_at (slice_cmp nat_cmp q) key ≡ b → value_of (with_entry entries key value) q ≡ cond b (Some value) (value_of entries q)
  unfolding IsStrictlySortedBy
  after q true is = last_word_counts nat_list_cmp_total q put entries old.1 (tt, tt) ∙ rw is refl
  after q false is = last_word_counts nat_list_cmp_total q put entries old.1 (tt, tt) ∙ rw is refl

  here : is_at (slice_cmp nat_cmp key) key ≡ true
  here = rw (tied_itself nat_list_cmp_total key) refl

  elsewhere : (q : List ℕ) → q ≢ key → is_at (slice_cmp nat_cmp q) key ≡ false
  elsewhere q apart = elim (slice_cmp nat_cmp q key) as (λ o. slice_cmp nat_cmp q key ≡ o → is_eq o ≡ false) [
    | Less ↦ λ e. refl
    | Equal ↦ λ e. absurd (apart (exact_bytes q key e))
    | Greater ↦ λ e. refl
  ] refl

  pub set_so : {T : Type 0} (items : T → List ℕ) (result : Result T UpdateFault) → IfOk result (λ b. IsStrictFile heading (items b) (with_entry entries key value))
      → IfOk result (λ b. IsSet archive key value (items b))
  set_so items (Err fault) new = tt
  set_so items (Ok b) new = record {
    entries = entries;
    heading = heading;
    headed = headed;
    old = old;
    new = new;
    has = after key true here;
    keeps = λ other apart. after other false (elsewhere other apart);
  }

  -- one change is in order
  one_in_order : (index : ℕ) → ¬ IsOutOfOrder (slice_cmp nat_cmp) put index
  one_in_order index o = absurd (omega (arith, ap length o.parts, length-append o.front (o.before ∷ o.entry ∷ o.back)))

  cause : (fault : UpdateFault) → FailsChanges heading entries put fault → FailsSet archive key value fault
  cause (Line n) h = absurd h
  cause (OutOfOrder n) h = absurd (one_in_order h.0 h.2)
  cause (Archive which refusal) h = absurd h
  cause (NotBuilt fault) h = (entries, heading, headed, old, h)
  cause Memory h = absurd h

  pub fails_so : {T : Type 0} (result : Result T UpdateFault) → IfErr result (FailsChanges heading entries put) → IfErr result (FailsSet archive key value)
  fails_so (Ok b) h = tt
  fails_so (Err fault) h = cause fault h
