-- Archives that are put over one another, one more at a time.
use Rattle.std.proofs.Common.{◌≡◌, ℕ, ◌+◌, ◌-◌, List, [], ◌∷◌, ◌++◌, length, Result, Ok, Err, IfOk, IfErr, refl, sym, ap, subst, ◌∙◌, arith}
use Rattle.std.proofs.Common.{append_assoc, append-nil}
use Rattle.std.proofs.lemmas.List.{length-append}
use Rattle.std.specs.List.{AllByRecursion, fold}
use Rattle.btreearc_lines.specs.Headings.{IsHeaded}
use Rattle.btreearc_lines.specs.declared.heading.Heading.{Heading}
use Rattle.btreearc_lines.specs.declared.heading.Heading.TheVariants.{Typed, Untyped}
use Rattle.btreekv_commands.specs.Files.{IsBegun}
use Rattle.btreekv_commands.specs.Opening.{HasFitHeading, texts_name}
use Rattle.btreekv_commands.specs.Lines.{Entry}
use Rattle.btreekv_commands.specs.Updating.{AreStrictArchives, FailsMerge, FailsNext, IsMerge, IsStrictArchive, IsStrictFile}
use Rattle.btreekv_commands.specs.Updating.{IsUnwritten, IsUnwrittenFault, put_over}
use Rattle.btreekv_commands.specs.declared.update_fault.UpdateFault.{UpdateFault}
use Rattle.btreekv_commands.proofs.Updates.{one_list}
use Rattle.btreekv_commands.specs.declared.update_fault.UpdateFault.TheVariants.{Line, OutOfOrder, Archive, NotBuilt, Memory}

-- the first archives of all, put over one another, are this text
pub record SoFar (heading : Heading) (first : List ℕ) (all rest : List (List ℕ)) (text : List ℕ) : Type 0 where
  pub entries : List Entry
  pub further : List (List Entry)
  pub done : List (List ℕ)
  pub parts : all ≡ done ++ rest
  pub headed : IsHeaded texts_name first heading
  pub first_is : IsStrictArchive first entries
  pub done_headed : AllByRecursion HasFitHeading done
  pub done_are : AreStrictArchives done further
  pub text_is : IsStrictFile heading text (fold put_over entries further)

-- what is headed so begins so
begun_so : (heading : Heading) (bytes : List ℕ) → IsHeaded texts_name bytes heading → IsBegun heading bytes
begun_so Typed bytes headed = headed
begun_so Untyped bytes headed = tt

pub at_first : (heading : Heading) (first text : List ℕ) (all : List (List ℕ)) (entries : List Entry) → IsHeaded texts_name first heading → IsStrictArchive first entries → text ≡ first → SoFar heading first all all text
at_first heading first text all entries headed is same = record {
  entries = entries;
  further = [];
  done = [];
  parts = refl;
  headed = headed;
  first_is = is;
  done_headed = tt;
  done_are = tt;
  text_is = subst (λ (b : List ℕ). IsStrictFile heading b entries) (sym same) (begun_so heading first headed, is);
}

push_archive : (bs : List (List ℕ)) (ms : List (List Entry)) (b : List ℕ) (m : List Entry) → AreStrictArchives bs ms → IsStrictArchive b m
    → AreStrictArchives (bs ++ b ∷ []) (ms ++ m ∷ [])
push_archive [] [] b m h is = (is, tt)
push_archive [] (n ∷ ms) b m h is = absurd h
push_archive (a ∷ bs) [] b m h is = absurd h
push_archive (a ∷ bs) (n ∷ ms) b m h is = (h.0, push_archive bs ms b m h.1 is)

push_headed : (bs : List (List ℕ)) (b : List ℕ) → AllByRecursion HasFitHeading bs → HasFitHeading b → AllByRecursion HasFitHeading (bs ++ b ∷ [])
push_headed [] b all h = (h, tt)
push_headed (a ∷ bs) b all h = (all.0, push_headed bs b all.1 h)

fold_push : {A M : Type 0} (step : M → A → M) (z : M) (xs : List A) (x : A) → fold step z (xs ++ x ∷ []) ≡ step (fold step z xs) x
fold_push step z [] x = refl
fold_push step z (y ∷ ys) x = fold_push step (step z y) ys x

module _ (heading : Heading) (first : List ℕ) (all : List (List ℕ)) (next : List ℕ) (later : List (List ℕ)) (text : List ℕ) (so_far : SoFar heading first all (next ∷ later) text) where
  split : all ≡ (so_far.done ++ next ∷ []) ++ later
  split = so_far.parts ∙ sym (append_assoc so_far.done (next ∷ []) later)

  pub few : length all ≡ length so_far.done + 1 + length later
  few = omega (arith, ap length so_far.parts, length-append so_far.done (next ∷ later))

  -- one more archive
  pub one_more : (new : List ℕ) (others : List Entry) → HasFitHeading next → IsStrictArchive next others
      → IsStrictFile heading new (put_over (fold put_over so_far.entries so_far.further) others) → SoFar heading first all later new
  one_more new others next_headed is put = record {
    entries = so_far.entries;
    further = so_far.further ++ others ∷ [];
    done = so_far.done ++ next ∷ [];
    parts = split;
    headed = so_far.headed;
    first_is = so_far.first_is;
    done_headed = push_headed so_far.done next so_far.done_headed next_headed;
    done_are = push_archive so_far.done so_far.further next others so_far.done_are is;
    text_is = subst (λ (es : List Entry). IsStrictFile heading new es) (sym (fold_push put_over so_far.entries so_far.further others)) put;
  }

  -- the next archive isn't put over them
  pub fails_next : (number : ℕ) → number ≡ length all - length later → (fault : UpdateFault)
      → FailsNext heading (fold put_over so_far.entries so_far.further) number next fault → FailsMerge first all fault
  fails_next number is (Line n) h = absurd h
  fails_next number is (OutOfOrder n) h = absurd h
  fails_next number is (Archive which refusal) h = record {
    before = first ∷ so_far.done;
    refused = next;
    after = later;
    lists = so_far.entries ∷ so_far.further;
    parts = ap (λ (bs : List (List ℕ)). first ∷ bs) so_far.parts;
    good = (so_far.first_is, so_far.done_are);
    refuses = h.1;
    number = omega (arith, h.0, is, few);
  }
  fails_next number is (NotBuilt fault) h = record {
    entries = so_far.entries;
    further = so_far.further ++ h.0 ∷ [];
    before = so_far.done ++ next ∷ [];
    after = later;
    parts = split;
    heading = heading;
    headed = so_far.headed;
    first_is = so_far.first_is;
    before_are = push_archive so_far.done so_far.further next h.0 so_far.done_are h.1;
    unwritten = subst (λ (es : List Entry). IsUnwritten heading es fault) (sym (fold_push put_over so_far.entries so_far.further h.0)) h.2;
  }
  fails_next number is Memory h = tt

pub all_merged : (heading : Heading) (first : List ℕ) (all rest : List (List ℕ)) (text : List ℕ) → SoFar heading first all rest text → rest ≡ [] → IsMerge first all text
all_merged heading first all rest text so_far none = record {
  entries = so_far.entries;
  further = so_far.further;
  heading = heading;
  headed = so_far.headed;
  first_is = so_far.first_is;
  others_headed = subst (λ (bs : List (List ℕ)). AllByRecursion HasFitHeading bs)
      (sym (so_far.parts ∙ (ap (λ (bs : List (List ℕ)). so_far.done ++ bs) none ∙ append-nil so_far.done))) so_far.done_headed;
  others_are = subst (λ (bs : List (List ℕ)). AreStrictArchives bs so_far.further)
      (sym (so_far.parts ∙ (ap (λ (bs : List (List ℕ)). so_far.done ++ bs) none ∙ append-nil so_far.done))) so_far.done_are;
  merged = so_far.text_is;
}

-- the archive `so_far` has one list alone
module _ (heading : Heading) (so_far next : List ℕ) (m n : List Entry) (is : IsStrictArchive so_far m) (next_is : IsStrictArchive next n) where
  pub next_put : {T : Type 0} (items : T → List ℕ) (result : Result T UpdateFault) → IfOk result (λ b. IsStrictFile heading (items b) (put_over m n))
      → IfOk result (λ b. (entries : List Entry) → IsStrictArchive so_far entries → (others : List Entry) × IsStrictArchive next others ×
      IsStrictFile heading (items b) (put_over entries others))
  next_put items (Err fault) h = tt
  next_put items (Ok b) h =
      λ entries also. (n, next_is, subst (λ (es : List Entry). IsStrictFile heading (items b) (put_over es n)) (one_list so_far m entries is also) h)

  unwritten_next : (entries : List Entry) (number : ℕ) (fault : UpdateFault) → m ≡ entries → IsUnwrittenFault heading (put_over m n) fault
      → FailsNext heading entries number next fault
  unwritten_next entries number (Line k) same h = absurd h
  unwritten_next entries number (OutOfOrder k) same h = absurd h
  unwritten_next entries number (Archive which refusal) same h = absurd h
  unwritten_next entries number (NotBuilt fault) same h = (n, next_is, subst (λ (es : List Entry). IsUnwritten heading (put_over es n) fault) same h)
  unwritten_next entries number Memory same h = absurd h

  pub next_fails : {T : Type 0} (number : ℕ) (result : Result T UpdateFault) → IfErr result (IsUnwrittenFault heading (put_over m n))
      → IfErr result (λ fault. (entries : List Entry) → IsStrictArchive so_far entries → FailsNext heading entries number next fault)
  next_fails number (Ok b) h = tt
  next_fails number (Err fault) h = λ entries also. unwritten_next entries number fault (one_list so_far m entries is also) h
