-- What commands write of an archive whose entries are known.
use Rattle.std.proofs.Common.{◌≡◌, ℕ, List, [], ◌∷◌, ◌++◌, ◌&&◌, length, filter, decimal, Option, Some, None, IfSome, Contains, Ok, Err, refl, sym, ap, subst, ◌∙◌}
use Rattle.std.specs.Io.KnownBytes.{Appends}
use Rattle.std.specs.Ordering.{nat_cmp}
use Rattle.std.specs.Prelude.{nat_le}
use Rattle.std.proofs.lemmas.Cmp.{nat_cmp_total}
use Rattle.std.proofs.lemmas.List.{append-nil, get_or_default}
use Rattle.rkyv_btree_portable.specs.declared.refusal.Refusal.{Refusal}
use Rattle.rkyv_btree_view.specs.Query.{IsCut}
use Rattle.rkyv_btree_walk.specs.Search.{AnyHit, IsHit, OrderedBy}
use Rattle.rkyv_btree_view.specs.laws.Cuts.{order_cuts}
use Rattle.rkyv_btree_view.specs.laws.Increasing.{increasing_ordered}
use Rattle.btreearc_commands.specs.Commands.{FailsOnArchive, Lists, Checks, Gets, Ranges, PrintsValue, total}
use Rattle.btreearc_lines.specs.Grammar.{text_of}
use Rattle.btreearc_commands.specs.Opening.{HasFitHeading, IsInput, IsArchive, RefusesArchive, found_in_archive}
use Rattle.btreearc_commands.specs.Sessions.{Writes, AlwaysPrints, KeysIncrease, keys}
use Rattle.btreearc_lines.specs.declared.fault.ProgramFault.{ProgramFault}
use Rattle.btreearc_lines.specs.declared.fault.ProgramFault.TheVariants.{Usage, Line, Refused, Misheaded, NotBuilt, InputFailed, OutputFailed, Memory}
use Rattle.btreearc_commands.proofs.Edited.{is_equal, hit_is_key}

-- a comparison with a number goes with the order of numbers
pub number_cuts : (n : ℕ) → IsCut nat_cmp (nat_cmp n)
number_cuts n = order_cuts nat_cmp_total n

-- keys that strictly increase are ordered for each key
pub ordered : (key : ℕ) (entries : List (ℕ × ℕ)) → KeysIncrease entries → OrderedBy (λ e. nat_cmp key e.0) entries
ordered key entries rise = increasing_ordered nat_cmp (λ e. e.0) (nat_cmp key) (number_cuts key) entries rise

-- what has stayed has grown by nothing
pub grown_by_nothing : (old new : Option (List ℕ)) → new ≡ old → Appends old new []
grown_by_nothing old new same = subst (λ (x : Option (List ℕ)). Appends old x []) (sym same) (nothing old)
  where
    nothing : (known : Option (List ℕ)) → Appends known known []
    nothing None = tt
    nothing (Some xs) = sym (append-nil xs)

-- an entry of the list that has the key
pub entry_hit : (key value : ℕ) (entries : List (ℕ × ℕ)) → Contains entries (key, value) → IsHit (λ e. nat_cmp key e.0) entries (key, value)
entry_hit key value entries there = (is_equal key key refl, there.0, there.1, λ d. get_or_default entries there.0 d (key, value) there.1 ∙ there.2)

-- an entry that is found has its key in the list
hit_has_key : (key : ℕ) (entries : List (ℕ × ℕ)) (found : ℕ × ℕ) → IsHit (λ e. nat_cmp key e.0) entries found → Contains (keys entries) key
hit_has_key key entries found hit =
    let any : AnyHit (λ e. nat_cmp key e.0) entries = (hit.1, hit.2, λ d. ap (λ (e : ℕ × ℕ). nat_cmp key e.0) (hit.3 d) ∙ hit.0) in
    (hit_is_key key entries).0 any

absent_ended : (key : ℕ) (entries : List (ℕ × ℕ)) (found : Option (ℕ × ℕ)) (old new : Option (List ℕ)) (status : ℕ) → (Contains (keys entries) key → ⊥) → IfSome found (IsHit (λ e. nat_cmp key e.0) entries) → PrintsValue found old new status → Writes (λ bytes. bytes ≡ []) 1 old new (Ok status)
absent_ended key entries None old new status none hit ended = (ended.0, ([], refl, grown_by_nothing old new ended.1))
absent_ended key entries (Some found) old new status none hit ended = absurd (none (hit_has_key key entries found hit))

present_ended : (key value : ℕ) (found : Option (ℕ × ℕ)) (old new : Option (List ℕ)) (status : ℕ) → found ≡ Some (key, value) → PrintsValue found old new status → Writes (λ bytes. bytes ≡ decimal value ++ 10 ∷ []) 0 old new (Ok status)
present_ended key value found old new status is ended =
    let line : PrintsValue (Some (key, value)) old new status = subst (λ (x : Option (ℕ × ℕ)). PrintsValue x old new status) is ended in
    (line.0, (decimal value ++ 10 ∷ [], refl, line.1))

-- bytes that are an archive of these entries alone, and are refused for nothing
pub record IsKnown (archive : List ℕ) (entries : List (ℕ × ℕ)) : Type 0 where
  pub one : (others : List (ℕ × ℕ)) → IsArchive archive others → others ≡ entries
  pub unrefused : (refusal : Refusal) → RefusesArchive archive refusal → ⊥
  pub headed : HasFitHeading archive

pub known : ((b : List ℕ) (xs ys : List (ℕ × ℕ)) → IsArchive b xs → IsArchive b ys → xs ≡ ys) → ((b : List ℕ) (refusal : Refusal) (xs : List (ℕ × ℕ)) → RefusesArchive b refusal → IsArchive b xs → ⊥) → (archive : List ℕ) (entries : List (ℕ × ℕ)) → IsInput archive entries → IsKnown archive entries
known one_list refused_is_none archive entries is = record {
  one = λ others other. one_list archive others entries other is.1;
  unrefused = λ refusal refused. refused_is_none archive refusal entries refused is.1;
  headed = is.0;
}

module _ (archive : List ℕ) (entries : List (ℕ × ℕ)) (is : IsKnown archive entries) where
  -- a command fails for no fault of theirs
  pub failed : (Are : List ℕ → Type 0) (status : ℕ) (old new : Option (List ℕ)) (fault : ProgramFault) → FailsOnArchive (Some archive) old new fault → Writes Are status old new (Err fault)
  failed Are status old new (Refused refusal) h = absurd (is.unrefused refusal h.0)
  failed Are status old new (Misheaded f) h = absurd (h.0.none is.headed.0 is.headed.1)
  failed Are status old new InputFailed h = h
  failed Are status old new Memory h = h
  failed Are status old new OutputFailed h = tt
  failed Are status old new Usage h = absurd h
  failed Are status old new (Line n) h = absurd h
  failed Are status old new (NotBuilt fault) h = absurd h

  unprinted : (text : List ℕ) (status : ℕ) (old new : Option (List ℕ)) (fault : ProgramFault) → FailsOnArchive (Some archive) old new fault → Writes (λ bytes. bytes ≡ text) status old new (Err fault)
  unprinted text status old new fault h = failed (λ bytes. bytes ≡ text) status old new fault h

  pub listed : AlwaysPrints (Lists (Some archive)) (text_of entries) 0
  listed old new (Ok status) h = (h.0, (text_of h.1.0, ap text_of (is.one h.1.0 h.1.1.1), h.1.2))
  listed old new (Err fault) h = unprinted (text_of entries) 0 old new fault h

  pub counted : AlwaysPrints (Checks (Some archive)) (total (length entries)) 0
  counted old new (Ok status) h = (h.0, (total (length h.1.0), ap (λ (xs : List (ℕ × ℕ)). total (length xs)) (is.one h.1.0 h.1.1.1), h.1.2))
  counted old new (Err fault) h = unprinted (total (length entries)) 0 old new fault h

  pub absent : (key : ℕ) → (Contains (keys entries) key → ⊥) → IfSome (found_in_archive archive key) (IsHit (λ e. nat_cmp key e.0) entries) → AlwaysPrints (Gets key (Some archive)) [] 1
  absent key none hit old new (Ok status) h = absent_ended key entries (found_in_archive archive key) old new status none hit h.2
  absent key none hit old new (Err fault) h = unprinted [] 1 old new fault h

  pub got : (key value : ℕ) → found_in_archive archive key ≡ Some (key, value) → AlwaysPrints (Gets key (Some archive)) (decimal value ++ 10 ∷ []) 0
  got key value found old new (Ok status) h = present_ended key value (found_in_archive archive key) old new status found h.2
  got key value found old new (Err fault) h = unprinted (decimal value ++ 10 ∷ []) 0 old new fault h

  pub ranged : KeysIncrease entries → (low high : ℕ) → AlwaysPrints (Ranges low high (Some archive)) (text_of (filter (λ e. nat_le low e.0 && nat_le e.0 high) entries)) 0
  ranged rise low high old new (Ok status) h =
      let same = is.one h.1.0 h.1.2.1 in
      let all = h.1.3.all (subst (OrderedBy (λ e. nat_cmp low e.0)) (sym same) (ordered low entries rise)) (subst (OrderedBy (λ e. nat_cmp high e.0)) (sym same) (ordered high entries rise)) in
      (h.0, (text_of h.1.1, ap text_of (all ∙ ap (filter (λ (e : ℕ × ℕ). nat_le low e.0 && nat_le e.0 high)) same), h.1.4))
  ranged rise low high old new (Err fault) h = unprinted (text_of (filter (λ e. nat_le low e.0 && nat_le e.0 high) entries)) 0 old new fault h
