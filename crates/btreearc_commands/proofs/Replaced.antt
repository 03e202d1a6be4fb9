-- The entries of an archive in which a value was set.
use Rattle.std.proofs.Common.{◌≡◌, ℕ, zero, suc, ◌<◌, ◌≤◌, List, [], ◌∷◌, ◌++◌, Option, Some, None, Contains, MatchOption, Ok, Err, refl, sym, ap, subst, arith}
use Rattle.std.specs.Io.KnownBytes.{Appends}
use Rattle.std.specs.List.{AllByRecursion}
use Rattle.std.specs.List.Sorted.{IsStrictlySortedBy}
use Rattle.std.specs.Option.{IsSomeAnd}
use Rattle.std.specs.Ordering.{nat_cmp}
use Rattle.std.specs.Prelude.{slice_get}
use Rattle.std.specs.declared.cmp.Ordering.TheVariants.{Less}
use Rattle.std.proofs.lemmas.Bool.{eq-eqb, ne_eqb}
use Rattle.std.proofs.lemmas.Bool.Decides.{nat_tests}
use Rattle.std.proofs.lemmas.List.{append_cancel_left}
use Rattle.rkyv_btree_seal.specs.Put.{put_value}
use Rattle.btreearc_commands.specs.Commands.{Sets, IsSetOut}
use Rattle.btreearc_commands.specs.Opening.{IsInput, IsArchive, place_in_archive}
use Rattle.btreearc_commands.specs.Sessions.{Writes, AlwaysWrites, AlwaysPrints, IsSetIn, KeysIncrease, keys, with_value}
use Rattle.btreearc_commands.specs.Setting.{IsSet}
use Rattle.btreearc_commands.proofs.Ends.{IsKnown, failed, ordered, grown_by_nothing}

less_is : (n m : ℕ) → nat_cmp n m ≡ Less → n < m
less_is n m h = grind (arith, nat_tests)

-- after a key that isn't less than the key to be set no value is replaced
behind : (key value first : ℕ) (entries : List (ℕ × ℕ)) → key ≤ first → AllByRecursion (λ k. nat_cmp first k ≡ Less) (keys entries) → with_value key value entries ≡ entries
behind key value first [] low above = refl
behind key value first (x ∷ xs) low above =
    let more : first < x.0 = less_is first x.0 above.0 in
    rw (ne_eqb x.0 key (λ same. omega arith)) (ap (λ (zs : List (ℕ × ℕ)). x ∷ zs) (behind key value first xs low above.1))

-- an entry that has the key stands after those of lesser keys
before : (key first : ℕ) (entries : List (ℕ × ℕ)) (i : ℕ) → AllByRecursion (λ k. nat_cmp first k ≡ Less) (keys entries) → IsSomeAnd (slice_get entries i) (λ e. e.0 ≡ key) → first < key
before key first [] i above has = absurd has
before key first (x ∷ xs) zero above has = let less = less_is first x.0 above.0 in omega (arith, less, has)
before key first (x ∷ xs) (suc i) above has = before key first xs i above.1 has

-- where keys strictly increase, the one entry of the key has the value
put_is : (key value : ℕ) (entries : List (ℕ × ℕ)) (i : ℕ) → KeysIncrease entries → IsSomeAnd (slice_get entries i) (λ e. e.0 ≡ key) → put_value entries i value ≡ with_value key value entries
unfolding IsStrictlySortedBy
put_is key value [] i rise has = absurd has
put_is key value (x ∷ xs) zero rise has =
    rw (eq-eqb x.0 key has, behind key value x.0 xs (omega (arith, has)) rise.0) (ap (λ (k : ℕ). (k, value) ∷ xs) has)
put_is key value (x ∷ xs) (suc i) rise has =
    let less = before key x.0 xs i rise.0 has in
    rw (ne_eqb x.0 key (λ same. omega (arith, less))) (ap (λ (zs : List (ℕ × ℕ)). x ∷ zs) (put_is key value xs i rise.1 has))

-- the key of an entry is among the keys
has_key : (key : ℕ) (entries : List (ℕ × ℕ)) (i : ℕ) → IsSomeAnd (slice_get entries i) (λ e. e.0 ≡ key) → Contains (keys entries) key
has_key key [] i has = absurd has
has_key key (x ∷ xs) zero has = (0, omega arith, has)
has_key key (x ∷ xs) (suc i) has = let there = has_key key xs i has in (suc there.0, omega (arith, there.1), there.2)

module _ (key value : ℕ) (archive : List ℕ) (entries : List (ℕ × ℕ)) where
  -- what `set` does at a place where the search for the key may have ended
  abbrev Replaces : Option (ℕ × ℕ) → Option (List ℕ) → Option (List ℕ) → ℕ → Type 0
  Replaces found old new status = MatchOption found ((status ≡ 1) × (new ≡ old)) (λ place. (status ≡ 0) × ((made : List ℕ) × IsSet key value entries archive place made × Appends old new made))

  absent_ended : (found : Option (ℕ × ℕ)) (old new : Option (List ℕ)) (status : ℕ) → (Contains (keys entries) key → ⊥) → Replaces found old new status → Writes (λ bytes. bytes ≡ []) 1 old new (Ok status)
  absent_ended None old new status none ended = (ended.0, ([], refl, grown_by_nothing old new ended.1))
  absent_ended (Some place) old new status none ended = absurd (none (has_key key entries ended.1.1.i ended.1.1.has_key))

  set_ended : (found : Option (ℕ × ℕ)) (old new : Option (List ℕ)) (status : ℕ) → KeysIncrease entries → status ≡ 0 → Replaces found old new status → Writes (λ made. IsArchive made (with_value key value entries)) 0 old new (Ok status)
  set_ended None old new status rise done ended = absurd (omega (arith, done, ended.0))
  set_ended (Some place) old new status rise done ended =
      let set = ended.1.1 in
      (done, (ended.1.0, subst (IsArchive ended.1.0) (put_is key value entries set.i rise set.has_key) set.archive, ended.1.2))

  module _ (is : IsKnown archive entries) where
    -- a run of `set` speaks of these entries
    set_out : (others : List (ℕ × ℕ)) (old new : Option (List ℕ)) (status : ℕ) → IsInput archive others → IsSetOut key value others archive old new status → IsSetOut key value entries archive old new status
    set_out others old new status other out = subst (λ (xs : List (ℕ × ℕ)). IsSetOut key value xs archive old new status) (is.one others other.1) out

    pub absent : (Contains (keys entries) key → ⊥) → AlwaysPrints (Sets key value (Some archive)) [] 1
    absent none old new (Ok status) h = absent_ended (place_in_archive archive key) old new status none (set_out h.0 old new status h.1 h.2).written
    absent none old new (Err fault) h = failed archive entries is (λ bytes. bytes ≡ []) 1 old new fault h

    pub set : KeysIncrease entries → Contains (keys entries) key → AlwaysWrites (Sets key value (Some archive)) (λ made. IsArchive made (with_value key value entries)) 0
    set rise there old new (Ok status) h =
        let out = set_out h.0 old new status h.1 h.2 in
        set_ended (place_in_archive archive key) old new status rise ((out.complete (ordered key entries rise)).1 there) out.written
    set rise there old new (Err fault) h = failed archive entries is (λ made. IsArchive made (with_value key value entries)) 0 old new fault h

    -- so what `set` has written is an archive of them
    pub set_in : KeysIncrease entries → (made : List ℕ) → IsSetIn key value archive made → IsArchive made (with_value key value entries)
    set_in rise made run =
        let there = ((set_out run.set.0 (Some run.before) (Some (run.before ++ made)) 0 run.set.1 run.set.2).complete (ordered key entries rise)).0 refl in
        let writes = set rise there (Some run.before) (Some (run.before ++ made)) (Ok 0) run.set in
        subst (λ (b : List ℕ). IsArchive b (with_value key value entries)) (sym (append_cancel_left run.before made writes.1.0 writes.1.2)) writes.1.1
