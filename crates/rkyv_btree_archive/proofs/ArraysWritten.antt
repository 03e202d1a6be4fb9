-- Elements of arrays that are serialised and resolved one after another.
use Rattle.std.specs.Prelude.{◌≡◌, ℕ, ◌+◌, ◌*◌, ◌≤◌, ◌<◌, ◌⊎◌, List, [], ◌∷◌, ◌++◌, length, map, take, drop, Option, Some, None}
use Rattle.std.specs.List.{All, flat_map, splice}
use Rattle.std.proofs.Common.{suc, zero, set, get_or, arith, refl, sym, ap, subst, ◌∙◌, inl, inr, length-append}
use Rattle.std.proofs.Math.Nat.{suc-mul, mul-le-mul_right}
use Rattle.std.proofs.lemmas.List.{append_assoc, append-nil, take_more, take_all, take-append-drop, drop_more, drop-drop, take_at, drop_at, length-take-le, length-drop, length-set, take-set, map-append, get_or-set_same}
use Rattle.std.proofs.lemmas.List.Elements.{All-nil, All-cons, All-append}
use Rattle.rkyv_btree_archive.specs.ArrayArchival.{RowBegins, RowRefuses, AnyGrows, PartResolves, part_fields, RowResolves, row_fields, array_archival}
use Rattle.rkyv_btree_archive.specs.VectorArchival.{ElementsImage}
use Rattle.rkyv_btree_archive.proofs.VectorsWritten.{any_long, image_more}
use Rattle.rkyv_btree_writer.proofs.FieldRuns.{fit_both, unfit_front, unfit_behind}
use Rattle.rkyv_btree_writer.proofs.WriteRuns.{appended-append, appended-position, stopped-behind, wrote-none, wrote-both}
use Rattle.rkyv_btree_writer.specs.Archiving.{Archival, IsUnserialised, Serialises, BeginsWith}
use Rattle.rkyv_btree_writer.specs.Causes.{HasCauses}
use Rattle.rkyv_btree_writer.specs.Fields.{AllFit, FirstUnfit, HasLong}
use Rattle.rkyv_btree_writer.specs.Writing.{Writing, position, Write, Wrote, Stopped, EndInReach, appended, last_end}
use Rattle.rkyv_btree_writer.specs.declared.fault.Fault.{Fault}
use Rattle.rkyv_btree_writer.specs.declared.fault.Fault.TheVariants.{Length, LengthOverflow, PositionOverflow, OffsetOverflow, Writer, Memory, Entry, OutOfOrder}
use Rattle.rkyv_btree_writer.specs.declared.fault.EntryFault.{EntryFault}
use Rattle.rkyv_btree_writer.specs.declared.fault.ResolveFault.{ResolveFault}
use Rattle.rkyv_btree_writing_laws.proofs.Kept.{then_begins, wrote_begins}
use Rattle.rkyv_btree_writing_laws.specs.Imaged.{end_of}

-- one element of a list, those before it and those after it
pub cut : {X : Type 0} (xs : List X) (i : ℕ) (d x : X) → i < length xs → x ≡ get_or xs i d → xs ≡ take i xs ++ x ∷ drop (i + 1) xs
cut xs i d x inside is = sym (take-append-drop i xs) ∙ (ap (λ ys. take i xs ++ ys) (drop_more xs i d inside) ∙ ap (λ y. take i xs ++ y ∷ drop (i + 1) xs) (sym is))

pub grown : {X : Type 0} (xs : List X) (i : ℕ) (d x : X) → i < length xs → x ≡ get_or xs i d → take i xs ++ x ∷ [] ≡ take (i + 1) xs
grown xs i d x inside is = ap (λ y. take i xs ++ y ∷ []) is ∙ sym (take_more xs i d inside)

-- a part that is written over itself
pub same_part : (xs : List ℕ) (start size : ℕ) → start + size ≤ length xs → xs ≡ splice xs start (start + length (take size (drop start xs))) (take size (drop start xs))
same_part xs start size room =
    let long : length (take size (drop start xs)) ≡ size = length-take-le size (drop start xs) (omega (arith, length-drop start xs)) in
    sym (take-append-drop start xs)
    ∙ ap (λ ys. take start xs ++ ys) (sym (take-append-drop size (drop start xs)) ∙ ap (λ ys. take size (drop start xs) ++ ys) (drop-drop size start xs ∙ ap (λ n. drop (start + n) xs) (sym long)))

-- a part that is written after a front of so many bytes
put_next : (front whole own : List ℕ) (n m : ℕ) → length front ≡ n → m ≡ n + length own → splice (front ++ drop n whole) n m own ≡ (front ++ own) ++ drop m whole
put_next front whole own n m long end =
    let head : take n (front ++ drop n whole) ≡ front = take_at front (drop n whole) n long in
    let tail : drop m (front ++ drop n whole) ≡ drop m whole =
    ap (λ k. drop k (front ++ drop n whole)) end
    ∙ (sym (drop-drop (length own) n (front ++ drop n whole)) ∙ (ap (drop (length own)) (drop_at front (drop n whole) n long) ∙ (drop-drop (length own) n whole ∙ ap (λ k. drop k whole) (sym end)))) in
    ap (λ z. z ++ (own ++ drop m (front ++ drop n whole))) head ∙ (ap (λ z. front ++ (own ++ z)) tail ∙ sym (append_assoc front own (drop m whole)))

module _ {M R : Type 0} (T : Archival M R) where
  row_more : (xs : List M) (rs : List (Option R)) (at : ℕ) (front : List ℕ) (x : M) (r : Option R) (own : List ℕ) → length xs ≡ length rs → RowResolves T xs rs at front → PartResolves T x r (at + length xs * T.kind.size) own → RowResolves T (xs ++ x ∷ []) (rs ++ r ∷ []) at (front ++ own)
  row_more [] [] at front x r own same row part =
      let here : at + 0 * T.kind.size ≡ at = omega arith in
      (own, [], subst (λ n. PartResolves T x r n own) here part, refl, ap (λ bs. bs ++ own) row ∙ sym (append-nil own))
  row_more [] (q ∷ rs) at front x r own same row part = absurd (omega (arith, same))
  row_more (y ∷ xs) [] at front x r own same row part = absurd (omega (arith, same))
  row_more (y ∷ xs) (q ∷ rs) at front x r own same row part =
      let there : at + suc (length xs) * T.kind.size ≡ at + T.kind.size + length xs * T.kind.size = omega (arith, suc-mul (length xs) T.kind.size) in
      let rest = row_more xs rs (at + T.kind.size) row.1 x r own (omega (arith, same)) row.3 (subst (λ n. PartResolves T x r n own) there part) in
      (row.0, row.1 ++ own, row.2, rest, ap (λ bs. bs ++ own) row.4 ∙ append_assoc row.0 row.1 own)

  row_unfit : HasCauses T → (xs later : List M) (rs others : List (Option R)) (at : ℕ) (front : List ℕ) (x : M) (r : Option R) (fault : ResolveFault) → length xs ≡ length rs → RowResolves T xs rs at front → FirstUnfit (part_fields T x r (at + length xs * T.kind.size)) fault → FirstUnfit (row_fields T (xs ++ x ∷ later) (rs ++ r ∷ others) at) fault
  row_unfit causes [] later [] others at front x r fault same row unfit =
      let here : at + 0 * T.kind.size ≡ at = omega arith in
      unfit_front (part_fields T x r at) (row_fields T later others (at + T.kind.size)) fault (subst (λ n. FirstUnfit (part_fields T x r n) fault) here unfit)
  row_unfit causes [] later (q ∷ rs) others at front x r fault same row unfit = absurd (omega (arith, same))
  row_unfit causes (y ∷ xs) later [] others at front x r fault same row unfit = absurd (omega (arith, same))
  row_unfit causes (y ∷ xs) later (q ∷ rs) others at front x r fault same row unfit =
      let there : at + suc (length xs) * T.kind.size ≡ at + T.kind.size + length xs * T.kind.size = omega (arith, suc-mul (length xs) T.kind.size) in
      let rest = row_unfit causes xs later rs others (at + T.kind.size) row.1 x r fault (omega (arith, same)) row.3 (subst (λ n. FirstUnfit (part_fields T x r n) fault) there unfit) in
      unfit_behind (part_fields T y q at) (row_fields T (xs ++ x ∷ later) (rs ++ r ∷ others) (at + T.kind.size)) fault (part_fit causes y q at row.0 row.2) rest
    where
      part_fit : HasCauses T → (y : M) (q : Option R) (at : ℕ) (own : List ℕ) → PartResolves T y q at own → AllFit (part_fields T y q at)
      part_fit causes y None at own is = tt
      part_fit causes y (Some q) at own is = (causes.fits y q at).0 (own, is)

  -- the first i elements are resolved, and the other bytes are as they were
  pub record PartsSoFar (xs : List M) (rs : List (Option R)) (at i size : ℕ) (whole now : List ℕ) : Type 0 where
    pub front : List ℕ
    pub row : RowResolves T (take i xs) (take i rs) at front
    pub long : length front ≡ i * size
    pub bytes : now ≡ front ++ drop (i * size) whole

  pub no_parts : (xs : List M) (rs : List (Option R)) (at size : ℕ) (whole : List ℕ) → PartsSoFar xs rs at 0 size whole whole
  no_parts xs rs at size whole =
      let none : 0 ≡ 0 * size = omega arith in
      record { front = []; row = refl; long = none; bytes = ap (λ n. drop n whole) none }

  pub next_part : (xs : List M) (rs : List (Option R)) (at i size : ℕ) (whole now next : List ℕ) (x e : M) (r d : Option R) (own : List ℕ) → size ≡ T.kind.size → i < length xs → length xs ≡ length rs → x ≡ get_or xs i e → r ≡ get_or rs i d → PartsSoFar xs rs at i size whole now → PartResolves T x r (at + i * size) own → length own ≡ size → next ≡ splice now (i * size) (i * size + length own) own → PartsSoFar xs rs at (i + 1) size whole next
  next_part xs rs at i size whole now next x e r d own same inside as_many is told so_far part long put =
      let count : length (take i xs) ≡ i = length-take-le i xs (omega (arith, inside)) in
      let count2 : length (take i rs) ≡ i = length-take-le i rs (omega (arith, inside, as_many)) in
      let place : at + i * size ≡ at + length (take i xs) * T.kind.size = ap (λ n. at + i * n) same ∙ ap (λ n. at + n * T.kind.size) (sym count) in
      let more = row_more (take i xs) (take i rs) at so_far.front x r own (count ∙ sym count2) so_far.row (subst (λ n. PartResolves T x r n own) place part) in
      let end : (i + 1) * size ≡ i * size + length own = omega (arith, long, suc-mul i size) in
      record {
        front = so_far.front ++ own;
        row = subst (λ ys. RowResolves T ys (take (i + 1) rs) at (so_far.front ++ own)) (grown xs i e x inside is) (subst (λ qs. RowResolves T (take i xs ++ x ∷ []) qs at (so_far.front ++ own)) (grown rs i d r (omega (arith, inside, as_many)) told) more);
        long = length-append so_far.front own ∙ omega (arith, so_far.long, long, suc-mul i size);
        bytes = put ∙ (ap (λ b. splice b (i * size) (i * size + length own) own) so_far.bytes ∙ (put_next so_far.front whole own (i * size) (i * size + length own) so_far.long refl ∙ ap (λ n. (so_far.front ++ own) ++ drop n whole) (sym end)));
      }

  pub part_unfit : HasCauses T → (xs : List M) (rs : List (Option R)) (at i size : ℕ) (whole now : List ℕ) (x e : M) (r d : Option R) (fault : ResolveFault) → size ≡ T.kind.size → i < length xs → length xs ≡ length rs → x ≡ get_or xs i e → r ≡ get_or rs i d → PartsSoFar xs rs at i size whole now → FirstUnfit (part_fields T x r (at + i * size)) fault → FirstUnfit (row_fields T xs rs at) fault
  part_unfit causes xs rs at i size whole now x e r d fault same inside as_many is told so_far unfit =
      let count : length (take i xs) ≡ i = length-take-le i xs (omega (arith, inside)) in
      let count2 : length (take i rs) ≡ i = length-take-le i rs (omega (arith, inside, as_many)) in
      let place : at + i * size ≡ at + length (take i xs) * T.kind.size = ap (λ n. at + i * n) same ∙ ap (λ n. at + n * T.kind.size) (sym count) in
      let h = row_unfit causes (take i xs) (drop (i + 1) xs) (take i rs) (drop (i + 1) rs) at so_far.front x r fault (count ∙ sym count2) so_far.row (subst (λ n. FirstUnfit (part_fields T x r n) fault) place unfit) in
      subst (λ ys. FirstUnfit (row_fields T ys rs at) fault) (sym (cut xs i e x inside is)) (subst (λ qs. FirstUnfit (row_fields T (take i xs ++ x ∷ drop (i + 1) xs) qs at) fault) (sym (cut rs i d r (omega (arith, inside, as_many)) told)) h)

  pub all_parts : (xs : List M) (rs : List (Option R)) (at i size : ℕ) (whole now : List ℕ) → length xs ≤ i → length xs ≡ length rs → length whole ≤ i * size → PartsSoFar xs rs at i size whole now → RowResolves T xs rs at now
  all_parts xs rs at i size whole now over as_many few so_far =
      let none : drop (i * size) whole ≡ [] = drop_none whole (i * size) few in
      let end : now ≡ so_far.front = so_far.bytes ∙ (ap (λ bs. so_far.front ++ bs) none ∙ append-nil so_far.front) in
      subst (λ b. RowResolves T xs rs at b) (sym end) (subst (λ ys. RowResolves T ys rs at so_far.front) (take_all i xs over) (subst (λ qs. RowResolves T (take i xs) qs at so_far.front) (take_all i rs (omega (arith, over, as_many))) so_far.row))
    where
      drop_none : (bs : List ℕ) (n : ℕ) → length bs ≤ n → drop n bs ≡ []
      drop_none [] zero few = refl
      drop_none [] (suc n) few = refl
      drop_none (b ∷ bs) zero few = absurd (omega (arith, few))
      drop_none (b ∷ bs) (suc n) few = drop_none bs n (omega (arith, few))

-- nothing is written past the last position by writes and then more
both_end : (first second : List Write) (m t : Writing) → Wrote m second t → EndInReach first m → EndInReach second t → EndInReach (first ++ second) t
both_end first second m t w a (inr e) = inr e
both_end first second m t w (inl none) (inl none2) = inl (ap (λ (ws : List Write). ws ++ second) none ∙ none2)
both_end first second m t w (inr e) (inl none2) = inr (omega (arith, e, appended-position m (appended second) t w.done, ap (λ ws. length (appended ws)) none2))

module _ {M R : Type 0} (T : Archival M R) where
  -- the first i elements were serialised, and what this told is in as many slots
  pub record SerialisedSoFar (s : Writing) (xs : List M) (i : ℕ) (slots : List (Option R)) (t : Writing) : Type 0 where
    pub told : List R
    pub writes : List Write
    pub image : ElementsImage T (position s) (take i xs) writes told
    pub wrote : Wrote s writes t
    pub are_in : All T.IsIn (take i xs)
    pub end : EndInReach writes t
    pub kept : take i slots ≡ map Some told

  pub none_serialised : (s : Writing) (xs : List M) (slots : List (Option R)) → SerialisedSoFar s xs 0 slots s
  none_serialised s xs slots = record { told = []; writes = []; image = (refl, refl); wrote = wrote-none s; are_in = All-nil T.IsIn; end = inl refl; kept = refl }

  -- a slot that is filled
  filled_slot : (slots : List (Option R)) (i : ℕ) (r : R) → i < length slots → take (i + 1) (set slots i (Some r)) ≡ take i slots ++ Some r ∷ []
  filled_slot slots i r inside =
      let long : i < length (set slots i (Some r)) = omega (arith, inside, length-set slots i (Some r)) in
      take_more (set slots i (Some r)) i (Some r) long
      ∙ (ap (λ q. take i (set slots i (Some r)) ++ q ∷ []) (get_or-set_same slots i (Some r) (Some r) inside) ∙ ap (λ qs. qs ++ Some r ∷ []) (take-set slots i (Some r)))

  pub next_serialised : (s m t : Writing) (xs : List M) (i : ℕ) (slots : List (Option R)) (x e : M) (r : R) → i < length xs → i < length slots → x ≡ get_or xs i e → SerialisedSoFar s xs i slots m → Serialises T x m t r → SerialisedSoFar s xs (i + 1) (set slots i (Some r)) t
  next_serialised s m t xs i slots x e r inside room is so_far done =
      let end : position m ≡ end_of (position s) so_far.writes = appended-position s (appended so_far.writes) m so_far.wrote.done in
      let image = image_more T (position s) (take i xs) so_far.writes done.0 so_far.told x r so_far.image (subst (λ (n : ℕ). T.Writes x n done.0 r) end done.1) in
      record {
        told = so_far.told ++ r ∷ [];
        writes = so_far.writes ++ done.0;
        image = subst (λ ys. ElementsImage T (position s) ys (so_far.writes ++ done.0) (so_far.told ++ r ∷ [])) (grown xs i e x inside is) image;
        wrote = wrote-both s so_far.writes m done.0 t so_far.wrote done.2;
        are_in = subst (All T.IsIn) (grown xs i e x inside is) (All-append T.IsIn (take i xs) (x ∷ []) so_far.are_in (All-cons T.IsIn x [] done.3 (All-nil T.IsIn)));
        end = both_end so_far.writes done.0 m t done.2 so_far.end done.4;
        kept = filled_slot slots i r room ∙ (ap (λ qs. qs ++ Some r ∷ []) so_far.kept ∙ sym (map-append Some so_far.told (r ∷ [])));
      }

  pub all_serialised : (N : ℕ) (s t : Writing) (xs : List M) (i : ℕ) (slots : List (Option R)) → length xs ≡ N → length slots ≡ N → N ≤ i → SerialisedSoFar s xs i slots t → Serialises (array_archival T N) xs s t slots
  all_serialised N s t xs i slots count room over so_far =
      let all : take i xs ≡ xs = take_all i xs (omega (arith, count, over)) in
      let whole : take N xs ≡ xs = take_all N xs (omega (arith, count)) in (
        so_far.writes,
        (so_far.told, subst (λ ys. ElementsImage T (position s) ys so_far.writes so_far.told) (all ∙ sym whole) so_far.image, sym (take_all i slots (omega (arith, room, over))) ∙ so_far.kept),
        so_far.wrote,
        (count, subst (All T.IsIn) all so_far.are_in),
        so_far.end,
      )

  -- what comes after elements that were written
  begins_after : (from : ℕ) (xs later : List M) (first writes : List Write) (told : List R) (y : M) → ElementsImage T from xs first told → T.Begins y (end_of from first) writes → RowBegins T from (xs ++ y ∷ later) (first ++ writes)
  begins_after from [] later first writes told y h b =
      let here : end_of from first ≡ from = ap (end_of from) h.0 ∙ omega arith in
      inl (subst (T.Begins y from) (sym (ap (λ (ws : List Write). ws ++ writes) h.0)) (subst (λ (n : ℕ). T.Begins y n writes) here b))
  begins_after from (x ∷ xs) later first writes told y h b =
      let end : end_of from first ≡ end_of (end_of from h.0) h.1 = ap (end_of from) h.6 ∙ omega (arith, ap length (appended-append h.0 h.1), length-append (appended h.0) (appended h.1)) in
      inr (h.0, h.1 ++ writes, h.2, h.4, begins_after (end_of from h.0) xs later h.1 writes h.3 y h.5 (subst (λ (n : ℕ). T.Begins y n writes) end b), ap (λ (ws : List Write). ws ++ writes) h.6 ∙ append_assoc h.0 h.1 writes)

  refuses_after : (fault : EntryFault) (from : ℕ) (xs later : List M) (first : List Write) (told : List R) (y : M) → ElementsImage T from xs first told → T.Refuses y (end_of from first) fault → RowRefuses T fault from (xs ++ y ∷ later)
  refuses_after fault from [] later first told y h b = inl (subst (λ (n : ℕ). T.Refuses y n fault) (ap (end_of from) h.0 ∙ omega arith) b)
  refuses_after fault from (x ∷ xs) later first told y h b =
      let end : end_of from first ≡ end_of (end_of from h.0) h.1 = ap (end_of from) h.6 ∙ omega (arith, ap length (appended-append h.0 h.1), length-append (appended h.0) (appended h.1)) in
      inr (h.0, h.2, h.4, refuses_after fault (end_of from h.0) xs later h.1 h.3 y h.5 (subst (λ (n : ℕ). T.Refuses y n fault) end b))

  grows_after : (xs later : List M) (y : M) → T.Grows y → AnyGrows T (xs ++ y ∷ later)
  grows_after [] later y h = inl h
  grows_after (x ∷ xs) later y h = inr (grows_after xs later y h)

  module _ (N : ℕ) (s m t : Writing) (xs : List M) (i : ℕ) (slots : List (Option R)) (y e : M) (inside : i < length xs) (count : length xs ≡ N) (is : y ≡ get_or xs i e) (so_far : SerialisedSoFar s xs i slots m) where
    parts : take N xs ≡ take i xs ++ y ∷ drop (i + 1) xs
    parts = take_all N xs (omega (arith, count)) ∙ cut xs i e y inside is

    mid : position m ≡ end_of (position s) so_far.writes
    mid = appended-position s (appended so_far.writes) m so_far.wrote.done

    begins : BeginsWith t m → BeginsWith t s
    begins h = then_begins s m t (wrote_begins s so_far.writes m so_far.wrote) h

    stops : {E : Type 0} (fault : Fault E) (writes : List Write) → T.Begins y (position m) writes → Stopped m writes fault t → (begun : List Write) × RowBegins T (position s) (take N xs) begun × Stopped s begun fault t
    stops fault writes b h = (
      so_far.writes ++ writes,
      subst (λ ys. RowBegins T (position s) ys (so_far.writes ++ writes)) (sym parts) (begins_after (position s) (take i xs) (drop (i + 1) xs) so_far.writes writes so_far.told y so_far.image (subst (λ (n : ℕ). T.Begins y n writes) mid b)),
      stopped-behind s so_far.writes m writes fault t so_far.wrote h,
    )

    pub one_unserialised : {E : Type 0} (fault : Fault E) → IsUnserialised T y m fault t → IsUnserialised (array_archival T N) xs s fault t
    one_unserialised (Length mismatch) h = absurd h
    one_unserialised LengthOverflow h = (subst (λ ys. HasLong (flat_map T.lengths ys)) (sym parts) (any_long T (take i xs) y (drop (i + 1) xs) h.0), begins h.1)
    one_unserialised PositionOverflow h = stops PositionOverflow h.0 h.1 h.2
    one_unserialised OffsetOverflow h = stops OffsetOverflow h.0 h.1 h.2
    one_unserialised (Writer error) h = stops (Writer error) h.0 h.1 h.2
    one_unserialised (Memory error) h = (subst (AnyGrows T) (sym parts) (grows_after (take i xs) (drop (i + 1) xs) y h.0), begins h.1)
    one_unserialised (Entry fault) h = (subst (RowRefuses T fault (position s)) (sym parts) (refuses_after fault (position s) (take i xs) (drop (i + 1) xs) so_far.writes so_far.told y so_far.image (subst (λ (n : ℕ). T.Refuses y n fault) mid h.0)), begins h.1)
    one_unserialised (OutOfOrder index) h = absurd h
