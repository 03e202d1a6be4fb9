-- Values to which 10 is added one after the other.
use Rattle.std.proofs.Common.{◌≡◌, ℕ, zero, suc, ◌+◌, ◌%◌, ◌^◌, List, [], ◌∷◌, ◌++◌, length, map, refl, sym, ap, subst, ◌∙◌, arith, append-nil, append_assoc, Some, slice_get}
use Rattle.std.proofs.lemmas.List.{length-map, length_push, length-append}
use Rattle.rkyv_btree_base.specs.Bytes.{bytes_at, from_le}
use Rattle.rkyv_btree_base.specs.Natives.{u32_form}
use Rattle.rkyv_btree_base.specs.Read.{entry_at}
use Rattle.rkyv_btree_base.specs.Scalars.{u32_kind}
use Rattle.rkyv_btree_base.specs.Tree.{list}
use Rattle.rkyv_btree.specs.Places.{IsNumber, PutsEntry}
use Rattle.rkyv_btree.specs.Put.{put_value, value_place}
use Rattle.rkyv_btree.specs.EntryPlaces.{entry_places}
use Rattle.examples.specs.Editing.{IsNumbers, plus_ten}
use Rattle.examples.proofs.Numbers.{numbers_read, numbered, number_put}

-- after the first s entries, n entries have 10 more
abbrev pub added : ℕ → ℕ → List (ℕ × ℕ) → List (ℕ × ℕ)
added zero zero m = m
added zero (suc n) [] = []
added zero (suc n) (e ∷ m) = plus_ten e ∷ added zero n m
added (suc s) n [] = []
added (suc s) n (e ∷ m) = e ∷ added s n m

added_next : (s n k : ℕ) (m : List (ℕ × ℕ)) (x : ℕ × ℕ) → k ≡ s + n → slice_get (added s n m) k ≡ Some x → put_value (added s n m) k ((x.1 + 10) % 2 ^ 32) ≡ added s (suc n) m
added_next zero zero zero [] x is h = refl
added_next zero zero zero (e ∷ m) x is h = let same : e ≡ x = cc h in ap (λ (y : ℕ × ℕ). (e.0, (y.1 + 10) % 2 ^ 32) ∷ m) (sym same)
added_next zero zero (suc k) m x is h = absurd (omega arith)
added_next zero (suc n) zero m x is h = absurd (omega arith)
added_next zero (suc n) (suc k) [] x is h = refl
added_next zero (suc n) (suc k) (e ∷ m) x is h = ap (λ xs. plus_ten e ∷ xs) (added_next zero n k m x (omega arith) h)
added_next (suc s) n zero m x is h = absurd (omega arith)
added_next (suc s) n (suc k) [] x is h = refl
added_next (suc s) n (suc k) (e ∷ m) x is h = ap (λ xs. e ∷ xs) (added_next s n k m x (omega arith) h)

within_all : (within behind : List (ℕ × ℕ)) → added 0 (length within) (within ++ behind) ≡ map plus_ten within ++ behind
within_all [] behind = refl
within_all (e ∷ within) behind = ap (λ xs. plus_ten e ∷ xs) (within_all within behind)

added_within : (before within behind : List (ℕ × ℕ)) → added (length before) (length within) (before ++ (within ++ behind)) ≡ before ++ (map plus_ten within ++ behind)
added_within [] within behind = within_all within behind
added_within (e ∷ before) within behind = ap (λ xs. e ∷ xs) (added_within before within behind)

at_seam : {X : Type 0} (before : List X) (x : X) (rest : List X) → slice_get (before ++ x ∷ rest) (length before) ≡ Some x
at_seam [] x rest = refl
at_seam (y ∷ before) x rest = at_seam before x rest

module _ (b₀ : List ℕ) (pos : ℕ) (skipped later : List (ℕ × ℕ)) where
  -- of the entries between those that are skipped and the later ones, 10 was added to those that aren't left
  pub record Adding (b : List ℕ) (left : List (ℕ × ℕ)) : Type 0 where
    pub done : List (ℕ × ℕ)
    pub split : entry_places u32_kind u32_kind 5 b₀ pos ≡ skipped ++ (done ++ (left ++ later))
    pub same : entry_places u32_kind u32_kind 5 b pos ≡ entry_places u32_kind u32_kind 5 b₀ pos
    pub list : (m : List (ℕ × ℕ)) → IsNumbers b₀ pos m → IsNumbers b pos (added (length skipped) (length done) m)

  pub adding_start : (left : List (ℕ × ℕ)) → entry_places u32_kind u32_kind 5 b₀ pos ≡ skipped ++ (left ++ later) → Adding b₀ left
  adding_start left is = record { done = []; split = is; same = refl; list = λ m h. start_list m h }
    where
      start_same : (s : ℕ) (m : List (ℕ × ℕ)) → added s 0 m ≡ m
      start_same zero m = refl
      start_same (suc s) [] = refl
      start_same (suc s) (e ∷ m) = ap (λ xs. e ∷ xs) (start_same s m)

      start_list : (m : List (ℕ × ℕ)) → IsNumbers b₀ pos m → IsNumbers b₀ pos (added (length skipped) 0 m)
      start_list m h = rw (start_same (length skipped) m) h

  -- it was added to one more
  pub adding_more : (b c : List ℕ) (old new : List (ℕ × ℕ)) (e : ℕ × ℕ) (v : ℕ) → Adding b old → old ≡ e ∷ new → v ≡ from_le (bytes_at b (value_place u32_kind u32_kind 5 e) 4) → PutsEntry u32_kind u32_kind 5 b pos e (u32_form.own_bytes ((v + 10) % 2 ^ 32)) c → Adding c new
  adding_more b c old new e v so_far first read puts =
      let s = length skipped in
      let n = length so_far.done in
      let both : length (skipped ++ so_far.done) ≡ s + n = length-append skipped so_far.done in
      let around : entry_places u32_kind u32_kind 5 b pos ≡ (skipped ++ so_far.done) ++ (e ∷ (new ++ later)) = so_far.same ∙ so_far.split ∙ rw first (sym (append_assoc skipped so_far.done (e ∷ (new ++ later)))) in
      let number : IsNumber u32_kind u32_kind 5 b pos (s + n) e = rw (← both, around) (at_seam (skipped ++ so_far.done) e (new ++ later)) in
      let next : length (so_far.done ++ e ∷ []) ≡ suc n = omega (arith, length_push so_far.done e) in
      record {
        done = so_far.done ++ e ∷ [];
        split = so_far.split ∙ rw first (ap (λ xs. skipped ++ xs) (sym (append_assoc so_far.done (e ∷ []) (new ++ later))));
        same = ap list puts.tree ∙ so_far.same;
        list = λ m h.
            let is = so_far.list m h in
            let at = numbered b pos (s + n) e (added s n m) is number in
            let put = number_put b c pos (s + n) ((v + 10) % 2 ^ 32) e (added s n m) (omega arith) is number puts in
            rw next (subst (λ xs. IsNumbers c pos xs) (added_next s n (s + n) m _ refl at) (rw read at put));
      }

  -- it was added to all of them
  pub adding_end : (b : List ℕ) (left m : List (ℕ × ℕ)) → left ≡ [] → Adding b left → IsNumbers b₀ pos m → (before within behind : List (ℕ × ℕ)) → before ≡ map (entry_at u32_kind u32_kind 5 b₀) skipped → behind ≡ map (entry_at u32_kind u32_kind 5 b₀) later → m ≡ before ++ (within ++ behind) → IsNumbers b pos (before ++ (map plus_ten within ++ behind))
  adding_end b left m none so_far h before within behind front back all =
      let means = entry_at u32_kind u32_kind 5 b₀ in
      let long : length before ≡ length skipped = rw front (length-map skipped means) in
      let short : length behind ≡ length later = rw back (length-map later means) in
      let read = ap length (numbers_read b₀ pos m h) in
      let places = length-map (entry_places u32_kind u32_kind 5 b₀ pos) means in
      let split : length (entry_places u32_kind u32_kind 5 b₀ pos) ≡ length skipped + (length so_far.done + length later) = ap length (so_far.split ∙ rw none refl) ∙ length-append skipped (so_far.done ++ later) ∙ ap (λ n. length skipped + n) (length-append so_far.done later) in
      let parts : length m ≡ length before + (length within + length behind) = ap length all ∙ length-append before (within ++ behind) ∙ ap (λ n. length before + n) (length-append within behind) in
      let count : length within ≡ length so_far.done = omega (arith, long, short, read, places, split, parts) in
      subst (λ xs. IsNumbers b pos xs) (rw (← long, ← count, all) (added_within before within behind)) (so_far.list m h)

-- where none is skipped and none comes later, it was added to all of the list
pub added_all : (b₀ b : List ℕ) (pos : ℕ) (left m : List (ℕ × ℕ)) → left ≡ [] → Adding b₀ pos [] [] b left → IsNumbers b₀ pos m → IsNumbers b pos (map plus_ten m)
added_all b₀ b pos left m none so_far h =
    subst (λ xs. IsNumbers b pos xs) (append-nil (map plus_ten m)) (adding_end b₀ pos [] [] b left m none so_far h [] m [] refl refl (sym (append-nil m)))
