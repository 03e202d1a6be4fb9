-- Known bytes of writers of std, from one write to the next.
use Rattle.std.proofs.Common.{◌≡◌, ℕ, ◌+◌, ◌-◌, ◌%◌, ◌^◌, ◌≤◌, List, ◌++◌, length, take, drop, None, Some, Option, Result, Ok, Err, OnErr, refl, sym, ap, subst, ◌∙◌, arith, length-take, append_assoc, length-append, take-append-drop}
use Rattle.rkyv_btree_writer.specs.Writing.{Writing, Failed}
use lib.Seq.{take-add, take-take}
use Rattle.std.specs.Io.KnownBytes.{Keeps, Appends}
use Rattle.std.proofs.KnownBytes.{Appends-trans}

-- a write that took nothing
pub appends-kept : (a b c : Option (List ℕ)) (bs : List ℕ) → Appends a b bs → Keeps b c → Appends a c bs
appends-kept None b c bs p q = tt
appends-kept (Some x) None c bs p q = absurd p
appends-kept (Some x) (Some y) None bs p q = absurd q
appends-kept (Some x) (Some y) (Some z) bs p q = q ∙ p

-- a write of the rest that took n bytes
pub appends-more : (a b c : Option (List ℕ)) (bs : List ℕ) (count n : ℕ) → count ≤ length bs → Appends a b (take count bs) → Appends b c (take n (take (length bs - count) (drop count bs))) → n ≤ length bs - count → Appends a c (take (count + n) bs)
appends-more a b c bs count n inside p q fits =
    subst (Appends a c) (ap (λ l. take count bs ++ l) (take-take n (length bs - count) (drop count bs) fits) ∙ sym (take-add count n bs)) (Appends-trans a b c _ _ p q)

-- a write of which count bytes were taken, and which then failed
pub failed_behind : (s : Writing) (first taken more bytes : List ℕ) (pos failures count : ℕ)
    → record { base = pos - length (first ++ taken); contents = first ++ taken; failures = failures } ≡ s
    → more ≡ taken ++ take count bytes → count ≤ length bytes → length (first ++ taken) ≤ pos
    → Failed s bytes (record { base = pos + count - length (first ++ more); contents = first ++ more; failures = (failures + 1) % 2 ^ 64 })
failed_behind s first taken more bytes pos failures count is grew inside fits =
    let joined : first ++ more ≡ (first ++ taken) ++ take count bytes = ap (λ l. first ++ l) grew ∙ sym (append_assoc first taken (take count bytes)) in
    let t : Writing = record { base = pos + count - length (first ++ more); contents = first ++ more; failures = (failures + 1) % 2 ^ 64 } in
    subst (λ (s : Writing). Failed s bytes t) is (record {
      front = take count bytes;
      rest = drop count bytes;
      base = omega (arith, ap length joined, length-append (first ++ taken) (take count bytes), length-take count bytes);
      parts = sym (take-append-drop count bytes);
      contents = joined;
      failures = refl;
    })

pub on_err : {T E : Type 0} {P : Type 0} (r : Result T E) → P → OnErr r P
on_err (Ok x) p = tt
on_err (Err e) p = p
