-- What bytes that begin with a header begin with.
use Rattle.std.proofs.Common.{arith, ◌≡◌, ◌≢◌, ◌∙◌, ℕ, ◌+◌, ◌-◌, ◌<◌, ◌≤◌, ◌^◌, List, ◌++◌, length, take, drop, codes, refl, sym, ap, subst, Bor, Result, Ok, Err, IfSome, IsUtf8}
use Rattle.std.specs.Result.{MatchResult, result_ok}
use Rattle.std.proofs.Math.Seq.{take-append_seam}
use Rattle.std.proofs.lemmas.List.{append_assoc, append_cancel_left, take-append-drop, length-take-le}
use Rattle.std.proofs.lemmas.Nat.{from_le_bytes-to_le_bytes_2, from_le_bytes-to_le_bytes_4}
use Rattle.std.specs.Int.{from_le_bytes, to_le_bytes, w16, w32}
use Rattle.rkyv_btree_portable.specs.Bytes.{zeros}
use Rattle.rkyv_btree_portable.specs.Rounding.{round_up}
use Rattle.rkyv_btree_typed.specs.TypeHeader.{HasHeader, HasAnyHeader, HasOtherVersion, IsNamed, header, named, versioned}

-- of the same bytes, two fronts of one length are the same, and what comes after them
pub split_same : (xs ys a b : List ℕ) → length xs ≡ length ys → xs ++ a ≡ ys ++ b → (xs ≡ ys) × (a ≡ b)
split_same xs ys a b l e =
    let same : xs ≡ ys = sym (take-append_seam xs a) ∙ (ap (λ z. take (length xs) z) e ∙ (ap (λ n. take n (ys ++ b)) l ∙ take-append_seam ys b)) in
    (same, append_cancel_left ys a b (subst (λ (z : List ℕ). z ++ a ≡ ys ++ b) same e))

pub one_version : (v w : ℕ) (x y : List ℕ) → v < 2 ^ 16 → w < 2 ^ 16 → versioned v ++ x ≡ versioned w ++ y → (v ≡ w) × (x ≡ y)
one_version v w x y small other e =
    let parts = split_same (versioned v) (versioned w) x y refl e in
    let number = append_cancel_left (codes "rkyvbt") (to_le_bytes w16 v) (to_le_bytes w16 w) parts.0 in
    (sym (from_le_bytes-to_le_bytes_2 v small) ∙ (ap (from_le_bytes w16) number ∙ from_le_bytes-to_le_bytes_2 w other), parts.1)

pub one_length : (m n : ℕ) (x y : List ℕ) → m < 2 ^ 32 → n < 2 ^ 32 → to_le_bytes w32 m ++ x ≡ to_le_bytes w32 n ++ y → (m ≡ n) × (x ≡ y)
one_length m n x y small other e =
    let parts = split_same (to_le_bytes w32 m) (to_le_bytes w32 n) x y refl e in
    (sym (from_le_bytes-to_le_bytes_4 m small) ∙ (ap (from_le_bytes w32) parts.0 ∙ from_le_bytes-to_le_bytes_4 n other), parts.1)

-- the name after a version is that of the header
pub named_header : (name rest bytes : List ℕ) → bytes ≡ versioned 1 ++ rest → IsNamed name rest → HasHeader name bytes
unfolding header
named_header name rest bytes e h = record { text = h.text; fits = h.fits; rest = h.rest; parts = e ∙ (ap (λ z. versioned 1 ++ z) h.parts ∙ sym (append_assoc (versioned 1) (named name) h.rest)) }

pub header_named : (name rest bytes : List ℕ) → bytes ≡ versioned 1 ++ rest → HasHeader name bytes → IsNamed name rest
unfolding header
header_named name rest bytes e h = record { text = h.text; fits = h.fits; rest = h.rest; parts = append_cancel_left (versioned 1) rest (named name ++ h.rest) (sym e ∙ (h.parts ∙ append_assoc (versioned 1) (named name) h.rest)) }

-- bytes of no version have no header, nor have those of another version
pub unversioned : (bytes : List ℕ) → ((version : ℕ) (rest : List ℕ) → bytes ≢ versioned version ++ rest) → ¬ HasAnyHeader bytes
unfolding header
unversioned bytes none = λ h. none 1 (named h.0 ++ h.1.rest) (h.1.parts ∙ append_assoc (versioned 1) (named h.0) h.1.rest)

pub other_unheaded : (bytes : List ℕ) (version : ℕ) → HasOtherVersion bytes version → ¬ HasAnyHeader bytes
unfolding header
other_unheaded bytes version other = λ h. other.1 (one_version version 1 other.2.0 (named h.0 ++ h.1.rest) other.0 (omega arith) (sym other.2.1 ∙ (h.1.parts ∙ append_assoc (versioned 1) (named h.0) h.1.rest))).0

-- bytes of version 1 have no other
pub no_other : (rest bytes : List ℕ) → bytes ≡ versioned 1 ++ rest → (version : ℕ) → ¬ HasOtherVersion bytes version
no_other rest bytes e version = λ other. other.1 (one_version version 1 other.2.0 rest other.0 (omega arith) (sym other.2.1 ∙ e)).0

-- a header has one name
pub one_name : (a b bytes : List ℕ) → HasHeader a bytes → HasHeader b bytes → a ≡ b
unfolding header
one_name a b bytes h k =
    let after : (name : List ℕ) → List ℕ → List ℕ = λ name rest. (name ++ zeros (round_up (12 + length name) 16 - (12 + length name))) ++ rest in
    let first = append_cancel_left (versioned 1) (named a ++ h.rest) (named b ++ k.rest) (sym (append_assoc (versioned 1) (named a) h.rest) ∙ (sym h.parts ∙ (k.parts ∙ append_assoc (versioned 1) (named b) k.rest))) in
    let parts = one_length (length a) (length b) (after a h.rest) (after b k.rest) h.fits k.fits (sym (append_assoc (to_le_bytes w32 (length a)) _ h.rest) ∙ (first ∙ append_assoc (to_le_bytes w32 (length b)) _ k.rest)) in
    (split_same a b _ _ parts.0 (sym (append_assoc a _ h.rest) ∙ (parts.1 ∙ append_assoc b _ k.rest))).0

-- a length, so many bytes of UTF-8, and the zeros are a name
pub named_of_parts : (bytes rest name padding end : List ℕ) (len count : ℕ) → len < 2 ^ 32 → len ≤ length rest → bytes ≡ to_le_bytes w32 len ++ rest
    → name ≡ take len rest → padding ≡ drop len rest → padding ≡ zeros count ++ end → count ≡ round_up (12 + len) 16 - (12 + len) → IsUtf8 name → IsNamed name bytes
named_of_parts bytes rest name padding end len count small room e front back zeroed counted text =
    let long : length name ≡ len = ap length front ∙ length-take-le len rest room in
    let whole : rest ≡ (name ++ zeros count) ++ end = sym (take-append-drop len rest) ∙ (ap (λ x. x ++ drop len rest) (sym front) ∙ (ap (λ y. name ++ y) (sym back ∙ zeroed) ∙ sym (append_assoc name (zeros count) end))) in
    record {
      text = text;
      fits = omega (arith, long, small);
      rest = end;
      parts = e ∙ (ap (λ n. to_le_bytes w32 n ++ rest) (sym long) ∙ (ap (λ z. to_le_bytes w32 (length name) ++ z) (whole ∙ ap (λ n. (name ++ zeros n) ++ end) (counted ∙ ap (λ n. round_up (12 + n) 16 - (12 + n)) (sym long))) ∙ sym (append_assoc (to_le_bytes w32 (length name)) (name ++ zeros (round_up (12 + length name) 16 - (12 + length name))) end)));
    }

-- a text that was read from bytes is one that was found there
pub text_found : {Fault : Type 0} (name bytes : List ℕ) (read : Result (Bor (List ℕ)) Fault) (P : Fault → Type 0) → MatchResult read (λ text. (text.now ≡ name) × IsUtf8 name) P → (IsUtf8 name → IsNamed name bytes) → IfSome (result_ok read) (λ text. IsNamed text.now bytes)
text_found name bytes (Ok text) P h found = subst (λ (z : List ℕ). IsNamed z bytes) (sym h.0) (found h.1)
text_found name bytes (Err fault) P h found = tt

-- what is appended in turn is a header
pub header_made : (name first second third fourth fifth : List ℕ) (count : ℕ) → first ≡ codes "rkyvbt" → second ≡ first ++ to_le_bytes w16 1 → third ≡ second ++ to_le_bytes w32 (length name)
    → fourth ≡ third ++ name → fifth ≡ fourth ++ zeros count → count ≡ round_up (12 + length name) 16 - (12 + length name) → fifth ≡ header name
unfolding header
header_made name first second third fourth fifth count e1 e2 e3 e4 e5 counted =
    let len = to_le_bytes w32 (length name) in
    let start : second ≡ versioned 1 = e2 ∙ ap (λ z. z ++ to_le_bytes w16 1) e1 in
    let whole : fifth ≡ ((versioned 1 ++ len) ++ name) ++ zeros count = e5 ∙ ap (λ z. z ++ zeros count) (e4 ∙ ap (λ z. z ++ name) (e3 ∙ ap (λ z. z ++ len) start)) in
    whole ∙ (append_assoc (versioned 1 ++ len) name (zeros count) ∙ (append_assoc (versioned 1) len (name ++ zeros count) ∙ ap (λ n. versioned 1 ++ (len ++ (name ++ zeros n))) counted))

-- bytes of which the first ones begin with a header begin with it
pub header_of_first : (name bytes : List ℕ) (n : ℕ) → HasHeader name (take n bytes) → HasHeader name bytes
header_of_first name bytes n h =
    record { text = h.text; fits = h.fits; rest = h.rest ++ drop n bytes; parts = sym (take-append-drop n bytes) ∙ (ap (λ z. z ++ drop n bytes) h.parts ∙ append_assoc (header name) h.rest (drop n bytes)) }
