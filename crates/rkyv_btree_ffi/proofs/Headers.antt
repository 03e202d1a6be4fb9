-- Headers of typed files: what is written in turn, and that no two causes hold.
use Rattle.std.proofs.Common.{arith, ◌≡◌, ◌≢◌, ◌↔◌, ◌∙◌, ℕ, ◌+◌, ◌-◌, ◌≤◌, List, ◌++◌, length, take, drop, codes, decimal, refl, sym, ap, subst, Option, Some, inl, inr}
use Rattle.std.proofs.Math.Seq.{take-append_seam}
use Rattle.std.proofs.lemmas.List.{append_assoc, drop-replicate, length-append}
use borrow.Rule.Slice.PartMut.{put_mid}
use Rattle.std.proofs.lemmas.Fmt.{decimal_digit}
use Rattle.std.specs.Int.{to_le_bytes, w32}
use Rattle.rkyv_btree_portable.specs.Bytes.{bytes_at, zeros}
use Rattle.rkyv_btree_portable.specs.Rounding.{round_up}
use Rattle.rkyv_btree_typed.proofs.Headers.{one_name, other_unheaded}
use Rattle.rkyv_btree_typed.specs.TypeHeader.{HasHeader, HasOtherVersion, IsUnheaded, header, named, versioned}
use Rattle.rkyv_btree_typed.specs.declared.header.HeaderFault.TheVariants.{NoHeader, OtherVersion}
use Rattle.rkyv_btree_ffi.specs.Headers.{HasOtherName, IsMisheaded, type_name}
use Rattle.rkyv_btree_ffi.specs.declared.map_type.MapType.{MapType}
use Rattle.std.specs.Option.{option_map}
use Rattle.std.specs.Prelude.{unwrap_or}
use Rattle.rkyv_btree_ffi.specs.declared.codes.BtreeRefusal.{BtreeRefusal}

-- the digits of the entries a node
pub five : decimal 5 ≡ codes "5"
five = decimal_digit 5 (omega arith)

-- what stands before the name in a header
abbrev front : List ℕ → List ℕ
front name = versioned 1 ++ to_le_bytes w32 (length name)

-- the zeros after a name of such a length
padding : (n : ℕ) → 5 ≤ n → n ≤ 20 → round_up (12 + n) 16 - (12 + n) ≡ 20 - n
unfolding round_up
padding n some few = omega arith

-- a header is written in three parts over zeros
pub header_made : (name first second third : List ℕ) → first ≡ versioned 1 → second ≡ to_le_bytes w32 (length name) → third ≡ name → 5 ≤ length name → length name ≤ 20
    → put_mid 12 (12 + length name - 12) (put_mid 8 4 (first ++ zeros 24) second) third ≡ header name
unfolding header
header_made name first second third e1 e2 e3 some few =
    let n = length name in
    let le = to_le_bytes w32 n in
    let written : put_mid 8 4 (first ++ zeros 24) second ≡ front name ++ zeros 20 = ap (λ x. put_mid 8 4 (x ++ zeros 24) second) e1 ∙ ap (λ y. put_mid 8 4 (versioned 1 ++ zeros 24) y) e2 in
    let count : 12 + n - 12 ≡ n = omega arith in
    let rest : drop (12 + n - 12) (zeros 20) ≡ zeros (round_up (12 + n) 16 - (12 + n)) = ap (λ k. drop k (zeros 20)) count ∙ (drop-replicate n 20 0 ∙ ap zeros (sym (padding n some few))) in
    ap (λ x. put_mid 12 (12 + n - 12) x third) written
    ∙ (ap (λ x. front name ++ (x ++ drop (12 + n - 12) (zeros 20))) e3
    ∙ (ap (λ x. front name ++ (name ++ x)) rest ∙ append_assoc (versioned 1) le (name ++ zeros (round_up (12 + n) 16 - (12 + n)))))

-- what stands before the name of a header, and what after it
parts_of : (name bytes : List ℕ) → HasHeader name bytes → (after : List ℕ) × (bytes ≡ front name ++ (name ++ after))
unfolding header
parts_of name bytes h =
    let le = to_le_bytes w32 (length name) in
    let pad = zeros (round_up (12 + length name) 16 - (12 + length name)) in
    (pad ++ h.rest, h.parts ∙ (append_assoc (versioned 1) (named name) h.rest ∙ (ap (λ x. versioned 1 ++ x) (append_assoc le (name ++ pad) h.rest ∙ ap (λ x. le ++ x) (append_assoc name pad h.rest)) ∙ sym (append_assoc (versioned 1) le (name ++ (pad ++ h.rest))))))

-- the name of a header begins at position 12, and ends within the bytes
pub name_place : (name bytes : List ℕ) → HasHeader name bytes → bytes_at bytes 12 (length name) ≡ name
name_place name bytes h =
    let parts = parts_of name bytes h in
    ap (λ b. take (length name) (drop 12 b)) parts.1 ∙ take-append_seam name parts.0

pub name_inside : (name bytes : List ℕ) → HasHeader name bytes → 12 + length name ≤ length bytes
name_inside name bytes h =
    let parts = parts_of name bytes h in
    let before : length (front name) ≡ 12 = refl in
    omega (arith, ap length parts.1, length-append (front name) (name ++ parts.0), length-append name parts.0, before)

-- the text by a number is the name of its type
pub named_is : (name : List ℕ) (o : Option MapType) (t : MapType) → Some name ≡ option_map type_name o → o ≡ Some t → name ≡ type_name t
named_is name o t e is = ap (λ (x : Option (List ℕ)). unwrap_or x name) (e ∙ ap (option_map type_name) is)

module _ (name bytes : List ℕ) where
  -- each code comes exactly where its cause is
  pub record AreExact (code : ℕ) : Type 0 where
    pub untyped : (code ≡ 48) ↔ IsUnheaded bytes NoHeader
    pub other_version : (code ≡ 49) ↔ ((version : ℕ) × HasOtherVersion bytes version)
    pub other_type : (code ≡ 50) ↔ HasOtherName name bytes

  pub headed : HasHeader name bytes → AreExact 0
  headed h = record {
    untyped = (λ no. absurd (omega (arith, no)), λ none. absurd (none.0 (name, h)));
    other_version = (λ no. absurd (omega (arith, no)), λ v. absurd (other_unheaded bytes v.0 v.1 (name, h)));
    other_type = (λ no. absurd (omega (arith, no)), λ o. absurd (o.2 (one_name o.0 name bytes o.1 h)));
  }

  unheaded : IsUnheaded bytes NoHeader → AreExact 48
  unheaded none = record {
    untyped = (λ _. none, λ _. refl);
    other_version = (λ no. absurd (omega (arith, no)), λ v. absurd (none.1 v.0 v.1));
    other_type = (λ no. absurd (omega (arith, no)), λ o. absurd (none.0 (o.0, o.1)));
  }

  versioned_other : (version : ℕ) → HasOtherVersion bytes version → AreExact 49
  versioned_other version h = record {
    untyped = (λ no. absurd (omega (arith, no)), λ none. absurd (none.1 version h));
    other_version = (λ _. (version, h), λ _. refl);
    other_type = (λ no. absurd (omega (arith, no)), λ o. absurd (other_unheaded bytes version h (o.0, o.1)));
  }

  named_other : (found : List ℕ) → HasHeader found bytes → found ≢ name → AreExact 50
  named_other found h differs = record {
    untyped = (λ no. absurd (omega (arith, no)), λ none. absurd (none.0 (found, h)));
    other_version = (λ no. absurd (omega (arith, no)), λ v. absurd (other_unheaded bytes v.0 v.1 (found, h)));
    other_type = (λ _. (found, h, differs), λ _. refl);
  }

  pub misheaded : (why : BtreeRefusal) → IsMisheaded name bytes why → AreExact why.code
  misheaded why (inl (NoHeader, h, e)) = subst (λ (w : BtreeRefusal). AreExact w.code) (sym e) (unheaded h)
  misheaded why (inl (OtherVersion version, h, e)) = subst (λ (w : BtreeRefusal). AreExact w.code) (sym e) (versioned_other version h)
  misheaded why (inr (len, (_, h, differs), e)) = subst (λ (w : BtreeRefusal). AreExact w.code) (sym e) (named_other (bytes_at bytes 12 len) h differs)
