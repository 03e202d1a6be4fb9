-- A `Ticket` in 56 bytes. Made of src/ticket.rt by tools/archived.py.
use Rattle.std.specs.Prelude.{◌≡◌, ◌<◌, ◌^◌, ◌∷◌, ◌++◌, [], ℕ, List, IsTrue, nat_eq, nat_lt, length, slice_index, suc, zero, if◌then◌else◌}
use Rattle.std.specs.Int.{to_le_bytes, w64}
use Rattle.std.proofs.Common.{refl, arith, ap, ◌∙◌}
use Rattle.rkyv_btree_base.specs.Bytes.{bytes_at, from_le}
use Rattle.rkyv_btree_base.specs.Rounding.{eight}
use Rattle.rkyv_btree_base.specs.laws.Natives.{u64_faithful}
use Rattle.rkyv_btree.specs.PlainValues.{PlainLayout, IsPlainLayout}
use Rattle.callers.specs.declared.ticket.Ticket.{Ticket}
use Rattle.callers.specs.declared.ticket.Priority.{Priority}
use Rattle.callers.specs.declared.ticket.Priority.TheVariants.{Low, Normal, High}

-- so many bytes from a position on
abbrev pub elements : ℕ → ℕ → List ℕ → List ℕ
elements zero at bytes = []
elements (suc n) at bytes = slice_index bytes at ∷ elements n (suc at) bytes

-- the number of a `Priority`: its place in the enum, from 0 on
abbrev pub priority_number : Priority → ℕ
priority_number Low = 0
priority_number Normal = 1
priority_number High = 2

-- the `Priority` with a number, or the last one
abbrev pub priority_of : ℕ → Priority
priority_of n =
    if nat_eq n 0 then Low else
    if nat_eq n 1 then Normal else High

-- the bytes of a `Ticket` from 0 to 32
unfoldable pub ticket_bytes_0 : Ticket → List ℕ
ticket_bytes_0 x = elements 32 0 x.hash

-- the bytes of a `Ticket` from 32 to 56
unfoldable pub ticket_bytes_32 : Ticket → List ℕ
ticket_bytes_32 x = (priority_number x.priority ∷ 0 ∷ 0 ∷ 0 ∷ 0 ∷ 0 ∷ 0 ∷ 0 ∷ [])
    ++ to_le_bytes w64 x.opened
    ++ elements 2 0 x.country
    ++ (0 ∷ 0 ∷ 0 ∷ 0 ∷ 0 ∷ 0 ∷ [])

-- which bytes are a `Ticket`, and which one: `hash` at 0, `priority` at 32, `opened` at 40, `country` at 48. Other
-- bytes are padding, which is written as 0.
abbrev pub ticket_layout : PlainLayout Ticket
ticket_layout = record {
  size = 56;
  align = 8;
  is_value = λ bytes. nat_lt (slice_index bytes 32) 3;
  value = λ bytes. record {
    hash = elements 32 0 bytes;
    priority = priority_of (slice_index bytes 32);
    opened = from_le (bytes_at bytes 40 8);
    country = elements 2 48 bytes;
  };
  bytes = λ x. ticket_bytes_0 x ++ ticket_bytes_32 x;
  IsIn = λ x. (length x.hash ≡ 32) × (x.opened < 2 ^ 64) × (length x.country ≡ 2);
}

-- the elements of an array are all of it
all_elements : (count : ℕ) (bytes : List ℕ) → length bytes ≡ count → elements count 0 bytes ≡ bytes
all_elements zero [] e = refl
all_elements (suc n) (b ∷ bytes) e = ap (λ (rest : List ℕ). b ∷ rest) (shifted n 0 b bytes ∙ all_elements n bytes (omega (arith, e)))
  where
    shifted : (n at b : ℕ) (bytes : List ℕ) → elements n (suc at) (b ∷ bytes) ≡ elements n at bytes
    shifted zero at b bytes = refl
    shifted (suc n) at b bytes = ap (λ (rest : List ℕ). slice_index bytes at ∷ rest) (shifted n (suc at) b bytes)
all_elements zero (b ∷ bytes) e = absurd (omega (arith, e))
all_elements (suc n) [] e = absurd (omega (arith, e))

-- the number of a `Priority` is one, and leads to it
valid_priority : (x : Priority) → IsTrue (nat_lt (priority_number x) 3)
valid_priority Low = refl
valid_priority Normal = refl
valid_priority High = refl

back_priority : (x : Priority) → priority_of (priority_number x) ≡ x
back_priority Low = refl
back_priority Normal = refl
back_priority High = refl

-- the bytes of a `Ticket` are so many, are a value, and are that one
pub ticket_lawful : IsPlainLayout ticket_layout
unfolding ticket_bytes_0 ticket_bytes_32
ticket_lawful = record {
  alignment = eight;
  whole = refl;
  small = omega arith;
  many = λ x. refl;
  valid = λ x. valid_priority x.priority;
  back = λ x is_in. λ i. record {
    hash = all_elements 32 x.hash is_in.0 i;
    priority = back_priority x.priority i;
    opened = u64_faithful.means x.opened is_in.1 i;
    country = all_elements 2 x.country is_in.2 i;
  };
}
