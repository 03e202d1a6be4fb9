-- What a lookup in a source returns: what one in its bytes does, or a fault of reading.
use Rattle.std.specs.Prelude.{◌≡◌, ℕ, ◌+◌, ◌*◌, ◌≤◌, ◌<◌, IsTrue, List, length, min, Result, Ok, Err}
use Rattle.rkyv_btree_portable.specs.Bytes.{bytes_at}
use Rattle.rkyv_btree_portable.specs.Kind.{Kind}
use Rattle.rkyv_btree_portable.specs.declared.refusal.Refusal.{Refusal}
use Rattle.rkyv_btree_portable.specs.Views.{stands}
use Rattle.rkyv_btree_source.specs.declared.fault.SourceFault.{SourceFault}
use Rattle.rkyv_btree_source.specs.declared.fault.SourceFault.TheVariants.{Refused, Read, NoRoom, OverBudget}

-- where the bytes are refused, P holds of the refusal
abbrev pub IfRefused : {E : Type 0} → (Refusal → Type 0) → SourceFault E → Type 0
IfRefused P (Refused e) = P e
IfRefused P (Read e) = Unit {0}
IfRefused P (NoRoom n) = Unit {0}
IfRefused P OverBudget = Unit {0}

-- the cause of a fault of a lookup that reads nothing after `end`: it needs more than the `room` bytes that are lent, those of a node
-- and at most `end` more, or the `left` bytes of the budget are fewer than `end`
abbrev pub IsCaused : {E : Type 0} → (end node room left : ℕ) → SourceFault E → Type 0
IsCaused end node room left (Refused e) = Unit {0}
IsCaused end node room left (Read e) = Unit {0}
IsCaused end node room left (NoRoom n) = (room < n) × (node ≤ n) × (n ≤ node + end)
IsCaused end node room left OverBudget = left < end

-- the most bytes that a lookup in nodes of E entries reads, where no read is longer than `end`: the map's own bytes, and on each of 32
-- levels a node, its keys and a value
unfoldable pub most_read : (E end : ℕ) → ℕ
most_read E end = (32 * (E + 2) + 1) * end

-- the source failed, or the budget is too small, and then P holds
abbrev pub IsOfReading : {E : Type 0} → Type 0 → SourceFault E → Type 0
IsOfReading P (Refused e) = ⊥
IsOfReading P (Read e) = Unit {0}
IsOfReading P (NoRoom n) = ⊥
IsOfReading P OverBudget = P

-- the source failed, or the bytes are refused, and then P holds of the refusal
abbrev pub IsOfSize : {E : Type 0} → (Refusal → Type 0) → SourceFault E → Type 0
IsOfSize P (Refused e) = P e
IsOfSize P (Read e) = Unit {0}
IsOfSize P (NoRoom n) = ⊥
IsOfSize P OverBudget = ⊥

-- P holds of the result, whose value is taken by a map, or it is a fault of reading, of which P says nothing
abbrev pub GivesBy : {A B E : Type 0} → (A → B) → (Result B Refusal → Type 0) → Result A (SourceFault E) → Type 0
GivesBy f P (Ok a) = P (Ok (f a))
GivesBy f P (Err fault) = IfRefused (λ e. P (Err e)) fault

-- c is the part of b that starts at a position
pub record IsPart (b c : List ℕ) (at : ℕ) : Type 0 where
  pub short : length b ≤ 4294967295
  pub inside : at + length c ≤ length b
  pub same : c ≡ bytes_at b at (length c)

-- the value at a position of b was brought to a place of a buffer: it is valid in b, and the buffer's is the same; or it is refused
abbrev pub Brings : {E : Type 0} → (kind : Kind) → (List ℕ → ℕ → ℕ → ℕ → Refusal → Type 0) → List ℕ → ℕ → List ℕ → Result ℕ (SourceFault E) → Type 0
Brings kind Refuses b at room (Ok place) = IsTrue (stands kind b at) × (kind.read room place ≡ kind.read b at)
Brings kind Refuses b at room (Err fault) = IfRefused (Refuses b 0 at at) fault

-- P holds of the source's own error
abbrev pub IfRead : {E : Type 0} → (E → Type 0) → SourceFault E → Type 0
IfRead P (Refused e) = Unit {0}
IfRead P (Read e) = P e
IfRead P (NoRoom n) = Unit {0}
IfRead P OverBudget = Unit {0}

-- after a fault of reading, which refuses nothing, P holds
abbrev pub IfUnread : {X : Type 0} → Type 0 → SourceFault X → Type 0
IfUnread P (Refused r) = Unit {0}
IfUnread P (Read e) = P
IfUnread P (NoRoom n) = P
IfUnread P OverBudget = P

-- the cause of a fault of a call that reads nothing after `end`: it needs more than the `room` bytes that are lent, those of a node and at
-- most `end` more for each of a key and a value, or the `left` bytes of the budget are fewer than there are up to the end
abbrev pub IsTooSmall : {E : Type 0} → (end node room left : ℕ) → SourceFault E → Type 0
IsTooSmall end node room left (Refused e) = Unit {0}
IsTooSmall end node room left (Read e) = Unit {0}
IsTooSmall end node room left (NoRoom n) = (room < n) × (node ≤ n) × (n ≤ node + 2 * end)
IsTooSmall end node room left OverBudget = left < end

-- how many bytes of a lent buffer a call may use: those of a node, and as many as positions reach
abbrev pub usable : (node lent : ℕ) → ℕ
usable node lent = min lent (node + 4294967295)
