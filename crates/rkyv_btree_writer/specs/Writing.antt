-- Writers, and what writes leave.
use Rattle.std.specs.Prelude.{◌≡◌, ℕ, ◌+◌, ◌%◌, ◌^◌, ◌<◌, ◌≤◌, ◌⊎◌, Bool, true, false, List, [], ◌∷◌, ◌++◌, length}
use Rattle.rkyv_btree_writer.specs.declared.fault.Fault.{Fault}
use Rattle.rkyv_btree_writer.specs.declared.fault.Fault.TheVariants.{Length, LengthOverflow, PositionOverflow, OffsetOverflow, Writer, Memory, Entry, OutOfOrder}

-- a writer: the position of its first byte, its bytes, and how many writes have failed, modulo 2 ^ 64
pub record Writing : Type 0 where
  pub base : ℕ
  pub contents : List ℕ
  pub failures : ℕ

-- the position of the next byte
abbrev pub position : Writing → ℕ
position s = s.base + length s.contents

-- state t is s with these bytes after it
pub record Appended (s : Writing) (bytes : List ℕ) (t : Writing) : Type 0 where
  pub base : t.base ≡ s.base
  pub contents : t.contents ≡ s.contents ++ bytes
  pub failures : t.failures ≡ s.failures

-- a write of these bytes failed: state t is s with a beginning of them after it
pub record Failed (s : Writing) (bytes : List ℕ) (t : Writing) : Type 0 where
  pub front : List ℕ
  pub rest : List ℕ
  pub base : t.base ≡ s.base
  pub parts : bytes ≡ front ++ rest
  pub contents : t.contents ≡ s.contents ++ front
  pub failures : t.failures ≡ (s.failures + 1) % 2 ^ 64

-- no write ends past this position
abbrev pub last_end : ℕ
last_end = 4294967295

-- a write, and whether each pointer in it reaches its target
pub record Write : Type 0 where
  pub bytes : List ℕ
  pub reaches : Bool

-- writes that led to a state end at the last position at most, if there are any
abbrev pub EndInReach : List Write → Writing → Type 0
EndInReach writes t = (writes ≡ []) ⊎ (position t ≤ last_end)

-- what writes append
abbrev pub appended : List Write → List ℕ
appended [] = []
appended (w ∷ ws) = w.bytes ++ appended ws

-- each pointer of the writes reaches its target
abbrev pub AllReach : List Write → Type 0
AllReach [] = Unit {0}
AllReach (w ∷ ws) = (w.reaches ≡ true) × AllReach ws

-- from state s the writes led to state t, each with its pointers' targets in reach
pub record Wrote (s : Writing) (writes : List Write) (t : Writing) : Type 0 where
  pub done : Appended s (appended writes) t
  pub reach : AllReach writes

-- why the next write isn't made at state s, and the state that is left
abbrev pub Refused : {E : Type 0} → Fault E → Writing → Write → Writing → Type 0
Refused PositionOverflow s next t = (t ≡ s) × (last_end < position s + length next.bytes)
Refused OffsetOverflow s next t = (t ≡ s) × (next.reaches ≡ false)
Refused (Writer error) s next t = Failed s next.bytes t
Refused (Length mismatch) s next t = ⊥
Refused LengthOverflow s next t = ⊥
Refused (Memory error) s next t = ⊥
Refused (Entry fault) s next t = ⊥
Refused (OutOfOrder index) s next t = ⊥

-- from state s some of the writes were made, and the next was refused
pub record Stopped {E : Type 0} (s : Writing) (writes : List Write) (fault : Fault E) (t : Writing) : Type 0 where
  pub made : List Write
  pub next : Write
  pub rest : List Write
  pub mid : Writing
  pub parts : writes ≡ made ++ next ∷ rest
  pub wrote : Wrote s made mid
  pub refused : Refused fault mid next t
