-- Entries of a range in a source of bytes: what is written of them, and why they can't be read.
use Rattle.std.specs.Borrow.{Bor}
use Rattle.std.specs.Cmp.Lexicographic.{slice_cmp}
use Rattle.std.specs.Global.{Global}
use Rattle.std.specs.Ordering.{nat_cmp}
use Rattle.std.specs.Prelude.{◌≡◌, ℕ, ◌++◌, Bool, true, false, List, [], ◌∷◌, String, not}
use Rattle.std.specs.declared.cmp.Ordering.{Ordering}
use Rattle.std.specs.declared.ops.Bound.{Bound}
use Rattle.rkyv_btree_format.specs.OwnBytes.{own_at}
use Rattle.rkyv_btree_format.specs.Read.{read_map}
use Rattle.rkyv_btree_portable.specs.Refusing.{RefusesWhole}
use Rattle.rkyv_btree_portable.specs.Text.{text_kind}
use Rattle.rkyv_btree_strict.specs.Prefix.{begins_with}
use Rattle.rkyv_btree_source.specs.LastEntry.{LastFails}
use Rattle.rkyv_btree_unverified.specs.EntriesFrom.{entries_between, until}
use Rattle.rkyv_btree_unverified.specs.Walks.{Fails}
use Rattle.btreearc_lines.specs.declared.fault.ProgramFault.{ProgramFault}
use Rattle.btreekv_commands.specs.Commands.{FirstEntry, LastEntry, Outputs}
use Rattle.btreekv_commands.specs.Forms.{entry_line}
use Rattle.btreekv_commands.specs.Lines.{Entry}
use Rattle.btreekv_commands.specs.Opening.{IsInput, texts}
use Rattle.btreekv_commands.specs.Sourced.{IsLookupFault}
use Rattle.btreekv_commands.specs.declared.command.Command.{Command}
use Rattle.btreekv_commands.specs.declared.command.Command.TheVariants.{First, Last, Prefix, Range}
use Rattle.btreekv_commands.specs.declared.forms.Form.{Form}

-- of entries those up to the first whose key doesn't begin with a prefix
abbrev pub sought : List ℕ → List Entry → List Entry
sought prefix entries = until (λ e. not (begins_with prefix e)) entries

-- the first entry that is sought is written, or there is none
abbrev pub PushesNext : (prefix : List ℕ) → Form → (old new : List Entry) → (before after : List ℕ) → Bool → Type 0
PushesNext prefix form old new before after true = (e : Entry) × (sought prefix old ≡ e ∷ sought prefix new) × (after ≡ before ++ entry_line form e)
PushesNext prefix form old new before after false = (sought prefix old ≡ []) × (after ≡ before)

-- why the entries of the map at a position of these bytes can't be read: what is refused is there, and no map is
abbrev pub IsRangeFault : List ℕ → ℕ → ProgramFault → Type 0
IsRangeFault bytes at fault = IsLookupFault (Fails text_kind text_kind 5 bytes (RefusesWhole text_kind) (RefusesWhole text_kind) at) fault

-- and why the last one can't be read: something is refused on the way to it
abbrev pub IsLastFault : List ℕ → ℕ → ProgramFault → Type 0
IsLastFault bytes at fault = IsLookupFault (LastFails text_kind text_kind 5 bytes at (RefusesWhole text_kind) (RefusesWhole text_kind)) fault

-- a text compared with the key at a position of a buffer
abbrev pub text_compared_at : Bor (List ℕ) → List ℕ → ℕ → Ordering
text_compared_at text buffer at = slice_cmp nat_cmp text.now (text_kind.read buffer at)

-- the entries of the map at a position of these bytes that are sought: to which the pointers lead, from the low bound on, up to the first
-- past the high bound, or the first whose key begins with another text
abbrev pub sought_in : List ℕ → ℕ → (low high : Bound (Bor (List ℕ))) → (prefix : List ℕ) → List Entry
sought_in bytes at low high prefix = sought prefix (entries_between text_kind text_kind 5 text_compared_at bytes low high at)

-- what is written of an entry at an end of the list, in a source of these bytes, and with which status
pub record WritesEnd (command : Command) (IsEnd : List Entry → List ℕ → ℕ → Type 0) (bytes text : List ℕ) (status : ℕ) : Type 0 where
  -- of a file that the program opens it is what the command writes that reads all of it
  pub archived : (entries : List Entry) → IsInput bytes entries → Outputs command bytes text status
  -- of all bytes it is that of the entries to which the pointers lead
  pub reached : IsEnd (read_map text_kind text_kind 5 bytes (own_at texts bytes)) text status

-- of the first entry, and of the last one
abbrev pub WritesFirst : List ℕ → Form → List ℕ → ℕ → Type 0
WritesFirst bytes form text status = WritesEnd (First form) (FirstEntry form) bytes text status

abbrev pub WritesLast : List ℕ → Form → List ℕ → ℕ → Type 0
WritesLast bytes form text status = WritesEnd (Last form) (LastEntry form) bytes text status

-- what is written of the keys from one to another, in a source of these bytes
pub record WritesRange (bytes : List ℕ) (low high : String Global) (form : Form) (text : List ℕ) : Type 0 where
  -- of a file that the program opens it is what the command writes that reads all of it
  pub archived : (entries : List Entry) → IsInput bytes entries → Outputs (Range low high form) bytes text 0

-- and of those that begin with a text
pub record WritesPrefix (bytes : List ℕ) (prefix : String Global) (form : Form) (text : List ℕ) : Type 0 where
  pub archived : (entries : List Entry) → IsInput bytes entries → Outputs (Prefix prefix form) bytes text 0
