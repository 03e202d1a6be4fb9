-- Entries at the ends of typed maps and between two keys, in a source of bytes: what is written of them, and why they can't be read.
use Rattle.std.specs.Prelude.{◌≡◌, ℕ, ◌++◌, Bool, true, false, List, [], ◌∷◌, string_bytes}
use Rattle.rkyv_btree_format.specs.OwnBytes.{own_at}
use Rattle.rkyv_btree_format.specs.Read.{read_map}
use Rattle.rkyv_btree_portable.specs.Kind.{Kind}
use Rattle.rkyv_btree_portable.specs.declared.refusal.Refusal.{Refusal}
use Rattle.rkyv_btree_source.specs.LastEntry.{LastFails}
use Rattle.rkyv_btree_unverified.specs.Walks.{Fails}
use Rattle.rkyv_btree_verify.specs.Map.{map_kind}
use Rattle.btreekv_commands.specs.Commands.{FirstEntry, LastEntry}
use Rattle.btreekv_commands.specs.Forms.{entry_line}
use Rattle.btreekv_commands.specs.Lines.{Entry}
use Rattle.btreekv_commands.specs.Sourced.{IsLookupFault}
use Rattle.btreekv_commands.specs.declared.forms.Form.{Form}
use Rattle.btreekv_types.specs.Commands.{Outputs}
use Rattle.btreekv_types.specs.Natives.{IsNoText}
use Rattle.btreekv_types.specs.Typed.{IsTypedInput, Items, spelled}
use Rattle.btreekv_types.specs.declared.command.TypedCommand.{TypedCommand}
use Rattle.btreekv_types.specs.declared.command.TypedCommand.TheVariants as command
use Rattle.btreekv_types.specs.declared.fault.TypedFault.{TypedFault}
use Rattle.btreekv_types.specs.declared.fault.TypedFault.TheVariants.{Program, NoLow, NoHigh}
use Rattle.btreekv_types.specs.declared.ranged.Part.{Part}
use Rattle.btreekv_types.specs.declared.ranged.Part.TheVariants.{First, Last, Between}

-- the command that writes a part of the entries
abbrev pub command_of : Part → Form → TypedCommand
command_of First form = command.First form
command_of Last form = command.Last form
command_of (Between low high) form = command.Range low high form

-- the first entry that is to come is written, or none is to come
abbrev pub PushesNext : Form → (old new : List Entry) → (before after : List ℕ) → Bool → Type 0
PushesNext form old new before after true = (e : Entry) × (old ≡ e ∷ new) × (after ≡ before ++ entry_line form e)
PushesNext form old new before after false = (old ≡ []) × (after ≡ before)

module _ (K V : Kind) (name : List ℕ) (keys : Items K.Value) (values : Items V.Value) (KR VR : List ℕ → ℕ → ℕ → ℕ → Refusal → Type 0) (bytes : List ℕ) where
  -- the entries to which the pointers lead
  abbrev pub reached : List Entry
  reached = spelled keys values (read_map K V 5 bytes (own_at (map_kind K V 5) bytes))

  -- an end of the list is that of these, in any bytes
  abbrev pub IsReached : Part → Form → List ℕ → ℕ → Type 0
  IsReached First form text status = FirstEntry form reached text status
  IsReached Last form text status = LastEntry form reached text status
  IsReached (Between low high) form text status = Unit {0}

  -- what is written of a part of the entries, in a source of these bytes
  pub record WritesPart (part : Part) (form : Form) (text : List ℕ) (status : ℕ) : Type 0 where
    -- of a file that the command accepts it is what the command writes that reads all of it
    pub archived : (entries : List (K.Value × V.Value)) → IsTypedInput K V name bytes entries
        → Outputs K V name keys values (command_of part form) bytes text status
    pub ends : IsReached part form text status

  -- why nothing is written: something is refused on the way, and no map is; or a bound isn't the text of a key
  abbrev pub FailsToWrite : Part → TypedFault → Type 0
  FailsToWrite Last (Program fault) = IsLookupFault (LastFails K V 5 bytes (own_at (map_kind K V 5) bytes) KR VR) fault
  FailsToWrite _ (Program fault) = IsLookupFault (Fails K V 5 bytes KR VR (own_at (map_kind K V 5) bytes)) fault
  FailsToWrite (Between low high) NoLow = IsNoText keys (string_bytes low)
  FailsToWrite (Between low high) NoHigh = IsNoText keys (string_bytes high)
  FailsToWrite _ _ = ⊥
