-- Whole archives that are opened, and made native again.
use Rattle.std.specs.Prelude.{ℕ, ◌≤◌, ◌<◌, List, length, Result}
use Rattle.rkyv_btree_writer.specs.declared.fault.EntryFault.{EntryFault}
use Rattle.rkyv_btree_portable.specs.Kind.{Kind}
use Rattle.rkyv_btree_portable.specs.declared.refusal.Refusal.{Refusal}
use Rattle.rkyv_btree_portable.specs.declared.refusal.Refusal.TheVariants.{TooLong}
use Rattle.rkyv_btree_portable.specs.RefusalText.{refusal_text}
use Rattle.rkyv_btree_format.specs.OwnBytes.{IsArchiveOf, own_at}
use Rattle.rkyv_btree_convert.specs.Deserializing.{IsRefused, deserialize_text}
use Rattle.rkyv_btree_convert.specs.declared.from_archive.FromArchiveFault.{FromArchiveFault}
use Rattle.rkyv_btree_convert.specs.declared.from_archive.FromArchiveFault.TheVariants.{Refused, NotMade}

-- what a fault says
abbrev pub archive_text : FromArchiveFault → List ℕ
archive_text (Refused refusal) = refusal_text refusal
archive_text (NotMade fault) = deserialize_text fault

-- bytes are an archive of no value
abbrev pub IsNoArchive : Kind → List ℕ → Type 0
IsNoArchive kind bytes = (v : kind.Value) → ¬ IsArchiveOf kind bytes v

module _ (kind : Kind) (Refuses : List ℕ → ℕ → ℕ → ℕ → Refusal → Type 0) where
  -- why bytes aren't opened: positions of 32 bits don't reach them all, or the last of them are refused as own bytes
  pub data IsUnopened (bytes : List ℕ) : Refusal → Type 0 where
    too_long : 4294967295 < length bytes → IsUnopened bytes TooLong
    refused : {e : Refusal} → length bytes ≤ 4294967295 → Refuses bytes 0 (own_at kind bytes) (own_at kind bytes) e → IsUnopened bytes e

  -- why no native value is made of them: they are no archive, or what the archive holds gives none
  abbrev pub IsUnmade : {H : Type 0} → (List ℕ → ℕ → Result H EntryFault) → List ℕ → FromArchiveFault → Type 0
  IsUnmade native bytes (Refused refusal) = IsUnopened bytes refusal × IsNoArchive kind bytes
  IsUnmade native bytes (NotMade fault) = ((v : kind.Value) × IsArchiveOf kind bytes v) × IsRefused (native bytes (own_at kind bytes)) fault
