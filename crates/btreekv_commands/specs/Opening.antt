-- Archives of texts to texts, their headers, and why other bytes are refused.
use Rattle.std.specs.Prelude.{◌≡◌, ℕ, List, length}
use Rattle.std.specs.Cmp.Lexicographic.{slice_cmp}
use Rattle.std.specs.Ordering.{nat_cmp}
use Rattle.rkyv_btree_format.specs.Increasing.{Increasing}
use Rattle.rkyv_btree_portable.specs.Kind.{Kind}
use Rattle.rkyv_btree_verify.specs.Map.{map_kind}
use Rattle.rkyv_btree_portable.specs.declared.refusal.Refusal.{Refusal}
use Rattle.rkyv_btree_verify.specs.Refusals.{RefusesMap}
use Rattle.rkyv_btree_portable.specs.Text.{text_kind}
use Rattle.rkyv_btree_format.specs.OwnBytes.{IsArchiveOf}
use Rattle.rkyv_btree_strict.specs.Strict.{RefusesStrict}
use Rattle.rkyv_btree_convert.specs.Whole.{IsUnopened}
use Rattle.rkyv_btree_typed.specs.TypeNames.{name_of}
use Rattle.rkyv_btree_typed.specs.TypeNames as term
use Rattle.btreearc_lines.specs.Headings.{IsHeaded, IsMisheaded}
use Rattle.btreearc_lines.specs.declared.fault.ProgramFault.{ProgramFault}
use Rattle.btreearc_lines.specs.declared.fault.ProgramFault.TheVariants.{Misheaded, Refused}
use Rattle.btreearc_lines.specs.declared.heading.Heading.{Heading}
use Rattle.btreekv_commands.specs.Lines.{Entry}

abbrev pub texts : Kind
texts = map_kind text_kind text_kind 5

-- the name of their type
abbrev pub texts_name : List ℕ
texts_name = name_of (term.map term.text term.text 5)

-- the keys of entries increase, byte by byte
abbrev pub KeysIncrease : List Entry → Type 0
KeysIncrease entries = Increasing (slice_cmp nat_cmp) entries

-- the archive of a list of entries
abbrev pub IsArchive : List ℕ → List Entry → Type 0
IsArchive bytes entries = IsArchiveOf texts bytes entries

-- bytes begin with the header of the type, or with none
abbrev pub HasFitHeading : List ℕ → Type 0
HasFitHeading bytes = (heading : Heading) × IsHeaded texts_name bytes heading

-- a file that the program opens, with these entries
abbrev pub IsInput : List ℕ → List Entry → Type 0
IsInput bytes entries = HasFitHeading bytes × IsArchive bytes entries

-- it has so many entries, whose keys increase
abbrev pub CountsStrict : List ℕ → ℕ → Type 0
CountsStrict bytes count = (entries : List Entry) × IsInput bytes entries × KeysIncrease entries × (count ≡ length entries)

-- bytes are an archive of no list, and this is their first error
pub record RefusesArchive (bytes : List ℕ) (refusal : Refusal) : Type 0 where
  pub first : IsUnopened texts (RefusesMap text_kind text_kind 5) bytes refusal
  pub none : (entries : List Entry) → ¬ IsArchive bytes entries

-- bytes are an archive of no list whose keys increase, and this is their first error
pub record RefusesStrictArchive (bytes : List ℕ) (refusal : Refusal) : Type 0 where
  pub first : IsUnopened texts (RefusesStrict text_kind text_kind 5) bytes refusal
  pub none : (entries : List Entry) → IsArchive bytes entries → ¬ KeysIncrease entries

-- an error of opening bytes
abbrev pub IsOpenFault : (List ℕ → Refusal → Type 0) → List ℕ → ProgramFault → Type 0
IsOpenFault Refuses bytes (Refused refusal) = Refuses bytes refusal
IsOpenFault Refuses bytes (Misheaded fault) = IsMisheaded texts_name bytes fault
IsOpenFault Refuses bytes _ = ⊥
