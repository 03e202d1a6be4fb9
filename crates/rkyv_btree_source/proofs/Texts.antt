-- Texts that are brought from a source: byte strings that are UTF-8.
use Rattle.std.proofs.Common.{ℕ, IsTrue, List, refl, subst}
use Rattle.std.specs.Prelude.{IsUtf8}
use Rattle.rkyv_btree_portable.specs.ByteStrings.{MeansBytes, bytes_kind}
use Rattle.rkyv_btree_portable.specs.declared.refusal.Refusal.{Refusal}
use Rattle.rkyv_btree_portable.specs.declared.refusal.Refusal.TheVariants.{BadEntry}
use Rattle.rkyv_btree_portable.specs.Refusing.{RefusesWhole, bad_entry, misplaced}
use Rattle.rkyv_btree_portable.specs.Text.{MeansText, text_kind, read_text}
use Rattle.rkyv_btree_portable.specs.Views.{stands}
use Rattle.rkyv_btree_portable.specs.laws.ByteStringLaws.{bytes_laws}
use Rattle.rkyv_btree_portable.specs.laws.TextLaws.{text_laws}
use Rattle.rkyv_btree_portable.specs.laws.Views.{means_read, stands_of}
use Rattle.rkyv_btree_source.specs.Reading.{IfRefused}
use Rattle.rkyv_btree_source.specs.declared.fault.SourceFault.{SourceFault}
use Rattle.rkyv_btree_source.specs.declared.fault.SourceFault.TheVariants.{NoRoom, OverBudget, Read, Refused}

-- a text is a byte string
bytes_of : (b : List ℕ) (lo hi at left : ℕ) (v : List ℕ) → MeansText b lo hi at left v → MeansBytes b lo hi at left v
bytes_of b lo hi at left v m = record { lies = m.lies; start = m.start; range = m.range; from = m.from; bytes = m.bytes }

-- bytes that are refused as a byte string are refused as a text
pub refuses_text : (b : List ℕ) (lo hi at : ℕ) (e : Refusal) → RefusesWhole bytes_kind b lo hi at e → RefusesWhole text_kind b lo hi at e
refuses_text b lo hi at e (misplaced why) = misplaced why
refuses_text b lo hi at _ (bad_entry place none) = bad_entry place (λ left v m. none left v (bytes_of b lo hi at left v m))

pub faulty_text : {E : Type 0} (b : List ℕ) (lo hi at : ℕ) (fault : SourceFault E) → IfRefused (RefusesWhole bytes_kind b lo hi at) fault → IfRefused (RefusesWhole text_kind b lo hi at) fault
faulty_text b lo hi at (Refused e) why = refuses_text b lo hi at e why
faulty_text b lo hi at (Read e) why = tt
faulty_text b lo hi at (NoRoom n) why = tt
faulty_text b lo hi at OverBudget why = tt

module _ (b : List ℕ) (at : ℕ) (stood : IsTrue (stands bytes_kind b at)) where
  -- a byte string that is UTF-8 is a text
  pub is_text : IsUtf8 (read_text b at) → IsTrue (stands text_kind b at)
  is_text utf8 =
      let found = means_read bytes_laws b at stood in
      let m = found.means in
      stands_of text_laws refl b 0 at at found.left (read_text b at) (record { lies = m.lies; start = m.start; range = m.range; from = m.from; bytes = m.bytes; utf8 = utf8 })

  -- and another isn't
  pub refuses_bytes : ¬ (IsUtf8 (read_text b at)) → RefusesWhole text_kind b 0 at at (BadEntry at)
  refuses_bytes none =
      let lies = (means_read bytes_laws b at stood).means.lies in
      bad_entry (record { short = lies.short; room = lies.inside; aligned = lies.aligned })
      (λ left v m. none (subst (λ (t : List ℕ). IsUtf8 t) (bytes_laws.is_read b 0 at at left v (bytes_of b 0 at at left v m)) m.utf8))
