-- Texts are archived by their bytes.
use Rattle.std.specs.Prelude.{◌≡◌, ℕ, ◌+◌, ◌≤◌, List, [], ◌∷◌, ◌++◌, length, pos}
use Rattle.std.specs.Int.{w32, to_le_bytes}
use Rattle.std.proofs.Common.{ap, sym, subst, refl, inl, inr, arith, ◌∙◌}
use Rattle.std.proofs.lemmas.List.{append-nil}
use Rattle.rkyv_btree_writer.specs.Archiving.{IsArchived}
use Rattle.rkyv_btree_writer.specs.Causes.{HasCauses}
use Rattle.rkyv_btree_writer.specs.Fields.{HasLong}
use Rattle.rkyv_btree_portable.specs.Bytes.{bytes_at, Holds, place_at}
use Rattle.rkyv_btree_writer.specs.Pointers.{pointer}
use Rattle.rkyv_btree_portable.specs.Text.{text_len}
use Rattle.rkyv_btree_writer.specs.TextArchival.{text_writes, text_own, FitsText, text_archival}
use Rattle.rkyv_btree_writer.specs.Writing.{Write, appended}
use Rattle.rkyv_btree_portable.specs.laws.Holding.{Holds-front, Holds-back}
use Rattle.rkyv_btree_writer.proofs.HeldNumbers.{held_number, held_pointer}

pub appended_text : (text : List ℕ) → appended (text_writes text) ≡ text
appended_text text = append-nil text

-- own bytes that a buffer holds lead to the text's start, and give its length
module _ (b : List ℕ) (at start len : ℕ) (fits : FitsText at start len) (short : length b ≤ 4294967295) (inside : at + 8 ≤ length b) (there : Holds b at (text_own at start len)) where
  pub text_leads : start ≤ at → place_at b at ≡ pos start
  text_leads before = held_pointer b at start fits.0 (omega arith) (omega arith) (Holds-front b at (pointer at start) (to_le_bytes w32 len) there)

  pub text_count : text_len b at ≡ len
  text_count = held_number b (at + 4) len (omega (arith, fits.1)) (Holds-back b at (pointer at start) (to_le_bytes w32 len) there)

pub text_archived : {X : Type 0} (text : X → List ℕ) → IsArchived (text_archival text)
text_archived text x from at writes start own utf8 wrote is = (
  ap length is.1,
  λ fits b reach short aligned behind inside held there.
      let v = text x in
      let len = length v in
      let before : appended writes ≡ v = ap appended wrote.1 ∙ appended_text v in
      let size : length (appended writes) ≡ len = ap length before in
      let own_at : Holds b at (text_own at from len) = subst (λ bytes. Holds b at bytes) (is.1 ∙ ap (λ n. text_own at n len) wrote.0) there in
      let fits : FitsText at from len = subst (λ n. FitsText at n len) wrote.0 is.0 in
      let leads = text_leads b at from len fits short inside own_at (omega arith) in
      let count = text_count b at from len fits short inside own_at in (
        from + len,
        record {
          lies = record { short = short; inside = inside; aligned = aligned; forward = omega arith; kept = omega (arith, size); before = behind };
          start = from;
          range = record { leads = leads; ends = ap (λ n. from + n) (sym count) };
          from = omega arith;
          bytes = sym (ap (bytes_at b from) (count ∙ sym size) ∙ (held ∙ before));
          utf8 = utf8;
        },
      ),
)

pub not_long : (len : ℕ) → len ≤ 4294967295 → HasLong (len ∷ []) → ⊥
not_long len few (inl long) = absurd (omega (arith, few, long))
not_long len few (inr none) = none

-- they tell their length and where they start, and their write is one
pub text_causes : {X : Type 0} (text : X → List ℕ) → HasCauses (text_archival text)
text_causes text = record {
  fits = λ x start at. (λ is. (is.1.0.1, (is.1.0.0, tt)), λ all. (text_own at start (length (text x)), ((all.1.0, all.0), refl)));
  inside = λ x start at. (omega arith, omega arith, (omega arith, omega arith, tt));
  held = λ b x from at writes start own utf8 wrote is there.
      let len = length (text x) in
      let own_at : Holds b at (text_own at start len) = subst (λ bytes. Holds b at bytes) is.1 there in
      (Holds-back b at (pointer at start) (to_le_bytes w32 len) own_at, (Holds-front b at (pointer at start) (to_le_bytes w32 len) own_at, tt));
  long = λ x start at h. h;
  short = λ fits x from at writes start own wrote is. not_long (length (text x)) is.0.1;
  goes = λ x from. inl (text_writes (text x), from, (refl, refl));
  begun = λ x from writes is. inl ([], from, (refl, ap (λ (ws : List Write). ws ++ []) is.0));
}
