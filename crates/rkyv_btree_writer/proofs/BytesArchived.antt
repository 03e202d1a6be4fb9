-- Byte strings are archived by their bytes.
use Rattle.std.specs.Prelude.{◌≡◌, ℕ, ◌+◌, List, [], ◌++◌, length}
use Rattle.std.specs.Int.{w32, to_le_bytes}
use Rattle.std.proofs.Common.{ap, sym, subst, refl, inl, arith, ◌∙◌}
use Rattle.rkyv_btree_writer.specs.Archiving.{IsArchived}
use Rattle.rkyv_btree_writer.specs.BytesArchival.{bytes_archival}
use Rattle.rkyv_btree_writer.specs.Causes.{HasCauses}
use Rattle.rkyv_btree_portable.specs.Bytes.{bytes_at, Holds}
use Rattle.rkyv_btree_writer.specs.Pointers.{pointer}
use Rattle.rkyv_btree_writer.specs.TextArchival.{text_writes, text_own, FitsText}
use Rattle.rkyv_btree_writer.specs.Writing.{Write, appended}
use Rattle.rkyv_btree_portable.specs.laws.Holding.{Holds-front, Holds-back}
use Rattle.rkyv_btree_writer.proofs.TextArchived.{appended_text, text_leads, text_count, not_long}

pub bytes_archived : {X : Type 0} (bytes : X → List ℕ) → IsArchived (bytes_archival bytes)
bytes_archived bytes x from at writes start own is_in wrote is = (
  ap length is.1,
  λ fits b reach short aligned behind inside held there.
      let v = bytes x in
      let len = length v in
      let before : appended writes ≡ v = ap appended wrote.1 ∙ appended_text v in
      let size : length (appended writes) ≡ len = ap length before in
      let own_at : Holds b at (text_own at from len) = subst (λ own. Holds b at own) (is.1 ∙ ap (λ n. text_own at n len) wrote.0) there in
      let fits : FitsText at from len = subst (λ n. FitsText at n len) wrote.0 is.0 in
      let leads = text_leads b at from len fits short inside own_at (omega arith) in
      let count = text_count b at from len fits short inside own_at in (
        from + len,
        record {
          lies = record { short = short; inside = inside; aligned = aligned; forward = omega arith; kept = omega (arith, size); before = behind };
          start = from;
          range = record { leads = leads; ends = ap (λ n. from + n) (sym count) };
          from = omega arith;
          bytes = sym (ap (bytes_at b from) (count ∙ sym size) ∙ (held ∙ before));
        },
      ),
)

-- they tell their length and where they start, and their write is one
pub bytes_causes : {X : Type 0} (bytes : X → List ℕ) → HasCauses (bytes_archival bytes)
bytes_causes bytes = record {
  fits = λ x start at. (λ is. (is.1.0.1, (is.1.0.0, tt)), λ all. (text_own at start (length (bytes x)), ((all.1.0, all.0), refl)));
  inside = λ x start at. (omega arith, omega arith, (omega arith, omega arith, tt));
  held = λ b x from at writes start own is_in wrote is there.
      let len = length (bytes x) in
      let own_at : Holds b at (text_own at start len) = subst (λ own. Holds b at own) is.1 there in
      (Holds-back b at (pointer at start) (to_le_bytes w32 len) own_at, (Holds-front b at (pointer at start) (to_le_bytes w32 len) own_at, tt));
  long = λ x start at h. h;
  short = λ fits x from at writes start own wrote is. not_long (length (bytes x)) is.0.1;
  goes = λ x from. inl (text_writes (bytes x), from, (refl, refl));
  begun = λ x from writes is. inl ([], from, (refl, ap (λ (ws : List Write). ws ++ []) is.0));
}
