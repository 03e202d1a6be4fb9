-- A key serialised and resolved, and then its value.
use Rattle.std.proofs.Common.{◌≡◌, ℕ, ◌+◌, ◌≤◌, List, ◌++◌, length, take, drop, refl, ap, subst, inl, inr, ◌∙◌, arith}
use Rattle.std.proofs.lemmas.List.{append_assoc}
use Rattle.rkyv_btree_writer.specs.Archiving.{Archival, BeginsWith, IsUnserialised, Serialises}
use Rattle.rkyv_btree_portable.specs.Bytes.{zeros, filled}
use Rattle.rkyv_btree_portable.specs.Entry.{value_offset, entry_size}
use Rattle.rkyv_btree_archive.specs.EntryArchival.{EntryResolves, in_key, in_value, entry_archival}
use Rattle.rkyv_btree_writer.specs.Writing.{Writing, position, Write, appended, Wrote, EndInReach}
use Rattle.rkyv_btree_writer.specs.declared.fault.Fault.{Fault}
use Rattle.rkyv_btree_writer.specs.declared.fault.Fault.TheVariants.{Length, LengthOverflow, PositionOverflow, OffsetOverflow, Writer, Memory, Entry, OutOfOrder}
use Rattle.rkyv_btree_archive.specs.declared.util.EntryResolver.{EntryResolver}
use Rattle.rkyv_btree_writer.proofs.FieldRuns.{long_front, long_behind}
use Rattle.rkyv_btree_portable.specs.laws.Holding.{parts_written}
use Rattle.rkyv_btree_writer.proofs.WriteRuns.{appended-position, wrote-both, stopped-behind}

begins-behind : (s : Writing) (first : List Write) (m t : Writing) → Wrote s first m → BeginsWith t m → BeginsWith t s
begins-behind s first m t w h = (h.0 ∙ w.done.base, (appended first ++ h.1.0, h.1.1 ∙ (ap (λ z. z ++ h.1.0) w.done.contents ∙ append_assoc s.contents (appended first) h.1.0)))

module _ {X M N R S : Type 0} (F : Type 0) (K : Archival M R) (V : Archival N S) (pair : X → M × N) (x : X) (s : Writing) where
  pub key_refused : (fault : Fault F) (t : Writing) → IsUnserialised K (pair x).0 s fault t → IsUnserialised (entry_archival K V pair) x s fault t
  key_refused (Length mismatch) t h = h
  key_refused LengthOverflow t h = (long_front (K.lengths (pair x).0) (V.lengths (pair x).1) h.0, h.1)
  key_refused PositionOverflow t h = (h.0, in_key h.1, h.2)
  key_refused OffsetOverflow t h = (h.0, in_key h.1, h.2)
  key_refused (Writer error) t h = (h.0, in_key h.1, h.2)
  key_refused (Memory error) t h = (inl h.0, h.1)
  key_refused (Entry fault) t h = (inl h.0, h.1)
  key_refused (OutOfOrder index) t h = h

  module _ (first : List Write) (m : Writing) (r : R) (key : K.Writes (pair x).0 (position s) first r) (wrote : Wrote s first m) where
    mid : position m ≡ position s + length (appended first)
    mid = appended-position s (appended first) m wrote.done

    pub value_refused : (fault : Fault F) (t : Writing) → IsUnserialised V (pair x).1 m fault t → IsUnserialised (entry_archival K V pair) x s fault t
    value_refused (Length mismatch) t h = h
    value_refused LengthOverflow t h = (long_behind (K.lengths (pair x).0) (V.lengths (pair x).1) h.0, begins-behind s first m t wrote h.1)
    value_refused PositionOverflow t h = (first ++ h.0, in_value key (subst (λ n. V.Begins (pair x).1 n h.0) mid h.1), stopped-behind s first m h.0 PositionOverflow t wrote h.2)
    value_refused OffsetOverflow t h = (first ++ h.0, in_value key (subst (λ n. V.Begins (pair x).1 n h.0) mid h.1), stopped-behind s first m h.0 OffsetOverflow t wrote h.2)
    value_refused (Writer error) t h = (first ++ h.0, in_value key (subst (λ n. V.Begins (pair x).1 n h.0) mid h.1), stopped-behind s first m h.0 (Writer error) t wrote h.2)
    value_refused (Memory error) t h = (inr h.0, begins-behind s first m t wrote h.1)
    value_refused (Entry fault) t h = (inr (first, r, key, subst (λ n. V.Refuses (pair x).1 n fault) mid h.0), begins-behind s first m t wrote h.1)
    value_refused (OutOfOrder index) t h = h

    both_end : (second : List Write) (t : Writing) → Wrote m second t → EndInReach first m → EndInReach second t → EndInReach (first ++ second) t
    both_end second t w a (inr e) = inr e
    both_end second t w (inl none) (inl none2) = inl (ap (λ (ws : List Write). ws ++ second) none ∙ none2)
    both_end second t w (inr e) (inl none2) = inr (omega (arith, e, appended-position m (appended second) t w.done, ap (λ ws. length (appended ws)) none2))

    pub both_serialised : (second : List Write) (t : Writing) (r2 : S) → V.Writes (pair x).1 (position m) second r2 → Wrote m second t → K.IsIn (pair x).0 → V.IsIn (pair x).1 → EndInReach first m → EndInReach second t → Serialises (entry_archival K V pair) x s t (record { key = r; value = r2 })
    both_serialised second t r2 value wrote2 is_key is_value end end2 = (
      first ++ second,
      record { first = first; second = second; key = key; value = subst (λ n. V.Writes (pair x).1 n second r2) mid value; both = refl },
      wrote-both s first m second t wrote wrote2,
      (is_key, is_value),
      both_end second t wrote2 end end2,
    )

module _ {M N R S : Type 0} (K : Archival M R) (V : Archival N S) (x : M × N) (r : EntryResolver R S) (at : ℕ) where
  pub both_resolved : (own own2 whole front back : List ℕ) (k v offset size : ℕ) → offset ≡ value_offset K.kind V.kind → size ≡ entry_size K.kind V.kind → length own ≡ k → length own2 ≡ v → k ≤ offset → offset + v ≤ size → whole ≡ zeros size → front ≡ take offset whole → back ≡ drop offset whole →
      K.Resolves x.0 r.key at own → V.Resolves x.1 r.value (at + offset) own2 → EntryResolves K V x r at ((own ++ drop k front) ++ (own2 ++ drop v back))
  both_resolved own own2 whole front back k v offset size eo es ek ev inside inside2 clear ef eb key value = record {
    own_key = own;
    own_value = own2;
    key = key;
    value = subst (λ n. V.Resolves x.1 r.value (at + n) own2) eo value;
    parts = parts_written own own2 whole front back k v offset size ek ev inside inside2 clear ef eb ∙ (ap (λ n. filled (filled own n ++ own2) size) eo ∙ ap (filled (filled own (value_offset K.kind V.kind) ++ own2)) es);
  }
