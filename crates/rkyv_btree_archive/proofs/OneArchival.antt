-- Of values of own bytes, texts and pairs, what they mean determines how they are archived.
use Rattle.std.proofs.Common.{◌≡◌, ℕ, ◌+◌, List, ◌++◌, length, refl, sym, ap, subst, ◌∙◌}
use Rattle.rkyv_btree_writer.specs.Archiving.{Archival, own_archival}
use Rattle.rkyv_btree_writing_laws.specs.Determined.{IsDetermined}
use Rattle.rkyv_btree_portable.specs.Entry.{value_offset, entry_size}
use Rattle.rkyv_btree_archive.specs.EntryArchival.{EntryWrites, EntryResolves, entry_archival}
use Rattle.rkyv_btree_portable.specs.Bytes.{filled}
use Rattle.rkyv_btree_portable.specs.Kind.{Kind}
use Rattle.rkyv_btree_writer.specs.BytesArchival.{bytes_archival}
use Rattle.rkyv_btree_writer.specs.TextArchival.{text_archival, text_own, text_writes}
use Rattle.rkyv_btree_writer.specs.Writing.{Write, appended}
use Rattle.rkyv_btree_writer.specs.declared.fault.EntryFault.{EntryFault}
use Rattle.rkyv_btree_archive.specs.declared.util.EntryResolver.{EntryResolver}

pub own_determined : {X : Type 0} (kind : Kind) (meaning : X → kind.Value) (IsIn : X → Type 0) (own : X → List ℕ) (Refuses : X → ℕ → EntryFault → Type 0) → ((x y : X) → meaning x ≡ meaning y → own x ≡ own y) → IsDetermined (own_archival kind meaning IsIn own Refuses)
own_determined kind meaning IsIn own Refuses one_own = record {
  serialised = λ x y from writes others r q same a b. (a ∙ sym b, refl);
  resolved = λ x y r at bytes other same a b. a ∙ (one_own x y same ∙ sym b);
}

pub text_determined : {X : Type 0} (text : X → List ℕ) → IsDetermined (text_archival text)
text_determined text = record {
  serialised = λ x y from writes others r q same a b. (a.1 ∙ (ap text_writes same ∙ sym b.1), a.0 ∙ sym b.0);
  resolved = λ x y r at own other same a b. a.1 ∙ (ap (λ (bytes : List ℕ). text_own at r (length bytes)) same ∙ sym b.1);
}

module _ {X M N R S : Type 0} (K : Archival M R) (V : Archival N S) (pair : X → M × N) (k : IsDetermined K) (v : IsDetermined V) where
  pub both_serialised : (x y : X) (from : ℕ) (writes others : List Write) (r q : EntryResolver R S) → (entry_archival K V pair).meaning x ≡ (entry_archival K V pair).meaning y → EntryWrites K V (pair x) from writes r → EntryWrites K V (pair y) from others q → (writes ≡ others) × (r ≡ q)
  both_serialised x y from writes others r q same a b =
      let key = k.serialised (pair x).0 (pair y).0 from a.first b.first r.key q.key (ap (λ m. m.0) same) a.key b.key in
      let value = v.serialised (pair x).1 (pair y).1 (from + length (appended b.first)) a.second b.second r.value q.value (ap (λ m. m.1) same) (subst (λ (ws : List Write). V.Writes (pair x).1 (from + length (appended ws)) a.second r.value) key.0 a.value) b.value in (
        a.both ∙ (ap (λ (ws : List Write). ws ++ a.second) key.0 ∙ (ap (λ (ws : List Write). b.first ++ ws) value.0 ∙ sym b.both)),
        ap (λ (z : R). record { key = z; value = r.value }) key.1 ∙ ap (λ (z : S). record { key = q.key; value = z }) value.1,
      )

  both_resolved : (x y : X) (r : EntryResolver R S) (at : ℕ) (own other : List ℕ) → (entry_archival K V pair).meaning x ≡ (entry_archival K V pair).meaning y → EntryResolves K V (pair x) r at own → EntryResolves K V (pair y) r at other → own ≡ other
  both_resolved x y r at own other same a b =
      let offset = value_offset K.kind V.kind in
      let size = entry_size K.kind V.kind in
      let key = k.resolved (pair x).0 (pair y).0 r.key at a.own_key b.own_key (ap (λ m. m.0) same) a.key b.key in
      let value = v.resolved (pair x).1 (pair y).1 r.value (at + offset) a.own_value b.own_value (ap (λ m. m.1) same) a.value b.value in
      a.parts
      ∙ (ap (λ (z : List ℕ). filled (filled z offset ++ a.own_value) size) key ∙ (ap (λ (z : List ℕ). filled (filled b.own_key offset ++ z) size) value ∙ sym b.parts))

  pub entry_determined : IsDetermined (entry_archival K V pair)
  entry_determined = record { serialised = both_serialised; resolved = both_resolved }

pub bytes_determined : {X : Type 0} (bytes : X → List ℕ) → IsDetermined (bytes_archival bytes)
bytes_determined bytes = record {
  serialised = λ x y from writes others r q same a b. (a.1 ∙ (ap text_writes same ∙ sym b.1), a.0 ∙ sym b.0);
  resolved = λ x y r at own other same a b. a.1 ∙ (ap (λ (own : List ℕ). text_own at r (length own)) same ∙ sym b.1);
}
