-- The first fields of a tuple and the next one resolved into cleared bytes, and what determines them.
use Rattle.std.proofs.Common.{◌≡◌, ℕ, ◌+◌, ◌≤◌, List, ◌++◌, length, take, drop, sym, ap, subst, ◌∙◌}
use Rattle.rkyv_btree_archive.proofs.OneArchival.{both_serialised}
use Rattle.rkyv_btree_archive.specs.TupleArchival.{JoinedResolves, joined_archival, front_archival, tuple_archival}
use Rattle.rkyv_btree_archive.specs.declared.util.EntryResolver.{EntryResolver}
use Rattle.rkyv_btree_compound.specs.Joined.{joined_end}
use Rattle.rkyv_btree_compound.specs.Tuples.{tuple_size}
use Rattle.rkyv_btree_portable.specs.laws.Holding.{parts_written}
use Rattle.rkyv_btree_portable.specs.Bytes.{zeros, filled}
use Rattle.rkyv_btree_portable.specs.Entry.{value_offset}
use Rattle.rkyv_btree_writer.specs.Archiving.{Archival}
use Rattle.rkyv_btree_writing_laws.specs.Determined.{IsDetermined}

module _ {M N R S : Type 0} (K : Archival M R) (V : Archival N S) (x : M × N) (r : EntryResolver R S) (at : ℕ) where
  -- both resolved each at its place
  pub next_resolved : (own own2 whole first second : List ℕ) (a b offset size : ℕ) → offset ≡ value_offset K.kind V.kind → length own ≡ a → length own2 ≡ b → a ≤ offset → offset + b ≤ size → whole ≡ zeros size → first ≡ take offset whole → second ≡ drop offset whole
      → K.Resolves x.0 r.key at own → V.Resolves x.1 r.value (at + offset) own2 → JoinedResolves K V size x r at ((own ++ drop a first) ++ (own2 ++ drop b second))
  next_resolved own own2 whole first second a b offset size eo ea eb ra rb clear e1 e2 one two = record {
    own_key = own;
    own_value = own2;
    key = one;
    value = subst (λ n. V.Resolves x.1 r.value (at + n) own2) eo two;
    parts = parts_written own own2 whole first second a b offset size ea eb ra rb clear e1 e2 ∙ ap (λ n. filled (filled own n ++ own2) size) eo;
  }

module _ {X M N R S : Type 0} (K : Archival M R) (V : Archival N S) (pair : X → M × N) (size : ℕ) (k : IsDetermined K) (v : IsDetermined V) where
  joined_once : (x y : X) (r : EntryResolver R S) (at : ℕ) (own other : List ℕ) → (joined_archival K V size pair).meaning x ≡ (joined_archival K V size pair).meaning y → JoinedResolves K V size (pair x) r at own → JoinedResolves K V size (pair y) r at other → own ≡ other
  joined_once x y r at own other same a b =
      let offset = value_offset K.kind V.kind in
      let key = k.resolved (pair x).0 (pair y).0 r.key at a.own_key b.own_key (ap (λ m. m.0) same) a.key b.key in
      let value = v.resolved (pair x).1 (pair y).1 r.value (at + offset) a.own_value b.own_value (ap (λ m. m.1) same) a.value b.value in
      a.parts ∙ (ap (λ z. filled (filled z offset ++ a.own_value) size) key ∙ (ap (λ z. filled (filled b.own_key offset ++ z) size) value ∙ sym b.parts))

  pub joined_determined : IsDetermined (joined_archival K V size pair)
  joined_determined = record { serialised = both_serialised K V pair k v; resolved = joined_once }

module _ {M N R S : Type 0} {K : Archival M R} {V : Archival N S} (k : IsDetermined K) (v : IsDetermined V) where
  pub front_determined : IsDetermined (front_archival K V)
  front_determined = joined_determined K V (λ x. x) (joined_end K.kind V.kind) k v

  pub tuple_determined : {X : Type 0} (parts : X → M × N) → IsDetermined (tuple_archival K V parts)
  tuple_determined parts = joined_determined K V parts (tuple_size K.kind V.kind) k v
