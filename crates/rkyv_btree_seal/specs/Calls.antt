-- What a call of a closure at an entry of a map makes of it.
use Rattle.std.specs.Borrow.{MutBor}
use Rattle.std.specs.Prelude.{◌≡◌, ℕ, List, Option, Some, None, MatchOption, slice_get}
use Rattle.std.specs.declared.cmp.Ordering.{Ordering}
use Rattle.rkyv_btree_portable.specs.Bytes.{bytes_at}
use Rattle.rkyv_btree_portable.specs.InPlace.{value_of}
use Rattle.rkyv_btree_portable.specs.Kind.{Kind}
use Rattle.rkyv_btree_format.specs.Read.{read_map}
use Rattle.rkyv_btree_seal.specs.Places.{FindsPlace, PutsEntry}
use Rattle.rkyv_btree_seal.specs.Put.{key_place, value_place}
use Rattle.rkyv_btree_seal.specs.Lent.{CallsAt, MayCall}
use Rattle.rkyv_btree_seal.specs.declared.lent_key.LentKey.{LentKey}
use Rattle.rkyv_btree_seal.specs.declared.seal.Seal.{Seal}

module _ {X Y R : Type 0} (K V : Kind) (E : ℕ) (b : List ℕ) where
  -- at this entry a closure may be called, and leaves some value in the seal
  abbrev pub MayCallAt : ℕ × ℕ → (LentKey X → MutBor (Seal Y) → Type 0) → (LentKey X → MutBor (Seal Y) → R → MutBor (Seal Y) → Type 0) → Type 0
  MayCallAt e pre call = MayCall K V (K.read b (key_place K V E e)) (value_of V (bytes_at b (value_place K V E e) V.size)) pre call

module _ {X Y R : Type 0} (K V : Kind) (E : ℕ) (b : List ℕ) (at : ℕ) where
  -- at each entry of the map a closure may be called, and leaves some value in the seal
  abbrev pub MayCallEach : (LentKey X → MutBor (Seal Y) → Type 0) → (LentKey X → MutBor (Seal Y) → R → MutBor (Seal Y) → Type 0) → Type 0
  MayCallEach pre call = (i : ℕ) (x : K.Value × V.Value) → slice_get (read_map K V E b at) i ≡ Some x → MayCall K V x.0 x.1 pre call

  -- it was called at an entry and has returned r, and what its seal was left with is put into the map
  pub record CallsEntry (c : List ℕ) (call : LentKey X → MutBor (Seal Y) → R → MutBor (Seal Y) → Type 0) (e : ℕ × ℕ) (r : R) : Type 0 where
    pub called : CallsAt K V b (key_place K V E e) (value_place K V E e) c call r
    pub puts : PutsEntry K V E b at e called.after.now.buf.now c

  -- a search for an entry, and such a call there, if it is there
  pub record CallsFound (comparison : K.Value → Ordering) (c : List ℕ)
      (call : LentKey X → MutBor (Seal Y) → R → MutBor (Seal Y) → Type 0) (result : Option R) : Type 0 where
    pub found : Option (ℕ × ℕ)
    pub finds : FindsPlace K V E b at comparison found
    pub calls : MatchOption found ((result ≡ None) × (c ≡ b)) (λ e. (r : R) × (result ≡ Some r) × CallsEntry c call e r)
