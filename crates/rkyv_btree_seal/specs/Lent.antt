-- What a closure is lent at an entry, and what its call leaves.
use Rattle.std.specs.Borrow.{MutBor}
use Rattle.std.specs.Prelude.{◌≡◌, ℕ, IsTrue, List, length}
use Rattle.rkyv_btree_portable.specs.Bytes.{bytes_at}
use Rattle.rkyv_btree_portable.specs.InPlace.{IsOwn, value_of}
use Rattle.rkyv_btree_portable.specs.Kind.{Kind}
use Rattle.rkyv_btree_portable.specs.Views.{stands}
use Rattle.rkyv_btree_seal.specs.Alone.{StandsAlone}
use Rattle.rkyv_btree_seal.specs.Put.{put_bytes}
use Rattle.rkyv_btree_seal.specs.declared.lent_key.LentKey.{LentKey}
use Rattle.rkyv_btree_seal.specs.declared.seal.Seal.{Seal}

-- a lent key is this value
pub record ShowsKey {X : Type 0} (kind : Kind) (key : LentKey X) (a : kind.Value) : Type 0 where
  pub stands : IsTrue (stands kind key.buf.now key.pos)
  pub value : kind.read key.buf.now key.pos ≡ a

-- a seal covers own bytes and no others, which mean this value
pub record HoldsValue {X : Type 0} (kind : Kind) (seal : Seal X) (x : kind.Value) : Type 0 where
  pub start : seal.pos ≡ 0
  pub exact : length seal.buf.now ≡ kind.size
  pub stands : StandsAlone kind seal.buf.now seal.pos
  pub means : value_of kind seal.buf.now ≡ x

-- a call has left some value in the seal that it was lent
pub record KeepsSeal {X : Type 0} (kind : Kind) (before after : Seal X) : Type 0 where
  pub same_reference : after.buf.ghost_name ≡ before.buf.ghost_name
  pub is_own : IsOwn kind after.buf.now

-- a call of a closure at a key and a value has returned r, and left c of the buffer: the value's own bytes alone are written
pub record CallsAt {X Y R : Type 0} (K V : Kind) (b : List ℕ) (key value : ℕ) (c : List ℕ)
    (call : LentKey X → MutBor (Seal Y) → R → MutBor (Seal Y) → Type 0) (r : R) : Type 0 where
  pub lent : LentKey X
  pub before : MutBor (Seal Y)
  pub after : MutBor (Seal Y)
  pub called : call lent before r after
  pub shows : ShowsKey K lent (K.read b key)
  pub holds : HoldsValue V before.now (value_of V (bytes_at b value V.size))
  pub keeps : KeepsSeal V before.now after.now
  pub bytes : c ≡ put_bytes b value after.now.buf.now

-- at a key and a value a closure may be called, and leaves some value in the seal
pub record MayCall {X Y R : Type 0} (K V : Kind) (a : K.Value) (x : V.Value) (pre : LentKey X → MutBor (Seal Y) → Type 0)
    (call : LentKey X → MutBor (Seal Y) → R → MutBor (Seal Y) → Type 0) : Type 0 where
  pub callable : (key : LentKey X) (seal : MutBor (Seal Y)) → ShowsKey K key a → HoldsValue V seal.now x → pre key seal
  pub keeps : (key : LentKey X) (seal after : MutBor (Seal Y)) (r : R) → ShowsKey K key a → HoldsValue V seal.now x
      → call key seal r after → KeepsSeal V seal.now after.now
