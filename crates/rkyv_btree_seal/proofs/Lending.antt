-- What is lent of a buffer at a key and a value, and what becomes of it.
use Rattle.std.proofs.Common.{◌≡◌, ℕ, ◌+◌, ◌≤◌, IsTrue, List, ◌++◌, length, take, drop, sym, ap, subst, refl, ◌∙◌, arith, length-take-le, get_or-take}
use Rattle.std.specs.Borrow.{MutBor}
use Rattle.std.proofs.lemmas.List.{take_all, drop-drop}
use borrow.Rule.Slice.PartMut.{put_mid}
use Rattle.rkyv_btree_portable.specs.Bytes.{bytes_at}
use Rattle.rkyv_btree_portable.specs.InPlace.{IsOwn, value_of}
use Rattle.rkyv_btree_portable.specs.Kind.{Kind, IsLawful}
use Rattle.rkyv_btree_portable.specs.Standing.{SameBytes}
use Rattle.rkyv_btree_portable.specs.Views.{stands}
use Rattle.rkyv_btree_portable.specs.laws.Views.{means_read, stands_of, fitting_of}
use Rattle.rkyv_btree_seal.specs.Alone.{StandsAlone}
use Rattle.rkyv_btree_seal.specs.Calls.{CallsEntry}
use Rattle.rkyv_btree_seal.specs.Places.{PutsEntry}
use Rattle.rkyv_btree_seal.specs.Put.{put_bytes, key_place, value_place}
use Rattle.rkyv_btree_seal.specs.Lent.{ShowsKey, HoldsValue, CallsAt, MayCall}
use Rattle.rkyv_btree_seal.specs.declared.lent_key.LentKey.{LentKey}
use Rattle.rkyv_btree_seal.specs.declared.seal.Seal.{Seal}

same_front : (b : List ℕ) (value from to : ℕ) → value ≤ length b → to ≤ value → SameBytes b (take value b) from to
same_front b value from to room within = record { covers = omega (arith, length-take-le value b room); same = λ k l m. sym (get_or-take value b k 0 (omega arith)) }

-- the key is the same in the part of the buffer before the value
pub shows_front : {X : Type 0} (kind : Kind) → IsLawful kind → (b : List ℕ) (key value : ℕ) (lent : LentKey X) → IsTrue (stands kind b key) → key + kind.size ≤ value → value ≤ length b → lent.buf.now ≡ take value b → lent.pos ≡ key → ShowsKey kind lent (kind.read b key)
shows_front kind laws b key value lent here before room buf pos =
    let m = means_read laws b key here in
    let lies = laws.lies b 0 key key m.left (kind.read b key) m.means in
    let fits = fitting_of kind b key here in
    let n = laws.local fits b (take value b) 0 key key m.left (kind.read b key) (omega (arith, length-take-le value b room, lies.short)) (same_front b value 0 m.left room (omega (arith, lies.kept))) (same_front b value key (key + kind.size) room before) m.means in
    record {
      stands = subst (λ (bytes : List ℕ). IsTrue (stands kind bytes lent.pos)) (sym buf) (subst (λ (at : ℕ). IsTrue (stands kind (take value b) at)) (sym pos) (stands_of laws fits (take value b) 0 key key m.left (kind.read b key) n));
      value = ap (λ (bytes : List ℕ). kind.read bytes lent.pos) buf ∙ (ap (kind.read (take value b)) pos ∙ sym (laws.is_read _ _ _ _ _ _ n));
    }

-- own bytes alone stand
pub stands_alone : (kind : Kind) (own : List ℕ) → IsTrue kind.is_fitting → IsOwn kind own → StandsAlone kind own 0
stands_alone kind own fits is = record { fitting = fits; inside = omega (arith, is.size); is_own = subst (IsOwn kind) (sym (take_all kind.size own (omega (arith, is.size)))) is }

-- a seal over the own bytes of a value holds it
pub holds_own : {X : Type 0} (kind : Kind) (b : List ℕ) (value : ℕ) (seal : Seal X) → StandsAlone kind b value → seal.buf.now ≡ bytes_at b value kind.size → seal.pos ≡ 0 → HoldsValue kind seal (value_of kind (bytes_at b value kind.size))
holds_own kind b value seal h buf pos =
    let own : IsOwn kind seal.buf.now = subst (IsOwn kind) (sym buf) h.is_own in
    record { start = pos; exact = own.size; stands = subst (StandsAlone kind seal.buf.now) (sym pos) (stands_alone kind seal.buf.now h.fitting own); means = ap (value_of kind) buf }

-- what stands before, what was written, and what stands after
pub joined : (b : List ℕ) (value size : ℕ) (front own behind after : List ℕ) → front ≡ take value b → behind ≡ drop size (drop value b) → own ≡ after → length after ≡ size → front ++ (own ++ behind) ≡ put_bytes b value after
joined b value size front own behind after first last left long = rw (first, last, left, drop-drop size value b, ← long) refl

-- what a slice's part was written with
pub pasted : (b : List ℕ) (from value count : ℕ) (written own : List ℕ) → from ≡ value → written ≡ own → count ≡ length own → put_mid from count b written ≡ put_bytes b value own
pasted b from value count written own p q r = rw (p, q, r, drop-drop (length own) value b) refl

-- a call at a key and a value that are given by other numbers
module _ {X Y R : Type 0} (K V : Kind) (b : List ℕ) (key key2 value value2 : ℕ) (p : key ≡ key2) (q : value ≡ value2) where
  moved : (c : List ℕ) (call : LentKey X → MutBor (Seal Y) → R → MutBor (Seal Y) → Type 0) (r : R) → CallsAt K V b key value c call r → CallsAt K V b key2 value2 c call r
  moved c call r h = record {
    lent = h.lent;
    before = h.before;
    after = h.after;
    called = h.called;
    shows = subst (λ n. ShowsKey K h.lent (K.read b n)) p h.shows;
    holds = subst (λ n. HoldsValue V h.before.now (value_of V (bytes_at b n V.size))) q h.holds;
    keeps = h.keeps;
    bytes = h.bytes ∙ ap (λ n. put_bytes b n h.after.now.buf.now) q;
  }

  pub may_moved : (pre : LentKey X → MutBor (Seal Y) → Type 0) (call : LentKey X → MutBor (Seal Y) → R → MutBor (Seal Y) → Type 0) → MayCall K V (K.read b key2) (value_of V (bytes_at b value2 V.size)) pre call → MayCall K V (K.read b key) (value_of V (bytes_at b value V.size)) pre call
  may_moved pre call h = rw (p, q) h

-- a call at the places of an entry is one at the entry
pub calls_entry : {X Y R : Type 0} (K V : Kind) (E : ℕ) (b : List ℕ) (at : ℕ) (e : ℕ × ℕ) (key value : ℕ) (c : List ℕ) (call : LentKey X → MutBor (Seal Y) → R → MutBor (Seal Y) → Type 0) (r : R) → key ≡ key_place K V E e → value ≡ value_place K V E e → (h : CallsAt K V b key value c call r) → PutsEntry K V E b at e h.after.now.buf.now c → CallsEntry K V E b at c call e r
unfolding moved
calls_entry K V E b at e key value c call r p q h puts = record { called = moved K V b key (key_place K V E e) value (value_place K V E e) p q c call r h; puts = puts }
