-- Types whose values lie in their own bytes alone, as these are written from native values and read as them.
use Rattle.std.specs.Prelude.{◌≡◌, ℕ, ◌+◌, ◌≤◌, ◌↔◌, ◌++◌, IsTrue, List, [], ◌∷◌, length}
use Rattle.rkyv_btree_portable.specs.Bytes.{bytes_at, filled}
use Rattle.rkyv_btree_portable.specs.Entry.{value_offset, entry_size}
use Rattle.rkyv_btree_portable.specs.Kind.{Kind, IsLawful}
use Rattle.rkyv_btree_portable.specs.Plain.{Plain, plain_kind}
use Rattle.rkyv_btree_portable.specs.Standing.{IsAligned}

-- what own bytes mean by themselves
abbrev pub value_of : (kind : Kind) → List ℕ → kind.Value
value_of kind own = kind.read own 0

-- own bytes that mean what they mean by themselves wherever they stand, and leave the window as it was
pub record IsOwn (kind : Kind) (own : List ℕ) : Type 0 where
  pub size : length own ≡ kind.size
  pub means : (b : List ℕ) (lo hi at : ℕ) → length b ≤ 4294967295 → lo ≤ hi → hi ≤ at → IsAligned kind.align at
      → at + kind.size ≤ length b → bytes_at b at kind.size ≡ own → kind.Means b lo hi at lo (value_of kind own)

-- how the values of a native type lie in their own bytes: the archived type, the own bytes of a value, and what these
-- mean where the value is one of the native type
pub record NativeForm (X : Type 0) : Type 1 where
  pub plain : Plain
  pub own_bytes : X → List ℕ
  pub IsIn : X → Type 0
  pub meaning : X → plain.Value

-- what such a form owes: the archived type is lawful, all own bytes mean something, those of a value mean it, and what it
-- means determines them
pub record IsFaithful {X : Type 0} (form : NativeForm X) : Type 0 where
  pub lawful : IsLawful (plain_kind form.plain)
  pub is_own : (x : X) → IsOwn (plain_kind form.plain) (form.own_bytes x)
  pub means : (x : X) → form.IsIn x → value_of (plain_kind form.plain) (form.own_bytes x) ≡ form.meaning x
  pub one_own : (x y : X) → form.meaning x ≡ form.meaning y → form.own_bytes x ≡ form.own_bytes y

-- values that lie in their own bytes alone: these leave the window as it was, and mean the value wherever they stand
pub record LiesAlone (kind : Kind) : Type 0 where
  pub unmoved : (b : List ℕ) (lo hi at left : ℕ) (v : kind.Value) → kind.Means b lo hi at left v → left ≡ lo
  pub is_own : (b : List ℕ) (lo hi at left : ℕ) (v : kind.Value) → kind.Means b lo hi at left v → IsOwn kind (bytes_at b at kind.size)

-- how native values are written in place: their own bytes, the model of a value, and the model that own bytes have
pub record InPlaceForm (X : Type 0) : Type 1 where
  pub Model : Type 0
  pub model : X → Model
  pub own_bytes : X → List ℕ
  pub model_of_bytes : List ℕ → Model

-- what such a form owes: the values lie in their own bytes alone, the own bytes of each native value mean one, and
-- the models of own bytes agree exactly where their meanings do
pub record IsInPlace (kind : Kind) {X : Type 0} (form : InPlaceForm X) : Type 0 where
  pub alone : LiesAlone kind
  pub written : (x : X) → IsOwn kind (form.own_bytes x)
  pub same_model : IsTrue kind.is_fitting → (b c : List ℕ) → IsOwn kind b → IsOwn kind c → form.model_of_bytes b ≡ form.model_of_bytes c ↔ (value_of kind b ≡ value_of kind c)

-- the form of a native type
abbrev pub scalar_form : {X : Type 0} → NativeForm X → InPlaceForm X
scalar_form form = record { Model = form.plain.Value; model = form.meaning; own_bytes = form.own_bytes; model_of_bytes = form.plain.value }

-- that of pairs, as entries: the key, then the value at its place, and zeros wherever nothing stands
abbrev pub pair_form : {X Y : Type 0} → Kind → Kind → InPlaceForm X → InPlaceForm Y → InPlaceForm (X × Y)
pair_form K V key value = record {
  Model = key.Model × value.Model;
  model = λ x. (key.model x.0, value.model x.1);
  own_bytes = λ x. filled (filled (key.own_bytes x.0) (value_offset K V) ++ value.own_bytes x.1) (entry_size K V);
  model_of_bytes = λ b. (key.model_of_bytes (bytes_at b 0 K.size), value.model_of_bytes (bytes_at b (value_offset K V) V.size));
}

-- the own bytes of an entry's key and value
abbrev pub OwnBytes : Type 0
OwnBytes = List ℕ × List ℕ

abbrev pub AreOwn : Kind → Kind → List OwnBytes → Type 0
AreOwn K V [] = Unit {0}
AreOwn K V (x ∷ xs) = IsOwn K x.0 × IsOwn V x.1 × AreOwn K V xs
