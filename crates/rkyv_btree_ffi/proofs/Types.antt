-- What is known of calls at the types of a map, as C has it.
use Rattle.std.proofs.Common.{◌≡◌, ℕ, ◌≤◌, ◌<◌, IfSome, List, [], ◌∷◌, ◌++◌, length, take, map, Option, Some, None, Bor, refl, ap}
use Rattle.std.proofs.lemmas.Bool.{lt-ltb}
use Rattle.std.specs.Int.{w32, to_le_bytes}
use Rattle.std.specs.Option.{option_map}
use Rattle.rkyv_btree_format.specs.Read.{entry_at}
use Rattle.rkyv_btree_ffi.specs.Batches.{AreShown, IsEither as IsEitherPlace}
use Rattle.rkyv_btree_ffi.specs.Editing.{narrow}
use Rattle.rkyv_btree_ffi.specs.Entries.{comparison_at, by_number_at, by_text_at, comparison_with, by_number, by_text, IsKey, IsValue, AreEntries, IsEither, IsBatch}
use Rattle.rkyv_btree_ffi.specs.MapTypes.{typed, key_kind, value_kind}
use Rattle.rkyv_btree_ffi.specs.declared.item.BtreeItem.{BtreeItem}
use Rattle.rkyv_btree_ffi.specs.declared.item.BtreeEntry.{BtreeEntry}
use Rattle.rkyv_btree_ffi.specs.declared.map_type.MapType.{MapType}
use Rattle.rkyv_btree_ffi.specs.declared.map_type.ItemType.{ItemType}
use Rattle.rkyv_btree_ffi.specs.declared.map_type.ItemType.TheVariants.{U32, U64, I64, Text, Bytes, Empty}
use Rattle.rkyv_btree_ffi.specs.declared.query.Query.TheVariants.{Number, Text as TextQuery}

-- a type of maps, by the type of its keys
pub with_key : (t : MapType) (i : ItemType) → t.key ≡ i → t ≡ typed i t.value
with_key t i is = ap (λ (k : ItemType). typed k t.value) is

-- what comparing a number gives, and a text
number_at : (i : ItemType) (n : ℕ) → comparison_at i (Number n) ≡ by_number_at i n
number_at U32 n = refl
number_at U64 n = refl
number_at I64 n = refl
number_at Text n = refl
number_at Bytes n = refl
number_at Empty n = refl

pub number_is : (t : MapType) (n : ℕ) → comparison_with t (Number n) ≡ by_number t n
number_is t n = number_at t.key n

text_at : (i : ItemType) (text : Bor (List ℕ)) → comparison_at i (TextQuery text) ≡ by_text_at i text.now
text_at U32 text = refl
text_at U64 text = refl
text_at I64 text = refl
text_at Text text = refl
text_at Bytes text = refl
text_at Empty text = refl

pub text_is : (t : MapType) (text : Bor (List ℕ)) → comparison_with t (TextQuery text) ≡ by_text t text.now
text_is t text = text_at t.key text

-- a number of 32 bits has its four own bytes
pub narrow_is : (value : ℕ) → value < 4294967296 → narrow value ≡ Some (to_le_bytes w32 value)
narrow_is value low = rw (lt-ltb value 4294967296 low) refl

module _ (t : MapType) (b : List ℕ) where
  -- what a key and a value at a position are
  abbrev key_at_place : List ℕ → ℕ → BtreeItem → Type 0
  key_at_place c at item = IsKey c t ((key_kind t).read c at) item

  abbrev value_at_place : List ℕ → ℕ → BtreeItem → Type 0
  value_at_place c at item = IsValue c t ((value_kind t).read c at) item

  abbrev means : ℕ × ℕ → (key_kind t).Value × (value_kind t).Value
  means = entry_at (key_kind t) (value_kind t) 5 b

  pub finds : (o : Option (ℕ × ℕ)) (r : Option BtreeEntry) → IsEitherPlace (key_kind t) (value_kind t) key_at_place value_at_place b o r → IsEither t b (option_map means o) r
  finds None None h = tt
  finds None (Some e) h = absurd h
  finds (Some p) None h = absurd h
  finds (Some p) (Some e) h = record { key = h.key; value = h.value }

  parts : (places : List (ℕ × ℕ)) (es : List BtreeEntry) (later : List (ℕ × ℕ)) → AreShown (key_kind t) (value_kind t) key_at_place value_at_place b places es later
      → (taken : List ((key_kind t).Value × (value_kind t).Value)) × (map means places ≡ taken ++ map means later) × AreEntries t b taken es
  parts places [] later h = ([], ap (map means) h, tt)
  parts [] (x ∷ es) later h = absurd h
  parts (p ∷ ps) (x ∷ es) later h =
      let r = parts ps es later h.1 in
      (means p ∷ r.0, ap (λ l. means p ∷ l) r.1, (record { key = h.0.key; value = h.0.value }, r.2))

  pub batches : (places later : List (ℕ × ℕ)) (out : List BtreeEntry) (r : Option ℕ) → IfSome r (λ n. n ≤ length out)
      → IfSome r (λ n. AreShown (key_kind t) (value_kind t) key_at_place value_at_place b places (take n out) later)
      → IfSome r (λ n. n < length out → later ≡ []) → IfSome r (IsBatch t b (map means places) (map means later) out)
  batches places later out None room shown last = tt
  batches places later out (Some n) room shown last =
      let r = parts places (take n out) later shown in
      record { taken = r.0; parts = r.1; entries = r.2; room = room; last = λ less. ap (map means) (last less) }
