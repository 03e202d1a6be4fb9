-- What a lookup in pieces gives C, by what the lookup in the source returns.
use Rattle.std.proofs.Common.{◌≡◌, ◌∙◌, ◌+◌, ◌≤◌, ◌<◌, ◌++◌, ℕ, ℤ, List, IfSome, Option, Some, None, Result, Ok, Err, ap, arith, drop, take, refl, subst, sym, length}
use Rattle.std.proofs.lemmas.List.{drop-append-le, take-append-le, length-append, length-drop}
use Rattle.std.specs.Int.{w64, cast_unsigned}
use Rattle.std.specs.declared.cmp.Ordering.{Ordering}
use Rattle.rkyv_btree_format.specs.Read.{entry_at}
use Rattle.rkyv_btree_portable.specs.Bytes.{bytes_at}
use Rattle.rkyv_btree_portable.specs.Kind.{Kind}
use Rattle.rkyv_btree_portable.specs.Refusing.{RefusesWhole, too_long}
use Rattle.rkyv_btree_portable.specs.declared.refusal.Refusal.{Refusal}
use Rattle.rkyv_btree_portable.specs.declared.refusal.Refusal.TheVariants.{OutOfRange, Misaligned, BadKind, InvalidLength, BadEntry, TooDeep, EntriesLengthMismatch, TooLong, OutOfOrder}
use Rattle.rkyv_btree_source.specs.Known.{Known}
use Rattle.rkyv_btree_source.specs.Reading.{most_read}
use Rattle.rkyv_btree_source.specs.declared.fault.SourceFault.{SourceFault}
use Rattle.rkyv_btree_source.specs.declared.fault.SourceFault.TheVariants.{Refused, Read, NoRoom, OverBudget}
use Rattle.rkyv_btree_source.specs.declared.piece.Missing.{Missing}
use Rattle.rkyv_btree_unverified.specs.Lookups.{LookupGives}
use Rattle.rkyv_btree_unverified.specs.Steps.{misplaced}
use Rattle.rkyv_btree_ffi.specs.Codes.{refusal_for}
use Rattle.rkyv_btree_ffi.specs.Finding.{IsRefusal}
use Rattle.rkyv_btree_ffi.specs.Items.{kind_at, IsItem, IsItemAt, IsNumberItem, IsBytesItem}
use Rattle.rkyv_btree_ffi.specs.MapTypes.{key_kind, value_kind}
use Rattle.rkyv_btree_ffi.specs.Pieces.{Steps, StepsOf, IsLack, IsMissingPart, PutsValue}
use Rattle.rkyv_btree_ffi.specs.declared.codes.BtreeRefusal.{BtreeRefusal}
use Rattle.rkyv_btree_ffi.specs.declared.item.BtreeItem.{BtreeItem}
use Rattle.rkyv_btree_ffi.specs.declared.map_type.ItemType.{ItemType}
use Rattle.rkyv_btree_ffi.specs.declared.map_type.ItemType.TheVariants.{U32, U64, I64, Text, Bytes, Empty}
use Rattle.rkyv_btree_ffi.specs.declared.map_type.MapType.{MapType}

-- bytes of the first part of a buffer
front : (first rest : List ℕ) (start len : ℕ) → start + len ≤ length first → bytes_at (first ++ rest) start len ≡ bytes_at first start len
front first rest start len inside =
    ap (take len) (drop-append-le start first rest (omega (arith, inside))) ∙ take-append-le len (drop start first) rest (omega (arith, inside, length-drop start first))

bytes_in_front : (first rest value : List ℕ) (item : BtreeItem) → IsBytesItem first value item → IsBytesItem (first ++ rest) value item
bytes_in_front first rest value item h = record {
  number = h.number;
  inside = omega (arith, h.inside, length-append first rest);
  bytes = front first rest item.start item.len h.inside ∙ h.bytes;
}

-- an item of the first part of a buffer
in_front : (i : ItemType) (first rest : List ℕ) (at : ℕ) (item : BtreeItem) (value : (kind_at i).Value) → IsItemAt i first at item → (kind_at i).read first at ≡ value → IsItem i (first ++ rest) value item
in_front U32 first rest at item value h same = subst (λ (v : ℕ). IsNumberItem v item) same h
in_front U64 first rest at item value h same = subst (λ (v : ℕ). IsNumberItem v item) same h
in_front I64 first rest at item value h same = subst (λ (v : ℤ). IsNumberItem (cast_unsigned w64 v) item) same h
in_front Text first rest at item value h same = bytes_in_front first rest value item (subst (λ (v : List ℕ). IsBytesItem first v item) same h)
in_front Bytes first rest at item value h same = bytes_in_front first rest value item (subst (λ (v : List ℕ). IsBytesItem first v item) same h)
in_front Empty first rest at item value h same = h

-- at a map's type
pub steps_of : (t : MapType) (b buffer : List ℕ) (comparison : (key_kind t).Value → Ordering) (r : Result (Option BtreeItem) (SourceFault Missing))
    → Steps (key_kind t) (value_kind t) (IsItemAt t.value) (RefusesWhole (key_kind t)) (RefusesWhole (value_kind t)) b comparison buffer r → StepsOf t b comparison buffer r
steps_of t b buffer comparison (Ok None) h = h
steps_of t b buffer comparison (Ok (Some item)) h =
    let value = (entry_at (key_kind t) (value_kind t) 5 b h.place).1 in
    record {
      place = h.place;
      returned = h.returned;
      value = subst (λ (c : List ℕ). IsItem t.value c value item) (sym h.parts) (in_front t.value h.first h.rest h.at item value h.shown h.same);
    }
steps_of t b buffer comparison (Err (Refused error)) h = h
steps_of t b buffer comparison (Err (Read part)) h = tt
steps_of t b buffer comparison (Err (NoRoom needed)) h = tt
steps_of t b buffer comparison (Err OverBudget) h = tt

-- the position of the map is that of the last eight bytes
module _ (K V : Kind) (b : List ℕ) (comparison : K.Value → Ordering) (KR VR : List ℕ → ℕ → ℕ → ℕ → Refusal → Type 0) (here at : ℕ) (same : here ≡ at) where
  pub moved : (r : Result (Option (ℕ × ℕ)) Refusal) → LookupGives K V 5 b comparison KR VR here r → LookupGives K V 5 b comparison KR VR at r
  moved r h = subst (λ p. LookupGives K V 5 b comparison KR VR p r) same h

-- more bytes than positions reach are refused by the lookup too
pub long_refused : (K V : Kind) (b : List ℕ) (comparison : K.Value → Ordering) (KR VR : List ℕ → ℕ → ℕ → ℕ → Refusal → Type 0) (at : ℕ) → 4294967295 < length b → LookupGives K V 5 b comparison KR VR at (Err TooLong)
long_refused K V b comparison KR VR at long = record { result = Err TooLong; gives = misplaced (too_long long); goes_on = refl }

-- the code of a refusal
refusal_code : (error : Refusal) → (refusal_for error).code ≤ 9
refusal_code (OutOfRange p) = omega arith
refusal_code (Misaligned p) = omega arith
refusal_code (BadKind p byte) = omega arith
refusal_code (InvalidLength fact) = omega arith
refusal_code (BadEntry p) = omega arith
refusal_code (TooDeep p) = omega arith
refusal_code (EntriesLengthMismatch fact) = omega arith
refusal_code TooLong = omega arith
refusal_code (OutOfOrder index) = omega arith

-- a part that is missing is written
pub missing_part : (known : Known) (room : ℕ) (stepped : Option (Result (Option BtreeItem) (SourceFault Missing))) (old new : BtreeItem) (old_why why : BtreeRefusal) (code : ℕ) → PutsValue stepped old new old_why why code → IfSome stepped (IsLack known room) → code ≡ 21 → IsMissingPart known why
missing_part known room None old new old_why why code puts lack is = absurd (omega (arith, puts.0, is))
missing_part known room (Some (Ok None)) old new old_why why code puts lack is = absurd (omega (arith, puts.0, is))
missing_part known room (Some (Ok (Some item))) old new old_why why code puts lack is = absurd (omega (arith, puts.0, is))
missing_part known room (Some (Err (Refused error))) old new old_why why code puts lack is = absurd (omega (arith, puts.0, is, ap (λ (w : BtreeRefusal). w.code) puts.1, refusal_code error))
missing_part known room (Some (Err (Read part))) old new old_why why code puts lack is = record { part = part; missing = lack; at = ap (λ (w : BtreeRefusal). w.at) puts.1; len = ap (λ (w : BtreeRefusal). w.found) puts.1 }
missing_part known room (Some (Err (NoRoom needed))) old new old_why why code puts lack is = absurd (omega (arith, puts.0, is, ap (λ (w : BtreeRefusal). w.code) puts.1))
missing_part known room (Some (Err OverBudget)) old new old_why why code puts lack is = absurd lack

-- a code below 10 is that of the lookup's error
pub refused_by : (t : MapType) (b buffer : List ℕ) (comparison : (key_kind t).Value → Ordering) (stepped : Option (Result (Option BtreeItem) (SourceFault Missing))) (old new : BtreeItem) (old_why why : BtreeRefusal) (code : ℕ)
    → PutsValue stepped old new old_why why code → (Of : List ℕ → Type 0) → IfSome stepped (λ found. (c : List ℕ) → Of c → StepsOf t c comparison buffer found) → Of b → 0 < code → code < 10 → IsRefusal t b comparison why code
refused_by t b buffer comparison None old new old_why why code puts Of gives of some low = absurd (omega (arith, puts.0, low))
refused_by t b buffer comparison (Some (Ok None)) old new old_why why code puts Of gives of some low = absurd (omega (arith, puts.0, low))
refused_by t b buffer comparison (Some (Ok (Some item))) old new old_why why code puts Of gives of some low = absurd (omega (arith, puts.0, some))
refused_by t b buffer comparison (Some (Err (Refused error))) old new old_why why code puts Of gives of some low = record { error = error; returned = gives b of; same_code = puts.0; cause = puts.1 }
refused_by t b buffer comparison (Some (Err (Read part))) old new old_why why code puts Of gives of some low = absurd (omega (arith, puts.0, low, ap (λ (w : BtreeRefusal). w.code) puts.1))
refused_by t b buffer comparison (Some (Err (NoRoom needed))) old new old_why why code puts Of gives of some low = absurd (omega (arith, puts.0, low, ap (λ (w : BtreeRefusal). w.code) puts.1))
refused_by t b buffer comparison (Some (Err OverBudget)) old new old_why why code puts Of gives of some low = absurd (omega (arith, puts.0, low, ap (λ (w : BtreeRefusal). w.code) puts.1))

-- no lookup is over the largest budget
pub within_budget : (here before after : ℕ) → before ≡ 18446744073709551615 → here ≤ 4294967295 → before ≤ after + most_read 5 (here + 8) → after < here + 8 → ⊥
unfolding most_read
within_budget here before after all small spent left = omega (arith, all, small, spent, left)
