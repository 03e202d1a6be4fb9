-- The records of a table that are read, one after the other.
use Rattle.std.proofs.Common.{◌≡◌, ℕ, suc, List, [], ◌∷◌, ◌++◌, length, map, refl, sym, ap, subst, ◌∙◌, arith, true, false, Option, Some}
use Rattle.std.proofs.lemmas.List.{map_push}
use Rattle.std.specs.Prelude.{String}
use Rattle.std.specs.declared.alloc.Global.{Global}
use Rattle.csv.specs.Reading.{ExplainsRead, is_flexible, stops_reader}
use Rattle.csv.specs.Records.{field_at}
use Rattle.csv.specs.declared.error.ErrorKind.{ErrorKind}
use Rattle.csv.specs.declared.error.ErrorKind.TheVariants as kind
use Rattle.csv.specs.declared.reader.Reader.{Reader}
use Rattle.btreekv_commands.specs.CsvRecords.{ArePairs, IsPair}
use Rattle.btreekv_commands.specs.Lines.{Entry}
use Rattle.btreekv_commands.specs.Texts.{texts_of}

some_same : (a b : List ℕ) → Some a ≡ Some b → a ≡ b
some_same a b e = cc e

-- a record of two fields is these two
pub two_fields : (row : List (List ℕ)) (key value : List ℕ) → length row ≡ 2 → field_at row 0 ≡ Some key → field_at row 1 ≡ Some value → row ≡ key ∷ value ∷ []
unfolding field_at
two_fields [] key value two first second = absurd (omega (arith, two))
two_fields (k ∷ []) key value two first second = absurd (omega (arith, two))
two_fields (k ∷ v ∷ []) key value two first second = ap (λ (z : List ℕ). z ∷ v ∷ []) (some_same k key first) ∙ ap (λ (z : List ℕ). key ∷ z ∷ []) (some_same v value second)
two_fields (k ∷ v ∷ w ∷ more) key value two first second = absurd (omega (arith, two))

pub push_pairs : (rows : List (List (List ℕ))) (xs : List Entry) (row : List (List ℕ)) (x : Entry) → ArePairs rows xs → IsPair row x → ArePairs (rows ++ row ∷ []) (xs ++ x ∷ [])
push_pairs [] [] row x are is = (is, tt)
push_pairs [] (y ∷ ys) row x are is = absurd are
push_pairs (r ∷ rs) [] row x are is = absurd are
push_pairs (r ∷ rs) (y ∷ ys) row x are is = (are.0, push_pairs rs ys row x are.1 is)

pub count_pairs : (rows : List (List (List ℕ))) (xs : List Entry) → ArePairs rows xs → length rows ≡ length xs
count_pairs [] [] are = refl
count_pairs [] (y ∷ ys) are = absurd are
count_pairs (r ∷ rs) [] are = absurd are
count_pairs (r ∷ rs) (y ∷ ys) are = ap suc (count_pairs rs ys are.1)

-- a record that is the pair of these native texts
pub more_pairs : (rows : List (List (List ℕ))) (row : List (List ℕ)) (items new : List (String Global × String Global)) (e : String Global × String Global) → ArePairs rows (map texts_of items)
    → IsPair row (texts_of e) → new ≡ items ++ e ∷ [] → ArePairs (rows ++ row ∷ []) (map texts_of new)
more_pairs rows row items new e are is pushed =
    subst (λ (xs : List Entry). ArePairs (rows ++ row ∷ []) xs) (sym (ap (map texts_of) pushed ∙ map_push texts_of items e)) (push_pairs rows (map texts_of items) row (texts_of e) are is)

-- a flexible reader of bytes fails for no other cause than one that stops it
pub stopped : {R : Type 0} (rem : R → Option (List ℕ)) (a b : Reader R) (why : ErrorKind) → is_flexible a ≡ true → ExplainsRead rem a b false why → stops_reader why ≡ true
stopped rem a b (kind.Io e) flexible h = refl
stopped rem a b kind.OutOfMemory flexible h = refl
stopped rem a b (kind.UnequalLengths pos expected len) flexible h = absurd (cc (sym flexible ∙ h.0))
stopped rem a b (kind.Utf8 pos err) flexible h = absurd (cc h.0)
stopped rem a b (kind.Serialize text) flexible h = absurd h
stopped rem a b (kind.Deserialize pos err) flexible h = absurd h

pub first_field : (row : List (List ℕ)) (x : Entry) → IsPair row x → field_at row 0 ≡ Some x.0
unfolding field_at
first_field row x pair = ap (λ (r : List (List ℕ)). field_at r 0) pair.fields

pub second_field : (row : List (List ℕ)) (x : Entry) → IsPair row x → field_at row 1 ≡ Some x.1
unfolding field_at
second_field row x pair = ap (λ (r : List (List ℕ)). field_at r 1) pair.fields
