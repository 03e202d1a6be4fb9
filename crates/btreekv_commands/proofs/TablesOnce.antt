-- A text is the table of one list of entries at most, and has no bad record then.
use Rattle.std.proofs.Common.{◌≡◌, ℕ, List, [], ◌∷◌, ◌++◌, refl, sym, ap, subst, ◌∙◌, Some, None}
use Rattle.csv.specs.Machine.{Read, next_record}
use Rattle.csv.specs.Reading.{Reached, strip_bom}
use Rattle.csv.specs.declared.parser.Config.{Config}
use Rattle.csv.specs.declared.parser.State.{State}
use Rattle.csv.specs.declared.parser.State.TheVariants.{StartRecord}
use Rattle.btreekv_commands.specs.CsvRecords.{ArePairs, AreTableEntries, IsBadRow, IsPair, below_header, reading}
use Rattle.btreekv_commands.specs.Lines.{Entry}
use Rattle.btreekv_commands.specs.declared.csv_records.Table.{Table}

one_read : (p q : Read) → Some p ≡ Some q → p ≡ q
one_read p q e = cc e

-- a read behind the end of the records
no_read : (cfg : Config) (s s2 : State) (xs ys : List ℕ) (p : Read) → (s ≡ s2) × (xs ≡ ys) → next_record cfg s2 [] [] ys ≡ None → next_record cfg s [] [] xs ≡ Some p → ⊥
no_read cfg s s2 xs ys p same none some =
    let moved = subst (λ (z : State). next_record cfg z [] [] xs ≡ Some p) same.0 some in
    cc (sym none ∙ subst (λ (zs : List ℕ). next_record cfg s2 [] [] zs ≡ Some p) same.1 moved)

-- two runs over one text go on from one place
from_one : (cfg : Config) (p q : Read) (rows : List (List (List ℕ))) (s : State) (ys : List ℕ) → p ≡ q → Reached cfg q.1 q.2 rows s ys → Reached cfg p.1 p.2 rows s ys
from_one cfg p q rows s ys same run = subst (λ (r : Read). Reached cfg r.1 r.2 rows s ys) (sym same) run

-- all records of a text begin with those that a run from its start has read
begins : (cfg : Config) (s s2 s3 : State) (xs ys zs : List ℕ) (rows before : List (List (List ℕ))) (bad : List (List ℕ)) → Reached cfg s xs rows s2 ys → next_record cfg s2 [] [] ys ≡ None
    → Reached cfg s xs (before ++ bad ∷ []) s3 zs → (after : List (List (List ℕ))) × (rows ≡ before ++ bad ∷ after)
unfolding Reached
begins cfg s s2 s3 xs ys zs [] [] bad all none run = absurd (no_read cfg s s2 xs ys run.0 all none run.1)
begins cfg s s2 s3 xs ys zs [] (b ∷ bs) bad all none run = absurd (no_read cfg s s2 xs ys run.0 all none run.1)
begins cfg s s2 s3 xs ys zs (r ∷ rs) [] bad all none run =
    let same = one_read all.0 run.0 (sym all.1 ∙ run.1) in
    (rs, ap (λ (z : List (List ℕ)). z ∷ rs) (all.2 ∙ (ap (λ (p : Read). p.0) same ∙ sym run.2)))
begins cfg s s2 s3 xs ys zs (r ∷ rs) (b ∷ bs) bad all none run =
    let same = one_read all.0 run.0 (sym all.1 ∙ run.1) in
    let rest = begins cfg all.0.1 s2 s3 all.0.2 ys zs rs bs bad all.3 none (from_one cfg all.0 run.0 (bs ++ bad ∷ []) s3 zs same run.3) in
    (rest.0, ap (λ (z : List (List ℕ)). z ∷ rs) (all.2 ∙ (ap (λ (p : Read). p.0) same ∙ sym run.2)) ∙ ap (λ (zs : List (List (List ℕ))). b ∷ zs) rest.1)

one_list : (cfg : Config) (s s2 s3 : State) (xs ys zs : List ℕ) (rows others : List (List (List ℕ))) → Reached cfg s xs rows s2 ys → next_record cfg s2 [] [] ys ≡ None
    → Reached cfg s xs others s3 zs → next_record cfg s3 [] [] zs ≡ None → rows ≡ others
unfolding Reached
one_list cfg s s2 s3 xs ys zs [] [] all none also nothing = refl
one_list cfg s s2 s3 xs ys zs [] (o ∷ os) all none also nothing = absurd (no_read cfg s s2 xs ys also.0 all none also.1)
one_list cfg s s2 s3 xs ys zs (r ∷ rs) [] all none also nothing = absurd (no_read cfg s s3 xs zs all.0 also nothing all.1)
one_list cfg s s2 s3 xs ys zs (r ∷ rs) (o ∷ os) all none also nothing =
    let same = one_read all.0 also.0 (sym all.1 ∙ also.1) in
    let rest = one_list cfg all.0.1 s2 s3 all.0.2 ys zs rs os all.3 none (from_one cfg all.0 also.0 os s3 zs same also.3) nothing in
    ap (λ (z : List (List ℕ)). z ∷ rs) (all.2 ∙ (ap (λ (p : Read). p.0) same ∙ sym also.2)) ∙ ap (λ (zs : List (List (List ℕ))). o ∷ zs) rest

two_same : (a b c d : List ℕ) → a ∷ b ∷ [] ≡ c ∷ d ∷ [] → (a ≡ c) × (b ≡ d)
two_same a b c d e = (cc e, cc e)

one_pair : (row : List (List ℕ)) (x y : Entry) → IsPair row x → IsPair row y → x ≡ y
one_pair row x y is also =
    let parts = two_same x.0 x.1 y.0 y.1 (sym is.fields ∙ also.fields) in
    ap (λ (z : List ℕ). (z, x.1)) parts.0 ∙ ap (λ (z : List ℕ). (y.0, z)) parts.1

one_entries : (rows : List (List (List ℕ))) (xs ys : List Entry) → ArePairs rows xs → ArePairs rows ys → xs ≡ ys
one_entries [] [] [] are also = refl
one_entries [] [] (y ∷ ys) are also = absurd also
one_entries [] (x ∷ xs) ys are also = absurd are
one_entries (r ∷ rs) [] ys are also = absurd are
one_entries (r ∷ rs) (x ∷ xs) [] are also = absurd also
one_entries (r ∷ rs) (x ∷ xs) (y ∷ ys) are also =
    ap (λ (z : Entry). z ∷ xs) (one_pair r x y are.0 also.0) ∙ ap (λ (zs : List Entry). y ∷ zs) (one_entries rs xs ys are.1 also.1)

pair_among : (before : List (List (List ℕ))) (bad : List (List ℕ)) (after : List (List (List ℕ))) (xs : List Entry) → ArePairs (before ++ bad ∷ after) xs → (x : Entry) × IsPair bad x
pair_among [] bad after [] are = absurd are
pair_among [] bad after (x ∷ xs) are = (x, are.0)
pair_among (b ∷ bs) bad after [] are = absurd are
pair_among (b ∷ bs) bad after (x ∷ xs) are = pair_among bs bad after xs are.1

pub one_table : (table : Table) (bytes : List ℕ) (entries others : List Entry) → AreTableEntries table bytes entries → AreTableEntries table bytes others → entries ≡ others
one_table table bytes entries others is also =
    let (s2, ys, run, none) = is.1.all in
    let (s3, zs, run2, none2) = also.1.all in
    let rows = one_list (reading table) StartRecord s2 s3 (strip_bom bytes) ys zs is.1.rows also.1.rows run none run2 none2 in
    let pairs = one_entries also.1.rows is.0 also.0 (subst (λ (rs : List (List (List ℕ))). ArePairs rs is.0) rows is.1.are) also.1.are in
    is.2 ∙ (ap below_header pairs ∙ sym also.2)

pub none_bad : (table : Table) (bytes : List ℕ) (entries : List Entry) (n : ℕ) → AreTableEntries table bytes entries → IsBadRow table bytes n → ⊥
none_bad table bytes entries n is bad =
    let (s2, ys, run, none) = is.1.all in
    let found = begins (reading table) StartRecord s2 bad.state (strip_bom bytes) ys bad.rest is.1.rows bad.before bad.bad run none bad.first in
    let pair = pair_among bad.before bad.bad found.0 is.0 (subst (λ (rs : List (List (List ℕ))). ArePairs rs is.0) found.1 is.1.are) in
    bad.no_pair pair.0 pair.1
