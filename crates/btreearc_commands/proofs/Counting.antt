-- Lines that are read one after another from a reader, counted, and their keys compared.
use Rattle.std.proofs.Common.{◌≡◌, ℕ, ◌+◌, Bool, true, false, List, [], ◌∷◌, ◌++◌, length, Option, Some, None, IfSome, IfOk, OnOk, IfErr, Ok, Err, refl, sym, ap, subst, ◌∙◌, arith, append_assoc}
use Rattle.std.proofs.lemmas.Cmp.{nat_cmp_total}
use Rattle.std.proofs.lemmas.List.{length-append}
use Rattle.std.specs.Prelude.{Result}
use Rattle.std.specs.Ordering.{nat_cmp}
use Rattle.std.specs.declared.cmp.Ordering.TheVariants.{Less}
use Rattle.rkyv_btree_format.specs.Increasing.{Increasing, IsOutOfOrder}
use Rattle.rkyv_btree_format.proofs.Increasing.{nothing, alone, increasing_snoc}
use Rattle.btreearc_lines.specs.Grammar.{BadLine, IsEntry, IsLines}
use Rattle.btreearc_lines.specs.Reading.{TakesLine}
use Rattle.btreearc_lines.proofs.Splitting.{ReadLines, all_read, bad_read, one_read}
use Rattle.btreearc_lines.specs.declared.fault.ProgramFault.{ProgramFault}
use Rattle.btreearc_lines.specs.declared.heading.Heading.{Heading}
use Rattle.btreearc_commands.specs.Streaming.{AreCounted, FailsToTest, IsInOrder, IsLastKey, KnowsOrder, NamesFirst}

-- The order of keys.

grown : (last : Option ℕ) (done : List (ℕ × ℕ)) (x : ℕ × ℕ) → Increasing nat_cmp done → IsLastKey last done → IfSome last (λ key. nat_cmp key x.0 ≡ Less) → Increasing nat_cmp (done ++ x ∷ [])
grown None done x increase empty more = subst (λ (zs : List (ℕ × ℕ)). Increasing nat_cmp (zs ++ x ∷ [])) (sym empty) (alone nat_cmp x)
grown (Some key) done x increase (front, e, is, same) more =
    subst (λ (zs : List (ℕ × ℕ)). Increasing nat_cmp (zs ++ x ∷ [])) (sym is)
    (increasing_snoc nat_cmp_total front e x (subst (λ (zs : List (ℕ × ℕ)). Increasing nat_cmp zs) is increase) (subst (λ (z : ℕ). nat_cmp z x.0 ≡ Less) same more))

-- the next key is greater than the last, if there is one
pub greater : (last : Option ℕ) (done : List (ℕ × ℕ)) (x : ℕ × ℕ) → KnowsOrder last None done → IfSome last (λ key. nat_cmp key x.0 ≡ Less) → KnowsOrder (Some x.0) None (done ++ x ∷ [])
greater last done x (increase, of) more = (grown last done x increase of more, (done, x, refl, refl))

-- it isn't
pub not_greater : (key : ℕ) (done : List (ℕ × ℕ)) (x : ℕ × ℕ) (index : ℕ) → KnowsOrder (Some key) None done → ¬ (nat_cmp key x.0 ≡ Less) → index ≡ length done → KnowsOrder (Some x.0) (Some index) (done ++ x ∷ [])
not_greater key done x index (increase, (front, e, is, same)) more number = record {
  front = front;
  before = e;
  entry = x;
  back = [];
  parts = ap (λ (es : List (ℕ × ℕ)). es ++ x ∷ []) is ∙ append_assoc front (e ∷ []) (x ∷ []);
  number = omega (arith, number, ap length is, length-append front (e ∷ []));
  first = subst (λ (es : List (ℕ × ℕ)). Increasing nat_cmp es) is increase;
  not_greater = subst (λ (z : ℕ). ¬ (nat_cmp z x.0 ≡ Less)) same more;
}

-- one was out of order before
pub longer : (last other : Option ℕ) (done : List (ℕ × ℕ)) (x : ℕ × ℕ) (index : ℕ) → KnowsOrder last (Some index) done → KnowsOrder other (Some index) (done ++ x ∷ [])
longer last other done x index o = record {
  front = o.front;
  before = o.before;
  entry = o.entry;
  back = o.back ++ x ∷ [];
  parts = ap (λ (es : List (ℕ × ℕ)). es ++ x ∷ []) o.parts ∙ append_assoc o.front (o.before ∷ o.entry ∷ o.back) (x ∷ []);
  number = o.number;
  first = o.first;
  not_greater = o.not_greater;
}

-- Lines.

-- of known bytes so many lines were read, each an entry, and this is known of their keys
abbrev pub Counted : Option (List ℕ) → Option (List ℕ) → ℕ → Option ℕ → Option ℕ → Type 0
Counted None now n last first = Unit {0}
Counted (Some bytes) None n last first = ⊥
Counted (Some bytes) (Some rest) n last first = (entries : List (ℕ × ℕ)) × ReadLines bytes rest entries × (n ≡ length entries) × KnowsOrder last first entries

pub none_counted : (known : Option (List ℕ)) → Counted known known 0 None None
none_counted None = tt
none_counted (Some bytes) = ([], record { before = []; split = refl; good = tt }, refl, (nothing ℕ nat_cmp, refl))

-- a line that is an entry
pub one_counted : (known now new : Option (List ℕ)) (n key value : ℕ) (last first after : Option ℕ) → Counted known now n last first → TakesLine (λ line. IsEntry line (key, value)) now new → ((entries : List (ℕ × ℕ)) (value : ℕ) → KnowsOrder last first entries → n ≡ length entries → KnowsOrder (Some key) after (entries ++ (key, value) ∷ []))
    → Counted known new (n + 1) (Some key) after
one_counted None now new n key value last first after c r grows = tt
one_counted (Some bytes) None new n key value last first after c r grows = absurd c
one_counted (Some bytes) (Some rest) None n key value last first after c r grows = absurd r
one_counted (Some bytes) (Some rest) (Some behind) n key value last first after c r grows =
    (c.0 ++ (key, value) ∷ [], one_read bytes rest r.0 behind c.0 (key, value) c.1 r.1 r.2, omega (arith, c.2, length-append c.0 ((key, value) ∷ [])), grows c.0 value c.3 c.2)

in_order : (is_strict : Bool) (last first : Option ℕ) (entries : List (ℕ × ℕ)) → KnowsOrder last first entries → (is_strict ≡ true → first ≡ None) → IsInOrder is_strict entries
in_order false last first entries knows none = tt
in_order true last first entries knows none = (subst (λ (o : Option ℕ). KnowsOrder last o entries) (none refl) knows).0

strange : false ≡ true → ⊥
strange e = grind (arith, e)

-- no line is left
all_counted : (is_strict : Bool) (known now : Option (List ℕ)) (n m : ℕ) (last first : Option ℕ) → Counted known now n last first → IfSome now (λ bytes. bytes ≡ []) → m ≡ n → (is_strict ≡ true → first ≡ None) → IfSome known (AreCounted is_strict m)
all_counted is_strict None now n m last first c end same none = tt
all_counted is_strict (Some bytes) None n m last first c end same none = absurd c
all_counted is_strict (Some bytes) (Some rest) n m last first c end same none = record { entries = c.0; are = all_read bytes rest c.0 c.1 end; number = same ∙ c.2; order = in_order is_strict last first c.0 c.3 none }

-- no line is left, and a key is out of order
out_of_order : (known now : Option (List ℕ)) (n : ℕ) (last : Option ℕ) (index : ℕ) → Counted known now n last (Some index) → IfSome now (λ bytes. bytes ≡ []) → IfSome known (λ bytes. (entries : List (ℕ × ℕ)) × IsLines bytes entries × IsOutOfOrder nat_cmp entries index)
out_of_order None now n last index c end = tt
out_of_order (Some bytes) None n last index c end = absurd c
out_of_order (Some bytes) (Some rest) n last index c end = (c.0, all_read bytes rest c.0 c.1 end, c.3)

-- a line that is no entry
pub bad_counted : (known now new : Option (List ℕ)) (n : ℕ) (last first : Option ℕ) → Counted known now n last first → TakesLine (λ line. (x : ℕ × ℕ) → ¬ IsEntry line x) now new → IfSome known (λ bytes. BadLine bytes (n + 1))
bad_counted None now new n last first c r = tt
bad_counted (Some bytes) None new n last first c r = absurd c
bad_counted (Some bytes) (Some rest) None n last first c r = absurd r
bad_counted (Some bytes) (Some rest) (Some behind) n last first c r = bad_read bytes rest r.0 behind c.0 (n + 1) c.1 r.1 r.2 (omega (arith, c.2))

-- an error that names it
pub named_fails : (is_strict : Bool) (heading : Heading) (known now : Option (List ℕ)) (n : ℕ) (last first : Option ℕ) → Counted known now n last first → IfSome now (λ bytes. bytes ≡ []) → (fault : ProgramFault) → (is_strict ≡ true) × NamesFirst first fault → FailsToTest is_strict heading known fault
named_fails is_strict heading known now n last None c end fault named = absurd named.1
named_fails true heading known now n last (Some index) c end fault named = subst (λ (f : ProgramFault). FailsToTest true heading known f) (sym named.1) (out_of_order known now n last index c end)
named_fails false heading known now n last (Some index) c end fault named = absurd (strange named.0)

pub errs_so : {T : Type 0} {P Q : ProgramFault → Type 0} (r : Result T ProgramFault) → ((fault : ProgramFault) → P fault → Q fault) → IfErr r P → IfErr r Q
errs_so (Ok x) f h = tt
errs_so (Err fault) f h = f fault h

-- the number is that of the lines
pub counts_so : (is_strict : Bool) (known now : Option (List ℕ)) (n : ℕ) (last first : Option ℕ) (r : Result ℕ ProgramFault) → Counted known now n last first → IfSome now (λ bytes. bytes ≡ []) → IfOk r (λ m. m ≡ n) → OnOk r (is_strict ≡ true → first ≡ None) → IfOk r (λ count. IfSome known (AreCounted is_strict count))
counts_so is_strict known now n last first (Ok m) c end same none = all_counted is_strict known now n m last first c end same none
counts_so is_strict known now n last first (Err fault) c end same none = tt
