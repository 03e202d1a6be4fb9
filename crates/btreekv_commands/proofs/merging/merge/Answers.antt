-- The archives so far, and one more.
use Rattle.std.proofs.Common.{◌≡◌, refl, ℕ, ◌-◌, List, [], ◌∷◌, length, map, sym, subst, arith, Vec, Global}
use Rattle.std.proofs.lemmas.List.{length-map}
use Rattle.std.specs.List.{fold}
use Rattle.btreearc_lines.specs.declared.heading.Heading.{Heading}
use Rattle.btreekv_commands.specs.Opening.{HasFitHeading}
use Rattle.btreekv_commands.specs.Updating.{FailsNext, IsStrictArchive, put_over}
use Rattle.btreekv_commands.proofs.Merges.{SoFar, all_merged, at_first, fails_next, few, one_more}
use Rattle.btreekv_commands.proofs.Updates.{first_refused}
use Rattle.btreekv_commands.proofs.merging.merge.Goals as goal

pub returns-in-Err-clause-err : goal.returns-in-Err-clause-err
returns-in-Err-clause-err c = first_refused c.args.first.now (map (λ other. other.items) c.args.others.now) c.in-Err.fault c.in-Err.ensures.err

pub loop-next-init : goal.loop-next-init
loop-next-init c =
    at_first c.in-Ok.heading c.args.first.now c.in-Ok-from_slice.so_far.items (map (λ other. other.items) c.args.others.now)
    _ c.in-Ok.ensures.headed c.in-Ok.ensures.ok c.in-Ok-from_slice.ensures.items

-- the bytes of archives
abbrev bytes : List (Vec ℕ Global) → List (List ℕ)
bytes archives = map (λ other. other.items) archives

-- what is left begins with the next archive
at_next : (heading : Heading) (first : List ℕ) (all rest : List (Vec ℕ Global)) (next : Vec ℕ Global) (later : List (Vec ℕ Global)) (text : List ℕ)
    → SoFar heading first (bytes all) (bytes rest) text → rest ≡ next ∷ later → SoFar heading first (bytes all) (next.items ∷ bytes later) text
at_next heading first all rest next later text so_far is = subst (λ (vs : List (Vec ℕ Global)). SoFar heading first (bytes all) (bytes vs) text) is so_far

pub overflow_sub-number : goal.overflow_sub-number
overflow_sub-number c =
    let so_far = at_next c.in-Ok.heading c.args.first.now c.args.others.now c.loop-next.rest.now c.in-Some.next.now c.in-Some.later.now c.loop-next.so_far.items
    c.loop-next.invariant c.in-Some.ensures.cases.0 in
    omega (
      arith,
      few c.in-Ok.heading c.args.first.now (bytes c.args.others.now) c.in-Some.next.now.items (bytes c.in-Some.later.now) c.loop-next.so_far.items so_far,
      length-map {B =
          List ℕ} c.args.others.now (λ other. other.items),
      length-map {B = List ℕ} c.in-Some.later.now (λ other. other.items),
    )

pub returns-in-Err-merge_next-clause-err : goal.returns-in-Err-merge_next-clause-err
returns-in-Err-merge_next-clause-err c =
    let so_far = at_next c.in-Ok.heading c.args.first.now c.args.others.now c.loop-next.rest.now c.in-Some.next.now c.in-Some.later.now c.loop-next.so_far.items
    c.loop-next.invariant c.in-Some.ensures.cases.0 in
    let list = fold put_over so_far.entries so_far.further in
    let number = length c.args.others.now - length c.in-Some.later.now in
    let is = subst (λ (b : List ℕ). IsStrictArchive b list) (sym c.as_slice.ensures.value) so_far.text_is.1 in
    let failed : FailsNext c.in-Ok.heading list number c.in-Some.next.now.items c.in-Err-merge_next.fault = subst
    (λ (b : List ℕ). FailsNext c.in-Ok.heading list number b c.in-Err-merge_next.fault) c.as_slice-in-Some.ensures.value (c.in-Err-merge_next.ensures.err list is) in
    let same : number ≡ length (bytes c.args.others.now) - length (bytes c.in-Some.later.now) = omega
    (arith, length-map {B = List ℕ} c.args.others.now (λ other. other.items), length-map {B = List ℕ} c.in-Some.later.now (λ other. other.items)) in
    fails_next c.in-Ok.heading c.args.first.now (bytes c.args.others.now) c.in-Some.next.now.items (bytes c.in-Some.later.now) c.loop-next.so_far.items so_far number
    same c.in-Err-merge_next.fault failed

pub loop-next-preserved : goal.loop-next-preserved
loop-next-preserved c =
    let so_far = at_next c.in-Ok.heading c.args.first.now c.args.others.now c.loop-next.rest.now c.in-Some.next.now c.in-Some.later.now c.loop-next.so_far.items
    c.loop-next.invariant c.in-Some.ensures.cases.0 in
    let list = fold put_over so_far.entries so_far.further in
    let put = c.in-Ok-merge_next.ensures.ok list (subst (λ (b : List ℕ). IsStrictArchive b list) (sym c.as_slice.ensures.value) so_far.text_is.1) in
    one_more c.in-Ok.heading c.args.first.now (bytes c.args.others.now) c.in-Some.next.now.items (bytes c.in-Some.later.now) c.loop-next.so_far.items so_far
    c.in-Ok-merge_next.more.items put.0 (subst HasFitHeading c.as_slice-in-Some.ensures.value c.in-Ok-merge_next.ensures.headed)
    (subst (λ (b : List ℕ). IsStrictArchive b put.0) c.as_slice-in-Some.ensures.value put.1) put.2

none_left : (rest : List (Vec ℕ Global)) → length rest ≡ 0 → bytes rest ≡ []
none_left [] none = refl
none_left (x ∷ xs) none = absurd (omega (arith, none))

pub returns-clause-ok : goal.returns-clause-ok
returns-clause-ok c =
    let none = none_left c.loop-next.rest.now c.in_default-split_first.ensures.cases in
    all_merged c.in-Ok.heading c.args.first.now (bytes c.args.others.now) (bytes c.loop-next.rest.now) c.loop-next.so_far.items c.loop-next.invariant none
