-- The first change starts the search, and each further one goes on with it.
use Rattle.std.proofs.Common.{◌≡◌, ◌<◌, List, [], ◌∷◌, length, true, false, sym, subst, ◌∙◌, arith, rules, refl}
use Rattle.std.specs.Ordering.{is_lt}
use Rattle.std.specs.Prelude.{MatchOption}
use Rattle.std.specs.declared.cmp.Ordering.{Ordering}
use Rattle.std.specs.declared.cmp.Ordering.TheVariants.{Less, Equal, Greater}
use Rattle.rkyv_btree_format.specs.Increasing.{Increasing, IsOutOfOrder}
use Rattle.rkyv_btree_strict.proofs.Ordered.{ends, few, first_counted, found, goes_on, next_counted, none, starts, stops}
use Rattle.rkyv_btree_update.proofs.order.first_out_of_order.Goals as goal

not_less : (o : Ordering) → is_lt o ≡ false → o ≡ Less → ⊥
not_less Less fails less = cc
not_less Equal fails less = cc less
not_less Greater fails less = cc less

less : (o : Ordering) → is_lt o ≡ true → o ≡ Less
less Less holds = refl
less Equal holds = cc holds
less Greater holds = cc holds

empty : {X : Type 0} (xs : List X) → length xs ≡ 0 → xs ≡ []
empty [] none = refl
empty (x ∷ xs) none = absurd (omega (arith, none))

pub returns-in_err-first : goal.returns-in_err-first
returns-in_err-first g c =
    let all = c.args.changes.now in
    subst (λ o. MatchOption o (Increasing g.K.Ord.cmp all) (IsOutOfOrder g.K.Ord.cmp all)) (sym c.from_residual.ensures)
    (none g.K.Ord.cmp all (sym c.iter-rest.ensures.rest ∙ empty _ c.in_err-first.ensures.steps.0) (found g.met.K.Ord.total all))

pub loop-next-init : goal.loop-next-init
loop-next-init g c =
    let all = c.args.changes.now in
    let parts = sym c.iter-rest.ensures.rest ∙ c.in_ok-first.ensures.steps in
    record {
      searched = starts g.K.Ord.cmp all _ _ _ parts (found g.met.K.Ord.total all);
      count = first_counted all _ _ parts;
    }

pub returns-then-not-is_lt : goal.returns-then-not-is_lt
returns-then-not-is_lt g c =
    let all = c.args.changes.now in
    stops g.K.Ord.cmp all _ _ _ _ _ _ (λ is. not_less c.cmp.result (sym c.is_lt.ensures ∙ c.if-not-is_lt.true) (c.cmp.ensures ∙ is)) c.in-Some.ensures.steps c.loop-next.invariant.searched

pub overflow_add-index : goal.overflow_add-index
overflow_add-index g c =
    let all = c.args.changes.now in
    let len : length all < 18446744073709551616 = search rules in
    let fits = few all _ _ _ c.loop-next.index (length all) c.in-Some.ensures.steps c.loop-next.invariant.count refl len in
    omega (arith, fits)

pub loop-next-preserved : goal.loop-next-preserved
loop-next-preserved g c =
    let all = c.args.changes.now in
    record {
      searched = goes_on g.K.Ord.cmp all _ _ _ _ _ _ (sym c.cmp.ensures ∙ less c.cmp.result (sym c.is_lt.ensures ∙ c.if-not-is_lt.false)) c.in-Some.ensures.steps c.loop-next.invariant.searched;
      count = next_counted all _ _ _ c.loop-next.index c.in-Some.ensures.steps c.loop-next.invariant.count;
    }

pub returns : goal.returns
returns g c = ends g.K.Ord.cmp c.args.changes.now _ _ _ (empty _ c.in_default.ensures.steps.0) c.loop-next.invariant.searched
