-- The first entry starts the search, and each further one goes on with it.
use Rattle.std.proofs.Common.{◌≡◌, ◌<◌, true, false, sym, ◌∙◌, arith, rules, Bool}
use Rattle.rkyv_btree_strict.proofs.Ordered.{ends, few, first_counted, found, goes_on, next_counted, none, starts, stops}
use Rattle.rkyv_btree_view.specs.View.{entries_of}
use Rattle.rkyv_btree_strict.proofs.order.first_out_of_order.Goals as goal

not_both : (b : Bool) → b ≡ false → b ≡ true → ⊥
not_both b fails holds = cc

pub returns-in_default : goal.returns-in_default
returns-in_default g c =
    let order = g.K.Portable.kind.order in
    let all = entries_of g.K.Portable.kind g.V.Portable.kind g.M.ArchivedMap.E c.args.map in
    none order all (sym c.iter-entries.ensures.entries ∙ c.in_default.ensures.steps.0) (found g.met.K.ViewOrd.total all)

pub loop-key-init : goal.loop-key-init
loop-key-init g c =
    let order = g.K.Portable.kind.order in
    let all = entries_of g.K.Portable.kind g.V.Portable.kind g.M.ArchivedMap.E c.args.map in
    let parts = sym c.iter-entries.ensures.entries ∙ c.in-Some.ensures.steps in
    record {
      searched = starts order all _ _ _ parts (found g.met.K.ViewOrd.total all);
      count = first_counted all _ _ parts;
    }

pub returns-then-not-is_less : goal.returns-then-not-is_less
returns-then-not-is_less g c =
    let order = g.K.Portable.kind.order in
    let all = entries_of g.K.Portable.kind g.V.Portable.kind g.M.ArchivedMap.E c.args.map in
    stops order all _ _ _ _ _ _ (λ less. not_both c.is_less.result c.if-not-is_less.true (c.is_less.ensures.1 less)) c.in-Some-next.ensures.steps c.loop-key.invariant.searched

pub overflow_add-index : goal.overflow_add-index
overflow_add-index g c =
    let all = entries_of g.K.Portable.kind g.V.Portable.kind g.M.ArchivedMap.E c.args.map in
    let len : c.len-len.result < 18446744073709551616 = omega (arith, c.len-len.ensures.small) in
    let fits = few all _ _ _ c.loop-key.index c.len-len.result c.in-Some-next.ensures.steps c.loop-key.invariant.count c.len-len.ensures.entries len in
    omega (arith, fits)

pub loop-key-preserved : goal.loop-key-preserved
loop-key-preserved g c =
    let order = g.K.Portable.kind.order in
    let all = entries_of g.K.Portable.kind g.V.Portable.kind g.M.ArchivedMap.E c.args.map in
    record {
      searched = goes_on order all _ _ _ _ _ _ (c.is_less.ensures.0 (search rules)) c.in-Some-next.ensures.steps c.loop-key.invariant.searched;
      count = next_counted all _ _ _ c.loop-key.index c.in-Some-next.ensures.steps c.loop-key.invariant.count;
    }

pub returns : goal.returns
returns g c =
    let order = g.K.Portable.kind.order in
    let all = entries_of g.K.Portable.kind g.V.Portable.kind g.M.ArchivedMap.E c.args.map in
    ends order all _ _ _ c.in_default-next.ensures.steps.0 c.loop-key.invariant.searched
