use Rattle.std.proofs.Common.{ap, drop, sym, ◌∙◌}
use Rattle.std.proofs.lemmas.List.{take_rest}
use Rattle.std.proofs.lemmas.Result.{err_from_is_err_and}
use Rattle.rkyv_btree_archive.proofs.waiting.write_above.Goals as goal

pub returns-in_err-root-clause-err : goal.returns-in_err-root-clause-err
returns-in_err-root-clause-err g c =
    let entries = take_rest c.deref.result.now c.args.first ∙ ap (drop c.args.first) c.deref.ensures.value in
    let places = take_rest c.deref-2.result.now c.args.first_child ∙ ap (drop c.args.first_child) c.deref-2.ensures.value in
    let p = err_from_is_err_and c.from_residual.result c.from_residual.ensures.1 in
    rw (p.1, p.2, sym entries, sym places) c.in_err-root.ensures.err

pub returns-clause-ok : goal.returns-clause-ok
returns-clause-ok g c =
    let entries = take_rest c.deref.result.now c.args.first ∙ ap (drop c.args.first) c.deref.ensures.value in
    let places = take_rest c.deref-2.result.now c.args.first_child ∙ ap (drop c.args.first_child) c.deref-2.ensures.value in
    rw (sym entries, sym places) c.in_ok-root.ensures.ok

pub write_inner-requires-clause-fitting : goal.write_inner-requires-clause-fitting
write_inner-requires-clause-fitting g c = c.requires.fitting

pub write_inner-requires-clause-free : goal.write_inner-requires-clause-free
write_inner-requires-clause-free g c = c.requires.free

pub returns-clause-last : goal.returns-clause-last
returns-clause-last g c = c.in_ok-root.ensures.last

pub returns-clause-free : goal.returns-clause-free
returns-clause-free g c = c.in_ok-root.ensures.free
