use Rattle.std.proofs.Common.{◌≡◌, List, [], ◌∷◌, Bor, inr, map, sym, ap, ◌∙◌}
use Rattle.std.specs.Iterator.{Drains, YieldsFirstBy}
use Rattle.rkyv_btree_writing_laws.specs.Alike.{entry_meaning}
use Rattle.rkyv_btree_writing_laws.specs.Entries.{now_of}
use Rattle.std.proofs.lemmas.Result.{err_from_is_err_and}
use Rattle.bench_recursion.proofs.both.build_by_both.Goals as goal

-- all items of an iterator are what its state shows
drained : {M N S : Type 0} (rest : S → List (M × N)) (s : S) (xs : List (Bor M × Bor N)) → Drains (YieldsFirstBy now_of rest) s xs → map now_of xs ≡ rest s
drained rest s [] d = sym (ap rest d.1.1 ∙ d.1.2.0)
drained rest s (x ∷ xs) d = ap (λ ys. now_of x ∷ ys) (drained rest d.1.1.0 xs (d.0, (d.1.0, d.1.1.2, d.1.2))) ∙ sym d.1.1.1

pub returns-clause-root : goal.returns-clause-root
returns-clause-root g c keys values =
    let made = c.in_ok-root.ensures.ok.written in
    let also = c.in_ok-place.ensures.ok.written in
    let are = drained (λ e. e.rest.now) _ made.items made.all in
    let these = drained (λ e. e.rest.now) _ also.items also.all in
    let same = ap (map (entry_meaning g.KU.Archive.archival g.VU.Archive.archival)) (are ∙ sym these) in
    (c.trees_are_determined.ensures keys values _ _ _ _ (map now_of made.items) (map now_of also.items) c.in_ok-root.root c.in_ok-place.place c.requires.at same made.built also.built).0

pub returns-clause-bytes : goal.returns-clause-bytes
returns-clause-bytes g c keys values =
    let made = c.in_ok-root.ensures.ok.written in
    let also = c.in_ok-place.ensures.ok.written in
    let are = drained (λ e. e.rest.now) _ made.items made.all in
    let these = drained (λ e. e.rest.now) _ also.items also.all in
    let same = ap (map (entry_meaning g.KU.Archive.archival g.VU.Archive.archival)) (are ∙ sym these) in
    (c.trees_are_determined.ensures keys values _ _ _ _ (map now_of made.items) (map now_of also.items) c.in_ok-root.root c.in_ok-place.place c.requires.at same made.built also.built).1

pub returns-in_err-place-clause-err : goal.returns-in_err-place-clause-err
returns-in_err-place-clause-err g c =
    let p = err_from_is_err_and c.from_residual-in_err-place.result c.from_residual-in_err-place.ensures.1 in
    rw (p.1, p.2) (inr (c.in_ok-root.root, c.in_ok-root.ensures.ok.written, c.in_err-place.ensures.err.cause))
