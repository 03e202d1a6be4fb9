-- One more element is written, or its fault is the vector's.
use Rattle.std.proofs.Common.{◌≡◌, ◌+◌, ◌<◌, ◌∙◌, ℕ, List, [], ◌∷◌, ◌++◌, length, take, drop, get_or, sym, ap, subst, arith}
use Rattle.std.proofs.lemmas.List.{take_more, take_all, take-append-drop, drop_more, length_push}
use Rattle.std.proofs.lemmas.Result.{err_from_is_err_and}
use Rattle.rkyv_btree_archive.proofs.VectorsWritten.{no_element, element_written, element_unserialised}
use Rattle.rkyv_btree_archive.specs.mirror.Rows.{ElementsWritten}
use Rattle.rkyv_btree_archive.proofs.vector.serialize_elements.Goals as goal

-- one element of a list, those before it and those after it
cut : {X : Type 0} (xs : List X) (i : ℕ) (d x : X) → i < length xs → x ≡ get_or xs i d → xs ≡ take i xs ++ x ∷ drop (i + 1) xs
cut xs i d x inside is = sym (take-append-drop i xs) ∙ (ap (λ ys. take i xs ++ ys) (drop_more xs i d inside) ∙ ap (λ y. take i xs ++ y ∷ drop (i + 1) xs) (sym is))

grown : {X : Type 0} (xs : List X) (i : ℕ) (d x : X) → i < length xs → x ≡ get_or xs i d → take i xs ++ x ∷ [] ≡ take (i + 1) xs
grown xs i d x inside is = ap (λ y. take i xs ++ y ∷ []) is ∙ sym (take_more xs i d inside)

pub loop-element-init : goal.loop-element-init
loop-element-init g c =
    let s = g.W.Writer.state c.args.writer.now in
    record {
      done = subst (λ (rs : List g.row.T-Resolver.Denot). ElementsWritten g.T.Archive.archival s [] rs s) (sym c.requires.none) (no_element g.T.Archive.archival s);
      count = ap length c.requires.none;
      room = omega arith;
    }

pub loop-element-preserved : goal.loop-element-preserved
loop-element-preserved g c =
    let T = g.T.Archive.archival in
    let before = c.loop-element.invariant in
    let s = g.W.Writer.state c.args.writer.now in
    let t = g.W.Writer.state c.serialize.new.writer in
    let xs = c.args.elements.now in
    let i = c.loop-element.element-index in
    let rs = c.loop-element.resolvers.items in
    let x = c.element-item.result in
    let r = c.in_ok-resolver.resolver in
    let more = element_written T s (g.W.Writer.state c.loop-element.writer) t (take i xs) rs x r before.done c.in_ok-resolver.ensures.ok in
    let all = subst (λ (ys : List g.row.T.Denot). ElementsWritten T s ys (rs ++ r ∷ []) t) (grown xs i _ x c.loop-element-test.true c.element-item.is) more in
    record {
      done = subst (λ (qs : List g.row.T-Resolver.Denot). ElementsWritten T s (take (i + 1) xs) qs t) (sym c.push.ensures.items) all;
      count = omega (arith, before.count, ap length c.push.ensures.items ∙ length_push rs r);
      room = omega (arith, before.room, c.push.ensures.capacity);
    }

pub returns-in_err-resolver-clause-err : goal.returns-in_err-resolver-clause-err
returns-in_err-resolver-clause-err g c =
    let before = c.loop-element.invariant in
    let xs = c.args.elements.now in
    let i = c.loop-element.element-index in
    let x = c.element-item.result in
    let p = err_from_is_err_and c.from_residual.result c.from_residual.ensures.1 in
    rw (p.1, p.2) (element_unserialised g.T.Archive.archival (λ (ys : List g.row.T.Denot). ys) xs (g.W.Writer.state c.args.writer.now) _ (g.W.Writer.state c.loop-element.writer) (take i xs) (drop (i + 1) xs) c.loop-element.resolvers.items x
    (cut xs i _ x c.loop-element-test.true c.element-item.is) before.done c.in_err-resolver.field-0.0 c.in_err-resolver.ensures.err)

pub returns-clause-ok : goal.returns-clause-ok
returns-clause-ok g c =
    let before = c.loop-element.invariant in
    let xs = c.args.elements.now in
    subst (λ (ys : List g.row.T.Denot). ElementsWritten g.T.Archive.archival (g.W.Writer.state c.args.writer.now) ys c.loop-element.resolvers.items (g.W.Writer.state c.loop-element.writer)) (take_all c.loop-element.element-index xs (omega (arith, c.loop-element-test.false))) before.done
