use Rattle.std.proofs.Common.{◌≡◌, ℕ, zero, suc, true, nat_eq, [], length, Some, sym, subst, refl, arith}
use Rattle.std.proofs.lemmas.Bool.Decides.{nat_tests}
use Rattle.std.proofs.lemmas.List.{nil_from_length}
use Rattle.std.proofs.lemmas.Result.{err_from_is_err_and}
use Rattle.rkyv_btree_format.specs.Layout.{layout_of}
use Rattle.rkyv_btree_writing_laws.specs.Entries.{now_of}
use Rattle.rkyv_btree_writing_laws.specs.Written.{ChildWritten, ChildStopped}
use Rattle.rkyv_btree_format.proofs.Sizes.{room_of}
use Rattle.rkyv_btree_shape.proofs.Alone.{alone_leaf}
use Rattle.bench_recursion.proofs.Rows.{not-empty}
use Rattle.bench_recursion.proofs.tree.write_few.Goals as goal

empty : (n : ℕ) → true ≡ nat_eq n 0 → n ≡ 0
empty zero h = refl
empty (suc n) h = absurd (grind (arith, nat_tests))

pub returns-then-is_empty-clause-ok : goal.returns-then-is_empty-clause-ok
returns-then-is_empty-clause-ok g c =
    let items = c.args.items.now in
    let none : items ≡ [] = nil_from_length items (empty (length items) c.if-is_empty.ensures) in
    rw none (refl, refl)

pub returns-in_err-root-clause-err : goal.returns-in_err-root-clause-err
returns-in_err-root-clause-err g c =
    let items = c.args.items.now in
    let room = room_of _ _ g.row.E g.met.K.Portable.laws g.met.V.Portable.laws c.requires.fitting in
    let leaf_is = alone_leaf g.row.E (now_of {M = g.row.KU.Denot} {N = g.row.VU.Denot}) items room.some (not-empty (length items) c.if-is_empty.ensures) c.requires.few in
    let p = err_from_is_err_and c.from_residual.result c.from_residual.ensures.1 in
    rw (p.1, p.2) (subst (λ z. ChildStopped (layout_of g.K.Portable.kind g.V.Portable.kind g.row.E) g.KU.Archive.archival g.VU.Archive.archival (g.W.Writer.state c.args.writer.now) z c.in_err-root.field-0.0 (g.W.Writer.state c.write_leaf.new.writer)) (sym leaf_is) c.in_err-root.ensures.err)

pub returns-clause-ok : goal.returns-clause-ok
returns-clause-ok g c =
    let items = c.args.items.now in
    let room = room_of _ _ g.row.E g.met.K.Portable.laws g.met.V.Portable.laws c.requires.fitting in
    let leaf_is = alone_leaf g.row.E (now_of {M = g.row.KU.Denot} {N = g.row.VU.Denot}) items room.some (not-empty (length items) c.if-is_empty.ensures) c.requires.few in
    subst (λ z. ChildWritten (layout_of g.K.Portable.kind g.V.Portable.kind g.row.E) g.KU.Archive.archival g.VU.Archive.archival (g.W.Writer.state c.args.writer.now) z (Some c.in_ok-root.root) (g.W.Writer.state c.write_leaf.new.writer)) (sym leaf_is)
    (c.in_ok-root.root, c.in_ok-root.ensures.ok, refl)

pub write_leaf-requires-clause-fitting : goal.write_leaf-requires-clause-fitting
write_leaf-requires-clause-fitting g c = c.requires.fitting

pub write_leaf-requires-clause-count : goal.write_leaf-requires-clause-count
write_leaf-requires-clause-count g c = c.requires.few

pub write_leaf-requires-clause-free : goal.write_leaf-requires-clause-free
write_leaf-requires-clause-free g c = c.requires.free

pub returns-clause-last : goal.returns-clause-last
returns-clause-last g c = λ some. c.in_ok-root.ensures.last

pub returns-clause-free : goal.returns-clause-free
returns-clause-free g c = c.in_ok-root.ensures.free

pub returns-then-is_empty-clause-free : goal.returns-then-is_empty-clause-free
returns-then-is_empty-clause-free g c = c.requires.free
