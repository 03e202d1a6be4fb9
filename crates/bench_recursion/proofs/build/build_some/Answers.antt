use Rattle.std.proofs.Common.{◌≡◌, ◌+◌, ◌*◌, ◌<◌, ◌≤◌, [], length, map, Option, None, Bor, inl, refl, sym, subst, arith}
use Rattle.std.specs.Prelude.{⊤}
use Rattle.std.specs.Option.{option_copied}
use Rattle.std.proofs.lemmas.List.{length-map}
use Rattle.std.proofs.lemmas.Result.{err_from_is_err_and}
use Rattle.rkyv_btree_format.specs.Layout.{layout_of}
use Rattle.rkyv_btree_writing_laws.specs.Serialising.{meaning_of, Built}
use Rattle.rkyv_btree_writing_laws.specs.Entries.{now_of}
use Rattle.rkyv_btree_shape.specs.Plan.{planned_alone}
use Rattle.rkyv_btree_shape.specs.Logarithm.{ilog}
use Rattle.rkyv_btree_writing_laws.proofs.Kept.{same_begins}
use Rattle.rkyv_btree_writing_laws.proofs.Untold.{unasked}
use Rattle.rkyv_btree_writing_laws.proofs.TreesKept.{stops_begin, child_begins, child_went}
use Rattle.rkyv_btree_writing_laws.proofs.Building.{drained, miscounted_of, meaning_is, spelled_of}
use Rattle.rkyv_btree_writing_laws.proofs.Within.{yields_within, drains_within, miscounted_within, fault_within}
use Rattle.rkyv_btree_archive.proofs.Sources.{any_within}
use Rattle.bench_recursion.proofs.Building.{short_of, refused_of}
use Rattle.rkyv_btree_archive.specs.declared.items.AnyOrder.{AnyOrder}
use Rattle.rkyv_btree_archive.specs.mirror.Scratch.{IsReserved}
use Rattle.rkyv_btree_archive.specs.mirror.Source.{Gives, key_before}
use Rattle.bench_recursion.proofs.build.build_some.Goals as goal

pub returns-in_default-clause-err : goal.returns-in_default-clause-err
returns-in_default-clause-err g c = inl refl

pub returns-then-not-take_items-clause-err : goal.returns-then-not-take_items-clause-err
returns-then-not-take_items-clause-err g c =
    let short = c.if-not-take_items.true in
    miscounted_within g.K.Portable.kind g.V.Portable.kind g.row.E g.KU.Archive.archival g.VU.Archive.archival now_of _ g.I.Iterator.next_gives (λ s. s.0.items) (any_within g.I.Iterator.next_gives) _ c.args.len c.args.len c.len.result (g.W.Writer.state c.args.writer.now) (g.W.Writer.state c.args.writer.now)
    (short_of g.K.Portable.kind g.V.Portable.kind g.row.E g.KU.Archive.archival g.VU.Archive.archival _ _ c.args.len c.len.result (g.W.Writer.state c.args.writer.now) c.take_items.new.items.items (c.take_items.new.source, None)
    (c.take_items.ensures.few short) (omega arith) (c.take_items.ensures.short short))

pub returns-in_err-root-clause-err : goal.returns-in_err-root-clause-err
returns-in_err-root-clause-err g c =
    let took = c.if-not-take_items.false in
    let p = err_from_is_err_and c.from_residual.result c.from_residual.ensures.1 in
    rw (p.1, p.2) (fault_within g.K.Portable.kind g.V.Portable.kind g.row.E g.KU.Archive.archival g.VU.Archive.archival now_of _ g.I.Iterator.next_gives (λ s. s.0.items) (any_within g.I.Iterator.next_gives) _ c.args.len _ c.in_err-root.field-0.0 _
    (refused_of g.K.Portable.kind g.V.Portable.kind g.row.E g.KU.Archive.archival g.VU.Archive.archival _ _ c.args.len _ c.in_err-root.field-0.0 _ c.take_items.new.items.items (c.take_items.new.source, key_before (option_copied c.last_key.result) c.take_items.new.items.items)
    (c.take_items.ensures.all took)
    (c.take_items.ensures.len took)
    c.in_err-root.ensures.err))

pub returns-in-Err-clause-err : goal.returns-in-Err-clause-err
returns-in-Err-clause-err g c =
    let took = c.if-not-take_items.false in
    let left = c.in-Err.ensures.actual in
    let steps = Gives g.I.Iterator.next_gives (λ (s : AnyOrder) (last : Option (Bor g.row.KU.Denot)) (key : Bor g.row.KU.Denot) (t : AnyOrder). ⊤) (λ (s : AnyOrder) (last : Option (Bor g.row.KU.Denot)) (key : Bor g.row.KU.Denot) (t : AnyOrder). ⊥) in
    let taken = yields_within steps g.I.Iterator.next_gives (λ s. s.0.items) (any_within g.I.Iterator.next_gives) _ c.take_items.new.items.items _ (c.take_items.ensures.all took) in
    let rest = drains_within steps g.I.Iterator.next_gives (λ s. s.0.items) (any_within g.I.Iterator.next_gives) (c.take_items.new.source, None) left.0 ((c.none_left.new.source, None), left.1) in
    rw (c.in-Err.ensures.expected, left.2)
    (miscounted_of g.K.Portable.kind g.V.Portable.kind g.row.E g.KU.Archive.archival g.VU.Archive.archival now_of g.I.Iterator.next_gives _ c.args.len (length left.0) _ _ c.take_items.new.items.items c.take_items.new.source.items left.0 rest.0 c.in_ok-root.root
    taken
    rest.1 refl (omega (arith, left.2, c.in-Err.ensures.more))
    (c.take_items.ensures.len took)
    c.in_ok-root.ensures.ok).0

pub returns-clause-ok : goal.returns-clause-ok
returns-clause-ok g c =
    let K = g.K.Portable.kind in
    let V = g.V.Portable.kind in
    let E = g.row.E in
    let from = g.W.Writer.state c.args.writer.now in
    let to = g.W.Writer.state c.write_items.new.writer in
    let steps = Gives g.I.Iterator.next_gives (λ (s : AnyOrder) (last : Option (Bor g.row.KU.Denot)) (key : Bor g.row.KU.Denot) (t : AnyOrder). ⊤) (λ (s : AnyOrder) (last : Option (Bor g.row.KU.Denot)) (key : Bor g.row.KU.Denot) (t : AnyOrder). ⊥) in
    let took = c.if-not-take_items.false in
    let items = c.take_items.new.items.items in
    let count : length items ≡ c.args.len = c.take_items.ensures.len took in
    let n = length-map items (now_of {M = g.row.KU.Denot} {N = g.row.VU.Denot}) in
    let wrote = c.in_ok-root.ensures in
    let built : Built (layout_of K V E) g.KU.Archive.archival g.VU.Archive.archival from (map now_of items) c.unwrap_or.result to = record {
      place = c.in_ok-root.root;
      written = wrote.ok;
      root_is = c.unwrap_or.ensures;
      ends = λ some. wrote.last (omega (arith, n, some));
    } in
    record {
      items = items;
      all = drained g.I.Iterator.next_gives _ items c.take_items.new.source.items [] 0 (yields_within steps g.I.Iterator.next_gives (λ s. s.0.items) (any_within g.I.Iterator.next_gives) _ items _ (c.take_items.ensures.all took))
          (drains_within steps g.I.Iterator.next_gives (λ s. s.0.items) (any_within g.I.Iterator.next_gives) (c.take_items.new.source, None) [] ((c.none_left.new.source, None), c.in_default-none_left.ensures.ok)) refl refl;
      count = count;
      built = built;
      spelled = λ some key value. spelled_of K V E g.met.K.Portable.laws g.met.V.Portable.laws c.requires.fitting g.KU.Archive.archival g.VU.Archive.archival key value g.met.KU.Archive.archived g.met.VU.Archive.archived from (map now_of items) (map (meaning_of K V g.KU.Archive.archival g.VU.Archive.archival now_of key value) items) c.unwrap_or.result to
          (meaning_is K V E g.met.K.Portable.laws g.met.V.Portable.laws c.requires.fitting g.KU.Archive.archival g.VU.Archive.archival key value g.met.KU.Archive.archived g.met.VU.Archive.archived now_of items)
          (omega (arith, n, count, some)) (omega (arith, n, count, c.requires.small)) built;
    }

pub returns-in_err-root-clause-kept : goal.returns-in_err-root-clause-kept
returns-in_err-root-clause-kept g c =
    let p = err_from_is_err_and c.from_residual.result c.from_residual.ensures.1 in
    rw p.1 (stops_begin (layout_of g.K.Portable.kind g.V.Portable.kind g.row.E) g.KU.Archive.archival g.VU.Archive.archival (g.W.Writer.state c.args.writer.now) (planned_alone g.row.E (map now_of c.take_items.new.items.items)) c.in_err-root.field-0.0 (g.W.Writer.state c.write_items.new.writer) c.in_err-root.ensures.err)

pub returns-in-Err-clause-kept : goal.returns-in-Err-clause-kept
returns-in-Err-clause-kept g c =
    child_begins (layout_of g.K.Portable.kind g.V.Portable.kind g.row.E) g.KU.Archive.archival g.VU.Archive.archival (g.W.Writer.state c.args.writer.now) (planned_alone g.row.E (map now_of c.take_items.new.items.items)) c.in_ok-root.root (g.W.Writer.state c.write_items.new.writer) c.in_ok-root.ensures.ok

pub returns-clause-went : goal.returns-clause-went
returns-clause-went g c =
    child_went (layout_of g.K.Portable.kind g.V.Portable.kind g.row.E) g.KU.Archive.archival g.VU.Archive.archival (g.W.Writer.state c.args.writer.now) (planned_alone g.row.E (map now_of c.take_items.new.items.items)) c.in_ok-root.root (g.W.Writer.state c.write_items.new.writer) c.in_ok-root.ensures.ok

pub returns-in_err-root-clause-memory : goal.returns-in_err-root-clause-memory
returns-in_err-root-clause-memory g c =
    let p = err_from_is_err_and c.from_residual.result c.from_residual.ensures.1 in
    λ keys values memory. unasked g.row.W-Error.Denot (layout_of g.K.Portable.kind g.V.Portable.kind g.row.E) g.KU.Archive.archival g.VU.Archive.archival (g.W.Writer.state c.args.writer.now) (planned_alone g.row.E (map now_of c.take_items.new.items.items)) (g.W.Writer.state c.write_items.new.writer) c.in_err-root.field-0.0 (cc (p.1, p.2, memory)) keys values c.in_err-root.ensures.err

pub returns-in_default-clause-memory : goal.returns-in_default-clause-memory
returns-in_default-clause-memory g c = λ keys values memory. refl

pub returns-in_default-clause-kept : goal.returns-in_default-clause-kept
returns-in_default-clause-kept g c = same_begins (g.W.Writer.state c.args.writer.now) (g.W.Writer.state c.args.writer.now) refl

pub returns-then-not-take_items-clause-memory : goal.returns-then-not-take_items-clause-memory
returns-then-not-take_items-clause-memory g c = λ keys values memory. refl

pub returns-then-not-take_items-clause-kept : goal.returns-then-not-take_items-clause-kept
returns-then-not-take_items-clause-kept g c = same_begins (g.W.Writer.state c.args.writer.now) (g.W.Writer.state c.args.writer.now) refl

pub write_items-requires-clause-count : goal.write_items-requires-clause-count
write_items-requires-clause-count g c = subst (λ n. n ≤ 4294967295) (sym (c.take_items.ensures.len c.if-not-take_items.false)) c.requires.small

pub write_items-requires-clause-free : goal.write_items-requires-clause-free
write_items-requires-clause-free g c = c.in-Ok.ensures.free

pub write_items-requires-clause-waiting : goal.write_items-requires-clause-waiting
write_items-requires-clause-waiting g c =
    subst (λ n. IsReserved c.in-Ok.lists.waiting (g.row.E * ilog (g.row.E + 1) n)) (sym (c.take_items.ensures.len c.if-not-take_items.false)) c.in-Ok.ensures.waiting

pub write_items-requires-clause-children : goal.write_items-requires-clause-children
write_items-requires-clause-children g c =
    subst (λ n. IsReserved c.in-Ok.lists.children (g.row.E * ilog (g.row.E + 1) n)) (sym (c.take_items.ensures.len c.if-not-take_items.false)) c.in-Ok.ensures.children

pub returns-in-Err-clause-memory : goal.returns-in-Err-clause-memory
returns-in-Err-clause-memory g c = λ keys values memory. cc memory

pub returns-clause-memory : goal.returns-clause-memory
returns-clause-memory g c = λ keys values memory. cc memory

pub returns-clause-end : goal.returns-clause-end
returns-clause-end g c = c.in_ok-root.ensures.last (subst (λ n. 0 < n) (sym (c.take_items.ensures.len c.if-not-take_items.false)) c.requires.some)
