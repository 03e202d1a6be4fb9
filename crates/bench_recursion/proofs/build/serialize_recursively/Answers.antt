-- What is promised of the map that was built, or of what stopped it.
use Rattle.rkyv_btree_writing_laws.specs.Entries.{now_of}
use Rattle.std.proofs.Common.{ℕ, ◌<◌, ◌≤◌, [], Option, None, Bor, inl, refl, arith}
use Rattle.std.specs.Prelude.{⊤}
use Rattle.std.proofs.lemmas.Result.{on_ok_weaker}
use Rattle.rkyv_btree_writing_laws.proofs.Kept.{same_begins, went_nowhere}
use Rattle.rkyv_btree_writing_laws.proofs.Built.{is_built, result_built, result_unbuilt}
use Rattle.rkyv_btree_writing_laws.proofs.SmallestMaps.{builds_none}
use Rattle.rkyv_btree_writer.specs.declared.fault.Fault.TheVariants.{LengthOverflow}
use Rattle.rkyv_btree_writing_laws.proofs.Within.{drains_within}
use Rattle.rkyv_btree_archive.proofs.Sources.{any_within}
use Rattle.rkyv_btree_archive.specs.declared.items.AnyOrder.{AnyOrder}
use Rattle.rkyv_btree_archive.specs.mirror.Source.{Gives}
use Rattle.bench_recursion.proofs.Building.{unclaimed}
use Rattle.bench_recursion.proofs.build.serialize_recursively.Goals as goal

in_time : (n : ℕ) → n ≤ 4294967295 → 4294967295 < n → ⊥
in_time n few late = omega arith

pub returns-then-len-clause-err : goal.returns-then-len-clause-err
returns-then-len-clause-err g c = record {
  cause = inl (omega arith, refl);
  kept = same_begins (g.W.Writer.state c.args.writer.now) (g.W.Writer.state c.args.writer.now) refl;
  memory = λ keys values is. refl;
  any_order = λ index is. cc (is);
}

pub returns-then-len-clause-limits : goal.returns-then-len-clause-limits
returns-then-len-clause-limits g c = record { past = λ late. (refl, refl); none = λ none. absurd (omega arith) }

pub returns-in-Err-clause-err : goal.returns-in-Err-clause-err
returns-in-Err-clause-err g c =
    let left = c.in-Err.ensures.actual in
    record {
      cause = unclaimed g.K.Portable.kind g.V.Portable.kind g.row.E g.KU.Archive.archival g.VU.Archive.archival g.I.Iterator.next_gives c.args.iter c.args.len _ _ (g.W.Writer.state c.args.writer.now) left.0 c.if-len-eq0.true
          (drains_within (Gives g.I.Iterator.next_gives (λ (s : AnyOrder) (last : Option (Bor g.row.KU.Denot)) (key : Bor g.row.KU.Denot) (t : AnyOrder). ⊤) (λ (s : AnyOrder) (last : Option (Bor g.row.KU.Denot)) (key : Bor g.row.KU.Denot) (t : AnyOrder). ⊥)) g.I.Iterator.next_gives (λ s. s.0.items) (any_within g.I.Iterator.next_gives) _ left.0 ((c.none_left.new.source, None), left.1))
          c.in-Err.ensures.expected c.in-Err.ensures.more left.2;
      kept = same_begins (g.W.Writer.state c.args.writer.now) (g.W.Writer.state c.args.writer.now) refl;
      memory = λ keys values is. refl;
      any_order = λ index is. cc (is);
    }

pub returns-in-Err-clause-limits : goal.returns-in-Err-clause-limits
returns-in-Err-clause-limits g c = record { past = λ late. absurd (in_time c.args.len c.if-len.false late); none = λ none. (tt, refl) }

pub returns-then-len-eq0-clause-ok : goal.returns-then-len-eq0-clause-ok
returns-then-len-eq0-clause-ok g c =
    is_built g.K.Portable.kind g.V.Portable.kind g.row.E g.KU.Archive.archival g.VU.Archive.archival now_of g.I.Iterator.next_gives c.args.iter c.args.len g.W.Writer.state c.args.writer.now c.args.writer.now g.met.K.Portable.laws g.met.V.Portable.laws c.requires.fitting g.met.KU.Archive.archived g.met.VU.Archive.archived 0 (omega arith)
    (builds_none g.K.Portable.kind g.V.Portable.kind g.row.E g.met.K.Portable.laws g.met.V.Portable.laws c.requires.fitting
    g.KU.Archive.archival g.VU.Archive.archival g.met.KU.Archive.archived g.met.VU.Archive.archived
    now_of g.I.Iterator.next_gives c.args.iter c.args.len g.W.Writer.state c.args.writer.now [] (drains_within (Gives g.I.Iterator.next_gives (λ (s : AnyOrder) (last : Option (Bor g.row.KU.Denot)) (key : Bor g.row.KU.Denot) (t : AnyOrder). ⊤) (λ (s : AnyOrder) (last : Option (Bor g.row.KU.Denot)) (key : Bor g.row.KU.Denot) (t : AnyOrder). ⊥)) g.I.Iterator.next_gives (λ s. s.0.items) (any_within g.I.Iterator.next_gives) _ [] ((c.none_left.new.source, None), c.in_default.ensures.ok)) (omega arith) refl) (λ some. absurd (omega arith)) (went_nowhere (g.W.Writer.state c.args.writer.now) (g.W.Writer.state c.args.writer.now) refl)

pub returns-then-len-eq0-clause-limits : goal.returns-then-len-eq0-clause-limits
returns-then-len-eq0-clause-limits g c = record { past = λ late. absurd (in_time c.args.len c.if-len.false late); none = λ none. (tt, refl) }

pub returns-clause-ok : goal.returns-clause-ok
returns-clause-ok g c =
    result_built g.K.Portable.kind g.V.Portable.kind g.row.E g.KU.Archive.archival g.VU.Archive.archival now_of g.I.Iterator.next_gives c.args.iter c.args.len g.W.Writer.state c.args.writer.now c.build_some.new.writer g.met.K.Portable.laws g.met.V.Portable.laws c.requires.fitting g.met.KU.Archive.archived g.met.VU.Archive.archived c.build_some.result LengthOverflow (λ late. absurd (in_time c.args.len c.if-len.false late))
    c.build_some.ensures.ok (on_ok_weaker c.build_some.result (λ done some. done) c.build_some.ensures.end) c.build_some.ensures.went

pub returns-clause-err : goal.returns-clause-err
returns-clause-err g c =
    result_unbuilt g.K.Portable.kind g.V.Portable.kind g.row.E g.KU.Archive.archival g.VU.Archive.archival now_of g.I.Iterator.next_gives c.args.iter c.args.len g.W.Writer.state c.args.writer.now c.build_some.new.writer c.build_some.result c.build_some.ensures.err c.build_some.ensures.kept c.build_some.ensures.memory

pub returns-clause-limits : goal.returns-clause-limits
returns-clause-limits g c = record { past = λ late. absurd (in_time c.args.len c.if-len.false late); none = λ none. absurd (c.if-len-eq0.false none) }
