-- Nothing is built of no items, and a tree of some.
use Rattle.std.proofs.Common.{◌≡◌, ℕ, ◌+◌, ◌<◌, ◌≤◌, List, [], length, map, take, Option, None, inl, refl, sym, ◌∙◌, subst, arith}
use Rattle.std.specs.Iterator.{YieldsThen}
use Rattle.rkyv_btree_writing_laws.proofs.Kept.{same_begins, went_nowhere}
use Rattle.rkyv_btree_portable.specs.Kind.{Kind}
use Rattle.rkyv_btree_format.specs.Layout.{layout_of}
use Rattle.rkyv_btree_shape.specs.Plan.{planned_alone}
use Rattle.rkyv_btree_writer.specs.Archiving.{Archival}
use Rattle.rkyv_btree_writer.specs.Writing.{Writing}
use Rattle.rkyv_btree_writing_laws.specs.Entries.{both_borrowed}
use Rattle.rkyv_btree_writing_laws.specs.Written.{ChildWritten}
use Rattle.rkyv_btree_archive.specs.mirror.Ended.{CountsTo, SerialisedTo}
use Rattle.rkyv_btree_archive.specs.mirror.Source.{Gives}
use Rattle.rkyv_btree_archive.proofs.build.build_from.Goals as goal

-- where none is claimed, items are too many
uncalled : {I M N R S P : Type 0} (K V : Kind) (E : ℕ) (KA : Archival M R) (VA : Archival N S) (borrowed : I → M × N) (steps : P → Option I → P → Type 0) (iter end : P) (claim expected actual : ℕ) (from : Writing) (left : List I) →
    claim ≡ 0 → YieldsThen steps iter left None end → expected ≡ 0 → 0 < actual → actual ≡ 0 + length left → CountsTo K V E KA VA borrowed steps iter end claim expected actual from from
uncalled K V E KA VA borrowed steps iter end claim expected actual from left zero all none some counted = (
  record {
    items = left;
    all = (end, all);
    differs = λ e. omega (arith, zero, some, counted, e);
    claimed = none ∙ sym zero;
    counted = omega (arith, counted);
    none = λ empty. refl;
    few = λ some less. absurd (omega (arith, zero, less));
    many = λ more. (None, subst (λ n. ChildWritten (layout_of K V E) KA VA from (planned_alone E (map borrowed (take n left))) None from) (sym zero) (refl, refl));
  },
  refl,
)

-- and of none nothing is written
none_serialised : {I M N R S P : Type 0} (K V : Kind) (E : ℕ) (KA : Archival M R) (VA : Archival N S) (borrowed : I → M × N) (steps : P → Option I → P → Type 0) (iter end : P) (claim : ℕ) (from : Writing) →
    claim ≡ 0 → YieldsThen steps iter [] None end → SerialisedTo K V E KA VA borrowed steps iter claim from 0 end from
none_serialised K V E KA VA borrowed steps iter end claim from zero all = (
  record {
    items = [];
    all = (end, all);
    count = sym zero;
    built = record { place = None; written = (refl, refl); root_is = refl; ends = λ some. absurd (omega arith) };
    spelled = λ some. absurd (omega (arith, zero));
  },
  refl,
)

in_time : (n : ℕ) → n ≤ 4294967295 → 4294967295 < n → ⊥
in_time n few late = omega arith

pub returns-then-len-clause-err : goal.returns-then-len-clause-err
returns-then-len-clause-err g c = record { cause = inl (omega arith, refl); kept = same_begins (g.W.Writer.state c.args.writer.now) (g.W.Writer.state c.args.writer.now) refl; memory = λ keys values memory. refl }

pub returns-clause-err : goal.returns-clause-err
returns-clause-err g c = c.build_some.ensures.err

pub returns-then-len-eq0-clause-ok : goal.returns-then-len-eq0-clause-ok
returns-then-len-eq0-clause-ok g c = record {
  built = none_serialised g.K.Portable.kind g.V.Portable.kind g.row.E g.KU.Archive.archival g.VU.Archive.archival (both_borrowed g.BKU.Borrow.borrowed g.BVU.Borrow.borrowed) (Gives g.I.Iterator.next_gives g.L.Look.passes g.L.Look.stops) (c.args.source.now, None) (c.none_left.new.source, None) c.args.len (g.W.Writer.state c.args.writer.now) (omega arith) c.in_default.ensures.ok;
  last = λ some. absurd (omega arith);
  went = went_nowhere (g.W.Writer.state c.args.writer.now) (g.W.Writer.state c.args.writer.now) refl;
}

pub returns-clause-ok : goal.returns-clause-ok
returns-clause-ok g c = c.build_some.ensures.ok

pub returns-in-Err-clause-err : goal.returns-in-Err-clause-err
returns-in-Err-clause-err g c =
    let left = c.in-Err.ensures.actual in
    record {
      cause = uncalled g.K.Portable.kind g.V.Portable.kind g.row.E g.KU.Archive.archival g.VU.Archive.archival (both_borrowed g.BKU.Borrow.borrowed g.BVU.Borrow.borrowed) (Gives g.I.Iterator.next_gives g.L.Look.passes g.L.Look.stops) (c.args.source.now, None) (c.none_left.new.source, None) c.args.len _ _ (g.W.Writer.state c.args.writer.now) left.0
          c.if-len-eq0.true left.1 c.in-Err.ensures.expected c.in-Err.ensures.more left.2;
      kept = same_begins (g.W.Writer.state c.args.writer.now) (g.W.Writer.state c.args.writer.now) refl;
      memory = λ keys values memory. refl;
    }

pub returns-then-len-clause-limits : goal.returns-then-len-clause-limits
returns-then-len-clause-limits g c = record { past = λ late. (refl, refl); none = λ none. absurd (omega arith) }

pub returns-in-Err-clause-limits : goal.returns-in-Err-clause-limits
returns-in-Err-clause-limits g c = record { past = λ late. absurd (in_time c.args.len c.if-len.false late); none = λ none. (tt, refl) }

pub returns-then-len-eq0-clause-limits : goal.returns-then-len-eq0-clause-limits
returns-then-len-eq0-clause-limits g c = record { past = λ late. absurd (in_time c.args.len c.if-len.false late); none = λ none. (tt, refl) }

pub returns-clause-limits : goal.returns-clause-limits
returns-clause-limits g c = record { past = λ late. absurd (in_time c.args.len c.if-len.false late); none = λ none. absurd (c.if-len-eq0.false none) }
