-- The bytes of the range are the string's own.
use Rattle.std.specs.Prelude.{◌≡◌, ◌-◌}
use Rattle.std.proofs.Common.{ap, arith}
use Rattle.rkyv_btree_portable.specs.Bytes.{bytes_at}
use Rattle.rkyv_btree_portable.specs.Refusing.{bad_entry}
use Rattle.rkyv_btree_portable.specs.Text.{text_len}
use Rattle.rkyv_btree_portable.proofs.byte_string.ArchivedBytesCheckBytes.check.Goals as goal

pub returns-in_default-clause-err : goal.returns-in_default-clause-err
returns-in_default-clause-err c = bad_entry c.in_ok-check_place.ensures.ok (λ left v m. c.in_default.ensures.outside m.start left m.range m.from m.lies.kept)

pub returns-clause-ok : goal.returns-clause-ok
returns-clause-ok c =
    let own = c.in_ok-check_place.ensures.ok in
    let found = c.in-Some.range in
    let range = c.in-Some.ensures.range in
    let inside = c.in-Some.ensures.inside in
    let count : found.hi - found.lo ≡ text_len c.args.buf.now c.args.pos = omega (arith, range.ends) in (
      bytes_at c.args.buf.now found.lo (found.hi - found.lo),
      record {
        lies = record { short = own.short; inside = own.room; aligned = own.aligned; forward = omega (arith, range.ends, inside.0); kept = inside.1; before = c.requires.before };
        start = found.lo;
        range = range;
        from = inside.0;
        bytes = ap (λ n. bytes_at c.args.buf.now found.lo n) count;
      },
    )
