-- The separator, then the number, then the bracket.
use Rattle.std.proofs.Common.{◌++◌, None, codes, decimal}
use Rattle.rkyv_btree_typed.proofs.Stripped.{as_none, never_strips, then_strips}
use Rattle.rkyv_btree_typed.proofs.type_name.strip_numbered.Goals as goal

pub returns : goal.returns
returns c =
    then_strips c.args.separator.now (decimal c.args.number ++ codes "]") c.args.bytes.now c.in_ok-digits.digits c.strip-2.result c.in_ok-digits.ensures
    (then_strips (decimal c.args.number) (codes "]") c.in_ok-digits.digits.now c.in_ok-end.end c.strip-2.result c.in_ok-end.ensures c.strip-2.ensures)

pub returns-in_err-end : goal.returns-in_err-end
returns-in_err-end c =
    let rest = decimal c.args.number ++ codes "]" in
    as_none (c.args.separator.now ++ rest) c.args.bytes.now _ c.from_residual-in_err-end.ensures
    (then_strips c.args.separator.now rest c.args.bytes.now c.in_ok-digits.digits None c.in_ok-digits.ensures
    (never_strips (decimal c.args.number) (codes "]") c.in_ok-digits.digits.now c.in_err-end.ensures))
