-- What no archive is is no strict one.
use Rattle.std.proofs.Common.{◌≡◌, ℕ, List, sym, subst}
use Rattle.std.proofs.lemmas.Result.{err_from_is_err_and}
use Rattle.std.specs.Ordering.{nat_cmp}
use Rattle.rkyv_btree_format.specs.Increasing.{IsOutOfOrder}
use Rattle.rkyv_btree_portable.specs.declared.refusal.Refusal.{Refusal}
use Rattle.rkyv_btree_portable.specs.declared.refusal.Refusal.TheVariants.{OutOfOrder}
use Rattle.rkyv_btree_strict.specs.Strict.{no_map, out_of_order}
use Rattle.btreearc_lines.specs.declared.fault.ProgramFault.{ProgramFault}
use Rattle.btreearc_lines.specs.declared.fault.ProgramFault.TheVariants.{Usage, Line, Refused, Misheaded, NotBuilt, InputFailed, OutputFailed, Memory}
use Rattle.btreearc_commands.specs.Opening.{IsArchive, IsOpenFault, IsStrictOpenFault, RefusesStrictArchive, entries_read}
use Rattle.btreearc_commands.proofs.migrating.strict_count.Goals as goal

still_refused : (b : List ℕ) (fault : ProgramFault) → IsOpenFault b fault → IsStrictOpenFault b fault
still_refused b (Refused refusal) h = no_map h
still_refused b (Misheaded f) h = h
still_refused b Usage h = absurd h
still_refused b (Line n) h = absurd h
still_refused b (NotBuilt fault) h = absurd h
still_refused b InputFailed h = absurd h
still_refused b OutputFailed h = absurd h
still_refused b Memory h = absurd h

out_refused : (archive : List ℕ) (entries : List (ℕ × ℕ)) (index : ℕ) (refusal : Refusal) → IsArchive archive entries → refusal ≡ OutOfOrder index → IsOutOfOrder nat_cmp entries index → RefusesStrictArchive archive refusal
out_refused archive entries index refusal is same out = subst (λ r. RefusesStrictArchive archive r) (sym same) (out_of_order entries is.1 out)

pub returns-in_err-open-clause-refused : goal.returns-in_err-open-clause-refused
returns-in_err-open-clause-refused c =
    let p = err_from_is_err_and c.from_residual.result c.from_residual.ensures.1 in
    rw (p.1, p.2) (still_refused c.args.archive.now c.in_err-open.field-0.0 c.in_err-open.ensures.refused)

pub returns-in-Err-clause-refused : goal.returns-in-Err-clause-refused
returns-in-Err-clause-refused c =
    let out = c.in-Err.ensures.refused in
    out_refused c.args.archive.now (entries_read c.in_ok-open.field-0.buf.now c.in_ok-open.field-0.pos) out.0 c.in-Err.refusal c.in_ok-open.ensures.accepted out.1 out.2
