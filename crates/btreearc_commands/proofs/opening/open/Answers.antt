use Rattle.std.proofs.Common.{◌≡◌, subst, arith}
use Rattle.rkyv_btree_verify.specs.Refusals.{misplaced}
use Rattle.rkyv_btree_portable.specs.Scalars.{u32_kind}
use Rattle.rkyv_btree_portable.specs.Refusing.{too_long}
use Rattle.rkyv_btree_view.specs.Map.{IsMap}
use Rattle.btreearc_commands.specs.Opening.{root_of, IsArchive, entries_read}
use Rattle.btreearc_commands.proofs.opening.open.Goals as goal

pub returns-in_default-clause-refused : goal.returns-in_default-clause-refused
returns-in_default-clause-refused c = misplaced (too_long (omega arith))

pub returns-in-Err-access-clause-all_accepted : goal.returns-in-Err-access-clause-all_accepted
returns-in-Err-access-clause-all_accepted c = λ entries input.
    let archive = input.1 in
    let root : root_of c.args.archive.now ≡ c.in-Ok-try_from.root = omega arith in
    c.in-Err-access.ensures.accepts.1 (entries, subst (λ at. IsMap u32_kind u32_kind 5 c.args.archive.now at entries) root archive)

pub returns-in-Ok-access-clause-accepted : goal.returns-in-Ok-access-clause-accepted
returns-in-Ok-access-clause-accepted c =
    let here = c.in-Ok-access.ensures in
    let root : root_of c.args.archive.now ≡ c.in-Ok-try_from.root = omega arith in
    let ended : IsArchive c.args.archive.now (entries_read c.in-Ok-access.map.buf.now c.in-Ok-access.map.pos) = rw root here.entries in
    ended
