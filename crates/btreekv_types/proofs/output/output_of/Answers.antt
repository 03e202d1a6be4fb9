-- Each command has its own call.
use Rattle.std.proofs.Common.{refl}
use Rattle.btreekv_types.proofs.output.output_of.Goals as goal

pub returns-in-Ok-clause-ok : goal.returns-in-Ok-clause-ok
returns-in-Ok-clause-ok g c = rw c.in-Build.is c.in-Ok.ensures.ok

pub returns-in-Err-clause-err : goal.returns-in-Err-clause-err
returns-in-Err-clause-err g c = rw c.in-Build.is c.in-Err.ensures.err

pub returns-in-Ok-check-clause-ok : goal.returns-in-Ok-check-clause-ok
returns-in-Ok-check-clause-ok g c = rw c.in-Check.is c.in-Ok-check.ensures.ok

pub returns-in-Err-check-clause-err : goal.returns-in-Err-check-clause-err
returns-in-Err-check-clause-err g c = rw c.in-Check.is c.in-Err-check.ensures.err

pub returns-in-Ok-check_strict-clause-ok : goal.returns-in-Ok-check_strict-clause-ok
returns-in-Ok-check_strict-clause-ok g c = rw c.in-CheckStrict.is c.in-Ok-check_strict.ensures.ok

pub returns-in-Err-check_strict-clause-err : goal.returns-in-Err-check_strict-clause-err
returns-in-Err-check_strict-clause-err g c = rw c.in-CheckStrict.is c.in-Err-check_strict.ensures.err

pub returns-in-Ok-first-clause-ok : goal.returns-in-Ok-first-clause-ok
returns-in-Ok-first-clause-ok g c = rw c.in-First.is c.in-Ok-first.ensures.ok

pub returns-in-Err-first-clause-err : goal.returns-in-Err-first-clause-err
returns-in-Err-first-clause-err g c = rw c.in-First.is c.in-Err-first.ensures.err

pub returns-in-Get-clause-ok : goal.returns-in-Get-clause-ok
returns-in-Get-clause-ok g c = rw c.in-Get.is c.get.ensures.ok

pub returns-in-Get-clause-err : goal.returns-in-Get-clause-err
returns-in-Get-clause-err g c = rw c.in-Get.is c.get.ensures.err

pub returns-in-Ok-last-clause-ok : goal.returns-in-Ok-last-clause-ok
returns-in-Ok-last-clause-ok g c = rw c.in-Last.is c.in-Ok-last.ensures.ok

pub returns-in-Err-last-clause-err : goal.returns-in-Err-last-clause-err
returns-in-Err-last-clause-err g c = rw c.in-Last.is c.in-Err-last.ensures.err

pub returns-in-Ok-set-clause-ok : goal.returns-in-Ok-set-clause-ok
returns-in-Ok-set-clause-ok g c = rw c.in-Set.is c.in-Ok-set.ensures.ok

pub returns-in-Err-set-clause-err : goal.returns-in-Err-set-clause-err
returns-in-Err-set-clause-err g c = rw c.in-Set.is c.in-Err-set.ensures.err

pub returns-in-Ok-merge-clause-ok : goal.returns-in-Ok-merge-clause-ok
returns-in-Ok-merge-clause-ok g c = rw c.in-Merge.is (λ key_to value_to keys values maps. (refl, rw c.as_slice.ensures.value at (c.in-Ok-merge.ensures.ok key_to value_to keys values maps)))

pub returns-in-Err-merge-clause-err : goal.returns-in-Err-merge-clause-err
returns-in-Err-merge-clause-err g c = rw c.in-Merge.is (rw c.as_slice.ensures.value at c.in-Err-merge.ensures.err)

pub returns-in-Ok-update-clause-ok : goal.returns-in-Ok-update-clause-ok
returns-in-Ok-update-clause-ok g c = rw c.in-Update.is (λ key_to value_to keys values maps. (refl, rw c.as_slice-in-Update.ensures.value at (c.in-Ok-update.ensures.ok key_to value_to keys values maps)))

pub returns-in-Err-update-clause-err : goal.returns-in-Err-update-clause-err
returns-in-Err-update-clause-err g c = rw c.in-Update.is (rw c.as_slice-in-Update.ensures.value at c.in-Err-update.ensures.err)

pub returns-in-Ok-diff-clause-ok : goal.returns-in-Ok-diff-clause-ok
returns-in-Ok-diff-clause-ok g c = rw c.in-Diff.is (λ key_to value_to keys values maps. (refl, rw c.as_slice-in-Diff.ensures.value at (c.in-Ok-diff.ensures.ok key_to value_to keys values maps)))

pub returns-in-Err-diff-clause-err : goal.returns-in-Err-diff-clause-err
returns-in-Err-diff-clause-err g c = rw c.in-Diff.is (rw c.as_slice-in-Diff.ensures.value at c.in-Err-diff.ensures.err)
