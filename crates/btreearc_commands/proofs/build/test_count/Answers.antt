-- Zeros have an archive where as many entries have one.
use Rattle.btreearc_commands.specs.Streaming.{CountsDown}
use Rattle.btreearc_commands.proofs.Causes.{unbegun_in_memory, unbuilt_in_memory}
use Rattle.btreearc_commands.proofs.Tried.{counted_down, counted_fits, counted_unbuilt, counted_unrooted}
use Rattle.btreearc_commands.proofs.build.test_count.Goals as goal

pub returns-in-Err-clause-err : goal.returns-in-Err-clause-err
returns-in-Err-clause-err c = rw c.in_memory.ensures (λ entries number. unbegun_in_memory c.args.heading entries c.in-Err.fault c.in-Err.ensures.err)

pub returns-in-Err-serialize_from_ordered_iter-clause-err : goal.returns-in-Err-serialize_from_ordered_iter-clause-err
returns-in-Err-serialize_from_ordered_iter-clause-err c =
    let fault = c.in-Err-serialize_from_ordered_iter.fault in
    let why = counted_unbuilt (CountsDown (λ s. s.left)) _ c.args.heading _ c.in-Ok.ensures.ok c.args.count (counted_down (λ s. s.left) _) fault _ c.in-Err-serialize_from_ordered_iter.ensures.err.cause in
    rw c.in_memory-in-Err-serialize_from_ordered_iter.ensures (λ entries number. unbuilt_in_memory c.args.heading entries fault (why entries number))

pub returns-in-Ok-write_root-clause-ok : goal.returns-in-Ok-write_root-clause-ok
returns-in-Ok-write_root-clause-ok c = λ entries number.
    counted_fits _ _ c.args.heading _ c.in-Ok.ensures.ok c.args.count c.in-Ok-serialize_from_ordered_iter.root _ _ c.in-Ok-serialize_from_ordered_iter.ensures.ok.written c.in-Ok-write_root.ensures.ok.len c.in-Ok-write_root.ensures.ok.wrote c.in-Ok-write_root.ensures.ok.last entries number

pub returns-clause-err : goal.returns-clause-err
returns-clause-err c = rw c.in_memory-in-Err-write_root.ensures (λ entries number. unbuilt_in_memory c.args.heading entries c.in-Err-write_root.fault
    (counted_unrooted _ _ c.args.heading _ c.in-Ok.ensures.ok c.args.count c.in-Ok-serialize_from_ordered_iter.root _ c.in-Err-write_root.fault _ c.in-Ok-serialize_from_ordered_iter.ensures.ok.written c.in-Err-write_root.ensures.err.cause entries number))
