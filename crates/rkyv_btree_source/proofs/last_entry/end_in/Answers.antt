-- What a node gives and what its last pointer gives.
use Rattle.rkyv_btree_source.specs.LastEntry.{refused_child}
use Rattle.rkyv_btree_source.proofs.last_entry.end_in.Goals as goal

pub returns-in-Err-child_in-clause-gives : goal.returns-in-Err-child_in-clause-gives
returns-in-Err-child_in-clause-gives g c b part =
    let node = c.in-Ok.ensures.gives b part in
    refused_child node (c.in-Err-child_in.ensures.gives b c.args.hi c.in-Ok.count part c.requires.room node)
