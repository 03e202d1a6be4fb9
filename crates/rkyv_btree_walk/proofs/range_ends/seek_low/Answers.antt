-- An open bound leaves all, and another what reaches its query.
use Rattle.std.proofs.Common.{◌∙◌, refl, sym, Some}
use Rattle.std.proofs.lemmas.List.{append-nil}
use Rattle.rkyv_btree_walk.proofs.Ranges.{kept_whole}
use Rattle.rkyv_btree_walk.proofs.range_ends.seek_low.Goals as goal

pub returns-in-Unbounded-clause-from : goal.returns-in-Unbounded-clause-from
returns-in-Unbounded-clause-from g c f p = rw c.in-Unbounded.is (λ rises. rw (c.requires.empty, append-nil) at c.descend-leaf.ensures.rest ∙ sym (kept_whole _))

pub returns-in-Included-clause-from : goal.returns-in-Included-clause-from
returns-in-Included-clause-from g c f p = rw c.in-Included.is (c.seek.ensures.from f p)

pub returns-in-Excluded-clause-from : goal.returns-in-Excluded-clause-from
returns-in-Excluded-clause-from g c f p = rw c.in-Excluded.is (c.seek-in-Excluded.ensures.from f p)

pub returns-in-Unbounded-clause-below : goal.returns-in-Unbounded-clause-below
returns-in-Unbounded-clause-below g c = c.descend-leaf.ensures.below (Some c.args.root) (rw c.requires.empty tt) (rw c.requires.empty refl)
