-- What a validation in the lent buffer says of a value whose own bytes are all of it.
use Rattle.std.proofs.Common.{ℕ, subst}
use Rattle.rkyv_btree_source.proofs.fetch_pair.is_part.Goals as goal

pub returns-in-Ok-clause-means : goal.returns-in-Ok-clause-means
returns-in-Ok-clause-means g c _ =
    let m = c.in-Ok.ensures.ok in
    (m.0, subst (λ (left : ℕ). g.T.Portable.kind.Means c.args.room.now 0 0 c.args.place left m.0) (g.met.T.InPlace.is_in_place.alone.unmoved _ _ _ _ _ _ m.1) m.1)

pub returns-in-Err-clause-none : goal.returns-in-Err-clause-none
returns-in-Err-clause-none g c _ v m = (g.met.T.CheckBytes.refusals c.requires.fitting).no_meaning _ _ _ _ _ c.in-Err.ensures.err 0 v m
