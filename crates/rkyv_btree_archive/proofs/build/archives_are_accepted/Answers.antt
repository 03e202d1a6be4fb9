use Rattle.rkyv_btree_writing_laws.proofs.Accepting.{accepted_over, accepted_empty}
use Rattle.rkyv_btree_archive.proofs.build.archives_are_accepted.Goals as goal

pub returns : goal.returns
returns g c = record {
  entries = λ b from to m root at spelled some few reaches held behind own. accepted_over _ _ g.row.E g.met.K.Portable.laws g.met.V.Portable.laws b from to m root at spelled some few reaches own.short held behind own.aligned own.room own.held;
  none = λ b root at own. accepted_empty _ _ g.row.E b root at own.short own.aligned own.room own.held;
}
