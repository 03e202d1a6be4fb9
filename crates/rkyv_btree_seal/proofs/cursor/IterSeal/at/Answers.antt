-- All entries remain before the first.
use Rattle.std.proofs.Common.{[], refl, sym, ◌∙◌, append-nil}
use Rattle.rkyv_btree_seal.proofs.Cursors.{among_start}
use Rattle.rkyv_btree_view.proofs.Remaining.{last_places}
use Rattle.rkyv_btree_seal.proofs.cursor.IterSeal.at.Goals as goal

pub invariant_of-result : goal.invariant_of-result
invariant_of-result g c = record {
  valid = c.requires;
  walks = c.start-walk.ensures.walks;
  among = ∣ among_start _ _ [] [] (sym c.start-walk.ensures.all ∙ sym (append-nil _)) ∣₁;
  ends = ∣ ([], sym c.start-walk.ensures.all) ∣₁;
}

pub returns-clause-starts : goal.returns-clause-starts
returns-clause-starts g c =
    let all = ∣ ([], sym c.start-walk.ensures.all) ∣₁ in
    record {
      buffer = refl;
      position = refl;
      remaining = last_places g.K.Portable.kind g.V.Portable.kind g.M.ArchivedMap.E c.args.buf.now c.args.pos c.start-walk.result c.start-walk.ensures.walks all ∙ c.start-walk.ensures.all;
      current = refl;
    }
