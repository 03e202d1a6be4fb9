-- The next entry is the first that is left, unless it is past the end of the range.
use Rattle.std.proofs.Common.{◌≡◌, ◌∙◌, ap, drop, false, sym, take}
use Rattle.rkyv_btree_source.proofs.Ranging.{both_same, first_yields, past_alike}
use Rattle.rkyv_btree_unverified.specs.EntriesFrom.{past_place}
use Rattle.rkyv_btree_source.proofs.range.SourceRange.next.Goals as goal

pub returns-else-is_past-clause-yields : goal.returns-else-is_past-clause-yields
returns-else-is_past-clause-yields g c b e known =
    let K = g.K.Portable.kind in let V = g.V.Portable.kind in let E = g.M.ArchivedMap.E in
    let self = c.args.self.now in
    let cut = c.in-Ok-Some.entry.cut in
    let room = c.bring.new.room in
    let brings = c.in-Ok-Some.ensures.brings b e known in
    let first = rw c.in-Ok-Some.field-0-is at brings in
    let key = ap (λ l. K.read l c.at-key.result.pos) (c.at-key.ensures.buffer ∙ c.split_at.ensures.front) ∙ (ap (λ p. K.read (take cut room) p) c.at-key.ensures.position ∙ first.reads.key) in
    let value = ap (λ l. V.read l c.at.result.pos) (c.at.ensures.buffer ∙ c.split_at.ensures.back) ∙ (ap (λ p. V.read (drop cut room) p) c.at.ensures.position ∙ first.reads.value) in
    let high = g.R.RangeBounds.end_bound self.range in
    let others = c.in-Ok-Some.ensures.others in
    let test = c.is_past.ensures (rw others.0 known) in
    let there = past_alike g.met.K.CompareWith.compares high c.at-key.result.buf.now b c.at-key.result.pos _ key in
    let goes : past_place K V E g.K.CompareWith.compared_at b high first.place ≡ false = sym there ∙ (sym (rw others.0 at test) ∙ c.if-is_past.false) in
    record {
      entries = rw (others.0, others.1) (first_yields K V E b self.map.pos g.K.CompareWith.compared_at (g.R.RangeBounds.start_bound self.range) high g.K.CheckBytes.Refuses g.V.CheckBytes.Refuses self.walk c.bring.new.self.walk room
          c.in-Ok-Some.entry first (K.read c.at-key.result.buf.now c.at-key.result.pos, V.read c.at.result.buf.now c.at.result.pos) (both_same key value) goes);
      less = rw others.1 first.less;
    }
