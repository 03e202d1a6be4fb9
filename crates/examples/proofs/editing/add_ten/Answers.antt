-- 10 is added to the entry that is lent, and so to all.
use Rattle.std.proofs.Common.{◌≡◌, ◌∙◌, ap, List, [], ℕ, map, append-nil, refl, sym, rules, subst}
use Rattle.examples.specs.Editing.{IsNumbers, plus_ten}
use Rattle.examples.proofs.Adding.{Adding, adding_start, adding_more, added_all}
use Rattle.examples.proofs.Numbers.{numbers_stand}
use Rattle.examples.proofs.editing.add_ten.Goals as goal
use Rattle.rkyv_btree.specs.Cursor.{remaining_places}
use Rattle.rkyv_btree.specs.EntryPlaces.{entry_places}
use Rattle.rkyv_btree_base.specs.Scalars.{u32_kind}

pub at-cursor-requires : goal.at-cursor-requires
at-cursor-requires c = numbers_stand c.args.buf.now c.args.pos c.requires.0 c.requires.1

pub along-init : goal.along-init
along-init c =
    let all : entry_places u32_kind u32_kind 5 c.at-cursor.result.buf.now c.at-cursor.result.pos ≡ remaining_places c.at-cursor.result = ap (λ b. entry_places u32_kind u32_kind 5 b c.at-cursor.result.pos) c.at-cursor.ensures.starts.buffer ∙ ap (entry_places u32_kind u32_kind 5 c.args.buf.now) c.at-cursor.ensures.starts.position ∙ sym c.at-cursor.ensures.starts.remaining in
    record {
      reference = refl;
      position = refl;
      adding = adding_start c.at-cursor.result.buf.now c.at-cursor.result.pos [] [] (remaining_places c.at-cursor.result) (all ∙ sym (append-nil (remaining_places c.at-cursor.result)));
    }

pub along-preserved : goal.along-preserved
along-preserved c =
    let goes = c.along-test.ensures.advances in
    let here : Adding c.at-cursor.result.buf.now c.next.new.self.pos [] [] c.next.new.self.buf.now (remaining_places c.along.cursor) = rw (c.next.ensures.same_buffer.bytes, c.next.ensures.same_buffer.position) c.along.invariant.adding in
    let told = rw goes.2 at c.read-value.ensures.model in
    let puts = rw goes.2 at c.write.ensures.puts in
    record {
      reference = c.write.ensures.same_reference ∙ c.next.ensures.same_buffer.same_reference ∙ c.along.invariant.reference;
      position = c.write.ensures.position ∙ c.next.ensures.same_buffer.position ∙ c.along.invariant.position;
      adding = subst (λ (pos : ℕ). Adding c.at-cursor.result.buf.now pos [] [] c.write.new.self.buf.now (remaining_places c.write.new.self)) (sym c.write.ensures.position)
          (subst (Adding c.at-cursor.result.buf.now c.next.new.self.pos [] [] c.write.new.self.buf.now) (sym c.write.ensures.remaining)
          (adding_more c.at-cursor.result.buf.now c.next.new.self.pos [] [] c.next.new.self.buf.now c.write.new.self.buf.now (remaining_places c.along.cursor) (remaining_places c.next.new.self) goes.0 c.read-value.result here goes.1 told puts));
    }

pub returns : goal.returns
returns c m is =
    let position = c.along.invariant.position ∙ c.at-cursor.ensures.starts.position in
    let so_far : Adding c.args.buf.now c.args.pos [] [] c.along.cursor.buf.now (remaining_places c.along.cursor) =
    subst (λ (pos : ℕ). Adding c.args.buf.now pos [] [] c.along.cursor.buf.now (remaining_places c.along.cursor)) position
    (subst (λ (b : List ℕ). Adding b c.along.cursor.pos [] [] c.along.cursor.buf.now (remaining_places c.along.cursor)) c.at-cursor.ensures.starts.buffer c.along.invariant.adding) in
    let all = added_all c.args.buf.now c.along.cursor.buf.now c.args.pos (remaining_places c.along.cursor) m c.along-test.ensures.advances.0 so_far is in
    subst (λ (x : List ℕ). IsNumbers x c.args.pos (map plus_ten m)) (search rules) all
