-- 10 is added to the entry that is lent, and so to all between the bounds.
use Rattle.std.proofs.Common.{◌≡◌, ◌∙◌, List, ℕ, ◌++◌, map, refl, ap, rules, subst, sym}
use Rattle.std.proofs.lemmas.List.{map-append}
use Rattle.std.specs.Ordering.{nat_cmp}
use Rattle.examples.specs.Editing.{IsNumbers, plus_ten}
use Rattle.examples.proofs.Adding.{Adding, adding_start, adding_more, adding_end}
use Rattle.examples.proofs.Numbers.{numbers_stand, numbers_read, within_numbers}
use Rattle.examples.proofs.editing.add_ten_within.Goals as goal
use Rattle.rkyv_btree.specs.Cursor.{range_remaining_places}
use Rattle.rkyv_btree.specs.EntryPlaces.{entry_places}
use Rattle.rkyv_btree_base.specs.Read.{entry_at}
use Rattle.rkyv_btree_base.specs.Scalars.{u32_kind}

pub by-cursor-requires : goal.by-cursor-requires
by-cursor-requires c = numbers_stand c.args.buf.now c.args.pos c.requires.0 c.requires.1

pub along-preserved : goal.along-preserved
along-preserved c =
    let goes = c.along-test.ensures.advances in
    let told = rw goes.2 at c.read-value.ensures.model in
    let puts = rw goes.2 at c.write.ensures.puts in
    record {
      reference = c.write.ensures.same_reference ∙ c.next.ensures.same_buffer.same_reference ∙ c.along.invariant.reference;
      position = c.write.ensures.position ∙ c.next.ensures.same_buffer.position ∙ c.along.invariant.position;
      adding = λ skipped later start.
          let before : Adding c.by-cursor.result.buf.now c.along.cursor.pos skipped later c.by-cursor.result.buf.now (range_remaining_places c.by-cursor.result) = rw (c.write.ensures.position, c.next.ensures.same_buffer.position) at start in
          let here : Adding c.by-cursor.result.buf.now c.next.new.self.pos skipped later c.next.new.self.buf.now (range_remaining_places c.along.cursor) = rw (c.next.ensures.same_buffer.bytes, c.next.ensures.same_buffer.position) (c.along.invariant.adding skipped later before) in
          subst (λ (pos : ℕ). Adding c.by-cursor.result.buf.now pos skipped later c.write.new.self.buf.now (range_remaining_places c.write.new.self)) (sym c.write.ensures.position)
          (subst (Adding c.by-cursor.result.buf.now c.next.new.self.pos skipped later c.write.new.self.buf.now) (sym c.write.ensures.remaining)
          (adding_more c.by-cursor.result.buf.now c.next.new.self.pos skipped later c.next.new.self.buf.now c.write.new.self.buf.now (range_remaining_places c.along.cursor) (range_remaining_places c.next.new.self) goes.0 c.read-value.result here goes.1 told puts));
    }

pub returns : goal.returns
returns c m is =
    let b = c.args.buf.now in
    let by = c.by-cursor.result in
    let run = c.by-cursor.ensures.starts.run in
    let means = entry_at u32_kind u32_kind 5 b in
    let read = numbers_read b c.args.pos m is in
    let places : entry_places u32_kind u32_kind 5 by.buf.now by.pos ≡ entry_places u32_kind u32_kind 5 b c.args.pos = ap (λ x. entry_places u32_kind u32_kind 5 x by.pos) c.by-cursor.ensures.starts.buffer ∙ ap (entry_places u32_kind u32_kind 5 b) c.by-cursor.ensures.starts.position in
    let start : Adding by.buf.now by.pos run.0 run.1 by.buf.now (range_remaining_places by) = adding_start by.buf.now by.pos run.0 run.1 (range_remaining_places by) (places ∙ run.2) in
    let reached : Adding by.buf.now by.pos run.0 run.1 c.along.cursor.buf.now (range_remaining_places c.along.cursor) =
    subst (λ (pos : ℕ). Adding by.buf.now pos run.0 run.1 c.along.cursor.buf.now (range_remaining_places c.along.cursor)) c.along.invariant.position (c.along.invariant.adding run.0 run.1 (rw c.along.invariant.position start)) in
    let so_far : Adding b c.args.pos run.0 run.1 c.along.cursor.buf.now (range_remaining_places c.along.cursor) = rw (c.by-cursor.ensures.starts.buffer, c.by-cursor.ensures.starts.position) at reached in
    let within = map means (range_remaining_places by) in
    let all : m ≡ map means run.0 ++ (within ++ map means run.1) = read ∙ ap (map means) run.2 ∙ map-append means run.0 (range_remaining_places by ++ run.1) ∙ ap (λ xs. map means run.0 ++ xs) (map-append means (range_remaining_places by) run.1) in
    let end = adding_end b c.args.pos run.0 run.1 c.along.cursor.buf.now (range_remaining_places c.along.cursor) m c.along-test.ensures.advances.0 so_far is (map means run.0) within (map means run.1) refl refl all in
    let entries = ap (λ x. map (entry_at u32_kind u32_kind 5 x) (range_remaining_places by)) c.by-cursor.ensures.starts.buffer in (
      map means run.0 ++ (map plus_ten within ++ map means run.1),
      subst (λ (x : List ℕ). IsNumbers x c.args.pos (map means run.0 ++ (map plus_ten within ++ map means run.1))) (search rules) end,
      record {
        before = map means run.0;
        within = within;
        behind = map means run.1;
        all = all;
        added = refl;
        are = within_numbers c.args.low c.args.high m within (rw (read, ← entries) (c.by-cursor.ensures.between nat_cmp (λ n b at. refl)).within);
      },
    )
