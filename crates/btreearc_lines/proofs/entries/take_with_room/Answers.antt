-- The line's bytes were shown, and then consumed.
use Rattle.std.proofs.Common.{ℕ, ◌∷◌, length, ◌-◌, ap, subst, ◌∙◌, arith}
use Rattle.std.specs.Io.BufRead.{FillKeeps}
use Rattle.std.proofs.BufReadLemmas.{Consumes_shown}
use Rattle.btreearc_lines.specs.Reading.{PairFirst}
use Rattle.btreearc_lines.proofs.Pairs.{taken_at_hand}
use Rattle.btreearc_lines.proofs.entries.take_with_room.Goals as goal

pub returns : goal.returns
returns g c =
    let bytes = c.in-Ok.bytes.now in
    let after = c.in-Some-split_first.after.now in
    let rested = c.fill_buf.follows.lender-at-none in
    let filled = subst (FillKeeps _ (g.B.Read.remaining rested) (g.B.BufRead.consumable_len rested)) c.in-Ok.is c.fill_buf.follows.holds-at-none in
    let pair : PairFirst bytes c.in-Some.entry (10 ∷ after) = subst (PairFirst bytes c.in-Some.entry) (c.in-Some-split_first.ensures.cases.0 ∙ ap (λ (b : ℕ). b ∷ after) c.if-first-ne10.false) c.in-Some.ensures.found in
    let moved = Consumes_shown _ _ _ _ bytes (length bytes - length after) (omega arith) c.in-Ok.ensures.front c.in-Ok.ensures.end filled.0 filled.1 c.consume.ensures.bytes in
    taken_at_hand (g.B.Read.remaining c.args.input.now) (g.B.Read.remaining c.consume.new.self) bytes after c.in-Some.entry pair moved.0
