-- What was read up to a line feed is the first line.
use Rattle.std.proofs.Common.{◌≡◌, length, arith}
use Rattle.btreearc_lines.proofs.ReadingLines.{line_taken}
use Rattle.btreearc_lines.proofs.streams.read_line.Goals as goal

pub returns-clause-line : goal.returns-clause-line
returns-clause-line g c =
    let known = rw c.clear.ensures.items at c.in-Ok.ensures.bytes in
    let some : length c.read_until.new.buf.items ≡ 0 → ⊥ = λ none. c.if-count-eq0.false (omega (arith, c.in-Ok.ensures.ok, c.clear.ensures.len, c.read_until.new.buf.ok.0, none)) in
    line_taken (g.R.Read.remaining c.args.input.now) (g.R.Read.remaining c.read_until.new.self) c.read_until.new.buf.items c.remove_line_feed.new.line.items known c.in-Ok.ensures.rest some c.remove_line_feed.ensures
