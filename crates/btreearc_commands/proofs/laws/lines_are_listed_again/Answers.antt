use Rattle.std.proofs.Common.{ℕ, Some, sym, subst}
use Rattle.btreearc_commands.specs.Commands.{Checks, total}
use Rattle.btreearc_lines.specs.Grammar.{lines}
use Rattle.btreearc_commands.specs.Sessions.{AlwaysPrints}
use Rattle.btreearc_commands.proofs.Again.{is_input, built_again}
use Rattle.btreearc_lines.proofs.Splitting.{entries-length}
use Rattle.btreearc_commands.proofs.laws.lines_are_listed_again.Goals as goal

pub returns-clause-archive : goal.returns-clause-archive
returns-clause-archive c heading text archive entries built = is_input heading text entries archive built

pub returns-clause-listed : goal.returns-clause-listed
returns-clause-listed c heading text archive entries built = c.archives_show_their_entries.ensures.listed archive entries (is_input heading text entries archive built)

pub returns-clause-counted : goal.returns-clause-counted
returns-clause-counted c heading text archive entries built =
    let ended = c.archives_show_their_entries.ensures.counted archive entries (is_input heading text entries archive built) in
    subst (λ (n : ℕ). AlwaysPrints (Checks (Some archive)) (total n) 0) (sym (entries-length (lines text) entries built.lines)) ended

pub returns-clause-built_again : goal.returns-clause-built_again
returns-clause-built_again c heading text archive entries built = built_again heading text entries archive built
