use Rattle.std.proofs.Common.{refl}
use Rattle.btreearc_lines.specs.Grammar.{lines}
use Rattle.btreearc_commands.proofs.Spelling.{lines-of, spelled-of}
use Rattle.btreearc_commands.proofs.listing.one_behind_the_other.Goals as goal

pub returns : goal.returns
returns c bytes entries = ((λ h. spelled-of entries bytes (lines bytes) refl h), (λ h. lines-of entries bytes h))
