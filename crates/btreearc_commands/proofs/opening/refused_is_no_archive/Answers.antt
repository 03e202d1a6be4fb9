use Rattle.btreearc_commands.specs.Opening.{root_of}
use Rattle.btreearc_commands.proofs.opening.refused_is_no_archive.Goals as goal

pub returns : goal.returns
returns c = λ b refusal entries refused archive.
    c.faults_are_exact.ensures.no_map b 0 (root_of b) (root_of b) archive.0 entries refusal refused archive.1
