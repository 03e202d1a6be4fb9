-- Words that name no command name none of these.
use Rattle.btreearc_lines.specs.declared.command.Command.TheVariants.{Build, List, Check, Get, Range, Set, BuildStrict, CheckStrict, Migrate}
use Rattle.btreearc_commands.proofs.program.run.Goals as goal

pub returns-in-None-clause-build : goal.returns-in-None-clause-build
returns-in-None-clause-build g c heading is = absurd (c.in-None.ensures.unnamed (Build heading) is)

pub returns-in-None-clause-list : goal.returns-in-None-clause-list
returns-in-None-clause-list g c is = absurd (c.in-None.ensures.unnamed List is)

pub returns-in-None-clause-check : goal.returns-in-None-clause-check
returns-in-None-clause-check g c is = absurd (c.in-None.ensures.unnamed Check is)

pub returns-in-None-clause-get : goal.returns-in-None-clause-get
returns-in-None-clause-get g c key is = absurd (c.in-None.ensures.unnamed (Get key) is)

pub returns-in-None-clause-range : goal.returns-in-None-clause-range
returns-in-None-clause-range g c low high is = absurd (c.in-None.ensures.unnamed (Range low high) is)

pub returns-in-None-clause-set : goal.returns-in-None-clause-set
returns-in-None-clause-set g c key value is = absurd (c.in-None.ensures.unnamed (Set key value) is)

pub returns-in-None-clause-build_strict : goal.returns-in-None-clause-build_strict
returns-in-None-clause-build_strict g c heading is = absurd (c.in-None.ensures.unnamed (BuildStrict heading) is)

pub returns-in-None-clause-check_strict : goal.returns-in-None-clause-check_strict
returns-in-None-clause-check_strict g c is = absurd (c.in-None.ensures.unnamed CheckStrict is)

pub returns-in-None-clause-migrate : goal.returns-in-None-clause-migrate
returns-in-None-clause-migrate g c is = absurd (c.in-None.ensures.unnamed Migrate is)
