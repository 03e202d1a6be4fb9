use Rattle.btreearc_commands.proofs.opening.tested_heading.Goals as goal

pub returns-in-Err-clause-never : goal.returns-in-Err-clause-never
returns-in-Err-clause-never c fit = absurd (c.in-Err.ensures.err.none fit.0 fit.1)
