use Rattle.btreekv_commands.proofs.building.archiving_is_lawful.Goals as goal

pub returns-clause-archived : goal.returns-clause-archived
returns-clause-archived g c = g.met.T.Archive.archived

pub returns-clause-causes : goal.returns-clause-causes
returns-clause-causes g c = g.met.T.Archive.causes
