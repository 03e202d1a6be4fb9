use Rattle.btreearc_commands.specs.Sessions.{with_value}
use Rattle.btreearc_commands.proofs.Replaced.{absent, set, set_in}
use Rattle.btreearc_commands.proofs.Ends.{known}
use Rattle.btreearc_commands.proofs.laws.set_values_are_listed.Goals as goal

pub returns-clause-absent : goal.returns-clause-absent
returns-clause-absent c archive entries is key value none =
    absent key value archive entries (known c.one_list.ensures c.refused_is_no_archive.ensures archive entries is) none

pub returns-clause-set : goal.returns-clause-set
returns-clause-set c archive entries is rise key value there =
    set key value archive entries (known c.one_list.ensures c.refused_is_no_archive.ensures archive entries is) rise there

pub returns-clause-listed : goal.returns-clause-listed
returns-clause-listed c archive made entries is rise key value run fit =
    c.archives_show_their_entries.ensures.listed made (with_value key value entries) (fit, set_in key value archive entries (known c.one_list.ensures c.refused_is_no_archive.ensures archive entries is) rise made run)
