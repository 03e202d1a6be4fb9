-- Keys that increase are those of the native map.
use Rattle.btreearc_commands.proofs.Steady.{checked, built_checked, built_stays, migrated_checked, migrated_stays}
use Rattle.btreearc_commands.proofs.laws.strict_archives_stay.Goals as goal

pub returns-clause-checked : goal.returns-clause-checked
returns-clause-checked c archive entries is rise = checked c.one_list.ensures c.refused_is_no_archive.ensures c.neighbours_decide_order.ensures.never_both archive entries is rise

pub returns-clause-built_checked : goal.returns-clause-built_checked
returns-clause-built_checked c heading text archive entries is = built_checked c.one_list.ensures c.refused_is_no_archive.ensures c.neighbours_decide_order.ensures.never_both (λ entries rise. (c.last_values_count.ensures entries).stay rise) heading text entries archive is

pub returns-clause-built_stays : goal.returns-clause-built_stays
returns-clause-built_stays c heading text archive entries is = built_stays c.one_list.ensures c.refused_is_no_archive.ensures c.neighbours_decide_order.ensures.never_both (λ entries rise. (c.last_values_count.ensures entries).stay rise) heading text entries archive is

pub returns-clause-migrated_checked : goal.returns-clause-migrated_checked
returns-clause-migrated_checked c archive made entries other is = migrated_checked c.one_list.ensures c.refused_is_no_archive.ensures c.neighbours_decide_order.ensures.never_both (λ entries rise. (c.last_values_count.ensures entries).stay rise) (λ entries. (c.last_values_count.ensures entries).ascending) archive made is entries other.1

pub returns-clause-migrated_stays : goal.returns-clause-migrated_stays
returns-clause-migrated_stays c archive made is = migrated_stays c.one_list.ensures c.refused_is_no_archive.ensures c.neighbours_decide_order.ensures.never_both (λ entries rise. (c.last_values_count.ensures entries).stay rise) (λ entries. (c.last_values_count.ensures entries).ascending) archive made is
