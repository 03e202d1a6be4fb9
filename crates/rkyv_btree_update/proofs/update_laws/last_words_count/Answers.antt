-- Each change does what `insert` and `remove` of std's map do.
use Rattle.rkyv_btree_update.proofs.Changed.{last_word_counts, sorted_updated}
use Rattle.rkyv_btree_update.proofs.update_laws.last_words_count.Goals as goal

pub returns-clause-lookups : goal.returns-clause-lookups
returns-clause-lookups g c m changes key increase rise = last_word_counts g.met.K.ViewOrd.total key changes m increase rise

pub returns-clause-increasing : goal.returns-clause-increasing
returns-clause-increasing g c m changes increase = sorted_updated g.met.K.ViewOrd.total m changes increase
