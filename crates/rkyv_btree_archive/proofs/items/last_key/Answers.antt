use Rattle.std.specs.Option.{option_copied}
use Rattle.rkyv_btree_archive.proofs.Sources.{key_at_last}
use Rattle.rkyv_btree_archive.proofs.items.last_key.Goals as goal

pub returns-in-Some : goal.returns-in-Some
returns-in-Some g c = key_at_last (option_copied c.args.before) c.args.items.now c.in-Some.item.now c.in-Some.ensures.value
